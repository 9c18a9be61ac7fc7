-- The code's tests of a tool and document 01's clauses: a test fails exactly where one of its clauses holds. Assumes
-- nothing.
use mathlib.Core.Path.{◌≡◌, refl, sym, ap, subst}
use mathlib.Core.Logic.{inl, ⊎_elim}
use mathlib.Core.Bool.{true, false, ◌&&◌, true≢false}
use lib.Ieee.{Float, of_bits, le, is_nan}
use Rattle.doubles.specs.Constants.{million, millionth, plus_zero}
use Rattle.doubles.specs.Doubles.{Number}
use Rattle.doubles.specs.Ranges.{OutOf}
use Rattle.logic.proofs.Bools.{and_cases, and_left, and_right, not-true, not-false, by_cases, clash}
use Rattle.doubles.proofs.Order.{le-nan, not-le→lt, le→not-lt}
use Rattle.doubles.proofs.Ranges.{out_of, not-out, out-of-positive, not-out-positive}
use Rattle.cutter.specs.declared.CutterShape.{CutterShape}
use Rattle.cutter.specs.declared.CutterShape.TheVariants.{Flat, Ball, Bull, Drill, Chamfer, Beam, Probe, Lollipop, Dovetail}
use Rattle.cutter.specs.declared.PreparedCutter.{PreparedCutter}
use Rattle.cutter.specs.Limits.{BadTool, diameter_out, cutting_length_out, radius_out, tip_height_out, slope_out}
use Rattle.cutter.specs.Limits.{shoulder_out, corner_out, drill_angle_out, chamfer_angle_out, chamfer_tip_out}
use Rattle.cutter.specs.Limits.{dovetail_angle_out, overall_length_out, dovetail_slope_low, neck_nan, shank_nan}
use Rattle.cutter.specs.Steps.{above_zero, from_zero, is_not_nan, sizes_fit, heights_fit, lengths_fit, diameters_fit, shape_fits}
use Rattle.cutter.specs.Steps.{within_limits, is_beam}

-- ---- the beam

pub is_beam→beam : (shape : CutterShape) → is_beam shape ≡ true → shape ≡ Beam
unfolding is_beam
is_beam→beam Flat h = absurd (true≢false (sym h))
is_beam→beam Ball h = absurd (true≢false (sym h))
is_beam→beam (Bull corner) h = absurd (true≢false (sym h))
is_beam→beam (Drill angle) h = absurd (true≢false (sym h))
is_beam→beam (Chamfer angle tip) h = absurd (true≢false (sym h))
is_beam→beam Beam h = refl
is_beam→beam Probe h = absurd (true≢false (sym h))
is_beam→beam Lollipop h = absurd (true≢false (sym h))
is_beam→beam (Dovetail angle) h = absurd (true≢false (sym h))

pub beam→is_beam : (shape : CutterShape) → shape ≡ Beam → is_beam shape ≡ true
unfolding is_beam
beam→is_beam shape e = ap is_beam e

-- ---- the limits

millionth-number : Number millionth
unfolding of_bits is_nan
millionth-number = refl

module _ (shape : CutterShape) (c : PreparedCutter) where
  sizes-bad : sizes_fit c ≡ false → BadTool shape c
  unfolding sizes_fit above_zero
  sizes-bad h =
      ⊎_elim (λ k. diameter_out (out-of-positive million c.diameter_mm k))
      (λ k. ⊎_elim (λ k. cutting_length_out (out-of-positive million c.cutting_length_mm k))
      (λ k. radius_out (out-of-positive million c.radius k))
      (and_cases _ _ k)) (and_cases _ _ h)

  heights-bad : heights_fit c ≡ false → BadTool shape c
  unfolding heights_fit from_zero
  heights-bad h =
      ⊎_elim (λ k. tip_height_out (out_of plus_zero million c.tip_height k))
      (λ k. ⊎_elim (λ k. slope_out (out_of plus_zero million c.slope k))
      (λ k. shoulder_out (out_of plus_zero million c.shoulder k))
      (and_cases _ _ k)) (and_cases _ _ h)

  lengths-bad : lengths_fit c ≡ false → BadTool shape c
  unfolding lengths_fit
  lengths-bad h = overall_length_out (out_of c.cutting_length_mm million c.overall_length_mm h)

  diameters-bad : diameters_fit c ≡ false → BadTool shape c
  unfolding diameters_fit is_not_nan
  diameters-bad h = ⊎_elim (λ k. neck_nan (not-false _ k)) (λ k. shank_nan (not-false _ k)) (and_cases _ _ h)

  -- a slope that is a NaN is outside its own range
  steep-bad : (angle : Float) → shape ≡ Dovetail angle → le millionth c.slope ≡ false → BadTool shape c
  unfolding OutOf
  steep-bad angle e h =
      ⊎_elim (λ n. slope_out (inl (le-nan plus_zero c.slope n)))
      (λ n. dovetail_slope_low angle e (not-le→lt millionth c.slope millionth-number n h)) (by_cases (is_nan c.slope))

  shape-bad : (s : CutterShape) → shape ≡ s → shape_fits s c.slope ≡ false → BadTool shape c
  unfolding shape_fits from_zero
  shape-bad Flat e h = absurd (true≢false h)
  shape-bad Ball e h = absurd (true≢false h)
  shape-bad (Bull corner) e h = corner_out corner e (out_of plus_zero million corner h)
  shape-bad (Drill angle) e h = drill_angle_out angle e (out_of plus_zero million angle h)
  shape-bad (Chamfer angle tip) e h =
      ⊎_elim (λ k. chamfer_angle_out angle tip e (out_of plus_zero million angle k))
      (λ k. chamfer_tip_out angle tip e (out_of plus_zero million tip k)) (and_cases _ _ h)
  shape-bad Beam e h = absurd (true≢false h)
  shape-bad Probe e h = absurd (true≢false h)
  shape-bad Lollipop e h = absurd (true≢false h)
  shape-bad (Dovetail angle) e h =
      ⊎_elim (λ k. dovetail_angle_out angle e (out_of plus_zero million angle k)) (λ k. steep-bad angle e k) (and_cases _ _ h)

  pub unfit-tool : within_limits shape c ≡ false → BadTool shape c
  unfolding within_limits
  unfit-tool h =
      ⊎_elim sizes-bad
      (λ k. ⊎_elim heights-bad
      (λ k. ⊎_elim lengths-bad
      (λ k. ⊎_elim diameters-bad (shape-bad shape refl)
      (and_cases _ _ k)) (and_cases _ _ k)) (and_cases _ _ k)) (and_cases _ _ h)

  module _ (h : within_limits shape c ≡ true) where
    sizes : sizes_fit c ≡ true
    unfolding within_limits
    sizes = and_left (sizes_fit c) _ h

    pub fit-cutting : above_zero c.cutting_length_mm ≡ true
    unfolding sizes_fit
    fit-cutting = and_left (above_zero c.cutting_length_mm) _ (and_right (above_zero c.diameter_mm) _ sizes)

    heights : heights_fit c ≡ true
    unfolding within_limits
    heights = and_left (heights_fit c) _ (and_right (sizes_fit c) _ h)

    pub fit-lengths : lengths_fit c ≡ true
    unfolding within_limits
    fit-lengths = and_left (lengths_fit c) _ (and_right (heights_fit c) _ (and_right (sizes_fit c) _ h))

    last : (diameters_fit c && shape_fits shape c.slope) ≡ true
    unfolding within_limits
    last = and_right (lengths_fit c) _ (and_right (heights_fit c) _ (and_right (sizes_fit c) _ h))

    diameters : diameters_fit c ≡ true
    diameters = and_left (diameters_fit c) _ last

    own : (s : CutterShape) → shape ≡ s → shape_fits s c.slope ≡ true
    own s e = subst (λ (t : CutterShape). shape_fits t c.slope ≡ true) e (and_right (diameters_fit c) _ last)

    pub fit-tool : BadTool shape c → ⊥
    unfolding sizes_fit heights_fit lengths_fit diameters_fit shape_fits above_zero from_zero is_not_nan
    fit-tool (diameter_out o) = not-out-positive million c.diameter_mm (and_left (above_zero c.diameter_mm) _ sizes) o
    fit-tool (cutting_length_out o) = not-out-positive million c.cutting_length_mm fit-cutting o
    fit-tool (radius_out o) = not-out-positive million c.radius
        (and_right (above_zero c.cutting_length_mm) _ (and_right (above_zero c.diameter_mm) _ sizes)) o
    fit-tool (tip_height_out o) = not-out plus_zero million c.tip_height (and_left (from_zero c.tip_height) _ heights) o
    fit-tool (slope_out o) = not-out plus_zero million c.slope
        (and_left (from_zero c.slope) _ (and_right (from_zero c.tip_height) _ heights)) o
    fit-tool (shoulder_out o) = not-out plus_zero million c.shoulder
        (and_right (from_zero c.slope) _ (and_right (from_zero c.tip_height) _ heights)) o
    fit-tool (corner_out corner e o) = not-out plus_zero million corner (own (Bull corner) e) o
    fit-tool (drill_angle_out angle e o) = not-out plus_zero million angle (own (Drill angle) e) o
    fit-tool (chamfer_angle_out angle tip e o) =
        not-out plus_zero million angle (and_left (from_zero angle) _ (own (Chamfer angle tip) e)) o
    fit-tool (chamfer_tip_out angle tip e o) = not-out plus_zero million tip (and_right (from_zero angle) _ (own (Chamfer angle tip) e)) o
    fit-tool (dovetail_angle_out angle e o) = not-out plus_zero million angle (and_left (from_zero angle) _ (own (Dovetail angle) e)) o
    fit-tool (overall_length_out o) = not-out c.cutting_length_mm million c.overall_length_mm fit-lengths o
    fit-tool (dovetail_slope_low angle e o) =
        clash _ o (le→not-lt millionth c.slope (and_right (from_zero angle) _ (own (Dovetail angle) e)))
    fit-tool (neck_nan o) = clash _ o (not-true _ (and_left (is_not_nan c.neck_diameter_mm) _ diameters))
    fit-tool (shank_nan o) = clash _ o (not-true _ (and_right (is_not_nan c.neck_diameter_mm) _ diameters))

  pub bad-tool : BadTool shape c → within_limits shape c ≡ false
  bad-tool b = ⊎_elim (λ h. absurd (fit-tool h b)) (λ h. h) (by_cases (within_limits shape c))

  pub good-tool : (BadTool shape c → ⊥) → within_limits shape c ≡ true
  good-tool n = ⊎_elim (λ h. h) (λ h. absurd (n (unfit-tool h))) (by_cases (within_limits shape c))
