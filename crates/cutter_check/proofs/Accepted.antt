-- A tool within document 01's limits, whatever its shape: over the cutting part every section cuts, so that the neck
-- and the shank have no part in `cut_radius`.
use mathlib.Core.Path.{◌≡◌, refl, ap}
use mathlib.Core.Bool.{Bool, true, false, cond, false≢true}
use lib.Ieee.{Float, nan, inf, fin, of_bits, lt, le, eq}
use Rattle.doubles.specs.Constants.{million, plus_zero}
use Rattle.doubles.specs.Doubles.{Number, clamp_of}
use Rattle.logic.proofs.Bools.{and_left, and_right}
use Rattle.doubles.proofs.Order.{le_refl, le_trans, lt→le, le-number, le→not-lt, not-lt→le}
use Rattle.cutter.specs.declared.CutterShape.{CutterShape}
use Rattle.cutter.specs.declared.PreparedCutter.{PreparedCutter}
use Rattle.cutter.specs.declared.ProfileSlice.TheVariants.{Cutting}
use Rattle.cutter.specs.Cutter.{is_finite, off_tool, cutting_radius, radius_at, radius_of, cut_radius}
use Rattle.cutter.specs.Limits.{BadTool}
use Rattle.cutter.specs.Steps.{above_zero, lengths_fit, within_limits}
use Rattle.cutter.proofs.Limits.{good-tool, fit-cutting, fit-lengths}

finite-between : (x : Float) → le plus_zero x ≡ true → le x million ≡ true → is_finite x ≡ true
unfolding is_finite lt eq le of_bits
finite-between nan p q = absurd (false≢true p)
finite-between (inf true) p q = absurd (false≢true p)
finite-between (inf false) p q = absurd (false≢true q)
finite-between (fin s m e) p q = refl

-- where a clamp to a window ends
pub record Window (lo hi x : Float) : Type 0 where
  pub above : le lo x ≡ true
  pub below : le x hi ≡ true

pub clamped : (x lo hi : Float) → Number x → le lo hi ≡ true → Window lo hi (clamp_of x lo hi)
unfolding clamp_of
clamped x lo hi n h = go (lt x lo) (lt hi x) refl refl
  where
    go : (a b : Bool) → lt x lo ≡ a → lt hi x ≡ b → Window lo hi (cond a lo (cond b hi x))
    go true b p q = record { above = le_refl lo (le-number lo hi h).0; below = h }
    go false true p q = record { above = h; below = le_refl hi (le-number lo hi h).1 }
    go false false p q =
        record {
          above = not-lt→le x lo n (le-number lo hi h).0 p;
          below = not-lt→le hi x (le-number lo hi h).1 n q;
        }

pub section-cuts : (shape : CutterShape) (c : PreparedCutter) (z : Float) → lengths_fit c ≡ true
    → Window plus_zero c.cutting_length_mm z → radius_at shape c z ≡ Cutting (cutting_radius shape c z)
unfolding lengths_fit radius_at off_tool
section-cuts shape c z h w =
    let fits : le c.cutting_length_mm c.overall_length_mm ≡ true = and_left _ (le c.overall_length_mm million) h in
    let top : le z c.overall_length_mm ≡ true = le_trans _ _ _ w.below fits in
    let most : le z million ≡ true = le_trans _ _ _ top (and_right (le c.cutting_length_mm c.overall_length_mm) _ h) in
    rw (finite-between z w.above most, le→not-lt plus_zero z w.above, le→not-lt z c.overall_length_mm top, w.below)

-- for every shape, and for every height that is a number
pub cut-radius-cuts : (shape : CutterShape) (c : PreparedCutter) (h : Float) → (BadTool shape c → ⊥) → Number h
    → cut_radius shape c h ≡ cutting_radius shape c (clamp_of h plus_zero c.cutting_length_mm)
unfolding above_zero cut_radius
cut-radius-cuts shape c h good n =
    let fit : within_limits shape c ≡ true = good-tool shape c good in
    let length : le plus_zero c.cutting_length_mm ≡ true =
    lt→le _ _ (and_left _ (le c.cutting_length_mm million) (fit-cutting shape c fit)) in
    ap radius_of (section-cuts shape c _ (fit-lengths shape c fit) (clamped h plus_zero c.cutting_length_mm n length))
