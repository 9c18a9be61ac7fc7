-- The numbers that C gets stand for the sweep's answer, for the axis and the shape that its numbers name.
use mathlib.Core.Path.{◌≡◌, refl, subst}
use mathlib.Core.Bool.{true}
use mathlib.Core.List.{List}
use Prim.Native.Nat.{ℕ}
use lib.Ieee.{Float}
use lib.ListN.{length}
use Rattle.grid.specs.Causes.{grid_causes}
use Rattle.grid.specs.declared.DexelStockSpec.{DexelStockSpec}
use Rattle.frame.specs.declared.Axis.{Axis}
use Rattle.cutter.specs.declared.CutterShape.{CutterShape}
use Rattle.cutter.specs.declared.PreparedCutter.{PreparedCutter}
use Rattle.refusal.specs.Refusal.{Due}
use Rattle.sweep.specs.Answer.{setting_of, sweep_causes, SweepPost}
use Rattle.sweep_model.specs.SweepEntries.{Setting}
use Rattle.sweep.specs.declared.Totals.{Totals}
use Rattle.std.specs.Prelude.{Result}
use Rattle.refusal.specs.declared.Refusal.{Refusal}
use Rattle.c_results.specs.Numbers.{AnsweredBy, HandedAs, sweep_numbers}
use Rattle.c_results.proofs.Results.{is_given, answered, due-given}
use Rattle.store.specs.Store.{Cells}

pub sweep-given : (units : List ℕ) (s : Setting) (intervals : ℕ) (chords : List Float) (budget len k : ℕ)
    → Due (sweep_causes units s intervals chords budget len) k → is_given k ≡ true
unfolding grid_causes
sweep-given units s intervals chords budget len k =
    due-given (sweep_causes units s intervals chords budget len) k refl

module _ (spec : DexelStockSpec) (units : List ℕ) (c : Cells) (intervals : ℕ) (cutter : PreparedCutter)
    (guard : Float) (chords : List Float) (budget : ℕ) (log after : List Float) where
  abbrev Promise : Axis → CutterShape → Result Totals Refusal → Type 0
  Promise a h = SweepPost (sweep_causes units (setting_of spec a h cutter guard c) intervals chords budget (length log))
      (setting_of spec a h cutter guard c) intervals chords log after

  pub sweep-answered : (a b : Axis) (h k : CutterShape) (s : Result Totals Refusal) (r : ℕ) (x y : Totals) → a ≡ b → h ≡ k
      → Promise a h s → HandedAs sweep_numbers s r x y → AnsweredBy sweep_numbers (Promise b k) r x y
  sweep-answered a b h k s r x y e f p n =
      answered sweep_numbers (Promise b k) s r x y
      (subst (λ (z : Axis). Promise z k s) e (subst (λ (z : CutterShape). Promise a z s) f p)) n
