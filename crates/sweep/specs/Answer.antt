-- What a sweep answers, and what it leaves in the log.
use Rattle.std.specs.Prelude.{◌≡◌, true, cond, ◌||◌, List, [], ◌∷◌, ◌++◌, ◌⊎◌, ℕ, ◌-◌, ◌%◌, eqb, Float, length, replicate, Result, Ok, Err}
use Rattle.doubles.specs.Constants.{plus_zero}
use Rattle.refusal.specs.Refusal.{Cause, cause, Due, NoneDue, number_of}
use Rattle.refusal.specs.declared.Refusal.{Refusal}
use Rattle.grid.specs.Causes.{grid_causes, grid_in}
use Rattle.grid.specs.declared.DexelStockSpec.{DexelStockSpec}
use Rattle.frame.specs.Frame.{frame_of}
use Rattle.frame.specs.declared.Axis.{Axis}
use Rattle.cutter.specs.Limits.{tool_causes}
use Rattle.cutter.specs.declared.CutterShape.{CutterShape}
use Rattle.cutter.specs.declared.PreparedCutter.{PreparedCutter}
use Rattle.stock.specs.Stock.{SoundCells, is_short}
use Rattle.sweep_model.specs.Kernel.{profile_of}
use Rattle.sweep_model.specs.Entries.{logged_entries}
use Rattle.sweep_model.specs.Walk.{Walked, Stop, walk}
use Rattle.sweep_model.specs.ChordLimits.{BadChords}
use Rattle.sweep_model.specs.SweepEntries.{Setting, setting, sweep_entries, log_of, visit_total}
use Rattle.sweep.specs.declared.Totals.{Totals}
use Rattle.store.specs.Store.{Cells}

-- the setting that the arguments of a sweep describe
abbrev pub setting_of : DexelStockSpec → Axis → CutterShape → PreparedCutter → (guard : Float) → Cells → Setting
setting_of spec axis shape cutter guard c =
    setting spec (grid_in spec) (record { frame = frame_of axis; guard = guard }) (profile_of shape cutter) c

-- 11: chords with part of one over, or a store that is not sound
unfoldable pub SweepInputBad : Setting → (intervals : ℕ) → (chords : List Float) → Type 0
SweepInputBad s intervals chords = (length chords % 8 ≡ 0 → ⊥) ⊎ (SoundCells s.spec s.grid s.cells intervals → ⊥)

-- document 01's order once `grid` accepts: 12, 11, 5, 6, 7
abbrev pub setting_causes : Setting → (intervals : ℕ) → (chords : List Float) → List Cause
setting_causes s intervals chords =
    cause 12 (is_short s.spec s.grid s.cells ≡ true)
    ∷ cause 11 (SweepInputBad s intervals chords)
    ∷ (tool_causes s.profile.shape s.profile.cutter
    ++ (cause 7 (BadChords s.kernel.frame s.kernel.guard chords) ∷ []))

-- the walk over all rays, with a log of `len` cells
abbrev pub walk_of : Setting → (chords : List Float) → (budget len : ℕ) → Walked
walk_of s chords budget len = walk budget len (sweep_entries s chords) 0 []

-- then per visit 8 before 16
abbrev pub visit_causes : Setting → (chords : List Float) → (budget len : ℕ) → List Cause
visit_causes s chords budget len = cause 8 (walk_of s chords budget len ≡ Stop 8) ∷ cause 16 (walk_of s chords budget len ≡ Stop 16) ∷ []

abbrev pub causes_in : Setting → (intervals : ℕ) → (chords : List Float) → (budget len : ℕ) → List Cause
causes_in s intervals chords budget len = setting_causes s intervals chords ++ visit_causes s chords budget len

-- document 01's order for the sweep: 1 to 3 first
abbrev pub sweep_causes : (units : List ℕ) → Setting → (intervals : ℕ) → (chords : List Float) → (budget len : ℕ) → List Cause
sweep_causes units s intervals chords budget len = grid_causes s.spec units ++ causes_in s intervals chords budget len

-- 8 and 16 leave the log all zero, every other refusal leaves it untouched
unfoldable pub refused_log : ℕ → List Float → List Float
refused_log k log = cond (eqb k 8 || eqb k 16) (replicate (length log) plus_zero) log

-- an accepted sweep: its store is sound; the number of entries and the visit total; the entries in order and zeros past them
pub record SweepLogged (s : Setting) (intervals : ℕ) (chords before after : List Float) (t : Totals) : Type 0 where
  pub is_sound : SoundCells s.spec s.grid s.cells intervals
  pub entries : t.entries ≡ logged_entries (sweep_entries s chords)
  pub visits : t.visits ≡ visit_total s chords
  pub log : after ≡ log_of s chords ++ replicate (length before - length (log_of s chords)) plus_zero

-- a refused call gives the number that is due
abbrev pub SweepPost : List Cause → Setting → (intervals : ℕ) → (chords before after : List Float) → Result Totals Refusal → Type 0
SweepPost causes s intervals chords before after (Err e) = Due causes (number_of e) × (after ≡ refused_log (number_of e) before)
SweepPost causes s intervals chords before after (Ok t) = NoneDue causes × SweepLogged s intervals chords before after t
