-- The answers of the check of a setting, of a walk to its end, and of the sweep, by their causes.
use mathlib.Core.Path.{◌≡◌, refl, sym, ap, subst, ◌∙◌}
use mathlib.Core.Bool.{Bool, true, false, not, cond, ◌||◌}
use mathlib.Core.List.{List, [], ◌∷◌, ◌++◌}
use mathlib.Core.Logic.{◌⊎◌, inl, inr}
use Prim.Native.Nat.{ℕ, ◌+◌, ◌-◌, ◌%◌, ◌≤◌}
use native.Mathlib.Omega.{arith}
use lib.Dec.{eqb}
use lib.Ieee.{Float}
use lib.ListN.{length, take, replicate}
use lib.Seq.{length-take-le}
use Rattle.doubles.specs.Constants.{plus_zero}
use Rattle.logic.proofs.Bools.{clash, not-true}
use Rattle.std.specs.Prelude.{Result, Ok, Err}
use Rattle.refusal.specs.Refusal.{Cause, cause, Due, NoneDue, number_of}
use Rattle.refusal.specs.declared.Refusal.{Refusal}
use Rattle.refusal.specs.declared.Refusal.TheVariants.{ShortBuffer, Unsound, Chord}
use Rattle.refusal.proofs.Laws.{first, later}
use Rattle.grid.specs.FromSpec.{grid_of}
use Rattle.grid.specs.Causes.{grid_causes, grid_in}
use Rattle.grid.specs.declared.DexelStockSpec.{DexelStockSpec}
use Rattle.grid.specs.declared.DexelGrid.{DexelGrid}
use Rattle.frame.specs.declared.Frame.{Frame}
use Rattle.cutter.specs.Limits.{tool_causes}
use Rattle.stock.specs.Stock.{SoundCells, is_short}
use Rattle.stock.proofs.Causes.{due-first, due-second, none-in-both, room_of}
use Rattle.stock.proofs.Rays.{sound-chained}
use Rattle.stock.proofs.Answers.{accepted, refused}
use Rattle.sweep_model.specs.declared.Kernel.{Kernel}
use Rattle.sweep_model.specs.declared.Profile.{Profile}
use Rattle.sweep_model.specs.Walk.{Stop}
use Rattle.sweep_visits.specs.declared.VisitCursor.{VisitCursor}
use Rattle.sweep.specs.declared.Totals.{Totals}
use Rattle.sweep_visits.proofs.Walks.{walk-done, walk-stop, stop_is, done-no-stop}
use Rattle.sweep_model.specs.ChordLimits.{BadChords}
use Rattle.sweep_model.specs.SweepEntries.{Setting, setting, sweep_entries, log_of}
use Rattle.sweep.specs.Answer.{SweepInputBad, setting_causes, walk_of, visit_causes, causes_in, sweep_causes, refused_log, SweepPost}
use Rattle.sweep_walk.proofs.Chords.{sweep-length, log-length}
use Rattle.logic.specs.Logic.{Decides}
use Rattle.sweep_visits.specs.Steps.{WalkPost}
use Rattle.cutter_check.specs.Steps.{ToolCheckPost}
use Rattle.grid.specs.Facts.{GridFacts}
use Rattle.sweep.specs.Steps.{SweepCheckPost, end_of, logged_by, end_log}
use Rattle.store.specs.Store.{Cells}

-- ---- the check of a setting
-- what has passed where the tool is tested
pub record StockPassed (s : Setting) (intervals : ℕ) (chords : List Float) : Type 0 where
  pub long : is_short s.spec s.grid s.cells ≡ false
  pub input : (length chords % 8 ≡ 0) × SoundCells s.spec s.grid s.cells intervals

-- the answer of the last test, that of the chords
abbrev pub admit_if : Bool → Result (Unit {0}) Refusal
admit_if true = Ok tt
admit_if false = Err Chord

module _ (s : Setting) (intervals : ℕ) (chords : List Float) where
  abbrev chord_causes : List Cause
  chord_causes = cause 7 (BadChords s.kernel.frame s.kernel.guard chords) ∷ []

  pub check-short : is_short s.spec s.grid s.cells ≡ true → SweepCheckPost s intervals chords (Err ShortBuffer)
  check-short h = first _ _ h

  module _ (l : is_short s.spec s.grid s.cells ≡ false) where
    not_short : is_short s.spec s.grid s.cells ≡ true → ⊥
    not_short u = clash (is_short s.spec s.grid s.cells) u l

    pub check-odd : (length chords % 8 ≡ 0 → ⊥) → SweepCheckPost s intervals chords (Err Unsound)
    check-odd h = let bad : SweepInputBad s intervals chords = unfold SweepInputBad in inl h in later _ _ 11 not_short (first _ _ bad)

    pub check-bad : (SoundCells s.spec s.grid s.cells intervals → ⊥) → SweepCheckPost s intervals chords (Err Unsound)
    check-bad h = let bad : SweepInputBad s intervals chords = unfold SweepInputBad in inr h in later _ _ 11 not_short (first _ _ bad)

  module _ (p : StockPassed s intervals chords) where
    fine : SweepInputBad s intervals chords → ⊥
    unfolding SweepInputBad
    fine (inl h) = h p.input.0
    fine (inr h) = h p.input.1

    pub check-tool-bad : (e : Refusal) → ToolCheckPost s.profile.shape s.profile.cutter (Err e) → SweepCheckPost s intervals chords (Err e)
    check-tool-bad e d =
        later _ _ (number_of e) (not_short p.long) (later _ _ (number_of e) fine
        (due-first (tool_causes s.profile.shape s.profile.cutter) chord_causes (number_of e) d))

    pub check-chords : GridFacts s.spec s.grid → ToolCheckPost s.profile.shape s.profile.cutter (Ok tt)
        → (q good : Bool) → Decides (BadChords s.kernel.frame s.kernel.guard chords) (not q) → q ≡ good
        → SweepCheckPost s intervals chords (admit_if good)
    unfolding NoneDue
    check-chords facts tool q false f n =
        later _ _ 7 (not_short p.long) (later _ _ 7 fine
        (due-second (tool_causes s.profile.shape s.profile.cutter) chord_causes 7 tool (first _ _ (f.0 (ap not n)))))
    check-chords facts tool q true f y = (
      (
        not_short p.long,
        (
          fine,
          none-in-both (tool_causes s.profile.shape s.profile.cutter) chord_causes tool (
            (λ (bad : BadChords s.kernel.frame s.kernel.guard chords). clash q y (not-true q (f.1 bad))),
            tt,
          ),
        ),
      ),
      record {
        facts = facts;
        chained = sound-chained s.spec s.grid s.cells intervals
            (room_of s.spec s.grid s.cells p.long) p.input.1;
        valid = p.input.1.valid;
      },
      p.input.1,
    )

-- ---- the log after a refusal
module _ (k : ℕ) (log : List Float) where
  kept : (n : ℕ) → k ≡ n → (eqb n 8 || eqb n 16) ≡ false → log ≡ refused_log k log
  unfolding refused_log
  kept n e h = sym (ap (λ (b : Bool). cond b (replicate (length log) plus_zero) log) (ap (λ (m : ℕ). eqb m 8 || eqb m 16) e ∙ h))

  setting_kept : (s : Setting) (intervals : ℕ) (chords : List Float) → Due (setting_causes s intervals chords) k → log ≡ refused_log k log
  unfolding Due
  setting_kept s intervals chords (inl d) = kept 12 d.1 refl
  setting_kept s intervals chords (inr (n, inl d)) = kept 11 d.1 refl
  setting_kept s intervals chords (inr (n, inr (m, inl d))) = kept 5 d.1 refl
  setting_kept s intervals chords (inr (n, inr (m, inr (o, inl d)))) = kept 6 d.1 refl
  setting_kept s intervals chords (inr (n, inr (m, inr (o, inr (p, inl d))))) = kept 7 d.1 refl
  setting_kept s intervals chords (inr (n, inr (m, inr (o, inr (p, inr (q, d)))))) = absurd d

  grid-kept : (spec : DexelStockSpec) (units : List ℕ) → Due (grid_causes spec units) k → log ≡ refused_log k log
  unfolding Due grid_causes
  grid-kept spec units (inl d) = kept 1 d.1 refl
  grid-kept spec units (inr (n, inl d)) = kept 2 d.1 refl
  grid-kept spec units (inr (n, inr (m, inl d))) = kept 3 d.1 refl
  grid-kept spec units (inr (n, inr (m, inr (o, d)))) = absurd d

  cleared : (k ≡ 8) ⊎ (k ≡ 16) → replicate (length log) plus_zero ≡ refused_log k log
  unfolding refused_log
  cleared (inl e) = sym (ap (λ (m : ℕ). cond (eqb m 8 || eqb m 16) (replicate (length log) plus_zero) log) e)
  cleared (inr e) = sym (ap (λ (m : ℕ). cond (eqb m 8 || eqb m 16) (replicate (length log) plus_zero) log) e)

-- ---- the end of a walk
pub end_is : (x y : Result VisitCursor Refusal) (r : Result Totals Refusal) (log after : List Float) → x ≡ y → r ≡ end_of y
    → after ≡ end_log y log
    → (r ≡ end_of x) × (after ≡ end_log x log)
end_is x y r log after e h k = subst (λ (z : Result VisitCursor Refusal). (r ≡ end_of z) × (after ≡ end_log z log)) (sym e) (h, k)

pub logged-room : (budget : ℕ) (rays : List (List Float)) (c : VisitCursor) (log after : List Float) (x : Result VisitCursor Refusal)
    → WalkPost budget rays c log x after → logged_by x ≤ length after
logged-room budget rays c log after (Ok d) w = w.room
logged-room budget rays c log after (Err e) w = omega arith

pub logged-at : (x : Result VisitCursor Refusal) (c : VisitCursor) (n : ℕ) → x ≡ Ok c → logged_by x ≤ n → c.at ≤ n
logged-at x c n e h = subst (λ (y : Result VisitCursor Refusal). logged_by y ≤ n) e h

module _ (s : Setting) (chords : List Float) (budget : ℕ) (log mid : List Float) where
  abbrev origin : VisitCursor
  origin = record { visits = 0; at = 0 }

  visit-due : (k : ℕ) → walk_of s chords budget (length log) ≡ Stop k → (k ≡ 8) ⊎ (k ≡ 16)
      → Due (visit_causes s chords budget (length log)) k
  visit-due k h (inl e) = subst (Due (visit_causes s chords budget (length log))) (sym e) (first _ _ (h ∙ ap Stop e))
  visit-due k h (inr e) =
      subst (Due (visit_causes s chords budget (length log))) (sym e)
      (later _ _ 16 (λ (q : walk_of s chords budget (length log) ≡ Stop 8). apart (stop_is _ 8 16 q (h ∙ ap Stop e)))
      (first _ _ (h ∙ ap Stop e)))
    where
      apart : ◌≡◌ {A = ℕ} 8 16 → ⊥
      apart z = omega arith

  pub visit-answer : (intervals : ℕ) → SoundCells s.spec s.grid s.cells intervals → (x : Result VisitCursor Refusal)
      → WalkPost budget (sweep_entries s chords) origin log x mid
      → SweepPost (visit_causes s chords budget (length log)) s intervals chords log (end_log x mid) (end_of x)
  unfolding NoneDue log_of
  visit-answer intervals is_sound (Err e) w =
      let k = number_of e in
      let o = walk-stop budget (length log) (sweep_entries s chords) 0 [] k w.walked in
      let z : length mid - 0 ≡ length mid = omega arith in
      (visit-due k w.walked o, ap (λ (n : ℕ). replicate n plus_zero) (z ∙ w.same) ∙ cleared k log o)
  visit-answer intervals is_sound (Ok d) w =
      let r = walk-done budget (length log) (sweep_entries s chords) 0 [] d.visits (take d.at mid) w.walked in
      let l : length (log_of s chords) ≡ d.at = sym (ap length r.1) ∙ length-take-le d.at mid w.room in
      let z : 0 + length (sweep_entries s chords) ≡ length (sweep_entries s chords) = omega arith in (
        (
          (λ (q : walk_of s chords budget (length log) ≡ Stop 8). done-no-stop _ d.visits 8 (take d.at mid)
              w.walked q),
          (
            (λ (q : walk_of s chords budget (length log) ≡ Stop 16). done-no-stop _ d.visits 16
                (take d.at mid) w.walked q),
            tt,
          ),
        ),
        record {
          is_sound = is_sound;
          entries = omega (arith, l, log-length s chords);
          visits = r.0 ∙ z ∙ sweep-length s chords;
          log = ap (λ (m : List Float). m ++ replicate (length mid - d.at) plus_zero) r.1
              ∙ ap (λ (n : ℕ). log_of s chords ++ replicate n plus_zero)
              (ap (λ (n : ℕ). n - d.at) w.same ∙ ap (λ (n : ℕ). length log - n) (sym l));
        },
      )

-- ---- the sweep over a grid that is accepted
module _ (s : Setting) (intervals : ℕ) (chords : List Float) (budget : ℕ) (log : List Float) where
  pub grid-declined : (e : Refusal) → SweepCheckPost s intervals chords (Err e)
      → SweepPost (causes_in s intervals chords budget (length log)) s intervals chords log log (Err e)
  grid-declined e d = (
    due-first (setting_causes s intervals chords) (visit_causes s chords budget (length log)) (number_of e) d,
    setting_kept (number_of e) log s intervals chords d,
  )

  after-setting : (after : List Float) (r : Result Totals Refusal) → NoneDue (setting_causes s intervals chords)
      → SweepPost (visit_causes s chords budget (length log)) s intervals chords log after r
      → SweepPost (causes_in s intervals chords budget (length log)) s intervals chords log after r
  after-setting after (Err e) n f =
      (due-second (setting_causes s intervals chords) (visit_causes s chords budget (length log)) (number_of e) n f.0, f.1)
  after-setting after (Ok t) n f =
      (none-in-both (setting_causes s intervals chords) (visit_causes s chords budget (length log)) n f.0, f.1)

  pub grid-swept : (x : Result VisitCursor Refusal) (mid after : List Float) (r : Result Totals Refusal)
      → SweepCheckPost s intervals chords (Ok tt)
      → WalkPost budget (sweep_entries s chords) (record { visits = 0; at = 0 }) log x mid
      → (r ≡ end_of x) × (after ≡ end_log x mid)
      → SweepPost (causes_in s intervals chords budget (length log)) s intervals chords log after r
  grid-swept x mid after r c w e =
      after-setting after r c.0
      (subst (λ (y : Result Totals Refusal). SweepPost (visit_causes s chords budget (length log)) s intervals chords log after y)
      (sym e.0)
      (subst (λ (l : List Float). SweepPost (visit_causes s chords budget (length log)) s intervals chords log l (end_of x)) (sym e.1)
      (visit-answer s chords budget log mid intervals c.2 x w)))

-- ---- the sweep
module _ (spec : DexelStockSpec) (units : List ℕ) (k : Kernel) (p : Profile) (c : Cells) (intervals : ℕ)
    (chords : List Float) (budget : ℕ) (log : List Float) where
  abbrev here : Setting
  here = setting spec (grid_in spec) k p c

  pub sweep-refused : (e : Refusal) → grid_of spec units ≡ Err e
      → SweepPost (sweep_causes units here intervals chords budget (length log)) here intervals chords log log (Err e)
  sweep-refused e h =
      let d = refused spec units e h in (
        due-first (grid_causes spec units) (causes_in here intervals chords budget (length log)) (number_of e) d,
        grid-kept (number_of e) log spec units d,
      )

  after-grid : (after : List Float) (r : Result Totals Refusal) → NoneDue (grid_causes spec units)
      → SweepPost (causes_in here intervals chords budget (length log)) here intervals chords log after r
      → SweepPost (sweep_causes units here intervals chords budget (length log)) here intervals chords log after r
  after-grid after (Err e) a f =
      (due-second (grid_causes spec units) (causes_in here intervals chords budget (length log)) (number_of e) a f.0, f.1)
  after-grid after (Ok t) a f =
      (none-in-both (grid_causes spec units) (causes_in here intervals chords budget (length log)) a f.0, f.1)

  pub sweep-accepted : (g : DexelGrid) (after : List Float) (r : Result Totals Refusal) → grid_of spec units ≡ Ok g
      → SweepPost (causes_in (setting spec g k p c) intervals chords budget (length log))
      (setting spec g k p c) intervals chords log after r
      → SweepPost (sweep_causes units here intervals chords budget (length log)) here intervals chords log after r
  sweep-accepted g after r h f =
      let a = accepted spec units g h in
      after-grid after r a.0
      (subst (λ (x : DexelGrid). SweepPost (causes_in (setting spec x k p c) intervals chords budget (length log))
      (setting spec x k p c) intervals chords log after r) a.1 f)

-- the same frame and the same profile give the same answer
module _ (spec : DexelStockSpec) (units : List ℕ) (c : Cells) (intervals : ℕ) (guard : Float) (chords : List Float)
    (budget : ℕ) (log after : List Float) (r : Result Totals Refusal) where
  abbrev with : Frame → Profile → Setting
  with f p = setting spec (grid_in spec) (record { frame = f; guard = guard }) p c

  abbrev SweptWith : Frame → Profile → Type 0
  SweptWith f p = SweepPost (sweep_causes units (with f p) intervals chords budget (length log)) (with f p) intervals chords log after r

  pub same-tool : (f h : Frame) (p q : Profile) → f ≡ h → p ≡ q → SweptWith f p → SweptWith h q
  same-tool f h p q e k t = subst (λ (x : Frame). SweptWith x q) e (subst (SweptWith f) k t)
