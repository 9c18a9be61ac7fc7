-- The two axes of a chord, and chord after chord; and how many rays that makes.
use Rattle.std.specs.Prelude.{Result, Ok, Err}
use Rattle.refusal.specs.declared.Refusal.{Refusal}
use mathlib.Core.Path.{◌≡◌, ap, subst, ◌∙◌}
use mathlib.Core.List.{List, ◌++◌}
use Prim.Native.Nat.{ℕ, ◌+◌, ◌-◌, ◌*◌, ◌/◌, ◌≤◌, ◌<◌}
use native.Mathlib.Omega.{arith}
use lib.Ieee.{Float}
use lib.ListN.{length, length-append}
use Rattle.grid.specs.declared.WorldAxis.{WorldAxis}
use Rattle.sweep_model.specs.declared.Chord.{Chord}
use Rattle.sweep_model.specs.Entries.{each, ray_entry, rays_in, logged_entries}
use Rattle.sweep_visits.specs.declared.VisitCursor.{VisitCursor}
use Rattle.sweep_visits.proofs.Walks.{went_then, went-halt, halt-before, Sweeping, sweeping-next, sweeping-halt, sweeping-all}
use Rattle.sweep_visits.proofs.Walks.{each-length, sum_same, rectangle-length, Sixes, sixes-append, sixes-each, rectangle-sixes}
use Rattle.sweep_visits.proofs.Walks.{sixes-count}
use Rattle.sweep_model.specs.SweepEntries.{Setting, axis_rays_of, chord_on_axis_in, rectangle_in, axis_entries, first_axis, second_axis}
use Rattle.sweep_model.specs.SweepEntries.{chord_entries, chord_in, sweep_entries, log_of, chord_visits, visit_total}
use Rattle.sweep_visits.specs.Steps.{WalkPost, Went, Halted}

-- the log keeps its length
pub logged-same : (budget : ℕ) (rays : List (List Float)) (c : VisitCursor) (log after : List Float) (x : Result VisitCursor Refusal)
    → WalkPost budget rays c log x after → length after ≡ length log
logged-same budget rays c log after (Ok d) w = w.same
logged-same budget rays c log after (Err k) w = w.same

-- ---- one chord
module _ {budget : ℕ} (s : Setting) (c : Chord) {start : VisitCursor} {log : List Float} where
  pub first-halts : {k : ℕ} {after : List Float} (a : WorldAxis) → a ≡ first_axis s.kernel.frame
      → Halted budget (axis_entries s c a) start log k after → Halted budget (chord_entries s c) start log k after
  unfolding chord_entries
  first-halts {k} {after} a e h =
      halt-before (axis_entries s c (second_axis s.kernel.frame))
      (subst (λ (x : WorldAxis). Halted budget (axis_entries s c x) start log k after) e h)

  pub both-walked : {d : VisitCursor} {mid : List Float} (after : List Float) (x : Result VisitCursor Refusal) (a b : WorldAxis)
      → a ≡ first_axis s.kernel.frame → b ≡ second_axis s.kernel.frame
      → Went budget (axis_entries s c a) start log d mid → WalkPost budget (axis_entries s c b) d mid x after
      → WalkPost budget (chord_entries s c) start log x after
  unfolding chord_entries
  both-walked {d} {mid} after x a b e f w v =
      go x (subst (λ (y : WorldAxis). Went budget (axis_entries s c y) start log d mid) e w)
      (subst (λ (y : WorldAxis). WalkPost budget (axis_entries s c y) d mid x after) f v)
    where
      go : (x : Result VisitCursor Refusal) → Went budget (axis_entries s c (first_axis s.kernel.frame)) start log d mid
          → WalkPost budget (axis_entries s c (second_axis s.kernel.frame)) d mid x after
          → WalkPost budget (axis_entries s c (first_axis s.kernel.frame)
          ++ axis_entries s c (second_axis s.kernel.frame)) start log x after
      go (Ok e) w v = went_then w v
      go (Err k) w v = went-halt w v

-- ---- all chords
abbrev pub entries_at : Setting → List Float → ℕ → List (List Float)
entries_at s chords i = chord_entries s (chord_in s chords i)

module _ {budget : ℕ} (s : Setting) (chords : List Float) {start d : VisitCursor} {log mid : List Float} (i : ℕ)
    (v : Sweeping budget (entries_at s chords) 0 (length chords / 8) start log d mid i) where
  pub chord-next : {e : VisitCursor} {after : List Float} (c : Chord) → i < length chords / 8 → c ≡ chord_in s chords i
      → Went budget (chord_entries s c) d mid e after
      → Sweeping budget (entries_at s chords) 0 (length chords / 8) start log e after (i + 1)
  chord-next {e} {after} c h k w =
      sweeping-next (entries_at s chords) 0 (length chords / 8) i v h
      (subst (λ (x : Chord). Went budget (chord_entries s x) d mid e after) k w)

  whole : each (entries_at s chords) 0 (length chords / 8 - 0) ≡ sweep_entries s chords
  unfolding sweep_entries
  whole = let z : length chords / 8 - 0 ≡ length chords / 8 = omega arith in ap (each (entries_at s chords) 0) z

  pub chord-halts : {n : ℕ} {after : List Float} (c : Chord) → i < length chords / 8 → c ≡ chord_in s chords i
      → Halted budget (chord_entries s c) d mid n after → Halted budget (sweep_entries s chords) start log n after
  chord-halts {n} {after} c h k w =
      subst (λ (es : List (List Float)). Halted budget es start log n after) whole
      (sweeping-halt (entries_at s chords) 0 (length chords / 8) i v h
      (subst (λ (x : Chord). Halted budget (chord_entries s x) d mid n after) k w))

  pub chords-done : length chords / 8 ≤ i → Went budget (sweep_entries s chords) start log d mid
  chords-done h = subst (λ (es : List (List Float)). Went budget es start log d mid) whole
      (sweeping-all (entries_at s chords) 0 (length chords / 8) i v h)

-- ---- the visit total
module _ (s : Setting) where
  axis-length : (c : Chord) (a : WorldAxis) → length (axis_entries s c a) ≡ rays_in (rectangle_in s c a)
  unfolding axis_entries
  axis-length c a = rectangle-length
      (ray_entry s.spec.max_intervals (axis_rays_of s.grid a) s.profile (chord_on_axis_in s c a) s.cells.spans
      s.cells.links s.cells.heads) (rectangle_in s c a)

  chord-length : (c : Chord) → length (chord_entries s c) ≡ chord_visits s c
  unfolding chord_entries
  chord-length c =
      let a = first_axis s.kernel.frame in
      let b = second_axis s.kernel.frame in
      length-append (axis_entries s c a) (axis_entries s c b)
      ∙ ap (λ (n : ℕ). n + length (axis_entries s c b)) (axis-length c a)
      ∙ ap (λ (n : ℕ). rays_in (rectangle_in s c a) + n) (axis-length c b)

  pub sweep-length : (chords : List Float) → length (sweep_entries s chords) ≡ visit_total s chords
  unfolding sweep_entries visit_total
  sweep-length chords =
      each-length (entries_at s chords) 0 (length chords / 8)
      ∙ sum_same (length chords / 8) _ _ (λ (i : ℕ). chord-length (chord_in s chords i)) 0

-- ---- the number of entries
module _ (s : Setting) where
  axis-sixes : (c : Chord) (a : WorldAxis) → Sixes (axis_entries s c a)
  unfolding axis_entries
  axis-sixes c a = rectangle-sixes s.spec.max_intervals (axis_rays_of s.grid a) s.profile (chord_on_axis_in s c a)
      s.cells.spans s.cells.links s.cells.heads (rectangle_in s c a)

  chord-sixes : (c : Chord) → Sixes (chord_entries s c)
  unfolding chord_entries
  chord-sixes c = sixes-append _ _ (axis-sixes c (first_axis s.kernel.frame)) (axis-sixes c (second_axis s.kernel.frame))

  pub log-length : (chords : List Float) → length (log_of s chords) ≡ 6 * logged_entries (sweep_entries s chords)
  unfolding log_of sweep_entries
  log-length chords = sixes-count _ (sixes-each (length chords / 8) (entries_at s chords) (λ (i : ℕ). chord-sixes (chord_in s chords i)) 0)
