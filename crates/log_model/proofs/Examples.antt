-- Worked examples of the definitions: each is computed.
use mathlib.Core.Path.{◌≡◌, refl, sym, ap, ap₂, ◌∙◌, subst}
use mathlib.Core.Bool.{Bool, true, false, not, ◌&&◌, ◌||◌, false≢true}
use mathlib.Core.List.{List, [], ◌∷◌, ◌++◌, map, Memᴰ}
use mathlib.Core.Logic.{inl, inr}
use Prim.Native.Nat.{ℕ, zero, suc, ◌+◌, ◌<◌}
use native.Mathlib.Omega.{arith}
use native.Mathlib.Decide.{dec_lt}
use borrow.Author.Tests.{eqb-true}
use lib.Dec.{T, lit<, eqb}
use lib.ListN.{length, get_or, replicate}
use lib.Ieee.{Float, nan, inf, binary64, fits, lt, le, eq, neg, of_int, of_bits, to_unsigned, is_nan, sub, add, mul, div}
use Rattle.doubles.specs.Doubles.{larger_of, ceil_of}
use Rattle.logic.proofs.Bools.{or_cases, and_left, and_right, clash, not-true}
use Rattle.spans.specs.Spans.{All, Double, holds, sound, equal, ListOf}
use Rattle.doubles.proofs.Order.{lt-number, eq_refl}
use Rattle.spans.proofs.Pieces.{agree, by-ends, of-list, in_left, in_right, both_of}
use Rattle.grid.specs.Axes.{by_digit}
use Rattle.grid.specs.Grid.{all_between, is_between, whole}
use Rattle.std.specs.Prelude.{Ok}
use Rattle.grid.specs.FromSpec.{grid_of, is_mm, misdescribed, any_below, grid_over, any_above, cell_count}
use Rattle.grid.specs.Rays.{ray_count, rays_along, offset, ray_axis, bounds_of, Ray}
use Rattle.store.specs.Store.{used_at, places, RecordChain, ends, more, places_of, chained, ends_at, cells}
use Rattle.spans.specs.Rays.{bounded, ValidRay}
use Rattle.log_model.specs.Logs.{entries, names_some_ray, hit_lo, hit_hi, Commit}
use Rattle.log_model.specs.Model.{LogAnswer, changed, refused, log_commit_causes, AnswerDue, accepted_logs}
use Rattle.log_model.specs.Counts.{hits_on_list, changed_ray_count}
use Rattle.log_model.specs.Runs.{point_sets, CommitEffect, CommitStep, Run, done, next, RunMeetsModel}
use Rattle.log_model.specs.Examples.{example_box, example_grid, example_stock, example_hit, example_commit, not_allowed}
use Rattle.log_model.specs.Examples.{inner_wider, three_logs, three_answers, example_list_after, AtEnd, RunRight}
use Rattle.stock.specs.Stock.{Stock, ValidAt, SoundStock, Kind, Possible, Certain, ray_list}
use Rattle.stock_fill.specs.Uncut.{uncut as uncut_cells, uncut_spans, uncut_links, uncut_heads, record_at}
use Rattle.log_model.specs.View.{lent_store}
use Rattle.log_model.proofs.Unique.{answer-due-unsound}
use Rattle.log_model.proofs.Less.{less}
use Rattle.log_model.proofs.Doubles.{DoubleCells, all-doubles}
use Rattle.log_model.proofs.Decided.{tests, answer_of_tests, answer-due, sets-after-list}
use Rattle.log_model.proofs.View.{lent-laws, run-correct-lent}
use Rattle.log_model.proofs.Plain.{Plain, Valid, answers, final}
use Rattle.doubles.specs.Rounding.{ratio}
use Rattle.log_model.specs.RunCorrect.{HitsIncluded, Alike, StoresAgree}

accepted-box : grid_of (example_box 8) (109 ∷ 109 ∷ []) ≡ Ok example_grid
unfolding grid_of is_mm misdescribed all_between is_between any_below grid_over any_above cell_count
    larger_of ceil_of le lt neg of_bits of_int to_unsigned is_nan sub add mul div
accepted-box = refl

-- minus zero names axis 0; an axis of 3, a fraction, a negative number, an infinity and NaN name no ray
naming : map (λ log. map (names_some_ray example_grid) (entries log))
    (example_hit (neg (whole 0)) (whole 0) ∷ example_hit (whole 2) (neg (whole 0)) ∷ example_hit (whole 3) (whole 0)
    ∷ example_hit (whole 0) (whole 1) ∷ example_hit (whole 1) (ratio 1 2) ∷ example_hit (whole 1) (neg (whole 1))
    ∷ example_hit (inf false) (whole 0) ∷ example_hit (whole 0) nan ∷ [])
    ≡ (true ∷ []) ∷ (true ∷ []) ∷ (false ∷ []) ∷ (false ∷ []) ∷ (false ∷ []) ∷ (false ∷ []) ∷ (false ∷ []) ∷ (false ∷ []) ∷ []
unfolding names_some_ray entries ratio eq neg of_int by_digit
naming = refl

-- ---- doubles, by a test

all_fit : List Float → Bool
unfolding fits
all_fit [] = true
all_fit (x ∷ l) = fits binary64 x && all_fit l

fit-doubles : (l : List Float) → all_fit l ≡ true → All Double l
unfolding all_fit
fit-doubles [] h = tt
fit-doubles (x ∷ l) h = (
  subst T (sym (and_left (fits binary64 x) (all_fit l) h)) tt,
  fit-doubles l (and_right (fits binary64 x) (all_fit l) h),
)

cells-doubles : (l : List Float) → All Double l → DoubleCells l
unfolding fits
cells-doubles [] d i = tt
cells-doubles (x ∷ l) d zero = d.0
cells-doubles (x ∷ l) d (suc i) = cells-doubles l d.1 i

by-fit : (l : List Float) → all_fit l ≡ true → DoubleCells l
by-fit l h = cells-doubles l (fit-doubles l h)

-- ---- a run on full rays. The log hits the ray along axis 1, which is ray 1.

abbrev uncut : ℕ → Plain example_grid
uncut n = record { lists = λ r k. whole 0 ∷ whole 10 ∷ []; generation = 0; lent = record { records = n; heads = 6 } }

full : (n : ℕ) → Valid example_grid (uncut n)
unfolding sound lt of_int all_fit fits
full n = record { is_sound = λ r k. refl; doubles = λ r k. fit-doubles (whole 0 ∷ whole 10 ∷ []) refl; within = λ r p t. t }

-- the ray changes once; the same log again is accepted and changes nothing, even with no ray allowed
twice : answers (example_box 8) example_grid (uncut 8) (example_commit 0 1 66 ∷ example_commit 0 0 66 ∷ []) ≡ changed 1 ∷ changed 0 ∷ []
unfolding answers ray_count by_digit eq lt le
twice = refl

-- one work pair short; part of an entry over; no such ray; no ray allowed; and after those refusals the log is accepted
refusals : answers (example_box 8) example_grid (uncut 8)
    (example_commit 0 1 65 ∷ record { log = whole 1 ∷ []; allowance = 1; work = 66 } ∷ example_commit 1 1 66
    ∷ example_commit 0 0 66 ∷ example_commit 0 1 66 ∷ [])
    ≡ refused 12 ∷ refused 11 ∷ refused 17 ∷ refused 9 ∷ changed 1 ∷ []
unfolding answers ray_count by_digit eq lt le
refusals = refl

-- eight intervals would be left where seven are allowed
over-budget : answers (example_box 7) example_grid (uncut 7) (example_commit 0 1 60 ∷ []) ≡ refused 10 ∷ []
unfolding answers ray_count by_digit eq lt le
over-budget = refl

-- both lists of ray 1
ray-one : Plain example_grid → List (List Float)
unfolding ray_count
ray-one s = s.lists (1, lit< tt) Possible ∷ s.lists (1, lit< tt) Certain ∷ []

-- after the two commits of `twice`
cut-ray : ray-one (final (example_box 8) example_grid (uncut 8) (example_commit 0 1 66 ∷ example_commit 0 0 66 ∷ []))
    ≡ (whole 0 ∷ whole 2 ∷ whole 3 ∷ whole 10 ∷ []) ∷ (whole 0 ∷ whole 1 ∷ whole 4 ∷ whole 10 ∷ []) ∷ []
unfolding final ray-one ray_count by_digit eq lt le
cut-ray = refl

cut-generation : (final (example_box 8) example_grid (uncut 8) (example_commit 0 1 66 ∷ example_commit 0 0 66 ∷ [])).generation ≡ 2
unfolding final ray_count by_digit eq lt le
cut-generation = refl

-- ---- the worked run on the lent store

-- records 3 and 4 were freed; possible has 3 and 4, certain 7 and 8
abbrev cut : Stock
cut = record {
  cells = record {
    spans = whole 0 ∷ whole 10 ∷ whole 0 ∷ whole 10 ∷ whole 0 ∷ whole 2 ∷ whole 3 ∷ whole 10 ∷ whole 0 ∷ whole 10
        ∷ whole 0 ∷ whole 10 ∷ whole 0
        ∷ whole 1 ∷ whole 4 ∷ whole 10 ∷ [];
    links = 0 ∷ 1 ∷ 0 ∷ 2 ∷ 4 ∷ 3 ∷ 0 ∷ 3 ∷ 0 ∷ 5 ∷ 0 ∷ 6 ∷ 8 ∷ 4 ∷ 0 ∷ 4 ∷ [];
    heads = 1 ∷ 2 ∷ 3 ∷ 7 ∷ 5 ∷ 6 ∷ [];
  };
  generation = 1;
  intervals = 8;
}

-- those four were freed; possible has 3 and 4, certain 7
abbrev cut_again : Stock
cut_again = record {
  cells = record {
    spans = whole 0 ∷ whole 10 ∷ whole 0 ∷ whole 10 ∷ whole 0 ∷ whole 2 ∷ whole 3 ∷ whole 4 ∷ whole 0 ∷ whole 10
        ∷ whole 0 ∷ whole 10 ∷ whole 0
        ∷ whole 1 ∷ whole 0 ∷ whole 0 ∷ [];
    links = 0 ∷ 1 ∷ 0 ∷ 2 ∷ 4 ∷ 3 ∷ 0 ∷ 3 ∷ 0 ∷ 5 ∷ 0 ∷ 6 ∷ 0 ∷ 4 ∷ 0 ∷ 0 ∷ [];
    heads = 1 ∷ 2 ∷ 3 ∷ 7 ∷ 5 ∷ 6 ∷ [];
  };
  generation = 2;
  intervals = 7;
}

-- what holds of each of the three rays holds of every ray
three : (P : Ray example_grid → Type 0) → ((h : 0 < ray_count example_grid) → P (0, h))
    → ((h : 1 < ray_count example_grid) → P (1, h)) → ((h : 2 < ray_count example_grid) → P (2, h)) → (r : Ray example_grid) → P r
unfolding ray_count
three P a b c (zero, h) = a h
three P a b c (suc zero, h) = b h
three P a b c (suc (suc zero), h) = c h
three P a b c (suc (suc (suc n)), h) = absurd (no n h)
  where
    no : (n : ℕ) → suc (suc (suc n)) < 3 → ⊥
    no n h = omega arith

-- and of the six lists
six : (P : ℕ → Type 0) → P 0 → P 1 → P 2 → P 3 → P 4 → P 5 → (j : ℕ) → j < 6 → P j
six P a b c d e f zero h = a
six P a b c d e f (suc zero) h = b
six P a b c d e f (suc (suc zero)) h = c
six P a b c d e f (suc (suc (suc zero))) h = d
six P a b c d e f (suc (suc (suc (suc zero)))) h = e
six P a b c d e f (suc (suc (suc (suc (suc zero))))) h = f
six P a b c d e f (suc (suc (suc (suc (suc (suc n)))))) h = absurd (no n h)
  where
    no : (n : ℕ) → suc (suc (suc (suc (suc (suc n))))) < 6 → ⊥
    no n h = omega arith

-- a place in a list, by a test
elem : ℕ → List ℕ → Bool
elem i [] = false
elem i (j ∷ l) = eqb i j || elem i l

elem_is : (i : ℕ) (l : List ℕ) → elem i l ≡ true → Memᴰ i l
unfolding elem
elem_is i [] h = absurd (false≢true h)
elem_is i (j ∷ l) h = elim (or_cases (eqb i j) (elem i l) h)
    [ inl u ↦ Memᴰ.head (eqb-true i j u) | inr u ↦ Memᴰ.tail (elem_is i l u) ]

-- each place up to n is in the list or fails the test
all-used : (List ℕ) → (ℕ → Bool) → ℕ → Bool
all-used l used zero = true
all-used l used (suc n) = (not (used n) || elem n l) && all-used l used n

used-in : (l : List ℕ) (used : ℕ → Bool) (n : ℕ) → all-used l used n ≡ true → (i : ℕ) → i < n → used i ≡ true → Memᴰ i l
unfolding all-used
used-in l used zero h i k u = absurd (no i k)
  where
    no : (i : ℕ) → i < 0 → ⊥
    no i k = omega arith
used-in l used (suc n) h i k u = elim (dec_lt i n) [
  | yes m ↦ used-in l used n (and_right (not (used n) || elem n l) (all-used l used n) h) i m u
  | no m ↦ elem_is i l (found (last i n k m))
]
  where
    last : (i n : ℕ) → i < suc n → (i < n → ⊥) → i ≡ n
    last i n k m = omega arith

    found : i ≡ n → elem i l ≡ true
    found e = elim (or_cases (not (used n)) (elem n l) (and_left (not (used n) || elem n l) (all-used l used n) h)) [
      | inl v ↦ absurd (clash (used i) u (ap used e ∙ not-true (used n) v))
      | inr v ↦ rw e v
    ]

-- a full ray
uncut-valid : ValidRay (whole 0) (whole 10) (whole 0 ∷ whole 10 ∷ []) (whole 0 ∷ whole 10 ∷ [])
unfolding sound bounded lt le of_int
uncut-valid = record { possible_sound = refl; certain_sound = refl; possible_bounded = refl; certain_bounded = refl; inside = λ p t. t }

-- certain lies within possible, by a test at the ends
inside_of : (P C : List Float) → agree (C ++ P) (λ (q : Float). holds C q && holds P q) (holds C) ≡ true → (p : Float)
    → holds C p ≡ true → holds P p ≡ true
inside_of P C h p t =
    and_right (holds C p) (holds P p)
    (by-ends (C ++ P) (λ (q : Float). holds C q && holds P q) (holds C)
    (both_of (C ++ P) (holds C) (holds P) (in_left C P (holds C) (of-list C))
    (in_right C P (holds P) (of-list P))) (in_left C P (holds C) (of-list C)) h p ∙ t)

-- the ray that was cut: 0 to 1 and 4 to 10 lie within 0 to 2 and 3 to 10
cut-valid : ValidRay (whole 0) (whole 10) (whole 0 ∷ whole 2 ∷ whole 3 ∷ whole 10 ∷ []) (whole 0 ∷ whole 1 ∷ whole 4 ∷ whole 10 ∷ [])
unfolding sound bounded holds lt le of_int
cut-valid = record {
  possible_sound = refl;
  certain_sound = refl;
  possible_bounded = refl;
  certain_bounded = refl;
  inside = inside_of (whole 0 ∷ whole 2 ∷ whole 3 ∷ whole 10 ∷ []) (whole 0 ∷ whole 1 ∷ whole 4 ∷ whole 10 ∷ []) refl;
}

-- and cut again: 0 to 1 lies within 0 to 2 and 3 to 4
again-valid : ValidRay (whole 0) (whole 10) (whole 0 ∷ whole 2 ∷ whole 3 ∷ whole 4 ∷ []) (whole 0 ∷ whole 1 ∷ [])
unfolding sound bounded holds lt le of_int
again-valid = record {
  possible_sound = refl;
  certain_sound = refl;
  possible_bounded = refl;
  certain_bounded = refl;
  inside = inside_of (whole 0 ∷ whole 2 ∷ whole 3 ∷ whole 4 ∷ []) (whole 0 ∷ whole 1 ∷ []) refl;
}

filled-sound : SoundStock (example_box 8) example_grid example_stock
unfolding ray_count bounds_of ray_axis offset rays_along by_digit chained places ends_at used_at all-used elem of_int
filled-sound = record {
  store = record {
    chains = six (λ j. RecordChain example_stock.cells.links 8 (suc j) (get_or example_stock.cells.heads j 0)
        (places_of 8 example_stock.cells.links example_stock.cells.heads j))
        (more (lit< tt) refl ends) (more (lit< tt) refl ends) (more (lit< tt) refl ends) (more (lit< tt) refl ends)
        (more (lit< tt) refl ends) (more (lit< tt) refl ends);
    others = used-in (chained 8 example_stock.cells.links example_stock.cells.heads 0 6)
        (used_at example_stock.cells.spans example_stock.cells.links) 8 refl;
    counts = refl;
  };
  valid = λ ray h. three (λ r. ValidAt (example_box 8) example_grid example_stock.cells r.0) (λ h. uncut-valid)
      (λ h. uncut-valid) (λ h. uncut-valid) (ray, h);
}

cut-sound : SoundStock (example_box 8) example_grid cut
unfolding ray_count bounds_of ray_axis offset rays_along by_digit chained places ends_at used_at all-used elem of_int
cut-sound = record {
  store = record {
    chains = six (λ j. RecordChain cut.cells.links 8 (suc j) (get_or cut.cells.heads j 0)
        (places_of 8 cut.cells.links cut.cells.heads j))
        (more (lit< tt) refl ends) (more (lit< tt) refl ends) (more (lit< tt) refl (more (lit< tt) refl ends))
        (more (lit< tt) refl (more (lit< tt) refl ends)) (more (lit< tt) refl ends) (more (lit< tt) refl ends);
    others = used-in (chained 8 cut.cells.links cut.cells.heads 0 6) (used_at cut.cells.spans cut.cells.links) 8 refl;
    counts = refl;
  };
  valid = λ ray h. three (λ r. ValidAt (example_box 8) example_grid cut.cells r.0) (λ h. uncut-valid)
      (λ h. cut-valid) (λ h. uncut-valid) (ray, h);
}

again-sound : SoundStock (example_box 8) example_grid cut_again
unfolding ray_count bounds_of ray_axis offset rays_along by_digit chained places ends_at used_at all-used elem of_int
again-sound = record {
  store = record {
    chains = six (λ j. RecordChain cut_again.cells.links 8 (suc j) (get_or cut_again.cells.heads j 0)
        (places_of 8 cut_again.cells.links cut_again.cells.heads j))
        (more (lit< tt) refl ends) (more (lit< tt) refl ends) (more (lit< tt) refl (more (lit< tt) refl ends))
        (more (lit< tt) refl ends) (more (lit< tt) refl ends) (more (lit< tt) refl ends);
    others = used-in (chained 8 cut_again.cells.links cut_again.cells.heads 0 6)
        (used_at cut_again.cells.spans cut_again.cells.links) 8 refl;
    counts = refl;
  };
  valid = λ ray h. three (λ r. ValidAt (example_box 8) example_grid cut_again.cells r.0) (λ h. uncut-valid)
      (λ h. again-valid) (λ h. uncut-valid) (ray, h);
}

-- the answer that the order gives to a commit on a sound stock, worked out
abbrev answer-on : Stock → Commit → LogAnswer
answer-on s c =
    answer_of_tests (log_commit_causes (example_box 8) example_grid ((lent_store (example_box 8) example_grid).lent s) ⊥
    (point_sets example_grid (lent_store (example_box 8) example_grid) s) s.generation c)
    (tests (example_box 8) example_grid ((lent_store (example_box 8) example_grid).lent s)
    (λ r k. ray_list (example_box 8) s.cells r.0 k) s.generation c)
    (changed (changed_ray_count example_grid (λ r k. ray_list (example_box 8) s.cells r.0 k) (entries c.log)))

module _ (s : Stock) (S : SoundStock (example_box 8) example_grid s) (ds : DoubleCells s.cells.spans) (c : Commit)
    (dc : DoubleCells c.log) where
  -- the lists of the stock are those of its sets
  lists-on : (r : Ray example_grid) (k : Kind)
      → ListOf (point_sets example_grid (lent_store (example_box 8) example_grid) s r k)
      (ray_list (example_box 8) s.cells r.0 k)
  unfolding point_sets
  lists-on r k = record { is_sound = (lent-laws (example_box 8) example_grid).sound_list s S r k; points = λ p. refl }

  answer-due-on : (a : LogAnswer) → answer-on s c ≡ a
      → AnswerDue (example_box 8) example_grid ((lent_store (example_box 8) example_grid).lent s)
      (¬ SoundStock (example_box 8) example_grid s) (point_sets example_grid (lent_store (example_box 8) example_grid) s)
      s.generation c a
  answer-due-on a e = answer-due-unsound (example_box 8) example_grid ((lent_store (example_box 8) example_grid).lent s)
      (¬ SoundStock (example_box 8) example_grid s) (λ n. n S)
      (point_sets example_grid (lent_store (example_box 8) example_grid) s) s.generation c a
      (subst (λ (b : LogAnswer). AnswerDue (example_box 8) example_grid ((lent_store (example_box 8) example_grid).lent s) ⊥
      (point_sets example_grid (lent_store (example_box 8) example_grid) s) s.generation c b) e
      (answer-due (example_box 8) example_grid ((lent_store (example_box 8) example_grid).lent s)
      (point_sets example_grid (lent_store (example_box 8) example_grid) s)
      (λ r k. ray_list (example_box 8) s.cells r.0 k) lists-on s.generation c
      (all-doubles (example_box 8) example_grid s c.log ds dc)))

  refuses : (k : ℕ) → answer-on s c ≡ refused k
      → CommitStep (example_box 8) example_grid (lent_store (example_box 8) example_grid) s c (refused k) s
  unfolding CommitEffect
  refuses k e = record { answers = answer-due-on (refused k) e; leaves = refl }

  -- the lists that are left are the old ones less the hits
  accepts-to : (n : ℕ) (t : Stock) → answer-on s c ≡ changed n → SoundStock (example_box 8) example_grid t
      → ((r : Ray example_grid) (k : Kind)
      → ray_list (example_box 8) t.cells r.0 k
      ≡ less (ray_list (example_box 8) s.cells r.0 k) (hits_on_list example_grid (entries c.log) r k))
      → t.generation ≡ suc s.generation → (lent_store (example_box 8) example_grid).lent t ≡ (lent_store (example_box 8) example_grid).lent s
      → CommitStep (example_box 8) example_grid (lent_store (example_box 8) example_grid) s c (changed n) t
  unfolding CommitEffect
  accepts-to n t e T l g h = record {
    answers = answer-due-on (changed n) e;
    leaves = record {
      sound = T;
      exactly = λ r k p.
          unfold point_sets in ap (λ (l : List Float). holds l p) (l r k)
          ∙ (sets-after-list example_grid (point_sets example_grid (lent_store (example_box 8) example_grid) s)
          (λ r k. ray_list (example_box 8) s.cells r.0 k) lists-on (entries c.log) r k).points p;
      generation = g;
      lent = h;
    };
  }

first-answer : answer-on example_stock (example_commit 0 1 66) ≡ changed 1
unfolding answer_of_tests log_commit_causes tests changed_ray_count ray_count eq by_digit lt ends_at places le
first-answer = refl

second-answer : answer-on cut not_allowed ≡ refused 9
unfolding answer_of_tests log_commit_causes tests changed_ray_count ray_count eq by_digit lt ends_at places le
second-answer = refl

third-answer : answer-on cut inner_wider ≡ changed 1
unfolding answer_of_tests log_commit_causes tests changed_ray_count ray_count eq by_digit lt ends_at places le
third-answer = refl

-- the lists after the first log, and the pairs that the first and the third take from each
abbrev cut_at : ℕ → Kind → List Float
cut_at zero k = whole 0 ∷ whole 10 ∷ []
cut_at (suc zero) Possible = whole 0 ∷ whole 2 ∷ whole 3 ∷ whole 10 ∷ []
cut_at (suc zero) Certain = whole 0 ∷ whole 1 ∷ whole 4 ∷ whole 10 ∷ []
cut_at (suc (suc n)) k = whole 0 ∷ whole 10 ∷ []

abbrev first-pairs : ℕ → Kind → List Float
first-pairs zero k = []
first-pairs (suc zero) Possible = whole 2 ∷ whole 3 ∷ []
first-pairs (suc zero) Certain = whole 1 ∷ whole 4 ∷ whole 2 ∷ whole 3 ∷ []
first-pairs (suc (suc n)) k = []

abbrev third-pairs : ℕ → Kind → List Float
third-pairs zero k = []
third-pairs (suc zero) Possible = whole 4 ∷ whole 10 ∷ []
third-pairs (suc zero) Certain = whole 9 ∷ whole 10 ∷ whole 4 ∷ whole 10 ∷ []
third-pairs (suc (suc n)) k = []

filled-lists : (r : Ray example_grid) (k : Kind) → ray_list (example_box 8) example_stock.cells r.0 k ≡ whole 0 ∷ whole 10 ∷ []
unfolding ends_at places
filled-lists r Possible = three
    (λ r. ray_list (example_box 8) example_stock.cells r.0 Possible ≡ whole 0 ∷ whole 10 ∷ []) (λ h. refl) (λ h. refl)
    (λ h. refl) r
filled-lists r Certain = three
    (λ r. ray_list (example_box 8) example_stock.cells r.0 Certain ≡ whole 0 ∷ whole 10 ∷ []) (λ h. refl) (λ h. refl)
    (λ h. refl) r

cut-lists : (r : Ray example_grid) (k : Kind) → ray_list (example_box 8) cut.cells r.0 k ≡ cut_at r.0 k
unfolding ends_at places
cut-lists r Possible = three (λ r. ray_list (example_box 8) cut.cells r.0 Possible ≡ cut_at r.0 Possible)
    (λ h. refl) (λ h. refl) (λ h. refl) r
cut-lists r Certain = three (λ r. ray_list (example_box 8) cut.cells r.0 Certain ≡ cut_at r.0 Certain)
    (λ h. refl) (λ h. refl) (λ h. refl) r

again-lists : (r : Ray example_grid) (k : Kind) → ray_list (example_box 8) cut_again.cells r.0 k ≡ example_list_after r.0 k
unfolding ends_at places
again-lists r Possible = three
    (λ r. ray_list (example_box 8) cut_again.cells r.0 Possible ≡ example_list_after r.0 Possible) (λ h. refl)
    (λ h. refl) (λ h. refl) r
again-lists r Certain = three (λ r. ray_list (example_box 8) cut_again.cells r.0 Certain
    ≡ example_list_after r.0 Certain) (λ h. refl) (λ h. refl) (λ h. refl) r

first-hits : (r : Ray example_grid) (k : Kind) → hits_on_list example_grid (entries (example_commit 0 1 66).log) r k ≡ first-pairs r.0 k
unfolding hits_on_list entries eq by_digit
first-hits r Possible = three (λ r. hits_on_list example_grid (entries (example_commit 0 1 66).log) r Possible
    ≡ first-pairs r.0 Possible) (λ h. refl) (λ h. refl) (λ h. refl) r
first-hits r Certain = three (λ r. hits_on_list example_grid (entries (example_commit 0 1 66).log) r Certain
    ≡ first-pairs r.0 Certain) (λ h. refl) (λ h. refl) (λ h. refl) r

third-hits : (r : Ray example_grid) (k : Kind) → hits_on_list example_grid (entries inner_wider.log) r k ≡ third-pairs r.0 k
unfolding hits_on_list entries eq by_digit
third-hits r Possible = three (λ r. hits_on_list example_grid (entries inner_wider.log) r Possible
    ≡ third-pairs r.0 Possible) (λ h. refl) (λ h. refl) (λ h. refl) r
third-hits r Certain = three (λ r. hits_on_list example_grid (entries inner_wider.log) r Certain
    ≡ third-pairs r.0 Certain) (λ h. refl) (λ h. refl) (λ h. refl) r

-- the lists that are left are the old ones less the hits
first-less : (r : Ray example_grid) (k : Kind) → cut_at r.0 k ≡ less (whole 0 ∷ whole 10 ∷ []) (first-pairs r.0 k)
unfolding less lt of_int
first-less r Possible = three (λ r. cut_at r.0 Possible ≡ less (whole 0 ∷ whole 10 ∷ []) (first-pairs r.0 Possible))
    (λ h. refl) (λ h. refl) (λ h. refl) r
first-less r Certain = three (λ r. cut_at r.0 Certain ≡ less (whole 0 ∷ whole 10 ∷ []) (first-pairs r.0 Certain))
    (λ h. refl) (λ h. refl) (λ h. refl) r

third-less : (r : Ray example_grid) (k : Kind) → example_list_after r.0 k ≡ less (cut_at r.0 k) (third-pairs r.0 k)
unfolding less lt of_int
third-less r Possible = three (λ r. example_list_after r.0 Possible
    ≡ less (cut_at r.0 Possible) (third-pairs r.0 Possible)) (λ h. refl) (λ h. refl) (λ h. refl) r
third-less r Certain = three (λ r. example_list_after r.0 Certain
    ≡ less (cut_at r.0 Certain) (third-pairs r.0 Certain)) (λ h. refl) (λ h. refl) (λ h. refl) r

first-lists : (r : Ray example_grid) (k : Kind) → ray_list (example_box 8) cut.cells r.0 k
    ≡ less (ray_list (example_box 8) example_stock.cells r.0 k)
    (hits_on_list example_grid (entries (example_commit 0 1 66).log) r k)
first-lists r k = cut-lists r k ∙ first-less r k ∙ ap₂ less (sym (filled-lists r k)) (sym (first-hits r k))

third-lists : (r : Ray example_grid) (k : Kind) → ray_list (example_box 8) cut_again.cells r.0 k
    ≡ less (ray_list (example_box 8) cut.cells r.0 k) (hits_on_list example_grid (entries inner_wider.log) r k)
third-lists r k = again-lists r k ∙ third-less r k ∙ ap₂ less (sym (cut-lists r k)) (sym (third-hits r k))

-- every cell is a double
filled-doubles : DoubleCells example_stock.cells.spans
unfolding all_fit of_int
filled-doubles = by-fit example_stock.cells.spans refl

cut-doubles : DoubleCells cut.cells.spans
unfolding all_fit of_int
cut-doubles = by-fit cut.cells.spans refl

first-doubles : DoubleCells (example_commit 0 1 66).log
unfolding all_fit of_int
first-doubles = by-fit (example_commit 0 1 66).log refl

second-doubles : DoubleCells not_allowed.log
unfolding all_fit of_int
second-doubles = by-fit not_allowed.log refl

third-doubles : DoubleCells inner_wider.log
unfolding all_fit of_int
third-doubles = by-fit inner_wider.log refl

three-run : Run (example_box 8) example_grid (lent_store (example_box 8) example_grid) example_stock three_logs three_answers cut_again
three-run =
    next (accepts-to example_stock filled-sound filled-doubles (example_commit 0 1 66) first-doubles 1 cut first-answer
    cut-sound first-lists refl refl)
    (next (refuses cut cut-sound cut-doubles not_allowed second-doubles 9 second-answer)
    (next (accepts-to cut cut-sound cut-doubles inner_wider third-doubles 1 cut_again third-answer again-sound third-lists refl refl) done))

-- what demand 3 says of it
three-meet-model : RunMeetsModel (example_box 8) example_grid (lent_store (example_box 8) example_grid)
    example_stock three_logs three_answers cut_again
three-meet-model = (run-correct-lent (example_box 8) example_grid).meets_model example_stock cut_again three_logs
    three_answers filled-sound three-run

-- ---- and of every other run of the three logs

alike_self : (ls : List (List Float)) → Alike example_grid ls ls
unfolding Alike HitsIncluded
alike_self ls = (self, self)
  where
    self : HitsIncluded example_grid ls ls
    self r w h =
        let n = lt-number (hit_lo w h.entry) (hit_hi w h.entry) h.proper in
        (h, eq_refl (hit_lo w h.entry) n.0, eq_refl (hit_hi w h.entry) n.1)

module _ (vs : List LogAnswer) (t : Stock)
    (x : Run (example_box 8) example_grid (lent_store (example_box 8) example_grid) example_stock three_logs vs t) where
  same-answers : three_answers ≡ vs
  same-answers = ((run-correct-lent (example_box 8) example_grid).meets_model example_stock t three_logs vs filled-sound x
      ).no_others three_answers three-meet-model.answers

  same_end : StoresAgree example_grid (lent_store (example_box 8) example_grid) t cut_again
  same_end = (run-correct-lent (example_box 8) example_grid).agrees example_stock t cut_again three_logs three_logs vs
      three_answers filled-sound x three-run
      (subst (λ (ws : List LogAnswer). Alike example_grid (accepted_logs three_logs ws)
      (accepted_logs three_logs three_answers)) same-answers (alike_self (accepted_logs three_logs three_answers)))

  two-accepted : t.generation ≡ 2
  unfolding accepted_logs
  two-accepted = ((run-correct-lent (example_box 8) example_grid).meets_model example_stock t three_logs vs filled-sound x
      ).generation ∙ ap (λ (ws : List LogAnswer). 0 + length (accepted_logs three_logs ws)) (sym same-answers)

  at-end : AtEnd t
  at-end = record {
    lists = λ r k. subst (λ (l : List Float). equal (ray_list (example_box 8) t.cells r.0 k) l ≡ true)
        (again-lists r k) (same_end.same_lists r k);
    generation = two-accepted;
    intervals = same_end.same_total;
  }

-- the uncut store of the box
fill-lays : uncut_cells (example_box 8) example_grid (cells (replicate 16 (whole 7)) (replicate 16 7) (replicate 6 7)) ≡ example_stock.cells
unfolding uncut_spans uncut_links uncut_heads record_at ray_count bounds_of ray_axis offset rays_along by_digit of_int of_bits
fill-lays = refl

pub run-right : RunRight
unfolding ray_count
run-right = record {
  accepted = accepted-box;
  fills = fill-lays;
  fills_record = refl;
  end = cut_again;
  ran = three-run;
  answers = λ vs t x. sym (same-answers vs t x);
  ends = at-end;
}
