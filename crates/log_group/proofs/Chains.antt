-- The chains of a grouped log, and one more place in front of one of them.
use mathlib.Core.Path.{◌≡◌, refl, sym, ap, ◌∙◌, subst}
use mathlib.Core.Bool.{Bool, true, false, cond}
use mathlib.Core.List.{List, [], ◌∷◌, ◌++◌}
use Prim.Native.Nat.{ℕ, suc, ◌+◌, ◌-◌, ◌≤◌, ◌<◌}
use native.Mathlib.Omega.{arith}
use borrow.Author.Tests.{eqb-true, eqb-false}
use lib.Dec.{eqb}
use lib.ListN.{length, get_or, set, take, drop, replicate, length-set, length-replicate, get_or-replicate, length-append, length-drop}
use lib.ListN.{get_or-append}
use lib.Seq.{length-take-le, get_or-set_same, get_or-set_other, get_or-append-add, get_or-drop}
use lib.Ieee.{Float, nan, binary64, to_bits}
use Rattle.doubles.specs.Constants.{plus_zero}
use Rattle.log_numbers.specs.Numbers.{number_cell, number_at, largest_number}
use Rattle.log_numbers.proofs.Cells.{number_put, number_same, number-zero}
use Rattle.grid.specs.Rays.{ray_count}
use Rattle.grid.specs.declared.DexelGrid.{DexelGrid}
use Rattle.log_model.specs.Logs.{entry_at, entry_count, entry_ray}
use Rattle.log_entries.specs.Named.{EachNamed, named_from}
use Rattle.log_group.specs.Groups.{PlaceChain, ends, more, Grouped, GroupPost}

-- a chain stands where the cells of its places are the same
pub chain-kept : {w v : List Float} {rays from to low k : ℕ} {is : List ℕ} → low ≤ from
    → ((q : ℕ) → from ≤ q → q < to → number_at v (rays + q) ≡ number_at w (rays + q)) → PlaceChain w rays from to k is
    → PlaceChain v rays low to k is
chain-kept h same ends = ends
chain-kept {w} {v} {rays} {from} {to} {low} h same (more {i = i} {is = is} a b c) =
    more {i = i} (omega arith) b (subst (λ (k : ℕ). PlaceChain v rays low to k is) (sym (same i a b)) (chain-kept h same c))

-- ---- the places of a ray from i on, and from the place before
module _ (g : DexelGrid) (log : List Float) (ray j n : ℕ) (below : j < n) where
  more-named : named_from g log ray j (n - j)
      ≡ cond (eqb (entry_ray g (entry_at log j)) ray) (j ∷ named_from g log ray (suc j) (n - suc j))
      (named_from g log ray (suc j) (n - suc j))
  unfolding named_from
  more-named = ap (λ (k : ℕ). named_from g log ray j k) (next n j below)
    where
      next : (n j : ℕ) → j < n → n - j ≡ suc (n - suc j)
      next n j h = omega arith

-- ---- the entries from place i on are chained
pub record Grouping (g : DexelGrid) (log before w : List Float) (i : ℕ) : Type 0 where
  pub size : length w ≡ length before
  pub most : i ≤ entry_count log
  pub chains : (ray : ℕ) → ray < ray_count g
      → PlaceChain w (ray_count g) i (entry_count log) (number_at w ray) (named_from g log ray i (entry_count log - i))
  pub past : (q : ℕ) → ray_count g + entry_count log ≤ q → get_or w q nan ≡ get_or before q nan

module _ (g : DexelGrid) (log before w : List Float) (room : ray_count g + entry_count log ≤ length before) where
  pub grouping-start : length w ≡ length before → ((q : ℕ) → q < ray_count g → number_at w q ≡ 0)
      → ((q : ℕ) → ray_count g ≤ q → get_or w q nan ≡ get_or before q nan)
      → Grouping g log before w (entry_count log)
  unfolding named_from
  grouping-start size none past = record {
    size = size;
    most = omega arith;
    chains = λ ray h. rw (none ray h, no_more ray) ends;
    past = λ q h. past q (omega arith);
  }
    where
      zero_left : (n : ℕ) → n - n ≡ 0
      zero_left n = omega arith

      no_more : (ray : ℕ) → named_from g log ray (entry_count log) (entry_count log - entry_count log) ≡ []
      no_more ray = ap (λ (k : ℕ). named_from g log ray (entry_count log) k) (zero_left (entry_count log))

  module _ (j : ℕ) (below : j < entry_count log) (ray₀ : ℕ) (is-ray : ray₀ ≡ entry_ray g (entry_at log j))
      (fits : ray₀ < ray_count g) (s : Grouping g log before w (suc j)) where
    abbrev moved : List Float
    moved = set w (ray_count g + j) (get_or w ray₀ nan)

    abbrev after : List Float
    after = set moved ray₀ (number_cell (j + 1))

    other : (q : ℕ) → (q ≡ ray_count g + j → ⊥) → (q ≡ ray₀ → ⊥) → get_or after q nan ≡ get_or w q nan
    other q a b = get_or-set_other moved ray₀ q (number_cell (j + 1)) nan b
        ∙ get_or-set_other w (ray_count g + j) q (get_or w ray₀ nan) nan a

    next-cell : get_or after (ray_count g + j) nan ≡ get_or w ray₀ nan
    next-cell =
        get_or-set_other moved ray₀ (ray_count g + j) (number_cell (j + 1)) nan (λ (e : ray_count g + j ≡ ray₀). omega arith)
        ∙ get_or-set_same w (ray_count g + j) (get_or w ray₀ nan) nan (omega (arith, s.size))

    first_cell : j + 1 ≤ largest_number → number_at after ray₀ ≡ suc j
    first_cell h = number_put moved ray₀ (j + 1) (omega (arith, s.size, length-set w (ray_count g + j) (get_or w ray₀ nan))) h
        ∙ omega arith

    kept : (q : ℕ) → suc j ≤ q → q < entry_count log → number_at after (ray_count g + q) ≡ number_at w (ray_count g + q)
    kept q a b =
        number_same after w (ray_count g + q)
        (other (ray_count g + q) (λ (e : ray_count g + q ≡ ray_count g + j). omega arith) (λ (e : ray_count g + q ≡ ray₀). omega arith))

    chains' : j + 1 ≤ largest_number → (ray : ℕ) → ray < ray_count g
        → PlaceChain after (ray_count g) j (entry_count log) (number_at after ray) (named_from g log ray j (entry_count log - j))
    chains' small ray h = go (eqb ray₀ ray) refl
      where
        rest : List ℕ
        rest = named_from g log ray (suc j) (entry_count log - suc j)

        old : PlaceChain after (ray_count g) j (entry_count log) (number_at w ray) rest
        old = chain-kept (omega arith) kept (s.chains ray h)

        is-places : (b : Bool) → eqb ray₀ ray ≡ b → cond b (j ∷ rest) rest ≡ named_from g log ray j (entry_count log - j)
        is-places b e = sym (more-named g log ray j (entry_count log) below
            ∙ ap (λ (x : Bool). cond x (j ∷ rest) rest) (ap (λ (y : ℕ). eqb y ray) (sym is-ray) ∙ e))

        go : (b : Bool) → eqb ray₀ ray ≡ b
            → PlaceChain after (ray_count g) j (entry_count log) (number_at after ray)
            (named_from g log ray j (entry_count log - j))
        go true e =
            let same : ray₀ ≡ ray = eqb-true ray₀ ray e in
            let first : number_at after ray ≡ suc j = subst (λ (x : ℕ). number_at after x ≡ suc j) same (first_cell small) in
            let next : number_at w ray ≡ number_at after (ray_count g + j) = ap (λ (x : ℕ). number_at w x) (sym same)
            ∙ sym (ap (to_bits binary64) next-cell) in
            rw (first, ← is-places true e) (more {i = j} (omega arith) below (rw next at old))
        go false e =
            let differ : ray ≡ ray₀ → ⊥ = λ q. eqb-false ray₀ ray e (sym q) in
            let first : number_at after ray ≡ number_at w ray =
            number_same after w ray (other ray (λ (q : ray ≡ ray_count g + j). omega arith) differ) in
            rw (first, ← is-places false e) old

    stepped : j + 1 ≤ largest_number → Grouping g log before after j
    stepped small = record {
      size = length-set moved ray₀ (number_cell (j + 1)) ∙ length-set w (ray_count g + j) (get_or w ray₀ nan) ∙ s.size;
      most = omega arith;
      chains = chains' small;
      past = λ q h. other q (λ (e : q ≡ ray_count g + j). omega arith) (λ (e : q ≡ ray₀). omega arith) ∙ s.past q h;
    }

    pub grouping-step : (rays : ℕ) → rays ≡ ray_count g → j + 1 ≤ largest_number → (v : List Float)
        → v ≡ set (set w (rays + j) (get_or w ray₀ nan)) ray₀ (number_cell (j + 1))
        → Grouping g log before v j
    grouping-step rays same small v e = subst (λ (x : List Float). Grouping g log before x j)
        (sym (e ∙ ap (λ (r : ℕ). set (set w (r + j) (get_or w ray₀ nan)) ray₀ (number_cell (j + 1))) same)) (stepped small)

  pub grouping-done : EachNamed g log → (i : ℕ) → i ≤ 0 → (first : List Float) → length before ≡ length first
      → ((q : ℕ) → ray_count g ≤ q → get_or before q nan ≡ get_or first q nan) → Grouping g log before w i → GroupPost g log first w
  grouping-done named i none first size past s = record {
    size = s.size ∙ size;
    grouped = record {
      named = named;
      room = omega (arith, s.size);
      chains = λ ray h.
          subst (λ (n : ℕ). PlaceChain w (ray_count g) 0 (entry_count log) (number_at w ray) (named_from g log ray 0 n))
          (all (entry_count log))
          (subst (λ (k : ℕ). PlaceChain w (ray_count g) k (entry_count log) (number_at w ray)
          (named_from g log ray k (entry_count log - k))) (zero_of i none) (s.chains ray h));
    };
    past = λ q h. s.past q h ∙ past q (omega arith);
  }
    where
      zero_of : (i : ℕ) → i ≤ 0 → i ≡ 0
      zero_of i h = omega arith

      all : (n : ℕ) → n - 0 ≡ n
      all n = omega arith

-- a grouped log stays so where only cells past the chains change
pub grouped-kept : (g : DexelGrid) (log w v : List Float) → length v ≡ length w
    → ((q : ℕ) → q < ray_count g + entry_count log → get_or v q nan ≡ get_or w q nan) → Grouped g log w → Grouped g log v
grouped-kept g log w v size same s = record {
  named = s.named;
  room = omega (arith, s.room);
  chains = λ ray h.
      subst (λ (k : ℕ). PlaceChain v (ray_count g) 0 (entry_count log) k (named_from g log ray 0 (entry_count log)))
      (sym (number_same v w ray (same ray (omega arith))))
      (chain-kept (omega arith) (λ q a b. number_same v w (ray_count g + q) (same (ray_count g + q) (omega arith))) (s.chains ray h));
}

-- ---- the first cells cleared
module _ (rays : ℕ) (before ys : List Float) (fit : rays ≤ length before)
    (is : ys ≡ replicate (length (take rays before)) plus_zero) where
  long : length ys ≡ rays
  long = ap length is ∙ length-replicate (length (take rays before)) plus_zero ∙ length-take-le rays before fit

  pub cleared-size : length (ys ++ drop rays before) ≡ length before
  cleared-size = length-append ys (drop rays before) ∙ omega (arith, long, length-drop rays before)

  pub cleared-none : (q : ℕ) → q < rays → number_at (ys ++ drop rays before) q ≡ 0
  cleared-none q h = ap (to_bits binary64)
      (get_or-append ys (drop rays before) nan q (omega (arith, long)) ∙ ap (λ (l : List Float). get_or l q nan) is
      ∙ zero-at) ∙ number-zero
    where
      zero-at : get_or (replicate (length (take rays before)) plus_zero) q nan ≡ plus_zero
      zero-at = get_or-replicate (length (take rays before)) q plus_zero nan (omega (arith, length-take-le rays before fit))

  pub cleared-past : (q : ℕ) → rays ≤ q → get_or (ys ++ drop rays before) q nan ≡ get_or before q nan
  cleared-past q h =
      ap (λ (n : ℕ). get_or (ys ++ drop rays before) n nan) (split q (omega (arith, long)))
      ∙ get_or-append-add ys (drop rays before) (q - length ys) nan
      ∙ get_or-drop rays before (q - length ys) nan ∙ ap (λ (n : ℕ). get_or before n nan) (omega (arith, long))
    where
      split : (q : ℕ) → length ys ≤ q → q ≡ length ys + (q - length ys)
      split q h = omega arith
