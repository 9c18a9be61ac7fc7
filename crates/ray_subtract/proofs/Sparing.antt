-- Lists less their hits.
use mathlib.Core.Path.{◌≡◌, refl, sym, ◌∙◌, ap, ap₂, subst}
use mathlib.Core.Bool.{Bool, true, false, not, ◌&&◌}
use mathlib.Core.List.{List}
use mathlib.Core.Logic.{inl, inr}
use Prim.Native.Nat.{ℕ, ◌+◌, ◌*◌, ◌/◌, ◌%◌, ◌≤◌}
use native.Mathlib.Omega.{arith}
use lib.ListN.{length}
use lib.Ieee.{Float}
use Rattle.logic.proofs.Bools.{and_right, and-not-or, or-neither, not-true, not-false, by_cases, clash}
use Rattle.spans.specs.Spans.{holds, sound, equal, ListOf, set_minus}
use Rattle.spans.proofs.Sets.{sound-mod, equal-holds, same_set}
use Rattle.spans.specs.Overlay.{less_of}
use Rattle.span_overlay.proofs.Less.{less-list, less-apart, less_moves}
use Rattle.span_cover.specs.Cover.{Meets}
use Rattle.ray_subtract.specs.Subtract.{either_hit, new_cells, ListAfterHits}
use Rattle.ray_subtract.specs.Steps.{cells_from, SoundListAt, WrittenAt, less_hits, Becomes, new_list, ReducePost}
use Rattle.ray_subtract.specs.Steps.{MergeWithinPre, MergeWithinPost}
use Rattle.ray_subtract.specs.declared.MergedList.{MergedList}
use Rattle.ray_subtract.proofs.Places.{part_length, part-past, part-front, between-both, between-same, lies-past}

-- ---- whether a boundary moves
-- a sound list is equal to itself
equal-self : (a : List Float) → sound a ≡ true → equal a a ≡ true
equal-self a s = same_set a a s s (λ p n. refl)

module _ (a l : List Float) (hit : Float → Bool) (left : ListOf (set_minus (holds a) hit) l) where
  -- where no boundary moves, no point is hit
  pub still-unhit : equal a l ≡ true → (p : Float) → holds a p ≡ true → hit p ≡ false
  still-unhit e p h = not-true (hit p) (and_right (holds a p) (not (hit p)) (sym (left.points p) ∙ sym (equal-holds a l e p) ∙ h))

-- less the outer and then the inner hits: the points in neither
pub less-both-list : (a o i : List Float) → sound a ≡ true → sound o ≡ true → sound i ≡ true
    → ListOf (set_minus (holds a) (either_hit o i)) (less_of (less_of a o) i)
less-both-list a o i sa so si =
    let first = less-list a o sa so in
    let second = less-list (less_of a o) i first.is_sound si in
    record {
      is_sound = second.is_sound;
      points = λ p.
          second.points p ∙ ap (λ (b : Bool). b && not (holds i p)) (first.points p) ∙ and-not-or (holds a p) (holds o p) (holds i p);
    }

module _ (a b : List Float) (sa : sound a ≡ true) (sb : sound b ≡ true) where
  -- where no boundary moves, each end stays as it is
  pub less-still : equal a (less_of a b) ≡ true → less_of a b ≡ a
  less-still e = less-apart a b sa sb (still-unhit a (less_of a b) (holds b) (less-list a b sa sb) e)

  pub meets-moves : (r : Bool) → Meets a b r → r ≡ not (equal a (less_of a b))
  meets-moves true (p, e, h, k) = sym (ap not (less_moves a b sa sb p h k))
  meets-moves false f = sym (ap not (ap (equal a) (less-apart a b sa sb f) ∙ equal-self a sa))

module _ (a o i : List Float) (sa : sound a ≡ true) (so : sound o ≡ true) (si : sound i ≡ true) where
  unhit : equal a (less_of (less_of a o) i) ≡ true → (p : Float) → holds a p ≡ true → (holds o p ≡ false) × (holds i p ≡ false)
  unhit e p h =
      or-neither (holds o p) (holds i p) (still-unhit a (less_of (less_of a o) i) (either_hit o i) (less-both-list a o i sa so si) e p h)

  outer-apart : equal a (less_of (less_of a o) i) ≡ true → less_of a o ≡ a
  outer-apart e = less-apart a o sa so (λ p h. (unhit e p h).0)

  pub both-still : equal a (less_of (less_of a o) i) ≡ true → less_of (less_of a o) i ≡ a
  both-still e = ap (λ (l : List Float). less_of l i) (outer-apart e) ∙ less-apart a i sa si (λ p h. (unhit e p h).1)

  -- a boundary moves by the outer hits; it moves by the inner ones alone
  pub both-outer : (r : Bool) → r ≡ not (equal a (less_of a o)) → r ≡ true → true ≡ not (equal a (less_of (less_of a o) i))
  both-outer r e h = elim (by_cases (equal a (less_of (less_of a o) i))) [
    | inr f ↦ sym (ap not f)
    | inl t ↦
        absurd (clash (equal a (less_of a o)) (ap (equal a) (outer-apart t) ∙ equal-self a sa)
        (not-true (equal a (less_of a o)) (sym e ∙ h)))
  ]

  pub both-inner : (r : Bool) → r ≡ not (equal a (less_of a o)) → r ≡ false → (s : Bool) → s ≡ not (equal a (less_of a i))
      → s ≡ not (equal a (less_of (less_of a o) i))
  both-inner r e h s f =
      let kept : less_of a o ≡ a = less-still a o sa so (not-false (equal a (less_of a o)) (sym e ∙ h)) in
      f ∙ ap (λ (l : List Float). not (equal a (less_of l i))) (sym kept)

-- ---- one list, by a test t whether a boundary of it moves
module _ {a list : List Float} (sa : sound a ≡ true) (sl : sound list ≡ true) {to end limit : ℕ} where
  pub reduced-still : {w : List Float} {n : ℕ} → false ≡ not (equal a list) → length a ≡ n → (equal a list ≡ true → list ≡ a)
      → ReducePost a list to end limit w w (record { moved = false; pairs = n / 2 })
  reduced-still {w} h e stays =
      let x : list ≡ a = stays (not-false (equal a list) (sym h)) in
      record {
        between = between-same to end w;
        most = omega arith;
        is = sym x;
        becomes = record { moves = h; pairs = ap length x ∙ omega (arith, sound-mod a sa) };
      }

  pub reduced-moved : {before after : List Float} {r : ℕ} → true ≡ not (equal a list) → to + limit ≤ length before
      → WrittenAt list to end limit before after r → ReducePost a list to end limit before after (record { moved = true; pairs = r / 2 })
  reduced-moved {before} {after} {r} h f x =
      let long : length list ≡ r = ap length (sym x.ends) ∙ part_length to r after (omega (arith, x.most, x.between.size)) in
      let even : r % 2 ≡ 0 = subst (λ (n : ℕ). n % 2 ≡ 0) long (sound-mod list sl) in
      let twice : 2 * (r / 2) ≡ r = omega arith in
      record {
        between = x.between;
        most = omega (arith, x.most);
        is = ap (λ (k : ℕ). cells_from to k after) twice ∙ x.ends;
        becomes = record { moves = h; pairs = long ∙ sym twice };
      }

-- what becomes of a list, by the points that are hit
pub becomes-spared : {a list l : List Float} {hit hit' : Float → Bool} {r : MergedList} → ListOf (set_minus (holds a) hit) list
    → ((p : Float) → hit p ≡ hit' p) → Becomes a list r → l ≡ list → ListAfterHits a hit' r l
becomes-spared {a} left same b e = rw e (record {
  moves = b.moves;
  list = record { is_sound = left.is_sound; points = λ p. left.points p ∙ ap (λ (x : Bool). holds a p && not x) (same p) };
  pairs = b.pairs;
})

-- less the outer hits, then less the inner ones
module _ {w w₁ : List Float} {t c nc no ni m : ℕ} (to : ℕ) (in_c : SoundListAt c nc w)
    (in-o : SoundListAt (c + nc) no w) (in-i : SoundListAt (c + nc + no) ni w)
    (apart : to + ni ≤ t) (room : t + nc + no ≤ c)
    (first : WrittenAt (less_of (cells_from c nc w) (cells_from (c + nc) no w)) t (t + nc + no) (nc + no) w w₁ m) where
  inner-kept : cells_from (c + nc + no) ni w₁ ≡ cells_from (c + nc + no) ni w
  inner-kept = part-past t (t + nc + no) w w₁ first.between (c + nc + no) ni in-i.room (omega arith)

  pub second-lies : SoundListAt t m w₁ × SoundListAt (c + nc + no) ni w₁ × (to + ni ≤ t) × (to + m ≤ c + nc + no)
  second-lies = (
    record {
      room = omega (arith, in-i.room, first.between.size, first.most);
      is_sound = rw first.ends (less-list (cells_from c nc w) (cells_from (c + nc) no w) in_c.is_sound in-o.is_sound).is_sound;
    },
    lies-past t (t + nc + no) w w₁ first.between (c + nc + no) ni (omega arith) in-i,
    apart,
    omega (arith, first.most),
  )

  pub both-written : {w₂ : List Float} {r : ℕ}
      → WrittenAt (less_of (cells_from t m w₁) (cells_from (c + nc + no) ni w₁)) to (to + m + ni) (m + ni) w₁ w₂ r
      → WrittenAt (less_hits c nc no ni w) to (t + nc + no) (nc + no + ni) w w₂ r
  both-written {w₂} second = record {
    between = between-both t (t + nc + no) to (to + m + ni) to (t + nc + no) w w₁ w₂ first.between second.between
        (omega arith) (omega arith) (omega arith) (omega (arith, first.most));
    most = omega (arith, first.most, second.most);
    ends = second.ends ∙ ap₂ less_of first.ends inner-kept;
  }

-- ---- both lists of a ray
-- a list that stays where it was written
list-kept : (r : MergedList) (a : List Float) (to : ℕ) (w w' : List Float)
    → (r.moved ≡ true → cells_from to (2 * r.pairs) w' ≡ cells_from to (2 * r.pairs) w) → new_list r a to w ≡ new_list r a to w'
list-kept r a to w w' f = go r.moved refl
  where
    go : (b : Bool) → r.moved ≡ b → new_list r a to w ≡ new_list r a to w'
    go true e = rw e (sym (f e))
    go false e = rw e

module _ {at np nc no ni : ℕ} {w w₁ : List Float} {p : MergedList} (ready : MergeWithinPre at np nc no ni w)
    (first : ReducePost (cells_from at np w) (less_of (cells_from at np w) (cells_from (at + np + nc + no) ni w)) 0
    (np + ni) (np + ni) w w₁ p) where
  still : (k n : ℕ) → at ≤ k → k + n ≤ length w → cells_from k n w₁ ≡ cells_from k n w
  still k n h fit = part-past 0 (np + ni) w w₁ first.between k n fit (omega (arith, ready.room))

  pub both-lie : {used : ℕ} → used ≡ new_cells p
      → SoundListAt (at + np) nc w₁ × SoundListAt (at + np + nc) no w₁ × SoundListAt (at + np + nc + no) ni w₁ × (used + ni ≤ np + 2 * ni)
      × (np + 2 * ni + nc + no ≤ at + np)
  both-lie e = (
    lies-past 0 (np + ni) w w₁ first.between (at + np) nc (omega (arith, ready.room)) ready.certain,
    lies-past 0 (np + ni) w w₁ first.between (at + np + nc) no (omega (arith, ready.room)) ready.outer,
    lies-past 0 (np + ni) w w₁ first.between (at + np + nc + no) ni (omega (arith, ready.room)) ready.inner,
    omega (arith, first.most),
    omega (arith, ready.room),
  )

  pub merging : {used : ℕ} {w₂ : List Float} {q : MergedList} → used ≡ new_cells p
      → ReducePost (cells_from (at + np) nc w₁) (less_hits (at + np) nc no ni w₁) used (np + 2 * ni + nc + no) (nc + no + ni) w₁ w₂ q
      → MergeWithinPost at np nc no ni w w₂ (record { possible = p; certain = q })
  merging {used} {w₂} {q} e last =
      let second : ReducePost (cells_from (at + np) nc w) (less_hits (at + np) nc no ni w) used (np + 2 * ni + nc + no)
      (nc + no + ni) w₁ w₂ q =
      rw (
        still (at + np) nc (omega arith) ready.certain.room,
        still (at + np + nc) no (omega arith) ready.outer.room,
        still (at + np + nc + no) ni (omega arith) ready.inner.room,
      ) at last in
      record {
        between = between-both 0 (np + ni) used (np + 2 * ni + nc + no) 0 at w w₁ w₂ first.between second.between
            (omega arith) (omega arith) (omega (arith, ready.room)) (omega (arith, ready.room));
        room = omega (arith, first.most, second.most, ready.room);
        possible_is = sym (list-kept p (cells_from at np w) 0 w₁ w₂ (λ h.
            part-front used (np + 2 * ni + nc + no) w₁ w₂ second.between 0 (2 * p.pairs) (fits h) (inside h))) ∙ first.is;
        certain_is = ap (λ (k : ℕ). new_list q (cells_from (at + np) nc w) k w₂) (sym e) ∙ second.is;
        possible_becomes = first.becomes;
        certain_becomes = second.becomes;
      }
    where
      moved-cells : p.moved ≡ true → new_cells p ≡ 2 * p.pairs
      moved-cells h = rw h

      inside : p.moved ≡ true → 0 + 2 * p.pairs ≤ used
      inside h = omega (arith, moved-cells h)

      fits : p.moved ≡ true → 0 + 2 * p.pairs ≤ length w₁
      fits h = omega (arith, moved-cells h, first.most, ready.room, ready.possible.room, first.between.size)
