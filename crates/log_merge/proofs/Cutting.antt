-- Both lists of a ray less their hits, one after the other at the start of a buffer.
use mathlib.Core.Path.{◌≡◌, refl, sym, ◌∙◌, ap, ap₂, subst}
use mathlib.Core.Bool.{true, false}
use Rattle.std.specs.Prelude.{Option, None, Some, MatchOption}
use mathlib.Core.List.{List}
use Prim.Native.Nat.{ℕ, ◌+◌, ◌*◌, ◌/◌, ◌%◌, ◌≤◌}
use native.Mathlib.Omega.{arith}
use lib.ListN.{length}
use lib.Ieee.{Float}
use Rattle.spans.specs.Spans.{sound}
use Rattle.spans.proofs.Sets.{sound-mod}
use Rattle.spans.specs.Overlay.{less_of}
use Rattle.span_overlay.proofs.Less.{less-list}
use Rattle.ray_subtract.specs.Steps.{cells_from, SoundListAt, WrittenAt, less_hits, MergeWithinPre}
use Rattle.ray_subtract.proofs.Places.{part_length, part-front, part-past, lies-past}
use Rattle.ray_subtract.proofs.Sparing.{less-both-list}
use Rattle.log_merge.specs.Rays.{ray_moves, NewLists, RayCutPost}
use Rattle.log_merge.specs.declared.RayUpdate.{RayUpdate}

-- ---- no boundary moves
pub untouched : (possible certain outer inner : List Float) (from limit : ℕ) (w : List Float)
    → ray_moves possible certain outer inner ≡ false → RayCutPost possible certain outer inner from limit w w None
untouched possible certain outer inner from limit w h = record { size = refl; front = λ q e. refl; update = h }

-- ---- what is known of an update
-- the cells that the new lists of a ray have
abbrev pub new_cells_of : Option RayUpdate → ℕ
new_cells_of None = 0
new_cells_of (Some u) = 2 * u.possible + 2 * u.certain

-- in a higher limit
pub wider : (possible certain outer inner : List Float) (at : ℕ) {limit most : ℕ} (w : List Float) → limit ≤ most → (r : Option RayUpdate)
    → MatchOption r (ray_moves possible certain outer inner ≡ false) (NewLists possible certain outer inner at limit w)
    → MatchOption r (ray_moves possible certain outer inner ≡ false) (NewLists possible certain outer inner at most w)
wider possible certain outer inner at w h None n = n
wider possible certain outer inner at w h (Some u) n = record {
  moved = n.moved;
  most = omega (arith, n.most);
  possible_is = n.possible_is;
  certain_is = n.certain_is;
}

module _ {possible certain outer inner : List Float} {from limit : ℕ} {before after : List Float} where
  pub cells-most : {r : Option RayUpdate} → RayCutPost possible certain outer inner from limit before after r → new_cells_of r ≤ limit
  cells-most {r} x = go r x.update
    where
      go : (r : Option RayUpdate)
          → MatchOption r (ray_moves possible certain outer inner ≡ false) (NewLists possible certain outer inner from limit after)
          → new_cells_of r ≤ limit
      go None n = omega arith
      go (Some u) n = n.most

  pub new-lists : {r : Option RayUpdate} {u : RayUpdate} → RayCutPost possible certain outer inner from limit before after r
      → r ≡ Some u → NewLists possible certain outer inner from limit after u
  new-lists x e = subst (λ (o : Option RayUpdate). MatchOption o (ray_moves possible certain outer inner ≡ false)
      (NewLists possible certain outer inner from limit after)) e x.update

  pub unmoved : {r : Option RayUpdate} → RayCutPost possible certain outer inner from limit before after r → r ≡ None
      → ray_moves possible certain outer inner ≡ false
  unmoved x e = subst (λ (o : Option RayUpdate). MatchOption o (ray_moves possible certain outer inner ≡ false)
      (NewLists possible certain outer inner from limit after)) e x.update

-- a sound list of r cells has r / 2 pairs
two-halves : (l : List Float) (at r : ℕ) (w : List Float) → at + r ≤ length w → cells_from at r w ≡ l → sound l ≡ true → 2 * (r / 2) ≡ r
two-halves l at r w fit e s = twice r (subst (λ (n : ℕ). n % 2 ≡ 0) (ap length (sym e) ∙ part_length at r w fit) (sound-mod l s))
  where
    twice : (r : ℕ) → r % 2 ≡ 0 → 2 * (r / 2) ≡ r
    twice r h = omega arith

-- ---- possible less the inner hits, then certain less both
module _ (at np nc no ni : ℕ) (w w₁ w₂ : List Float) (p r : ℕ) (ready : MergeWithinPre at np nc no ni w)
    (first : WrittenAt (less_of (cells_from at np w) (cells_from (at + np + nc + no) ni w)) 0 (np + ni) (np + ni) w w₁ p) where
  pub second-ready : SoundListAt (at + np) nc w₁ × SoundListAt (at + np + nc) no w₁
      × SoundListAt (at + np + nc + no) ni w₁ × (p + ni ≤ np + 2 * ni) × (np + 2 * ni + nc + no ≤ at + np)
  second-ready = (
    lies-past 0 (np + ni) w w₁ first.between (at + np) nc (omega (arith, ready.room)) ready.certain,
    lies-past 0 (np + ni) w w₁ first.between (at + np + nc) no (omega (arith, ready.room)) ready.outer,
    lies-past 0 (np + ni) w w₁ first.between (at + np + nc + no) ni (omega (arith, ready.room)) ready.inner,
    omega (arith, first.most),
    omega (arith, ready.room),
  )

  -- what is read on the way is as it was
  same-hits : less_hits (at + np) nc no ni w₁ ≡ less_hits (at + np) nc no ni w
  same-hits = rw (
    part-past 0 (np + ni) w w₁ first.between (at + np) nc ready.certain.room (omega (arith, ready.room)),
    part-past 0 (np + ni) w w₁ first.between (at + np + nc) no ready.outer.room (omega (arith, ready.room)),
    part-past 0 (np + ni) w w₁ first.between (at + np + nc + no) ni ready.inner.room (omega (arith, ready.room)),
  )

  pub both-cut : true ≡ ray_moves (cells_from at np w) (cells_from (at + np) nc w) (cells_from (at + np + nc) no w)
      (cells_from (at + np + nc + no) ni w)
      → WrittenAt (less_hits (at + np) nc no ni w₁) p (np + 2 * ni + nc + no) (nc + no + ni) w₁ w₂ r
      → RayCutPost (cells_from at np w) (cells_from (at + np) nc w) (cells_from (at + np + nc) no w)
      (cells_from (at + np + nc + no) ni w) 0
      (np + nc + no + 2 * ni) w w₂
      (Some (record { possible = p / 2; certain = r / 2 }))
  both-cut h second =
      let size₁ : length w₁ ≡ length w = first.between.size in
      let size₂ : length w₂ ≡ length w₁ = second.between.size in
      let fit₁ : 0 + p ≤ length w₁ = omega (arith, first.most, ready.room, ready.possible.room) in
      let fit₂ : p + r ≤ length w₂ = omega (arith, first.most, second.most, ready.room, ready.possible.room) in
      let certain_is : cells_from p r w₂ ≡ less_hits (at + np) nc no ni w = second.ends ∙ same-hits in
      let two-p : 2 * (p / 2) ≡ p = two-halves _ 0 p w₁ fit₁ first.ends
      (less-list (cells_from at np w) (cells_from (at + np + nc + no) ni w) ready.possible.is_sound ready.inner.is_sound).is_sound in
      let two-r : 2 * (r / 2) ≡ r = two-halves _ p r w₂ fit₂ certain_is
      (less-both-list (cells_from (at + np) nc w) (cells_from (at + np + nc) no w) (cells_from (at + np + nc + no) ni w)
      ready.certain.is_sound ready.outer.is_sound ready.inner.is_sound).is_sound in
      record {
        size = size₂ ∙ size₁;
        front = λ q e. absurd (omega arith);
        update = record {
          moved = sym h;
          most = omega (arith, first.most, second.most);
          possible_is = ap (λ (n : ℕ). cells_from 0 n w₂) two-p ∙ part-front p (np + 2 * ni + nc + no) w₁ w₂ second.between 0 p fit₁
              (omega arith) ∙ first.ends;
          certain_is = ap₂ (λ (m n : ℕ). cells_from m n w₂) (none (2 * (p / 2)) ∙ two-p) two-r ∙ certain_is;
        };
      }
    where
      none : (p : ℕ) → 0 + p ≡ p
      none p = omega arith
