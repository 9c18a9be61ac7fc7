-- A ray's lists and hits, loaded one after the other into a buffer.
use mathlib.Core.Path.{◌≡◌, refl, sym, ap, ◌∙◌, subst}
use mathlib.Core.List.{List, ◌++◌, append_assoc}
use Prim.Native.Nat.{ℕ, ◌+◌, ◌-◌, ◌*◌, ◌≤◌, ◌<◌}
use native.Mathlib.Omega.{arith}
use borrow.Rule.Slice.PartMut.{put_mid}
use lib.ListN.{length, get_or, take, drop, length-append, length-drop, get_or-append}
use lib.Seq.{length-take-le, get_or-take, take_all, take_at, drop_at}
use lib.Ieee.{Float, nan}
use Rattle.spans.specs.Spans.{NormalOf}
use Rattle.spans.specs.Steps.{FilledFront}
use Rattle.grid.specs.Rays.{ray_count}
use Rattle.grid.specs.declared.DexelStockSpec.{DexelStockSpec}
use Rattle.grid.specs.declared.DexelGrid.{DexelGrid}
use Rattle.log_model.specs.Logs.{entries, entry_count, HitKind, outer, inner, hits_on_ray}
use Rattle.log_model.proofs.Entries.{entries-length}
use Rattle.store.specs.Store.{places, Cells, store_list}
use Rattle.store.proofs.Chains.{places-within}
use Rattle.store_read.specs.Reading.{ReadListPost, Readable}
use Rattle.store_read.proofs.Steps.{ends-length}
use Rattle.stock.proofs.Rays.{list-readable}
use Rattle.log_entries.proofs.Sizes.{named-most}
use Rattle.log_group.specs.Groups.{Grouped}
use Rattle.log_group.proofs.Chains.{grouped-kept}
use Rattle.ray_subtract.specs.Steps.{cells_from, PlacedAt, NormalizedAt}
use Rattle.ray_subtract.proofs.Places.{part-kept, normal}
use Rattle.log_merge.specs.Rays.{LoadPre, LoadPost}
use Rattle.stock.specs.Stock.{ray_list, Possible, Certain}

-- a list that was copied stands at its place
module _ (l before : List Float) (at : ℕ) (after : List Float) (r : ℕ) (fit : at + length l ≤ length before)
    (c : ReadListPost l before at after r) where
  is : after ≡ take at before ++ (l ++ drop (at + length l) before)
  is = c.cells ∙ append_assoc (take at before) l (drop (at + length l) before)

  pub copied-size : length after ≡ length before
  copied-size =
      ap length is ∙ length-append (take at before) (l ++ drop (at + length l) before)
      ∙ omega (
        arith,
        length-append l (drop (at + length l) before),
        length-take-le at before (omega arith),
        length-drop (at + length l) before,
      )

  pub copied_placed : PlacedAt l at before after
  copied_placed = record {
    size = copied-size;
    front = λ q h.
        ap (λ (x : List Float). get_or x q nan) is
        ∙ get_or-append (take at before) (l ++ drop (at + length l) before) nan q
        (omega (arith, length-take-le at before (omega arith)))
        ∙ get_or-take at before q nan h;
    cells = ap (take (length l)) (copied-from) ∙ take_at l (drop (at + length l) before) (length l) refl;
  }
    where
      copied-from : drop at after ≡ l ++ drop (at + length l) before
      copied-from = ap (drop at) is ∙ drop_at (take at before) (l ++ drop (at + length l) before) at
          (length-take-le at before (omega arith))

-- hits that were copied, then made their sound list in the part from their place on
pub hits-loaded : (hits before w ys : List Float) (at e r : ℕ) → at + length hits ≤ length before → ReadListPost hits before at w e
    → length ys ≡ length (take (length w - at) (drop at w))
    → FilledFront (NormalOf (take (e - at) (take (length w - at) (drop at w)))) (take (length w - at) (drop at w)) (e - at) ys r
    → NormalizedAt hits at before (put_mid at (length w - at) w ys) r
hits-loaded hits before w ys at e r fit c size f =
    let p = copied_placed hits before at w e fit c in
    let there : take (length w - at) (drop at w) ≡ drop at w = take_all (length w - at) (drop at w) (omega (arith, length-drop at w)) in
    let long : e - at ≡ length hits = omega (arith, c.past) in
    let front : take (e - at) (take (length w - at) (drop at w)) ≡ hits = rw (there, long) p.cells in
    let n = normal at w ys (omega (arith, p.size)) size hits r (rw (front, long) at f) in
    record {
      size = n.size ∙ p.size;
      front = λ q h. n.front q h ∙ p.front q h;
      most = n.most;
      list = n.list;
    }

-- ---- all four
module _ (possible certain outers inners : List Float) (s : ℕ) (w w₁ w₂ w₃ w₄ : List Float) (no ni : ℕ)
    (room : s + length possible + length certain + length outers + length inners ≤ length w)
    (p : PlacedAt possible s w w₁) (c : PlacedAt certain (s + length possible) w₁ w₂)
    (o : NormalizedAt outers (s + length possible + length certain) w₂ w₃ no)
    (i : NormalizedAt inners (s + length possible + length certain + no) w₃ w₄ ni) where
  pub ray-loaded : LoadPost possible certain outers inners s w w₄
      (record { possible = length possible; certain = length certain; outer = no; inner = ni })
  ray-loaded = record {
    size = i.size ∙ o.size ∙ c.size ∙ p.size;
    front = λ q h. i.front q (omega arith) ∙ o.front q (omega arith) ∙ c.front q (omega arith) ∙ p.front q h;
    possible_cells = refl;
    certain_cells = refl;
    outer_most = o.most;
    inner_most = i.most;
    possible_is = kept_in s (length possible) (omega arith) (omega arith)
        ∙ part-kept (s + length possible) s (length possible) w₁ w₂ (omega arith) (omega (arith, p.size)) c.size c.front ∙ p.cells;
    certain_is = kept_in (s + length possible) (length certain) (omega arith) (omega arith) ∙ c.cells;
    outer_hits = subst (NormalOf outers)
        (sym (part-kept (s + length possible + length certain + no) (s + length possible + length certain) no w₃ w₄
        (omega arith) (omega (arith, o.most, o.size, c.size, p.size)) i.size i.front)) o.list;
    inner_hits = i.list;
  }
    where
      -- a list in front of the hits is as it was before they came
      kept_in : (at n : ℕ) → at + n ≤ s + length possible + length certain
          → s + length possible + length certain ≤ length w₂ → cells_from at n w₄ ≡ cells_from at n w₂
      kept_in at n h k =
          part-kept (s + length possible + length certain + no) at n w₃ w₄ (omega arith)
          (omega (arith, o.most, o.size, c.size, p.size)) i.size i.front
          ∙ part-kept (s + length possible + length certain) at n w₂ w₃ h k o.size o.front

-- ---- step by step, from what `load_ray` is given
module _ {spec : DexelStockSpec} {g : DexelGrid} {c : Cells} {log w : List Float} {ray s : ℕ} (b : LoadPre spec g c log w ray s) where
  abbrev hits : HitKind → List Float
  hits k = hits_on_ray g (entries log) ray k

  pub list-most : (j : ℕ) → length (store_list spec.max_intervals c j) ≤ 2 * spec.max_intervals
  list-most j =
      omega (
        arith,
        ends-length c.spans (places c.links spec.max_intervals (get_or c.heads j 0)),
        places-within c.links spec.max_intervals (get_or c.heads j 0),
      )

  pub hits-most : (k : HitKind) → length (hits k) ≤ 2 * entry_count log
  hits-most k = omega (arith, named-most g ray k (entries log), entries-length log)

  pub possible-ready : Readable spec.max_intervals c.spans c.links (get_or c.heads (2 * ray) 0)
      × (s + length (ray_list spec c ray Possible) ≤ length w)
  possible-ready = (list-readable spec g c b.store (2 * ray) (omega (arith, b.below)), omega (arith, list-most (2 * ray), b.room))

  module _ {w₁ : List Float} {r₁ : ℕ} (p : ReadListPost (ray_list spec c ray Possible) w s w₁ r₁) where
    placed₁ : PlacedAt (ray_list spec c ray Possible) s w w₁
    placed₁ = copied_placed (ray_list spec c ray Possible) w s w₁ r₁ possible-ready.1 p

    pub certain-ready : Readable spec.max_intervals c.spans c.links (get_or c.heads (2 * ray + 1) 0)
        × (r₁ + length (ray_list spec c ray Certain) ≤ length w₁)
    certain-ready = (
      list-readable spec g c b.store (2 * ray + 1) (omega (arith, b.below)),
      omega (arith, p.past, placed₁.size, list-most (2 * ray), list-most (2 * ray + 1), b.room),
    )

    module _ {w₂ : List Float} {r₂ : ℕ} (q : ReadListPost (ray_list spec c ray Certain) w₁ r₁ w₂ r₂) where
      placed₂ : PlacedAt (ray_list spec c ray Certain) r₁ w₁ w₂
      placed₂ = copied_placed (ray_list spec c ray Certain) w₁ r₁ w₂ r₂ certain-ready.1 q

      pub outer-ready : Grouped g log w₂ × (ray < ray_count g) × (ray_count g + entry_count log ≤ r₂) ×
          (r₂ + length (hits outer) ≤ length w₂)
      outer-ready = (
        grouped-kept g log w w₂ (placed₂.size ∙ placed₁.size)
            (λ k h. placed₂.front k (omega (arith, p.past, b.past)) ∙ placed₁.front k (omega (arith, b.past)))
            b.grouped,
        b.below,
        omega (arith, p.past, q.past, b.past),
        omega (
          arith,
          p.past,
          q.past,
          placed₁.size,
          placed₂.size,
          list-most (2 * ray),
          list-most (2 * ray + 1),
          hits-most outer,
          b.room,
        ),
      )

      module _ {w₃ : List Float} {no : ℕ} (o : NormalizedAt (hits outer) r₂ w₂ w₃ no) where
        pub inner-fits : r₂ + no + length (hits inner) ≤ length w
        inner-fits = omega (
          arith,
          p.past,
          q.past,
          o.most,
          list-most (2 * ray),
          list-most (2 * ray + 1),
          hits-most outer,
          hits-most inner,
          b.room,
        )

        pub inner-ready : Grouped g log w₃ × (ray < ray_count g) × (ray_count g + entry_count log ≤ r₂ + no)
            × (r₂ + no + length (hits inner) ≤ length w₃)
        inner-ready = (
          grouped-kept g log w₂ w₃ o.size (λ k h. o.front k (omega (arith, p.past, q.past, b.past))) outer-ready.0,
          b.below,
          omega (arith, outer-ready.2),
          omega (arith, inner-fits, placed₁.size, placed₂.size, o.size),
        )

        pub all-loaded : {w₄ : List Float} {ni : ℕ} → NormalizedAt (hits inner) (r₂ + no) w₃ w₄ ni
            → LoadPost (ray_list spec c ray Possible) (ray_list spec c ray Certain) (hits outer) (hits inner) s w w₄
            (record { possible = r₁ - s; certain = r₂ - r₁; outer = no; inner = ni })
        all-loaded {w₄} {ni} i =
            let np : r₁ - s ≡ length (ray_list spec c ray Possible) = omega (arith, p.past) in
            let nc : r₂ - r₁ ≡ length (ray_list spec c ray Certain) = omega (arith, q.past) in
            rw (np, nc)
            (ray-loaded (ray_list spec c ray Possible) (ray_list spec c ray Certain) (hits outer) (hits inner) s w w₁ w₂ w₃ w₄ no ni
            (omega (arith, list-most (2 * ray), list-most (2 * ray + 1), hits-most outer, hits-most inner, b.room))
            placed₁ (rw p.past at placed₂) (rw (q.past, p.past) at o) (rw (q.past, p.past) at i))
