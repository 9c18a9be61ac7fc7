-- Causes of two lists, one after the other, and the cause that is common to all calls on a stock.
use mathlib.Core.Path.{◌≡◌}
use mathlib.Core.Bool.{false, ◌||◌}
use mathlib.Core.List.{List, [], ◌∷◌, ◌++◌}
use mathlib.Core.Logic.{inl, inr}
use Prim.Native.Nat.{ℕ, ◌*◌, ◌/◌}
use native.Mathlib.Omega.{arith}
use lib.Dec.{ltb}
use lib.ListN.{length}
use borrow.Author.Tests.{ltb-false}
use Rattle.refusal.specs.Refusal.{Cause, Due, NoneDue}
use Rattle.logic.proofs.Bools.{or-neither}
use Rattle.grid.specs.Rays.{ray_count}
use Rattle.grid.specs.declared.DexelStockSpec.{DexelStockSpec}
use Rattle.grid.specs.declared.DexelGrid.{DexelGrid}
use Rattle.stock.specs.Stock.{is_short}
use Rattle.stock.specs.Steps.{StockRoom}
use Rattle.store.specs.Store.{Cells}

pub due-first : (cs ds : List Cause) (k : ℕ) → Due cs k → Due (cs ++ ds) k
unfolding Due
due-first [] ds k d = absurd d
due-first (c ∷ cs) ds k (inl d) = inl d
due-first (c ∷ cs) ds k (inr d) = inr (d.0, due-first cs ds k d.1)

pub due-second : (cs ds : List Cause) (k : ℕ) → NoneDue cs → Due ds k → Due (cs ++ ds) k
unfolding Due NoneDue
due-second [] ds k n d = d
due-second (c ∷ cs) ds k n d = inr (n.0, due-second cs ds k n.1 d)

pub none-in-both : (cs ds : List Cause) → NoneDue cs → NoneDue ds → NoneDue (cs ++ ds)
unfolding NoneDue
none-in-both [] ds n m = m
none-in-both (c ∷ cs) ds n m = (n.0, none-in-both cs ds n.1 m)

pub none_first : (cs ds : List Cause) → NoneDue (cs ++ ds) → NoneDue cs
unfolding NoneDue
none_first [] ds n = tt
none_first (c ∷ cs) ds n = (n.0, none_first cs ds n.1)

pub none-second : (cs ds : List Cause) → NoneDue (cs ++ ds) → NoneDue ds
unfolding NoneDue
none-second [] ds n = n
none-second (c ∷ cs) ds n = none-second cs ds n.1

-- ---- 12
module _ (spec : DexelStockSpec) (g : DexelGrid) (c : Cells) where
  pub room_of : is_short spec g c ≡ false → StockRoom spec g c
  unfolding is_short
  room_of h =
      let a = or-neither (ltb (length c.spans / 2) spec.max_intervals)
      (ltb (length c.links / 2) spec.max_intervals || ltb (length c.heads) (2 * ray_count g)) h in
      let b = or-neither (ltb (length c.links / 2) spec.max_intervals) (ltb (length c.heads) (2 * ray_count g)) a.1 in
      record {
        in_spans = omega (arith, ltb-false (length c.spans / 2) spec.max_intervals a.0);
        in_links = omega (arith, ltb-false (length c.links / 2) spec.max_intervals b.0);
        in_heads = ltb-false (length c.heads) (2 * ray_count g) b.1;
      }
