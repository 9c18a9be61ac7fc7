-- Both lists of a ray: what the function that lays them asks and leaves.
use Rattle.std.specs.Prelude.{◌≡◌, List, ℕ, ◌+◌, ◌*◌, Float}
use Rattle.store.specs.Fills.{FreeCursor}
use Rattle.store.specs.Updates.{update, laid_list}
use Rattle.store.specs.Steps.{LayListPre}
use Rattle.store.specs.Store.{Cells}

-- there are free records for both lists of a ray
pub record LayRayPre (n : ℕ) (c : Cells) (ray : ℕ) (p q : List Float) : Type 0 where
  pub possible : LayListPre n c (update (2 * ray) p)
  pub certain : LayListPre n (laid_list n c (update (2 * ray) p)) (update (2 * ray + 1) q)

-- both lists of a ray are laid, possible's first, and no record before place r is free
pub record LayRayPost (n : ℕ) (c : Cells) (ray : ℕ) (p q : List Float) (r : ℕ) (d : Cells) : Type 0 where
  pub left : d ≡ laid_list n (laid_list n c (update (2 * ray) p)) (update (2 * ray + 1) q)
  pub onward : FreeCursor n d.spans d.links r
