-- Both lists of a ray: what the function that frees them asks.
use Rattle.std.specs.Prelude.{ℕ, ◌+◌, ◌*◌}
use Rattle.store.specs.Updates.{freed_list}
use Rattle.store.specs.Steps.{FreeListPre}
use Rattle.store.specs.Store.{Cells}

-- both lists of a ray can be freed, one after the other
pub record FreeRayPre (n : ℕ) (c : Cells) (ray : ℕ) : Type 0 where
  pub possible : FreeListPre n c (2 * ray)
  pub certain : FreeListPre n (freed_list n c (2 * ray)) (2 * ray + 1)
