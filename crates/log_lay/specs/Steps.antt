-- What the functions that free and lay the lists of the changed rays ask and leave.
use Rattle.std.specs.Prelude.{◌≡◌, List, [], ◌∷◌, ℕ, ◌+◌, ◌*◌, ◌≤◌, ◌<◌, length, Float}
use Rattle.store.specs.Fills.{FreeCursor}
use Rattle.store.specs.Updates.{Update, laid_list, laid_all}
use Rattle.store_write.specs.FreeRays.{FreeRayPre}
use Rattle.log_lay.specs.Updates.{updates_from, lists_end}
use Rattle.log_lay.specs.declared.LayPlace.{LayPlace}
use Rattle.store.specs.Steps.{Room, LayListPre}
use Rattle.store.specs.Store.{Cells, ChainsSound}

-- both lists of a ray can be freed, and its first size can be read
pub record FreeIfChangedPre (n : ℕ) (c : Cells) (w : List Float) (sizes ray : ℕ) : Type 0 where
  pub in_sizes : sizes + 2 * ray < length w
  pub lists : FreeRayPre n c ray

-- a sound store of two lists for each ray, and the sizes of all rays in the work buffer
pub record FreeRaysPre (n : ℕ) (c : Cells) (w : List Float) (sizes rays : ℕ) : Type 0 where
  pub in_sizes : sizes + 2 * rays ≤ length w
  pub room : Room n (2 * rays) c
  pub total : ℕ
  pub store : ChainsSound n (2 * rays) total c

-- each update finds the room that it needs, after those before it
unfoldable pub EachLayable : ℕ → Cells → List Update → Type 0
EachLayable n c [] = Unit
EachLayable n c (u ∷ us) = LayListPre n c u × EachLayable n (laid_list n c u) us

-- the sizes and the new lists of k rays from `ray` on stand in the work buffer, and there is room for them
pub record LayRaysPre (n : ℕ) (c : Cells) (w : List Float) (sizes ray k : ℕ) (p : LayPlace) : Type 0 where
  pub in_sizes : sizes + 2 * (ray + k) ≤ length w
  pub in_lists : lists_end w sizes p.at ray k ≤ length w
  pub each : EachLayable n c (updates_from w sizes p.at ray k)
  pub cursor : FreeCursor n c.spans c.links p.from

-- the new lists of k rays from `ray` on are laid
pub record LayRaysPost (n : ℕ) (c : Cells) (w : List Float) (sizes ray k : ℕ) (p : LayPlace) (d : Cells) (q : LayPlace) : Type 0 where
  pub left : d ≡ laid_all n c (updates_from w sizes p.at ray k)
  pub at : q.at ≡ lists_end w sizes p.at ray k
  pub cursor : FreeCursor n d.spans d.links q.from
