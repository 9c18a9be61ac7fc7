-- The entries of a log grouped by ray in a buffer: cell r holds the first place of ray r, cell rays + i the place
-- after place i on the same ray. A cell holds one more than a place, or 0 where there is none.
use Rattle.std.specs.Prelude.{◌≡◌, List, [], ◌∷◌, ℕ, zero, suc, ◌+◌, ◌≤◌, ◌<◌, length, get_or, Float}
use Rattle.std.specs.Float.{nan}
use Rattle.log_numbers.specs.Numbers.{number_at}
use Rattle.grid.specs.Rays.{ray_count}
use Rattle.grid.specs.declared.DexelGrid.{DexelGrid}
use Rattle.log_model.specs.Logs.{entry_count}
use Rattle.log_entries.specs.Named.{EachNamed, named_from}

-- from the number k on, the cells name these places one after the other, each from `from` to `to`
pub data PlaceChain (w : List Float) (rays from to : ℕ) : ℕ → List ℕ → Type 0 where
  ends : PlaceChain w rays from to zero []
  more : {i : ℕ} {is : List ℕ} → from ≤ i → i < to → PlaceChain w rays from to (number_at w (rays + i)) is
      → PlaceChain w rays from to (suc i) (i ∷ is)

-- each ray's chain has the places of the entries on it, in order
pub record Grouped (g : DexelGrid) (log w : List Float) : Type 0 where
  pub named : EachNamed g log
  pub room : ray_count g + entry_count log ≤ length w
  pub chains : (ray : ℕ) → ray < ray_count g
      → PlaceChain w (ray_count g) 0 (entry_count log) (number_at w ray) (named_from g log ray 0 (entry_count log))

-- and the cells past the chains are as before
pub record GroupPost (g : DexelGrid) (log before after : List Float) : Type 0 where
  pub size : length after ≡ length before
  pub grouped : Grouped g log after
  pub past : (q : ℕ) → ray_count g + entry_count log ≤ q → get_or after q nan ≡ get_or before q nan
