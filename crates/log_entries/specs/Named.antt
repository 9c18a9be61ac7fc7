-- A log whose entries each name a ray, and the entries of one ray by their places in it.
use Rattle.std.specs.Prelude.{◌≡◌, ℕ, zero, suc, ◌+◌, ◌<◌, Bool, true, false, cond, List, [], ◌∷◌, ◌==◌, from_bits, Float}
use Rattle.std.specs.Float.{binary64}
use Rattle.std.specs.Float.Ieee.{le}
use Rattle.grid.specs.declared.DexelGrid.{DexelGrid}
use Rattle.log_model.specs.Logs.{entry_at, entry_count, entries, names_some_ray, entry_ray, HitKind, hit_lo, hit_hi}
use Rattle.log_model.specs.Model.{NamesNoRay}

-- each whole entry names a ray
unfoldable pub EachNamed : DexelGrid → List Float → Type 0
EachNamed g log = (i : ℕ) → i < entry_count log → names_some_ray g (entry_at log i) ≡ true

-- the answer whether each whole entry names a ray: if not, document 01's 17 is present
pub record NamesAll (g : DexelGrid) (log : List Float) (r : Bool) : Type 0 where
  pub yes : r ≡ true → EachNamed g log
  pub no : r ≡ false → NamesNoRay g (entries log)

-- how many rays stand before those along an axis, where so many run along the first and the second one: axis 2 is at least 2, axis 1 at
-- least 1
unfoldable pub before_axis : Float → (first second : ℕ) → ℕ
before_axis axis first second =
    cond (le (from_bits binary64 0x4000_0000_0000_0000) axis) (first + second)
    (cond (le (from_bits binary64 0x3ff0_0000_0000_0000) axis) first 0)

-- of the places i to i + k - 1 those whose entry is on the ray, in a log whose entries each name one
unfoldable pub named_from : DexelGrid → List Float → (ray i k : ℕ) → List ℕ
named_from g log ray i zero = []
named_from g log ray i (suc k) =
    cond (entry_ray g (entry_at log i) == ray) (i ∷ named_from g log ray (suc i) k) (named_from g log ray (suc i) k)

-- the outer or the inner pairs of the entries at the places, as a flat list
unfoldable pub pairs_at : List Float → List ℕ → HitKind → List Float
pairs_at log [] w = []
pairs_at log (i ∷ is) w = hit_lo w (entry_at log i) ∷ hit_hi w (entry_at log i) ∷ pairs_at log is w
