-- What the check of one ray's change makes use of: lists with the ends of sound ones are sound, and lent parts of the pairs are the lists.
use mathlib.Core.Path.{◌≡◌, subst}
use mathlib.Core.Bool.{Bool, true, ◌&&◌}
use mathlib.Core.List.{List}
use Prim.Native.Nat.{ℕ, ◌<◌}
use lib.Ieee.{Float}
use Rattle.logic.proofs.Bools.{and_left, and_right}
use Rattle.spans.specs.Spans.{sound, equal}
use Rattle.grid.specs.Rays.{ray_count}
use Rattle.grid.specs.declared.DexelStockSpec.{DexelStockSpec}
use Rattle.grid.specs.declared.DexelGrid.{DexelGrid}
use Rattle.change_list.specs.Removal.{ChangeAllowed}
use Rattle.change_list.proofs.Lists.{sound-equal}
use Rattle.logic.specs.Logic.{Decides}
use Rattle.change_list.specs.Steps.{SoundWithRoom}
use Rattle.stock.specs.Stock.{ray_list, Possible, Certain}
use Rattle.store.specs.Store.{Cells}

-- old lists that are the store's are sound, as the store's are
pub old-sound : (spec : DexelStockSpec) (g : DexelGrid) (c : Cells) (ray : ℕ) (p q : List Float)
    → SoundWithRoom spec g c → ray < ray_count g
    → (equal (ray_list spec c ray Possible) p && equal (ray_list spec c ray Certain) q) ≡ true
    → (sound p ≡ true) × (sound q ≡ true)
old-sound spec g c ray p q lent l w =
    let v = lent.is_sound.valid ray l in (
      sound-equal (ray_list spec c ray Possible) p
          (and_left (equal (ray_list spec c ray Possible) p) (equal (ray_list spec c ray Certain) q) w) v.possible_sound,
      sound-equal (ray_list spec c ray Certain) q
          (and_right (equal (ray_list spec c ray Possible) p) (equal (ray_list spec c ray Certain) q) w) v.certain_sound,
    )

-- ---- `check_removal_at`: a part of the pairs that is lent
module _ (spec : DexelStockSpec) (g : DexelGrid) (c : Cells) (ray : ℕ) (r : Bool) where
  pub allowed-parts : (p q p' q' a b a' b' : List Float) → p ≡ a → q ≡ b → p' ≡ a' → q' ≡ b'
      → Decides (ChangeAllowed spec g c ray p q p' q') r → Decides (ChangeAllowed spec g c ray a b a' b') r
  allowed-parts p q p' q' a b a' b' e f e' f' t =
      subst (λ (x : List Float). Decides (ChangeAllowed spec g c ray x b a' b') r) e
      (subst (λ (x : List Float). Decides (ChangeAllowed spec g c ray p x a' b') r) f
      (subst (λ (x : List Float). Decides (ChangeAllowed spec g c ray p q x b') r) e'
      (subst (λ (x : List Float). Decides (ChangeAllowed spec g c ray p q p' x) r) f' t)))
