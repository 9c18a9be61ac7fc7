-- How long the list of the pairs on a ray is.
use Rattle.std.proofs.Common.{◌≡◌, ℕ, ◌*◌, ◌%◌, ◌≤◌, Bool, true, false, cond, ◌&&◌, eqb, List, [], ◌∷◌, length, refl, arith}
use Rattle.grid.specs.declared.DexelGrid.{DexelGrid}
use Rattle.log_model.specs.declared.Entry.{Entry}
use Rattle.log_model.specs.Logs.{names_some_ray, entry_ray, HitKind, hit_lo, hit_hi, hits_on_ray}

module _ (g : DexelGrid) (ray : ℕ) (w : HitKind) where
  pub named-even : (es : List Entry) → length (hits_on_ray g es ray w) % 2 ≡ 0
  unfolding hits_on_ray
  named-even [] = refl
  named-even (e ∷ es) = go (names_some_ray g e && eqb (entry_ray g e) ray) (named-even es)
    where
      go : (b : Bool) → length (hits_on_ray g es ray w) % 2 ≡ 0
          → length (cond b (hit_lo w e ∷ hit_hi w e ∷ hits_on_ray g es ray w) (hits_on_ray g es ray w)) % 2 ≡ 0
      go true h = omega arith
      go false h = h

  -- an entry brings one pair at most
  pub named-most : (es : List Entry) → length (hits_on_ray g es ray w) ≤ 2 * length es
  unfolding hits_on_ray
  named-most [] = omega arith
  named-most (e ∷ es) = go (names_some_ray g e && eqb (entry_ray g e) ray) (named-most es)
    where
      go : (b : Bool) → length (hits_on_ray g es ray w) ≤ 2 * length es
          → length (cond b (hit_lo w e ∷ hit_hi w e ∷ hits_on_ray g es ray w) (hits_on_ray g es ray w)) ≤ 2 * length (e ∷ es)
      go true h = omega arith
      go false h = omega arith
