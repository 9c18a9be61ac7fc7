-- Whether a sound list changes when hits are taken from it, and how many pairs it then has, told from the list and the hits alone. So a
-- log commit decides 9 and 10 before it writes anything.
use Rattle.std.specs.Prelude.{Bool, false, cond, not, ◌&&◌, ◌||◌, List, [], ◌∷◌, ◌++◌, ℕ, suc, ◌+◌, Float}
use Rattle.std.specs.Float.Ieee.{lt, eq}
use Rattle.spans.specs.Spans.{holds}
use Rattle.grid.specs.declared.DexelGrid.{DexelGrid}
use Rattle.log_model.specs.declared.Entry.{Entry}
use Rattle.log_model.specs.Logs.{outer, inner, hits_on_ray}
use Rattle.log_model.specs.Model.{sum_to, sum_over}
use Rattle.grid.specs.Rays.{Ray}
use Rattle.stock.specs.Stock.{Kind, Possible, Certain}

-- a pair of the list has a point in [lo, hi), where lo < hi
unfoldable pub meets : Float → Float → List Float → Bool
meets lo hi [] = false
meets lo hi (a ∷ []) = false
meets lo hi (a ∷ b ∷ l) = (lt lo b && lt a hi) || meets lo hi l

-- a hit, which is a pair with lo < hi, has a point of the list
unfoldable pub is_hit_by : List Float → List Float → Bool
unfolding meets
is_hit_by l [] = false
is_hit_by l (lo ∷ []) = false
is_hit_by l (lo ∷ hi ∷ hits) = (lt lo hi && meets lo hi l) || is_hit_by l hits

-- the los of a list, and the his of hits
unfoldable pub los_of : List Float → List Float
los_of [] = []
los_of (lo ∷ []) = []
los_of (lo ∷ hi ∷ l) = lo ∷ los_of l

-- only a pair with lo < hi is a hit
unfoldable pub his_of : List Float → List Float
his_of [] = []
his_of (lo ∷ []) = []
his_of (lo ∷ hi ∷ l) = cond (lt lo hi) (hi ∷ his_of l) (his_of l)

-- x is equal, as a number, to one of the list
unfoldable pub member_eq : Float → List Float → Bool
member_eq x [] = false
member_eq x (y ∷ l) = eq x y || member_eq x l

-- how many distinct numbers of the list pass the test
unfoldable pub count_distinct : (Float → Bool) → List Float → ℕ
unfolding member_eq
count_distinct test [] = 0
count_distinct test (x ∷ l) = cond (test x && not (member_eq x l)) (suc (count_distinct test l)) (count_distinct test l)

-- where the pairs of (l less hits) start: at a lo of l or a hi of a hit, in l and in no hit
unfoldable pub starts_left : List Float → List Float → ℕ
unfolding count_distinct los_of his_of holds
starts_left l hits = count_distinct (λ x. holds l x && not (holds hits x)) (los_of l ++ his_of hits)

-- ---- the same for all rays, with the lists of a sound store

-- the pairs whose points a log takes from a list
unfoldable pub hits_on_list : (g : DexelGrid) → List Entry → Ray g → Kind → List Float
unfolding hits_on_ray
hits_on_list g es r Possible = hits_on_ray g es r.0 inner
hits_on_list g es r Certain = hits_on_ray g es r.0 outer ++ hits_on_ray g es r.0 inner

-- a list of the ray would change
unfoldable pub is_ray_changed : (g : DexelGrid) → (Ray g → Kind → List Float) → List Entry → Ray g → Bool
unfolding is_hit_by hits_on_list
is_ray_changed g lists es r = is_hit_by (lists r Possible) (hits_on_list g es r Possible) || is_hit_by (lists r Certain) (hits_on_list g es r Certain)

-- how many rays would change
unfoldable pub changed_ray_count : (g : DexelGrid) → (Ray g → Kind → List Float) → List Entry → ℕ
unfolding is_ray_changed sum_to
changed_ray_count g lists es = sum_over g (λ r. cond (is_ray_changed g lists es r) 1 0)

-- how many pairs all lists would then have
unfoldable pub pairs_after : (g : DexelGrid) → (Ray g → Kind → List Float) → List Entry → ℕ
unfolding starts_left hits_on_list sum_to
pairs_after g lists es = sum_over g
    (λ r. starts_left (lists r Possible) (hits_on_list g es r Possible)
    + starts_left (lists r Certain) (hits_on_list g es r Certain))
