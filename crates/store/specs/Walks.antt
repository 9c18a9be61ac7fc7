-- What the functions that check a store answer.
use Rattle.std.specs.Prelude.{cond, ◌&&◌, List, ℕ, zero, suc, ◌-◌, eqb, ltb, get_or, Option, Some, None, option_and_then}
use Rattle.store.specs.Store.{next_at, owner_at}

-- A walk from record number k over at most `fuel` records of the owner o, with c records counted before: the count at its
-- end, or none where it breaks off.
unfoldable pub walk_from : List ℕ → ℕ → ℕ → ℕ → ℕ → ℕ → Option ℕ
walk_from links n o zero c zero = Some c
walk_from links n o zero c (suc i) = None
walk_from links n o (suc fuel) c zero = Some c
walk_from links n o (suc fuel) c (suc i) =
    cond (ltb i n && eqb (owner_at links i) o) (walk_from links n o fuel (suc c) (next_at links i)) None

-- the lists from j on, r of them, one after the other, with one limit on all of them
unfoldable pub walk_all : List ℕ → List ℕ → ℕ → ℕ → ℕ → ℕ → ℕ → Option ℕ
walk_all links heads n limit zero j c = Some c
walk_all links heads n limit (suc r) j c =
    option_and_then (walk_all links heads n limit r (suc j)) (walk_from links n (suc j) (limit - c) c (get_or heads j 0))
