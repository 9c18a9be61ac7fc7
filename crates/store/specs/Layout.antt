-- What the cells of a store hold for one ray, and for one record.
use Rattle.std.specs.Prelude.{List, ℕ, ◌+◌, ◌*◌, Float, get_or}
use Rattle.store.specs.Store.{lo_at, hi_at, next_at}
use Rattle.store.specs.declared.RayHeads.{RayHeads}
use Rattle.store.specs.declared.Record.{Record}

-- the heads of a ray's possible and certain list
abbrev pub heads_of : List ℕ → ℕ → RayHeads
heads_of heads ray = record { possible = get_or heads (2 * ray) 0; certain = get_or heads (2 * ray + 1) 0 }

-- the record at place i, as a reader of its list sees it
abbrev pub record_of : List Float → List ℕ → ℕ → Record
record_of spans links i = record { lo = lo_at spans i; hi = hi_at spans i; next = next_at links i }
