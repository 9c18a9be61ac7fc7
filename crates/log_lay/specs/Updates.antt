-- The new lists of the changed rays of a log commit, as they stand in the work buffer between merging and laying: two
-- sizes for each ray, and the lists themselves one after the other.
use Rattle.std.specs.Prelude.{cond, List, [], ◌∷◌, ℕ, zero, suc, ◌+◌, ◌-◌, ◌*◌, eqb, take, drop, Float}
use Rattle.store.specs.Updates.{Update, update}
use Rattle.log_numbers.specs.Numbers.{number_at}

-- the first size of a ray: 0 where it does not change, else one more than the pairs of its new possible list
abbrev pub first_size : List Float → ℕ → ℕ → ℕ
first_size w sizes ray = number_at w (sizes + 2 * ray)

-- the cells of the new possible list of a changed ray, and of its new certain list
abbrev pub possible_cells : List Float → ℕ → ℕ → ℕ
possible_cells w sizes ray = 2 * (first_size w sizes ray - 1)

abbrev pub certain_cells : List Float → ℕ → ℕ → ℕ
certain_cells w sizes ray = 2 * number_at w (sizes + 2 * ray + 1)

-- the updates of k rays from `ray` on. The sizes of all rays stand from cell `sizes` on, the new lists of these from
-- cell q on, possible first
unfoldable pub updates_from : List Float → (sizes q ray k : ℕ) → List Update
updates_from w sizes q ray zero = []
updates_from w sizes q ray (suc k) =
    cond (eqb (first_size w sizes ray) 0)
    (updates_from w sizes q (suc ray) k)
    (update (2 * ray) (take (possible_cells w sizes ray) (drop q w))
    ∷ update (2 * ray + 1) (take (certain_cells w sizes ray) (drop (q + possible_cells w sizes ray) w))
    ∷ updates_from w sizes (q + possible_cells w sizes ray + certain_cells w sizes ray) (suc ray) k)

-- the cell past the new lists of these rays
unfoldable pub lists_end : List Float → (sizes q ray k : ℕ) → ℕ
lists_end w sizes q ray zero = q
lists_end w sizes q ray (suc k) =
    cond (eqb (first_size w sizes ray) 0)
    (lists_end w sizes q (suc ray) k)
    (lists_end w sizes (q + possible_cells w sizes ray + certain_cells w sizes ray) (suc ray) k)
