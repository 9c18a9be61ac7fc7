-- The rays one after the other: what stands in the buffer for those that are merged holds in every later buffer that keeps it.
use mathlib.Core.Path.{◌≡◌, refl, sym, ap, ap₂, ◌∙◌, subst, subst₂}
use mathlib.Core.Bool.{true, false}
use Rattle.std.specs.Prelude.{Option, None, Some}
use mathlib.Core.List.{List, ◌∷◌}
use Prim.Native.Nat.{ℕ, zero, suc, ◌+◌, ◌-◌, ◌*◌, ◌^◌, ◌≤◌, ◌<◌}
use native.Mathlib.Nat.{le_refl, le_of_lt}
use native.Mathlib.Omega.{arith}
use borrow.Author.Tests.{eq-eqb, ne_eqb}
use lib.Dec.{eqb}
use lib.ListN.{length, get_or, set, take, drop, length-set}
use lib.Seq.{get_or-set_other}
use lib.Ieee.{Float, nan}
use Rattle.grid.specs.Rays.{ray_count, Ray}
use Rattle.grid.specs.declared.DexelStockSpec.{DexelStockSpec}
use Rattle.grid.specs.declared.DexelGrid.{DexelGrid}
use Rattle.store.specs.Updates.{Update, update}
use Rattle.stock.specs.Stock.{Stock, SoundCells, Kind, Possible, Certain, ray_lists}
use Rattle.stock.proofs.Rays.{sound-chained}
use Rattle.log_model.specs.declared.Entry.{Entry}
use Rattle.log_model.specs.Logs.{entries, entry_count}
use Rattle.log_model.specs.Model.{sum_to}
use Rattle.log_model.specs.Counts.{starts_left, hits_on_list, pairs_after}
use Rattle.log_model.proofs.Doubles.{DoubleCells, Doubles, all-doubles}
use Rattle.log_numbers.specs.Numbers.{number_cell, number_at, largest_number}
use Rattle.log_numbers.proofs.Cells.{number_put, number_same}
use Rattle.log_lay.specs.Updates.{first_size, possible_cells, certain_cells, updates_from, lists_end}
use Rattle.log_lay.proofs.Lists.{updates-none, end_none, updates-same, end_same, updates-new, end-new}
use Rattle.log_model.specs.Updates.{MergeUpdates, none, same, new}
use Rattle.log_model.proofs.Totals.{sum-at, sum-next}
use Rattle.log_group.specs.Groups.{Grouped}
use Rattle.log_group.proofs.Chains.{grouped-kept}
use Rattle.ray_subtract.specs.Steps.{cells_from}
use Rattle.ray_subtract.proofs.Places.{part_same}
use Rattle.log_merge.specs.Rays.{LoadPre, MergeRayPost, limit_of}
use Rattle.log_merge.specs.All.{first_size_of, second_size_of, one_if_changed, sizes_at, lists_from, MergeAllPre, MergeAllPost}
use Rattle.log_merge.specs.declared.RayUpdate.{RayUpdate}
use Rattle.log_merge.proofs.MergedRay.{changes, changes-not, new-exact, cells-left}
use Rattle.log_merge.proofs.Cutting.{new_cells_of, cells-most}
use Rattle.store.specs.Store.{Cells}

-- the stock of the cells; its small record does not count here
abbrev pub stock_of : Cells → Stock
stock_of c = record { cells = c; generation = 0; intervals = 0 }

-- the lists of a stock are those of its cells
lists-by-cells : (spec : DexelStockSpec) (g : DexelGrid) (s : Stock) (c : Cells) → s.cells ≡ c
    → ray_lists spec g s.cells ≡ ray_lists spec g (stock_of c).cells
lists-by-cells spec g s c f = ap (λ (d : Cells). ray_lists spec g (stock_of d).cells) f

-- ---- sums over rays
-- the pairs that a ray will have
abbrev pub left_pairs : (g : DexelGrid) → (Ray g → Kind → List Float) → List Entry → Ray g → ℕ
left_pairs g lists es r = starts_left (lists r Possible) (hits_on_list g es r Possible)
    + starts_left (lists r Certain) (hits_on_list g es r Certain)

-- some rays have no more than all
sum-most : (g : DexelGrid) (f : Ray g → ℕ) (k i : ℕ) (h : i ≤ ray_count g) (n : ℕ) (e : n ≡ i + k) (l : n ≤ ray_count g)
    → sum_to g f i h ≤ sum_to g f n l
sum-most g f zero i h n e l = omega (arith, sum-at g f i n h (sym (e ∙ none_more i)) l)
  where
    none_more : (i : ℕ) → i + 0 ≡ i
    none_more i = omega arith
sum-most g f (suc k) i h zero e l = absurd (omega arith)
sum-most g f (suc k) i h (suc n) e l = omega (arith, sum-most g f k i h n (omega arith) (le_of_lt l), sum-next g f n (le_of_lt l) l)

-- ---- what is kept of a buffer: the sizes of the first rays, and their lists up to cell q
pub record Keeps (g : DexelGrid) (log w v : List Float) (ray q : ℕ) : Type 0 where
  pub size : length v ≡ length w
  pub sizes : (k : ℕ) → sizes_at g log ≤ k → k < sizes_at g log + 2 * ray → get_or v k nan ≡ get_or w k nan
  pub lists : (k : ℕ) → lists_from g log ≤ k → k < q → get_or v k nan ≡ get_or w k nan

-- the first `ray` rays are merged, their new lists end at cell q, and so many of them change
pub record Merging (spec : DexelStockSpec) (g : DexelGrid) (c : Cells) (log before w : List Float) (ray q changed : ℕ) : Type 0 where
  pub size : length w ≡ length before
  pub most : ray ≤ ray_count g
  pub grouped : Grouped g log w
  pub low : lists_from g log ≤ q
  pub room : (h : ray ≤ ray_count g)
      → q ≤ lists_from g log + 2 * sum_to g (left_pairs g (ray_lists spec g (stock_of c).cells) (entries log)) ray h
  pub few : changed ≤ ray
  pub ends : (v : List Float) → Keeps g log w v ray q
      → lists_end v (sizes_at g log) (lists_from g log) 0 (ray_count g) ≡ lists_end v (sizes_at g log) q ray (ray_count g - ray)
  pub rest : (v : List Float) → Keeps g log w v ray q → (m : ℕ)
      → MergeUpdates g (ray_lists spec g (stock_of c).cells) (entries log) ray
      (updates_from v (sizes_at g log) q ray (ray_count g - ray)) m
      → MergeUpdates g (ray_lists spec g (stock_of c).cells) (entries log) 0
      (updates_from v (sizes_at g log) (lists_from g log) 0 (ray_count g)) (changed + m)

module _ (spec : DexelStockSpec) (g : DexelGrid) (c : Cells) (log before : List Float) where
  pub merging_start : Grouped g log before → Merging spec g c log before before 0 (lists_from g log) 0
  merging_start s = record {
    size = refl;
    most = omega arith;
    grouped = s;
    low = omega arith;
    room = λ h. omega arith;
    few = omega arith;
    ends = λ v k. ap (lists_end v (sizes_at g log) (lists_from g log) 0) (all (ray_count g));
    rest = λ v k m x.
        subst (λ (n : ℕ). MergeUpdates g (ray_lists spec g (stock_of c).cells) (entries log) 0
        (updates_from v (sizes_at g log) (lists_from g log) 0 n) (0 + m)) (sym (all (ray_count g)))
        (subst (MergeUpdates g (ray_lists spec g (stock_of c).cells) (entries log) 0
        (updates_from v (sizes_at g log) (lists_from g log) 0 (ray_count g - 0))) (none-and m) x);
  }
    where
      all : (n : ℕ) → n ≡ n - 0
      all n = omega arith

      none-and : (m : ℕ) → m ≡ 0 + m
      none-and m = omega arith

  -- ---- one more ray
  module _ (total : ℕ) (snd : SoundCells spec g c total) (w w₁ w₂ : List Float) (ray q changed : ℕ)
      (x : Merging spec g c log before w ray q changed) (h : ray < ray_count g)
      (r : Option RayUpdate) (m : MergeRayPost spec g c log ray q w w₁ r)
      (put : w₂ ≡ set (set w₁ (sizes_at g log + 2 * ray) (number_cell (first_size_of r))) (sizes_at g log + 2 * ray + 1)
      (number_cell (second_size_of r)))
      (fit : q + limit_of spec log ≤ length w) (small : limit_of spec log ≤ largest_number)
      (d : Doubles g (ray_lists spec g (stock_of c).cells) (entries log)) where
    abbrev at : ℕ
    at = sizes_at g log + 2 * ray

    abbrev mid : List Float
    mid = set w₁ at (number_cell (first_size_of r))

    size₂ : length w₂ ≡ length w
    size₂ = ap length put ∙ length-set mid (at + 1) (number_cell (second_size_of r))
        ∙ length-set w₁ at (number_cell (first_size_of r)) ∙ m.cut.size

    other : (k : ℕ) → (k ≡ at → ⊥) → (k ≡ at + 1 → ⊥) → get_or w₂ k nan ≡ get_or w₁ k nan
    other k a b =
        ap (λ (l : List Float). get_or l k nan) put ∙ get_or-set_other mid (at + 1) k (number_cell (second_size_of r)) nan b
        ∙ get_or-set_other w₁ at k (number_cell (first_size_of r)) nan a

    kept-front : (k : ℕ) → k < q → (k ≡ at → ⊥) → (k ≡ at + 1 → ⊥) → get_or w₂ k nan ≡ get_or w k nan
    kept-front k l a b = other k a b ∙ m.cut.front k l

    sizes-most : (first_size_of r ≤ largest_number) × (second_size_of r ≤ largest_number)
    sizes-most = go r (cells-most m.cut)
      where
        go : (o : Option RayUpdate) → new_cells_of o ≤ limit_of spec log
            → (first_size_of o ≤ largest_number) × (second_size_of o ≤ largest_number)
        go None e = (omega arith, omega arith)
        go (Some u) e = (omega arith, omega arith)

    first-is : number_at w₂ at ≡ first_size_of r
    first-is =
        number_same w₂ mid at (ap (λ (l : List Float). get_or l at nan) put
        ∙ get_or-set_other mid (at + 1) at (number_cell (second_size_of r)) nan (λ (e : at ≡ at + 1). omega arith))
        ∙ number_put w₁ at (first_size_of r) (omega (arith, m.cut.size, x.low)) sizes-most.0

    second_is : number_at w₂ (at + 1) ≡ second_size_of r
    second_is =
        ap (λ (l : List Float). number_at l (at + 1)) put
        ∙ number_put mid (at + 1) (second_size_of r) (omega (arith, m.cut.size, x.low, length-set w₁ at (number_cell (first_size_of r))))
        sizes-most.1

    abbrev next : ℕ
    next = q + new_cells_of r

    module _ (v : List Float) (k : Keeps g log w₂ v (ray + 1) next) where
      before-it : Keeps g log w v ray q
      before-it = record {
        size = k.size ∙ size₂;
        sizes = λ i a b. k.sizes i a (omega arith)
            ∙ kept-front i (omega (arith, x.low)) (λ (e : i ≡ at). omega arith) (λ (e : i ≡ at + 1). omega arith);
        lists = λ i a b. k.lists i a (omega arith) ∙ kept-front i b (λ (e : i ≡ at). omega arith) (λ (e : i ≡ at + 1). omega arith);
      }

      first-in : first_size v (sizes_at g log) ray ≡ first_size_of r
      first-in = number_same v w₂ at (k.sizes at (omega arith) (omega arith)) ∙ first-is

      second-in : number_at v (at + 1) ≡ second_size_of r
      second-in = number_same v w₂ (at + 1) (k.sizes (at + 1) (omega arith) (omega arith)) ∙ second_is

      -- a new list in v
      list-in : (i n : ℕ) → q ≤ i → i + n ≤ next → cells_from i n v ≡ cells_from i n w₁
      list-in i n a b =
          part_same i n w₁ v (omega (arith, cells-most m.cut, m.cut.size)) (k.size ∙ size₂ ∙ sym m.cut.size)
          (λ j d e. k.lists j (omega (arith, x.low)) (omega arith)
          ∙ other j (λ (f : j ≡ at). omega (arith, x.low)) (λ (f : j ≡ at + 1). omega (arith, x.low)))

      one_less : ray_count g - ray ≡ suc (ray_count g - (ray + 1))
      one_less = omega arith

      abbrev lists : Ray g → Kind → List Float
      lists = ray_lists spec g (stock_of c).cells

      abbrev left : ℕ
      left = ray_count g - (ray + 1)

      up_one : suc ray ≡ ray + 1
      up_one = omega arith

      -- the ray does not change
      module _ (e : r ≡ None) where
        same_place : q ≡ next
        same_place = omega (arith, ap new_cells_of e)

        no_size : eqb (first_size v (sizes_at g log) ray) 0 ≡ true
        no_size = eq-eqb (first_size v (sizes_at g log) ray) 0 (first-in ∙ ap first_size_of e)

        same-updates : updates_from v (sizes_at g log) q ray (ray_count g - ray) ≡ updates_from v (sizes_at g log) next (ray + 1) left
        same-updates =
            ap (updates_from v (sizes_at g log) q ray) one_less ∙ updates-same v (sizes_at g log) q ray left no_size
            ∙ ap₂ (λ (o i : ℕ). updates_from v (sizes_at g log) o i left) same_place up_one

        stays : (n : ℕ) → MergeUpdates g lists (entries log) (ray + 1) (updates_from v (sizes_at g log) next (ray + 1) left) n
            → MergeUpdates g lists (entries log) ray (updates_from v (sizes_at g log) q ray (ray_count g - ray)) n
        stays n y =
            subst (λ (us : List Update). MergeUpdates g lists (entries log) ray us n) (sym same-updates)
            (same h (changes-not spec g (stock_of c) total snd log ray h q w w₁ r m d e)
            (subst (λ (i : ℕ). MergeUpdates g lists (entries log) i (updates_from v (sizes_at g log) next (ray + 1) left) n)
            (sym up_one) y))

      -- the ray changes
      module _ (u : RayUpdate) (e : r ≡ Some u) where
        first-size : first_size v (sizes_at g log) ray ≡ u.possible + 1
        first-size = first-in ∙ ap first_size_of e

        a-size : eqb (first_size v (sizes_at g log) ray) 0 ≡ false
        a-size = ne_eqb (first_size v (sizes_at g log) ray) 0 (λ (z : first_size v (sizes_at g log) ray ≡ 0). omega (arith, first-size))

        possible-cells : possible_cells v (sizes_at g log) ray ≡ 2 * u.possible
        possible-cells = omega (arith, first-size)

        certain-cells : certain_cells v (sizes_at g log) ray ≡ 2 * u.certain
        certain-cells = ap (λ (n : ℕ). 2 * n) (second-in ∙ ap second_size_of e)

        past-it : q + possible_cells v (sizes_at g log) ray + certain_cells v (sizes_at g log) ray ≡ next
        past-it = omega (arith, possible-cells, certain-cells, ap new_cells_of e)

        possible-in : take (possible_cells v (sizes_at g log) ray) (drop q v) ≡ cells_from q (2 * u.possible) w₁
        possible-in = ap (λ (n : ℕ). take n (drop q v)) possible-cells
            ∙ list-in q (2 * u.possible) (omega arith) (omega (arith, ap new_cells_of e))

        certain-in : take (certain_cells v (sizes_at g log) ray) (drop (q + possible_cells v (sizes_at g log) ray) v)
            ≡ cells_from (q + 2 * u.possible) (2 * u.certain) w₁
        certain-in = ap₂ (λ (n o : ℕ). take n (drop (q + o) v)) certain-cells possible-cells
            ∙ list-in (q + 2 * u.possible) (2 * u.certain) (omega arith) (omega (arith, ap new_cells_of e))

        new-updates : updates_from v (sizes_at g log) q ray (ray_count g - ray)
            ≡ update (2 * ray) (cells_from q (2 * u.possible) w₁)
            ∷ update (2 * ray + 1) (cells_from (q + 2 * u.possible) (2 * u.certain) w₁)
            ∷ updates_from v (sizes_at g log) next (ray + 1) left
        new-updates =
            ap (updates_from v (sizes_at g log) q ray) one_less ∙ updates-new v (sizes_at g log) q ray left a-size
            ∙ ap₂ (λ (a b : List Float). update (2 * ray) a ∷ update (2 * ray + 1) b
            ∷ updates_from v (sizes_at g log)
            (q + possible_cells v (sizes_at g log) ray + certain_cells v (sizes_at g log) ray) (suc ray) left)
            possible-in certain-in
            ∙ ap₂ (λ (o i : ℕ). update (2 * ray) (cells_from q (2 * u.possible) w₁)
            ∷ update (2 * ray + 1) (cells_from (q + 2 * u.possible) (2 * u.certain) w₁)
            ∷ updates_from v (sizes_at g log) o i left) past-it up_one

        moves : (n : ℕ) → MergeUpdates g lists (entries log) (ray + 1) (updates_from v (sizes_at g log) next (ray + 1) left) n
            → MergeUpdates g lists (entries log) ray (updates_from v (sizes_at g log) q ray (ray_count g - ray)) (suc n)
        moves n y =
            subst (λ (us : List Update). MergeUpdates g lists (entries log) ray us (suc n)) (sym new-updates)
            (new h (changes spec g (stock_of c) total snd log ray h q w w₁ r m d e)
            (new-exact spec g (stock_of c) total snd log ray h q w w₁ r m u e)
            (subst (λ (i : ℕ). MergeUpdates g lists (entries log) i (updates_from v (sizes_at g log) next (ray + 1) left) n)
            (sym up_one) y))

      next-ends : lists_end v (sizes_at g log) q ray (ray_count g - ray) ≡ lists_end v (sizes_at g log) next (ray + 1) left
      next-ends = ap (lists_end v (sizes_at g log) q ray) one_less ∙ go r refl
        where
          go : (o : Option RayUpdate) → r ≡ o
              → lists_end v (sizes_at g log) q ray (suc left) ≡ lists_end v (sizes_at g log) next (ray + 1) left
          go (Some u) e = end-new v (sizes_at g log) q ray left (a-size u e)
              ∙ ap₂ (λ (o i : ℕ). lists_end v (sizes_at g log) o i left) (past-it u e) up_one
          go None e = end_same v (sizes_at g log) q ray left (no_size e)
              ∙ ap₂ (λ (o i : ℕ). lists_end v (sizes_at g log) o i left) (same_place e) up_one

      next-rest : (n : ℕ) → MergeUpdates g lists (entries log) (ray + 1) (updates_from v (sizes_at g log) next (ray + 1) left) n
          → MergeUpdates g lists (entries log) 0 (updates_from v (sizes_at g log) (lists_from g log) 0 (ray_count g))
          (changed + one_if_changed r + n)
      next-rest n y = go r refl
        where
          one_more : (a n : ℕ) → a + suc n ≡ a + 1 + n
          one_more a n = omega arith

          none_more : (a n : ℕ) → a + n ≡ a + 0 + n
          none_more a n = omega arith

          go : (o : Option RayUpdate) → r ≡ o
              → MergeUpdates g lists (entries log) 0 (updates_from v (sizes_at g log) (lists_from g log) 0 (ray_count g))
              (changed + one_if_changed o + n)
          go (Some u) e =
              subst (MergeUpdates g lists (entries log) 0
              (updates_from v (sizes_at g log) (lists_from g log) 0 (ray_count g))) (one_more changed n)
              (x.rest v before-it (suc n) (moves u e n y))
          go None e =
              subst (MergeUpdates g lists (entries log) 0
              (updates_from v (sizes_at g log) (lists_from g log) 0 (ray_count g))) (none_more changed n)
              (x.rest v before-it n (stays e n y))

    pub merging-step : Merging spec g c log before w₂ (ray + 1) next (changed + one_if_changed r)
    merging-step = record {
      size = size₂ ∙ x.size;
      most = omega arith;
      grouped = grouped-kept g log w w₂ size₂
          (λ k l. kept-front k (omega (arith, x.low)) (λ (e : k ≡ at). omega arith)
          (λ (e : k ≡ at + 1). omega arith)) x.grouped;
      low = omega (arith, x.low);
      room = λ l.
          let f = left_pairs g (ray_lists spec g (stock_of c).cells) (entries log) in
          omega (
            arith,
            x.room (le_of_lt h),
            sum-at g f (suc ray) (ray + 1) h (omega arith) l,
            sum-next g f ray
                (le_of_lt h) h,
            cells-left spec g (stock_of c) total snd log ray h q w w₁ r m (omega (arith, m.cut.size)),
          );
      few = count_most r;
      ends = λ v k. x.ends v (before-it v k) ∙ next-ends v k;
      rest = next-rest;
    }
      where
        count_most : (o : Option RayUpdate) → changed + one_if_changed o ≤ ray + 1
        count_most None = omega (arith, x.few)
        count_most (Some u) = omega (arith, x.few)

  -- ---- the end
  module _ (total : ℕ) (snd : SoundCells spec g c total) (w : List Float) (ray q changed : ℕ)
      (x : Merging spec g c log before w ray q changed) where
    -- the new lists have no more pairs than are left
    pub lists-most : q ≤ lists_from g log + 2 * pairs_after g (ray_lists spec g (stock_of c).cells) (entries log)
    unfolding pairs_after
    lists-most =
        omega (
          arith,
          x.room x.most,
          sum-most g (left_pairs g (ray_lists spec g (stock_of c).cells) (entries log)) (ray_count g - ray) ray
              x.most (ray_count g) (omega (arith, x.most)) (le_refl (ray_count g)),
        )

    pub merging-done : ray ≡ ray_count g → q ≤ length before → MergeAllPost spec g c log before w changed
    merging-done e fit = record {
      size = x.size;
      merges = λ s same-cells. subst
          (λ (l : Ray g → Kind → List Float). MergeUpdates g l (entries log) 0
          (updates_from w (sizes_at g log) (lists_from g log) 0 (ray_count g)) changed)
          (sym (lists-same s same-cells)) all-merged;
      ends = omega (arith, all-ends, x.size);
    }
      where
        nothing : ray_count g - ray ≡ 0
        nothing = omega arith

        itself : Keeps g log w w ray q
        itself = record { size = refl; sizes = λ k a b. refl; lists = λ k a b. refl }

        all-ends : lists_end w (sizes_at g log) (lists_from g log) 0 (ray_count g) ≡ q
        all-ends = x.ends w itself ∙ ap (lists_end w (sizes_at g log) q ray) nothing ∙ end_none w (sizes_at g log) q ray

        no_more : (n : ℕ) → n + 0 ≡ n
        no_more n = omega arith

        all-merged : MergeUpdates g (ray_lists spec g (stock_of c).cells) (entries log) 0
            (updates_from w (sizes_at g log) (lists_from g log) 0 (ray_count g)) changed
        all-merged =
            subst (MergeUpdates g (ray_lists spec g (stock_of c).cells) (entries log) 0
            (updates_from w (sizes_at g log) (lists_from g log) 0 (ray_count g))) (no_more changed)
            (x.rest w itself 0
            (subst (λ (us : List Update). MergeUpdates g (ray_lists spec g (stock_of c).cells) (entries log)
            ray us 0) (sym (ap (updates_from w (sizes_at g log) q ray) nothing
            ∙ updates-none w (sizes_at g log) q ray)) (none e)))

        lists-same : (s : Stock) → s.cells ≡ c → ray_lists spec g s.cells ≡ ray_lists spec g (stock_of c).cells
        lists-same s f = lists-by-cells spec g s c f

-- ---- in the terms of the code
module _ {spec : DexelStockSpec} {g : DexelGrid} {c : Cells} {log before : List Float}
    (pre : MergeAllPre spec g c log before) {rays : ℕ} (is : rays ≡ ray_count g) where
  total : ℕ
  total = pre.stock.intervals

  store : SoundCells spec g c total
  unfolding total
  store = subst (λ (d : Cells). SoundCells spec g d pre.stock.intervals) pre.of_cells pre.sound

  budget : pairs_after g (ray_lists spec g (stock_of c).cells) (entries log) ≤ spec.max_intervals
  budget = subst (λ (l : Ray g → Kind → List Float). pairs_after g l (entries log) ≤ spec.max_intervals)
      (lists-by-cells spec g pre.stock c pre.of_cells) pre.budget

  pub starts : Merging spec g c log before before 0 (rays + entry_count log + 2 * rays) 0
  starts = rw is (merging_start spec g c log before pre.grouped)

  module _ {w : List Float} {ray q changed : ℕ} (x : Merging spec g c log before w ray q changed) where
    -- there is room for one more ray
    pub record Fits : Type 0 where
      pub low : rays + entry_count log + 2 * rays ≤ q
      pub high : q + limit_of spec log ≤ rays + entry_count log + 2 * rays + 6 * spec.max_intervals + 6 * entry_count log
      pub all : rays + entry_count log + 2 * rays + 6 * spec.max_intervals + 6 * entry_count log + 4
          * spec.max_intervals + 4 * entry_count log ≤ length before
      pub long : length w ≡ length before
      pub few : changed ≤ ray

    pub fits : Fits
    fits = record {
      low = omega (arith, x.low);
      high = omega (arith, lists-most spec g c log before total store w ray q changed x, budget);
      all = omega (arith, pre.pairs, pre.grid.budget);
      long = x.size;
      few = x.few;
    }

    pub ray-ready : ray < rays
        → LoadPre spec g c log w ray (rays + entry_count log + 2 * rays + 6 * spec.max_intervals + 6 * entry_count log)
        × (q + limit_of spec log ≤ rays + entry_count log + 2 * rays + 6 * spec.max_intervals + 6 * entry_count log)
    ray-ready below = (
      record {
        store = sound-chained spec g c total pre.room store;
        valid = store.valid;
        grouped = x.grouped;
        below = omega arith;
        past = omega arith;
        room = omega (arith, fits.all, fits.long);
      },
      fits.high,
    )

    pub steps : DoubleCells c.spans → DoubleCells log → ray < rays → length before < 2 ^ 64
        → {w₁ w₂ : List Float} {r : Option RayUpdate} {next_q next_changed : ℕ}
        → MergeRayPost spec g c log ray q w w₁ r
        → w₂ ≡ set (set w₁ (rays + entry_count log + 2 * ray) (number_cell (first_size_of r)))
        (rays + entry_count log + 2 * ray + 1) (number_cell (second_size_of r)) → next_q ≡ q + new_cells_of r
        → next_changed ≡ changed + one_if_changed r
        → Merging spec g c log before w₂ (ray + 1) next_q next_changed
    steps ds dl below addressed {w₁} {w₂} {r} m put end count =
        subst₂ (λ (n k : ℕ). Merging spec g c log before w₂ (ray + 1) n k) (sym end) (sym count)
        (merging-step spec g c log before total store w w₁ w₂ ray q changed x (omega arith) r m
        (put ∙ ap (λ (n : ℕ). set (set w₁ (n + entry_count log + 2 * ray) (number_cell (first_size_of r)))
        (n + entry_count log + 2 * ray + 1) (number_cell (second_size_of r))) is)
        (omega (arith, fits.high, fits.all, fits.long)) (omega (arith, pre.pairs)) (all-doubles spec g (stock_of c) log ds dl))

    pub done : rays ≤ ray → MergeAllPost spec g c log before w changed
    done last = merging-done spec g c log before total store w ray q changed x (omega (arith, x.most))
        (omega (arith, fits.high, fits.all))
