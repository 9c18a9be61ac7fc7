-- From a sound store and the merged lists in the work buffer to the store with the log's updates done. The updates
-- that stand in the buffer are those that the log asks, so they ascend and fit the budget: every one finds room once
-- all are freed.
use mathlib.Core.Path.{◌≡◌, refl, sym, ap, ap₂, ◌∙◌, subst}
use mathlib.Core.List.{List, ◌++◌}
use Prim.Native.Nat.{ℕ, ◌+◌, ◌-◌, ◌*◌, ◌≤◌}
use native.Mathlib.Omega.{arith}
use lib.ListN.{length, take, replicate, length-replicate}
use lib.Ieee.{Float}
use Rattle.doubles.specs.Constants.{plus_zero}
use Rattle.grid.specs.Rays.{ray_count}
use Rattle.grid.specs.declared.DexelStockSpec.{DexelStockSpec}
use Rattle.grid.specs.declared.DexelGrid.{DexelGrid}
use Rattle.store.specs.Updates.{Update, pairs_freed, pairs_laid, freed_all, laid_all, applied}
use Rattle.store.proofs.Updating.{FreedAll, freed-all, all-empty, kept-room}
use Rattle.stock.specs.Stock.{Stock, ray_lists}
use Rattle.log_model.specs.Logs.{entries, entry_count}
use Rattle.log_model.specs.Counts.{pairs_after}
use Rattle.log_model.proofs.Doubles.{DoubleCells, Doubles, all-doubles}
use Rattle.log_group.specs.Groups.{GroupPost}
use Rattle.log_lay.specs.Updates.{updates_from, lists_end}
use Rattle.log_lay.specs.Steps.{FreeRaysPre, EachLayable, LayRaysPre}
use Rattle.log_lay.proofs.Room.{each-layable, no-cursor}
use Rattle.log_model.specs.Updates.{MergeUpdates}
use Rattle.log_model.proofs.AcceptedLog.{ascend, intervals-left}
use Rattle.log_merge.specs.All.{MergeAllPre, MergeAllPost}
use Rattle.commit_apply.specs.Apply.{ApplyPre, ApplyPost}
use Rattle.store.specs.Steps.{Room, Ascending}
use Rattle.store.specs.Store.{Cells, ChainsSound}

module _ (spec : DexelStockSpec) (g : DexelGrid) (c : Cells) (log w : List Float) (ready : ApplyPre spec g c log w) where
  -- a stock with these cells: the laws of an accepted log need one, of whatever generation
  abbrev some : Stock
  some = record { cells = c; generation = 0; intervals = ready.total }

  pub group-room : ray_count g + entry_count log ≤ length w
  group-room = omega (arith, ready.work_room, ready.facts.budget)

  few : pairs_after g (ray_lists spec g some.cells) (entries log) ≤ spec.max_intervals
  few = ready.few_pairs

  pub mergeable : (w₁ : List Float) → GroupPost g log w w₁ → MergeAllPre spec g c log w₁
  mergeable w₁ k = record {
    grid = ready.facts;
    room = ready.room;
    stock = some;
    of_cells = refl;
    sound = ready.sound;
    grouped = k.grouped;
    budget = few;
    pairs = omega (arith, ready.work_room, k.size);
  }

  module _ (w₁ w₂ : List Float) (m : ℕ) (k : GroupPost g log w w₁) (merged : MergeAllPost spec g c log w₁ w₂ m) where
    -- the updates that stand in the work buffer
    abbrev us : List Update
    us = updates_from w₂ (ray_count g + entry_count log) (ray_count g + entry_count log + 2 * ray_count g) 0 (ray_count g)

    same_size : length w₂ ≡ length w
    same_size = merged.size ∙ k.size

    asked : MergeUpdates g (ray_lists spec g some.cells) (entries log) 0 us m
    asked = merged.merges some refl

    module _ (ds : DoubleCells c.spans) (dl : DoubleCells log) where
      doubles : Doubles g (ray_lists spec g some.cells) (entries log)
      doubles = all-doubles spec g some log ds dl

      in_order : Ascending (2 * ray_count g) 0 us
      in_order = ascend spec g some ready.sound ready.room (entries log) doubles us m asked

      fits : ready.total - pairs_freed spec.max_intervals c us + pairs_laid us ≤ spec.max_intervals
      fits = omega (arith, intervals-left spec g some ready.sound ready.room (entries log) doubles us m asked, few)

      -- each update finds room once all lists are freed
      each : EachLayable spec.max_intervals (freed_all spec.max_intervals c us) us
      each =
          let f : FreedAll spec.max_intervals (2 * ray_count g) ready.total c us
          (freed_all spec.max_intervals c us) = freed-all ready.sound.store ready.room in_order in
          each-layable (f.is_sound (ready.total - pairs_freed spec.max_intervals c us) (omega (arith, f.fewer)))
          (kept-room f.kept ready.room) in_order (all-empty ready.sound.store ready.room in_order) fits

    module _ (rays : ℕ) (e : rays ≡ ray_count g) (count : ℕ) (n : count ≡ entry_count log) where
      us-is : updates_from w₂ (rays + count) (rays + count + 2 * rays) 0 rays ≡ us
      us-is = ap₂ (λ (x y : ℕ). updates_from w₂ (x + y) (x + y + 2 * x) 0 x) e n

      end_is : lists_end w₂ (rays + count) (rays + count + 2 * rays) 0 rays
          ≡ lists_end w₂ (ray_count g + entry_count log) (ray_count g + entry_count log + 2 * ray_count g) 0 (ray_count g)
      end_is = ap₂ (λ (x y : ℕ). lists_end w₂ (x + y) (x + y + 2 * x) 0 x) e n

      -- the sizes lie in the work buffer
      pub sizes-fit : rays + count + 2 * rays ≤ length w
      sizes-fit = omega (arith, e, n, ready.work_room, ready.facts.budget)

      sizes-room : rays + count + 2 * rays ≤ length w₂
      sizes-room = omega (arith, sizes-fit, same_size)

      pub freeable : FreeRaysPre spec.max_intervals c w₂ (rays + count) rays
      freeable = record {
        in_sizes = sizes-room;
        room = subst (λ (x : ℕ). Room spec.max_intervals (2 * x) c) (sym e) ready.room;
        total = ready.total;
        store = subst (λ (x : ℕ). ChainsSound spec.max_intervals (2 * x) ready.total c) (sym e) ready.sound.store;
      }

      module _ (d : Cells) (freed : (q : ℕ)
          → d ≡ freed_all spec.max_intervals c (updates_from w₂ (rays + count) q 0 rays)) where
        d-is : d ≡ freed_all spec.max_intervals c us
        d-is = freed (rays + count + 2 * rays) ∙ ap (freed_all spec.max_intervals c) us-is

        pub layable : DoubleCells c.spans → DoubleCells log → LayRaysPre spec.max_intervals d w₂ (rays + count) 0 rays
            (record { from = 0; at = rays + count + 2 * rays })
        layable ds dl = record {
          in_sizes = omega (arith, sizes-room);
          in_lists = omega (arith, end_is, merged.ends);
          each = subst (EachLayable spec.max_intervals d) (sym us-is)
              (subst (λ (x : Cells). EachLayable spec.max_intervals x us) (sym d-is) (each ds dl));
          cursor = no-cursor spec.max_intervals d;
        }

        pub done : (b : Cells) (w₃ : List Float)
            → b ≡ laid_all spec.max_intervals d
            (updates_from w₂ (rays + count) (rays + count + 2 * rays) 0 rays)
            → w₃ ≡ take 0 w₂ ++ replicate (length w₂ - 0) plus_zero → ApplyPost spec g c log w m b w₃
        unfolding applied
        done b w₃ laid clear = record {
          updates = us;
          merges = found;
          left = laid ∙ ap₂ (laid_all spec.max_intervals) d-is us-is;
          cleared = clear ∙ ap (λ (n : ℕ). replicate n plus_zero) (all (length w₂) ∙ same_size);
        }
          where
            found : MergeUpdates g (ray_lists spec g c) (entries log) 0 us m
            found = asked

            all : (n : ℕ) → n - 0 ≡ n
            all n = omega arith

-- the work buffer keeps its size
pub cleared-size : (spec : DexelStockSpec) (g : DexelGrid) (c : Cells) (log w : List Float) (m : ℕ) (d : Cells)
    (w₃ : List Float) → ApplyPost spec g c log w m d w₃ → length w₃ ≡ length w
cleared-size spec g c log w m d w₃ r = ap length r.cleared ∙ length-replicate (length w) plus_zero
