-- Where every cell of the spans and of the logs is a double, so is each end of every list, of every hit, and of what hits leave of a list.
use mathlib.Core.Bool.{Bool, true, false, cond}
use mathlib.Core.List.{List, [], ◌∷◌}
use Prim.Native.Nat.{ℕ, zero, suc, ◌+◌, ◌*◌}
use lib.ListN.{get_or}
use lib.Ieee.{Float, nan, lt}
use Rattle.spans.specs.Spans.{All, Double}
use Rattle.spans.proofs.Ends.{all_append}
use Rattle.grid.specs.declared.DexelStockSpec.{DexelStockSpec}
use Rattle.grid.specs.declared.DexelGrid.{DexelGrid}
use Rattle.store.specs.Store.{places_of, ends_at}
use Rattle.stock.specs.Stock.{Stock, Kind, Possible, Certain, ray_list, list_number}
use Rattle.log_model.specs.declared.Entry.{Entry}
use Rattle.log_model.specs.Logs.{entry_at, entries_from, entry_count, entries, names_ray, HitKind, outer, inner, hit_lo, hit_hi, hits_on_ray}
use Rattle.log_model.specs.Counts.{hits_on_list}
use Rattle.log_model.proofs.Less.{piece, lower, higher, less_pair, less}
use Rattle.grid.specs.Rays.{Ray}

-- every cell is a double, which a slice of doubles knows of itself; past its end stands nan, a double too
abbrev pub DoubleCells : List Float → Type 0
DoubleCells l = (i : ℕ) → Double (get_or l i nan)

-- ---- the lists of a store

module _ (spans : List Float) (d : DoubleCells spans) where
  ends-doubles : (ps : List ℕ) → All Double (ends_at spans ps)
  unfolding ends_at
  ends-doubles [] = tt
  ends-doubles (i ∷ ps) = (d (2 * i), (d (2 * i + 1), ends-doubles ps))

pub list-doubles : (spec : DexelStockSpec) (s : Stock) → DoubleCells s.cells.spans → (r : ℕ) (k : Kind)
    → All Double (ray_list spec s.cells r k)
list-doubles spec s d r k = ends-doubles s.cells.spans d
    (places_of spec.max_intervals s.cells.links s.cells.heads (list_number r k))

-- ---- the hits of a log

module _ (g : DexelGrid) (log : List Float) (d : DoubleCells log) (r : Ray g) where
  lo-double : (i : ℕ) (w : HitKind) → Double (hit_lo w (entry_at log i))
  unfolding hit_lo entry_at
  lo-double i outer = d (6 * i + 2)
  lo-double i inner = d (6 * i + 4)

  hi-double : (i : ℕ) (w : HitKind) → Double (hit_hi w (entry_at log i))
  unfolding hit_hi entry_at
  hi-double i outer = d (6 * i + 3)
  hi-double i inner = d (6 * i + 5)

  from-doubles : (i n : ℕ) (w : HitKind) → All Double (hits_on_ray g (entries_from log i n) r.0 w)
  unfolding hits_on_ray entries_from
  from-doubles i zero w = tt
  from-doubles i (suc n) w = go (names_ray g (entry_at log i) r.0) (from-doubles (suc i) n w)
    where
      go : (b : Bool) → All Double (hits_on_ray g (entries_from log (suc i) n) r.0 w)
          → All Double (cond b (hit_lo w (entry_at log i) ∷ hit_hi w (entry_at log i) ∷ hits_on_ray g (entries_from log (suc i) n) r.0 w)
          (hits_on_ray g (entries_from log (suc i) n) r.0 w))
      go true h = (lo-double i w, (hi-double i w, h))
      go false h = h

  pub ray-hits-doubles : (w : HitKind) → All Double (hits_on_ray g (entries log) r.0 w)
  unfolding entries
  ray-hits-doubles w = from-doubles 0 (entry_count log) w

  pub hits-doubles : (k : Kind) → All Double (hits_on_list g (entries log) r k)
  unfolding hits_on_list
  hits-doubles Possible = ray-hits-doubles inner
  hits-doubles Certain = all_append Double (hits_on_ray g (entries log) r.0 outer) (hits_on_ray g (entries log) r.0 inner)
      (ray-hits-doubles outer) (ray-hits-doubles inner)

-- ---- both

-- each end of a list, and of a hit on its ray, is a double
pub record Doubles (g : DexelGrid) (lists : Ray g → Kind → List Float) (es : List Entry) : Type 0 where
  pub of_lists : (r : Ray g) (k : Kind) → All Double (lists r k)
  pub of_hits : (r : Ray g) (k : Kind) → All Double (hits_on_list g es r k)

-- so it is where a store and a log stand in slices of doubles
pub all-doubles : (spec : DexelStockSpec) (g : DexelGrid) (s : Stock) (log : List Float) → DoubleCells s.cells.spans → DoubleCells log
    → Doubles g (λ r k. ray_list spec s.cells r.0 k) (entries log)
all-doubles spec g s log ds dl = record { of_lists = λ r k. list-doubles spec s ds r.0 k; of_hits = hits-doubles g log dl }

-- ---- what hits leave of a list

one_of : (b : Bool) (x y : Float) → Double x → Double y → Double (cond b x y)
one_of true x y dx dy = dx
one_of false x y dx dy = dy

piece-doubles : (x y : Float) (l : List Float) → Double x → Double y → All Double l → All Double (piece x y l)
unfolding piece
piece-doubles x y l dx dy dl = go (lt x y)
  where
    go : (b : Bool) → All Double (cond b (x ∷ y ∷ l) l)
    go true = (dx, (dy, dl))
    go false = dl

pair-doubles : (lo hi : Float) (l : List Float) → Double lo → Double hi → All Double l → All Double (less_pair lo hi l)
unfolding less_pair lower higher
pair-doubles lo hi [] a b d = tt
pair-doubles lo hi (x ∷ []) a b d = tt
pair-doubles lo hi (x ∷ y ∷ l) a b d =
    piece-doubles x (lower y lo) (piece (higher x hi) y (less_pair lo hi l)) d.0 (one_of (lt lo y) lo y a d.1.0)
    (piece-doubles (higher x hi) y (less_pair lo hi l) (one_of (lt x hi) hi x b d.0) d.1.0 (pair-doubles lo hi l a b d.1.1))

pub less-doubles : (l hits : List Float) → All Double l → All Double hits → All Double (less l hits)
unfolding less
less-doubles l [] d h = d
less-doubles l (lo ∷ []) d h = d
less-doubles l (lo ∷ hi ∷ hits) d h = go (lt lo hi) (λ m e. less-doubles m hits e h.1.1)
  where
    go : (b : Bool) → ((m : List Float) → All Double m → All Double (less m hits)) → All Double (less (cond b (less_pair lo hi l) l) hits)
    go true f = f (less_pair lo hi l) (pair-doubles lo hi l h.0 h.1.0 d)
    go false f = f l d
