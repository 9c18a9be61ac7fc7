-- The entries of a log that keys stand for, their hits, and what of these counts in a stretch of numbers.
use Rattle.std.specs.Prelude.{◌≡◌, Bool, true, false, cond, List, [], ◌∷◌, ◌++◌, ◌⊎◌, ℕ, zero, suc, ◌%◌, get_or, Float}
use Rattle.std.specs.Float.Ieee.{lt, of_bits}
use Rattle.std.specs.Float.{binary64}
use Rattle.grid.specs.declared.DexelGrid.{DexelGrid}
use Rattle.spans.specs.Spans.{within, holds}
use Rattle.log_model.specs.declared.Entry.{Entry}
use Rattle.log_model.specs.Logs.{entry_at, entry_count, entries, outer, inner, hit_lo, hit_hi, hits_on_ray}

-- the entry that a key stands for: what the key leaves when it is divided by the number of entries is its place
unfoldable pub entry_of_key : List Float → ℕ → Entry
unfolding entry_at
entry_of_key log key = entry_at log (key % entry_count log)

-- the hits with those of one entry more in front: a possible list loses the inner one, a certain list the outer one too
unfoldable pub with_entry : Entry → (certain : Bool) → List Float → List Float
unfolding hit_lo hit_hi
with_entry e true hits = hit_lo inner e ∷ hit_hi inner e ∷ hit_lo outer e ∷ hit_hi outer e ∷ hits
with_entry e false hits = hit_lo inner e ∷ hit_hi inner e ∷ hits

-- the hits of the entries of the first i keys, the last first
unfoldable pub hits_to : List Float → List ℕ → (certain : Bool) → ℕ → List Float
unfolding entry_of_key with_entry
hits_to log keys certain zero = []
hits_to log keys certain (suc i) = with_entry (entry_of_key log (get_or keys i 0)) certain (hits_to log keys certain i)

-- what a ray's possible list loses, or its certain list
abbrev pub loses_of : DexelGrid → List Float → (ray : ℕ) → (certain : Bool) → List Float
loses_of g log ray true = hits_on_ray g (entries log) ray outer ++ hits_on_ray g (entries log) ray inner
loses_of g log ray false = hits_on_ray g (entries log) ray inner

-- plus infinity, which no hit reaches past
abbrev pub top : Float
top = of_bits binary64 0x7ff0_0000_0000_0000

-- the pairs that begin past b
unfoldable pub pairs_past : Float → List Float → List Float
pairs_past b [] = []
pairs_past b (lo ∷ []) = []
pairs_past b (lo ∷ hi ∷ l) = cond (lt b lo) (lo ∷ hi ∷ pairs_past b l) (pairs_past b l)

-- Between b and u the points f are those below `front` and those of the pairs. What lies from b on below `front`, or
-- in a pair, is of f anywhere.
pub record Stretch (b u front : Float) (pairs : List Float) (f : Float → Bool) : Type 0 where
  pub only_front : (x : Float) → within b front x ≡ true → f x ≡ true
  pub only_pairs : (x : Float) → holds pairs x ≡ true → f x ≡ true
  pub all : (x : Float) → within b u x ≡ true → f x ≡ true → (lt x front ≡ true) ⊎ (holds pairs x ≡ true)
