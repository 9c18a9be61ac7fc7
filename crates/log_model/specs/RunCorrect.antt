-- Demand 3, whole: of every run from a sound store, and of every two that are alike in hits.
use Rattle.std.specs.Prelude.{◌≡◌, true, List, Float}
use Rattle.std.specs.Float.Ieee.{eq}
use Rattle.grid.specs.declared.DexelGrid.{DexelGrid}
use Rattle.log_model.specs.Logs.{HitKind, hit_lo, hit_hi, Hit, Commit}
use Rattle.spans.specs.Spans.{holds, sound, equal}
use Rattle.grid.specs.declared.DexelStockSpec.{DexelStockSpec}
use Rattle.log_model.specs.Model.{pair_total, LogAnswer, accepted_logs}
use Rattle.log_model.specs.Runs.{StoreView, Run, RunMeetsModel}
use Rattle.grid.specs.Rays.{Ray}
use Rattle.stock.specs.Stock.{Kind, Possible, Certain}

-- each hit of the first logs stands in the second, by ray, kind and ends as numbers
unfoldable pub HitsIncluded : (g : DexelGrid) → List (List Float) → List (List Float) → Type 0
unfolding hit_lo hit_hi
HitsIncluded g ls ms = (r : Ray g) (w : HitKind) (h : Hit g ls r w)
    → (i : Hit g ms r w) × (eq (hit_lo w h.entry) (hit_lo w i.entry) ≡ true) × (eq (hit_hi w h.entry) (hit_hi w i.entry) ≡ true)

-- document 01's "alike in hits", of the accepted logs of two lists of commits
unfoldable pub Alike : (g : DexelGrid) → List (List Float) → List (List Float) → Type 0
unfolding HitsIncluded
Alike g ls ms = HitsIncluded g ls ms × HitsIncluded g ms ls

-- what a run needs of the stores that are read as sound
pub record SoundView (g : DexelGrid) (R : StoreView g) : Type 0 where
  pub sound_list : (s : R.Store) → R.Sound s → (r : Ray g) (k : Kind) → sound (R.lists s r k) ≡ true
  pub within : (s : R.Store) → R.Sound s → (r : Ray g) (p : Float) → holds (R.lists s r Certain) p ≡ true
      → holds (R.lists s r Possible) p ≡ true
  pub all_pairs : (s : R.Store) → R.Sound s → R.intervals s ≡ pair_total g (R.lists s)

-- two stores with equal lists and interval totals
pub record StoresAgree (g : DexelGrid) (R : StoreView g) (t u : R.Store) : Type 0 where
  pub same_lists : (r : Ray g) (k : Kind) → equal (R.lists t r k) (R.lists u r k) ≡ true
  pub same_total : R.intervals t ≡ R.intervals u

-- DEMAND 3, whole: of every run from a sound store, and of every two that are alike in the hits of their accepted logs
pub record RunCorrect (spec : DexelStockSpec) (g : DexelGrid) (R : StoreView g) : Type 0 where
  pub meets_model : (s t : R.Store) (cs : List Commit) (vs : List LogAnswer) → R.Sound s → Run spec g R s cs vs t
      → RunMeetsModel spec g R s cs vs t
  pub agrees : (s t u : R.Store) (cs ds : List Commit) (vs ws : List LogAnswer) → R.Sound s → Run spec g R s cs vs t
      → Run spec g R s ds ws u
      → Alike g (accepted_logs cs vs) (accepted_logs ds ws) → StoresAgree g R t u
