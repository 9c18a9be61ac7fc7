-- One stretch of a long ray's hits, taken from both its lists.
use mathlib.Core.Path.{◌≡◌, ◌∙◌}
use mathlib.Core.Bool.{Bool, true, false}
use mathlib.Core.List.{List}
use Prim.Native.Nat.{ℕ}
use lib.ListN.{length}
use lib.Ieee.{Float, le}
use Rattle.grid.specs.declared.DexelGrid.{DexelGrid}
use Rattle.spans.specs.Spans.{holds}
use Rattle.log_entries.specs.Named.{EachNamed}
use Rattle.log_model.specs.Logs.{entry_count}
use Rattle.log_keys.specs.Keys.{loses_of, top}
use Rattle.log_left.specs.declared.Rest.{Rest}
use Rattle.log_long.specs.Long.{GathersTo}
use Rattle.log_long.specs.declared.LongPart.{LongPart}
use Rattle.log_stretches.specs.Stretches.{Taken, TakeHitsPost}
use Rattle.log_count.specs.Steps.{TakePartPost}
use Rattle.log_count.specs.declared.RayWalks.{RayWalks}
use Rattle.log_count.proofs.Fronts.{front_of}
use Rattle.log_count.proofs.Stretched.{part_hits, stretched, stretch-ends, stretch-onward}

-- what holds of both holds of each
pub each_bool : (P : Bool → Type 0) → P true → P false → (b : Bool) → P b
each_bool P a b true = a
each_bool P a b false = b

module _ {g : DexelGrid} {log : List Float} {ray : ℕ} (from : RayWalks) {keys : List ℕ} {w : LongPart}
    (named : EachNamed g log) (r : GathersTo g log ray from.end (entry_count log) keys w) where
  stretch-taken : {n : ℕ} {spans : List Float} {links : List ℕ} (certain : Bool) {before after : List Float} {p t : Rest}
      → TakeHitsPost n spans links from.end w.keys.end (front_of certain w) (part_hits log keys w certain) before after p t
      → (l : List Float) → le from.end top ≡ true → Taken n spans links l (holds (loses_of g log ray certain)) from.end p
      → Taken n spans links l (holds (loses_of g log ray certain)) w.keys.end t
  stretch-taken certain takes l h = takes.taken l _ (stretch-onward named r h) (stretched named r certain)

  pub part-taken : {n : ℕ} {spans : List Float} {links old : List ℕ} {before mid after : List Float} {s t : Rest}
      → length keys ≡ length old
      → TakeHitsPost n spans links from.end w.keys.end (front_of false w) (part_hits log keys w false) before mid from.possible s
      → TakeHitsPost n spans links from.end w.keys.end (front_of true w) (part_hits log keys w true) mid after from.certain t
      → TakePartPost g n spans links log ray from old keys before after (record { possible = s; certain = t; end = w.keys.end })
  part-taken size possible certain = record {
    keys_size = size;
    size = certain.size ∙ possible.size;
    readable = each_bool _ certain.readable possible.readable;
    onward = stretch-onward named r;
    ends = stretch-ends named r;
    taken = each_bool _ (stretch-taken true certain) (stretch-taken false possible);
  }
