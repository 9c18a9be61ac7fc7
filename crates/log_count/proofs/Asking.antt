-- What is asked of a log, a store and a ray is enough to read its two lists and to count them.
use mathlib.Core.Path.{◌≡◌}
use mathlib.Core.Bool.{Bool, true, false}
use mathlib.Core.List.{List}
use Prim.Native.Nat.{ℕ}
use native.Mathlib.Omega.{arith}
use lib.ListN.{length, get_or}
use lib.Ieee.{Float}
use Rattle.grid.specs.declared.DexelStockSpec.{DexelStockSpec}
use Rattle.grid.specs.declared.DexelGrid.{DexelGrid}
use Rattle.spans.specs.Spans.{sound}
use Rattle.store_read.specs.Reading.{Readable}
use Rattle.store_read.proofs.Steps.{readable}
use Rattle.log_keys.specs.Keys.{hits_to, loses_of}
use Rattle.log_count.specs.Steps.{CountPre, KeysOf, CountListPost, ListCounted}
use Rattle.log_count.specs.declared.ListCount.{ListCount}
use Rattle.log_count.specs.declared.RayTotals.{RayTotals}
use Rattle.log_count.proofs.Keyed.{keyed-points}
use Rattle.stock.specs.Stock.{Kind, Possible, Certain, list_number, ray_list}
use Rattle.store.specs.Store.{Cells}

-- the list that a log's hits are taken from, by what it loses
abbrev pub list_kind : (certain : Bool) → Kind
list_kind true = Certain
list_kind false = Possible

module _ {spec : DexelStockSpec} {g : DexelGrid} {c : Cells} {log : List Float} {ray : ℕ} {t : RayTotals} {buffer : List Float}
    (a : CountPre spec g c log ray t buffer) where
  pub list-readable : (certain : Bool)
      → Readable spec.max_intervals c.spans c.links (get_or c.heads (list_number ray (list_kind certain)) 0)
  list-readable true =
      let ok = a.counting.countable in
      readable ok.is_sound.store ok.room.in_spans ok.room.in_links (list_number ray Certain) (omega (arith, a.inside))
  list-readable false =
      let ok = a.counting.countable in
      readable ok.is_sound.store ok.room.in_spans ok.room.in_links (list_number ray Possible) (omega (arith, a.inside))

  pub list-sound : (certain : Bool) → sound (ray_list spec c ray (list_kind certain)) ≡ true
  list-sound true = (a.counting.countable.is_sound.valid ray a.inside).certain_sound
  list-sound false = (a.counting.countable.is_sound.valid ray a.inside).possible_sound

  -- the count of a list by the keys of the ray's entries
  pub keyed : {keys : List ℕ} {before after : List Float} {p : ListCount} (certain : Bool) → KeysOf g log ray keys
      → CountListPost spec.max_intervals c.spans c.links (get_or c.heads (list_number ray (list_kind certain)) 0)
      (hits_to log keys certain (length keys)) before after p
      → ListCounted (ray_list spec c ray (list_kind certain)) (loses_of g log ray certain) p
  keyed {keys} certain k n = n.counted (loses_of g log ray certain) (list-sound certain)
      (keyed-points g log ray keys certain a.some a.counting.countable.named k)
