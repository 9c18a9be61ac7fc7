use Prim.Native.Nat.{◌-◌}
use native.Mathlib.Omega.{arith}
use mathlib.Core.Path.{◌≡◌, ◌∙◌}
use Rattle.store_write.proofs.Filling.{fill-some, fill_start, fill-turn, fill_end, fill-onward, refill}
use Rattle.store_write.proofs.Filling.{first_head, cursor-same}
use Rattle.store_write.proofs.fill_list.Goals as goal

pub next_free-first-requires : goal.next_free-first-requires
next_free-first-requires c = let f = c.requires in (f.in_spans, f.in_links, fill-some _ _ _ _ _ _ _ f)

pub loop-t-init : goal.loop-t-init
loop-t-init c = fill_start _ _ _ _ _ _ _ _ c.requires c.next_free-first.ensures

pub loop-t-preserved : goal.loop-t-preserved
loop-t-preserved c =
    refill c.put_record.ensures.0 c.put_record.ensures.1
    (fill-turn _ _ _ _ _ _ _ _ _ _ _
    c.loop-t.invariant _ (omega arith) c.next_free-after.ensures)

pub returns : goal.returns
returns c =
    let s = c.loop-t.invariant in
    let f = c.requires in
    let u : c.loop-t.t ≡ c.args.count - 1 = omega (arith, s.left, f.some) in
    let e = fill_end _ _ _ _ _ _ _ _ _ _ _ s _ u (omega arith) in
    record {
      at = first_head _ _ _ _ _ _ _ _ f c.next_free-first.ensures;
      spans_left = c.put_record-2.ensures.0 ∙ e.0;
      links_left = c.put_record-2.ensures.1 ∙ e.1;
      onward = cursor-same c.put_record-2.ensures.0 c.put_record-2.ensures.1
          (fill-onward _ _ _ _ _ _ _ _ _ _ _ s _ _);
    }
