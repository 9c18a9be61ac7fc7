use Rattle.stock_fill.proofs.Uncut.{spans-first, links-first, spans-next, links-next}
use Rattle.stock_fill.proofs.fill_records.Goals as goal

pub loop-i-init : goal.loop-i-init
loop-i-init c = (spans-first _ _ _, links-first _ _ _)

pub loop-i-preserved : goal.loop-i-preserved
loop-i-preserved c =
    let inv = c.loop-i.invariant in (
      spans-next _ _ _ _ _ _ _
          c.uncut_record-record.ensures inv.0
          c.put_record.ensures.0,
      links-next _ _ _ _ _ _ _ c.uncut_record-record.ensures
          inv.1 c.put_record.ensures.1,
    )
