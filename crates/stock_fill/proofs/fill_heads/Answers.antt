use Rattle.stock_fill.proofs.Uncut.{heads-first, heads-next}
use Rattle.stock_fill.proofs.fill_heads.Goals as goal

pub loop-j-init : goal.loop-j-init
loop-j-init c = heads-first _

pub loop-j-preserved : goal.loop-j-preserved
loop-j-preserved c = heads-next _ _ _ c.loop-j.invariant
