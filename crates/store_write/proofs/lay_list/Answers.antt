use Rattle.store.proofs.Laying.{laid_none, laid-some}
use Rattle.store_write.proofs.lay_list.Goals as goal

pub returns-then-count-eq0 : goal.returns-then-count-eq0
returns-then-count-eq0 c = laid_none _ _ _ _ _ _ _ c.if-count-eq0.true c.requires.1

pub returns : goal.returns
returns c = laid-some _ _ _ _ _ _ _ _ _ _ c.fill_list-filled.ensures
