use Rattle.store.proofs.Checked.{differs, told}
use borrow.Author.Tests.{ne_eqb}
use Rattle.store.proofs.check_store.Goals as goal

pub returns-then-u-total : goal.returns-then-u-total
returns-then-u-total c = rw c.eq.ensures (told _ _ _ _ _ _ _ c.walk_all.result c.count_used-u.ensures c.if-u-total.true c.walk_all.ensures)

pub returns-else-u-total : goal.returns-else-u-total
returns-else-u-total c = rw (ne_eqb _ _ c.if-u-total.false) (differs _ _ _ _ _ _ _ c.count_used-u.ensures c.if-u-total.false)
