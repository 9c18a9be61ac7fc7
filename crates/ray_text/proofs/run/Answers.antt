-- `ray_text::run` meets its contract.
use Rattle.ray_text.proofs.Running.{run-refused}
use borrow.Author.Rules.{rules}
use Rattle.ray_text.proofs.run.Goals as goal

pub returns-then-not-is_readable : goal.returns-then-not-is_readable
returns-then-not-is_readable c =
    run-refused c.args.s.now c.args.out.now c.put_refused.new.out c.put_refused.result
    (search rules) (rw c.from.ensures at c.put_refused.ensures)
