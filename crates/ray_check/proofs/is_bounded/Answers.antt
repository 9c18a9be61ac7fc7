-- `ray_check::is_bounded` meets its contract.
use Rattle.std.proofs.Common.{rules, true, false}
use borrow.Author.Tests.{tests}
use Rattle.std.proofs.lemmas.Iterator.{cases_from_all, YieldsList-from_slice}
use Rattle.ray_check.proofs.Bounds.{Inside, bounded-tells}
use Rattle.ray_check.proofs.is_bounded.Goals as goal

pub returns : goal.returns
returns c =
    bounded-tells c.args.lo c.args.hi c.args.s.now c.all.result
    (cases_from_all _ _ _ (Inside c.args.lo c.args.hi true) (Inside c.args.lo c.args.hi false) c.all.ensures.ran
    (YieldsList-from_slice c.args.s.now cc) (λ x q k. search (rules, tests)) (λ x q k. search (rules, tests)))
