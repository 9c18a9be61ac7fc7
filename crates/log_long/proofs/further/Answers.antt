-- `log_long::further` meets its contract.
use Rattle.std.proofs.Common.{refl}
use borrow.Author.Tests.{not-true, not-false}
use lib.Ieee.{lt}
use Rattle.log_long.specs.Long.{further_of}
use Rattle.log_long.proofs.further.Goals as goal
use Rattle.log_long.proofs.further.Goals.{else-lo-hi-via-then-lo-hi+then-not-b-lo+else-front-hi, else-lo-hi-via-then-lo-hi+else-not-b-lo}
use Rattle.log_long.proofs.further.Goals.{else-lo-hi-via-else-lo-hi}

pub returns-then-front-hi : goal.returns-then-front-hi
unfolding further_of
returns-then-front-hi c =
    rw c.if-lo-hi.true (rw (not-true (lt c.args.b c.args.lo) c.if-not-b-lo.true-raw) (rw c.if-front-hi.true refl))

pub returns-else-lo-hi : goal.returns-else-lo-hi
unfolding further_of
returns-else-lo-hi c =
    let b = c.args.b in
    let lo = c.args.lo in
    elim c.else-lo-hi.branch [
      | else-lo-hi-via-then-lo-hi+then-not-b-lo+else-front-hi w ↦
          rw w.if-lo-hi.true (rw (not-true (lt b lo) w.if-not-b-lo.true-raw) (rw w.if-front-hi.false refl))
      | else-lo-hi-via-then-lo-hi+else-not-b-lo w ↦ rw w.if-lo-hi.true (rw (not-false (lt b lo) w.if-not-b-lo.false-raw) refl)
      | else-lo-hi-via-else-lo-hi w ↦ rw w.if-lo-hi.false refl
    ]
