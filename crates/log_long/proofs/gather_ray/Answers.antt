-- `log_long::gather_ray` meets its contract. The loop's invariant: the ray's entries before place i are gathered.
use Rattle.std.proofs.Common.{◌≡◌, refl, arith}
use lib.Ieee.{of_bits, neg}
use Rattle.log_model.specs.Logs.{entry_count}
use Rattle.log_long.proofs.Gathering.{gathers-start}
use Rattle.log_long.proofs.gather_ray.Goals as goal

pub loop-i-init : goal.loop-i-init
unfolding of_bits neg
loop-i-init c = (refl, gathers-start _ _ _ _ _)

pub returns : goal.returns
returns c =
    let passed : c.loop-i.i ≡ entry_count c.args.log.now = omega (arith, c.entry_count-n.ensures) in
    rw passed at c.loop-i.invariant
