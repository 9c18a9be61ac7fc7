-- `log_batches::gather_rays` meets its contract: each turn adds one entry more.
use Rattle.std.proofs.Common.{◌≡◌, arith}
use Rattle.log_model.specs.Logs.{entry_count}
use Rattle.log_entries.specs.Named.{EachNamed}
use Rattle.log_batches.proofs.gather_rays.Goals as goal

pub ray_at-ray-requires : goal.ray_at-ray-requires
unfolding EachNamed
ray_at-ray-requires c =
    let pre = c.requires in
    let e = c.entry_count-n.ensures in
    (omega (arith, pre.0), omega (arith, e), pre.1 c.loop-i.i (omega (arith, e)))

pub returns : goal.returns
returns c =
    let all : c.loop-i.i ≡ entry_count c.args.log.now = omega (arith, c.entry_count-n.ensures) in
    rw all at c.loop-i.invariant
