-- `log_batches::narrow` meets its contract: each turn keeps one key, if it is below the limit.
use Rattle.std.proofs.Common.{◌≡◌, refl, arith, rules}
use Rattle.log_keys.proofs.Keeping.{kept-turn}
use Rattle.log_batches.proofs.narrow.Goals as goal

pub loop-i-preserved : goal.loop-i-preserved
loop-i-preserved c =
    let moved = c.keep-k.ensures in
    kept-turn _ _ c.loop-i.keys c.loop-i.i c.loop-i.k c.loop-i.invariant (search rules) _ _ _ refl moved

pub returns : goal.returns
returns c = let end : c.loop-i.i ≡ c.args.m = omega arith in rw end at c.loop-i.invariant
