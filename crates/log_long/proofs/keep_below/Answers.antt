-- `log_long::keep_below` meets its contract. The loop's invariant: of the first i keys those below u are kept.
use Rattle.std.proofs.Common.{◌≡◌, ap, ◌∙◌, arith, rules}
use lib.Ieee.{Float, lt}
use Rattle.log_keys.proofs.Keeping.{kept-turn}
use Rattle.log_long.specs.Long.{least_past}
use Rattle.log_long.proofs.keep_below.Goals as goal

pub loop-i-preserved : goal.loop-i-preserved
loop-i-preserved c =
    let begins = c.least_past.ensures ∙ ap (least_past c.args.b) c.entry_at-e.ensures in
    kept-turn _ _ _ _ _ c.loop-i.invariant (search rules) _ _ _ (ap (λ (x : Float). lt x c.args.u) begins) c.keep-k.ensures

pub returns : goal.returns
returns c = let end : c.loop-i.i ≡ c.args.m = omega arith in rw end at c.loop-i.invariant
