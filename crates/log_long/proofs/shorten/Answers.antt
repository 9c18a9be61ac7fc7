-- `log_long::shorten` meets its contract.
use Rattle.std.proofs.Common.{ap, ◌∙◌}
use Rattle.log_long.specs.Long.{least_past}
use Rattle.log_long.proofs.Stretching.{kept-roomy}
use Rattle.log_long.proofs.shorten.Goals as goal

pub returns : goal.returns
returns c =
    let at = c.least_past-end.ensures ∙ ap (least_past c.args.b) c.entry_at.ensures in
    kept-roomy _ _ _ _ c.args.w _ _ c.keep_below-count.ensures
    (c.near_middle-q.result, c.near_middle-q.ensures, at) c.requires.0
