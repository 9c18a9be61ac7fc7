-- `log_long::add_key` meets its contract.
use Rattle.std.proofs.Common.{refl}
use Rattle.log_long.proofs.Stretching.{entry-out, entry-added}
use Rattle.log_long.proofs.add_key.Goals as goal

pub returns-then-not-k-w : goal.returns-then-not-k-w
returns-then-not-k-w c =
    entry-out _ c.requires.3 refl c.requires.0 (λ rays ray passed l. l) c.if-not-k-w.true-raw

pub returns-then-not-k-t : goal.returns-then-not-k-t
returns-then-not-k-t c =
    let made = c.roomy-t.ensures in
    entry-out _ c.requires.3 made.size made.in_log made.long_keys c.if-not-k-t.true-raw

pub returns : goal.returns
returns c =
    entry-added _ c.requires.3 c.roomy-t.ensures c.requires.2 c.if-not-k-t.false-raw
