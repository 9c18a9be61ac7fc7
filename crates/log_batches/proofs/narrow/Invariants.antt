-- `log_batches::narrow` meets its contract: each turn keeps one key, if it is below the limit.
use Rattle.std.proofs.Common.{ltb}
use Rattle.log_keys.specs.KeysKept.{KeysKept}
use Rattle.log_batches.proofs.narrow.Given as goal

abbrev pub invariant-loop-i : goal.invariant-loop-i
invariant-loop-i l = KeysKept (λ key. ltb key l.limit) l.initial.keys l.i l.keys l.k
