-- `log_long::keep_below` meets its contract. The loop's invariant: of the first i keys those below u are kept.
use lib.Ieee.{lt}
use Rattle.log_model.specs.Logs.{entry_at}
use Rattle.log_keys.specs.KeysKept.{KeysKept}
use Rattle.log_long.specs.Long.{least_past}
use Rattle.log_long.proofs.keep_below.Given as goal

abbrev pub invariant-loop-i : goal.invariant-loop-i
invariant-loop-i l = KeysKept (λ key. lt (least_past l.b (entry_at l.log key)) l.u) l.initial.keys l.i l.keys l.k
