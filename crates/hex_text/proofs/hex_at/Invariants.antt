-- `hex_text::hex_at`: each turn of its loop reads one digit more (`Read`).
use Rattle.hex_text.proofs.Digits.{Read}
use Rattle.hex_text.proofs.hex_at.Given as goal

abbrev pub invariant-loop-c : goal.invariant-loop-c
invariant-loop-c l = Read l.digits l.value l.c-index
