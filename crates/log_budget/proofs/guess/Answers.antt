use Prim.Native.Nat.{ℕ, ◌*◌, ◌^◌, ◌≤◌}
use native.Mathlib.Nat.{mul-le-mul, div-le_self}
use native.Mathlib.Omega.{arith}
use Rattle.log_budget.proofs.guess.Goals as goal
use Rattle.log_budget.proofs.guess.Goals.{then-room-count, else-room-count}

-- so many rays times a buffer's room stay far below what the machine's numbers hold
small : (w room : ℕ) → w ≤ 0x100_0000_0000 → room ≤ 2 ^ 16 → w * room ≤ 2 ^ 56
small w room a b = omega (arith, mul-le-mul a b)

pub overflow_mul-next : goal.overflow_mul-next
overflow_mul-next c = omega (arith, small c.min-w.result _ (omega arith) c.requires.1)

pub overflow_add-result : goal.overflow_add-result
overflow_add-result c =
    let most = small c.min-w.result c.args.room (omega arith) c.requires.1 in
    elim c.if-room-count.branch [
      | then-room-count r ↦ omega (arith, r.next-is, most, div-le_self (c.min-w.result * c.args.room) c.args.count)
      | else-room-count r ↦ omega (arith, r.next-is)
    ]
