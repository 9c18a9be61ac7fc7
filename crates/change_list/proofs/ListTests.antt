-- 13 is due exactly when not all is good.
use mathlib.Core.List.{[]}
use mathlib.Core.Logic.{inl, inr}
use Rattle.refusal.specs.Refusal.{cause, Due}
use Rattle.refusal.proofs.Laws.{first}
use Rattle.change_list.specs.Changes.{bad_causes}
use Rattle.change_list.specs.Steps.{check_number}
use Rattle.std.specs.Prelude.{None}

pub bad-due : (good : Type 0) → (good → ⊥) → Due (bad_causes good) (check_number None)
bad-due good n = first (cause 13 (good → ⊥)) [] n

pub due-bad : (good : Type 0) → Due (bad_causes good) (check_number None) → good → ⊥
unfolding Due
due-bad good (inl d) = d.0
due-bad good (inr d) = absurd d.1
