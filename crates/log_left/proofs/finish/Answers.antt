-- The pairs that are undecided are counted too.
use Rattle.std.proofs.Common.{ℕ, ◌+◌, ◌%◌, ◌^◌, refl, ap, ◌∙◌}
use Rattle.log_left.proofs.Walking.{tells}
use Rattle.log_left.proofs.finish.Goals as goal

pub returns : goal.returns
returns c = λ l hits last s w.
    let r = c.args.r in
    tells l hits last r _ s w refl (c.wrapping_add_u64.ensures.value ∙ ap (λ (k : ℕ). (r.left + k) % 2 ^ 64) c.list_pairs-rest.ensures)
