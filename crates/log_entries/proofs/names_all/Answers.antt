use Rattle.std.proofs.Common.{◌≡◌, sym, ap, ◌∙◌, true≢false, arith}
use mathlib.Core.Bool.{false≢true}
use Rattle.log_model.specs.Logs.{entry_at, names_some_ray}
use Rattle.log_model.specs.Model.{NamesNoRay}
use Rattle.log_model.proofs.Entries.{entry_in}
use Rattle.logic.proofs.Bools.{not-true}
use Rattle.log_entries.specs.Named.{EachNamed}
use Rattle.log_entries.proofs.names_all.Goals as goal
use Rattle.log_entries.proofs.names_all.Goals.{After-named}

-- the answer for the entry at place i
answer : (c : After-named) → names_some_ray c.args.g (entry_at c.args.log.now c.loop-i.i) ≡ c.named.result
answer c = sym (c.named.ensures ∙ ap (names_some_ray _) c.entry_at.ensures)

pub returns-then-not-named : goal.returns-then-not-named
unfolding EachNamed NamesNoRay
returns-then-not-named c =
    let log = c.args.log.now in
    record {
      yes = λ h. absurd (false≢true h);
      no = λ _. (
        entry_at log c.loop-i.i,
        entry_in log c.loop-i.i (omega arith),
        answer (goal.at.returns-then-not-named c).After-named ∙ not-true _ c.if-not-named.true-raw,
      );
    }

pub returns : goal.returns
unfolding EachNamed
returns c = record { yes = λ h. λ j k. c.loop-i.invariant j (omega arith); no = λ h. absurd (true≢false h) }
