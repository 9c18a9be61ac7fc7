-- `ray_trace::reason_of` meets its contract.
use mathlib.Core.Path.{◌≡◌, sym}
use mathlib.Core.Bool.{true, false}
use Rattle.spans.specs.Spans.{holds}
use Rattle.log_model.specs.Logs.{inner, entries}
use Rattle.ray_trace.specs.Reasons.{hit_pairs, not_held, cut_away, made_uncertain, never_certain, untouched}
use Rattle.ray_trace.proofs.reason_of.Goals as goal
use Rattle.ray_trace.proofs.reason_of.Goals.{Else-not-holds_at, Else-not-holds_at-2, In_default}

-- possible before, in no inner pair, certain before
possible-held : (c : Else-not-holds_at) → holds c.args.possible.now c.args.place ≡ true
possible-held c = sym c.if-not-holds_at.ensures

inner-free : (c : In_default) → holds (hit_pairs inner (entries c.args.log.now)) c.args.place ≡ false
inner-free c = c.in_default.ensures

certain-held : (c : Else-not-holds_at-2) → holds c.args.certain.now c.args.place ≡ true
certain-held c = sym c.if-not-holds_at-2.ensures

pub returns-then-not-holds_at : goal.returns-then-not-holds_at
returns-then-not-holds_at c = not_held (sym c.if-not-holds_at.ensures)

pub returns-in-Some : goal.returns-in-Some
returns-in-Some c = cut_away (possible-held (goal.at.returns-in-Some c).Else-not-holds_at) c.in-Some.ensures

pub returns-then-not-holds_at-2 : goal.returns-then-not-holds_at-2
returns-then-not-holds_at-2 c = never_certain (possible-held (goal.at.returns-then-not-holds_at-2 c).Else-not-holds_at)
    (sym c.if-not-holds_at-2.ensures)
    (inner-free (goal.at.returns-then-not-holds_at-2 c).In_default)

pub returns-in-Some-first_holding : goal.returns-in-Some-first_holding
returns-in-Some-first_holding c =
    made_uncertain (certain-held (goal.at.returns-in-Some-first_holding c).Else-not-holds_at-2)
    (inner-free (goal.at.returns-in-Some-first_holding c).In_default) c.in-Some-first_holding.ensures

pub returns-in-None : goal.returns-in-None
returns-in-None c =
    untouched (certain-held (goal.at.returns-in-None c).Else-not-holds_at-2) (inner-free (goal.at.returns-in-None c).In_default)
    c.in-None.ensures
