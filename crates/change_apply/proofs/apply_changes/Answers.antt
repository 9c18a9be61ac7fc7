-- `change_apply::apply_changes` meets its contract: all lists freed, then all laid, is what the store calls applied.
use mathlib.Core.Path.{ap, ◌∙◌}
use Rattle.store.specs.Updates.{laid_all}
use Rattle.change_apply.proofs.Turns.{applied-is}
use Rattle.change_list.specs.Changes.{updates_in}
use Rattle.store.specs.Store.{Cells, cells}
use Rattle.change_apply.proofs.apply_changes.Goals as goal

pub free_changes-requires : goal.free_changes-requires
free_changes-requires c = (
  c.requires.0,
  c.args.pairs.now,
  c.requires.1,
)

pub lay_changes-requires : goal.lay_changes-requires
lay_changes-requires c =
    let pre = c.requires in
    record {
      before = cells c.args.spans.now c.args.links.now c.args.heads.now;
      total = pre.0;
      fitting = pre.1;
      is = c.free_changes.ensures pre.0
          c.args.pairs.now pre.1;
    }

pub returns : goal.returns
returns c =
    let pre = c.requires in
    let us = updates_in c.args.g c.args.changes.now c.args.pairs.now in
    c.lay_changes.ensures
    ∙ ap (λ (x : Cells). laid_all c.args.spec.max_intervals x us)
    (c.free_changes.ensures pre.0 c.args.pairs.now pre.1)
    ∙ applied-is c.args.spec.max_intervals (cells c.args.spans.now c.args.links.now c.args.heads.now) us
