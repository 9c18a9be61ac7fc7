-- `inner::tridexel_inner_total_cmp` meets its contract: each arm answers the number of the case that it matched.
use mathlib.Core.Path.{sym, ap, ◌∙◌}
use Rattle.inner.specs.Orderings.{ordering_code}
use Rattle.inner.proofs.tridexel_inner_total_cmp.Goals as goal

pub returns-in-Less : goal.returns-in-Less
returns-in-Less c = ap ordering_code (sym c.in-Less.is ∙ c.total_cmp-o.ensures)

pub returns-in-Equal : goal.returns-in-Equal
returns-in-Equal c = ap ordering_code (sym c.in-Equal.is ∙ c.total_cmp-o.ensures)

pub returns-in-Greater : goal.returns-in-Greater
returns-in-Greater c = ap ordering_code (sym c.in-Greater.is ∙ c.total_cmp-o.ensures)
