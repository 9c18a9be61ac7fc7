use mathlib.Core.Path.{◌≡◌}
use Rattle.stock_fill.specs.Uncut.{uncut_spans, uncut_links}
use Rattle.stock_fill.proofs.fill_records.Given as goal

abbrev pub invariant-loop-i : goal.invariant-loop-i
invariant-loop-i l = (l.spans ≡ uncut_spans l.spec l.g l.i l.initial.spans) × (l.links ≡ uncut_links l.spec l.g l.i l.initial.links)
