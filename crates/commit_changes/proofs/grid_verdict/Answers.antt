-- `commit_changes::grid_verdict` meets its contract: each test that fails gives its number, which is due since the tests
-- before it were passed.
use Rattle.std.proofs.Common.{refl, sym, ◌∙◌, false}
use mathlib.Core.Logic.{inl, inr}
use Rattle.stock.proofs.Causes.{room_of}
use Rattle.logic.proofs.Bools.{clash}
use Rattle.commit_changes.proofs.Verdicts.{too_short, unsound, other-base, verdict-of-list}
use Rattle.stock.specs.Stock.{stock}
use Rattle.store.specs.Store.{cells}
use Rattle.commit_changes.proofs.grid_verdict.Goals as goal

pub returns-then-is_short : goal.returns-then-is_short
returns-then-is_short c = too_short c.args.spec c.args.g
    (stock c.args.spans.now c.args.links.now c.args.heads.now c.args.generation c.args.intervals)
    c.args.changes.now c.args.pairs.now c.args.base (sym c.is_short.ensures ∙ c.if-is_short.true)

pub check_stock-requires : goal.check_stock-requires
check_stock-requires c = room_of c.args.spec c.args.g (cells c.args.spans.now c.args.links.now c.args.heads.now)
    (sym c.is_short.ensures ∙ c.if-is_short.false)

pub returns-then-not-check_stock : goal.returns-then-not-check_stock
returns-then-not-check_stock c = unsound c.args.spec c.args.g
    (stock c.args.spans.now c.args.links.now c.args.heads.now c.args.generation c.args.intervals) c.args.changes.now
    c.args.pairs.now c.args.base (sym c.is_short.ensures ∙ c.if-is_short.false)
    (inl (λ s. clash false (c.if-not-check_stock.ensures.1 s) refl))

pub returns-then-changes-ne0 : goal.returns-then-changes-ne0
returns-then-changes-ne0 c = unsound c.args.spec c.args.g
    (stock c.args.spans.now c.args.links.now c.args.heads.now c.args.generation c.args.intervals)
    c.args.changes.now c.args.pairs.now c.args.base
    (sym c.is_short.ensures ∙ c.if-is_short.false)
    (inr (inl c.if-changes-ne0.true))

pub returns-then-pairs-ne0 : goal.returns-then-pairs-ne0
returns-then-pairs-ne0 c = let a = c.args
    in unsound a.spec a.g (stock a.spans.now a.links.now a.heads.now a.generation a.intervals)
    a.changes.now a.pairs.now a.base
    (sym c.is_short.ensures
    ∙ c.if-is_short.false) (inr (inr c.if-pairs-ne0.true))

pub returns-then-base-generation : goal.returns-then-base-generation
returns-then-base-generation c =
    other-base c.args.spec c.args.g (stock c.args.spans.now c.args.links.now c.args.heads.now c.args.generation c.args.intervals)
    c.args.changes.now c.args.pairs.now c.args.base
    (sym c.is_short.ensures
    ∙ c.if-is_short.false)
    (c.if-not-check_stock.ensures.0 refl)
    c.if-changes-ne0.false c.if-pairs-ne0.false c.if-base-generation.true

pub list_verdict-requires : goal.list_verdict-requires
list_verdict-requires c = (
  room_of c.args.spec c.args.g (cells c.args.spans.now c.args.links.now c.args.heads.now)
      (sym c.is_short.ensures
      ∙ c.if-is_short.false),
  c.if-not-check_stock.ensures.0 refl,
  c.if-pairs-ne0.false,
)

pub returns : goal.returns
returns c =
    verdict-of-list c.args.spec c.args.g (stock c.args.spans.now c.args.links.now c.args.heads.now c.args.generation
    c.args.intervals) c.args.changes.now c.args.pairs.now c.args.base
    (sym c.is_short.ensures
    ∙ c.if-is_short.false)
    (c.if-not-check_stock.ensures.0 refl) c.if-changes-ne0.false
    c.if-pairs-ne0.false c.if-base-generation.false c.list_verdict.result c.list_verdict.ensures
