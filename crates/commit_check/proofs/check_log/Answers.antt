-- `commit_check::check_log` meets its contract: a test that fails finds its cause present and those before it absent.
use Rattle.std.proofs.Common.{◌*◌, refl, sym, ◌∙◌, arith, false, Ok, Err}
use Rattle.std.proofs.lemmas.Result.{err_from_is_err_and}
use borrow.Author.Tests.{ltb-true, ltb-false, eqb-true, eqb-false}
use Rattle.logic.proofs.Bools.{clash}
use Rattle.grid.specs.Rays.{ray_count}
use Rattle.stock.specs.Stock.{stock, ray_lists}
use Rattle.stock.proofs.Causes.{room_of}
use Rattle.log_model.specs.Logs.{entries, WholeLog}
use Rattle.log_model.specs.Steps.{WorkRoom}
use Rattle.log_model.proofs.Doubles.{Doubles, all-doubles}
use Rattle.commit_check.proofs.Tests.{short-due, work-due, part-due, unsound-due, last-due, unnamed-due, by-budget}
use Rattle.store.specs.Steps.{Room}
use Rattle.store.specs.Store.{cells}
use Rattle.commit_check.proofs.check_log.Goals as goal
use Rattle.commit_check.proofs.check_log.Goals.{Else-is_short, Else-is_work_short, Else-not-is_whole_log}

-- ---- what the tests have found
room : (c : Else-is_short)
    → Room c.args.spec.max_intervals (2 * ray_count c.args.g) (cells c.args.spans.now c.args.links.now c.args.heads.now)
room c = room_of _ _ _ (sym c.is_short.ensures ∙ c.if-is_short.false)

enough : (c : Else-is_work_short) → WorkRoom c.args.spec.max_intervals c.args.log.now c.args.work.now
enough c = ltb-false _ _ (sym c.is_work_short.ensures ∙ c.if-is_work_short.false)

whole : (c : Else-not-is_whole_log) → WholeLog c.args.log.now
whole c = eqb-true _ _ (sym c.is_whole_log.ensures ∙ c.if-not-is_whole_log.false)

doubles : (c : Else-is_short) → Doubles c.args.g
    (ray_lists c.args.spec c.args.g (cells c.args.spans.now c.args.links.now c.args.heads.now)) (entries c.args.log.now)
doubles c = all-doubles c.args.spec c.args.g
    (stock c.args.spans.now c.args.links.now c.args.heads.now c.args.generation c.args.intervals) c.args.log.now
    c.shared_slice_known-1.given c.shared_slice_known-4-1.given

-- ---- the goals
pub returns-then-is_short : goal.returns-then-is_short
returns-then-is_short c = short-due _ _ _ _ _ _ (sym c.is_short.ensures ∙ c.if-is_short.true)

pub is_work_short-requires : goal.is_work_short-requires
is_work_short-requires c = omega (arith, (room c).in_spans)

pub returns-then-is_work_short : goal.returns-then-is_work_short
returns-then-is_work_short c = work-due _ _ _ _ _ _ (ltb-true _ _ (sym c.is_work_short.ensures ∙ c.if-is_work_short.true))

pub returns-then-not-is_whole_log : goal.returns-then-not-is_whole_log
returns-then-not-is_whole_log c =
    let a = goal.at.returns-then-not-is_whole_log c in
    part-due _ _ _ _ _ _ (room a.Else-is_short) (enough a.Else-is_work_short)
    (eqb-false _ _ (sym c.is_whole_log.ensures ∙ c.if-not-is_whole_log.true))

pub check_stock-requires : goal.check_stock-requires
check_stock-requires c = room (goal.at.check_stock-requires c).Else-is_short

pub returns-then-not-check_stock : goal.returns-then-not-check_stock
returns-then-not-check_stock c =
    let a = goal.at.returns-then-not-check_stock c in
    unsound-due _ _ _ _ _ _ (room a.Else-is_short) (enough a.Else-is_work_short)
    (λ s. clash false (c.if-not-check_stock.ensures.1 s) refl)

pub returns-then-generation-eq-LAST_GENERATION : goal.returns-then-generation-eq-LAST_GENERATION
returns-then-generation-eq-LAST_GENERATION c =
    let a = goal.at.returns-then-generation-eq-LAST_GENERATION c in
    last-due _ _ _ _ _ _ (room a.Else-is_short) (enough a.Else-is_work_short) (whole a.Else-not-is_whole_log)
    (c.if-not-check_stock.ensures.0 refl) c.if-generation-eq-LAST_GENERATION.true

pub names_all-requires : goal.names_all-requires
names_all-requires c = omega (arith, c.requires.rays, c.requires.ceiling)

pub returns-then-not-names_all : goal.returns-then-not-names_all
returns-then-not-names_all c =
    let a = goal.at.returns-then-not-names_all c in
    unnamed-due _ _ _ _ _ _ (room a.Else-is_short) (enough a.Else-is_work_short) (whole a.Else-not-is_whole_log)
    (c.if-not-check_stock.ensures.0 refl) c.if-generation-eq-LAST_GENERATION.false (c.if-not-names_all.ensures.no refl)

pub budget-requires : goal.budget-requires
budget-requires c = record {
  facts = c.requires;
  room = room (goal.at.budget-requires c).Else-is_short;
  is_sound = c.if-not-check_stock.ensures.0 refl;
  named = c.if-not-names_all.ensures.yes refl;
}

pub returns-in_err-budget : goal.returns-in_err-budget
returns-in_err-budget c =
    let a = goal.at.returns-in_err-budget c in
    let p = err_from_is_err_and c.from_residual.result c.from_residual.ensures.1 in
    rw (p.1, p.2) (by-budget _ _ _ _ _ _ (room a.Else-is_short) (enough a.Else-is_work_short) (whole a.Else-not-is_whole_log)
    (c.if-not-check_stock.ensures.0 refl) c.if-generation-eq-LAST_GENERATION.false (c.if-not-names_all.ensures.yes refl)
    (doubles a.Else-is_short) (omega (arith, c.ranges.generation)) (Err c.in_err-budget.field-0.0) c.in_err-budget.ensures)

pub returns : goal.returns
returns c =
    let a = goal.at.returns c in
    by-budget _ _ _ _ _ _ (room a.Else-is_short) (enough a.Else-is_work_short) (whole a.Else-not-is_whole_log)
    (c.if-not-check_stock.ensures.0 refl) c.if-generation-eq-LAST_GENERATION.false (c.if-not-names_all.ensures.yes refl)
    (doubles a.Else-is_short) (omega (arith, c.ranges.generation)) (Ok c.in_ok-budget.field-0) c.in_ok-budget.ensures
