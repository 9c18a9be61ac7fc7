-- `commit_changes::list_verdict` meets its contract: the sums of the check are the pairs that the changes free and lay,
-- so the total is the number of intervals after them and needs no more than 64 bits.
use Rattle.std.proofs.Common.{◌≡◌, None, Some, arith}
use Rattle.std.proofs.lemmas.Result.{err_from_is_err_and}
use Rattle.change_list.specs.Changes.{changes_of}
use Rattle.change_list.specs.Steps.{CheckChangesPost}
use Rattle.commit_changes.proofs.Verdicts.{bad-list, freed-fewer, total-fits, over-budget, last-generation, list-fits}
use Rattle.refusal.specs.declared.Refusal.TheVariants.{Change}
use Rattle.stock.specs.Stock.{stock}
use Rattle.store.specs.Store.{cells}
use Rattle.commit_changes.proofs.list_verdict.Goals as goal
use Rattle.commit_changes.proofs.list_verdict.Goals.{In_ok-cur}

-- what the check of all changes says where they are good
checked : (c : In_ok-cur) → CheckChangesPost c.args.spec c.args.g (cells c.args.spans.now c.args.links.now c.args.heads.now)
    c.args.pairs.now (changes_of c.args.changes.now c.args.pairs.now) (Some c.in_ok-cur.cur)
checked c = let e : c.check_changes-checked.result ≡ Some c.in_ok-cur.cur = grind arith in rw e at c.check_changes-checked.ensures

pub returns-in_err-cur : goal.returns-in_err-cur
returns-in_err-cur c =
    let p = err_from_is_err_and c.from_residual.result c.from_residual.ensures.1 in
    let e : c.check_changes-checked.result ≡ None = grind arith in
    let f : c.in_err-cur.field-0.0 ≡ Change = grind arith in
    rw (p.1, p.2, f) (bad-list c.args.spec c.args.g
    (stock c.args.spans.now c.args.links.now c.args.heads.now c.args.generation c.args.intervals) c.args.changes.now c.args.pairs.now
    (rw e at c.check_changes-checked.ensures))

pub overflow_sub-total : goal.overflow_sub-total
overflow_sub-total c =
    freed-fewer c.args.spec c.args.g
    (stock c.args.spans.now c.args.links.now c.args.heads.now c.args.generation c.args.intervals) c.args.changes.now c.args.pairs.now
    c.in_ok-cur.cur (checked c) c.requires.0 c.requires.1

pub overflow_add-total : goal.overflow_add-total
overflow_add-total c = omega (
  arith,
  total-fits c.args.spec c.args.g
      (stock c.args.spans.now c.args.links.now c.args.heads.now c.args.generation c.args.intervals) c.args.changes.now c.args.pairs.now
      c.in_ok-cur.cur (checked (goal.at.overflow_add-total c).In_ok-cur) c.requires.0 c.requires.1 (omega arith) (omega arith),
)

pub returns-then-spec-total : goal.returns-then-spec-total
returns-then-spec-total c =
    over-budget c.args.spec c.args.g
    (stock c.args.spans.now c.args.links.now c.args.heads.now c.args.generation c.args.intervals) c.args.changes.now c.args.pairs.now
    c.in_ok-cur.cur (checked (goal.at.returns-then-spec-total c).In_ok-cur) c.requires.0 c.requires.1 c.if-spec-total.true

pub returns-then-generation-eq18446744073709551615 : goal.returns-then-generation-eq18446744073709551615
returns-then-generation-eq18446744073709551615 c =
    last-generation c.args.spec c.args.g
    (stock c.args.spans.now c.args.links.now c.args.heads.now c.args.generation c.args.intervals) c.args.changes.now c.args.pairs.now
    c.in_ok-cur.cur (checked (goal.at.returns-then-generation-eq18446744073709551615 c).In_ok-cur) c.requires.0 c.requires.1
    c.if-spec-total.false c.if-generation-eq18446744073709551615.true

pub returns : goal.returns
returns c =
    list-fits c.args.spec c.args.g
    (stock c.args.spans.now c.args.links.now c.args.heads.now c.args.generation c.args.intervals) c.args.changes.now c.args.pairs.now
    c.in_ok-cur.cur (checked (goal.at.returns c).In_ok-cur) c.requires.0 c.requires.1
    c.if-spec-total.false c.if-generation-eq18446744073709551615.false
