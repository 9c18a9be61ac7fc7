-- `commit_run::run_logs` meets its contract.
use borrow.Author.Rules.{rules}
use native.Mathlib.Omega.{arith}
use Rattle.commit_run.proofs.Turns.{run-start, run-next, run_end}
use Rattle.commit_run.proofs.run_logs.Goals as goal

pub loop-i-init : goal.loop-i-init
loop-i-init c = run-start _ _ _ _ _ _ _ _ c.slice_known-1.given

pub bounds-allowances-i : goal.bounds-allowances-i
bounds-allowances-i c = omega (
  arith,
  c.loop-i-test.true,
  c.requires.allowed,
)

pub run_one-left-requires : goal.run_one-left-requires
run_one-left-requires c =
    let p = c.requires in
    let i = c.loop-i.invariant in
    let t = c.loop-i-test.true in
    (omega (arith, i.begins, p.ascends _ t), p.within _ t, omega (arith, i.answers_size, p.room))

pub loop-i-preserved : goal.loop-i-preserved
loop-i-preserved c =
    run-next _ _ _ _ _ _ _ _ _ _ _ _ _ _ _ _
    c.loop-i.invariant
    c.loop-i-test.true
    c.requires.room
    c.run_one-left.ensures
    c.slice_known-in-loop-i-1.given (search rules) (search rules) (search rules)
    (search rules) (search rules)

pub shape_of-spans : goal.shape_of-spans
shape_of-spans c = c.loop-i.invariant.spans_size

pub shape_of-links : goal.shape_of-links
shape_of-links c = c.loop-i.invariant.links_size

pub shape_of-heads : goal.shape_of-heads
shape_of-heads c = c.loop-i.invariant.heads_size

pub shape_of-work : goal.shape_of-work
shape_of-work c = c.loop-i.invariant.work_size

pub shape_of-answers : goal.shape_of-answers
shape_of-answers c = c.loop-i.invariant.answers_size

pub returns : goal.returns
returns c = run_end _ _ _ _ _ _ _ _ _ _ _ _ _ c.loop-i.invariant c.loop-i-test.false
