-- `span_insert::splice` meets its contract.
use native.Mathlib.Omega.{arith}
use native.Mathlib.Numerals.{add-one}
use mathlib.Core.Bool.{true, false}
use borrow.Author.Tests.{eq-eqb, ne_eqb}
use Prim.Native.Nat.{◌+◌, ◌%◌}
use lib.ListN.{length-set}
use Rattle.span_insert.proofs.Loops.{splice-done}
use Rattle.span_insert.proofs.splice.Goals as goal

pub bounds-b-i-then-j-eq0 : goal.bounds-b-i-then-j-eq0
bounds-b-i-then-j-eq0 c = simp length-set (omega arith)

pub returns-then-j-eq0 : goal.returns-then-j-eq0
returns-then-j-eq0 c =
    rw (add-one c.args.i) (splice-done c.args.b.now c.relocate.new.b c.args.n c.args.i c.args.j
    (c.args.i + 2) c.args.lo c.args.hi true true c.requires.0 c.requires.1 c.requires.2
    (eq-eqb (c.args.i % 2) 0 c.if-i-eq0.true)
    (eq-eqb (c.args.j % 2) 0 c.if-j-eq0.true)
    (omega arith) (omega arith) c.relocate.ensures)

pub returns-then-i-eq0 : goal.returns-then-i-eq0
returns-then-i-eq0 c =
    splice-done c.args.b.now c.relocate-then-i-eq0.new.b c.args.n c.args.i c.args.j (c.args.i + 1) c.args.lo c.args.hi
    true false c.requires.0 c.requires.1 c.requires.2
    (eq-eqb (c.args.i % 2) 0 c.if-i-eq0.true)
    (ne_eqb (c.args.j % 2) 0 c.if-j-eq0.false)
    (omega arith) (omega arith) c.relocate-then-i-eq0.ensures

pub returns-then-j-eq0-2 : goal.returns-then-j-eq0-2
returns-then-j-eq0-2 c =
    splice-done c.args.b.now c.relocate-then-j-eq0-2.new.b c.args.n c.args.i c.args.j (c.args.i + 1) c.args.lo c.args.hi
    false true c.requires.0 c.requires.1 c.requires.2
    (ne_eqb (c.args.i % 2) 0 c.if-i-eq0.false)
    (eq-eqb (c.args.j % 2) 0 c.if-j-eq0-2.true)
    (omega arith) (omega arith) c.relocate-then-j-eq0-2.ensures

pub returns : goal.returns
returns c =
    splice-done c.args.b.now c.relocate-2.new.b c.args.n c.args.i c.args.j c.args.i c.args.lo c.args.hi
    false false c.requires.0 c.requires.1 c.requires.2
    (ne_eqb (c.args.i % 2) 0 c.if-i-eq0.false)
    (ne_eqb (c.args.j % 2) 0 c.if-j-eq0-2.false)
    (omega arith) (omega arith) c.relocate-2.ensures
