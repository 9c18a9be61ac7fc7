-- `ray_text::print_merged` meets its contract.
use mathlib.Core.Path.{◌≡◌, ap, ◌∙◌}
use mathlib.Core.List.{List}
use Prim.Native.Nat.{ℕ, ◌+◌, ◌*◌, ◌%◌, ◌≤◌}
use native.Mathlib.Omega.{arith}
use lib.ListN.{length}
use lib.Ieee.{Float}
use Rattle.ray_merge.specs.Handed.{possible_handed, certain_handed}
use Rattle.ray_input.specs.Format.{letter_p, letter_c}
use Rattle.ray_output.specs.Output.{lines_text}
use Rattle.ray_output.proofs.Printing.{lines-length}
use Rattle.std.specs.Prelude.{Ok}
use Rattle.refusal.specs.declared.Refusal.{Refusal}
use Rattle.ray_text.proofs.Running.{even-lists, writes, refuses}
use Rattle.ray_text.proofs.print_merged.Goals as goal
use Rattle.ray_text.proofs.print_merged.Goals.{In-Ok}

abbrev possible-new : In-Ok → List Float
possible-new c = possible_handed {E = Refusal} (Ok c.in-Ok.lists) c.args.possible.now c.merge-answer.new.work

abbrev certain-new : In-Ok → List Float
certain-new c = certain_handed {E = Refusal} (Ok c.in-Ok.lists) c.args.certain.now c.merge-answer.new.work

-- the new lists are of pairs, and their lines fit the text
fit : (c : In-Ok) → (length (possible-new c) % 2 ≡ 0) × (length (certain-new c) % 2 ≡ 0)
    × (18 * length (possible-new c) + 18 * length (certain-new c) + 8 ≤ 65536)
fit c =
    even-lists c.args.lo c.args.hi c.args.possible.now c.args.certain.now c.args.outer.now c.args.inner.now c.requires.0
    c.in-Ok.lists.possible c.in-Ok.lists.certain c.merge-answer.new.work c.merge-answer.auto.work c.in-Ok.ensures.1

-- what was printed is the text of the list
printed : (letter : ℕ) (l m : List Float) → l ≡ m → length m % 2 ≡ 0 → length (lines_text letter l) ≡ 18 * length m
printed letter l m e h = ap (λ (x : List Float). length (lines_text letter x)) e ∙ lines-length letter m h

pub put_lines-m-requires : goal.put_lines-m-requires
put_lines-m-requires c =
    let f = fit (goal.at.put_lines-m-requires c).In-Ok in
    let i = ap length c.certain_of.ensures.0 in (
      rw i f.1,
      omega (arith, i, f.2, c.put_lines-n.auto.out, c.put_lines-n.ensures.next, printed letter_p _ _ c.possible_of.ensures.0 f.0),
    )

pub put_end-requires : goal.put_end-requires
put_end-requires c =
    let f = fit (goal.at.put_end-requires c).In-Ok in
    omega (
      arith,
      f.2,
      c.put_lines-n.auto.out,
      c.put_lines-m.auto.out,
      c.put_lines-n.ensures.next,
      printed letter_p _ _ c.possible_of.ensures.0 f.0,
      c.put_lines-m.ensures.next,
      printed letter_c _ _ c.certain_of.ensures.0 f.1,
    )

pub returns-in-Err : goal.returns-in-Err
returns-in-Err c =
    refuses c.args.lo c.args.hi c.args.possible.now c.args.certain.now c.args.outer.now c.args.inner.now c.requires.0
    c.args.out.now c.put_refused.new.out c.put_refused.result _ c.in-Err.ensures.0
    (rw c.from.ensures at c.put_refused.ensures)

pub returns-in-Ok : goal.returns-in-Ok
returns-in-Ok c =
    writes c.args.lo c.args.hi c.args.possible.now c.args.certain.now c.args.outer.now c.args.inner.now c.requires.0
    c.in-Ok.lists.possible c.in-Ok.lists.certain c.merge-answer.new.work c.merge-answer.auto.work c.in-Ok.ensures.1
    c.args.out.now c.put_lines-n.new.out c.put_lines-m.new.out c.put_end.new.out c.put_lines-n.result c.put_lines-m.result c.put_end.result
    c.in-Ok.ensures.0 (rw c.possible_of.ensures.0 at c.put_lines-n.ensures) (rw c.certain_of.ensures.0 at c.put_lines-m.ensures)
    c.put_end.ensures
