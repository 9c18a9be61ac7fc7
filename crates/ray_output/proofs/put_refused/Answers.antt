-- `ray_output::put_refused` meets its contract.
use mathlib.Core.List.{List, [], ◌∷◌}
use Prim.Native.Nat.{ℕ, ◌+◌, ◌/◌, ◌%◌}
use Rattle.ray_input.specs.Format.{newline, space}
use Rattle.ray_output.specs.Output.{refused_text}
use Rattle.ray_input.proofs.Writing.{put_then}
use Rattle.ray_output.proofs.put_refused.Goals as goal

abbrev refused : List ℕ
refused = 114 ∷ 101 ∷ 102 ∷ 117 ∷ 115 ∷ 101 ∷ 100 ∷ space ∷ []

pub returns : goal.returns
unfolding refused_text
returns c =
    let a = c.args in
    let d = 48 + a.k / 10 in
    let u = 48 + a.k % 10 in
    let t = c.put_text-n1 in
    let x = c.put_byte-n2 in
    let y = c.put_byte-n3 in
    let last = c.put_byte in
    put_then a.out.now 0 (refused) t.new.out t.result t.ensures
    (d ∷ u ∷ newline ∷ []) last.new.out last.result
    (put_then t.new.out t.result (d ∷ []) x.new.out x.result
    x.ensures (u ∷ newline ∷ []) last.new.out last.result
    (put_then x.new.out x.result (u ∷ []) y.new.out y.result
    y.ensures (newline ∷ []) last.new.out last.result last.ensures))
