-- `ray_output::put_field` meets its contract.
use mathlib.Core.Path.{subst}
use mathlib.Core.List.{[], ◌∷◌}
use Prim.Native.Nat.{ℕ}
use Rattle.ray_input.specs.Format.{space}
use Rattle.ray_output.specs.Output.{hex}
use Rattle.ray_input.specs.Steps.{Appended}
use Rattle.ray_input.proofs.Writing.{put_then}
use borrow.Author.Rules.{rules}
use Rattle.ray_output.proofs.put_field.Goals as goal

pub bits_of-bits-requires : goal.bits_of-bits-requires
bits_of-bits-requires c = search rules

pub put_byte-n-requires : goal.put_byte-n-requires
put_byte-n-requires c = search rules

pub put_hex-requires : goal.put_hex-requires
put_hex-requires c = search rules

pub shape_of-out : goal.shape_of-out
shape_of-out c = search rules

pub returns : goal.returns
returns c =
    subst (λ (v : ℕ). Appended c.args.out.now c.args.at (space ∷ hex 16 v) c.put_hex.new.out c.put_hex.result) c.bits_of-bits.ensures
    (put_then c.args.out.now c.args.at (space ∷ []) c.put_byte-n.new.out c.put_byte-n.result c.put_byte-n.ensures
    (hex 16 c.bits_of-bits.result) c.put_hex.new.out c.put_hex.result c.put_hex.ensures)
