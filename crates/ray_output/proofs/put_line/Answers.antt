-- `ray_output::put_line` meets its contract.
use mathlib.Core.List.{[], ◌∷◌, ◌++◌}
use Rattle.ray_input.specs.Format.{newline}
use Rattle.ray_output.specs.Output.{field_text, line_text}
use Rattle.ray_output.proofs.Printing.{field-length}
use Rattle.ray_input.proofs.Writing.{put_then}
use native.Mathlib.Omega.{arith}
use Rattle.ray_output.proofs.put_line.Goals as goal

pub put_field-n3-requires : goal.put_field-n3-requires
put_field-n3-requires c =
    omega (
      arith,
      field-length c.args.lo,
      c.put_field-n2.ensures.next,
      c.put_field-n2.auto.out,
      c.put_byte-n1.ensures.next,
      c.put_byte-n1.auto.out,
      c.requires,
    )

pub put_byte-requires : goal.put_byte-requires
put_byte-requires c =
    omega (
      arith,
      field-length c.args.lo,
      field-length c.args.hi,
      c.put_field-n3.ensures.next,
      c.put_field-n3.auto.out,
      c.put_field-n2.ensures.next,
      c.put_field-n2.auto.out,
      c.put_byte-n1.ensures.next,
      c.put_byte-n1.auto.out,
      c.requires,
    )

pub returns : goal.returns
unfolding line_text
returns c =
    put_then c.args.out.now c.args.at (c.args.c ∷ []) c.put_byte-n1.new.out c.put_byte-n1.result c.put_byte-n1.ensures
    (field_text c.args.lo ++ (field_text c.args.hi ++ (newline ∷ []))) c.put_byte.new.out c.put_byte.result
    (put_then c.put_byte-n1.new.out c.put_byte-n1.result (field_text c.args.lo) c.put_field-n2.new.out
    c.put_field-n2.result c.put_field-n2.ensures
    (field_text c.args.hi ++ (newline ∷ [])) c.put_byte.new.out c.put_byte.result
    (put_then c.put_field-n2.new.out c.put_field-n2.result (field_text c.args.hi) c.put_field-n3.new.out
    c.put_field-n3.result c.put_field-n3.ensures
    (newline ∷ []) c.put_byte.new.out c.put_byte.result c.put_byte.ensures))
