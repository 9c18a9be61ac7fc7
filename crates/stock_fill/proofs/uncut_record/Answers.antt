use native.Mathlib.Omega.{arith}
use Rattle.stock_fill.proofs.Uncut.{record-listed, record-free}
use Rattle.stock_fill.proofs.uncut_record.Goals as goal

pub returns-then-i-m : goal.returns-then-i-m
returns-then-i-m c = record-listed c.args.spec c.args.g c.args.i
    c.ray_bounds-bounds.result (omega (arith, c.if-i-m.true, c.requires)) c.ray_bounds-bounds.ensures

pub returns : goal.returns
returns c = record-free c.args.spec c.args.g c.args.i (omega (arith, c.if-i-m.false, c.requires))
