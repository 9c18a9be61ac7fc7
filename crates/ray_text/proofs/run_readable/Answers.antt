-- `ray_text::run_readable` meets its contract.
use Rattle.ray_input.specs.Format.{letter_p, letter_c, letter_o, letter_i}
use Rattle.ray_text.proofs.Running.{reads, collects, collected, collected-size, small, run-merged}
use native.Mathlib.Omega.{arith}
use Rattle.ray_text.proofs.run_readable.Goals as goal
use Rattle.ray_text.proofs.run_readable.Goals.{After-collect-nc, After-collect-no}

pub collect-np-requires : goal.collect-np-requires
collect-np-requires c = let r = reads c.args.s.now c.requires.0 in
    collects c.args.s.now r letter_p r.possible_few

pub collect-nc-requires : goal.collect-nc-requires
collect-nc-requires c = let r = reads c.args.s.now c.requires.0 in collects c.args.s.now r letter_c r.certain_few

pub collect-no-requires : goal.collect-no-requires
collect-no-requires c = let r = reads c.args.s.now c.requires.0 in collects c.args.s.now r letter_o r.outer_few

pub collect-ni-requires : goal.collect-ni-requires
collect-ni-requires c = let r = reads c.args.s.now c.requires.0 in collects c.args.s.now r letter_i r.inner_few

pub slice_bounds-print_merged-end : goal.slice_bounds-print_merged-end
slice_bounds-print_merged-end c = collected-size _ _ c.collect-np.new.out c.collect-np.result c.collect-np.ensures

pub slice_bounds-print_merged-end-2 : goal.slice_bounds-print_merged-end-2
slice_bounds-print_merged-end-2 c = collected-size _ _ c.collect-nc.new.out c.collect-nc.result c.collect-nc.ensures

pub slice_bounds-print_merged-end-3 : goal.slice_bounds-print_merged-end-3
slice_bounds-print_merged-end-3 c = collected-size _ _ c.collect-no.new.out c.collect-no.result c.collect-no.ensures

pub slice_bounds-print_merged-end-4 : goal.slice_bounds-print_merged-end-4
slice_bounds-print_merged-end-4 c = collected-size _ _ c.collect-ni.new.out c.collect-ni.result c.collect-ni.ensures

pub print_merged-requires : goal.print_merged-requires
print_merged-requires c =
    let e1 = collected _ _ c.collect-np.new.out c.collect-np.result c.collect-np.ensures in
    let e2 = collected _ _ c.collect-nc.new.out c.collect-nc.result c.collect-nc.ensures in
    let e3 = collected _ _ c.collect-no.new.out c.collect-no.result c.collect-no.ensures in
    let e4 = collected _ _ c.collect-ni.new.out c.collect-ni.result c.collect-ni.ensures in
    let r = reads c.args.s.now c.requires.0 in
    (small c.args.s.now r _ _ _ _ e1 e2 e3 e4, omega (arith, c.requires.1))

pub returns : goal.returns
returns c =
    let e1 = collected _ _ c.collect-np.new.out c.collect-np.result c.collect-np.ensures in
    let e2 = collected _ _ c.collect-nc.new.out c.collect-nc.result c.collect-nc.ensures in
    let e3 = collected _ _ c.collect-no.new.out c.collect-no.result c.collect-no.ensures in
    let e4 = collected _ _ c.collect-ni.new.out c.collect-ni.result c.collect-ni.ensures in
    let d1 = c.double_at.ensures in
    let d2 = c.double_at-2.ensures in
    run-merged c.args.s.now c.args.out.now c.print_merged.new.out c.print_merged.result c.requires.0
    (rw (e1, e2, e3, e4, d1, d2) at c.print_merged.ensures)
