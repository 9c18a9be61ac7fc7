use Rattle.std.proofs.Common.{arith, length, ◌/◌, ◌≡◌}
use Rattle.chords.proofs.Fitting.{every-none, every_more, guard-unfit, chord-unfit, all_fit}
use Rattle.chords.proofs.check_chords.Goals as goal

pub returns-then-not-guard_fits : goal.returns-then-not-guard_fits
returns-then-not-guard_fits c = guard-unfit _ _ _ c.guard_fits.result c.guard_fits.ensures c.if-not-guard_fits.true

pub loop-i-init : goal.loop-i-init
loop-i-init c = every-none _

pub returns-then-not-chord_fits : goal.returns-then-not-chord_fits
returns-then-not-chord_fits c = chord-unfit _ _ _ c.loop-i.i c.chord_fits.result
    c.loop-i-test.true c.chord_fits.ensures c.if-not-chord_fits.true

pub loop-i-preserved : goal.loop-i-preserved
loop-i-preserved c = every_more _ c.loop-i.i c.chord_fits.result
    c.loop-i.invariant c.chord_fits.ensures c.if-not-chord_fits.false

pub returns : goal.returns
returns c =
    let e : c.loop-i.i ≡ length c.args.chords.now / 8 = omega arith in
    all_fit _ _ _ c.loop-i.i c.guard_fits.result e c.guard_fits.ensures c.if-not-guard_fits.false c.loop-i.invariant
