use mathlib.Core.Path.{refl, ◌∙◌}
use native.Mathlib.Omega.{arith}
use Rattle.log_count.proofs.Bounds.{few_rays}
use Rattle.log_budget.proofs.Answers.{too_many_rays, too-many-intervals, both-kept}
use Rattle.log_budget.proofs.Passing.{start, changed-so-far, all-counted}
use Rattle.log_gather.proofs.Entries.{same_shape}
use Rattle.log_budget.proofs.count_all.Goals as goal
use Rattle.log_budget.proofs.count_all.Goals.{After-fit_width-width}

pub total_rays-rays-requires : goal.total_rays-rays-requires
total_rays-rays-requires c = omega (arith, few_rays c.requires.0)

pub loop-first-init : goal.loop-first-init
loop-first-init c =
    let pre = c.requires in
    (omega arith, omega arith, refl, refl, start pre.0 _ refl refl)

pub fit_width-width-requires : goal.fit_width-width-requires
fit_width-width-requires c =
    let pre = c.requires in
    (omega (arith, c.loop-first-test.true), omega (arith, c.entry_count-n.ensures, pre.1))

pub count_next-s-requires : goal.count_next-s-requires
count_next-s-requires c =
    let inv = c.loop-first.invariant in
    let rays = c.total_rays-rays.ensures in
    let pre = c.requires in (
      record {
        counting = record { intervals = c.args.intervals; countable = pre.0 };
        some = pre.1;
        inside = omega (arith, rays, c.loop-first-test.true);
        prefixed = inv.4;
        shaped = same_shape _ _ inv.3 pre.4;
      },
      record {
        some = c.fit_width-width.ensures.0;
        inside = omega (arith, rays, c.loop-first-test.true, c.fit_width-width.ensures.1);
        fits = rw c.entry_count-n.ensures at c.fit_width-width.ensures.2;
        keys_some = omega (arith, inv.2, pre.2);
        keys_few = omega (arith, inv.2, pre.3);
      },
    )

pub returns-then-t-allowance : goal.returns-then-t-allowance
returns-then-t-allowance c =
    let s = c.count_next-s.ensures in
    let pre = c.requires in
    too_many_rays _ _ _ _ (omega (arith, c.if-t-allowance.true, changed-so-far pre.0 _ _ s.most s.prefixed))

pub loop-first-smaller : goal.loop-first-smaller
loop-first-smaller c =
    let s = c.count_next-s.ensures in
    omega (arith, s.onward, s.most)

pub loop-first-preserved : goal.loop-first-preserved
loop-first-preserved c =
    let s = c.count_next-s.ensures in
    let inv = c.loop-first.invariant in
    (s.most, c.if-t-allowance.false, s.keys_size ∙ inv.2, s.size ∙ inv.3, s.prefixed)

pub returns-then-t-spec : goal.returns-then-t-spec
returns-then-t-spec c =
    let inv = c.loop-first.invariant in
    let pre = c.requires in
    let e = all-counted pre.0 _ _ inv.0 (omega (arith, c.loop-first-test.false)) inv.4 in
    too-many-intervals _ _ _ _ (omega (arith, e.0, inv.1)) (omega (arith, e.1, c.if-t-spec.true))

pub returns : goal.returns
returns c =
    let inv = c.loop-first.invariant in
    let pre = c.requires in
    let e = all-counted pre.0 _ _ inv.0 (omega (arith, c.loop-first-test.false)) inv.4 in
    both-kept _ _ _ _ (omega (arith, e.0, inv.1)) (omega (arith, e.1, c.if-t-spec.false))
