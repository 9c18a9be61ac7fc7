-- `ray_merge::merge_lists` meets its contract.
use mathlib.Core.Path.{refl}
use Prim.Native.Nat.{◌+◌, ◌*◌}
use lib.ListN.{length}
use Rattle.ray_merge.proofs.Answers.{ready, lists}
use Rattle.ray_merge.proofs.merge_lists.Goals as goal

pub merge_within-requires : goal.merge_within-requires
merge_within-requires c =
    ready c.args.possible.now c.args.certain.now c.args.outer.now c.args.inner.now c.args.work.now c.place.new.w
    c.place-2.new.w c.place_normalized-no.new.w c.place_normalized-ni.new.w
    (length c.args.possible.now + length c.args.certain.now + length c.args.outer.now + 2 * length c.args.inner.now)
    c.place_normalized-no.result c.place_normalized-ni.result c.requires refl
    c.place.ensures c.place-2.ensures c.place_normalized-no.ensures c.place_normalized-ni.ensures

pub returns : goal.returns
returns c =
    lists c.args.possible.now c.args.certain.now c.args.outer.now c.args.inner.now c.args.work.now c.place.new.w
    c.place-2.new.w c.place_normalized-no.new.w c.place_normalized-ni.new.w
    (length c.args.possible.now + length c.args.certain.now + length c.args.outer.now + 2 * length c.args.inner.now)
    c.place_normalized-no.result c.place_normalized-ni.result c.requires refl
    c.place.ensures c.place-2.ensures c.place_normalized-no.ensures c.place_normalized-ni.ensures
    c.merge_within.new.w c.merge_within.result c.merge_within.ensures
