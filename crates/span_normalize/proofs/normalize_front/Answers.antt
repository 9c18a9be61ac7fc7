-- `span_normalize::normalize_front` meets its contract.
use native.Mathlib.Omega.{arith}
use mathlib.Core.Path.{◌≡◌, sym, ◌∙◌}
use mathlib.Core.List.{List}
use lib.ListN.{length, take}
use lib.Seq.{length-take-le, take_all}
use lib.Ieee.{Float}
use borrow.Rule.Slice.PartMut.{put_mid, same_len_mid}
use Rattle.span_normalize.proofs.Join.{sorted_front, part-back}
use Rattle.span_normalize.proofs.normalize_front.Goals as goal
use Rattle.span_normalize.proofs.normalize_front.Goals.{After-sort_pairs}

-- the buffer with the sorted part back in it
abbrev back : After-sort_pairs → List Float
back s = put_mid 0 s.args.m s.args.b.now s.sort_pairs.new.s

back-size : (s : After-sort_pairs) → length (back s) ≡ length s.args.b.now
back-size s = same_len_mid 0 s.args.m s.args.b.now s.sort_pairs.new.s s.sort_pairs.ensures.size

front-back : (s : After-sort_pairs) → take s.args.m (back s) ≡ s.sort_pairs.new.s
front-back s =
    let size : length s.sort_pairs.new.s ≡ s.args.m = s.sort_pairs.ensures.size ∙ length-take-le s.args.m s.args.b.now s.requires.1 in
    part-back s.args.b.now s.sort_pairs.new.s 0 s.args.m s.args.m (omega arith) (omega arith)
    ∙ take_all s.args.m s.sort_pairs.new.s (omega arith)

pub slice_bounds-sort_pairs-end-2 : goal.slice_bounds-sort_pairs-end-2
slice_bounds-sort_pairs-end-2 c = sym (length-take-le c.args.m c.args.b.now c.requires.1)

pub join_all-requires : goal.join_all-requires
join_all-requires c =
    (omega (arith, c.requires.0), omega (arith, c.requires.1, back-size (goal.at.join_all-requires c).After-sort_pairs))

pub returns : goal.returns
returns c =
    sorted_front c.args.b.now c.sort_pairs.new.s (back (goal.at.returns c).After-sort_pairs) c.join_all.new.b c.args.m c.join_all.result
    c.sort_pairs.ensures (front-back (goal.at.returns c).After-sort_pairs) (back-size (goal.at.returns c).After-sort_pairs) c.join_all.ensures
