-- Nothing is to be done while a pair fits; else the pairs are joined, and where these are too many still, half of them stay.
use Rattle.log_gather.proofs.Room.{loosens-joined, loosens-halved}
use Rattle.log_gather.proofs.make_room.Goals as goal

pub returns-then-m-half : goal.returns-then-m-half
returns-then-m-half c =
    let normal = c.normalize_front-m.ensures in
    loosens-joined _ _ c.args.h _ c.requires.0 c.requires.1 normal c.if-m-half.true

pub returns : goal.returns
returns c =
    let normal = c.normalize_front-m.ensures in
    loosens-halved _ _ c.args.h _ c.requires.0 c.requires.1 normal _ c.if-m-half.false c.lower.ensures
