-- `change_list::check_removal` meets its contract: the lists before are the ray's, so they are sound, which the test of a removal asks.
use Rattle.std.proofs.Common.{sym, ◌∙◌}
use Rattle.change_list.proofs.ChangeTests.{old-sound}
use Rattle.change_list.proofs.check_removal.Goals as goal

pub is_removal-requires : goal.is_removal-requires
is_removal-requires c =
    old-sound _ _ _ _ _ _ c.requires.0 c.requires.1 (sym c.matches_before.ensures ∙ c.if-matches_before.true)
