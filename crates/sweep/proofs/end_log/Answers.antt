use Rattle.std.proofs.Common.{refl}
use Rattle.sweep.proofs.Answers.{end_is, logged-at}
use Rattle.sweep.proofs.end_log.Goals as goal

pub returns-in-Err : goal.returns-in-Err
returns-in-Err c = end_is _ _ _ _ _ c.in-Err.is refl c.clear_from.ensures

pub clear_from-requires-in-Ok : goal.clear_from-requires-in-Ok
clear_from-requires-in-Ok c = logged-at _ _ _ c.in-Ok.is c.requires

pub returns-in-Ok : goal.returns-in-Ok
returns-in-Ok c = end_is _ _ _ _ _ c.in-Ok.is refl c.clear_from-in-Ok.ensures
