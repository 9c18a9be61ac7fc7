-- `log_long::add_fronts` meets its contract.
use Rattle.std.proofs.Common.{refl}
use Rattle.log_model.specs.Logs.{hit_lo, hit_hi}
use Rattle.log_long.proofs.Gathering.{each_kind}
use Rattle.log_long.proofs.add_fronts.Goals as goal

pub returns : goal.returns
unfolding hit_lo hit_hi
returns c = record {
  keys_is = refl;
  front_is = each_kind _ c.further.ensures c.further-2.ensures;
}
