-- `log_merge::load_hits` meets its contract.
use native.Mathlib.Omega.{arith}
use mathlib.Core.Path.{◌≡◌}
use Prim.Native.Nat.{◌-◌}
use lib.ListN.{length, take, drop, length-drop}
use lib.Seq.{length-take-le}
use Rattle.log_model.specs.Logs.{entries, hits_on_ray}
use Rattle.log_entries.proofs.Sizes.{named-even}
use Rattle.log_model.specs.Steps.{hit_kind_of}
use Rattle.log_merge.proofs.Loading.{copied-size, hits-loaded}
use Rattle.log_merge.proofs.load_hits.Goals as goal
use Rattle.log_merge.proofs.load_hits.Goals.{After-gather_hits-e}

part-long : (y : After-gather_hits-e)
    → let w = y.gather_hits-e.new.work in length (take (length w - y.args.at) (drop y.args.at w)) ≡ length y.args.work.now - y.args.at
part-long y =
    let w = y.gather_hits-e.new.work in
    let size = copied-size (hits_on_ray y.args.g (entries y.args.log.now) y.args.ray (hit_kind_of y.args.inner)) y.args.work.now
    y.args.at w y.gather_hits-e.result y.requires.3 y.gather_hits-e.ensures in
    omega (
      arith,
      size,
      length-drop y.args.at w,
      length-take-le (length w - y.args.at) (drop y.args.at w) (omega (arith, length-drop y.args.at w)),
    )

pub normalize_front-requires : goal.normalize_front-requires
normalize_front-requires c =
    let e = c.gather_hits-e.ensures in (
      omega (arith, e.past, named-even c.args.g c.args.ray (hit_kind_of c.args.inner) (entries c.args.log.now)),
      omega (arith, e.past, c.requires.3, part-long (goal.at.normalize_front-requires c).After-gather_hits-e),
    )

pub returns : goal.returns
returns c =
    hits-loaded (hits_on_ray c.args.g (entries c.args.log.now) c.args.ray (hit_kind_of c.args.inner)) c.args.work.now
    c.gather_hits-e.new.work c.normalize_front.new.b c.args.at c.gather_hits-e.result
    c.normalize_front.result
    c.requires.3 c.gather_hits-e.ensures c.normalize_front.auto.b c.normalize_front.ensures
