-- `log_merge::load_ray` meets its contract.
use native.Mathlib.Omega.{arith}
use Rattle.log_merge.proofs.Loading.{possible-ready, certain-ready, outer-ready, inner-fits, inner-ready, all-loaded}
use Rattle.store.specs.Store.{cells}
use Rattle.store_read.specs.Reading.{ReadListPost}
use Rattle.stock.specs.Stock.{ray_list, Possible, Certain}
use Rattle.log_merge.proofs.load_ray.Goals as goal
use Rattle.log_merge.proofs.load_ray.Goals.{After-read_list-c, After-read_list-o}

-- the ray's lists were read from the heads that the store has for it
possible-read : (y : After-read_list-c)
    → ReadListPost (ray_list y.args.spec (cells y.args.spans.now y.args.links.now y.args.heads.now) y.args.ray Possible)
    y.args.work.now y.args.s y.read_list-c.new.out y.read_list-c.result
possible-read y = rw y.ray_heads-head.ensures at y.read_list-c.ensures

certain-read : (z : After-read_list-o)
    → ReadListPost (ray_list z.args.spec (cells z.args.spans.now z.args.links.now z.args.heads.now) z.args.ray Certain)
    z.read_list-c.new.out z.read_list-c.result z.read_list-o.new.out z.read_list-o.result
certain-read z = rw z.ray_heads-head.ensures at z.read_list-o.ensures

pub ray_heads-head-requires : goal.ray_heads-head-requires
ray_heads-head-requires c = let pre = c.requires in
    omega (arith, pre.store.room.in_heads, pre.below)

pub read_list-c-requires : goal.read_list-c-requires
read_list-c-requires c =
    rw c.ray_heads-head.ensures (possible-ready c.requires)

pub read_list-o-requires : goal.read_list-o-requires
read_list-o-requires c =
    rw c.ray_heads-head.ensures (certain-ready c.requires (possible-read (goal.at.read_list-o-requires c).After-read_list-c))

pub load_hits-no-requires : goal.load_hits-no-requires
load_hits-no-requires c =
    outer-ready c.requires (possible-read (goal.at.load_hits-no-requires c).After-read_list-c)
    (certain-read (goal.at.load_hits-no-requires c).After-read_list-o)

pub overflow_add-o : goal.overflow_add-o
overflow_add-o c =
    omega (
      arith,
      inner-fits c.requires (possible-read (goal.at.overflow_add-o c).After-read_list-c)
          (certain-read (goal.at.overflow_add-o c).After-read_list-o) c.load_hits-no.ensures,
      c.well_formed.1.1.1.1.1.1.0.1,
    )

pub load_hits-ni-requires : goal.load_hits-ni-requires
load_hits-ni-requires c =
    inner-ready c.requires (possible-read (goal.at.load_hits-ni-requires c).After-read_list-c)
    (certain-read (goal.at.load_hits-ni-requires c).After-read_list-o) c.load_hits-no.ensures

pub returns : goal.returns
returns c =
    all-loaded c.requires (possible-read (goal.at.returns c).After-read_list-c)
    (certain-read (goal.at.returns c).After-read_list-o) c.load_hits-no.ensures c.load_hits-ni.ensures
