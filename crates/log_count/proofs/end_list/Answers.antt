-- `log_count::end_list` meets its contract.
use native.Mathlib.Omega.{arith}
use Rattle.store.specs.Store.{places}
use Rattle.store_read.proofs.Steps.{ends-length}
use Rattle.log_count.proofs.end_list.Goals as goal

pub returns : goal.returns
returns c = λ hits last s w.
    let finished = c.finish-left.ensures _ hits last s w in
    record {
      changes = finished.moved;
      before = omega (arith, c.list_pairs.ensures, ends-length c.args.spans.now (places c.args.links.now c.args.n c.args.head));
      after = finished.pairs;
    }
