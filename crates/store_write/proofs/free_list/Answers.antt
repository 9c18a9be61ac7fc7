use Rattle.store.proofs.Freeing.{freed-cells}
use Rattle.store_write.proofs.free_list.Goals as goal

pub returns : goal.returns
returns c = freed-cells _ _ _ _ _ _ _ c.free_chain.ensures.0
    c.free_chain.ensures.1
