-- `log_batches::add` meets its contract: the entry is on none of the batch's rays, or its ray is lost, or its key is added.
use Rattle.std.proofs.Common.{◌≡◌, ℕ, ◌+◌, ◌-◌, ◌*◌, ◌^◌, ◌<◌, set, sym, subst, arith}
use Rattle.std.specs.Prelude.{Some}
use Rattle.log_batches.specs.Batches.{AddPost}
use Rattle.log_batches.proofs.Batching.{adds_none, adds-lost, adds_one, past-none, past-from, past_is}
use Rattle.log_batches.proofs.add.Goals as goal

pub returns-then-w-d : goal.returns-then-w-d
returns-then-w-d c =
    adds_none c.requires.0
    (past-none c.wrapping_sub_usize-d.ensures.value c.wrapping_sub_usize-d.type_inv (omega (arith, c.ranges.first)) c.if-w-d.true)

pub returns-then-t-d : goal.returns-then-t-d
returns-then-t-d c =
    adds-lost c.in_ok-t.ensures c.requires.1
    (past-none c.wrapping_sub_usize-d.ensures.value c.wrapping_sub_usize-d.type_inv (omega (arith, c.ranges.first)) c.if-t-d.true)

pub returns : goal.returns
returns c =
    let low : c.args.first < 2 ^ 64 = omega (arith, c.ranges.first) in
    let from = past-from c.wrapping_sub_usize-d.ensures.value c.wrapping_sub_usize-d.type_inv low
    c.if-w-d.false c.requires.2 in
    let is : c.wrapping_sub_usize-d.result ≡ c.args.ray - c.args.first =
    past_is c.wrapping_sub_usize-d.ensures.value c.wrapping_sub_usize-d.type_inv low c.if-w-d.false c.requires.2 in
    subst (λ (d : ℕ). AddPost c.args.first c.args.ray c.args.n c.args.i c.args.keys.now c.args.w
    (set c.make_room.new.keys c.in_ok-t.t.count (d * c.args.n + c.args.i))
    (Some (record { width = c.in_ok-t.t.width; count = c.in_ok-t.t.count + 1 })))
    (sym is) (adds_one c.in_ok-t.ensures c.requires.1 from (omega (arith, is, from, c.if-t-d.false)))
