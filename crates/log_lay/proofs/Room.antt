-- A sound store with free records enough has room for each update in its turn.
use mathlib.Core.Path.{◌≡◌, refl, ◌∙◌}
use mathlib.Core.List.Memᴰ
use mathlib.Core.List.{List, []}
use Prim.Native.Nat.{ℕ, ◌+◌, ◌/◌, ◌≤◌}
use native.Mathlib.Omega.{arith}
use lib.ListN.{length}
use Rattle.store.specs.Store.{places_of, free_from, Cells, ChainsSound}
use Rattle.store.specs.Fills.{FreeCursor}
use Rattle.store.specs.Updates.{Update, CellsPastKept, pairs_laid, lowest_free, laid_list}
use Rattle.store.proofs.Replacing.{Replaced}
use Rattle.store.proofs.FreePlaces.{free-records}
use Rattle.store.proofs.Laying.{laid-list, laid-sound, laid_kept}
use Rattle.store.proofs.Updating.{Empty, kept-room, ascending-at}
use Rattle.log_lay.specs.Steps.{EachLayable}
use Rattle.store.specs.Steps.{Room, Ascending, none, next}

pub each-layable : {n m total k : ℕ} {c : Cells} {us : List Update} → ChainsSound n m total c → Room n m c
    → Ascending m k us → Empty n c us → total + pairs_laid us ≤ n → EachLayable n c us
unfolding EachLayable pairs_laid
each-layable s room none empty fits = tt
each-layable {n} {m} {total} {c = c} s room (next {u = u} {us = us} lo hi whole a) empty fits =
    let count : ℕ = length u.ends / 2 in
    let d : Cells = laid_list n c u in
    let gone : places_of n c.links c.heads u.list ≡ [] = empty u (Memᴰ.head refl) in
    let one : Replaced n m total c d u.list (lowest_free n c count) = laid-list n m total c s room u hi gone (omega arith) in
    let kept₁ : CellsPastKept n m c d = laid_kept n m total c s room u hi gone (omega arith) in
    let still : Empty n d us = λ v mv. one.places_kept v.list (ascending-at a v mv).1
    (λ (e : v.list ≡ u.list). omega (arith, (ascending-at a v mv).0)) ∙ empty v (Memᴰ.tail mv) in
    let free : length (free_from c.spans c.links 0 n) + total ≡ n = free-records n m total c.spans c.links c.heads s in (
      record {
        in_spans = room.in_spans;
        in_links = room.in_links;
        in_heads = omega (arith, room.in_heads);
        whole = whole;
        enough = omega arith;
      },
      each-layable {total = total + length u.ends / 2} (laid-sound n m total c s room u hi gone (omega arith))
          (kept-room kept₁ room) a still (omega arith),
    )

-- before place 0 there is no record
pub no-cursor : (n : ℕ) (c : Cells) → FreeCursor n c.spans c.links 0
no-cursor n c = record { most = omega arith; past = λ x h. absurd (omega arith) }
