-- The law of an update: what `applied` leaves of a sound store, and what the store is half-way.
--     freed-all    some lists are freed
--     laid-all     empty lists are laid
--     updated      both, one after the other
--     half-freed, half-laid    what the functions that do one update ask of the store half-way
use mathlib.Core.Path.{◌≡◌, refl, sym, ap, ◌∙◌, subst}
use mathlib.Core.Bool.{Bool, false, cond}
use mathlib.Core.List.Memᴰ
use mathlib.Core.List.{List, [], ◌∷◌, ◌++◌, Memᴰ}
use mathlib.Core.Logic.{⊎_elim}
use Prim.Native.Nat.{ℕ, ◌+◌, ◌-◌, ◌/◌, ◌%◌, ◌≤◌, ◌<◌}
use native.Mathlib.Decide.{ℕ_discrete}
use native.Mathlib.Omega.{arith}
use lib.Dec.{eqb}
use lib.Ieee.{Float}
use lib.ListN.{length}
use borrow.Author.Tests.{eq-eqb, ne_eqb}
use Rattle.store.specs.Store.{places_of, ends_at, free_from, Cells, ChainsSound, store_list}
use Rattle.store.specs.Updates.{Update, CellsPastKept, pairs_freed, pairs_laid, freed_list, freed_all, lowest_free, laid_list}
use Rattle.store.specs.Updates.{laid_all, applied}
use Rattle.store.proofs.Replacing.{Replaced}
use Rattle.store.proofs.Freeing.{freed-list, freed-kept}
use Rattle.store.proofs.FreePlaces.{free-records}
use Rattle.store.proofs.Laying.{laid-list, laid-sound, laid-held, laid_kept}
use Rattle.store.specs.Steps.{Room, FreeListPre, LayListPre, Ascending, none, next, list_after, ListsUpdated, UpdatedStore}

-- ---- sizes and the cells that do not count
pub kept-none : (n m : ℕ) (c : Cells) → CellsPastKept n m c c
kept-none n m c = record {
  spans_size = refl;
  links_size = refl;
  heads_size = refl;
  spans_past = refl;
  links_past = refl;
  heads_past = refl;
}

pub kept_then : {n m : ℕ} {c d e : Cells} → CellsPastKept n m c d → CellsPastKept n m d e → CellsPastKept n m c e
kept_then a b = record {
  spans_size = b.spans_size ∙ a.spans_size;
  links_size = b.links_size ∙ a.links_size;
  heads_size = b.heads_size ∙ a.heads_size;
  spans_past = b.spans_past ∙ a.spans_past;
  links_past = b.links_past ∙ a.links_past;
  heads_past = b.heads_past ∙ a.heads_past;
}

pub kept-room : {n m : ℕ} {c d : Cells} → CellsPastKept n m c d → Room n m c → Room n m d
kept-room k r = record {
  in_spans = omega (arith, k.spans_size, r.in_spans);
  in_links = omega (arith, k.links_size, r.in_links);
  in_heads = omega (arith, k.heads_size, r.in_heads);
}

-- ---- the lists that are updated
pub ascending-at : {m k : ℕ} {us : List Update} → Ascending m k us → (u : Update) → Memᴰ u us → (k ≤ u.list) × (u.list < m)
ascending-at none u mu = absurd (Memᴰ.not-nil mu)
ascending-at (next {u = v} lo hi whole a) u mu = ⊎_elim
    (λ (e : u ≡ v). let same : u.list ≡ v.list = ap (λ (w : Update). w.list) e in (omega arith, omega arith))
    (λ t. let r = ascending-at a u t in (omega (arith, r.0), r.1))
    (Memᴰ.cases_cons mu)

pub ascending-whole : {m k : ℕ} {us : List Update} → Ascending m k us → (u : Update) → Memᴰ u us → length u.ends % 2 ≡ 0
ascending-whole none u mu = absurd (Memᴰ.not-nil mu)
ascending-whole (next {u = v} lo hi whole a) u mu =
    ⊎_elim (λ (e : u ≡ v). ap (λ (w : Update). length w.ends % 2) e ∙ whole) (ascending-whole a u)
    (Memᴰ.cases_cons mu)

pub ascending-left : {m k : ℕ} (us vs : List Update) → Ascending m k (us ++ vs) → Ascending m k us
ascending-left [] vs a = none
ascending-left (u ∷ us) vs (next lo hi whole a) = next lo hi whole (ascending-left us vs a)

-- a list below those that are updated stays
pub after-below : {m k : ℕ} {us : List Update} → Ascending m k us → (j : ℕ) (l : List Float) → j < k → list_after us j l ≡ l
unfolding list_after
after-below none j l h = refl
after-below (next {u = u} {us = us} lo hi whole a) j l h =
    let other : eqb j u.list ≡ false = ne_eqb j u.list (λ (e : j ≡ u.list). omega arith) in
    ap (λ (t : Bool). cond t u.ends (list_after us j l)) other ∙ after-below a j l (omega arith)

module _ (u : Update) (us : List Update) (j : ℕ) (l : List Float) where
  pub after-here : j ≡ u.list → list_after (u ∷ us) j l ≡ u.ends
  unfolding list_after
  after-here e = ap (λ (t : Bool). cond t u.ends (list_after us j l)) (eq-eqb j u.list e)

  pub after-other : (j ≡ u.list → ⊥) → list_after (u ∷ us) j l ≡ list_after us j l
  unfolding list_after
  after-other ne = ap (λ (t : Bool). cond t u.ends (list_after us j l)) (ne_eqb j u.list ne)

-- the same lists, each to be empty
abbrev emptied : List Update → List Update
emptied [] = []
emptied (u ∷ us) = record { list = u.list; ends = [] } ∷ emptied us

ascending-emptied : {m k : ℕ} {us : List Update} → Ascending m k us → Ascending m k (emptied us)
ascending-emptied none = none
ascending-emptied (next lo hi whole a) = next lo hi refl (ascending-emptied a)

after-emptied : (us : List Update) (u : Update) (l : List Float) → Memᴰ u us → list_after (emptied us) u.list l ≡ []
after-emptied [] u l mu = absurd (Memᴰ.not-nil mu)
after-emptied (v ∷ us) u l mu = at (ℕ_discrete u.list v.list) (λ (t : Memᴰ u us). after-emptied us u l t)
  where
    at : Dec (u.list ≡ v.list) → (Memᴰ u us → list_after (emptied us) u.list l ≡ [])
        → list_after (emptied (v ∷ us)) u.list l ≡ []
    at (yes e) rec = after-here (record { list = v.list; ends = [] }) (emptied us) u.list l e
    at (no ne) rec = after-other (record { list = v.list; ends = [] }) (emptied us) u.list l ne
        ∙ ⊎_elim (λ (e : u ≡ v). absurd (ne (ap (λ (w : Update). w.list) e))) rec (Memᴰ.cases_cons mu)

after-twice : (us : List Update) (j : ℕ) (l : List Float) → list_after us j (list_after (emptied us) j l) ≡ list_after us j l
unfolding list_after
after-twice [] j l = refl
after-twice (u ∷ us) j l = at (ℕ_discrete j u.list) (after-twice us j l)
  where
    at : Dec (j ≡ u.list) → list_after us j (list_after (emptied us) j l) ≡ list_after us j l
        → list_after (u ∷ us) j (list_after (emptied (u ∷ us)) j l) ≡ list_after (u ∷ us) j l
    at (yes e) rec = after-here u us j (list_after (emptied (u ∷ us)) j l) e ∙ sym (after-here u us j l e)
    at (no ne) rec = after-other u us j (list_after (emptied (u ∷ us)) j l) ne
        ∙ ap (list_after us j) (after-other (record { list = u.list; ends = [] }) (emptied us) j l ne)
        ∙ rec ∙ sym (after-other u us j l ne)

no-ends : (spans : List Float) (ps : List ℕ) → ends_at spans ps ≡ [] → ps ≡ []
unfolding ends_at
no-ends spans [] h = refl
no-ends spans (i ∷ ps) h = absurd (let z : ◌≡◌ {A = ℕ} 0 1 = cc in omega arith)

none-at : (spans : List Float) → ends_at spans [] ≡ []
unfolding ends_at
none-at spans = refl

-- ---- some lists of a sound store are freed
pub record FreedAll (n m total : ℕ) (c : Cells) (us : List Update) (d : Cells) : Type 0 where
  pub is_sound : (total' : ℕ) → total' + pairs_freed n c us ≡ total → ChainsSound n m total' d
  pub fewer : pairs_freed n c us ≤ total
  pub lists : ListsUpdated n m c (emptied us) d
  pub kept : CellsPastKept n m c d

same-pairs : (n : ℕ) (c d : Cells) {m k : ℕ} {us : List Update} → Ascending m k us
    → ((i : ℕ) → i < m → k ≤ i → places_of n d.links d.heads i ≡ places_of n c.links c.heads i)
    → pairs_freed n d us ≡ pairs_freed n c us
unfolding pairs_freed
same-pairs n c d none same = refl
same-pairs n c d (next {u = u} {us = us} lo hi whole a) same =
    let here : length (places_of n d.links d.heads u.list)
    ≡ length (places_of n c.links c.heads u.list) = ap length (same u.list hi lo) in
    let rest : pairs_freed n d us ≡ pairs_freed n c us = same-pairs n c d a (λ i i<m h. same i i<m (omega arith)) in
    omega arith

pub freed-all : {n m total k : ℕ} {c : Cells} {us : List Update} → ChainsSound n m total c → Room n m c
    → Ascending m k us → FreedAll n m total c us (freed_all n c us)
unfolding freed_all pairs_freed list_after
freed-all {n} {m} {total} {c = c} s room none = record {
  is_sound = λ total' sum. let same : total ≡ total' = omega arith in subst (λ (t : ℕ). ChainsSound n m t c) same s;
  fewer = omega arith;
  lists = λ j j<m. refl;
  kept = kept-none n m c;
}
freed-all {n} {m} {total} {c = c} s room (next {u = u} {us = us} lo hi whole a) =
    let j : ℕ = u.list in
    let d : Cells = freed_list n c j in
    let one : Replaced n m total c d j [] = freed-list n m total c s room j hi in
    let kept₁ : CellsPastKept n m c d = freed-kept n m total c s room j hi in
    let here : ℕ = length (places_of n c.links c.heads j) in
    let less : here ≤ total = one.less in
    let s₁ : ChainsSound n m (total - here) d = one.is_sound (total - here) (omega arith) in
    let rest : FreedAll n m (total - here) d us (freed_all n d us) = freed-all {total = total - here} s₁ (kept-room kept₁ room) a in
    let same : pairs_freed n d us ≡ pairs_freed n c us =
    same-pairs n c d a (λ i i<m h. one.places_kept i i<m (λ (e : i ≡ j). omega arith)) in
    record {
      is_sound = λ total' sum. rest.is_sound total' (omega arith);
      fewer = omega (arith, rest.fewer);
      lists = λ i i<m. rest.lists i i<m ∙ at i i<m one (ℕ_discrete i j);
      kept = kept_then kept₁ rest.kept;
    }
  where
    at : (i : ℕ) → i < m → Replaced n m total c (freed_list n c u.list) u.list [] → Dec (i ≡ u.list)
        → list_after (emptied us) i (store_list n (freed_list n c u.list) i) ≡ list_after (emptied (u ∷ us)) i (store_list n c i)
    at i i<m one (yes e) =
        let gone : store_list n (freed_list n c u.list) i ≡ [] =
        ap (λ (x : ℕ). store_list n (freed_list n c u.list) x) e
        ∙ ap (ends_at (freed_list n c u.list).spans) one.here ∙ none-at (freed_list n c u.list).spans in
        after-below (ascending-emptied a) i (store_list n (freed_list n c u.list) i) (omega arith) ∙ gone
        ∙ sym (after-here (record { list = u.list; ends = [] }) (emptied us) i (store_list n c i) e)
    at i i<m one (no ne) = ap (list_after (emptied us) i) (one.lists_kept i i<m ne)
        ∙ sym (after-other (record { list = u.list; ends = [] }) (emptied us) i (store_list n c i) ne)

pub freed-append : (n : ℕ) (us vs : List Update) (c : Cells) → freed_all n c (us ++ vs) ≡ freed_all n (freed_all n c us) vs
unfolding freed_all
freed-append n [] vs c = refl
freed-append n (u ∷ us) vs c = freed-append n us vs (freed_list n c u.list)

-- ---- empty lists of a sound store are laid
pub record LaidAll (n m total : ℕ) (c : Cells) (us : List Update) (d : Cells) : Type 0 where
  pub is_sound : ChainsSound n m (total + pairs_laid us) d
  pub lists : ListsUpdated n m c us d
  pub kept : CellsPastKept n m c d

abbrev pub Empty : ℕ → Cells → List Update → Type 0
Empty n c us = (u : Update) → Memᴰ u us → places_of n c.links c.heads u.list ≡ []

pub laid-all : {n m total k : ℕ} {c : Cells} {us : List Update} → ChainsSound n m total c → Room n m c
    → Ascending m k us → Empty n c us → total + pairs_laid us ≤ n → LaidAll n m total c us (laid_all n c us)
unfolding laid_all pairs_laid list_after
laid-all {n} {m} {total} {c = c} s room none empty fits = record {
  is_sound = let same : total ≡ total + 0 = omega arith in subst (λ (t : ℕ). ChainsSound n m t c) same s;
  lists = λ j j<m. refl;
  kept = kept-none n m c;
}
laid-all {n} {m} {total} {c = c} s room (next {u = u} {us = us} lo hi whole a) empty fits =
    let count : ℕ = length u.ends / 2 in
    let d : Cells = laid_list n c u in
    let gone : places_of n c.links c.heads u.list ≡ [] = empty u (Memᴰ.head refl) in
    let one : Replaced n m total c d u.list (lowest_free n c count) = laid-list n m total c s room u hi gone (omega arith) in
    let kept₁ : CellsPastKept n m c d = laid_kept n m total c s room u hi gone (omega arith) in
    let held₁ : store_list n d u.list ≡ u.ends = laid-held n m total c s room u hi gone (omega arith) whole in
    let still : Empty n d us = λ v mv. one.places_kept v.list (ascending-at a v mv).1
    (λ (e : v.list ≡ u.list). omega (arith, (ascending-at a v mv).0)) ∙ empty v (Memᴰ.tail mv) in
    let rest : LaidAll n m (total + count) d us (laid_all n d us) =
    laid-all {total = total + count} (laid-sound n m total c s room u hi gone (omega arith))
    (kept-room kept₁ room) a still (omega arith) in
    let sum : total + count + pairs_laid us ≡ total + (count + pairs_laid us) = omega arith in
    record {
      is_sound = subst (λ (t : ℕ). ChainsSound n m t (laid_all n d us)) sum rest.is_sound;
      lists = λ i i<m. rest.lists i i<m ∙ at i i<m one held₁ (ℕ_discrete i u.list);
      kept = kept_then kept₁ rest.kept;
    }
  where
    at : (i : ℕ) → i < m → Replaced n m total c (laid_list n c u) u.list (lowest_free n c (length u.ends / 2))
        → store_list n (laid_list n c u) u.list ≡ u.ends → Dec (i ≡ u.list)
        → list_after us i (store_list n (laid_list n c u) i) ≡ list_after (u ∷ us) i (store_list n c i)
    at i i<m one held₁ (yes e) =
        after-below a i (store_list n (laid_list n c u) i) (omega arith)
        ∙ ap (λ (x : ℕ). store_list n (laid_list n c u) x) e ∙ held₁ ∙ sym (after-here u us i (store_list n c i) e)
    at i i<m one held₁ (no ne) = ap (list_after us i) (one.lists_kept i i<m ne) ∙ sym (after-other u us i (store_list n c i) ne)

pub laid-append : (n : ℕ) (us vs : List Update) (c : Cells) → laid_all n c (us ++ vs) ≡ laid_all n (laid_all n c us) vs
unfolding laid_all
laid-append n [] vs c = refl
laid-append n (u ∷ us) vs c = laid-append n us vs (laid_list n c u)

pub pairs-append : (us vs : List Update) → pairs_laid (us ++ vs) ≡ pairs_laid us + pairs_laid vs
unfolding pairs_laid
pairs-append [] vs = omega arith
pairs-append (u ∷ us) vs = omega (arith, pairs-append us vs)

-- ---- freed first, all of them, then laid
module _ {n m total k : ℕ} {c : Cells} (s : ChainsSound n m total c) (room : Room n m c) where
  -- the lists are empty once they are freed
  pub all-empty : {us : List Update} → Ascending m k us → Empty n (freed_all n c us) us
  all-empty {us} a u mu =
      let f : FreedAll n m total c us (freed_all n c us) = freed-all s room a in
      no-ends (freed_all n c us).spans (places_of n (freed_all n c us).links (freed_all n c us).heads u.list)
      (f.lists u.list (ascending-at a u mu).1 ∙ after-emptied us u (store_list n c u.list) mu)

  pub updated : {us : List Update} → Ascending m k us → total - pairs_freed n c us + pairs_laid us ≤ n
      → UpdatedStore n m total c us (applied n c us)
  unfolding applied
  updated {us} a fits =
      let f : FreedAll n m total c us (freed_all n c us) = freed-all s room a in
      let less : pairs_freed n c us ≤ total = f.fewer in
      let l : LaidAll n m (total - pairs_freed n c us) (freed_all n c us) us (laid_all n (freed_all n c us) us)
      = laid-all (f.is_sound (total - pairs_freed n c us) (omega arith)) (kept-room f.kept room) a (all-empty a) fits in
      record {
        fewer = less;
        is_sound = l.is_sound;
        lists = λ j j<m. l.lists j j<m ∙ ap (list_after us j) (f.lists j j<m) ∙ after-twice us j (store_list n c j);
        kept = kept_then f.kept l.kept;
      }

  -- ---- half-way: the updates `vs` are done, and u is the next
  pub half-freed : (vs : List Update) (u : Update) (ws : List Update) → Ascending m k (vs ++ u ∷ ws)
      → FreeListPre n (freed_all n c vs) u.list
  half-freed vs u ws a =
      let f : FreedAll n m total c vs (freed_all n c vs) = freed-all s room (ascending-left vs (u ∷ ws) a) in
      let below : u.list < m = (ascending-at a u (Memᴰ.append_right vs (Memᴰ.head refl))).1 in
      let some : ChainsSound n m (total - pairs_freed n c vs) (freed_all n c vs) =
      f.is_sound (total - pairs_freed n c vs) (omega (arith, f.fewer)) in
      let r : Room n m (freed_all n c vs) = kept-room f.kept room in
      record { in_spans = r.in_spans; in_links = r.in_links; in_heads = omega (arith, r.in_heads); chain = some.chains u.list below }

  pub half-laid : (vs : List Update) (u : Update) (ws : List Update) → Ascending m k (vs ++ u ∷ ws)
      → total - pairs_freed n c (vs ++ u ∷ ws) + pairs_laid (vs ++ u ∷ ws) ≤ n
      → LayListPre n (laid_all n (freed_all n c (vs ++ u ∷ ws)) vs) u
  unfolding pairs_laid
  half-laid vs u ws a fits =
      let us : List Update = vs ++ u ∷ ws in
      let f : FreedAll n m total c us (freed_all n c us) = freed-all s room a in
      let less : pairs_freed n c us ≤ total = f.fewer in
      let sum : pairs_laid us ≡ pairs_laid vs + (length u.ends / 2 + pairs_laid ws) = pairs-append vs (u ∷ ws) in
      let l : LaidAll n m (total - pairs_freed n c us) (freed_all n c us) vs (laid_all n (freed_all n c us) vs)
      = laid-all (f.is_sound (total - pairs_freed n c us) (omega arith)) (kept-room f.kept room)
      (ascending-left vs (u ∷ ws) a) (λ v mv. all-empty a v (Memᴰ.append_left (u ∷ ws) mv)) (omega arith) in
      let d : Cells = laid_all n (freed_all n c us) vs in
      let left : length (free_from d.spans d.links 0 n) + (total - pairs_freed n c us + pairs_laid vs) ≡ n =
      free-records n m (total - pairs_freed n c us + pairs_laid vs) d.spans d.links d.heads l.is_sound in
      let r : Room n m d = kept-room l.kept (kept-room f.kept room) in
      record {
        in_spans = r.in_spans;
        in_links = r.in_links;
        in_heads = omega (arith, r.in_heads, (ascending-at a u (Memᴰ.append_right vs (Memᴰ.head refl))).1);
        whole = ascending-whole a u (Memᴰ.append_right vs (Memᴰ.head refl));
        enough = omega arith;
      }
