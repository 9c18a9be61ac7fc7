-- Laws of filling: the free places, and what a filled record leaves of them.
use mathlib.Core.Path.{◌≡◌, refl, sym, ap, ◌∙◌, subst}
use mathlib.Core.Bool.{Bool, true, false, cond}
use mathlib.Core.Logic.{⊎_elim}
use mathlib.Core.List.Memᴰ
use mathlib.Core.List.{List, [], ◌∷◌, Memᴰ}
use Prim.Native.Nat.{ℕ, zero, suc, ◌+◌, ◌-◌, ◌*◌, ◌≤◌, ◌<◌}
use native.Mathlib.Decide.{dec_lt, ℕ_discrete}
use native.Mathlib.Omega.{arith}
use lib.Ieee.{Float, nan}
use lib.ListN.{length, get_or, take, drop, length-set}
use lib.Seq.{get_or-drop, drop-drop}
use native.Mathlib.Nat.{add-zero}
use native.Mathlib.Numerals.{add-one}
use Rattle.store.specs.Fills.{NextFree, FreeCursor, FillListPre}
use Rattle.store.proofs.FreePlaces.{free-at}
use Rattle.store.proofs.Records.{put_other, put-here, same-used, owned-used}
use Rattle.store.specs.Store.{owner_at, used_at, free_from, head_of, filled_links, filled_spans, put_span, put_link}

module _ (spans : List Float) (links : List ℕ) (n : ℕ) where
  none-past : (c : ℕ) → n ≤ c → free_from spans links c (n - c) ≡ []
  unfolding free_from
  none-past c h = let none : n - c ≡ 0 = omega arith in ap (free_from spans links c) none

  pub free-some : (c : ℕ) → 0 < length (free_from spans links c (n - c)) → c < n
  free-some c h = at (dec_lt c n)
    where
      at : Dec (c < n) → c < n
      at (yes l) = l
      at (no ge) = absurd (omega (arith, ap length (none-past c (omega (arith, ge)))))

  here : (c : ℕ) → c < n → free_from spans links c (n - c)
      ≡ cond (used_at spans links c) (free_from spans links (c + 1) (n - (c + 1)))
      (c ∷ free_from spans links (c + 1) (n - (c + 1)))
  unfolding free_from
  here c h =
      let left : n - c ≡ suc (n - (c + 1)) = omega arith in
      let next : suc c ≡ c + 1 = omega arith in
      ap (free_from spans links c) left
      ∙ ap (λ (x : ℕ). cond (used_at spans links c) (free_from spans links x (n - (c + 1)))
      (c ∷ free_from spans links x (n - (c + 1)))) next

  pub free-skip : (c : ℕ) → c < n → used_at spans links c ≡ true
      → free_from spans links c (n - c) ≡ free_from spans links (c + 1) (n - (c + 1))
  free-skip c h u = here c h ∙ ap
      (λ (t : Bool). cond t (free_from spans links (c + 1) (n - (c + 1))) (c ∷ free_from spans links (c + 1) (n - (c + 1)))) u

  pub free-here : (c : ℕ) → c < n → used_at spans links c ≡ false
      → free_from spans links c (n - c) ≡ c ∷ free_from spans links (c + 1) (n - (c + 1))
  free-here c h u = here c h ∙ ap
      (λ (t : Bool). cond t (free_from spans links (c + 1) (n - (c + 1))) (c ∷ free_from spans links (c + 1) (n - (c + 1)))) u

  -- a free place is among those that are found
  pub free-found : (r c x : ℕ) → c ≤ x → x < c + r → used_at spans links x ≡ false → Memᴰ x (free_from spans links c r)
  unfolding free_from
  free-found zero c x lo hi u = absurd (omega arith)
  free-found (suc r) c x lo hi u = at (ℕ_discrete x c) (λ (l : suc c ≤ x). free-found r (suc c) x l (omega arith) u)
    where
      skipped : (t : Bool) → Memᴰ x (free_from spans links (suc c) r)
          → Memᴰ x (cond t (free_from spans links (suc c) r) (c ∷ free_from spans links (suc c) r))
      skipped true m = m
      skipped false m = Memᴰ.tail m

      at : Dec (x ≡ c) → (suc c ≤ x → Memᴰ x (free_from spans links (suc c) r))
          → Memᴰ x (cond (used_at spans links c) (free_from spans links (suc c) r) (c ∷ free_from spans links (suc c) r))
      at (yes e) rec = subst (λ (t : Bool). Memᴰ x
          (cond t (free_from spans links (suc c) r) (c ∷ free_from spans links (suc c) r)))
          (sym u ∙ ap (used_at spans links) e) (Memᴰ.head e)
      at (no ne) rec = skipped (used_at spans links c) (rec (omega (arith, ne)))

  -- the places before the first free one are in use
  pub next_past : (c r : ℕ) → NextFree spans links n c r → (x : ℕ) → c ≤ x → x < r → used_at spans links x ≡ true
  next_past c r f x lo hi = at (used_at spans links x) refl
    where
      at : (t : Bool) → used_at spans links x ≡ t → t ≡ true
      at true u = refl
      at false u = absurd (⊎_elim
          (λ (e : x ≡ r). omega arith)
          (λ (m : Memᴰ x (free_from spans links (r + 1) (n - (r + 1)))). omega
          (arith, (free-at spans links (n - (r + 1)) (r + 1) x m).from))
          (Memᴰ.cases_cons (subst (Memᴰ x) f.first (free-found (n - c) c x lo (omega (arith, f.counted)) u))))

  -- so the free places are those from a cursor on
  pub free-onward : (from : ℕ) → FreeCursor n spans links from → free_from spans links 0 n ≡ free_from spans links from (n - from)
  free-onward from k = up_to from (omega arith)
    where
      up_to : (i : ℕ) → i ≤ from → free_from spans links 0 n ≡ free_from spans links i (n - i)
      up_to zero h = let all : n ≡ n - 0 = omega arith in ap (free_from spans links 0) all
      up_to (suc i) h =
          let next : i + 1 ≡ suc i = omega arith in
          up_to i (omega arith) ∙ free-skip i (omega (arith, k.most)) (k.past i (omega arith))
          ∙ ap (λ (x : ℕ). free_from spans links x (n - x)) next

-- ---- a record at a place before c is written
pub free-after : (spans : List Float) (links : List ℕ) (i : ℕ) (a b : Float) (p o c r : ℕ) → i < c
    → free_from (put_span spans i a b) (put_link links i p o) c r ≡ free_from spans links c r
unfolding free_from
free-after spans links i a b p o c zero h = refl
free-after spans links i a b p o c (suc r) h =
    let same : used_at (put_span spans i a b) (put_link links i p o) c ≡ used_at spans links c =
    same-used (put_other spans links i a b p o c (λ (e : c ≡ i). omega arith)) in
    let rest : free_from (put_span spans i a b) (put_link links i p o) (suc c) r ≡ free_from spans links (suc c) r =
    free-after spans links i a b p o (suc c) r (omega arith) in
    cc

-- ---- one turn of `fill_list`: of the places left, the first is filled and the second is where the next record goes
pub take-two : (k : ℕ) (i j : ℕ) (l : List ℕ) → 1 < k → take k (i ∷ j ∷ l) ≡ i ∷ take (k - 1) (j ∷ l)
take-two zero i j l h = absurd (omega arith)
take-two (suc zero) i j l h = absurd (omega arith)
take-two (suc (suc k)) i j l h = let one : suc (suc k) - 1 ≡ suc k = omega arith in ap (λ (m : ℕ). i ∷ take m (j ∷ l)) (sym one)

pub take_last : (k : ℕ) (i : ℕ) (l : List ℕ) → k ≡ 1 → take k (i ∷ l) ≡ i ∷ []
take_last k i l e = ap (λ (m : ℕ). take m (i ∷ l)) e

pub head-take : (k : ℕ) (j : ℕ) (l : List ℕ) → 0 < k → head_of (take k (j ∷ l)) ≡ suc j
head-take zero j l h = absurd (omega arith)
head-take (suc k) j l h = refl

spans-cons : (spans : List Float) (i : ℕ) (ps : List ℕ) (pairs : List Float)
    → filled_spans spans (i ∷ ps) pairs ≡ filled_spans (put_span spans i (get_or pairs 0 nan) (get_or pairs 1 nan)) ps (drop 2 pairs)
unfolding filled_spans
spans-cons spans i ps pairs = refl

links-cons : (links : List ℕ) (o i : ℕ) (ps : List ℕ) → filled_links links o (i ∷ ps) ≡ filled_links (put_link links i (head_of ps) o) o ps
unfolding filled_links
links-cons links o i ps = refl

-- the state of a fill: t pairs are laid, and place `at` is the next; `ps` are the places of all of them
pub record Filling (n o count : ℕ) (pairs spans₀ : List Float) (links₀ ps : List ℕ) (spans : List Float)
    (links : List ℕ) (at t : ℕ) : Type 0 where
  pub counted : at < n
  pub left : t < count
  pub owned : 0 < o
  pub room_spans : 2 * n ≤ length spans
  pub room_links : 2 * n ≤ length links
  pub same_spans : length spans ≡ length spans₀
  pub same_links : length links ≡ length links₀
  pub past : (x : ℕ) → x < at → used_at spans links x ≡ true
  pub enough : count - t ≤ suc (length (free_from spans links (at + 1) (n - (at + 1))))
  pub spans_so : filled_spans spans₀ ps pairs
      ≡ filled_spans spans (take (count - t) (at ∷ free_from spans links (at + 1) (n - (at + 1)))) (drop (2 * t) pairs)
  pub links_so : filled_links links₀ o ps ≡ filled_links links o (take (count - t) (at ∷ free_from spans links (at + 1) (n - (at + 1))))

module _ (n o count : ℕ) (pairs spans₀ : List Float) (links₀ : List ℕ) where
  pub fill-some : (from : ℕ) → FillListPre n spans₀ links₀ o pairs count from → 0 < length (free_from spans₀ links₀ from (n - from))
  fill-some from f = omega (arith, f.some, f.enough, ap length (free-onward spans₀ links₀ n from f.cursor))

  -- the free places, in the terms of the first of them
  first_of : (from at : ℕ) → FillListPre n spans₀ links₀ o pairs count from → NextFree spans₀ links₀ n from at
      → free_from spans₀ links₀ 0 n ≡ at ∷ free_from spans₀ links₀ (at + 1) (n - (at + 1))
  first_of from at f g = free-onward spans₀ links₀ n from f.cursor ∙ g.first

  pub fill_start : (from at : ℕ) → FillListPre n spans₀ links₀ o pairs count from → NextFree spans₀ links₀ n from at
      → Filling n o count pairs spans₀ links₀ (take count (free_from spans₀ links₀ 0 n)) spans₀ links₀ at 0
  fill_start from at f g =
      let all : count - 0 ≡ count = omega arith in
      let first : free_from spans₀ links₀ 0 n ≡ at ∷ free_from spans₀ links₀ (at + 1) (n - (at + 1)) = first_of from at f g in
      record {
        counted = g.counted;
        left = f.some;
        owned = f.owned;
        room_spans = f.in_spans;
        room_links = f.in_links;
        same_spans = refl;
        same_links = refl;
        past = λ x h. before x h (dec_lt x from);
        enough = omega (arith, f.enough, ap length first);
        spans_so = ap (λ (l : List ℕ). filled_spans spans₀ (take count l) pairs) first
            ∙ ap (λ (m : ℕ). filled_spans spans₀ (take m (at ∷ free_from spans₀ links₀ (at + 1) (n - (at + 1)))) pairs)
            (sym all);
        links_so = ap (λ (l : List ℕ). filled_links links₀ o (take count l)) first
            ∙ ap (λ (m : ℕ). filled_links links₀ o (take m (at ∷ free_from spans₀ links₀ (at + 1) (n - (at + 1))))) (sym all);
      }
    where
      before : (x : ℕ) → x < at → Dec (x < from) → used_at spans₀ links₀ x ≡ true
      before x h (yes l) = f.cursor.past x l
      before x h (no ge) = next_past spans₀ links₀ n from at g x (omega (arith, ge)) h

  module _ (ps : List ℕ) (spans : List Float) (links : List ℕ) (at t : ℕ)
      (s : Filling n o count pairs spans₀ links₀ ps spans links at t) where
    -- the two doubles of pair t
    first-end : get_or (drop (2 * t) pairs) 0 nan ≡ get_or pairs (2 * t) nan
    first-end = get_or-drop (2 * t) pairs 0 nan ∙ ap (λ (i : ℕ). get_or pairs i nan) (add-zero (2 * t))

    second-end : get_or (drop (2 * t) pairs) 1 nan ≡ get_or pairs (2 * t + 1) nan
    second-end = get_or-drop (2 * t) pairs 1 nan

    -- with the record at place `at` written, each place up to it is in use
    put-past : (a b : Float) (p x : ℕ) → x < at + 1 → used_at (put_span spans at a b) (put_link links at p o) x ≡ true
    put-past a b p x h = go (ℕ_discrete x at)
      where
        go : Dec (x ≡ at) → used_at (put_span spans at a b) (put_link links at p o) x ≡ true
        go (yes e) =
            let own : owner_at (put_link links at p o) at ≡ suc (o - 1) =
            (put-here spans links at a b p o (omega (arith, s.counted, s.room_spans))
            (omega (arith, s.counted, s.room_links))).owner
            ∙ (let w : o ≡ suc (o - 1) = omega (arith, s.owned) in w) in
            owned-used (put_span spans at a b) (put_link links at p o) x (o - 1) (ap (owner_at (put_link links at p o)) e ∙ own)
        go (no ne) = same-used (put_other spans links at a b p o x ne) ∙ s.past x (omega (arith, ne))

    pub fill-turn : (after : ℕ) → t + 1 < count → NextFree spans links n (at + 1) after
        → Filling n o count pairs spans₀ links₀ ps
        (put_span spans at (get_or pairs (2 * t) nan) (get_or pairs (2 * t + 1) nan)) (put_link links at (after + 1) o)
        after (t + 1)
    fill-turn after more f =
        let lo : Float = get_or pairs (2 * t) nan in
        let hi : Float = get_or pairs (2 * t + 1) nan in
        let G : List ℕ = free_from spans links (after + 1) (n - (after + 1)) in
        let spans' : List Float = put_span spans at lo hi in
        let links' : List ℕ = put_link links at (after + 1) o in
        let G' : free_from spans' links' (after + 1) (n - (after + 1)) ≡ G =
        free-after spans links at lo hi (after + 1) o (after + 1) (n - (after + 1)) (omega (arith, f.from)) in
        let less : count - t - 1 ≡ count - (t + 1) = omega arith in
        let places : take (count - t) (at ∷ free_from spans links (at + 1) (n - (at + 1))) ≡ at ∷ take (count - (t + 1)) (after ∷ G)
        = ap (λ (l : List ℕ). take (count - t) (at ∷ l)) f.first ∙ take-two (count - t) at after G (omega arith)
        ∙ ap (λ (m : ℕ). at ∷ take m (after ∷ G)) less in
        let head : head_of (take (count - (t + 1)) (after ∷ G)) ≡ after + 1 =
        head-take (count - (t + 1)) after G (omega arith) ∙ sym (add-one after) in
        let pairs' : drop 2 (drop (2 * t) pairs) ≡ drop (2 * (t + 1)) pairs = drop-drop 2 (2 * t) pairs
        ∙ ap (λ (i : ℕ). drop i pairs) (let e : 2 * t + 2 ≡ 2 * (t + 1) = omega arith in e) in
        record {
          counted = f.counted;
          left = more;
          owned = s.owned;
          room_spans = simp length-set s.room_spans;
          room_links = simp length-set s.room_links;
          same_spans = simp length-set s.same_spans;
          same_links = simp length-set s.same_links;
          past = λ x h. before x h (dec_lt x (at + 1));
          enough = omega (arith, s.enough, ap length f.first, ap length G');
          spans_so = s.spans_so ∙ ap (λ (l : List ℕ). filled_spans spans l (drop (2 * t) pairs)) places
              ∙ spans-cons spans at (take (count - (t + 1)) (after ∷ G)) (drop (2 * t) pairs)
              ∙ simp (first-end, second-end, pairs', G');
          links_so = s.links_so ∙ ap (filled_links links o) places
              ∙ links-cons links o at (take (count - (t + 1)) (after ∷ G)) ∙ simp (head, G');
        }
      where
        before : (x : ℕ) → x < after → Dec (x < at + 1)
            → used_at (put_span spans at (get_or pairs (2 * t) nan) (get_or pairs (2 * t + 1) nan))
            (put_link links at (after + 1) o) x ≡ true
        before x h (yes l) = put-past (get_or pairs (2 * t) nan) (get_or pairs (2 * t + 1) nan) (after + 1) x l
        before x h (no ge) = same-used
            (put_other spans links at (get_or pairs (2 * t) nan) (get_or pairs (2 * t + 1) nan) (after + 1) o x
            (λ (e : x ≡ at). omega (arith, ge))) ∙ next_past spans links n (at + 1) after f x (omega (arith, ge)) h

    -- the last pair, u, is laid with no next
    pub fill_end : (u : ℕ) → t ≡ u → count ≤ t + 1
        → (put_span spans at (get_or pairs (2 * u) nan) (get_or pairs (2 * u + 1) nan) ≡ filled_spans spans₀ ps pairs)
        × (put_link links at 0 o ≡ filled_links links₀ o ps)
    unfolding filled_spans filled_links
    fill_end u e last =
        let one : count - t ≡ 1 = omega (arith, s.left) in
        let places : take (count - t) (at ∷ free_from spans links (at + 1) (n - (at + 1))) ≡ at ∷ [] =
        take_last (count - t) at (free_from spans links (at + 1) (n - (at + 1))) one in (
          ap (λ (i : ℕ). put_span spans at (get_or pairs (2 * i) nan) (get_or pairs (2 * i + 1) nan)) (sym e)
              ∙ sym (s.spans_so ∙ ap (λ (l : List ℕ). filled_spans spans l (drop (2 * t) pairs)) places ∙ simp (first-end, second-end)),
          sym (s.links_so ∙ ap (filled_links links o) places),
        )

    pub fill-onward : (a b : Float) → FreeCursor n (put_span spans at a b) (put_link links at 0 o) (at + 1)
    fill-onward a b = record { most = omega (arith, s.counted); past = put-past a b 0 }

  -- the number of the record at the first place
  pub first_head : (from at : ℕ) → FillListPre n spans₀ links₀ o pairs count from → NextFree spans₀ links₀ n from at
      → at + 1 ≡ head_of (take count (free_from spans₀ links₀ 0 n))
  first_head from at f g =
      sym (ap (λ (l : List ℕ). head_of (take count l)) (first_of from at f g)
      ∙ head-take count at (free_from spans₀ links₀ (at + 1) (n - (at + 1))) f.some ∙ sym (add-one at))

pub refill : {n o count : ℕ} {pairs spans₀ : List Float} {links₀ ps : List ℕ} {spans spans' : List Float}
    {links links' : List ℕ} {at t : ℕ} → spans' ≡ spans → links' ≡ links
    → Filling n o count pairs spans₀ links₀ ps spans links at t → Filling n o count pairs spans₀ links₀ ps spans' links' at t
refill {n} {o} {count} {pairs} {spans₀} {links₀} {ps} {spans} {spans'} {links} {links'} {at} {t} es el f =
    subst (λ (l : List Float). Filling n o count pairs spans₀ links₀ ps l links' at t) (sym es)
    (subst (λ (l : List ℕ). Filling n o count pairs spans₀ links₀ ps spans l at t) (sym el) f)

pub cursor-same : {n : ℕ} {spans spans' : List Float} {links links' : List ℕ} {r : ℕ} → spans' ≡ spans
    → links' ≡ links → FreeCursor n spans links r → FreeCursor n spans' links' r
cursor-same {n} {spans} {spans'} {links} {links'} {r} es el k =
    subst (λ (l : List Float). FreeCursor n l links' r) (sym es) (subst (λ (l : List ℕ). FreeCursor n spans l r) (sym el) k)
