-- The walk's steps: what is decided and what is not are together the same list after a pair is closed, and lose a hit's points when it is
-- taken.
use Rattle.std.proofs.Common.{◌≡◌, ℕ, ◌+◌, ◌-◌, ◌*◌, ◌/◌, ◌%◌, ◌^◌, ◌<◌, ◌≤◌, Bool, true, false, cond, not, ◌&&◌, ◌||◌, ◌⊎◌, List, []}
use Rattle.std.proofs.Common.{◌∷◌, ◌++◌, length, sym, refl, ap, ◌∙◌, subst, ap₂, inl, inr, true≢false, append_assoc, arith}
use Rattle.std.proofs.Common.{length-append}
use mathlib.Core.Path.{fun_ext}
use native.Mathlib.Decide.{dec_lt}
use lib.Ieee.{Float, lt, le}
use Rattle.logic.proofs.Bools.{and_left, and_right, and-true, and-false, by_cases, not-false}
use Rattle.doubles.proofs.Order.{lt-number, lt→le, not-le→lt, not-lt→le, lt_trans, lt-le-trans, lt_irrefl}
use Rattle.spans.specs.Spans.{within, holds, sound, less, ListOf, pair_if}
use Rattle.spans.proofs.Ends.{AtMost, Above, all_append, above-less, up_to-more, rising-right, rising-above}
use Rattle.spans.proofs.Sets.{odd_n-mod, sound-rising}
use Rattle.spans.proofs.Points.{holds-append, holds-up_to, holds-above}
use Rattle.store.specs.Store.{hi_at, next_at, places, list_from}
use Rattle.store_read.specs.Reading.{Readable}
use Rattle.store_read.proofs.Steps.{step, no-ends, ends-length}
use Rattle.log_model.specs.Counts.{is_hit_by}
use Rattle.log_model.proofs.Meets.{kept-unhit, hit-at}
use Rattle.log_model.proofs.Starts.{pairs-left}
use Rattle.log_left.specs.ListLeft.{starting_at, rest_of, ListWalked, without_pair, ListLeftPost}
use Rattle.log_left.specs.Steps.{BeginPost, StartPost, ClosePairPost, CutPairPost}
use Rattle.log_left.specs.declared.Rest.{Rest}
use Rattle.log_left.specs.declared.ListLeft.{ListLeft}
use Rattle.log_left.proofs.OnePair.{decided, undecided, taken, Cut, pair-up, behind-above, cut_list}

-- The hit [lo, hi) is being taken from the points s: so far only points of the hit are taken, and the present pair ends past lo.
pub record Taking (n : ℕ) (spans : List Float) (links : List ℕ) (l : List Float) (s : Float → Bool) (lo hi : Float) (t : Rest) : Type 0
  where
    pub now : Float → Bool
    pub walked : ListWalked n spans links l now lo t
    pub same : (p : Float) → without_pair now lo hi p ≡ without_pair s lo hi p
    pub beyond : (t.at ≡ 0 → ⊥) → lt lo (hi_at spans (t.at - 1)) ≡ true

-- the end of the present pair, and the pairs behind it
abbrev end_of : List Float → Rest → Float
end_of spans r = hi_at spans (r.at - 1)

abbrev behind : ℕ → List Float → List ℕ → Rest → List Float
behind n spans links r = list_from n spans links (next_at links (r.at - 1))

-- what is left to look at while a hit that ends at hi is taken
abbrev pub to_take : ℕ → List ℕ → Float → Rest → ℕ
to_take n links hi t = 2 * length (places links n t.at) + cond (lt t.from hi) 1 0

-- one pair more is counted
one_more : (x y d : ℕ) → y ≡ (x + 1) % 2 ^ 64 → x ≡ d / 2 % 2 ^ 64 → d % 2 ≡ 0 → y ≡ (d + 2) / 2 % 2 ^ 64
one_more x y d h k e = omega arith

rest-none : (n : ℕ) (spans : List Float) (links : List ℕ) (r : Rest) → r.at ≡ 0 → rest_of n spans links r ≡ []
unfolding rest_of
rest-none n spans links r e = ap (starting_at r.from) (no-ends n spans links r.at e)

module _ {n : ℕ} {spans : List Float} {links : List ℕ} where
  -- ---- what is undecided
  rest-pair : (r : Rest) → Readable n spans links r.at → (r.at ≡ 0 → ⊥)
      → rest_of n spans links r ≡ r.from ∷ end_of spans r ∷ behind n spans links r
  unfolding rest_of
  rest-pair r k ne = ap (starting_at r.from) (step k ne).read

  rest-begun : (k : ℕ) (moved : Bool) (left : ℕ) (r : Rest) → Readable n spans links k → BeginPost spans k moved left r
      → rest_of n spans links r ≡ list_from n spans links k
  rest-begun k moved left r h b = elim (dec_lt 0 k) [
    | yes g ↦
        let ne : k ≡ 0 → ⊥ = λ z. omega arith in
        let s = step h ne in
        rest-pair r (subst (Readable n spans links) (sym b.at_is) h) (λ z. ne (sym b.at_is ∙ z))
        ∙ ap (λ (k : ℕ). r.from ∷ hi_at spans (k - 1) ∷ list_from n spans links (next_at links (k - 1))) b.at_is
        ∙ ap (λ (x : Float). x ∷ hi_at spans (k - 1) ∷ list_from n spans links (next_at links (k - 1))) (b.from_is ne) ∙ sym s.read
    | no g ↦ let z : k ≡ 0 = omega arith in rest-none n spans links r (b.at_is ∙ z) ∙ sym (no-ends n spans links k z)
  ]

  walked-pair : {l : List Float} {s : Float → Bool} {last : Float} (r : Rest) → Readable n spans links r.at → (r.at ≡ 0 → ⊥)
      → (w : ListWalked n spans links l s last r) → ListOf s (w.done ++ (r.from ∷ end_of spans r ∷ behind n spans links r))
  walked-pair {l} {s} r k ne w = subst (λ (m : List Float). ListOf s (w.done ++ m)) (rest-pair r k ne) w.list

  -- ---- the same walk, told otherwise
  pub walked_same : {l : List Float} {s s' : Float → Bool} {last : Float} {r : Rest} → ((p : Float) → s p ≡ s' p)
      → ListWalked n spans links l s last r → ListWalked n spans links l s' last r
  walked_same {l} {last = last} {r = r} f w = subst (λ (s : Float → Bool). ListWalked n spans links l s last r) (fun_ext f) w

  pub walked-later : {l : List Float} {s : Float → Bool} (last last' : Float) {r : Rest} → le last last' ≡ true
      → ListWalked n spans links l s last r → ListWalked n spans links l s last' r
  walked-later last last' h w = record {
    done = w.done;
    list = w.list;
    whole = w.whole;
    count = w.count;
    passed = up_to-more last last' h w.done w.passed;
    inside = w.inside;
    stays = w.stays;
    moves = w.moves;
  }

  -- ---- the start of a list
  pub begins : (head : ℕ) (r : Rest) → Readable n spans links head → BeginPost spans head false 0 r → StartPost n spans links head r
  begins head r h b = record {
    readable = subst (Readable n spans links) (sym b.at_is) h;
    walked = λ s last. record {
      done = [];
      list = subst (ListOf (holds (list_from n spans links head))) (sym (rest-begun head false 0 r h b))
          (record { is_sound = s; points = λ p. refl });
      whole = omega arith;
      count = b.left_is ∙ none;
      passed = tt;
      inside = λ p t. t;
      stays = λ m p. refl;
      moves = λ m. absurd (true≢false (sym m ∙ b.moved_is));
    };
  }
    where
      none : 0 ≡ 0 / 2 % 2 ^ 64
      none = omega arith

  -- ---- one pair is closed
  pub closes : {l : List Float} {s : Float → Bool} (lo : Float) (r t : Rest) → Readable n spans links r.at → (r.at ≡ 0 → ⊥)
      → le (end_of spans r) lo ≡ true → ClosePairPost spans links r t → ListWalked n spans links l s lo r
      → ListWalked n spans links l s lo t
  closes {l} {s} lo r t k ne below b w = record {
    done = w.done ++ pair;
    list = subst (ListOf s) (sym same) w.list;
    whole = omega (arith, w.whole, length-append w.done pair);
    count = one_more r.left t.left (length w.done) b.left_is w.count w.whole
        ∙ ap (λ (d : ℕ). d / 2 % 2 ^ 64) (sym (length-append w.done pair));
    passed = all_append (AtMost lo) w.done pair w.passed (lt→le r.from lo (lt-le-trans r.from e lo up below), (below, tt));
    inside = w.inside;
    stays = λ m. w.stays (sym b.moved_is ∙ m);
    moves = λ m. w.moves (sym b.moved_is ∙ m);
  }
    where
      e : Float
      e = end_of spans r

      tail : List Float
      tail = behind n spans links r

      pair : List Float
      pair = r.from ∷ e ∷ []

      same : (w.done ++ pair) ++ rest_of n spans links t ≡ w.done ++ rest_of n spans links r
      same = append_assoc w.done pair (rest_of n spans links t)
          ∙ ap (λ (m : List Float). w.done ++ (r.from ∷ e ∷ m))
          (rest-begun (next_at links (r.at - 1)) r.moved ((r.left + 1) % 2 ^ 64) t (step k ne).next b)
          ∙ ap (λ (m : List Float). w.done ++ m) (sym (rest-pair r k ne))

      up : lt r.from e ≡ true
      up = pair-up w.done tail r.from e (sound-rising (w.done ++ (r.from ∷ e ∷ tail)) (walked-pair r k ne w).is_sound)

  -- ---- a hit is taken from the present pair
  cut-rest : (lo hi : Float) (r t : Rest) → Readable n spans links r.at → (r.at ≡ 0 → ⊥) → CutPairPost n spans links lo hi r t
      → rest_of n spans links t ≡ undecided hi (end_of spans r) (behind n spans links r)
  unfolding rest_of
  cut-rest lo hi r t k ne c = elim (by_cases (lt hi (end_of spans r))) [
    | inl h ↦ rw h (ap (λ (a : ℕ). starting_at t.from (list_from n spans links a)) (c.inside h).0
        ∙ ap (starting_at t.from) (step k ne).read
        ∙ ap (λ (x : Float). x ∷ end_of spans r ∷ behind n spans links r) (c.inside h).1)
    | inr h ↦ rw h (rest-begun (next_at links (r.at - 1)) t.moved t.left t (step k ne).next (c.behind h))
  ]

  cut-count : (lo hi : Float) (r t : Rest) (done : List Float) → CutPairPost n spans links lo hi r t
      → r.left ≡ length done / 2 % 2 ^ 64 → length done % 2 ≡ 0 → t.left ≡ length (decided done r.from lo) / 2 % 2 ^ 64
  cut-count lo hi r t done c k e =
      c.left_is ∙ go (lt r.from lo) ∙ ap (λ (d : ℕ). d / 2 % 2 ^ 64) (sym (length-append done (pair_if r.from lo)))
    where
      go : (b : Bool) → cond b ((r.left + 1) % 2 ^ 64) r.left ≡ (length done + length (cond b (r.from ∷ lo ∷ []) [])) / 2 % 2 ^ 64
      go true = one_more r.left ((r.left + 1) % 2 ^ 64) (length done) refl k e
      go false = omega arith

  pub cuts : {l : List Float} (s : Float → Bool) (lo hi : Float) (r t : Rest) → Readable n spans links r.at → (r.at ≡ 0 → ⊥)
      → lt lo hi ≡ true → lt r.from hi ≡ true → lt lo (end_of spans r) ≡ true → CutPairPost n spans links lo hi r t
      → ListWalked n spans links l s lo r → ListWalked n spans links l (λ p. s p && not (taken r.from (end_of spans r) lo hi p)) lo t
  cuts {l} s lo hi r t k ne up reaches reached c w = record {
    done = decided w.done r.from lo;
    list = subst (λ (m : List Float). ListOf (λ p. s p && not (taken r.from e lo hi p)) (decided w.done r.from lo ++ m))
        (sym (cut-rest lo hi r t k ne c)) cut.list;
    whole = cut.whole;
    count = cut-count lo hi r t w.done c w.count w.whole;
    passed = cut.passed;
    inside = λ p h. w.inside p (and_left (s p) (not (taken r.from e lo hi p)) h);
    stays = λ m. absurd (true≢false (sym c.moved_is ∙ m));
    moves = λ m.
        let (p, a, b) = cut.point in
        (p, w.inside p a, and-false (s p) (not (taken r.from e lo hi p)) (ap not b));
  }
    where
      e : Float
      e = end_of spans r

      tail : List Float
      tail = behind n spans links r

      old : ListOf s (w.done ++ (r.from ∷ e ∷ tail))
      old = walked-pair r k ne w

      cut : Cut w.done tail r.from e lo hi s
      cut = cut_list w.done tail r.from e lo hi old.is_sound w.whole w.passed up reaches reached s old.points

  pub cut-readable : (lo hi : Float) (r t : Rest) → Readable n spans links r.at → (r.at ≡ 0 → ⊥) → CutPairPost n spans links lo hi r t
      → Readable n spans links t.at
  cut-readable lo hi r t k ne c = elim (by_cases (lt hi (end_of spans r))) [
    | inl h ↦ subst (Readable n spans links) (sym (c.inside h).0) k
    | inr h ↦ subst (Readable n spans links) (sym (c.behind h).at_is) (step k ne).next
  ]

  pub cut-less : (lo hi : Float) (r t : Rest) → Readable n spans links r.at → (r.at ≡ 0 → ⊥) → lt r.from hi ≡ true
      → CutPairPost n spans links lo hi r t → to_take n links hi t < to_take n links hi r
  cut-less lo hi r t k ne reaches c = elim (by_cases (lt hi (end_of spans r))) [
    | inl h ↦ rw ((c.inside h).0, (c.inside h).1, lt_irrefl hi, reaches) (omega arith)
    | inr h ↦ rw ((c.behind h).at_is, reaches) (omega (arith, (step k ne).less, at_most (lt t.from hi)))
  ]
    where
      at_most : (b : Bool) → cond b 1 0 ≤ 1
      at_most true = omega arith
      at_most false = omega arith

  -- ---- a hit is taken from all pairs
  pub taking-starts : {l : List Float} {s : Float → Bool} (lo hi : Float) (t : Rest) → Readable n spans links t.at → lt lo hi ≡ true
      → ((t.at ≡ 0 → ⊥) → le (end_of spans t) lo ≡ false) → ListWalked n spans links l s lo t → Taking n spans links l s lo hi t
  taking-starts {l} {s} lo hi t k up past w = record {
    now = s;
    walked = w;
    same = λ p. refl;
    beyond = λ ne.
        let r = sound-rising _ (walked-pair t k ne w).is_sound in
        let pair = pair-up w.done (behind n spans links t) t.from (end_of spans t) r in
        not-le→lt (end_of spans t) lo (lt-number t.from (end_of spans t) pair).1 (lt-number lo hi up).0 (past ne);
  }

  pub taking-on : {l : List Float} {s : Float → Bool} (lo hi : Float) (r t : Rest) → Readable n spans links r.at → (r.at ≡ 0 → ⊥)
      → lt lo hi ≡ true → lt r.from hi ≡ true → CutPairPost n spans links lo hi r t → Taking n spans links l s lo hi r
      → Taking n spans links l s lo hi t
  taking-on {l} {s} lo hi r t k ne up reaches c w = record {
    now = λ p. w.now p && not (taken r.from e lo hi p);
    walked = cuts w.now lo hi r t k ne up reaches (w.beyond ne) c w.walked;
    same = λ p. twice (w.now p) (within lo hi p) (within r.from e p) ∙ w.same p;
    beyond = λ more. elim (by_cases (lt hi e)) [
      | inl h ↦ subst (λ (a : ℕ). lt lo (hi_at spans (a - 1)) ≡ true) (sym (c.inside h).0) (w.beyond ne)
      | inr h ↦
          let b = c.behind h in
          subst (λ (a : ℕ). lt lo (hi_at spans (a - 1)) ≡ true) (sym b.at_is)
          (lt_trans lo e (hi_at spans (next - 1)) (w.beyond ne) (further (λ z. more (b.at_is ∙ z))))
    ];
  }
    where
      e : Float
      e = end_of spans r

      next : ℕ
      next = next_at links (r.at - 1)

      twice : (a b x : Bool) → ((a && not (b && x)) && not b) ≡ (a && not b)
      twice true true true = refl
      twice true true false = refl
      twice true false x = refl
      twice false b x = refl

      further : (next ≡ 0 → ⊥) → lt e (hi_at spans (next - 1)) ≡ true
      further m =
          let rises = sound-rising _ (walked-pair r k ne w.walked).is_sound in
          let above = behind-above w.walked.done (list_from n spans links next) r.from e rises in
          (subst (λ (l : List Float). Above e l) (step (step k ne).next m).read above).1.0

  pub taking-ends : {l : List Float} {s : Float → Bool} (lo hi : Float) (t : Rest) → Readable n spans links t.at → lt lo hi ≡ true
      → (t.at ≡ 0) ⊎ (lt t.from hi ≡ false) → Taking n spans links l s lo hi t → ListWalked n spans links l (without_pair s lo hi) lo t
  taking-ends {l} {s} lo hi t k up end w = walked_same (λ p. none p ∙ w.same p) w.walked
    where
      done : List Float
      done = w.walked.done

      rest : List Float
      rest = rest_of n spans links t

      -- what is undecided starts at or past the hit's end
      rest-past : (p : Float) → lt p hi ≡ true → Above p rest
      rest-past p h = elim (dec_lt 0 t.at) [
        | no g ↦ subst (Above p) (sym (rest-none n spans links t (omega arith))) tt
        | yes g ↦
            let e = end_of spans t in
            let tail = behind n spans links t in
            let ne : t.at ≡ 0 → ⊥ = λ z. omega arith in
            let r = sound-rising (done ++ (t.from ∷ e ∷ tail)) (walked-pair t k ne w.walked).is_sound in
            let number = (lt-number t.from e (pair-up done tail t.from e r)).0 in
            let start : lt p t.from ≡ true = elim end [
              | inl z ↦ absurd (ne z)
              | inr z ↦ lt-le-trans p hi t.from h (not-lt→le t.from hi number (lt-number lo hi up).1 z)
            ] in
            subst (Above p) (sym (rest-pair t k ne)) (
              start,
              above-less p t.from (lt→le p t.from start) (e ∷ tail)
                  (rising-above t.from (e ∷ tail) (rising-right done (t.from ∷ e ∷ tail) r)),
            )
      ]

      none : (p : Float) → w.now p ≡ without_pair w.now lo hi p
      none p = elim (by_cases (within lo hi p)) [
        | inl h ↦
            let gone : w.now p ≡ false = sym (w.walked.list.points p)
            ∙ holds-append done rest p (odd_n-mod (length done) w.walked.whole)
            ∙ ap₂ ◌||◌ (holds-up_to done p (up_to-more lo p (and_left (le lo p) (lt p hi) h) done w.walked.passed))
            (holds-above rest p (rest-past p (and_right (le lo p) (lt p hi) h))) in
            gone ∙ sym (ap (λ (b : Bool). b && not (within lo hi p)) gone)
        | inr h ↦ sym (and-true (w.now p)) ∙ sym (ap (λ (b : Bool). w.now p && not b) h)
      ]

  -- ---- the end of the walk
  pub tells : (l hits : List Float) (last : Float) (r : Rest) (t : ListLeft) → sound l ≡ true
      → ListWalked n spans links l (less l hits) last r
      → t.moved ≡ r.moved → t.pairs ≡ (r.left + length (places links n r.at)) % 2 ^ 64 → ListLeftPost l hits t
  unfolding rest_of
  tells l hits last r t s w m c = record {
    moved = m ∙ go r.moved refl;
    pairs = c
        ∙ together r.left (length (places links n r.at)) (length w.done) (length (rest_of n spans links r)) w.count w.whole
        (starting r.from (list_from n spans links r.at) ∙ ends-length spans (places links n r.at))
        ∙ ap (λ (d : ℕ). d / 2 % 2 ^ 64) (sym (length-append w.done (rest_of n spans links r)))
        ∙ ap (λ (d : ℕ). d % 2 ^ 64) (pairs-left l hits (w.done ++ rest_of n spans links r) s w.list);
  }
    where
      together : (x k d e : ℕ) → x ≡ d / 2 % 2 ^ 64 → d % 2 ≡ 0 → e ≡ 2 * k → (x + k) % 2 ^ 64 ≡ (d + e) / 2 % 2 ^ 64
      together x k d e h z g = omega arith

      starting : (x : Float) (m : List Float) → length (starting_at x m) ≡ length m
      starting x [] = refl
      starting x (y ∷ m) = refl

      go : (b : Bool) → r.moved ≡ b → b ≡ is_hit_by l hits
      go true h =
          let (p, a, b) = w.moves h in
          sym (hit-at l hits p a (not-false (holds hits p) (sym (ap (λ (b : Bool). b && not (holds hits p)) a) ∙ b)))
      go false h = sym ((kept-unhit l hits s).0 (w.stays h))
