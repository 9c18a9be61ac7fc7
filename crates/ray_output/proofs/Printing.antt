-- What the loops that print keep, and how long what they print is.
use mathlib.Core.Path.{◌≡◌, refl, sym, ◌∙◌, ap, subst}
use mathlib.Core.List.{List, [], ◌∷◌, ◌++◌, append_assoc, append-nil}
use Prim.Native.Nat.{ℕ, zero, suc, ◌+◌, ◌*◌, ◌/◌, ◌%◌, ◌≤◌, ◌<◌}
use native.Mathlib.Omega.{arith}
use native.Mathlib.Numerals.{add-one}
use lib.ListN.{length, get_or, take, drop, set, length-append, length-drop, take-append-drop}
use lib.Seq.{length-take-le, take-suc, set_at}
use lib.Ieee.{Float, nan, binary64, to_bits}
use Rattle.ray_input.specs.Format.{newline}
use Rattle.ray_output.specs.Output.{glyph, hex, field_text, line_text, lines_text}
use Rattle.ray_input.specs.Steps.{Appended}
use Rattle.ray_input.proofs.Writing.{put-none, put_then, same_size}

-- ---- hex digits
pub hex-length : (k v : ℕ) → length (hex k v) ≡ k
unfolding hex
hex-length zero v = refl
hex-length (suc k) v = length-append (hex k (v / 16)) (glyph (v % 16) ∷ []) ∙ omega (arith, hex-length k (v / 16))

-- the digits from place k on stand, and the first k of `rest` are still to come
pub record Hexing (out₀ : List ℕ) (at v k rest : ℕ) (out : List ℕ) : Type 0 where
  pub most : k ≤ 16
  pub tail : List ℕ
  pub spells : hex k rest ++ tail ≡ hex 16 v
  pub text_is : out ≡ take (at + k) out₀ ++ (tail ++ drop (at + 16) out₀)

hex-none : (v : ℕ) → hex 0 v ≡ []
unfolding hex
hex-none v = refl

hex-more : (j v : ℕ) → hex (j + 1) v ≡ hex j (v / 16) ++ (glyph (v % 16) ∷ [])
unfolding hex
hex-more j v = rw (add-one j)

module _ (out₀ : List ℕ) (at v : ℕ) (fit : at + 16 ≤ length out₀) where
  pub hex-start : Hexing out₀ at v 16 v out₀
  hex-start = record { most = omega arith; tail = []; spells = append-nil (hex 16 v); text_is = sym (take-append-drop (at + 16) out₀) }

  pub hex-step : (j rest : ℕ) (out : List ℕ) → Hexing out₀ at v (j + 1) rest out
      → Hexing out₀ at v j (rest / 16) (set out (at + j) (glyph (rest % 16)))
  hex-step j rest out h =
      let g = glyph (rest % 16) in
      let past = h.tail ++ drop (at + 16) out₀ in
      let small : at + j < length out₀ = omega (arith, h.most) in
      let front : take (at + (j + 1)) out₀ ≡ take (at + j) out₀ ++ (get_or out₀ (at + j) 0 ∷ []) =
      rw (one at j) (take-suc out₀ (at + j) 0 small) in
      let split : out ≡ take (at + j) out₀ ++ (get_or out₀ (at + j) 0 ∷ past) =
      h.text_is ∙ ap (λ (l : List ℕ). l ++ past) front ∙ append_assoc (take (at + j) out₀) (get_or out₀ (at + j) 0 ∷ []) past in
      record {
        most = omega (arith, h.most);
        tail = g ∷ h.tail;
        spells = sym (append_assoc (hex j (rest / 16)) (g ∷ []) h.tail)
            ∙ ap (λ (l : List ℕ). l ++ h.tail) (sym (hex-more j rest)) ∙ h.spells;
        text_is = ap (λ (l : List ℕ). set l (at + j) g) split
            ∙ set_at (take (at + j) out₀) (get_or out₀ (at + j) 0) past g (at + j) (length-take-le (at + j) out₀ (omega arith));
      }
    where
      one : (a j : ℕ) → a + (j + 1) ≡ suc (a + j)
      one a j = omega arith

  pub hex-size : (k rest : ℕ) (out : List ℕ) → Hexing out₀ at v k rest out → length out ≡ length out₀
  hex-size k rest out h =
      omega (
        arith,
        ap length h.text_is,
        length-append (take (at + k) out₀) (h.tail ++ drop (at + 16) out₀),
        length-append h.tail (drop (at + 16) out₀),
        length-take-le (at + k) out₀ (omega (arith, h.most)),
        length-drop (at + 16) out₀,
        ap length h.spells,
        length-append (hex k rest) h.tail,
        hex-length k rest,
        hex-length 16 v,
        h.most,
      )

  pub hex-done : (rest : ℕ) (out : List ℕ) → Hexing out₀ at v 0 rest out → Appended out₀ at (hex 16 v) out (at + 16)
  hex-done rest out h = record {
    next = omega (arith, hex-length 16 v);
    room = fit;
    whole = h.text_is
        ∙ ap (λ (n : ℕ). take n out₀ ++ (h.tail ++ drop (at + 16) out₀)) (none at)
        ∙ ap (λ (l : List ℕ). take at out₀ ++ (l ++ drop (at + 16) out₀))
        (ap (λ (l : List ℕ). l ++ h.tail) (sym (hex-none rest)) ∙ h.spells);
  }
    where
      none : (n : ℕ) → n + 0 ≡ n
      none n = omega arith

-- ---- lines
pub field-length : (x : Float) → length (field_text x) ≡ 17
field-length x = omega (arith, hex-length 16 (to_bits binary64 x))

pub line-length : (c : ℕ) (lo hi : Float) → length (line_text c lo hi) ≡ 36
unfolding line_text
line-length c lo hi =
    omega (
      arith,
      length-append (field_text lo) (field_text hi ++ (newline ∷ [])),
      length-append (field_text hi) (newline ∷ []),
      field-length lo,
      field-length hi,
    )

pub lines_two : (c : ℕ) (l : List Float) (k : ℕ) → k % 2 ≡ 0 → suc k < length l
    → lines_text c (take (suc (suc k)) l) ≡ lines_text c (take k l) ++ line_text c (get_or l k nan) (get_or l (suc k) nan)
unfolding lines_text
lines_two c [] k e h = absurd (omega arith)
lines_two c (x ∷ []) k e h = absurd (omega arith)
lines_two c (x ∷ y ∷ l) zero e h = append-nil (line_text c x y)
lines_two c (x ∷ y ∷ l) (suc zero) e h = absurd (omega arith)
lines_two c (x ∷ y ∷ l) (suc (suc k)) e h =
    ap (λ (m : List ℕ). line_text c x y ++ m) (lines_two c l k (omega arith) (omega arith))
    ∙ sym (append_assoc (line_text c x y) (lines_text c (take k l)) (line_text c (get_or l k nan) (get_or l (suc k) nan)))

pub lines-length : (c : ℕ) (l : List Float) → length l % 2 ≡ 0 → length (lines_text c l) ≡ 18 * length l
unfolding lines_text
lines-length c [] e = refl
lines-length c (x ∷ []) e = absurd (omega arith)
lines-length c (x ∷ y ∷ l) e = length-append (line_text c x y) (lines_text c l)
    ∙ omega (arith, line-length c x y, lines-length c l (omega arith))

-- the lines of the first k ends stand
pub record Lining (out₀ : List ℕ) (at c : ℕ) (list : List Float) (k : ℕ) (out : List ℕ) (n : ℕ) : Type 0 where
  pub even : k % 2 ≡ 0
  pub most : k ≤ length list
  pub put : Appended out₀ at (lines_text c (take k list)) out n

pub lining-start : (out : List ℕ) (at c : ℕ) (list : List Float) → at ≤ length out → Lining out at c list 0 out at
unfolding lines_text
lining-start out at c list h = record { even = omega arith; most = omega arith; put = put-none out at h }

pub lining-next : {out₀ : List ℕ} {at c : ℕ} {list : List Float} {k : ℕ} {out : List ℕ} {n : ℕ}
    → Lining out₀ at c list k out n → n ≡ at + 18 * k
lining-next {out₀} {at} {c} {list} {k} {out} {n} l =
    let size : length (take k list) ≡ k = length-take-le k list l.most in
    l.put.next ∙ omega (arith, lines-length c (take k list) (rw size l.even), size)

pub lining-size : {out₀ : List ℕ} {at c : ℕ} {list : List Float} {k : ℕ} {out : List ℕ} {n : ℕ}
    → Lining out₀ at c list k out n → length out ≡ length out₀
lining-size {out₀} {at} {c} {list} {k} {out} {n} l = same_size out₀ at (lines_text c (take k list)) out n l.put

pub lining_step : (out₀ : List ℕ) (at c : ℕ) (list : List Float) (k : ℕ) (out : List ℕ) (n : ℕ) (out' : List ℕ)
    (r : ℕ) → length list % 2 ≡ 0 → k < length list
    → Lining out₀ at c list k out n → Appended out n (line_text c (get_or list k nan) (get_or list (k + 1) nan)) out' r
    → Lining out₀ at c list (k + 2) out' r
lining_step out₀ at c list k out n out' r e h l p = record {
  even = omega (arith, l.even);
  most = omega (arith, l.even);
  put = subst (λ (x : List ℕ). Appended out₀ at x out' r) (sym two)
      (put_then out₀ at (lines_text c (take k list)) out n l.put
      (line_text c (get_or list k nan) (get_or list (k + 1) nan)) out' r p);
}
  where
    more : (k : ℕ) → k + 2 ≡ suc (suc k)
    more k = omega arith

    two : lines_text c (take (k + 2) list) ≡ lines_text c (take k list) ++ line_text c (get_or list k nan) (get_or list (k + 1) nan)
    two = rw (more k, add-one k) (lines_two c list k l.even (omega (arith, l.even)))
