-- Steps of the functions that lay the uncut store.
use mathlib.Core.Path.{◌≡◌, refl, sym, ap, ◌∙◌}
use mathlib.Core.Bool.{Bool, cond}
use mathlib.Core.List.{List}
use Prim.Native.Nat.{ℕ, zero, suc, ◌+◌, ◌*◌, ◌/◌, ◌≤◌, ◌<◌}
use native.Mathlib.Numerals.{add-one}
use lib.Ieee.{Float}
use lib.ListN.{length, set, length-set}
use borrow.Author.Tests.{lt-ltb, le-ltb}
use Rattle.doubles.specs.Constants.{plus_zero}
use Rattle.grid.specs.Rays.{ray_count, bounds_of}
use Rattle.grid.specs.declared.DexelStockSpec.{DexelStockSpec}
use Rattle.grid.specs.declared.DexelGrid.{DexelGrid}
use Rattle.grid.specs.declared.RayBounds.{RayBounds}
use Rattle.store.specs.Store.{put_span, put_link, cells}
use Rattle.stock_fill.specs.Uncut.{record_at, uncut_spans, uncut_links, uncut_heads}
use Rattle.stock_fill.specs.declared.UncutRecord.{UncutRecord}

abbrev pub rec : Float → Float → ℕ → UncutRecord
rec lo hi owner = record { lo = lo; hi = hi; owner = owner }

module _ (spec : DexelStockSpec) (g : DexelGrid) where
  pub record-listed : (i : ℕ) (b : RayBounds) → i < 2 * ray_count g → b ≡ bounds_of spec g (i / 2)
      → rec b.lo b.hi (i + 1) ≡ record_at spec g i
  unfolding record_at
  record-listed i b h e =
      ap (λ (x : RayBounds). rec x.lo x.hi (i + 1)) e
      ∙ ap (λ (t : Bool). cond t (rec (bounds_of spec g (i / 2)).lo (bounds_of spec g (i / 2)).hi (i + 1))
      (rec plus_zero plus_zero 0)) (sym (lt-ltb i (2 * ray_count g) h))

  pub record-free : (i : ℕ) → 2 * ray_count g ≤ i → rec plus_zero plus_zero 0 ≡ record_at spec g i
  unfolding record_at
  record-free i h = ap (λ (t : Bool). cond t (rec (bounds_of spec g (i / 2)).lo (bounds_of spec g (i / 2)).hi (i + 1))
      (rec plus_zero plus_zero 0)) (sym (le-ltb i (2 * ray_count g) h))

  pub spans-first : (spans : List Float) → spans ≡ uncut_spans spec g 0 spans
  unfolding uncut_spans
  spans-first spans = refl

  pub links-first : (links : List ℕ) → links ≡ uncut_links spec g 0 links
  unfolding uncut_links
  links-first links = refl

  spans-more : (i : ℕ) (spans : List Float)
      → uncut_spans spec g (i + 1) spans
      ≡ put_span (uncut_spans spec g i spans) i (record_at spec g i).lo (record_at spec g i).hi
  unfolding uncut_spans
  spans-more i spans = ap (λ (k : ℕ). uncut_spans spec g k spans) (add-one i)

  links-more : (i : ℕ) (links : List ℕ)
      → uncut_links spec g (i + 1) links ≡ put_link (uncut_links spec g i links) i 0 (record_at spec g i).owner
  unfolding uncut_links
  links-more i links = ap (λ (k : ℕ). uncut_links spec g k links) (add-one i)

  pub spans-next : (i : ℕ) (r : UncutRecord) (before spans after : List Float) → r ≡ record_at spec g i
      → spans ≡ uncut_spans spec g i before → after ≡ put_span spans i r.lo r.hi
      → after ≡ uncut_spans spec g (i + 1) before
  spans-next i r before spans after e s a =
      a ∙ ap (λ (l : List Float). put_span l i r.lo r.hi) s
      ∙ ap (λ (x : UncutRecord). put_span (uncut_spans spec g i before) i x.lo x.hi) e ∙ sym (spans-more i before)

  pub links-next : (i : ℕ) (r : UncutRecord) (before links after : List ℕ) → r ≡ record_at spec g i
      → links ≡ uncut_links spec g i before → after ≡ put_link links i 0 r.owner → after ≡ uncut_links spec g (i + 1) before
  links-next i r before links after e s a =
      a ∙ ap (λ (l : List ℕ). put_link l i 0 r.owner) s
      ∙ ap (λ (x : UncutRecord). put_link (uncut_links spec g i before) i 0 x.owner) e ∙ sym (links-more i before)

  pub spans-length : (i : ℕ) (spans : List Float) → length (uncut_spans spec g i spans) ≡ length spans
  unfolding uncut_spans
  spans-length zero spans = refl
  spans-length (suc i) spans =
      length-set (set (uncut_spans spec g i spans) (2 * i) (record_at spec g i).lo) (2 * i + 1) (record_at spec g i).hi
      ∙ length-set (uncut_spans spec g i spans) (2 * i) (record_at spec g i).lo ∙ spans-length i spans

  pub links-length : (i : ℕ) (links : List ℕ) → length (uncut_links spec g i links) ≡ length links
  unfolding uncut_links
  links-length zero links = refl
  links-length (suc i) links =
      length-set (set (uncut_links spec g i links) (2 * i) 0) (2 * i + 1) (record_at spec g i).owner
      ∙ length-set (uncut_links spec g i links) (2 * i) 0 ∙ links-length i links

pub heads-first : (heads : List ℕ) → heads ≡ uncut_heads 0 heads
unfolding uncut_heads
heads-first heads = refl

pub heads-next : (j : ℕ) (before heads : List ℕ) → heads ≡ uncut_heads j before → set heads j (j + 1) ≡ uncut_heads (j + 1) before
unfolding uncut_heads
heads-next j before heads s = ap (λ (l : List ℕ). set l j (j + 1)) s ∙ sym (ap (λ (k : ℕ). uncut_heads k before) (add-one j))

pub heads-length : (j : ℕ) (heads : List ℕ) → length (uncut_heads j heads) ≡ length heads
unfolding uncut_heads
heads-length zero heads = refl
heads-length (suc j) heads = length-set (uncut_heads j heads) j (j + 1) ∙ heads-length j heads

-- the three parts make the cells
pub same-cells : (s s' : List Float) (l l' h h' : List ℕ) → s ≡ s' → l ≡ l' → h ≡ h' → cells s l h ≡ cells s' l' h'
same-cells s s' l l' h h' p q r = ap (λ (x : List Float). cells x l h) p ∙ ap (λ (x : List ℕ). cells s' x h) q
    ∙ ap (λ (x : List ℕ). cells s' l' x) r
