-- What the fill answers, by its causes.
use mathlib.Core.Path.{◌≡◌, refl, sym, ap, ◌∙◌, subst}
use mathlib.Core.Bool.{Bool, true, false}
use mathlib.Core.List.{List}
use mathlib.Core.Logic.{inl}
use Prim.Native.Nat.{ℕ, ◌*◌}
use lib.Ieee.{Float}
use Rattle.std.specs.Prelude.{Result, Ok, Err}
use Rattle.refusal.specs.Refusal.{Due, NoneDue, number_of}
use Rattle.refusal.specs.declared.Refusal.{Refusal}
use Rattle.refusal.specs.declared.Refusal.TheVariants.{ShortBuffer}
use Rattle.logic.proofs.Bools.{clash}
use Rattle.grid.specs.FromSpec.{grid_of}
use Rattle.grid.specs.Rays.{ray_count}
use Rattle.grid.specs.Causes.{grid_causes, grid_in}
use Rattle.grid.specs.declared.DexelStockSpec.{DexelStockSpec}
use Rattle.grid.specs.declared.DexelGrid.{DexelGrid}
use Rattle.stock.specs.Stock.{is_short}
use Rattle.stock.proofs.Causes.{due-first, due-second, none-in-both}
use Rattle.stock.proofs.Answers.{accepted, refused}
use Rattle.stock_fill.specs.Uncut.{uncut_spans, uncut_links, uncut_heads, room_causes, fill_causes, FillPost}
use Rattle.stock.specs.declared.Tally.{Tally}
use Rattle.stock_fill.proofs.Uncut.{same-cells}
use Rattle.store.specs.Store.{Cells, cells}

module _ (spec : DexelStockSpec) (g : DexelGrid) (before : Cells) where
  pub fill-short : (r : Bool) → r ≡ is_short spec g before → r ≡ true
      → FillPost (room_causes spec g before) spec g before before (Err ShortBuffer)
  unfolding Due
  fill-short r e t = (inl (sym e ∙ t, refl), refl)

  pub fill_done : (rays : ℕ) (spans : List Float) (links heads : List ℕ) → is_short spec g before ≡ false → rays ≡ ray_count g
      → spans ≡ uncut_spans spec g spec.max_intervals before.spans
      → links ≡ uncut_links spec g spec.max_intervals before.links → heads ≡ uncut_heads (2 * rays) before.heads
      → FillPost (room_causes spec g before) spec g before (cells spans links heads)
      (Ok (record { generation = 0; intervals = 2 * rays }))
  unfolding NoneDue
  fill_done rays spans links heads h e s l d = (
    ((λ t. clash (is_short spec g before) t h), tt),
    ap (λ (k : ℕ). record { generation = 0; intervals = 2 * k }) e,
    same-cells spans _ links _ heads _ s l (d ∙ ap (λ (k : ℕ). uncut_heads (2 * k) before.heads) e),
  )

module _ (spec : DexelStockSpec) (units : List ℕ) (before after : Cells) where
  pub fill-accepted : (g : DexelGrid) (r : Result Tally Refusal) → grid_of spec units ≡ Ok g
      → FillPost (room_causes spec g before) spec g before after r
      → FillPost (fill_causes spec units before) spec (grid_in spec) before after r
  fill-accepted g r h f = let a = accepted spec units g h in
      at r a.0 (subst (λ (x : DexelGrid). FillPost (room_causes spec x before) spec x before after r) a.1 f)
    where
      at : (r : Result Tally Refusal) → NoneDue (grid_causes spec units)
          → FillPost (room_causes spec (grid_in spec) before) spec (grid_in spec) before after r
          → FillPost (fill_causes spec units before) spec (grid_in spec) before after r
      at (Err e) n f = (due-second (grid_causes spec units) (room_causes spec (grid_in spec) before) (number_of e) n f.0, f.1)
      at (Ok t) n f = (none-in-both (grid_causes spec units) (room_causes spec (grid_in spec) before) n f.0, f.1, f.2)

pub fill-refused : (spec : DexelStockSpec) (units : List ℕ) (before : Cells) (e : Refusal) → grid_of spec units ≡ Err e
    → FillPost (fill_causes spec units before) spec (grid_in spec) before before (Err e)
fill-refused spec units before e h =
    (due-first (grid_causes spec units) (room_causes spec (grid_in spec) before) (number_of e) (refused spec units e h), refl)
