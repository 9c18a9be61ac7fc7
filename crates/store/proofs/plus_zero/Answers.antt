-- A NaN is not plus zero, and else the bits tell.
use mathlib.Core.Path.{sym, ap, subst, ◌∙◌}
use mathlib.Core.Bool.{not}
use lib.Dec.{T}
use Rattle.store.proofs.Zero.{plus-bits, plus-nan}
use Rattle.store.proofs.plus_zero.Goals as goal

pub returns-then-not-is_nan : goal.returns-then-not-is_nan
returns-then-not-is_nan c = plus-bits c.args.x (subst T (sym c.well_formed.0.1) tt)

pub returns-else-not-is_nan : goal.returns-else-not-is_nan
returns-else-not-is_nan c = ap not c.if-not-is_nan.false
    ∙ plus-nan c.args.x (sym c.is_nan.ensures.value ∙ c.if-not-is_nan.false)
