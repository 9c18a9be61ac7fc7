-- `log_merge::cut_ray` meets its contract.
use mathlib.Core.Path.{sym, ◌∙◌}
use Prim.Native.Nat.{◌+◌, ◌*◌}
use Rattle.ray_subtract.specs.Steps.{cells_from}
use Rattle.log_merge.proofs.Cutting.{untouched, second-ready, both-cut}
use Rattle.log_merge.proofs.cut_ray.Goals as goal

pub returns-then-not-is_changed : goal.returns-then-not-is_changed
returns-then-not-is_changed c =
    untouched (cells_from c.args.at c.args.np c.args.w.now) (cells_from (c.args.at + c.args.np) c.args.nc c.args.w.now)
    (cells_from (c.args.at + c.args.np + c.args.nc) c.args.no c.args.w.now)
    (cells_from (c.args.at + c.args.np + c.args.nc + c.args.no) c.args.ni c.args.w.now) 0
    (c.args.np + c.args.nc + c.args.no + 2 * c.args.ni) c.args.w.now
    (sym c.is_changed.ensures ∙ c.if-not-is_changed.true)

pub subtract_both-r-requires : goal.subtract_both-r-requires
subtract_both-r-requires c =
    second-ready c.args.at c.args.np c.args.nc c.args.no c.args.ni c.args.w.now c.subtract_at-p.new.w
    c.subtract_at-p.new.w c.subtract_at-p.result 0 c.requires c.subtract_at-p.ensures

pub returns : goal.returns
returns c =
    both-cut c.args.at c.args.np c.args.nc c.args.no c.args.ni c.args.w.now c.subtract_at-p.new.w c.subtract_both-r.new.w
    c.subtract_at-p.result c.subtract_both-r.result c.requires c.subtract_at-p.ensures
    (sym c.if-not-is_changed.false ∙ c.is_changed.ensures) c.subtract_both-r.ensures
