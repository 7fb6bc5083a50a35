use Rattle.std.proofs.Common.{subst}
use Rattle.xy_cut.specs.declared.axis.Axis.TheVariants.{Across}
use Rattle.xy_cut.specs.Widest.{IsWidestAlong}
use Rattle.xy_cut.proofs.Best.{only_down, best_of_both}
use Rattle.xy_cut.proofs.sweep.best_band.Goals as goal

pub returns-in-Some : goal.returns-in-Some
returns-in-Some c =
    best_of_both c.args.boxes.now c.args.least c.in-Some.across c.wider.result c.in_ok-down.down
    (subst (IsWidestAlong Across c.args.boxes.now c.args.least) c.in-Some.is c.in_ok-across.ensures) c.in_ok-down.ensures c.wider.ensures

pub returns-in-None : goal.returns-in-None
returns-in-None c =
    only_down c.args.boxes.now c.args.least c.in_ok-down.down
    (subst (IsWidestAlong Across c.args.boxes.now c.args.least) c.in-None.is c.in_ok-across.ensures) c.in_ok-down.ensures
