use Rattle.std.proofs.Common.{◌≡◌, ◌++◌, length, arith, ap, subst}
use Rattle.std.proofs.lemmas.List.{length_push}
use Rattle.std.proofs.lemmas.Result.{IfOk-weaker}
use Rattle.std.proofs.Common.{List}
use Rattle.layout_geom.specs.Rectangles.{Encloses}
use Rattle.xy_cut.specs.declared.cell.Cell.{Cell}
use Rattle.xy_cut.specs.declared.cell.Side.TheVariants.{Before, After}
use Rattle.xy_cut.specs.Cells.{AreCells, AreWhole, IsCutOf, IsCut, IsUncut, Whole}
use Rattle.xy_cut.proofs.Cuts.{part_within, parted, uncut_of}
use Rattle.xy_cut.proofs.alone.+cells_from.Goals as goal

pub returns-in_default : goal.returns-in_default
returns-in_default t c =
    let uncut : IsUncut c.args.least c.args.path c.args.boxes = uncut_of c.args.least c.args.path c.args.boxes c.in_ok-band.field-0 (λ band is. c.in_default.not-Some band is) c.in_ok-band.ensures in
    IfOk-weaker c.whole.result (AreWhole c.args.path c.args.boxes) (AreCells c.args.least c.args.path c.args.boxes)
    (λ cells are. Whole c.args.path c.args.boxes cells uncut are) c.whole.ensures

pub cells_from-requires : goal.cells_from-requires
cells_from-requires t c =
    let outer = c.requires.contained.0 in
    let cut : IsCut c.args.least c.args.path c.args.boxes c.in-Some.band = subst (IsCutOf c.args.least c.args.path c.args.boxes) c.in-Some.is c.in_ok-band.ensures in
    let longer = ap length c.in_ok-way.ensures in (
      omega (arith, longer, length_push c.args.path Before, cut.short, c.decreases),
      (
        c.requires.least,
        (outer, part_within (Encloses outer) c.args.boxes c.in_ok-before.before c.in-Some.band Before c.in_ok-before.ensures c.requires.contained.1),
      ),
    )

pub cells_from-requires-2 : goal.cells_from-requires-2
cells_from-requires-2 t c =
    let outer = c.requires.contained.0 in
    let cut : IsCut c.args.least c.args.path c.args.boxes c.in-Some.band = subst (IsCutOf c.args.least c.args.path c.args.boxes) c.in-Some.is c.in_ok-band.ensures in
    let longer = ap length c.in_ok-way-2.ensures in (
      omega (arith, longer, length_push c.args.path After, cut.short, c.decreases),
      (
        c.requires.least,
        (outer, part_within (Encloses outer) c.args.boxes c.in_ok-after.after c.in-Some.band After c.in_ok-after.ensures c.requires.contained.1),
      ),
    )

pub returns : goal.returns
returns t c =
    let path = c.args.path in
    let boxes = c.args.boxes in
    let cut : IsCut c.args.least path boxes c.in-Some.band = subst (IsCutOf c.args.least path boxes) c.in-Some.is c.in_ok-band.ensures in
    IfOk-weaker c.followed.result (λ (all : List Cell). all ≡ c.in_ok-cells.cells ++ c.in_ok-others.others) (AreCells c.args.least path boxes)
    (λ all is. parted c.args.least path c.in_ok-way.way c.in_ok-way-2.way boxes c.in_ok-before.before c.in_ok-after.after c.in-Some.band c.in_ok-cells.cells c.in_ok-others.others all
    cut c.in_ok-before.ensures c.in_ok-after.ensures c.in_ok-way.ensures c.in_ok-way-2.ensures c.in_ok-cells.ensures c.in_ok-others.ensures is)
    c.followed.ensures
