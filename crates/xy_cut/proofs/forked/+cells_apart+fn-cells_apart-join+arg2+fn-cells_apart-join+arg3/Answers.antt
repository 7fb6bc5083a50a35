use Rattle.std.proofs.Common.{◌≡◌, ◌++◌, length, IfOk, List, arith, rules, ap, subst}
use Rattle.std.proofs.lemmas.List.{length_push}
use Rattle.std.proofs.lemmas.Result.{IfOk-weaker, IfOk-at_ok}
use Rattle.layout_geom.specs.Rectangles.{Encloses}
use Rattle.xy_cut.specs.declared.cell.Cell.{Cell}
use Rattle.xy_cut.specs.declared.cell.Side.TheVariants.{Before, After}
use Rattle.xy_cut.specs.Cells.{AreCells, AreWhole, IsCutOf, IsCut, IsUncut, Whole}
use Rattle.xy_cut.proofs.Cuts.{part_within, parted, uncut_of}
use Rattle.xy_cut.proofs.forked.+cells_apart+fn-cells_apart-join+arg2+fn-cells_apart-join+arg3.Goals as goal

pub returns-in_default : goal.returns-in_default
returns-in_default g t c =
    let uncut : IsUncut c.args.least c.args.path c.args.boxes = uncut_of c.args.least c.args.path c.args.boxes c.in_ok-band.field-0 (λ band is. c.in_default.not-Some band is) c.in_ok-band.ensures in
    IfOk-weaker c.whole.result (AreWhole c.args.path c.args.boxes) (AreCells c.args.least c.args.path c.args.boxes)
    (λ cells are. Whole c.args.path c.args.boxes cells uncut are) c.whole.ensures

pub join-cells-requires-after_bounds : goal.join-cells-requires-after_bounds
join-cells-requires-after_bounds g t c κs within =
    let outer = c.requires.contained.0 in
    let cut : IsCut c.args.least c.args.path c.args.boxes c.in-Some.band = subst (IsCutOf c.args.least c.args.path c.args.boxes) c.in-Some.is c.in_ok-band.ensures in
    let way = ap length c.in_ok-way.ensures in
    let other_way = ap length c.in_ok-other_way.ensures in (
      (
        omega (arith, way, length_push c.args.path Before, cut.short, c.decreases),
        (
          λ a m. m,
          ((search rules, c.requires.least, (outer, part_within (Encloses outer) c.args.boxes c.in_ok-before.before c.in-Some.band Before c.in_ok-before.ensures c.requires.contained.1)), search rules),
        ),
      ),
      (
        omega (arith, other_way, length_push c.args.path After, cut.short, c.decreases),
        (
          λ a m. m,
          ((search rules, c.requires.least, (outer, part_within (Encloses outer) c.args.boxes c.in_ok-after.after c.in-Some.band After c.in_ok-after.ensures c.requires.contained.1)), search rules),
        ),
      ),
    )

pub returns : goal.returns
returns g t c =
    let path = c.args.path in
    let boxes = c.args.boxes in
    let least = c.args.least in
    let cut : IsCut least path boxes c.in-Some.band = subst (IsCutOf least path boxes) c.in-Some.is c.in_ok-band.ensures in
    let first : IfOk c.join-cells.result.0 (AreCells least c.in_ok-way.way c.in_ok-before.before) = c.join-cells.ensures.first in
    let second : IfOk c.join-cells.result.1 (AreCells least c.in_ok-other_way.other_way c.in_ok-after.after) = c.join-cells.ensures.second in
    let cells : AreCells least c.in_ok-way.way c.in_ok-before.before c.in_ok-cells.field-0 = IfOk-at_ok (AreCells least c.in_ok-way.way c.in_ok-before.before) c.in_ok-cells.was first in
    let others : AreCells least c.in_ok-other_way.other_way c.in_ok-after.after c.in_ok-others.field-0 = IfOk-at_ok (AreCells least c.in_ok-other_way.other_way c.in_ok-after.after) c.in_ok-others.was second in
    IfOk-weaker c.followed.result (λ (all : List Cell). all ≡ c.in_ok-cells.field-0 ++ c.in_ok-others.field-0) (AreCells least path boxes)
    (λ all is. parted least path c.in_ok-way.way c.in_ok-other_way.other_way boxes c.in_ok-before.before c.in_ok-after.after c.in-Some.band c.in_ok-cells.field-0 c.in_ok-others.field-0 all
    cut c.in_ok-before.ensures c.in_ok-after.ensures c.in_ok-way.ensures c.in_ok-other_way.ensures cells others is)
    c.followed.ensures

pub join+arg2-cells_apart-requires : goal.join+arg2-cells_apart-requires
join+arg2-cells_apart-requires g t c κs within =
    (omega (arith, c.decreases), (search rules, (c.requires.0, (c.requires.1, c.requires.2))))

pub join+arg3-cells_apart-requires : goal.join+arg3-cells_apart-requires
join+arg3-cells_apart-requires g t c κs within =
    (omega (arith, c.decreases), (search rules, (c.requires.0, (c.requires.1, c.requires.2))))
