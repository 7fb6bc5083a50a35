use Rattle.std.proofs.Common.{◌<◌, List, All, length, sym, subst, refl}
use Rattle.layout_geom.specs.declared.rect.Rect.{Rect}
use Rattle.layout_geom.specs.Rectangles.{Encloses}
use Rattle.xy_cut.specs.declared.cell.Cell.{Cell}
use Rattle.xy_cut.specs.Cells.{IsHullOf, IsCellOf}
use Rattle.xy_cut.proofs.Cuts.{whole_some, not_empty}
use Rattle.xy_cut.proofs.uncut.whole.Goals as goal

pub hull_of-requires-clause-contained : goal.hull_of-requires-clause-contained
hull_of-requires-clause-contained c =
    (c.requires.0, subst (All (Encloses c.requires.0)) (sym c.as_slice.ensures.same) c.requires.1)

pub returns : goal.returns
returns c =
    let boxes = c.args.boxes.now in
    let some : 0 < length boxes = not_empty boxes c.is_empty.result c.is_empty.ensures.empty c.if-is_empty.false in
    let round : IsHullOf boxes c.hull_of.result = subst (λ (l : List Rect). IsHullOf l c.hull_of.result) c.as_slice.ensures.same c.hull_of.ensures in
    let cell : Cell = record { path = c.args.path; count = c.len.result; bbox = c.hull_of.result } in
    let is : IsCellOf c.args.path boxes cell = record { way = refl; count = c.len.ensures.value; round = round } in
    whole_some c.args.path boxes c.push.new.self cell some (rw (c.in_ok-push.ensures.grown, c.new-cells.ensures.empty) refl) is
