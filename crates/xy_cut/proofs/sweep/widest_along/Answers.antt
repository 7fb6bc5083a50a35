use Rattle.std.proofs.Common.{List, length, arith, ap, subst}
use Rattle.std.proofs.lemmas.List.Sorted.{length_permutation}
use Rattle.layout_geom.specs.declared.rect.Rect.{Rect}
use Rattle.xy_cut.specs.Widest.{IsWidestAlong}
use Rattle.xy_cut.proofs.Best.{widest_moved}
use Rattle.xy_cut.proofs.sweep.widest_along.Goals as goal

pub widest_in-requires-clause-some : goal.widest_in-requires-clause-some
widest_in-requires-clause-some c =
    let line = c.in_ok-line.line.items in
    omega (arith, length_permutation c.args.boxes.now line c.in_ok-line.ensures.rearranged, ap (λ (l : List Rect). length l) c.deref.ensures.value, c.requires.some)

pub returns : goal.returns
returns c =
    let line = c.in_ok-line.line.items in
    widest_moved c.args.axis c.args.boxes.now line c.args.least c.widest_in.result c.in_ok-line.ensures
    (subst (λ (l : List Rect). IsWidestAlong c.args.axis l c.args.least c.widest_in.result) c.deref.ensures.value c.widest_in.ensures)
