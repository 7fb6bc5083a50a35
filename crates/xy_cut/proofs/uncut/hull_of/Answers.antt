use Rattle.std.proofs.Common.{◌≡◌, ◌+◌, ◌<◌, List, [], ◌∷◌, ◌++◌, length, take, arith, sym, ap, subst, ◌∙◌}
use Rattle.std.proofs.lemmas.List.{take_more}
use Rattle.std.proofs.lemmas.List.Elements.{All-take}
use Rattle.layout_geom.specs.declared.rect.Rect.{Rect}
use Rattle.layout_geom.specs.Rectangles.{Encloses}
use Rattle.layout_geom.specs.PixelLaws.{hull_small}
use Rattle.xy_cut.specs.Cells.{IsHullOf}
use Rattle.xy_cut.proofs.Hulls.{hull_more}
use Rattle.xy_cut.proofs.uncut.hull_of.Goals as goal

pub hull-hull-requires : goal.hull-hull-requires
hull-hull-requires c =
    let boxes = c.args.boxes.now in
    let place = c.loop-place.place in
    let next = c.index-boxes-place.result in
    let outer = c.requires.contained.0 in
    let low : place < length boxes = omega (arith, c.loop-place-test.true) in
    let first : Encloses outer c.loop-place.hull = c.loop-place.invariant.least outer (All-take (Encloses outer) place boxes c.requires.contained.1) in
    let second : Encloses outer next = subst (λ (r : Rect). Encloses outer r) (sym c.index-boxes-place.is) (c.requires.contained.1 place next low) in
    hull_small outer c.loop-place.hull next first second

pub loop-place-preserved : goal.loop-place-preserved
loop-place-preserved c =
    let boxes = c.args.boxes.now in
    let place = c.loop-place.place in
    let next = c.index-boxes-place.result in
    let low : place < length boxes = omega (arith, c.loop-place-test.true) in
    let more : take (place + 1) boxes ≡ take place boxes ++ next ∷ [] =
    take_more boxes place next low ∙ ap (λ (r : Rect). take place boxes ++ r ∷ []) (sym c.index-boxes-place.is) in
    subst (λ (l : List Rect). IsHullOf l c.hull-hull.result) (sym more)
    (hull_more (take place boxes) next c.loop-place.hull c.hull-hull.result c.hull-hull.ensures.first c.hull-hull.ensures.second c.hull-hull.ensures.least c.loop-place.invariant)
