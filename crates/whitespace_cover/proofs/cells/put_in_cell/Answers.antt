use Rattle.std.proofs.Common.{List, Any, arith, sym, subst}
use Rattle.layout_geom.specs.declared.rect.Rect.{Rect}
use Rattle.layout_geom.specs.Rectangles.{Encloses}
use Rattle.whitespace_cover.specs.Index.{SomeHasPixel}
use Rattle.whitespace_cover.proofs.Indexing.{held_by_outer, in_part, held_last}
use Rattle.whitespace_cover.proofs.cells.put_in_cell.Goals as goal

pub returns-then-some_encloses-clause-taken : goal.returns-then-some_encloses-clause-taken
returns-then-some_encloses-clause-taken c = λ x y has in_column in_row.
    let part : Rect = c.in-Some.part in
    let round : Any (λ rect. Encloses rect part) c.args.list.now =
    subst (λ (xs : List Rect). Any (λ rect. Encloses rect part) xs) c.as_slice.ensures.same (c.some_encloses.ensures c.if-some_encloses.true) in
    held_by_outer c.args.list.now part x y round
    (in_part c.args.rect.now part c.args.column c.args.row x y
    (record {
      left = omega (arith, c.in-Some.ensures.some.left, c.max.ensures, c.x0.ensures.value);
      top = omega (arith, c.in-Some.ensures.some.top, c.max-2.ensures, c.y0.ensures.value);
      right = omega (arith, c.in-Some.ensures.some.right, c.min.ensures, c.x1.ensures.value);
      bottom = omega (arith, c.in-Some.ensures.some.bottom, c.min-2.ensures, c.y1.ensures.value);
    })
    has in_column in_row)

pub returns-clause-taken : goal.returns-clause-taken
returns-clause-taken c = λ x y has in_column in_row.
    subst (λ (xs : List Rect). SomeHasPixel xs x y) (sym c.in_ok-push.ensures.grown) (held_last c.args.list.now c.args.rect.now x y has)
