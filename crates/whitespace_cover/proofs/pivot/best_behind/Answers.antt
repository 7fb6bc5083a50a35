use Rattle.std.proofs.Common.{ℕ, ◌-◌, List, length, take, drop, arith, sym, ◌∙◌}
use Rattle.layout_geom.specs.declared.rect.Rect.{Rect}
use Rattle.layout_geom.specs.Rectangles.{IsClear}
use Rattle.whitespace_cover.specs.Masks.{IsClearOfLast}
use Rattle.whitespace_cover.proofs.Choosing.{none_then, of_none}
use Rattle.whitespace_cover.proofs.Masking.{clear_behind}
use Rattle.whitespace_cover.proofs.pivot.best_behind.Goals as goal

pub returns-clause-none : goal.returns-clause-none
returns-clause-none c =
    let obstacles : List Rect = c.args.obstacles.now in
    let r : Rect = c.args.region.now.rect in
    let reach : ℕ = c.min-reach.result in
    let last : IsClearOfLast reach r obstacles =
    of_none (IsClearOfLast reach r obstacles) c.best_masked-scan.result.pivot (sym c.is_some.ensures ∙ c.if-is_some.false) c.best_masked-scan.ensures.none in
    none_then (IsClear r (take (length obstacles - reach - c.args.count) (drop c.args.count obstacles))) (IsClear r (drop c.args.count obstacles))
    (clear_behind obstacles r c.args.count reach (omega (arith, c.requires.count, c.min-reach.ensures)) last)
    c.best_pivot.result c.best_pivot.ensures.none
