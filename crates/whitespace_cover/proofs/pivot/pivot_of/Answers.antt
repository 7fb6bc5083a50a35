use Rattle.std.proofs.Common.{ℕ, List, Option, Contains, length, take, drop, subst, ap, arith, sym, ◌∙◌}
use Rattle.std.proofs.lemmas.Option.{IfSome_then}
use Rattle.layout_geom.specs.declared.rect.Rect.{Rect}
use Rattle.layout_geom.specs.Rectangles.{HasPixel, IsClear}
use Rattle.whitespace_cover.specs.declared.cells.Cells.{Cells}
use Rattle.whitespace_cover.specs.Index.{cell_of, list_at, IsIndexOf, IsIndexed}
use Rattle.whitespace_cover.proofs.Choosing.{none_then, of_none}
use Rattle.whitespace_cover.proofs.Indexing.{clear_by_cells, clear_of_all, among_first, row_within}
use Rattle.whitespace_cover.proofs.pivot.pivot_of.Goals as goal

pub returns-clause-some : goal.returns-clause-some
returns-clause-some c =
    let indexed : IsIndexOf c.args.region.now.rect c.args.obstacles.now c.in-Some.cells = subst (λ (cells : Option Cells). IsIndexed c.args.region.now.rect c.args.obstacles.now cells) c.in-Some.is c.requires.index in
    IfSome_then c.pivot_in_cells.result c.pivot_in_cells.ensures.some
    (λ pivot found. (
      among_first c.args.obstacles.now c.in-Some.cells.count pivot
          (indexed.index.only found.0 pivot (subst (λ (lists : List (List Rect)). Contains (list_at lists found.0) pivot) c.deref.ensures.value found.1)),
      found.2,
    ))

pub returns-clause-none : goal.returns-clause-none
returns-clause-none c =
    let obstacles : List Rect = c.args.obstacles.now in
    let r : Rect = c.args.region.now.rect in
    let count : ℕ = c.in-Some.cells.count in
    let indexed : IsIndexOf r obstacles c.in-Some.cells = subst (λ (cells : Option Cells). IsIndexed r obstacles cells) c.in-Some.is c.requires.index in
    none_then ((x y : ℕ) → HasPixel r x y → IsClear r (list_at c.deref.result.now (cell_of c.in-Some.cells.across x y))) (IsClear r obstacles)
    (λ clear.
    clear_of_all obstacles count r
    (clear_by_cells c.in-Some.cells.across indexed.rows (take count obstacles) c.in-Some.cells.lists.items r indexed.right indexed.bottom indexed.index
    (subst (λ (lists : List (List Rect)). (x y : ℕ) → HasPixel r x y → IsClear r (list_at lists (cell_of c.in-Some.cells.across x y))) c.deref.ensures.value clear))
    (of_none (IsClear r (drop count obstacles)) c.best_behind-scan.result.pivot (sym c.is_some.ensures ∙ c.if-is_some.false) c.best_behind-scan.ensures.none))
    c.pivot_in_cells.result c.pivot_in_cells.ensures.none

pub pivot_in_cells-requires : goal.pivot_in_cells-requires
pivot_in_cells-requires c =
    let indexed : IsIndexOf c.args.region.now.rect c.args.obstacles.now c.in-Some.cells = subst (λ (cells : Option Cells). IsIndexed c.args.region.now.rect c.args.obstacles.now cells) c.in-Some.is c.requires.index in
    record {
      wide = indexed.right;
      high = λ row low.
          omega (arith, row_within c.in-Some.cells.across row indexed.rows (omega (arith, low, indexed.bottom)), indexed.index.whole, ap length c.deref.ensures.value);
    }

pub best_behind-scan-requires-clause-count : goal.best_behind-scan-requires-clause-count
best_behind-scan-requires-clause-count c =
    let indexed : IsIndexOf c.args.region.now.rect c.args.obstacles.now c.in-Some.cells = subst (λ (cells : Option Cells). IsIndexed c.args.region.now.rect c.args.obstacles.now cells) c.in-Some.is c.requires.index in
    indexed.within
