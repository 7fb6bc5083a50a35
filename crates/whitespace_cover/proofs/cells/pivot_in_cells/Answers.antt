use Rattle.std.proofs.Common.{◌≡◌, ℕ, ◌+◌, ◌-◌, ◌/◌, ◌<◌, ◌≤◌, arith, refl, ◌∙◌, below_more}
use Rattle.layout_geom.specs.Rectangles.{HasPixel, IsClear}
use Rattle.whitespace_cover.specs.Index.{cell_of, list_at, IsFromMiddle}
use Rattle.whitespace_cover.proofs.Indexing.{from_middle_takes, one_place}
use Rattle.whitespace_cover.proofs.cells.pivot_in_cells.Goals as goal

pub loop-k-preserved : goal.loop-k-preserved
loop-k-preserved c =
    let first : ℕ = c.cell-first.result in
    let count : ℕ = c.cell.result + 1 - c.cell-first.result in
    below_more (λ j. (row : ℕ) → IsFromMiddle first count j row → (x y : ℕ) → HasPixel c.args.rect.now x y → y / 64 ≡ row → IsClear c.args.rect.now (list_at c.args.lists.now (cell_of c.args.across x y))) c.loop-k.k c.loop-k.invariant
    (λ row is x y has in_row.
    c.in_default.ensures.none x y has (in_row ∙ one_place first count c.loop-k.k row c.from_middle-row.result is c.from_middle-row.ensures.place))

pub returns-clause-none : goal.returns-clause-none
returns-clause-none c = λ x y has.
    let first : ℕ = c.cell-first.result in
    let count : ℕ = c.cell.result + 1 - c.cell-first.result in
    let low : first ≤ y / 64 = omega (arith, has.from_top, c.cell-first.ensures, c.y0.ensures.value) in
    let high : y / 64 < first + count = omega (arith, has.to_bottom, c.cell-first.ensures, c.cell.ensures, c.y0.ensures.value, c.y1.ensures.value) in
    let (k, within, is) : (k : ℕ) × (k < count) × IsFromMiddle first count k (y / 64) = from_middle_takes first count (y / 64) low high in
    c.loop-k.invariant k (omega (arith, within, c.loop-k-test.false)) (y / 64) is x y has refl
