use Rattle.std.proofs.Common.{◌≡◌, ℕ, ◌+◌, ◌-◌, ◌*◌, ◌/◌, ◌<◌, ◌≤◌, List, arith, ap, sym, ◌∙◌, subst, below_more, Contains}
use Rattle.layout_geom.specs.declared.rect.Rect.{Rect}
use Rattle.layout_geom.specs.Rectangles.{IsClear}
use Rattle.whitespace_cover.specs.Index.{cell_of, list_at, IsFromMiddle}
use Rattle.whitespace_cover.proofs.Indexing.{from_middle_takes, one_place, list_read}
use Rattle.whitespace_cover.proofs.cells.pivot_in_row.Goals as goal

pub returns-in-Some-clause-some : goal.returns-in-Some-clause-some
returns-in-Some-clause-some c =
    let cell : ℕ = c.args.row * c.args.across + c.from_middle-column.result in
    let list : c.as_slice.result.now ≡ list_at c.args.lists.now cell =
    c.as_slice.ensures.same ∙ list_read c.args.lists.now cell c.index-lists-row.result (omega (arith, c.requires.there, c.requires.wide, c.from_middle-column.ensures.high, c.cell-first.ensures, c.cell.ensures, c.x0.ensures.value, c.x1.ensures.value)) c.index-lists-row.is in
    (cell, subst (λ (xs : List Rect). Contains xs c.in-Some.pivot) list c.in-Some.ensures.some.0, c.in-Some.ensures.some.1)

pub loop-k-preserved : goal.loop-k-preserved
loop-k-preserved c =
    let first : ℕ = c.cell-first.result in
    let count : ℕ = c.cell.result + 1 - c.cell-first.result in
    let cell : ℕ = c.args.row * c.args.across + c.from_middle-column.result in
    let list : c.as_slice.result.now ≡ list_at c.args.lists.now cell =
    c.as_slice.ensures.same ∙ list_read c.args.lists.now cell c.index-lists-row.result (omega (arith, c.requires.there, c.requires.wide, c.from_middle-column.ensures.high, c.cell-first.ensures, c.cell.ensures, c.x0.ensures.value, c.x1.ensures.value)) c.index-lists-row.is in
    let clear : IsClear c.args.rect.now (list_at c.args.lists.now cell) = subst (λ (xs : List Rect). IsClear c.args.rect.now xs) list c.in_default.ensures.none in
    below_more (λ j. (column : ℕ) → IsFromMiddle first count j column → IsClear c.args.rect.now (list_at c.args.lists.now (c.args.row * c.args.across + column))) c.loop-k.k c.loop-k.invariant
    (λ column is.
    let same : column ≡ c.from_middle-column.result = one_place first count c.loop-k.k column c.from_middle-column.result is c.from_middle-column.ensures.place in
    subst (λ (n : ℕ). IsClear c.args.rect.now (list_at c.args.lists.now (c.args.row * c.args.across + n))) (sym same) clear)

pub returns-clause-none : goal.returns-clause-none
returns-clause-none c = λ x y has in_row.
    let first : ℕ = c.cell-first.result in
    let count : ℕ = c.cell.result + 1 - c.cell-first.result in
    let low : first ≤ x / 64 = omega (arith, has.from_left, c.cell-first.ensures, c.x0.ensures.value) in
    let high : x / 64 < first + count = omega (arith, has.to_right, c.cell-first.ensures, c.cell.ensures, c.x0.ensures.value, c.x1.ensures.value) in
    let (k, within, is) : (k : ℕ) × (k < count) × IsFromMiddle first count k (x / 64) = from_middle_takes first count (x / 64) low high in
    let cell : c.args.row * c.args.across + x / 64 ≡ cell_of c.args.across x y = ap (λ (r : ℕ). r * c.args.across + x / 64) (sym in_row) in
    subst (λ (n : ℕ). IsClear c.args.rect.now (list_at c.args.lists.now n)) cell (c.loop-k.invariant k (omega (arith, within, c.loop-k-test.false)) (x / 64) is)
