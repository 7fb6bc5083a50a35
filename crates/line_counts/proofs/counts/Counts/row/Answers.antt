use Rattle.std.proofs.Common.{◌≡◌, ◌+◌, ◌-◌, ◌<◌, ◌≤◌, ◌≤ℤ◌, ◌+ℤ◌, ℕ, ℤ, pos, negsuc, List, length, take, drop, w8, w16, arith, ap, ◌∙◌, subst}
use Rattle.std.proofs.lemmas.Int.{to_z-of_z}
use Rattle.line_counts.specs.Fits.{slope_of, first_place}
use Rattle.line_counts.specs.Table.{LivingPage, IsTable, cell_of}
use Rattle.line_counts.proofs.Rows.{IsReadRow, row_ends, is_row}
use Rattle.line_counts.proofs.counts.Counts.row.Goals as goal

-- the row, by what the calls before it answer
row_at : (fields page : LivingPage) (width : ℕ) (cells : List ℕ) (slope held_slope offset held_offset : ℤ) (depth segment number from segments first : ℕ)
    → IsTable fields width cells → fields ≡ page → held_slope ≡ slope → held_offset ≡ offset → number < 65 → slope_of number ≡ held_slope → negsuc 299 ≤ℤ offset → (offset +ℤ pos depth) ≤ℤ pos (page.height + 300 + 63)
    → segment ≤ length page.gutters → segments ≡ length fields.gutters → first ≡ first_place held_offset → from ≡ cell_of (segments + 1) width number segment first
    → IsReadRow page width cells slope offset depth segment number from
row_at fields page width cells slope held_slope offset held_offset depth segment number from segments first table same slope_is offset_is numbered sloped low high few gutters first_is from_is = record {
  table = subst (λ (p : LivingPage). IsTable p width cells) same table;
  numbered = numbered;
  slope_is = sloped ∙ slope_is;
  above = low;
  below = high;
  few = few;
  begins = from_is ∙ ap (λ (n : ℕ). cell_of (n + 1) width number segment first) (gutters ∙ ap (λ (p : LivingPage). length p.gutters) same)
      ∙ ap (λ (n : ℕ). cell_of (length page.gutters + 1) width number segment n) (first_is ∙ ap first_place offset_is);
}

taken_as : (cells items : List ℕ) (from long : ℕ) → cells ≡ items → take (from + 8 + long + 1 - from) (drop from cells) ≡ take (8 + long + 1) (drop from items)
taken_as cells items from long same =
    ap (λ (k : ℕ). take k (drop from cells)) (omega arith) ∙ ap (λ (xs : List ℕ). take (8 + long + 1) (drop from xs)) same

pub slice_bounds-result-end : goal.slice_bounds-result-end
slice_bounds-result-end c =
    let cells : List ℕ = c.self.inside.cells.items in
    let row = row_at _ c.args.self.now c.self.inside.width cells c.args.slope _ c.args.offset _ c.args.depth c.args.of_segment c.number.result c.cell-from.result c.len.result c.first_place-first.result
    c.self.invariant c.self.view_is (to_z-of_z w8 c.args.slope c.ranges.slope) (to_z-of_z w16 c.args.offset c.ranges.offset) c.number.ensures.small c.number.ensures.value c.requires.low c.requires.high
    c.requires.segment c.len.ensures.value c.first_place-first.ensures.value c.cell-from.ensures.value in
    let ends = row_ends c.args.self.now c.self.inside.width cells c.args.slope c.args.offset c.args.depth c.args.of_segment c.number.result c.cell-from.result row in
    omega (arith, ends, ap (λ (xs : List ℕ). length xs) c.as_slice.ensures.value)

pub returns : goal.returns
returns c =
    let cells : List ℕ = c.self.inside.cells.items in
    let row = row_at _ c.args.self.now c.self.inside.width cells c.args.slope _ c.args.offset _ c.args.depth c.args.of_segment c.number.result c.cell-from.result c.len.result c.first_place-first.result
    c.self.invariant c.self.view_is (to_z-of_z w8 c.args.slope c.ranges.slope) (to_z-of_z w16 c.args.offset c.ranges.offset) c.number.ensures.small c.number.ensures.value c.requires.low c.requires.high
    c.requires.segment c.len.ensures.value c.first_place-first.ensures.value c.cell-from.ensures.value in
    is_row c.args.self.now c.self.inside.width cells c.args.slope c.args.offset c.args.depth c.args.of_segment c.number.result c.cell-from.result row _
    (taken_as c.as_slice.result.now cells c.cell-from.result c.args.depth c.as_slice.ensures.value)
