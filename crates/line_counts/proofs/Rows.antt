-- The counts that a line reads from the table of a page.
use Rattle.std.proofs.Common.{◌≡◌, ℕ, ◌+◌, ◌<◌, ◌≤◌, ℤ, pos, negsuc, ◌+ℤ◌, ◌≤ℤ◌, ◌&&◌, ltb, List, length, get_or, take, drop, slice_get, arith, ◌∙◌, ap}
use Rattle.std.proofs.lemmas.Int.{ints}
use Rattle.std.proofs.lemmas.List.{get_or-take, get_or-drop, length-take, length-drop}
use Rattle.line_quality.specs.KeyLaws.{abs_parts}
use Rattle.line_counts.specs.Fits.{slope_of, first_place, count_of, is_in, place_in}
use Rattle.line_counts.specs.Table.{LivingPage, IsTable, IsRow, cell_of}
use Rattle.line_counts.proofs.Cells.{cell_within}
use Rattle.line_counts.proofs.Weighing.{weight_before, weight_small}

pub record IsReadRow (page : LivingPage) (width : ℕ) (cells : List ℕ) (slope offset : ℤ) (depth segment number from : ℕ) : Type 0 where
  pub table : IsTable page width cells
  pub numbered : number < 65
  pub slope_is : slope_of number ≡ slope
  pub above : negsuc 299 ≤ℤ offset
  pub below : (offset +ℤ pos depth) ≤ℤ pos (page.height + 300 + 63)
  pub few : segment ≤ length page.gutters
  pub begins : from ≡ cell_of (length page.gutters + 1) width number segment (first_place offset)

module _ (page : LivingPage) (width : ℕ) (cells : List ℕ) (slope offset : ℤ) (depth segment number from : ℕ) (row : IsReadRow page width cells slope offset depth segment number from) (behind : ℕ) (near : behind < 8 + depth + 1) where
  first_is : first_place offset + depth ≤ page.height + 663
  first_is = omega (arith, ints, abs_parts (offset +ℤ pos 300), row.above, row.below)

  place_inside : first_place offset + behind < width
  place_inside = omega (arith, first_is, near, row.table.wide.lines)

  cell_is : from + behind ≡ cell_of (length page.gutters + 1) width number segment (first_place offset + behind)
  cell_is = omega (arith, row.begins)

  pub reads_within : from + behind < length cells
  reads_within =
      omega (arith, cell_is, row.table.counts.long, cell_within (length page.gutters + 1) width number segment (first_place offset + behind) row.numbered (omega (arith, row.few)) place_inside)

  pub reads_count : get_or cells (from + behind) 0 ≡ count_of page.boxes page.gutters slope segment (first_place offset + behind) page.alive
  reads_count =
      ap (λ (k : ℕ). get_or cells k 0) cell_is
      ∙ row.table.counts.counts number segment (first_place offset + behind) row.numbered row.few place_inside
      ∙ ap (λ (s : ℤ). count_of page.boxes page.gutters s segment (first_place offset + behind) page.alive) row.slope_is

  pub reads_end : behind + 1 ≡ 8 + depth + 1 → from + (8 + depth + 1) ≤ length cells
  reads_end last = omega (arith, reads_within, last)

-- the row is there
module _ (page : LivingPage) (width : ℕ) (cells : List ℕ) (slope offset : ℤ) (depth segment number from : ℕ) (row : IsReadRow page width cells slope offset depth segment number from) where
  pub row_ends : from + (8 + depth + 1) ≤ length cells
  row_ends = reads_end page width cells slope offset depth segment number from row (8 + depth) (omega arith) (omega arith)

  -- and has the counts
  pub is_row : (taken : List ℕ) → taken ≡ take (8 + depth + 1) (drop from cells) → IsRow page slope offset depth segment taken
  is_row taken is =
      let long : length taken ≡ 8 + depth + 1 = omega (arith, ap (λ (xs : List ℕ). length xs) is, length-take (8 + depth + 1) (drop from cells), length-drop from cells, row_ends) in
      record {
        few = row.table.countable.few_alive;
        long = long;
        counts = λ behind within.
            let near : behind < 8 + depth + 1 = omega (arith, within, long) in
            ap (λ (xs : List ℕ). get_or xs behind 0) is
            ∙ get_or-take (8 + depth + 1) (drop from cells) behind 0 near
            ∙ get_or-drop from cells behind 0
            ∙ reads_count page width cells slope offset depth segment number from row behind near;
      }

-- sums of weights fit 32 bits
pub before_small : (page : LivingPage) (slope offset : ℤ) (depth segment place : ℕ) → length page.alive ≤ 60000
    → weight_before page.boxes page.gutters slope offset depth segment place page.alive ≤ 1500000
before_small page slope offset depth segment place few =
    omega (
      arith,
      few,
      weight_small slope offset depth page.boxes (λ position. is_in page.gutters segment (slice_get page.boxes position) && ltb (place_in slope (slice_get page.boxes position)) place) page.alive,
    )
