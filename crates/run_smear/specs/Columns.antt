-- What a sweep over the rows of a page from the top knows of its columns.
use Rattle.std.specs.Prelude.{◌≡◌, ◌<◌, ◌≤◌, ◌+◌, ◌-◌, ℕ, true, false, List, length, slice_index, slice_index_or, ◌⊎◌}
use Rattle.packed_rows.specs.Page.{Page}
use Rattle.page_runs.specs.declared.row_runs.Run.{Run}
use Rattle.page_runs.specs.Runs.{run_at}
use Rattle.run_smear.specs.declared.fills.Fill.{Fill}
use Rattle.run_smear.specs.Smear.{IsStretch}

abbrev pub no_fill : Fill
no_fill = record { x0 = 0; x1 = 0; top = 0; foot = 0 }

abbrev pub fill_at : List Fill → ℕ → Fill
fill_at fills i = slice_index_or fills i no_fill

-- a fill has the column, from one row up to another, which is excluded
pub record HasFill (fills : List Fill) (x top foot : ℕ) : Type 0 where
  pub place : ℕ
  pub there : place < length fills
  pub left : (fill_at fills place).x0 ≤ x
  pub right : x < (fill_at fills place).x1
  pub top_is : (fill_at fills place).top ≡ top
  pub foot_is : (fill_at fills place).foot ≡ foot

-- one of the first so many fills has the place
pub record IsFilledAt (fills : List Fill) (count x y : ℕ) : Type 0 where
  pub place : ℕ
  pub before : place < count
  pub left : (fill_at fills place).x0 ≤ x
  pub right : x < (fill_at fills place).x1
  pub not_above : (fill_at fills place).top ≤ y
  pub above_foot : y < (fill_at fills place).foot

-- no fill has a column right of these
abbrev pub AreWithin : ℕ → List Fill → Type 0
AreWithin width fills = (i : ℕ) → i < length fills → (fill_at fills i).x1 ≤ width

-- of the first so many fills those that begin above a row are listed, and only fills are
pub record AreNear (fills : List Fill) (count until : ℕ) (near : List Fill) : Type 0 where
  pub kept : (i : ℕ) → i < count → (fill_at fills i).top < until → (j : ℕ) × (j < length near) × (fill_at near j ≡ fill_at fills i)
  pub only : (j : ℕ) → j < length near → (i : ℕ) × (i < length fills) × (fill_at fills i ≡ fill_at near j)

-- fills of one column more
pub record AddsFill (x top foot : ℕ) (old new : List Fill) : Type 0 where
  pub kept : (k t f : ℕ) → HasFill old k t f → HasFill new k t f
  pub added : HasFill new x top foot
  pub only : (k t f : ℕ) → HasFill new k t f → HasFill old k t f ⊎ ((k ≡ x) × (t ≡ top) × (f ≡ foot))

-- rows from behind a black one up to the next: there is one, and they are at most so many
pub record IsGap (top foot most : ℕ) : Type 0 where
  pub begins : 0 < top
  pub some : top < foot
  pub short : foot ≤ top + most

-- Row y is black in these columns. For each column a list has the row behind its last black one, 0 where it has none; each gap that
-- ends at row y has got a fill.
pub record Closes (Has : ℕ → Type 0) (y most : ℕ) (behind now : List ℕ) (fills more : List Fill) : Type 0 where
  pub len : length now ≡ length behind
  pub ended : (k : ℕ) → Has k → slice_index now k ≡ y + 1
  pub same : (k : ℕ) → (Has k → ⊥) → slice_index now k ≡ slice_index behind k
  pub kept : (k top foot : ℕ) → HasFill fills k top foot → HasFill more k top foot
  pub filled : (k : ℕ) → Has k → IsGap (slice_index behind k) y most → HasFill more k (slice_index behind k) y
  pub only : (k top foot : ℕ) → HasFill more k top foot
      → HasFill fills k top foot ⊎ (Has k × IsGap top y most × (top ≡ slice_index behind k) × (foot ≡ y))

-- one of the first so many runs has the column
pub record IsInRuns (runs : List Run) (count k : ℕ) : Type 0 where
  pub place : ℕ
  pub before : place < count
  pub left : (run_at runs place).x0 ≤ k
  pub right : k < (run_at runs place).x1

-- of the rows from a first one up to y: the one behind the last that is black in column x, 0 where none is
pub record IsBehind (page : Page) (first y x value : ℕ) : Type 0 where
  pub not_past : value ≤ y
  pub black : 0 < value → (first < value) × (page.is_black x (value - 1) ≡ true)
  pub white : (k : ℕ) → value ≤ k → first ≤ k → k < y → page.is_black x k ≡ false

-- The rows from a first one up to y were swept: each fill is a short stretch of its columns, and each short stretch that ends within
-- these rows, behind the row `low`, has its fill.
pub record IsSwept (page : Page) (most first low y : ℕ) (behind : List ℕ) (fills : List Fill) : Type 0 where
  pub len : length behind ≡ page.width
  pub last : (x : ℕ) → x < page.width → IsBehind page first y x (slice_index behind x)
  pub sound : (x top foot : ℕ) → HasFill fills x top foot → IsStretch (λ k. page.is_black x k) top foot × (foot ≤ top + most)
  pub complete : (x top foot : ℕ) → IsStretch (λ k. page.is_black x k) top foot → foot ≤ top + most
      → first < top → low < foot → foot < y → HasFill fills x top foot

-- These fills are short stretches of their columns, and each short stretch that begins above the row `until`, and has a part of row y or
-- of one below it, has its fill.
pub record AreKnown (page : Page) (most y until : ℕ) (fills : List Fill) : Type 0 where
  pub slim : AreWithin page.width fills
  pub sound : (x top foot : ℕ) → HasFill fills x top foot → IsStretch (λ k. page.is_black x k) top foot × (foot ≤ top + most)
  pub complete : (x top foot : ℕ) → IsStretch (λ k. page.is_black x k) top foot → foot ≤ top + most
      → top < until → y < foot → HasFill fills x top foot
