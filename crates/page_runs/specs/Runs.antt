-- The maximal runs of black places of one row.
use Rattle.std.specs.Prelude.{◌≡◌, ◌<◌, ◌≤◌, ℕ, ◌&&◌, Bool, true, List, ◌++◌, length, slice_index_or, nat_le, nat_lt}
use Rattle.packed_rows.specs.Page.{Page, pixel}
use Rattle.page_runs.specs.declared.row_runs.Run.{Run}

-- the run without a column
abbrev pub no_run : Run
no_run = record { x0 = 0; x1 = 0 }

abbrev pub run_at : List Run → ℕ → Run
run_at runs i = slice_index_or runs i no_run

-- whether the run has this column
abbrev pub has_column : ℕ → Run → Bool
has_column x run = nat_le run.x0 x && nat_lt x run.x1

-- each run has a column of a row this wide; they are listed from the left, and none touches the next
pub record AreApart (width : ℕ) (runs : List Run) : Type 0 where
  pub some : (i : ℕ) → i < length runs → (run_at runs i).x0 < (run_at runs i).x1
  pub within : (i : ℕ) → i < length runs → (run_at runs i).x1 ≤ width
  pub apart : (i j : ℕ) → i < j → j < length runs → (run_at runs i).x1 < (run_at runs j).x0

-- exactly the maximal runs of the black places of the row y, from the left
pub record AreRunsOf (page : Page) (y : ℕ) (runs : List Run) : Type 0 where
  pub apart : AreApart page.width runs
  pub blacks : (i x : ℕ) → i < length runs → (run_at runs i).x0 ≤ x → x < (run_at runs i).x1 → page.is_black x y ≡ true
  pub every : (x : ℕ) → page.is_black x y ≡ true → (i : ℕ) × (i < length runs) × ((run_at runs i).x0 ≤ x) × (x < (run_at runs i).x1)

-- the maximal runs of a row of packed bytes that lie left of x
pub record AreRunsOfBits (bits : List ℕ) (width x : ℕ) (runs : List Run) : Type 0 where
  pub some : (i : ℕ) → i < length runs → (run_at runs i).x0 < (run_at runs i).x1
  pub left : (i : ℕ) → i < length runs → (run_at runs i).x1 ≤ x
  pub blacks : (i k : ℕ) → i < length runs → (run_at runs i).x0 ≤ k → k < (run_at runs i).x1 → pixel bits k ≡ 1
  pub maximal : (i : ℕ) → i < length runs → (run_at runs i).x1 < width → pixel bits (run_at runs i).x1 ≡ 0
  pub order : (i j : ℕ) → i < j → j < length runs → (run_at runs i).x1 ≤ (run_at runs j).x0
  pub every : (k : ℕ) → k < x → pixel bits k ≡ 1 → (i : ℕ) × (i < length runs) × ((run_at runs i).x0 ≤ k) × (k < (run_at runs i).x1)
  pub few : length runs ≤ x

-- the columns from one to another have this pixel
abbrev pub AreAll : ℕ → List ℕ → ℕ → ℕ → Type 0
AreAll value bits from to = (k : ℕ) → from ≤ k → k < to → pixel bits k ≡ value

-- a list that got some runs more
abbrev pub Extends : List Run → List Run → Type 0
Extends old new = (more : List Run) × (new ≡ old ++ more)

-- a list that got the runs of a row of packed bytes that lie left of x
pub record AddsRow (bits : List ℕ) (width x : ℕ) (old new : List Run) : Type 0 where
  pub more : List Run
  pub is : new ≡ old ++ more
  pub are : AreRunsOfBits bits width x more
