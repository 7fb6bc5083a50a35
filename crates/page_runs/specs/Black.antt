-- The black pixels of a page.
use Rattle.std.specs.Prelude.{◌≡◌, ◌<◌, ◌≤◌, ℕ, ◌*◌, List, ◌∷◌, length, slice_index, sum_by, count_by, nat_eq}
use Rattle.std.specs.List.{range_with_len}
use Rattle.layout_limits.specs.declared.TheConstants.{MAX_SIDE}
use Rattle.packed_rows.specs.Page.{Page, pixel, IsPageSize}
use Rattle.page_runs.specs.Packed.{Packed, page_of, row_of, rows_of}
use Rattle.page_runs.specs.Runs.{AreApart}

-- the black pixels of a row in packed bytes
abbrev pub black_in : ℕ → List ℕ → ℕ
black_in width bits = count_by (λ x. nat_eq (pixel bits x) 1) (range_with_len 0 width)

-- the black places of the row y
abbrev pub black_in_row : Page → ℕ → ℕ
black_in_row page y = count_by (λ x. page.is_black x y) (range_with_len 0 page.width)

-- the number of black places of a page
abbrev pub black_of : Page → ℕ
black_of page = sum_by (black_in_row page) (range_with_len 0 page.height)

-- the runs are those of the rows that are there, and so many places are black; a page that was not begun has no size
pub record IsPacked (p : Packed) (black : ℕ) : Type 0 where
  pub unbegun : p.height ≡ 0 → p.width ≡ 0
  pub size : 0 < p.height → IsPageSize p.width p.height
  pub few : rows_of p ≤ p.height
  pub rises : (y : ℕ) → y < length p.ends → slice_index (0 ∷ p.ends) y ≤ slice_index p.ends y
  pub within : (y : ℕ) → y < length p.ends → slice_index p.ends y ≤ length p.runs
  pub last : slice_index (0 ∷ p.ends) (length p.ends) ≡ length p.runs
  pub rows : (y : ℕ) → y < length p.ends → AreApart p.width (row_of p y)
  pub many : length p.runs ≤ MAX_SIDE * length p.ends
  pub counted : black ≡ black_of (page_of p)
  pub bound : black ≤ MAX_SIDE * length p.ends
