-- Packed rows that are painted.
use Rattle.std.specs.Prelude.{◌≡◌, ◌<◌, ◌≤◌, ◌+◌, ℕ, List, length, ◌⊎◌, ◌↔◌}
use Rattle.packed_rows.specs.Page.{pixel}
use Rattle.page_runs.specs.declared.row_runs.Run.{Run}
use Rattle.page_runs.specs.Runs.{run_at}

-- the black pixels of the row are these
abbrev pub IsPainted : (ℕ → Type 0) → List ℕ → Type 0
IsPainted IsBlack bits = (k : ℕ) → (pixel bits k ≡ 1) ↔ IsBlack k

-- a row that got some black pixels more
pub record GotBlack (More : ℕ → Type 0) (old new : List ℕ) : Type 0 where
  pub len : length new ≡ length old
  pub more : (k : ℕ) → More k → pixel new k ≡ 1
  pub kept : (k : ℕ) → pixel old k ≡ 1 → pixel new k ≡ 1
  pub only : (k : ℕ) → pixel new k ≡ 1 → (pixel old k ≡ 1) ⊎ More k

-- the columns from one up to another
abbrev pub IsBetween : ℕ → ℕ → ℕ → Type 0
IsBetween from to k = (from ≤ k) × (k < to)

-- where a run ends: at the next one, if the gap between them has at most so many columns
pub record IsClosedEnd (runs : List Run) (place most end : ℕ) : Type 0 where
  pub is : (end ≡ (run_at runs place).x1)
      ⊎ ((place + 1 < length runs) × (end ≡ (run_at runs (place + 1)).x0) × (end ≤ (run_at runs place).x1 + most))
  pub closes : place + 1 < length runs → (run_at runs (place + 1)).x0 ≤ (run_at runs place).x1 + most → end ≡ (run_at runs (place + 1)).x0

-- one of the first so many runs, up to its closed end, has the column
pub record IsInClosed (runs : List Run) (most count k : ℕ) : Type 0 where
  pub place : ℕ
  pub end : ℕ
  pub before : place < count
  pub closed : IsClosedEnd runs place most end
  pub left : (run_at runs place).x0 ≤ k
  pub right : k < end
