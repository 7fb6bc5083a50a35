-- A row of packed bytes that is walked over from the left.
use Rattle.std.specs.Prelude.{◌≡◌, ◌≤◌, ℕ, List, Option, Some, None, IfSome}
use Rattle.packed_rows.specs.Page.{pixel}
use Rattle.page_runs.specs.declared.row_runs.Run.{Run}
use Rattle.page_runs.specs.Runs.{AddsRow, AreAll}
use Rattle.page_runs.specs.Black.{black_in}

-- where the runs that ended are told up to: the start of the run that has begun, or else where the walk stands
abbrev pub told_to : Option ℕ → ℕ → ℕ
told_to (Some start) x = start
told_to None x = x

-- the run that has begun starts before x, and the black pixels before it are no more than the columns
pub record IsUpTo (begun : Option ℕ) (black x : ℕ) : Type 0 where
  pub few : black ≤ told_to begun x
  pub before : told_to begun x ≤ x

-- A row was walked over up to x: a list got the runs that ended, whose pixels were counted; the one that has begun is black up to x.
pub record HasWalked (bits : List ℕ) (width x : ℕ) (old now : List Run) (begun : Option ℕ) (black : ℕ) : Type 0 where
  pub added : AddsRow bits width (told_to begun x) old now
  pub counted : black ≡ black_in (told_to begun x) bits
  pub starts : IfSome begun (λ start. pixel bits start ≡ 1)
  pub going : AreAll 1 bits (told_to begun x) x
