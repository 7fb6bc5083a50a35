-- The greatest key of a stretch of the grid: a slope, a range of offsets and a range of depths.
use Rattle.std.specs.Prelude.{◌≡◌, ℕ, ◌+◌, ◌<◌, ◌≤◌, ◌⊎◌, ℤ, pos, ◌+ℤ◌, ◌≤ℤ◌, ◌<ℤ◌}
use Rattle.layout_limits.specs.declared.TheConstants.{MAX_SIDE}
use Rattle.line_quality.specs.declared.limits.TheConstants.{LEAST_OFFSET, OFFSET_MARGIN, MAX_DEPTH}
use Rattle.line_quality.specs.Points.{IsSlope}
use Rattle.box_search.specs.Search.{IsGreatestKey}
use Rattle.line_quality.specs.Keys.{line_key}
use Rattle.line_quality.specs.Scores.{IsScore}
use Rattle.line_counts.specs.declared.stretch.Stretch.{Stretch}
use Rattle.line_counts.specs.Table.{LivingPage}

-- the line scores at least so much among the living boxes, and has the key
pub record IsKeyAt (page : LivingPage) (least : ℕ) (slope offset : ℤ) (depth key : ℕ) : Type 0 where
  pub score : ℕ
  pub in_column : ℕ
  pub scored : IsScore slope offset depth page.boxes page.gutters page.alive score in_column
  pub enough : least ≤ score
  pub has_key : line_key score slope offset depth ≡ key

-- some line of the offset does, of a depth in the range
pub record IsKeyOf (page : LivingPage) (least : ℕ) (slope offset : ℤ) (shallowest deepest key : ℕ) : Type 0 where
  pub depth : ℕ
  pub from_depth : shallowest ≤ depth
  pub to_depth : depth ≤ deepest
  pub at : IsKeyAt page least slope offset depth key

-- some line of the stretch does
pub record IsKeyIn (page : LivingPage) (least : ℕ) (stretch : Stretch) (key : ℕ) : Type 0 where
  pub offset : ℤ
  pub from_offset : stretch.from ≤ℤ offset
  pub to_offset : offset <ℤ (stretch.from +ℤ pos stretch.offsets)
  pub of : IsKeyOf page least stretch.slope offset stretch.shallowest stretch.deepest key

-- the word is the one before or one of these keys, none of which is greater
pub record IsGreaterKey (admits : ℕ → Type 0) (before word : ℕ) : Type 0 where
  pub from : (word ≡ before) ⊎ admits word
  pub no_less : before ≤ word
  pub greatest : (key : ℕ) → admits key → (0 < word) × (key ≤ word)

-- the word is the one before or one of these keys, and no less than the one before
pub record IsRisen (admits : ℕ → Type 0) (before word : ℕ) : Type 0 where
  pub from : (word ≡ before) ⊎ admits word
  pub no_less : before ≤ word

-- the line so many offsets behind the first of a stretch has no greater key, where it scores enough and at most its top
abbrev pub IsBeaten : LivingPage → ℕ → Stretch → ℕ → ℕ → ℕ → ℕ → Type 0
IsBeaten page least stretch more depth top key = (score in_column : ℕ)
    → IsScore stretch.slope (stretch.from +ℤ pos more) depth page.boxes page.gutters page.alive score in_column
    → least ≤ score → score ≤ top → (0 < key) × (line_key score stretch.slope (stretch.from +ℤ pos more) depth ≤ key)

-- none of these keys is greater than the bound, which is less than the one before or one of them
pub record IsSharper (admits : ℕ → Type 0) (before bound : ℕ) : Type 0 where
  pub over : (key : ℕ) → admits key → key ≤ bound
  pub low : (bound < before) ⊎ IsGreatestKey admits bound

-- the stretch is of the grid of a page of this height
pub record IsOfPage (height : ℕ) (stretch : Stretch) : Type 0 where
  pub page : height ≤ MAX_SIDE
  pub slope_in : IsSlope stretch.slope
  pub low : LEAST_OFFSET ≤ℤ stretch.from
  pub high : (stretch.from +ℤ pos stretch.offsets) ≤ℤ pos (height + OFFSET_MARGIN + 1)
  pub some_depth : stretch.shallowest ≤ stretch.deepest
  pub shallow : stretch.deepest ≤ MAX_DEPTH
