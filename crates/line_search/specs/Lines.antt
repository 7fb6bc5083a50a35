-- The lines of text of a page, each the best of the grid among the boxes that are in no line before it.
use Rattle.std.specs.Prelude.{◌≡◌, ℕ, ◌+◌, ◌/◌, ◌≤◌, min, ℤ, pos, ◌≤ℤ◌, Bool, false, not, ◌==◌, List}
use Rattle.std.specs.Prelude.{[], ◌∷◌, Option, Some, None, slice_get, length, IfSome, All}
use Rattle.std.specs.List.{filter, list_any, range_with_len}
use Rattle.layout_limits.specs.declared.TheConstants.{MAX_SIDE}
use Rattle.layout_geom.specs.declared.rect.Rect.{Rect}
use Rattle.layout_geom.specs.Rectangles.{Encloses, IsLeastRect}
use Rattle.components.specs.declared.kept.Kept.{Kept}
use Rattle.components.specs.Kept.{is_char_sized}
use Rattle.line_quality.specs.declared.limits.TheConstants.{LEAST_OFFSET, OFFSET_MARGIN, MAX_DEPTH}
use Rattle.line_quality.specs.Points.{IsSlope}
use Rattle.line_quality.specs.Scores.{IsScore, group_of}
use Rattle.line_quality.specs.Keys.{line_key}
use Rattle.line_search.specs.declared.line.Line.{Line}
use Rattle.line_search.specs.declared.grid.TheConstants.{LEAST_SCORE}

-- the rectangle encloses the boxes at the positions
abbrev pub IsRound : List Rect → List ℕ → Rect → Type 0
IsRound boxes positions outer = All (λ position. IfSome (slice_get boxes position) (λ box. Encloses outer box)) positions

-- the least rectangle that does
abbrev pub IsLeastRound : List Rect → List ℕ → Rect → Type 0
IsLeastRound boxes positions r = IsLeastRect (IsRound boxes positions) r

-- the positions that are left without the members of a line
abbrev pub without : List ℕ → List ℕ → List ℕ
without members alive = filter (λ position. not (list_any (λ member. member == position) members)) alive

-- the greatest depth of a line of a page whose boxes have this median height
abbrev pub deepest : ℕ → ℕ
deepest median = min MAX_DEPTH (median / 3)

-- a point of the grid of a page of this height and this median height of boxes: a line by its slope in thousandths, its offset
-- and its depth
pub record IsPoint (height median : ℕ) (slope offset : ℤ) (depth : ℕ) : Type 0 where
  pub slope_in : IsSlope slope
  pub low : LEAST_OFFSET ≤ℤ offset
  pub high : offset ≤ℤ pos (height + OFFSET_MARGIN)
  pub shallow : depth ≤ deepest median

module _ (boxes gutters : List Rect) (height median : ℕ) where
  -- the point is of the grid, and this is the greatest weight of a column of the boxes that are alive
  pub record IsScored (alive : List ℕ) (slope offset : ℤ) (depth score : ℕ) : Type 0 where
    pub point : IsPoint height median slope offset depth
    pub in_column : ℕ
    pub scored : IsScore slope offset depth boxes gutters alive score in_column

  -- the score is enough for a line
  pub record IsAdmissiblePoint (alive : List ℕ) (slope offset : ℤ) (depth score : ℕ) : Type 0 where
    pub scored : IsScored alive slope offset depth score
    pub enough : LEAST_SCORE ≤ score

  -- no point is admissible
  abbrev pub HasNoLine : List ℕ → Type 0
  HasNoLine alive = (slope offset : ℤ) (depth score : ℕ) → IsAdmissiblePoint alive slope offset depth score → ⊥

  -- the admissible point of greatest key, with the group of the column that wins
  pub record IsBestLine (alive : List ℕ) (line : Line) : Type 0 where
    pub admissible : IsAdmissiblePoint alive line.slope line.offset line.depth line.score
    pub greatest : (slope offset : ℤ) (depth score : ℕ) → IsAdmissiblePoint alive slope offset depth score
        → line_key score slope offset depth ≤ line_key line.score line.slope line.offset line.depth
    pub members : line.members ≡ group_of line.slope line.offset line.depth boxes gutters admissible.scored.in_column alive
    pub bbox : IsLeastRound boxes line.members line.bbox

  -- each line is the best of what the lines before it leave, and the last leaves none
  abbrev pub IsLineList : List ℕ → List Line → Type 0
  IsLineList alive [] = HasNoLine alive
  IsLineList alive (line ∷ lines) = IsBestLine alive line × IsLineList (without line.members alive) lines

-- there is a box, which has about the size of a character on a page of this median height
abbrev pub is_character : ℕ → Option Rect → Bool
is_character median (Some r) = is_char_sized r median
is_character median None = false

-- the positions, in rising order, of the kept boxes that have the size of a character
abbrev pub characters_of : Kept → List ℕ
characters_of kept = filter (λ position. is_character kept.median (slice_get kept.boxes position)) (range_with_len 0 (length kept.boxes))

-- the lines of a page, the best first
abbrev pub AreLinesOf : Kept → List Rect → ℕ → List Line → Type 0
AreLinesOf kept gutters height lines = IsLineList kept.boxes gutters height kept.median (characters_of kept) lines

-- a page of no more rows than a page may have has one list of lines
abbrev pub LinesAreUnique : Type 0
LinesAreUnique = (kept : Kept) (gutters : List Rect) (height : ℕ) (xs ys : List Line) → height ≤ MAX_SIDE
    → AreLinesOf kept gutters height xs → AreLinesOf kept gutters height ys → xs ≡ ys
