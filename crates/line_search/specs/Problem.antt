-- The problem of the best line, as it is given and as a list of whole numbers.
use Rattle.std.specs.Prelude.{◌≡◌, ℕ, ◌<◌, ◌≤◌, ℤ, pos, List, ◌∷◌, ◌++◌, map, length, All}
use Rattle.layout_limits.specs.declared.TheConstants.{MAX_SIDE}
use Rattle.layout_geom.specs.declared.rect.Rect.{Rect}
use Rattle.layout_geom.specs.BoxNumbers.{boxes_numbers}
use Rattle.box_search.specs.Problems.{OfProblem}
use Rattle.line_quality.specs.declared.limits.TheConstants.{MAX_GUTTERS}
use Rattle.line_quality.specs.Keys.{line_key}
use Rattle.line_search.specs.Lines.{IsScored, IsAdmissiblePoint}

-- the height of the page, the median height of its boxes, its boxes, the positions of those that are alive, and its gutters
pub record GridProblem : Type 0 where
  pub height : ℕ
  pub median : ℕ
  pub boxes : List Rect
  pub alive : List ℕ
  pub gutters : List Rect

-- the height, the median, and each list after its length, with four numbers for each box and each gutter
unfoldable pub grid_numbers : GridProblem → List ℤ
grid_numbers problem =
    pos problem.height ∷ pos problem.median ∷ pos (length problem.boxes)
    ∷ (boxes_numbers problem.boxes ++ (pos (length problem.alive)
    ∷ (map pos problem.alive ++ (pos (length problem.gutters) ∷ boxes_numbers problem.gutters))))

abbrev pub HasScore : GridProblem → ℤ → ℤ → ℕ → ℕ → Type 0
HasScore problem slope offset depth score = IsScored problem.boxes problem.gutters problem.height problem.median problem.alive slope offset depth score

-- some admissible point of the grid has the key
pub record HasPointOfKey (key : ℕ) (problem : GridProblem) : Type 0 where
  pub slope : ℤ
  pub offset : ℤ
  pub depth : ℕ
  pub score : ℕ
  pub has_key : line_key score slope offset depth ≡ key
  pub admissible : IsAdmissiblePoint problem.boxes problem.gutters problem.height problem.median problem.alive slope offset depth score

-- the keys that are searched are those of the admissible points
abbrev pub IsGridKey : List ℤ → ℕ → Type 0
IsGridKey numbers key = OfProblem grid_numbers (HasPointOfKey key) numbers

-- what a page and its lists keep to
pub record IsWithinLimits (problem : GridProblem) : Type 0 where
  pub low : 1 ≤ problem.height
  pub high : problem.height ≤ MAX_SIDE
  pub few_boxes : length problem.boxes ≤ 60000
  pub few_alive : length problem.alive ≤ 60000
  pub few_gutters : length problem.gutters ≤ MAX_GUTTERS
  pub positions : All (λ position. position < length problem.boxes) problem.alive
