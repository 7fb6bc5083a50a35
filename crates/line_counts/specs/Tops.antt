-- The counts of the parts into which gutters that all lines of a stretch cross divide a page, and what no line scores more than.
use Rattle.std.specs.Prelude.{◌≡◌, ℕ, ◌+◌, ◌*◌, ◌<◌, ◌≤◌, ◌==◌, max, cond, Bool, false, IsTrue, pos, ◌+ℤ◌, List, map, length, slice_index, slice_index_or}
use Rattle.std.specs.List.{sum_by, range_with_len}
use Rattle.layout_geom.specs.declared.rect.Rect.{Rect}
use Rattle.line_quality.specs.Points.{weight_at}
use Rattle.line_quality.specs.declared.limits.TheConstants.{MAX_DEPTH}
use Rattle.line_counts.specs.declared.limits.TheConstants.{REACH, BATCH, MAX_TOPS, MAX_PLACES, MAX_PART_COUNT}
use Rattle.line_counts.specs.declared.stretch.Stretch.{Stretch}
use Rattle.line_counts.specs.Fits.{column_of_segment, count_of, first_place, apart, weight_behind}
use Rattle.line_counts.specs.Stretches.{IsBeaten}
use Rattle.line_counts.specs.Table.{LivingPage}

-- each line of the stretch has a column that begins with the segment
abbrev pub IsCutBefore : List Rect → Stretch → ℕ → Type 0
IsCutBefore gutters stretch segment = (more before : ℕ) → more < stretch.offsets → before < segment
    → column_of_segment stretch.slope (stretch.from +ℤ pos more) gutters before
    < column_of_segment stretch.slope (stretch.from +ℤ pos more) gutters segment

-- at each of the marked segments each line of the stretch begins a column
abbrev pub AreCuts : List Rect → Stretch → List Bool → Type 0
AreCuts gutters stretch cuts = (segment : ℕ) → IsTrue (slice_index_or cuts segment false) → IsCutBefore gutters stretch segment

-- the sum of what a function has for the first numbers
abbrev pub sum_to : (ℕ → ℕ) → ℕ → ℕ
sum_to amount count = sum_by (λ (n : ℕ). n) (map amount (range_with_len 0 count))

-- what the first segments have together that are in a column
abbrev pub of_column : (ℕ → ℕ) → (ℕ → ℕ) → ℕ → ℕ → ℕ
of_column column amount in_column segments = sum_to (λ segment. cond (column segment == in_column) (amount segment) 0) segments

-- what a box weighs less than for a line and for that of its descenders together, by how far it is behind the first place that weighs
-- something for the latter
abbrev pub common_weight : ℕ → ℕ → ℕ
common_weight depth behind = weight_at (max (apart REACH (depth + behind)) (apart REACH behind))

-- what counts weigh together for the line of an offset, from the place of the first one on, and a depth
abbrev pub weighed : List ℕ → ℕ → ℕ → ℕ
weighed counts more depth = sum_to (λ behind. slice_index counts (more + behind) * weight_behind depth behind) (2 * REACH + depth + 1)

-- how many living boxes of a segment have the fit that is so many rows behind the first of a stretch
abbrev pub count_behind : LivingPage → Stretch → ℕ → ℕ → ℕ
count_behind page stretch place segment = count_of page.boxes page.gutters stretch.slope segment (first_place stretch.from + place) page.alive

-- the counts are of the places that weigh something for a stretch, and have no less than a column of a line
abbrev pub HasColumn : LivingPage → Stretch → ℕ → ℕ → List ℕ → Type 0
HasColumn page stretch more in_column counts = (place : ℕ) → place < stretch.offsets + stretch.deepest + 2 * REACH
    → of_column (λ segment. column_of_segment stretch.slope (stretch.from +ℤ pos more) page.gutters segment)
    (λ segment. count_behind page stretch place segment) in_column (length page.gutters + 1)
    ≤ slice_index counts place

-- so many counts, which are small
pub record ArePartCounts (counts : List ℕ) : Type 0 where
  pub long : length counts ≡ MAX_PLACES
  pub small : (place : ℕ) → slice_index counts place ≤ MAX_PART_COUNT

-- what the counts weigh for each line of no depth
pub record AreBells (counts bells : List ℕ) : Type 0 where
  pub long : length bells ≡ MAX_TOPS
  pub value : (place : ℕ) → place < MAX_TOPS → slice_index bells place ≡ weighed counts place 0

-- they weigh no more for any line
abbrev pub WeighAtMost : List ℕ → ℕ → Type 0
WeighAtMost counts most = (more depth : ℕ) → more < BATCH → depth ≤ MAX_DEPTH → weighed counts more depth ≤ most

-- no line of the stretch has a greater key, of those that score enough, and at most what the counts weigh for them
abbrev pub AreBeaten : LivingPage → ℕ → Stretch → List ℕ → ℕ → Type 0
AreBeaten page least stretch counts key = (more depth : ℕ) → more < stretch.offsets → stretch.shallowest ≤ depth → depth ≤ stretch.deepest
    → IsBeaten page least stretch more depth (weighed counts more depth) key
