-- The threshold that parts the gaps of a line: at most so wide within words, and wider between them.
use Rattle.std.specs.Prelude.{ℕ, ◌*◌, ◌<◌, ◌≤◌, Option, Some, None, List, Contains, count_by, filter, sum, nat_le, nat_lt}
use Rattle.std.specs.Int.{abs_diff}
use Rattle.word_split.specs.declared.parting.TheConstants.{LEAST_RATIO, LEAST_PART}

-- the gaps of at most t columns, their number and their sum
abbrev pub narrow_count : List ℕ → ℕ → ℕ
narrow_count gaps t = count_by (λ gap. nat_le gap t) gaps

abbrev pub narrow_sum : List ℕ → ℕ → ℕ
narrow_sum gaps t = sum (filter (λ gap. nat_le gap t) gaps)

-- the wider ones, their number and their sum
abbrev pub wide_count : List ℕ → ℕ → ℕ
wide_count gaps t = count_by (λ gap. nat_lt t gap) gaps

abbrev pub wide_sum : List ℕ → ℕ → ℕ
wide_sum gaps t = sum (filter (λ gap. nat_lt t gap) gaps)

-- a gap that is not the widest
pub record IsCandidate (gaps : List ℕ) (t : ℕ) : Type 0 where
  pub is_gap : Contains gaps t
  pub narrow : 0 < narrow_count gaps t
  pub wide : 0 < wide_count gaps t

abbrev pub square : ℕ → ℕ
square n = n * n

-- How well a threshold separates the gaps, as a fraction: the variance between the narrow ones and the wide ones (Otsu 1979), times
-- the square of the number of gaps.
abbrev pub separation_top : List ℕ → ℕ → ℕ
separation_top gaps t = square (abs_diff (narrow_sum gaps t * wide_count gaps t) (wide_sum gaps t * narrow_count gaps t))

abbrev pub separation_bottom : List ℕ → ℕ → ℕ
separation_bottom gaps t = narrow_count gaps t * wide_count gaps t

-- u separates no better than t: its fraction is at most that of t
abbrev pub SeparatesNoBetter : List ℕ → ℕ → ℕ → Type 0
SeparatesNoBetter gaps u t = separation_top gaps u * separation_bottom gaps t ≤ separation_top gaps t * separation_bottom gaps u

-- the candidate that separates best, and the least of several
pub record IsChosen (gaps : List ℕ) (t : ℕ) : Type 0 where
  pub candidate : IsCandidate gaps t
  pub greatest : (u : ℕ) → IsCandidate gaps u → SeparatesNoBetter gaps u t
  pub least : (u : ℕ) → IsCandidate gaps u → SeparatesNoBetter gaps t u → t ≤ u

-- The threshold at which a line falls into words, where the text has a median height: on the average the wide gaps are at least
-- `LEAST_RATIO` times as wide as the narrow ones, and at least one `LEAST_PART`-th of the median height.
pub record IsThreshold (gaps : List ℕ) (median t : ℕ) : Type 0 where
  pub chosen : IsChosen gaps t
  pub wider : LEAST_RATIO * (narrow_sum gaps t * wide_count gaps t) ≤ wide_sum gaps t * narrow_count gaps t
  pub wide : median * wide_count gaps t ≤ LEAST_PART * wide_sum gaps t

-- the threshold, or none exactly where there is none
abbrev pub IsThresholdOf : List ℕ → ℕ → Option ℕ → Type 0
IsThresholdOf gaps median (Some t) = IsThreshold gaps median t
IsThresholdOf gaps median None = (t : ℕ) → IsThreshold gaps median t → ⊥
