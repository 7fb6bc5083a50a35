-- What the code knows of a threshold.
use Rattle.std.specs.Prelude.{◌≡◌, ◌<◌, ◌≤◌, ◌*◌, ◌-◌, ℕ, List, length, slice_index, Option, Some, None, ◌⊎◌}
use Rattle.std.specs.Int.{abs_diff}
use Rattle.word_split.specs.declared.parting.Parting.{Parting}
use Rattle.word_split.specs.declared.parting.TheConstants.{LEAST_RATIO, LEAST_PART}
use Rattle.word_split.specs.Thresholds.{narrow_count, narrow_sum, wide_count, wide_sum, IsCandidate, IsChosen, square}

-- the numbers of the narrow gaps and of the wide ones, and their sums
pub record IsPartingOf (gaps : List ℕ) (parting : Parting) : Type 0 where
  pub narrow : parting.narrow_count ≡ narrow_count gaps parting.threshold
  pub narrow_in_all : parting.narrow_sum ≡ narrow_sum gaps parting.threshold
  pub wide : parting.wide_count ≡ wide_count gaps parting.threshold
  pub wide_in_all : parting.wide_sum ≡ wide_sum gaps parting.threshold

-- so many of the rising gaps are at most as wide as the last of them, and the next one is wider
pub record IsCut (rising : List ℕ) (count : ℕ) : Type 0 where
  pub some : 0 < count
  pub low : count < length rising
  pub rises : slice_index rising (count - 1) < slice_index rising count

-- how well the threshold separates the gaps, as a fraction
abbrev pub top_of : Parting → ℕ
top_of p = square (abs_diff (p.narrow_sum * p.wide_count) (p.wide_sum * p.narrow_count))

abbrev pub bottom_of : Parting → ℕ
bottom_of p = p.narrow_count * p.wide_count

-- the wide gaps are wide enough to part words
pub record IsWide (p : Parting) (median : ℕ) : Type 0 where
  pub wider : LEAST_RATIO * (p.narrow_sum * p.wide_count) ≤ p.wide_sum * p.narrow_count
  pub wide : median * p.wide_count ≤ LEAST_PART * p.wide_sum

-- of the best parting so far and one more, the one that separates better, and the earlier of two that do alike
abbrev pub IsBetter : Option Parting → Parting → Parting → Type 0
IsBetter (Some best) parting winner =
    ((winner ≡ best) × (top_of parting * bottom_of best ≤ top_of best * bottom_of parting))
    ⊎ ((winner ≡ parting) × (top_of best * bottom_of parting < top_of parting * bottom_of best))
IsBetter None parting winner = winner ≡ parting

-- a gap is wider than the threshold, where there is one
abbrev pub IsAbove : Option ℕ → ℕ → Type 0
IsAbove (Some t) gap = t < gap
IsAbove None gap = ⊥

-- the parting of the chosen threshold, or none exactly where no threshold is a candidate
abbrev pub IsBestParting : List ℕ → Option Parting → Type 0
IsBestParting gaps (Some parting) = IsPartingOf gaps parting × IsChosen gaps parting.threshold
IsBestParting gaps None = (t : ℕ) → IsCandidate gaps t → ⊥
