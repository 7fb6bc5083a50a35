-- What is known of the threshold of a line where the best parting of its gaps is known.
use Rattle.std.proofs.Common.{◌≡◌, ℕ, ◌↔◌, List, Option, Some, None, get_or, arith, sym, subst}
use Rattle.std.specs.List.Sorted.{IsPermutation}
use Rattle.std.proofs.lemmas.List.Sorted.{IsPermutation-sym}
use Rattle.word_split.specs.declared.parting.Parting.{Parting}
use Rattle.word_split.specs.Thresholds.{IsChosen, IsThreshold, IsThresholdOf}
use Rattle.word_split.specs.Partings.{IsAbove, IsPartingOf, IsWide, IsBestParting}
use Rattle.word_split.specs.Words.{IsBreak}

one_chosen : (gaps : List ℕ) (t u : ℕ) → IsChosen gaps t → IsChosen gaps u → t ≡ u
one_chosen gaps t u first second =
    omega (arith, first.least u second.candidate (second.greatest t first.candidate), second.least t first.candidate (first.greatest u second.candidate))

-- the wide gaps are wide enough exactly where the definition says so
wide_enough : (gaps : List ℕ) (p : Parting) (median : ℕ) → IsPartingOf gaps p → IsChosen gaps p.threshold → IsWide p median → IsThreshold gaps median p.threshold
wide_enough gaps p median is chosen wide = record {
  chosen = chosen;
  wider = rw (← is.narrow, ← is.narrow_in_all, ← is.wide, ← is.wide_in_all) wide.wider;
  wide = rw (← is.wide, ← is.wide_in_all) wide.wide;
}

too_narrow : (gaps : List ℕ) (p : Parting) (median : ℕ) → IsPartingOf gaps p → IsThreshold gaps median p.threshold → IsWide p median
too_narrow gaps p median is wide = record {
  wider = rw (is.narrow, is.narrow_in_all, is.wide, is.wide_in_all) wide.wider;
  wide = rw (is.wide, is.wide_in_all) wide.wide;
}

pub threshold_some : (gaps : List ℕ) (p : Parting) (median : ℕ) → IsBestParting gaps (Some p) → IsWide p median → IsThresholdOf gaps median (Some p.threshold)
threshold_some gaps p median best wide = wide_enough gaps p median best.0 best.1 wide

pub threshold_narrow : (gaps : List ℕ) (p : Parting) (median : ℕ) → IsBestParting gaps (Some p) → (IsWide p median → ⊥) → IsThresholdOf gaps median None
threshold_narrow gaps p median best narrow = λ t is.
    let e : t ≡ p.threshold = one_chosen gaps t p.threshold is.chosen best.1 in
    narrow (too_narrow gaps p median best.0 (subst (λ (u : ℕ). IsThreshold gaps median u) e is))

pub threshold_none : (gaps : List ℕ) (median : ℕ) → IsBestParting gaps None → IsThresholdOf gaps median None
threshold_none gaps median none = λ t is. none t is.chosen.candidate

-- a gap is above the threshold that was found exactly where it is a break
pub above_is_break : (gaps : List ℕ) (median : ℕ) (found : Option ℕ) → IsThresholdOf gaps median found → (k : ℕ) → IsAbove found (get_or gaps k 0) ↔ IsBreak gaps median k
above_is_break gaps median (Some t) is k = (
  λ above. (t, is, above),
  λ breaks. let e : breaks.0 ≡ t = one_chosen gaps breaks.0 t breaks.1.chosen is.chosen in omega (arith, e, breaks.2),
)
above_is_break gaps median None none k = (λ above. absurd above, λ breaks. absurd (none breaks.0 breaks.1))

-- what a sorted copy of gaps has
pub from_sorted : (gaps copied sorted rising : List ℕ) → copied ≡ gaps → IsPermutation copied sorted → rising ≡ sorted → IsPermutation rising gaps
from_sorted gaps copied sorted rising copy moved read =
    subst (λ (xs : List ℕ). IsPermutation xs gaps) (sym read)
    (IsPermutation-sym gaps sorted (subst (λ (xs : List ℕ). IsPermutation xs sorted) copy moved))
