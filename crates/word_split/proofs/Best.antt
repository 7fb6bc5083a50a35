-- The parting that separates best among those whose thresholds lie below a limit.
use Rattle.std.proofs.Common.{◌≡◌, ℕ, ◌+◌, ◌-◌, ◌*◌, ◌<◌, ◌≤◌, List, Option, Some, None, length, take, get_or, sum, arith, refl, sym, ◌∙◌, subst, ⊎_elim}
use Rattle.std.specs.List.Sorted.{IsNonDecreasing}
use Rattle.std.proofs.lemmas.Bool.{cases_lt}
use Rattle.std.proofs.Math.Nat.{mul-le-mul_right, le_of_mul-le-mul_right, mul_right_comm}
use Rattle.std.proofs.lemmas.Nat.{mul-lt, mul-le}
use Rattle.word_split.specs.declared.parting.Parting.{Parting}
use Rattle.word_split.specs.Thresholds.{narrow_count, wide_count, separation_top, separation_bottom, IsCandidate, SeparatesNoBetter}
use Rattle.word_split.specs.Partings.{top_of, bottom_of, IsCut, IsPartingOf, IsBetter, IsBestParting}
use Rattle.word_split.proofs.Cuts.{parts, cut_candidate, no_gap_between, candidate_below}

pub record IsBestUpTo (gaps : List ℕ) (limit : ℕ) (best : Parting) : Type 0 where
  pub parting : IsPartingOf gaps best
  pub candidate : IsCandidate gaps best.threshold
  pub below : best.threshold < limit
  pub greatest : (u : ℕ) → IsCandidate gaps u → u < limit → SeparatesNoBetter gaps u best.threshold
  pub least : (u : ℕ) → IsCandidate gaps u → u < limit → SeparatesNoBetter gaps best.threshold u → best.threshold ≤ u

-- the best so far, or none exactly where no threshold below the limit is a candidate
abbrev pub IsBestBelow : List ℕ → ℕ → Option Parting → Type 0
IsBestBelow gaps limit (Some best) = IsBestUpTo gaps limit best
IsBestBelow gaps limit None = (u : ℕ) → IsCandidate gaps u → u < limit → ⊥

-- fractions with a positive line in the middle
chain : (a b c d e f : ℕ) → 0 < d → a * d ≤ c * b → c * f ≤ e * d → a * f ≤ e * b
chain a b c d e f some first second =
    let one : a * d * f ≤ c * b * f = mul-le-mul_right f first in
    let two : c * f * b ≤ e * d * b = mul-le-mul_right b second in
    let up : a * f * d ≤ e * b * d = omega (arith, one, two, mul_right_comm a f d, mul_right_comm c f b, mul_right_comm e b d) in
    le_of_mul-le-mul_right up some

bottom_some : (gaps : List ℕ) (t : ℕ) → IsCandidate gaps t → 0 < separation_bottom gaps t
bottom_some gaps t is = mul-lt 0 0 (narrow_count gaps t) (wide_count gaps t) is.narrow is.wide

no_better_chain : (gaps : List ℕ) (u t v : ℕ) → IsCandidate gaps t → SeparatesNoBetter gaps u t → SeparatesNoBetter gaps t v → SeparatesNoBetter gaps u v
no_better_chain gaps u t v is first second =
    chain (separation_top gaps u) (separation_bottom gaps u) (separation_top gaps t) (separation_bottom gaps t) (separation_top gaps v) (separation_bottom gaps v)
    (bottom_some gaps t is) first second

top_is : (gaps : List ℕ) (p : Parting) → IsPartingOf gaps p → top_of p ≡ separation_top gaps p.threshold
top_is gaps p is = rw (is.narrow, is.narrow_in_all, is.wide, is.wide_in_all) refl

bottom_is : (gaps : List ℕ) (p : Parting) → IsPartingOf gaps p → bottom_of p ≡ separation_bottom gaps p.threshold
bottom_is gaps p is = rw (is.narrow, is.wide) refl

-- the square of a difference of small products
pub top_small : (n s m r apart : ℕ) → n + m ≤ 60000 → s + r ≤ 8192 → apart ≡ (s * m - r * n) + (r * n - s * m) → apart * apart < 288230376151711744
top_small n s m r apart few slim is =
    let one : s * m ≤ 8192 * 60000 = mul-le s m 8192 60000 (omega (arith, slim)) (omega (arith, few)) in
    let two : r * n ≤ 8192 * 60000 = mul-le r n 8192 60000 (omega (arith, slim)) (omega (arith, few)) in
    let small : apart < 536870912 = omega (arith, one, two, is) in
    mul-lt apart apart 536870912 536870912 small small

module _ (rising : List ℕ) (rises : IsNonDecreasing rising) (count : ℕ) (p : Parting) (at : p.threshold ≡ get_or rising (count - 1) 0) (cut : IsCut rising count) where
  pub parting_of : p.narrow_count ≡ count → p.narrow_sum ≡ sum (take count rising) → p.wide_count ≡ length rising - count
      → p.wide_sum ≡ sum rising - sum (take count rising) → IsPartingOf rising p
  parting_of narrow narrow_in_all wide wide_in_all =
      let sides = parts rising rises count p.threshold at cut in
      record {
        narrow = narrow ∙ sym sides.narrow;
        narrow_in_all = narrow_in_all ∙ sym sides.narrow_in_all;
        wide = wide ∙ sym sides.wide;
        wide_in_all = omega (arith, wide_in_all, sides.wide_in_all);
      }

  -- a candidate below the next gap is below the threshold or is the threshold
  below_or_at : (P : ℕ → Type 0) → ((u : ℕ) → IsCandidate rising u → u < p.threshold → P u) → P p.threshold → (u : ℕ) → IsCandidate rising u → u < get_or rising count 0 → P u
  below_or_at P below here u is less = ⊎_elim
      (λ under. below u is under)
      (λ least.
      let most = no_gap_between rising rises u count cut.low cut.some is.is_gap less in
      let e : p.threshold ≡ u = omega (arith, least, most, at) in
      subst P e here)
      (cases_lt u p.threshold)

  alone : IsPartingOf rising p → ((u : ℕ) → IsCandidate rising u → u < p.threshold → ⊥) → IsBestUpTo rising (get_or rising count 0) p
  alone is none = record {
    parting = is;
    candidate = cut_candidate rising rises count p.threshold at cut;
    below = omega (arith, at, cut.rises);
    greatest = below_or_at (λ u. SeparatesNoBetter rising u p.threshold) (λ u c less. absurd (none u c less)) (omega arith);
    least = below_or_at (λ u. SeparatesNoBetter rising p.threshold u → p.threshold ≤ u) (λ u c less. absurd (none u c less)) (λ h. omega arith);
  }

  stays : (best : Parting) → IsPartingOf rising p → IsBestUpTo rising p.threshold best → top_of p * bottom_of best ≤ top_of best * bottom_of p → IsBestUpTo rising (get_or rising count 0) best
  stays best is so_far no_better =
      let here : SeparatesNoBetter rising p.threshold best.threshold =
      rw (← top_is rising p is, ← bottom_is rising p is, ← top_is rising best so_far.parting, ← bottom_is rising best so_far.parting) no_better in
      record {
        parting = so_far.parting;
        candidate = so_far.candidate;
        below = omega (arith, so_far.below, at, cut.rises);
        greatest = below_or_at (λ u. SeparatesNoBetter rising u best.threshold) so_far.greatest here;
        least = below_or_at (λ u. SeparatesNoBetter rising best.threshold u → best.threshold ≤ u) so_far.least (λ h. omega (arith, so_far.below));
      }

  wins : (best : Parting) → IsPartingOf rising p → IsBestUpTo rising p.threshold best → top_of best * bottom_of p < top_of p * bottom_of best → IsBestUpTo rising (get_or rising count 0) p
  wins best is so_far better =
      let above : separation_top rising best.threshold * separation_bottom rising p.threshold < separation_top rising p.threshold * separation_bottom rising best.threshold =
      rw (← top_is rising p is, ← bottom_is rising p is, ← top_is rising best so_far.parting, ← bottom_is rising best so_far.parting) better in
      let here : SeparatesNoBetter rising best.threshold p.threshold = omega (arith, above) in
      record {
        parting = is;
        candidate = cut_candidate rising rises count p.threshold at cut;
        below = omega (arith, at, cut.rises);
        greatest = below_or_at (λ u. SeparatesNoBetter rising u p.threshold)
            (λ u c less. no_better_chain rising u best.threshold p.threshold so_far.candidate (so_far.greatest u c less) here) (omega arith);
        least = below_or_at (λ u. SeparatesNoBetter rising p.threshold u → p.threshold ≤ u)
            (λ u c less h. absurd (let back = no_better_chain rising p.threshold u best.threshold c h (so_far.greatest u c less) in omega (arith, back, above)))
            (λ h. omega arith);
      }

  -- one cut more
  pub best_more : (best : Option Parting) (winner : Parting) → IsPartingOf rising p → IsBestBelow rising (get_or rising (count - 1) 0) best → IsBetter best p winner
      → IsBestBelow rising (get_or rising count 0) (Some winner)
  best_more None winner is so_far winner_is =
      subst (λ (w : Parting). IsBestUpTo rising (get_or rising count 0) w) (sym winner_is) (alone is (λ u c less. so_far u c (omega (arith, less, at))))
  best_more (Some best) winner is so_far choice =
      let far : IsBestUpTo rising p.threshold best = subst (λ (n : ℕ). IsBestUpTo rising n best) (sym at) so_far in
      ⊎_elim
      (λ old. subst (λ (w : Parting). IsBestUpTo rising (get_or rising count 0) w) (sym old.0) (stays best is far old.1))
      (λ new. subst (λ (w : Parting). IsBestUpTo rising (get_or rising count 0) w) (sym new.0) (wins best is far new.1))
      choice

pub best_all : (rising : List ℕ) (rises : IsNonDecreasing rising) (limit : ℕ) (best : Option Parting) → limit ≡ get_or rising (length rising - 1) 0 → IsBestBelow rising limit best → IsBestParting rising best
best_all rising rises limit (Some best) at is = (
  is.parting,
  record {
    candidate = is.candidate;
    greatest = λ u c. is.greatest u c (omega (arith, at, candidate_below rising rises u c));
    least = λ u c. is.least u c (omega (arith, at, candidate_below rising rises u c));
  },
)
best_all rising rises limit None at none = λ u c. none u c (omega (arith, at, candidate_below rising rises u c))
