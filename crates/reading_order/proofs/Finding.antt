-- The reaches of a row, from those of the two directions.
use Rattle.std.proofs.Common.{◌≡◌, ℕ, ◌<◌, List, length, get_or, map, arith, sym, subst}
use Rattle.std.proofs.lemmas.List.{get_or-map}
use Rattle.layout_geom.specs.declared.rect.Rect.{Rect}
use Rattle.reading_order.specs.Rules.{twice_middle_of, Precedes, IsBefore}
use Rattle.reading_order.specs.Reach.{IsReach, AreReaches}
use Rattle.reading_order.specs.Sweeps.{level_from_below, IsReachFor, AreRowReaches, PrecedesBy}
use Rattle.reading_order.proofs.Parting.{precedes_by}

module _ (lines : List Rect) (later : ℕ) (later_low : later < length lines) (edge : ℕ) (edge_is : (d : Rect) → edge ≡ (get_or lines later d).x0) where
  -- the reaches of one direction
  one_way : (level_of : Rect → ℕ) (old new : List ℕ) → AreReaches lines (map level_of lines) (get_or (map level_of lines) later 0) edge old new → (b : ℕ) (d : Rect) → b < length lines
      → level_of (get_or lines later d) < level_of (get_or lines b d) → IsReachFor lines level_of (get_or lines later d) (get_or lines b d) (get_or new b 0)
  one_way level_of old new are b d low less =
      let levels = map level_of lines in
      let first = get_or lines later d in
      let second = get_or lines b d in
      let at_row : get_or levels later 0 ≡ level_of first = get_or-map level_of lines later d 0 later_low in
      let at_b : get_or levels b 0 ≡ level_of second = get_or-map level_of lines b d 0 low in
      let r = get_or new b 0 in
      let P : ℕ → Type 0 = λ z. IsReach lines levels z first.x0 (level_of second) r in
      let Q : ℕ → Type 0 = λ z. IsReach lines levels (get_or levels later 0) z (level_of second) r in
      let R : ℕ → Type 0 = λ z. IsReach lines levels (get_or levels later 0) edge z r in
      subst P at_row (subst Q (edge_is d) (subst R at_b (are.reached b low (omega (arith, at_row, at_b, less)))))

  pub row_reaches : (old between new : List ℕ) → AreReaches lines (map twice_middle_of lines) (get_or (map twice_middle_of lines) later 0) edge old between → AreReaches lines (map level_from_below lines) (get_or (map level_from_below lines) later 0) edge between new → AreRowReaches lines later new
  row_reaches old between new down up b d low = (
    λ less.
        let at_row : get_or (map level_from_below lines) later 0 ≡ level_from_below (get_or lines later d) = get_or-map level_from_below lines later d 0 later_low in
        let at_b : get_or (map level_from_below lines) b 0 ≡ level_from_below (get_or lines b d) = get_or-map level_from_below lines b d 0 low in
        let kept : get_or new b 0 ≡ get_or between b 0 = up.others b (omega (arith, at_row, at_b, less)) in
        let P : ℕ → Type 0 = λ z. IsReachFor lines twice_middle_of (get_or lines later d) (get_or lines b d) z in
        subst P (sym kept) (one_way twice_middle_of old between down b d low less),
    λ less. one_way level_from_below between new up b d low less,
  )

-- The answer for two lines that were read.
pub before_by : (lines : List Rect) (earlier later : ℕ) (first second : Rect) (reaches : List ℕ) → earlier < length lines → later < length lines → ((d : Rect) → first ≡ get_or lines earlier d) → ((d : Rect) → second ≡ get_or lines later d) → AreRowReaches lines later reaches
    → (PrecedesBy first second (get_or reaches earlier 0) → IsBefore lines earlier later) × (IsBefore lines earlier later → PrecedesBy first second (get_or reaches earlier 0))
before_by lines earlier later first second reaches earlier_low later_low first_is second_is are =
    let reach = get_or reaches earlier 0 in
    let at = are earlier first earlier_low in
    let P : Rect → Type 0 = λ r. (twice_middle_of r < twice_middle_of (get_or lines earlier first) → IsReachFor lines twice_middle_of r (get_or lines earlier first) reach) × (level_from_below r < level_from_below (get_or lines earlier first) → IsReachFor lines level_from_below r (get_or lines earlier first) reach) in
    let Q : Rect → Type 0 = λ r. (twice_middle_of second < twice_middle_of r → IsReachFor lines twice_middle_of second r reach) × (level_from_below second < level_from_below r → IsReachFor lines level_from_below second r reach) in
    let both = subst Q (sym (first_is first)) (subst P (sym (second_is first)) at) in
    let same = precedes_by lines first second reach both.0 both.1 in (
      λ h d.
          let R : Rect → Type 0 = λ r. Precedes lines r (get_or lines later d) in
          let S : Rect → Type 0 = λ r. Precedes lines first r in
          subst R (first_is d) (subst S (second_is d) (same.0 h)),
      λ h.
          let R : Rect → Type 0 = λ r. Precedes lines r (get_or lines later first) in
          let S : Rect → Type 0 = λ r. Precedes lines first r in
          same.1 (subst S (sym (second_is first)) (subst R (sym (first_is first)) (h first))),
    )
