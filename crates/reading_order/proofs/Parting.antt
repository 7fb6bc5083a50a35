-- Whether a line parts two others, from how far to the left the lines between them reach.
use Rattle.std.proofs.Common.{◌≡◌, ℕ, ◌<◌, ◌≤◌, List, length, get_or, map, arith, subst, ◌⊎◌, inl, inr, ⊎_elim, ◌↔◌}
use Rattle.std.proofs.lemmas.Bool.{cases_lt, cases_order}
use Rattle.std.proofs.lemmas.List.{get_or-map, get_or_default}
use Rattle.layout_geom.specs.declared.rect.Rect.{Rect}
use Rattle.reading_order.specs.Rules.{twice_middle_of, IsAbove, IsBesideFree, BesideRule, Precedes}
use Rattle.reading_order.specs.Reach.{IsLineBetween}
use Rattle.reading_order.specs.Sweeps.{level_from_below, IsReachFor, PrecedesBy}

abbrev StandsBetween : Rect → Rect → Rect → Type 0
StandsBetween line first second = (IsAbove first line × IsAbove line second) ⊎ (IsAbove second line × IsAbove line first)

-- The levels rise from the second line to the first.
module _ (lines : List Rect) (level_of : Rect → ℕ) (first second : Rect) (aside : first.x1 ≤ second.x0)
    (to : (line : Rect) → StandsBetween line first second → (level_of second < level_of line) × (level_of line < level_of first))
    (from : (line : Rect) → level_of second < level_of line → level_of line < level_of first → StandsBetween line first second)
    (reach : ℕ) (is : IsReachFor lines level_of second first reach) where
  level_at : (k : ℕ) (d : Rect) → k < length lines → get_or (map level_of lines) k 0 ≡ level_of (get_or lines k d)
  level_at k d low = get_or-map level_of lines k d 0 low

  free_from : first.x1 ≤ reach → IsBesideFree lines first second
  free_from le k d low parts =
      let line = get_or lines k d in
      let level = to line parts.between in
      let at = level_at k d low in
      let between : IsLineBetween lines (map level_of lines) (level_of second) second.x0 (level_of first) k = record {
        low = low;
        behind = omega (arith, level.0, at);
        ahead = omega (arith, level.1, at);
        right = λ e. let P : Rect → Type 0 = λ r. second.x0 < r.x1 in subst P (get_or_default lines k d e low) parts.with_second.right;
      } in
      absurd (omega (arith, is.bound k between d, parts.with_first.left, le))

  reach_from : IsBesideFree lines first second → first.x1 ≤ reach
  reach_from none =
      ⊎_elim
      (λ nothing. omega (arith, nothing, first.sides.right))
      (λ r.
      let k = r.0 in
      let line = get_or lines k first in
      let at = level_at k first r.1.low in
      let left : line.x0 ≡ reach = r.2 first in
      ⊎_elim
      (λ short.
      let right = r.1.right first in
      absurd (none k first r.1.low (record {
        between = from line (omega (arith, at, r.1.behind)) (omega (arith, at, r.1.ahead));
        with_first = record { left = omega (arith, left, short); right = omega (arith, right, aside, first.sides.wide) };
        with_second = record { left = omega (arith, left, short, aside, second.sides.wide); right = right };
      })))
      (λ far. far)
      (cases_lt reach first.x1))
      is.some

-- Lines at one level are parted by none.
level_free : (lines : List Rect) (first second : Rect) → twice_middle_of first ≡ twice_middle_of second → IsBesideFree lines first second
level_free lines first second same k d low parts =
    ⊎_elim (λ h. absurd (omega (arith, h.0, h.1, same))) (λ h. absurd (omega (arith, h.0, h.1, same))) parts.between

module _ (lines : List Rect) (first second : Rect) (reach : ℕ)
    (down : twice_middle_of second < twice_middle_of first → IsReachFor lines twice_middle_of second first reach)
    (up : level_from_below second < level_from_below first → IsReachFor lines level_from_below second first reach) where
  top_of : (r : Rect) → twice_middle_of r ≤ 16384
  top_of r = omega (arith, r.sides.bottom, r.sides.high)

  down_to : twice_middle_of second < twice_middle_of first → (line : Rect) → StandsBetween line first second → (twice_middle_of second < twice_middle_of line) × (twice_middle_of line < twice_middle_of first)
  down_to less line h = ⊎_elim (λ a. absurd (omega (arith, a.0, a.1, less))) (λ a. (a.0, a.1)) h

  up_to : twice_middle_of first < twice_middle_of second → (line : Rect) → StandsBetween line first second → (level_from_below second < level_from_below line) × (level_from_below line < level_from_below first)
  up_to less line h = ⊎_elim (λ a. (omega (arith, a.1, top_of second), omega (arith, a.0, top_of line))) (λ a. absurd (omega (arith, a.0, a.1, less))) h

  up_from : (line : Rect) → level_from_below second < level_from_below line → level_from_below line < level_from_below first → StandsBetween line first second
  up_from line a b = inl (omega (arith, a, b, top_of line, top_of first), omega (arith, a, b, top_of line, top_of second))

  higher : twice_middle_of first < twice_middle_of second → level_from_below second < level_from_below first
  higher less = omega (arith, less, top_of second)

  beside_to : first.x1 ≤ second.x0 → (twice_middle_of first ≡ twice_middle_of second) ⊎ (first.x1 ≤ reach) → BesideRule lines first second
  beside_to aside h = record {
    left = aside;
    free = ⊎_elim
        (λ same. level_free lines first second same)
        (λ le. ⊎_elim
        (λ same. level_free lines first second same)
        (λ other. ⊎_elim
        (λ less. free_from lines level_from_below first second aside (up_to less) up_from reach (up (higher less)) le)
        (λ less. free_from lines twice_middle_of first second aside (down_to less) (λ line a b. inr (a, b)) reach (down less) le)
        other)
        (cases_order (twice_middle_of first) (twice_middle_of second)))
        h;
  }

  beside_from : BesideRule lines first second → (first.x1 ≤ second.x0) × ((twice_middle_of first ≡ twice_middle_of second) ⊎ (first.x1 ≤ reach))
  beside_from beside = (
    beside.left,
    ⊎_elim
        (λ same. inl same)
        (λ other. inr (⊎_elim
        (λ less. reach_from lines level_from_below first second beside.left (up_to less) up_from reach (up (higher less)) beside.free)
        (λ less. reach_from lines twice_middle_of first second beside.left (down_to less) (λ line a b. inr (a, b)) reach (down less) beside.free)
        other))
        (cases_order (twice_middle_of first) (twice_middle_of second)),
  )

  pub precedes_by : PrecedesBy first second reach ↔ Precedes lines first second
  precedes_by = (
    λ h. ⊎_elim (λ over. inl over) (λ beside. inr (beside_to beside.0 beside.1)) h,
    λ h. ⊎_elim (λ over. inl over) (λ beside. inr (beside_from beside)) h,
  )
