-- Why no line scores more than what the counts of some part weigh for it.
use Rattle.std.proofs.Common.{◌≡◌, ℕ, zero, suc, ◌+◌, ◌*◌, ◌<◌, ◌≤◌, ℤ, pos, negsuc, ◌+ℤ◌, ◌≤ℤ◌, List, length, get_or, arith, refl, sym, ap}
use Rattle.std.proofs.lemmas.Int.{ints}
use Rattle.line_quality.specs.KeyLaws.{abs_parts}
use Rattle.line_quality.specs.Points.{IsSlope}
use Rattle.line_quality.specs.Scores.{IsScore}
use Rattle.line_counts.specs.Fits.{column_of_segment, count_of, first_place, segment_weight, weight_behind}
use Rattle.line_counts.specs.Tops.{sum_to, of_column, weighed, count_behind, HasColumn}
use Rattle.line_counts.specs.declared.stretch.Stretch.{Stretch}
use Rattle.line_counts.specs.Table.{LivingPage}
use Rattle.line_counts.proofs.Segments.{column_weight, column_none, column_more, column_all}
use Rattle.line_counts.proofs.Summing.{to_next, of_next, of_times, of_zero, of_same, times_low}
use Rattle.line_counts.proofs.Weighing.{weight_before, weight_none, weight_all, weight_next}

next : (n : ℕ) → suc n ≡ n + 1
next n = omega arith

module _ (page : LivingPage) (slope offset : ℤ) (depth k : ℕ) where
  abbrev col : ℕ → ℕ
  col s = column_of_segment slope offset page.gutters s

  -- a column weighs what its segments do
  column_is : (n : ℕ) → column_weight page.boxes page.gutters slope offset depth n k page.alive
      ≡ of_column (λ s. column_of_segment slope offset page.gutters s) (λ s. segment_weight page.boxes page.gutters slope offset depth s page.alive) k n
  column_is zero = column_none page.boxes page.gutters slope offset depth k page.alive
  column_is (suc n) =
      omega (
        arith,
        column_is n,
        ap (λ (m : ℕ). column_weight page.boxes page.gutters slope offset depth m k page.alive) (next n),
        column_more page.boxes page.gutters slope offset depth n k page.alive,
        of_next (λ s. column_of_segment slope offset page.gutters s) (λ s. segment_weight page.boxes page.gutters slope offset depth s page.alive) k n,
        ap (of_column (λ s. column_of_segment slope offset page.gutters s) (λ s. segment_weight page.boxes page.gutters slope offset depth s page.alive) k) (next n),
      )

  module _ (in_slopes : IsSlope slope) (above : negsuc 299 ≤ℤ offset) (more n : ℕ) (counts : List ℕ) where
    abbrev amount : ℕ → ℕ → ℕ
    amount behind s = count_of page.boxes page.gutters slope s (first_place offset + behind) page.alive

    abbrev so_far : ℕ → ℕ → ℕ
    so_far m s = weight_before page.boxes page.gutters slope offset depth s (first_place offset + m) page.alive

    -- place by place the counts weigh no less than the column
    weighs_less : (m : ℕ) → ((behind : ℕ) → behind < m → of_column (λ s. column_of_segment slope offset page.gutters s) (λ s. count_of page.boxes page.gutters slope s (first_place offset + behind) page.alive) k n ≤ get_or counts (more + behind) 0)
        → of_column (λ s. column_of_segment slope offset page.gutters s) (λ s. weight_before page.boxes page.gutters slope offset depth s (first_place offset + m) page.alive) k n
        ≤ sum_to (λ behind. get_or counts (more + behind) 0 * weight_behind depth behind) m
    weighs_less zero enough =
        omega (
          arith,
          of_zero (λ s. column_of_segment slope offset page.gutters s) (λ s. weight_before page.boxes page.gutters slope offset depth s (first_place offset + 0) page.alive) k n
              (λ s. weight_none page.boxes page.gutters slope offset depth s in_slopes above (first_place offset + 0) page.alive (omega arith)),
        )
    weighs_less (suc m) enough =
        let cols : ℕ → ℕ = λ s. column_of_segment slope offset page.gutters s in
        let before : ℕ → ℕ = λ s. weight_before page.boxes page.gutters slope offset depth s (first_place offset + m) page.alive in
        let here : ℕ → ℕ = λ s. count_of page.boxes page.gutters slope s (first_place offset + m) page.alive in
        let behind : ℕ → ℕ = λ s. weight_before page.boxes page.gutters slope offset depth s (first_place offset + (m + 1)) page.alive in
        let w : ℕ = weight_behind depth m in
        let weighs : ℕ → ℕ = λ b. get_or counts (more + b) 0 * weight_behind depth b in
        omega (
          arith,
          ap (λ (j : ℕ). of_column cols (λ s. weight_before page.boxes page.gutters slope offset depth s (first_place offset + j) page.alive) k n) (next m),
          ap (sum_to weighs) (next m),
          to_next weighs m,
          of_times cols before here behind w k n
              (λ s. sym (weight_next page.boxes page.gutters slope offset depth s in_slopes above m (before s) (here s) w page.alive refl refl refl)),
          times_low (of_column cols here k n) (get_or counts (more + m) 0) w (enough m (omega arith)),
          weighs_less m (λ b less. enough b (omega (arith, less))),
        )

    -- so the whole column does
    pub column_low : ((behind : ℕ) → behind < 2 * 4 + depth + 1 → of_column (λ s. column_of_segment slope offset page.gutters s) (λ s. count_of page.boxes page.gutters slope s (first_place offset + behind) page.alive) k n ≤ get_or counts (more + behind) 0)
        → column_weight page.boxes page.gutters slope offset depth n k page.alive ≤ weighed counts more depth
    column_low enough =
        omega (
          arith,
          column_is n,
          of_same (λ s. column_of_segment slope offset page.gutters s) (λ s. weight_before page.boxes page.gutters slope offset depth s (first_place offset + (2 * 4 + depth + 1)) page.alive)
              (λ s. segment_weight page.boxes page.gutters slope offset depth s page.alive) k n
              (λ s. weight_all page.boxes page.gutters slope offset depth s in_slopes above (first_place offset + (2 * 4 + depth + 1)) page.alive (omega arith)),
          weighs_less (2 * 4 + depth + 1) enough,
        )

first_behind : (from : ℤ) (more behind : ℕ) → negsuc 299 ≤ℤ from → first_place (from +ℤ pos more) + behind ≡ first_place from + (more + behind)
first_behind from more behind low = omega (arith, ints, abs_parts (from +ℤ pos 300), abs_parts ((from +ℤ pos more) +ℤ pos 300))

above_more : (from : ℤ) (more : ℕ) → negsuc 299 ≤ℤ from → negsuc 299 ≤ℤ (from +ℤ pos more)
above_more from more low = omega (arith, ints)

-- a line scores no more than the counts weigh that have no less than its column
pub score_low : (page : LivingPage) (stretch : Stretch) (more depth score k : ℕ) (counts : List ℕ) → IsSlope stretch.slope → negsuc 299 ≤ℤ stretch.from → more < stretch.offsets → depth ≤ stretch.deepest
    → HasColumn page stretch more k counts → IsScore stretch.slope (stretch.from +ℤ pos more) depth page.boxes page.gutters page.alive score k
    → score ≤ weighed counts more depth
score_low page stretch more depth score k counts in_slopes low less deep has scored =
    let offset : ℤ = stretch.from +ℤ pos more in
    let cols : ℕ → ℕ = λ s. column_of_segment stretch.slope offset page.gutters s in
    omega (
      arith,
      scored.reached,
      column_all page.boxes page.gutters stretch.slope offset depth k page.alive,
      column_low page stretch.slope offset depth k in_slopes (above_more stretch.from more low) more (length page.gutters + 1) counts
          (λ behind near.
          let there : (s : ℕ) → count_of page.boxes page.gutters stretch.slope s (first_place offset + behind) page.alive ≡ count_behind page stretch (more + behind) s =
          λ s. ap (λ (p : ℕ). count_of page.boxes page.gutters stretch.slope s p page.alive) (first_behind stretch.from more behind low) in
          omega (
            arith,
            of_same cols (λ s. count_of page.boxes page.gutters stretch.slope s (first_place offset + behind) page.alive) (λ s. count_behind page stretch (more + behind) s) k (length page.gutters + 1) there,
            has (more + behind) (omega (arith, less, deep, near)),
          )),
    )
