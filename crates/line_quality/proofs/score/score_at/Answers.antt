use Rattle.std.proofs.Common.{arith, ◌≡◌, ◌≤◌, ◌+◌, ℤ, ℕ, ◌<◌, List, length, get_or, nat_le, take, ap, ◌∙◌, refl, subst, sym, Some, slice_get, to_z, of_z, w8, w16}
use Rattle.std.specs.List.{count_by}
use Rattle.std.proofs.lemmas.Int.{to_z-of_z}
use Rattle.std.proofs.lemmas.List.{take_all}
use Rattle.std.proofs.lemmas.List.Elements.{All-get_or}
use Rattle.std.proofs.lemmas.Option.{slice_get_read}
use Rattle.layout_geom.specs.declared.Rect.{Rect}
use Rattle.line_quality.specs.Points.{column_of, is_crossed, middle_of}
use Rattle.line_quality.specs.Scores.{group_weight}
use Rattle.line_quality.specs.ColumnLaws.{column_by_middles}
use Rattle.line_quality.specs.SumLaws.{AreSums, no_sums, sums_more, sums_same, greatest_sum}
use Rattle.line_quality.specs.ScoreLaws.{score_total}
use Rattle.line_quality.proofs.Sums.{group_grows, group_stays}
use Rattle.line_quality.proofs.score.score_at.Goals as goal
use Rattle.line_quality.proofs.score.score_at.Goals.{then-weight-gt0, else-weight-gt0}

pub loop-position-init : goal.loop-position-init
loop-position-init c = no_sums _ _ (λ _. refl)

pub loop-position-preserved : goal.loop-position-preserved
loop-position-preserved c =
    let slope : ℤ = to_z w8 (of_z w8 c.args.slope) in
    let offset : ℤ = to_z w16 (of_z w16 c.args.offset) in
    let boxes : List Rect = c.args.boxes.now in
    let gutters : List Rect = c.args.gutters.now in
    let alive : List ℕ = c.args.alive.now in
    let i = c.loop-position.position-index in
    let last = length c.crossed-middles.result in
    let rect : Rect = c.get-rect.result.now in
    let same = c.as_slice-position-items.ensures.same in
    let within : i < length alive = omega (arith, c.loop-position-test.true, ap (λ (l : List ℕ). length l) same) in
    let there : get_or alive i 0 < length boxes = All-get_or (λ (p : ℕ). p < length boxes) alive i 0 within c.requires.positions in
    let is : rect ≡ get_or boxes (get_or alive i 0) rect = c.get-rect.ensures.item ∙ ap (λ (l : List ℕ). get_or boxes (get_or l i 0) rect) same in
    let read : slice_get boxes (get_or alive i 0) ≡ Some rect = slice_get_read boxes (length boxes) (get_or alive i 0) rect refl there is in
    let total : ℕ → ℕ → ℕ = λ n column. group_weight slope offset c.args.depth boxes gutters column (take n alive) in
    elim c.if-weight-gt0.branch [
      | then-weight-gt0 w ↦
          let column_is : w.column.result ≡ column_of slope offset gutters (middle_of rect) =
          w.column.ensures.value
          ∙ ap (λ (middles : List ℕ). count_by (λ middle. nat_le middle w.middle.result) middles) c.crossed-middles.ensures.value
          ∙ column_by_middles (is_crossed slope offset) c.as_slice.result.now w.middle.result
          ∙ ap (λ (gs : List Rect). column_of slope offset gs w.middle.result) c.as_slice.ensures.same
          ∙ ap (column_of slope offset gutters) w.middle.ensures.value in
          subst (AreSums (total (i + 1)) (i + 1) last) (sym w.sums-is)
          (sums_more (total i) (total (i + 1)) i last w.column.result c.weight-weight.result c.loop-position.sums c.loop-position.invariant w.column.ensures.few (omega (arith, c.crossed-middles.ensures.few, ap (λ (l : List Rect). length l) c.as_slice.ensures.same, c.requires.few_gutters)) c.weight-weight.ensures.small
          (group_grows slope offset c.args.depth boxes gutters alive i rect within read w.column.result c.weight-weight.result column_is c.weight-weight.ensures.value w.if-weight-gt0.true))
      | else-weight-gt0 w ↦
          subst (AreSums (total (i + 1)) (i + 1) last) (sym w.sums-is)
          (sums_same (total i) (total (i + 1)) i last c.loop-position.sums c.loop-position.invariant
          (group_stays slope offset c.args.depth boxes gutters alive i rect within read c.weight-weight.result c.weight-weight.ensures.value w.if-weight-gt0.false))
    ]

pub returns-clause-score : goal.returns-clause-score
returns-clause-score c =
    let boxes : List Rect = c.args.boxes.now in
    let gutters : List Rect = c.args.gutters.now in
    let alive : List ℕ = c.args.alive.now in
    let n = c.loop-position.position-index in
    let total : ℤ → ℤ → List ℕ → ℕ → ℕ = λ slope offset xs column. group_weight slope offset c.args.depth boxes gutters column xs in
    let long : length alive ≤ n = omega (arith, c.loop-position-test.false, ap (λ (l : List ℕ). length l) c.as_slice-position-items.ensures.same) in
    let whole : (column : ℕ) → total (to_z w8 (of_z w8 c.args.slope)) (to_z w16 (of_z w16 c.args.offset)) (take n alive) column ≡ total c.args.slope c.args.offset alive column =
    λ column. rw (take_all n alive long, to_z-of_z w8 c.args.slope c.ranges.slope, to_z-of_z w16 c.args.offset c.ranges.offset) refl in
    greatest_sum _ (total c.args.slope c.args.offset alive) n (length c.crossed-middles.result) c.greatest.result.score c.greatest.result.column c.loop-position.sums c.loop-position.invariant whole
    (rw c.len.ensures.value at c.greatest.ensures.within) (rw c.len.ensures.value at c.greatest.ensures.reached) (rw c.len.ensures.value at c.greatest.ensures.greatest) (rw c.len.ensures.value at c.greatest.ensures.least)

pub returns-clause-total : goal.returns-clause-total
returns-clause-total c =
    score_total c.args.slope c.args.offset c.args.depth c.args.boxes.now c.args.gutters.now c.args.alive.now c.greatest.result.score c.greatest.result.column (returns-clause-score c)
