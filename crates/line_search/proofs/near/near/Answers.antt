use Rattle.std.proofs.Common.{arith, ◌≡◌, ◌<◌, ◌≤◌, ◌+◌, ◌∙◌, ℕ, List, Some, Bool, ltb, take, length, get_or, slice_get, refl, sym, ap, subst}
use Rattle.std.specs.List.{count_by}
use Rattle.std.specs.Prelude.{nat_le}
use Rattle.std.proofs.lemmas.List.{take_all}
use Rattle.std.proofs.lemmas.List.Elements.{All-get_or}
use Rattle.std.proofs.lemmas.Option.{slice_get_read}
use Rattle.layout_geom.specs.declared.rect.Rect.{Rect}
use Rattle.box_search.specs.declared.space.Shape.{Shape}
use Rattle.line_quality.specs.Points.{middle_of}
use Rattle.line_quality.specs.ColumnLaws.{column_by_middles}
use Rattle.line_quality.specs.SumLaws.{AreSums, no_sums, sums_more, sums_same, greatest_sum}
use Rattle.line_search.specs.Bounds.{sure_column, most_weight, all_cross, most_in_column}
use Rattle.line_search.proofs.Sums.{column_grows, column_stays, weighs_nothing}
use Rattle.line_search.proofs.Stretches.{passing_none, passing_more, passing_skip, passing_all}
use Rattle.line_search.proofs.near.near.Goals as goal
use Rattle.line_search.proofs.near.near.Goals.{then-weight-gt0, else-weight-gt0}

pub loop-place-init : goal.loop-place-init
loop-place-init c = record {
  sums = no_sums _ _ (λ _. refl);
  passing = passing_none (λ position. ltb 0 (most_weight c.args.shape.now (slice_get c.args.boxes.now position))) c.args.positions.now;
}

pub loop-place-preserved : goal.loop-place-preserved
loop-place-preserved c =
    let shape : Shape = c.args.shape.now in
    let boxes : List Rect = c.args.boxes.now in
    let gutters : List Rect = c.args.gutters.now in
    let positions : List ℕ = c.args.positions.now in
    let i = c.loop-place.place in
    let last = length c.in_ok-middles.middles.items in
    let rect : Rect = c.get-rect.result.now in
    let p : ℕ → Bool = λ q. ltb 0 (most_weight shape (slice_get boxes q)) in
    let within : i < length positions = c.loop-place-test.true in
    let there : get_or positions i 0 < length boxes = All-get_or (λ (q : ℕ). q < length boxes) positions i 0 within c.requires.within in
    let read : slice_get boxes (get_or positions i 0) ≡ Some rect = slice_get_read boxes (length boxes) (get_or positions i 0) rect refl there c.get-rect.ensures.item in
    let weight : c.most_weight-weight.result ≡ most_weight shape (Some rect) = c.most_weight-weight.ensures.value in
    let reaches : most_weight shape (slice_get boxes (get_or positions i 0)) ≡ c.most_weight-weight.result = ap (most_weight shape) read ∙ sym weight in
    let total : ℕ → ℕ → ℕ = λ n. most_in_column shape boxes gutters (take n positions) in
    elim c.if-weight-gt0.branch [
      | then-weight-gt0 w ↦
          let column_is : w.column_among.result ≡ sure_column shape gutters (middle_of rect) =
          w.column_among.ensures.value
          ∙ ap (λ (middles : List ℕ). count_by (λ middle. nat_le middle w.middle.result) middles) (w.deref.ensures.value ∙ c.in_ok-middles.ensures.value)
          ∙ column_by_middles (all_cross shape) c.as_slice.result.now w.middle.result
          ∙ ap (λ (gs : List Rect). sure_column shape gs w.middle.result) c.as_slice.ensures.same
          ∙ ap (sure_column shape gutters) w.middle.ensures.value in
          let few : w.column_among.result ≤ last = omega (arith, w.column_among.ensures.few, ap (λ (l : List ℕ). length l) w.deref.ensures.value) in
          record {
            sums = subst (AreSums (total (i + 1)) (i + 1) last) (sym w.sums-is)
                (sums_more (total i) (total (i + 1)) i last w.column_among.result c.most_weight-weight.result c.loop-place.sums c.loop-place.invariant.sums few (omega (arith, c.in_ok-middles.ensures.few, ap (λ (l : List Rect). length l) c.as_slice.ensures.same, c.requires.few_gutters)) c.most_weight-weight.ensures.small
                (column_grows shape boxes gutters positions i rect within read w.column_among.result c.most_weight-weight.result column_is weight));
            passing = rw w.span-is (passing_more p positions i c.loop-place.span.from c.loop-place.span.to w.grown-span.result.from w.grown-span.result.to c.loop-place.invariant.passing within w.grown-span.ensures.first w.grown-span.ensures.same w.grown-span.ensures.end);
          }
      | else-weight-gt0 w ↦ record {
        sums = subst (AreSums (total (i + 1)) (i + 1) last) (sym w.sums-is)
            (sums_same (total i) (total (i + 1)) i last c.loop-place.sums c.loop-place.invariant.sums (column_stays shape boxes gutters positions i rect within read c.most_weight-weight.result weight w.if-weight-gt0.false));
        passing = rw w.span-is (passing_skip p positions i c.loop-place.span.from c.loop-place.span.to c.loop-place.invariant.passing (rw reaches (weighs_nothing c.most_weight-weight.result w.if-weight-gt0.false)));
      }
    ]

pub returns-clause-weighing : goal.returns-clause-weighing
returns-clause-weighing c =
    passing_all (λ position. ltb 0 (most_weight c.args.shape.now (slice_get c.args.boxes.now position))) c.args.positions.now c.loop-place.place c.loop-place.span.from c.loop-place.span.to c.loop-place.invariant.passing c.loop-place-test.false

pub returns-clause-most : goal.returns-clause-most
returns-clause-most c =
    let positions : List ℕ = c.args.positions.now in
    let total : List ℕ → ℕ → ℕ = most_in_column c.args.shape.now c.args.boxes.now c.args.gutters.now in
    let many : c.len.result ≡ length c.in_ok-middles.middles.items = omega (arith, c.len.ensures) in
    greatest_sum _ (total positions) c.loop-place.place (length c.in_ok-middles.middles.items) c.greatest-score.result.score c.greatest-score.result.column c.loop-place.sums c.loop-place.invariant.sums
    (λ column. ap (λ (xs : List ℕ). total xs column) (take_all c.loop-place.place positions c.loop-place-test.false))
    (rw many at c.greatest-score.ensures.within) (rw many at c.greatest-score.ensures.reached) (rw many at c.greatest-score.ensures.greatest) (rw many at c.greatest-score.ensures.least)
