use Rattle.std.proofs.Common.{◌≡◌, ◌+◌, ◌<◌, ℕ, ℤ, Bool, true, false, ◌&&◌, leb, cond, List, length, get_or, take, to_z, of_z, w8, w16, arith, ap, ◌∙◌, sym, refl}
use Rattle.std.specs.List.{count_by}
use Rattle.std.proofs.lemmas.Int.{to_z-of_z}
use Rattle.std.proofs.lemmas.List.{take_all}
use Rattle.std.proofs.lemmas.List.Sums.{count_by_more_yes, count_by_more_no}
use Rattle.layout_geom.specs.declared.rect.Rect.{Rect}
use Rattle.line_quality.specs.Points.{is_crossed, middle_of}
use Rattle.line_counts.specs.Fits.{segment_of, column_of_segment}
use Rattle.line_counts.proofs.Counting.{zero_at}
use Rattle.line_counts.proofs.fit.columns.Goals as goal
use Rattle.line_counts.proofs.fit.columns.Goals.{then-crosses, else-crosses}

-- a crossed gutter that counts for a segment
abbrev cut : ℤ → ℤ → List Rect → ℕ → Rect → Bool
cut slope offset gutters segment gutter = is_crossed slope offset gutter && leb (segment_of gutters (middle_of gutter)) segment

-- one gutter more
one_more : (slope offset : ℤ) (gutters : List Rect) (segment i : ℕ) (d : Rect) (b : Bool) → i < length gutters → cut slope offset gutters segment (get_or gutters i d) ≡ b
    → count_by (cut slope offset gutters segment) (take (i + 1) gutters) ≡ count_by (cut slope offset gutters segment) (take i gutters) + cond b 1 0
one_more slope offset gutters segment i d true within is = count_by_more_yes (cut slope offset gutters segment) gutters i d within is
one_more slope offset gutters segment i d false within is = count_by_more_no (cut slope offset gutters segment) gutters i d within is ∙ no_more (count_by (cut slope offset gutters segment) (take i gutters))
  where
    no_more : (n : ℕ) → n ≡ n + 0
    no_more n = omega arith

pub loop-gutter-init : goal.loop-gutter-init
loop-gutter-init c = record {
  order = omega arith;
  long = refl;
  value = λ s less. zero_at 73 s;
  few = λ s. omega (arith, zero_at 73 s);
}

pub loop-gutter-preserved : goal.loop-gutter-preserved
loop-gutter-preserved c =
    let slope : ℤ = to_z w8 (of_z w8 c.args.slope) in
    let offset : ℤ = to_z w16 (of_z w16 c.args.offset) in
    let gutters : List Rect = c.args.gutters.now in
    let i = c.loop-gutter.gutter-index in
    let g : Rect = c.gutter-item.result in
    let columns : List ℕ = c.loop-gutter.columns in
    let same : c.as_slice-gutter-items.result.now ≡ gutters = c.as_slice-gutter-items.ensures.same in
    let within : i < length gutters = omega (arith, c.loop-gutter-test.true, ap (λ (gs : List Rect). length gs) same) in
    let item : g ≡ get_or gutters i g = c.gutter-item.is ∙ ap (λ (gs : List Rect). get_or gs i g) same in
    elim c.if-crosses.branch [
      | then-crosses w ↦
          let crossed : is_crossed slope offset g ≡ true = sym c.crosses.ensures.value ∙ w.if-crosses.true in
          let begun : segment_of gutters (middle_of g) ≡ w.segment.result = ap (segment_of gutters) (sym w.middle.ensures.value) ∙ sym w.segment.ensures.value in
          let test : (s : ℕ) → cut slope offset gutters s (get_or gutters i g) ≡ leb w.segment.result s = λ s.
          ap (cut slope offset gutters s) (sym item) ∙ ap (λ (b : Bool). b && leb (segment_of gutters (middle_of g)) s) crossed ∙ ap (λ (n : ℕ). leb n s) begun in
          record {
            order = omega (arith, c.loop-gutter-test.true);
            long = ap (λ (xs : List ℕ). length xs) w.columns-is ∙ w.begin_column.ensures.long;
            value = λ s less. ap (λ (xs : List ℕ). get_or xs s 0) w.columns-is
                ∙ w.begin_column.ensures.value s less
                ∙ ap (λ (n : ℕ). n + cond (leb w.segment.result s) 1 0) (ap (λ (xs : List ℕ). get_or xs s 0) w.as_mut_slice.ensures.value ∙ c.loop-gutter.invariant.value s less)
                ∙ sym (one_more slope offset gutters s i g (leb w.segment.result s) within (test s));
            few = λ s. omega (arith, ap (λ (xs : List ℕ). get_or xs s 0) w.columns-is, w.begin_column.ensures.small s, ap (λ (xs : List ℕ). get_or xs s 0) w.as_mut_slice.ensures.value, c.loop-gutter.invariant.few s);
          }
      | else-crosses w ↦
          let kept : is_crossed slope offset g ≡ false = sym c.crosses.ensures.value ∙ w.if-crosses.false in
          let test : (s : ℕ) → cut slope offset gutters s (get_or gutters i g) ≡ false = λ s.
          ap (cut slope offset gutters s) (sym item) ∙ ap (λ (b : Bool). b && leb (segment_of gutters (middle_of g)) s) kept in
          record {
            order = omega (arith, c.loop-gutter-test.true);
            long = ap (λ (xs : List ℕ). length xs) w.columns-is ∙ c.loop-gutter.invariant.long;
            value = λ s less. ap (λ (xs : List ℕ). get_or xs s 0) w.columns-is
                ∙ c.loop-gutter.invariant.value s less
                ∙ sym (count_by_more_no (cut slope offset gutters s) gutters i g within (test s));
            few = λ s. omega (arith, ap (λ (xs : List ℕ). get_or xs s 0) w.columns-is, c.loop-gutter.invariant.few s);
          }
    ]

pub returns-clause-value : goal.returns-clause-value
returns-clause-value c =
    let slope : ℤ = to_z w8 (of_z w8 c.args.slope) in
    let offset : ℤ = to_z w16 (of_z w16 c.args.offset) in
    let gutters : List Rect = c.args.gutters.now in
    λ s less.
    c.loop-gutter.invariant.value s less
    ∙ ap (λ (gs : List Rect). count_by (cut slope offset gutters s) gs)
    (take_all c.loop-gutter.gutter-index gutters (omega (arith, c.loop-gutter-test.false, ap (λ (gs : List Rect). length gs) c.as_slice-gutter-items.ensures.same)))
    ∙ ap (λ (r : ℤ). column_of_segment r offset gutters s) (to_z-of_z w8 c.args.slope c.ranges.slope)
    ∙ ap (λ (o : ℤ). column_of_segment c.args.slope o gutters s) (to_z-of_z w16 c.args.offset c.ranges.offset)
