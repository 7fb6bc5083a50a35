use Rattle.std.proofs.Common.{◌≡◌, ◌<◌, ℕ, List, Bool, true, false, length, get_or, get_or-set_other, arith, ap, ◌∙◌, sym, refl, subst, ⊎_elim}
use Rattle.std.proofs.Math.ListN.{replicate, length-set}
use Rattle.std.proofs.lemmas.List.{get_or-replicate, get_or_past}
use Rattle.std.proofs.lemmas.Bool.{cases_eq, cases_lt, false≢true}
use Rattle.layout_geom.specs.declared.rect.Rect.{Rect}
use Rattle.line_quality.specs.Points.{Crosses, middle_of}
use Rattle.line_counts.specs.Fits.{segment_of}
use Rattle.line_counts.proofs.Bounding.{columns_differ, is_cut}
use Rattle.line_counts.proofs.parts.cuts.Goals as goal
use Rattle.line_counts.proofs.parts.cuts.Goals.{then-crosses_all, else-crosses_all}

no_cut : (s : ℕ) → get_or {A = Bool} (replicate {A = Bool} 73 false) s false ≡ false
no_cut s = ⊎_elim
    (λ less. get_or-replicate 73 s false false less)
    (λ more. get_or_past (replicate {A = Bool} 73 false) s false more)
    (cases_lt s 73)

pub loop-gutter-init : goal.loop-gutter-init
loop-gutter-init c = record {
  order = omega arith;
  long = refl;
  cut = λ s is. absurd (false≢true (sym (no_cut s) ∙ is));
}

pub loop-gutter-preserved : goal.loop-gutter-preserved
loop-gutter-preserved c =
    let stretch = c.args.stretch.now in
    let gutters : List Rect = c.args.gutters.now in
    let i = c.loop-gutter.gutter-index in
    let g : Rect = c.gutter-item.result in
    let cuts : List Bool = c.loop-gutter.cuts in
    let same : c.as_slice-gutter-items.result.now ≡ gutters = c.as_slice-gutter-items.ensures.same in
    let within : i < length gutters = omega (arith, c.loop-gutter-test.true, ap (λ (gs : List Rect). length gs) same) in
    let item : g ≡ get_or gutters i g = c.gutter-item.is ∙ ap (λ (gs : List Rect). get_or gs i g) same in
    elim c.if-crosses_all.branch [
      | then-crosses_all w ↦
          let begun : ℕ = w.segment.result in
          let begun_is : segment_of gutters (middle_of (get_or gutters i g)) ≡ begun = ap (λ (r : Rect). segment_of gutters (middle_of r)) (sym item) ∙ ap (segment_of gutters) (sym w.middle.ensures.value) ∙ sym w.segment.ensures.value in
          let inside : begun < length cuts = omega (arith, w.segment.ensures.few, c.requires.few_gutters, c.loop-gutter.invariant.long) in
          record {
            order = omega (arith, c.loop-gutter-test.true);
            long = ap (λ (xs : List Bool). length xs) w.cuts-is ∙ length-set cuts begun true ∙ c.loop-gutter.invariant.long;
            cut = λ s is. ⊎_elim
                (λ here more before less early.
                columns_differ stretch.slope _ gutters i before s g within early (begun_is ∙ sym here)
                (is_cut stretch.slope _ (get_or gutters i g) (subst (Crosses stretch.slope _) item (c.crosses_all.ensures w.if-crosses_all.true more less))))
                (λ differs. c.loop-gutter.invariant.cut s (sym (ap (λ (xs : List Bool). get_or xs s false) w.cuts-is ∙ get_or-set_other cuts begun s true false differs) ∙ is))
                (cases_eq s begun);
          }
      | else-crosses_all w ↦ record {
        order = omega (arith, c.loop-gutter-test.true);
        long = ap (λ (xs : List Bool). length xs) w.cuts-is ∙ c.loop-gutter.invariant.long;
        cut = λ s is. c.loop-gutter.invariant.cut s (sym (ap (λ (xs : List Bool). get_or xs s false) w.cuts-is) ∙ is);
      }
    ]
