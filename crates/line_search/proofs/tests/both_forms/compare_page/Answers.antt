use Rattle.std.proofs.Common.{◌∙◌, subst, sym, List, All}
use Rattle.layout_geom.specs.declared.rect.Rect.{Rect}
use Rattle.layout_geom.specs.Rectangles.{Encloses}
use Rattle.line_search.proofs.tests.both_forms.compare_page.Goals as goal

pub compare_forms-requires-clause-plain_contained : goal.compare_forms-requires-clause-plain_contained
compare_forms-requires-clause-plain_contained g c =
    (c.in_ok-page.page, subst (λ (boxes : List Rect). All (Encloses c.in_ok-page.page) boxes) (sym (c.new-plain.ensures.boxes ∙ c.in_ok-boxes.ensures)) c.in_ok-boxes_in.ensures.inside)

pub compare_forms-requires-clause-counted_contained : goal.compare_forms-requires-clause-counted_contained
compare_forms-requires-clause-counted_contained g c =
    (c.in_ok-page.page, subst (λ (boxes : List Rect). All (Encloses c.in_ok-page.page) boxes) (sym c.in_ok-counted.ensures.boxes) c.in_ok-boxes_in.ensures.inside)
