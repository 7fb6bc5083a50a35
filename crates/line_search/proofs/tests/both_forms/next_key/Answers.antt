use Rattle.std.proofs.Common.{ap, subst, sym, List, All}
use Rattle.layout_geom.specs.declared.rect.Rect.{Rect}
use Rattle.layout_geom.specs.Rectangles.{Encloses}
use Rattle.line_search.specs.Problem.{GridProblem}
use Rattle.line_search.proofs.tests.both_forms.next_key.Goals as goal

pub take_line-requires-clause-contained : goal.take_line-requires-clause-contained
take_line-requires-clause-contained c =
    (c.requires.contained.0, subst (λ (boxes : List Rect). All (Encloses c.requires.contained.0) boxes) (sym (ap (λ (p : GridProblem). p.boxes) c.sharpen.ensures)) c.requires.contained.1)
