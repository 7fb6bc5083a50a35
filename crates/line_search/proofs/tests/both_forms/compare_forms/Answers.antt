use Rattle.std.proofs.Common.{arith, subst, sym, List, All}
use Rattle.layout_geom.specs.declared.rect.Rect.{Rect}
use Rattle.layout_geom.specs.Rectangles.{Encloses}
use Rattle.line_search.proofs.tests.both_forms.compare_forms.Goals as goal

pub loop-preserved : goal.loop-preserved
loop-preserved g c =
    let so_far = c.loop.invariant in
    record {
      plain_high = omega (arith, c.in_ok-key.ensures.height, so_far.plain_high);
      counted_high = omega (arith, c.in_ok-next_key.ensures.height, so_far.counted_high);
      plain_contained = (so_far.plain_contained.0, subst (λ (boxes : List Rect). All (Encloses so_far.plain_contained.0) boxes) (sym c.in_ok-key.ensures.boxes) so_far.plain_contained.1);
      counted_contained = (so_far.counted_contained.0, subst (λ (boxes : List Rect). All (Encloses so_far.counted_contained.0) boxes) (sym c.in_ok-next_key.ensures.boxes) so_far.counted_contained.1);
    }
