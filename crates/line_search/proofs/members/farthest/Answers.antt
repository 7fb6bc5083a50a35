use Rattle.std.proofs.Common.{◌≤◌, List, get_or, take, All, arith, subst}
use Rattle.std.proofs.lemmas.List.{take_all}
use Rattle.std.proofs.lemmas.List.Elements.{All-more, All-weaker}
use Rattle.layout_geom.specs.declared.rect.Rect.{Rect}
use Rattle.line_quality.specs.Points.{middle_of}
use Rattle.line_search.proofs.members.farthest.Goals as goal

pub loop-rect-preserved : goal.loop-rect-preserved
loop-rect-preserved c =
    let boxes : List Rect = c.args.boxes.now in
    let i = c.loop-rect.rect-index in
    let r : Rect = c.rect-item.result in
    let here : middle_of (get_or boxes i r) ≤ c.max-farthest.result = subst (λ (box : Rect). middle_of box ≤ c.max-farthest.result) c.rect-item.is (omega (arith, c.middle.ensures.value, c.max-farthest.ensures)) in
    record {
      farthest = All-more (λ (box : Rect). middle_of box ≤ c.max-farthest.result) boxes i r c.loop-rect-test.true
          (All-weaker (λ (box : Rect). middle_of box ≤ c.loop-rect.farthest) (λ (box : Rect). middle_of box ≤ c.max-farthest.result) (λ box low. omega (arith, low, c.max-farthest.ensures)) (take i boxes) c.loop-rect.invariant.farthest)
          here;
      small = omega (arith, c.middle.ensures.value, r.sides.wide, r.sides.right, c.max-farthest.ensures, c.loop-rect.invariant.small);
    }

pub returns-clause-farthest : goal.returns-clause-farthest
returns-clause-farthest c =
    subst (λ (xs : List Rect). All (λ r. middle_of r ≤ c.loop-rect.farthest) xs) (take_all c.loop-rect.rect-index c.args.boxes.now c.loop-rect-test.false) c.loop-rect.invariant.farthest
