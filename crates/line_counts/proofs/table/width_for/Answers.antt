use Rattle.std.proofs.Common.{◌+◌, ◌≤◌, List, get_or, take, All, arith, subst}
use Rattle.std.proofs.lemmas.List.{take_all}
use Rattle.std.proofs.lemmas.List.Elements.{All-more, All-weaker}
use Rattle.layout_geom.specs.declared.rect.Rect.{Rect}
use Rattle.line_counts.proofs.table.width_for.Goals as goal

pub loop-rect-preserved : goal.loop-rect-preserved
loop-rect-preserved c =
    let boxes : List Rect = c.args.boxes.now in
    let i = c.loop-rect.rect-index in
    let r : Rect = c.rect-item.result in
    let most = c.max-lowest.result in
    let here : (get_or boxes i r).y1 ≤ most = subst (λ (box : Rect). box.y1 ≤ most) c.rect-item.is (omega (arith, c.y1.ensures.value, c.max-lowest.ensures)) in
    record {
      high = omega (arith, c.max-lowest.ensures, c.loop-rect.invariant.high);
      lowest = All-more (λ (box : Rect). box.y1 ≤ most) boxes i r c.loop-rect-test.true
          (All-weaker (λ (box : Rect). box.y1 ≤ c.loop-rect.lowest) (λ (box : Rect). box.y1 ≤ most) (λ box low. omega (arith, low, c.max-lowest.ensures)) (take i boxes) c.loop-rect.invariant.lowest)
          here;
      small = omega (arith, c.y1.ensures.value, r.sides.bottom, c.max-lowest.ensures, c.loop-rect.invariant.small);
    }

pub returns : goal.returns
returns c = record {
  lines = omega (arith, c.loop-rect.invariant.high);
  feet = All-weaker (λ (box : Rect). box.y1 ≤ c.loop-rect.lowest) (λ (box : Rect). box.y1 + 672 ≤ c.loop-rect.lowest + 672) (λ box low. omega (arith, low)) c.args.boxes.now
      (subst (λ (xs : List Rect). All (λ r. r.y1 ≤ c.loop-rect.lowest) xs) (take_all c.loop-rect.rect-index c.args.boxes.now c.loop-rect-test.false) c.loop-rect.invariant.lowest);
  small = omega (arith, c.loop-rect.invariant.small);
}
