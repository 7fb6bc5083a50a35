use Rattle.std.proofs.Common.{arith, ap, List, length, subst}
use Rattle.std.proofs.lemmas.List.Sorted.{IsPermutation-sym}
use Rattle.layout_geom.specs.declared.rect.Rect.{Rect}
use Rattle.whitespace_cover.specs.Bars.{LeaveSame}
use Rattle.whitespace_cover.proofs.Barring.{same_chain, same_order}
use Rattle.whitespace_cover.proofs.bars.joined.Goals as goal

pub returns-clause-same : goal.returns-clause-same
returns-clause-same c =
    let sorted : List Rect = c.sort_unstable_by_key.new.self.items in
    same_chain c.args.least c.in_ok-bars.bars.items sorted c.args.rects.items
    (subst (λ (xs : List Rect). LeaveSame c.args.least c.in_ok-bars.bars.items xs) c.deref.ensures.value c.in_ok-bars.ensures.same)
    (same_order c.args.least sorted c.args.rects.items (IsPermutation-sym c.args.rects.items sorted c.sort_unstable_by_key.ensures.permutation))

pub returns-clause-few : goal.returns-clause-few
returns-clause-few c = omega (arith, c.in_ok-bars.ensures.few, ap length c.deref.ensures.value, c.sort_unstable_by_key.ensures.len)
