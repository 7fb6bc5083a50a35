use Rattle.std.proofs.lemmas.List.Sorted.{IsNonDecreasingBy-from_sort}
use Rattle.components.proofs.Medians.{middle_is}
use Rattle.components.proofs.kept.median_height.Goals as goal

pub returns : goal.returns
returns c = record {
  rising = c.sort.new.self.items;
  rearranged = rw (← c.in_ok-heights.ensures) c.in_ok-sort.ensures.permutation;
  rises = IsNonDecreasingBy-from_sort (λ x. x) _ c.in_ok-sort.ensures.sorted;
  middle = middle_is _ _ _ _ _ c.len.ensures c.sort.new.self.ok.0 c.is_empty.ensures c.if-is_empty.false c.index.ensures;
}
