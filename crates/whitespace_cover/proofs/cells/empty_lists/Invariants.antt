use Rattle.std.proofs.Common.{◌≡◌, [], length, All}
use Rattle.whitespace_cover.proofs.cells.empty_lists.Given as goal

abbrev pub invariant-loop : goal.invariant-loop
invariant-loop l = record {
  count : length l.lists.items ≡ l.counter;
  empty : All (λ list. list ≡ []) l.lists.items;
}
