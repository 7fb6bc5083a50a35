use Rattle.std.proofs.Common.{◌≡◌, ◌<◌, [], length, map}
use Rattle.std.specs.List.Sorted.{IsPermutation}
use Rattle.split_frontier.specs.Opening.{together}
use Rattle.split_frontier.proofs.shards.deal.Given as goal

abbrev pub invariant-loop : goal.invariant-loop
invariant-loop g l = (length l.shares.items ≡ l.counter) × (together (map (λ share. share.items) l.shares.items) ≡ [])

abbrev pub invariant-loop-node : goal.invariant-loop-node
invariant-loop-node g l =
    (length l.shares.items ≡ l.fn.shards) × (l.dealt_to < l.fn.shards)
    × IsPermutation l.yielded (together (map (λ share. share.items) l.shares.items))
