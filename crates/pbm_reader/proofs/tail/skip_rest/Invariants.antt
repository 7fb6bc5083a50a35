use Rattle.std.proofs.Common.{◌≡◌, ◌≤◌}
use Rattle.pbm_reader.proofs.TailLoop.{IsSkipping}
use Rattle.pbm_reader.proofs.tail.skip_rest.Given as goal

abbrev pub invariant-loop-count : goal.invariant-loop-count
invariant-loop-count g l = record {
  skipping : IsSkipping l.initial.feed.source l.feed.source l.start l.left;
  same : l.feed.borrow ≡ l.initial.feed.borrow;
  later : l.initial.feed.source.faults ≤ l.feed.source.faults;
}

abbrev pub decreases-loop-count : goal.decreases-loop-count
decreases-loop-count g l = l.left
