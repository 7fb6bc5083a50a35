use Rattle.std.proofs.Common.{◌≡◌, ◌≤◌, ◌-◌, ◌+◌, take, length}
use Rattle.layout_outside.specs.Taken.{Took}
use Rattle.pbm_reader.proofs.feed.Feed.fill.Given as goal

abbrev pub invariant-loop-at : goal.invariant-loop-at
invariant-loop-at g l = record {
  took : Took l.initial.self.source l.self.source (take l.at l.buf);
  within : l.at ≤ length l.buf;
  held : length l.initial.buf ≤ length l.initial.self.unread
      → (l.self.own ≡ l.initial.self.own) × (length l.initial.self.unread ≡ l.at + length l.self.unread);
  same : l.self.borrow ≡ l.initial.self.borrow;
  later : l.initial.self.source.faults ≤ l.self.source.faults;
}

abbrev pub decreases-loop-at : goal.decreases-loop-at
decreases-loop-at g l = length l.initial.buf - l.at
