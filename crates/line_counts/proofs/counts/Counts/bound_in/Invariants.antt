use Rattle.std.proofs.Common.{ℤ, ◌<ℤ◌}
use Rattle.line_counts.specs.Fits.{slope_of}
use Rattle.line_counts.specs.Plain.{plain_key}
use Rattle.line_counts.specs.Blocks.{HasOffset, IsKeyWhere, IsRaisedBound}
use Rattle.line_counts.proofs.counts.Counts.bound_in.Given as goal

abbrev pub invariant-loop-number : goal.invariant-loop-number
invariant-loop-number l =
    IsRaisedBound (IsKeyWhere l.self l.least l.shape (λ (slope offset : ℤ). (slope <ℤ slope_of l.number) × HasOffset offset l.block))
    (plain_key l.self.boxes l.self.alive l.shape) l.before l.best
