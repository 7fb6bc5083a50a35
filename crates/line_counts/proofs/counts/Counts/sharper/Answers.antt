use Rattle.std.proofs.Common.{inl, inr}
use Rattle.line_counts.proofs.counts.Counts.sharper.Goals as goal

pub returns-then-rough-before : goal.returns-then-rough-before
returns-then-rough-before c = record { over = c.rough-rough.ensures; low = inl c.if-rough-before.true }

pub returns : goal.returns
returns c = record { over = c.greatest.ensures.greatest; low = inr c.greatest.ensures }
