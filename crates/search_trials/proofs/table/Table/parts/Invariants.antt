use Rattle.std.proofs.Common.{◌<◌, ◌≤◌, vec_len}
use Rattle.search_trials.specs.Table.{PartsUpTo}
use Rattle.search_trials.proofs.table.Table.parts.Given as goal

abbrev pub invariant-loop-piece : goal.invariant-loop-piece
invariant-loop-piece l =
    PartsUpTo l.self.keys.now l.node l.parts.items l.cut ×
    (l.cut ≤ l.to) ×
    (vec_len l.parts ≤ l._piece) ×
    (0 < l._piece → l.from < l.cut)
