use Rattle.std.proofs.Common.{length, take}
use Rattle.line_quality.specs.Scores.{group_weight}
use Rattle.line_quality.specs.SumLaws.{AreSums}
use Rattle.line_quality.proofs.score.score_at.Given as goal

abbrev pub invariant-loop-position : goal.invariant-loop-position
invariant-loop-position l = AreSums (λ column. group_weight l.fn.slope l.fn.offset l.depth l.boxes l.gutters column (take l.position-index l.alive)) l.position-index (length l.middles) l.sums
