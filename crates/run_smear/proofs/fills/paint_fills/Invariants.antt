use Rattle.run_smear.specs.Painted.{GotBlack}
use Rattle.run_smear.specs.Columns.{IsFilledAt}
use Rattle.run_smear.proofs.fills.paint_fills.Given as goal

-- What the fills so far have of the row is black, and else it is as it was.
abbrev pub invariant-loop-fill : goal.invariant-loop-fill
invariant-loop-fill l = GotBlack (λ k. IsFilledAt l.fills l.fill-index k l.y) l.fn.bits l.bits
