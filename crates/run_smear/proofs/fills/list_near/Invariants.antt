use Rattle.run_smear.specs.Columns.{AreNear}
use Rattle.run_smear.proofs.fills.list_near.Given as goal

-- Of the fills so far those are listed that begin above the row.
abbrev pub invariant-loop-fill : goal.invariant-loop-fill
invariant-loop-fill l = AreNear l.fills l.fill-index l.until l.near.items
