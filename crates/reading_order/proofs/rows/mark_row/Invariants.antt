use Rattle.reading_order.specs.Shown.{IsRowShown}
use Rattle.reading_order.proofs.rows.mark_row.Given as goal

abbrev pub invariant-loop-earlier : goal.invariant-loop-earlier
invariant-loop-earlier l = IsRowShown l.lines l.initial.table l.table l.later l.earlier
