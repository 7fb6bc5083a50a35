use Rattle.std.proofs.Common.{◌≡◌, length, vec_len}
use Rattle.reading_order.specs.Shown.{IsShown}
use Rattle.reading_order.proofs.Marking.{IsBlankFrom}
use Rattle.reading_order.proofs.rows.table_of.Given as goal

abbrev pub invariant-loop-later : goal.invariant-loop-later
invariant-loop-later l = (l.table.side ≡ length l.lines) × IsShown l.lines l.table l.later × IsBlankFrom l.table (length l.lines) l.later × (vec_len l.reaches ≡ length l.lines)
