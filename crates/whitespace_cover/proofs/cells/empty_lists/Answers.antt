use Rattle.std.proofs.Common.{arith}
use Rattle.whitespace_cover.proofs.Indexing.{few_cells}
use Rattle.whitespace_cover.proofs.cells.empty_lists.Goals as goal

pub overflow_mul-count : goal.overflow_mul-count
overflow_mul-count c = omega (arith, few_cells c.args.across c.args.rows c.requires.across c.requires.rows)
