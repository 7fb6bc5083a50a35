use Rattle.std.proofs.Common.{subst}
use Rattle.line_counts.specs.KeyTables.{IsShapeBound}
use Rattle.line_search.specs.declared.grid.TheConstants.{LEAST_SCORE}
use Rattle.line_search.specs.Problem.{GridProblem}
use Rattle.line_search.specs.Pages.{living_page}
use Rattle.line_search.proofs.grid.Grid.known_node.Goals as goal

pub counted_node-requires-clause-bound : goal.counted_node-requires-clause-bound
counted_node-requires-clause-bound c =
    subst (λ (p : GridProblem). IsShapeBound (living_page p) LEAST_SCORE c.args.shape c.in-Some.bound) c.self.view_is c.in-Some.ensures
