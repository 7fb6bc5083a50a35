use Rattle.std.proofs.Common.{subst}
use Rattle.line_counts.specs.KeyTables.{IsShapeBound}
use Rattle.line_search.specs.declared.grid.TheConstants.{LEAST_SCORE}
use Rattle.line_search.specs.Problem.{GridProblem}
use Rattle.line_search.specs.Pages.{living_page}
use Rattle.line_search.proofs.Counted.{lesser_by_keys}
use Rattle.line_search.proofs.Steps.{limited, too_low}
use Rattle.line_search.proofs.grid.Grid.part.Goals as goal

pub counted_node-requires-clause-bound : goal.counted_node-requires-clause-bound
counted_node-requires-clause-bound c =
    lesser_by_keys c.args.self.now c.args.shape c.requires.in_grid c.in-Some.bound
    (subst (λ (p : GridProblem). IsShapeBound (living_page p) LEAST_SCORE c.args.shape c.in-Some.bound) c.self.view_is c.in-Some.ensures)
    c.args.limit c.min.result c.requires.over c.min.ensures

pub returns-then-bound-lt-LEAST_KEY-clause-none : goal.returns-then-bound-lt-LEAST_KEY-clause-none
returns-then-bound-lt-LEAST_KEY-clause-none c =
    too_low c.args.self.now c.in_ok-node.node c.args.shape c.args.limit c.min-bound.result c.in_ok-node.ensures.fitting c.in_ok-node.ensures.shape c.requires.over c.min-bound.ensures c.if-bound-lt-LEAST_KEY.true

pub returns-clause-fitting : goal.returns-clause-fitting
returns-clause-fitting c =
    limited c.args.self.now c.in_ok-node.node c.args.shape c.args.limit c.min-bound.result c.in_ok-node.ensures.fitting c.in_ok-node.ensures.shape c.requires.over c.min-bound.ensures
