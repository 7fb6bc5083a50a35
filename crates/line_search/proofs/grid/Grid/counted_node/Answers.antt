use Rattle.line_search.proofs.Counted.{bound_by_keys, none_by_keys, all_weighing}
use Rattle.line_search.proofs.grid.Grid.counted_node.Goals as goal

pub returns-then-bound-lt-LEAST_KEY-clause-none : goal.returns-then-bound-lt-LEAST_KEY-clause-none
returns-then-bound-lt-LEAST_KEY-clause-none c =
    none_by_keys c.args.self.now c.args.shape c.requires.in_grid c.args.bound c.requires.bound c.if-bound-lt-LEAST_KEY.true

pub returns-clause-fitting : goal.returns-clause-fitting
returns-clause-fitting c = record {
  in_grid = c.requires.in_grid;
  bounded = bound_by_keys c.args.self.now c.args.shape c.requires.in_grid c.args.bound c.requires.bound c.if-bound-lt-LEAST_KEY.false;
  near = all_weighing c.args.self.now c.args.shape c.all.result c.all.ensures.from c.all.ensures.to;
}
