use Rattle.std.proofs.Common.{◌≡◌, refl, inl, inr, true, false}
use Rattle.line_search.proofs.Steps.{settles_is, settled_score, nothing_is, no_score, handed_on, splits_is, cut_is}
use Rattle.line_search.proofs.grid.GridSpace.step.Goals as goal

pub returns-then-node-lt-LEAST_KEY-clause-step : goal.returns-then-node-lt-LEAST_KEY-clause-step
returns-then-node-lt-LEAST_KEY-clause-step c = rw c.new.ensures.items (nothing_is c.args.self.now c.args.node.now c.requires.fits c.if-node-lt-LEAST_KEY.true)

pub returns-then-node-lt-LEAST_KEY-clause-exactly : goal.returns-then-node-lt-LEAST_KEY-clause-exactly
returns-then-node-lt-LEAST_KEY-clause-exactly c = inl (c.if-is_single.ensures.0 refl, c.new.ensures.items, no_score c.args.self.now c.args.node.now c.requires.fits c.if-node-lt-LEAST_KEY.true)

pub returns-then-is_single-clause-step : goal.returns-then-is_single-clause-step
returns-then-is_single-clause-step c = settles_is c.args.self.now c.args.node.now c.requires.fits (c.if-is_single.ensures.0 refl) c.if-node-lt-LEAST_KEY.false

pub returns-then-is_single-clause-exactly : goal.returns-then-is_single-clause-exactly
returns-then-is_single-clause-exactly c = (c.if-is_single.ensures.0 refl, settled_score c.args.self.now c.args.node.now c.requires.fits (c.if-is_single.ensures.0 refl) c.if-node-lt-LEAST_KEY.false)

pub part-requires-clause-in_grid : goal.part-requires-clause-in_grid
part-requires-clause-in_grid c = (handed_on c.args.self.now c.args.node.now c.halves.result.0 c.halves.result.1 c.requires.fits c.halves.ensures).0.in_grid

pub part-requires-clause-over : goal.part-requires-clause-over
part-requires-clause-over c = (handed_on c.args.self.now c.args.node.now c.halves.result.0 c.halves.result.1 c.requires.fits c.halves.ensures).0.over

pub part-requires-clause-weighing : goal.part-requires-clause-weighing
part-requires-clause-weighing c = (handed_on c.args.self.now c.args.node.now c.halves.result.0 c.halves.result.1 c.requires.fits c.halves.ensures).0.weighing

pub part-requires-2-clause-in_grid : goal.part-requires-2-clause-in_grid
part-requires-2-clause-in_grid c = (handed_on c.args.self.now c.args.node.now c.halves.result.0 c.halves.result.1 c.requires.fits c.halves.ensures).1.in_grid

pub part-requires-2-clause-over : goal.part-requires-2-clause-over
part-requires-2-clause-over c = (handed_on c.args.self.now c.args.node.now c.halves.result.0 c.halves.result.1 c.requires.fits c.halves.ensures).1.over

pub part-requires-2-clause-weighing : goal.part-requires-2-clause-weighing
part-requires-2-clause-weighing c = (handed_on c.args.self.now c.args.node.now c.halves.result.0 c.halves.result.1 c.requires.fits c.halves.ensures).1.weighing

pub returns-clause-step : goal.returns-clause-step
returns-clause-step c =
    rw c.in_ok-listed.ensures (splits_is c.args.self.now c.args.node.now c.halves.result.0 c.halves.result.1 c.in_ok-lower.lower c.in_ok-upper.upper c.requires.fits c.halves.ensures
    (record { fitting = c.in_ok-lower.ensures.fitting; shaped = c.in_ok-lower.ensures.shape; bound = c.in_ok-lower.ensures.bound; none = c.in_ok-lower.ensures.none })
    (record { fitting = c.in_ok-upper.ensures.fitting; shaped = c.in_ok-upper.ensures.shape; bound = c.in_ok-upper.ensures.bound; none = c.in_ok-upper.ensures.none }))

pub returns-clause-exactly : goal.returns-clause-exactly
returns-clause-exactly c =
    inr (
      λ single. let no : false ≡ true = c.if-is_single.ensures.1 single in cc,
      rw c.in_ok-listed.ensures (cut_is c.args.self.now c.args.node.now c.halves.result.0 c.halves.result.1 c.in_ok-lower.lower c.in_ok-upper.upper c.halves.ensures
          (record { fitting = c.in_ok-lower.ensures.fitting; shaped = c.in_ok-lower.ensures.shape; bound = c.in_ok-lower.ensures.bound; none = c.in_ok-lower.ensures.none })
          (record { fitting = c.in_ok-upper.ensures.fitting; shaped = c.in_ok-upper.ensures.shape; bound = c.in_ok-upper.ensures.bound; none = c.in_ok-upper.ensures.none })),
    )
