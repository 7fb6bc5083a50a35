use Rattle.std.proofs.Common.{sym, ◌∙◌}
use Rattle.gutters.proofs.Filtering.{each_is_gutter, every_gutter_stays, gutters_more, gutters_same, gutters_all}
use Rattle.gutters.proofs.filter.gutters.Goals as goal
use Rattle.gutters.proofs.filter.gutters.Goals.{then-is_gutter+in_ok-push, else-is_gutter}

pub loop-white-preserved : goal.loop-white-preserved
loop-white-preserved c =
    let kept = c.args.kept.now in
    let items = c.as_slice-white-items.result.now in
    let found = c.loop-white.found in
    let i = c.loop-white.white-index in
    let white = c.white-item.result in
    elim c.if-is_gutter.branch [
      | then-is_gutter+in_ok-push w ↦
          rw (w.found-is, w.in_ok-push.ensures.grown)
          (gutters_more kept items found i white c.loop-white-test.true c.white-item.is c.loop-white.invariant (sym c.is_gutter.ensures.test ∙ w.if-is_gutter.true))
      | else-is_gutter w ↦
          rw w.found-is
          (gutters_same kept items found i white c.loop-white-test.true c.white-item.is c.loop-white.invariant (sym c.is_gutter.ensures.test ∙ w.if-is_gutter.false))
    ]

pub returns-clause-each : goal.returns-clause-each
returns-clause-each c =
    rw (gutters_all c.args.kept.now c.args.whites.now _ _ _ c.as_slice-white-items.ensures.same c.loop-white-test.false c.loop-white.invariant) (each_is_gutter c.args.kept.now c.args.whites.now)

pub returns-clause-every : goal.returns-clause-every
returns-clause-every c =
    rw (gutters_all c.args.kept.now c.args.whites.now _ _ _ c.as_slice-white-items.ensures.same c.loop-white-test.false c.loop-white.invariant) (every_gutter_stays c.args.kept.now c.args.whites.now)
