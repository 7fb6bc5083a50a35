use Rattle.std.proofs.Common.{◌<◌, length, arith}
use Rattle.page_runs.specs.Runs.{run_at}
use Rattle.components.proofs.Putting.{if_both, put_alone, can_join, put_joined}
use Rattle.components.proofs.rows.put_run.Goals.{then-near-up-via-then-near-up, then-near-up-via-else-near-up+then-run-up}
use Rattle.components.proofs.rows.put_run.Goals as goal

pub returns-then-near-up-clause-put : goal.returns-then-near-up-clause-put
returns-then-near-up-clause-put c = λ page members can.
    let right : c.args.near < length c.args.up.now → c.args.run.x1 < (run_at c.args.up.now c.args.near).x0 = λ there. elim c.then-near-up.branch [
      | then-near-up-via-then-near-up w ↦ absurd (omega (arith, there, w.if-near-up.true))
      | then-near-up-via-else-near-up+then-run-up w ↦ w.if-run-up.true
    ] in
    if_both _ _ _ _ (λ g is begun. put_alone page members _ _ _ _ _ can right g is _ begun) c.begin.ensures.group c.begin.ensures.begun

pub returns-clause-put : goal.returns-clause-put
returns-clause-put c = λ page members can.
    let there : c.args.near < length c.args.up.now = omega (arith, c.requires.near, c.if-near-up.false) in
    let found = c.root_of-group.ensures in
    let join = can_join page members _ _ _ _ _ can there c.if-run-up.false c.requires.len _ _ _ found.rooted found.len found.bounds c.add.ensures in
    put_joined page members _ _ _ _ _ can there c.if-run-up.false c.requires.len _ _ _ found.rooted found.len found.bounds c.add.ensures _
    (c.join_touching.ensures.joined page _ can.partition.root join)
