use Rattle.run_smear.proofs.Filling.{near_more, near_same}
use Rattle.run_smear.proofs.fills.list_near.Goals.{then-fill-until+in_ok-push, else-fill-until}
use Rattle.run_smear.proofs.fills.list_near.Goals as goal

pub loop-fill-preserved : goal.loop-fill-preserved
loop-fill-preserved c =
    let l = c.loop-fill in
    elim c.if-fill-until.branch [
      | then-fill-until+in_ok-push w ↦
          rw (w.near-is, w.in_ok-push.ensures.items) (near_more c.args.fills.now l.fill-index c.args.until l.near.items l.invariant c.loop-fill-test.true)
      | else-fill-until w ↦ rw w.near-is (near_same c.args.fills.now l.fill-index c.args.until l.near.items l.invariant w.if-fill-until.false)
    ]
