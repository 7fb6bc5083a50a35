use Rattle.std.proofs.Common.{◌≡◌, [], ◌∷◌, length, ap, rules, length-append, arith}
use Rattle.components.proofs.Scanning.{box_kept, box_dropped, none_of_it, scan_ends}
use Rattle.components.proofs.scan.boxes_of.Goals.{then-group-g+then-is_large+in_ok-push, then-group-g+else-is_large, else-group-g}
use Rattle.components.proofs.scan.boxes_of.Goals as goal

pub loop-g-preserved : goal.loop-g-preserved
loop-g-preserved c = elim c.if-group-g.branch [
  | then-group-g+then-is_large+in_ok-push w ↦ record {
    scanned = λ page done.
        rw (w.boxes-is, w.in_ok-push.ensures.items) (box_kept page _ done c.loop-g.g c.loop-g-test.true w.if-group-g.true _ _ (c.loop-g.invariant.scanned page done) w.box_of-found.ensures (w.is_large.ensures.0 (search rules)));
    few = rw w.boxes-is (omega (arith, c.loop-g.invariant.few, ap length w.in_ok-push.ensures.items, length-append c.loop-g.boxes.items (w.box_of-found.result ∷ [])));
  }
  | then-group-g+else-is_large w ↦ record {
    scanned = λ page done. rw w.boxes-is (box_dropped page _ done c.loop-g.g c.loop-g-test.true w.if-group-g.true _ _ (c.loop-g.invariant.scanned page done) w.box_of-found.ensures (search rules));
    few = rw w.boxes-is (omega (arith, c.loop-g.invariant.few));
  }
  | else-group-g w ↦ record {
    scanned = λ page done. rw w.boxes-is (none_of_it page _ done c.loop-g.g _ c.loop-g-test.true (search rules) (c.loop-g.invariant.scanned page done));
    few = rw w.boxes-is (omega (arith, c.loop-g.invariant.few));
  }
]

pub returns-clause-kept : goal.returns-clause-kept
returns-clause-kept c = λ page done.
    let end : c.loop-g.g ≡ length c.args.groups.now = omega (arith, c.loop-g-test.false, c.loop-g.auto.g-end) in
    scan_ends page _ done _ (rw end at (c.loop-g.invariant.scanned page done))
