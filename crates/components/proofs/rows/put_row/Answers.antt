use Rattle.std.proofs.Common.{◌≡◌, ◌<◌, ◌≤◌, ◌∷◌, [], ◌++◌, ℕ, length, inl, inr, sym, ap, subst, length-append, arith}
use Rattle.std.proofs.lemmas.Bool.{cases_lt}
use Rattle.page_runs.specs.Runs.{run_at}
use Rattle.components.specs.declared.placed_run.PlacedRun.{PlacedRun}
use Rattle.components.specs.Groups.{ArePartition, CanPut}
use Rattle.components.proofs.Putting.{none_done, can_put, one_done, row_done, labels_valid}
use Rattle.components.proofs.rows.put_row.Goals as goal

pub loop-place-init : goal.loop-place-init
loop-place-init c = record {
  near = omega arith;
  back = c.requires.back;
  more = omega arith;
  few = omega arith;
  len = ap length c.in_ok-here.ensures.items;
  valid = λ i below. absurd (omega (arith, below, ap length c.in_ok-here.ensures.items));
  passed = λ i k less. absurd (omega (arith, less));
  put = λ page are high done. rw c.in_ok-here.ensures.items (none_done page _ _ _ _ _ done);
}

pub loop-place-preserved : goal.loop-place-preserved
loop-place-preserved c =
    let up = c.args.up.now in
    let row = c.args.row.now in
    let place = c.loop-place.place in
    let there = c.loop-place-test.true in
    let inv = c.loop-place.invariant in
    let near = c.first_reaching-near.result in
    let is = c.placed_run-run.ensures in
    let x0 : c.placed_run-run.result.x0 ≡ (run_at row place).x0 = ap (λ (r : PlacedRun). r.x0) is in
    let left : (i : ℕ) → i < near → (run_at up i).x1 < (run_at row place).x0 = λ i less. elim (cases_lt i c.loop-place.near) [
      | inl before ↦ inv.passed i place before (omega arith) there
      | inr from ↦ omega (arith, c.first_reaching-near.ensures.before i from less, x0)
    ] in
    let right : near < length up → (run_at row place).x0 ≤ (run_at up near).x1 = λ inside. omega (arith, c.first_reaching-near.ensures.here inside, x0) in
    record {
      near = c.first_reaching-near.ensures.within;
      back = c.in_ok-group.ensures.back;
      more = omega (arith, inv.more, c.in_ok-group.ensures.more);
      few = omega (arith, inv.few, c.in_ok-group.ensures.few);
      len = rw c.in_ok-push.ensures.items (omega (arith, inv.len, length-append c.loop-place.here.items (c.in_ok-group.group ∷ [])));
      valid = rw c.in_ok-push.ensures.items (labels_valid c.loop-place.here.items c.in_ok-group.group _ _ inv.valid c.in_ok-group.ensures.more c.in_ok-group.ensures.group);
      passed = λ i k less from below.
          omega (arith, left i less, c.requires.apart.some place there, c.requires.apart.apart place k (omega (arith, from)) below);
      put = λ page are high done.
          let was = inv.put page are high done in
          let can = can_put page c.args.y up c.args.above.now row c.loop-place.here.items near place c.loop-place.groups.items are high done.apart was inv.len there left right in
          let put = c.in_ok-group.ensures.put page was.members
          (subst (λ (r : PlacedRun). CanPut page was.members up c.args.above.now near r c.loop-place.groups.items) (sym is) can) in
          rw c.in_ok-push.ensures.items
          (one_done page c.args.y up c.args.above.now row c.loop-place.here.items near place c.loop-place.groups.items are high done.apart was inv.len there
          c.in_ok-group.group _
          (subst (λ (r : PlacedRun). ArePartition page (was.members ++ (record { run = r; group = c.in_ok-group.group }) ∷ []) c.put_run.new.groups.items) is put));
    }

pub returns-clause-put : goal.returns-clause-put
returns-clause-put c = λ page are high done.
    row_done page _ _ _ _ _ _ are (c.loop-place.invariant.put page are high done)
    (omega (arith, c.loop-place.invariant.len, c.loop-place-test.false, c.loop-place.auto.place-end))
