use Rattle.std.proofs.Common.{◌≡◌}
use Rattle.page_runs.specs.Packed.{page_of, rows_of}
use Rattle.run_smear.proofs.tests.drawn.Given as goal

abbrev pub invariant-loop-y : goal.invariant-loop-y
invariant-loop-y l = record {
  rows_is : rows_of l.page ≡ l.y;
  width_is : (page_of l.page).width ≡ l.width;
  height_is : (page_of l.page).height ≡ l.height;
}
