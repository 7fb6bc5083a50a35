use Rattle.std.proofs.Common.{◌≡◌, length}
use Rattle.page_runs.specs.Packed.{page_of}
use Rattle.run_smear.specs.Stacked.{HasMore}
use Rattle.run_smear.proofs.stack.push_rows.Given as goal

-- The rows above this one are there.
abbrev pub invariant-loop-y : goal.invariant-loop-y
invariant-loop-y l = record {
  len : length l.bits ≡ length l.fn.bits;
  has : HasMore l.fn.page (page_of l.more) l.y l.page;
}
