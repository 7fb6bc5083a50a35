use Rattle.std.proofs.Common.{◌≡◌, ◌<◌, ◌≤◌, ℕ, bit_and, get_or}
use Rattle.run_smear.proofs.painting.keep_common.Given as goal

abbrev pub invariant-loop-place : goal.invariant-loop-place
invariant-loop-place l = record {
  done : (i : ℕ) → i < l.place → get_or l.bits i 0 ≡ bit_and (get_or l.fn.bits i 0) (get_or l.others i 0);
  rest : (i : ℕ) → l.place ≤ i → get_or l.bits i 0 ≡ get_or l.fn.bits i 0;
}
