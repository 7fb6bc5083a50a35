use Rattle.std.proofs.Common.{arith}
use Rattle.run_smear.proofs.Blackening.{common_pixels}
use Rattle.run_smear.proofs.painting.keep_common.Goals as goal

pub returns-clause-common : goal.returns-clause-common
returns-clause-common c =
    let l = c.loop-place in
    common_pixels c.args.bits.now c.args.others.now l.bits c.requires l.auto.bits (λ i below. l.invariant.done i (omega (arith, below, c.loop-place-test.false, l.auto.bits)))
