use Rattle.std.proofs.Common.{refl, ◌*◌, arith}
use Rattle.run_smear.specs.Painted.{IsBetween}
use Rattle.run_smear.proofs.Blackening.{got_none, got_bytes}
use Rattle.run_smear.proofs.painting.blacken_bytes.Goals as goal

pub loop-byte-init : goal.loop-byte-init
loop-byte-init c = record {
  got = got_none (IsBetween (8 * c.args.from) (8 * c.args.from)) c.args.bits.now (λ k has. absurd (omega (arith, has.0, has.1)));
  none = λ e. refl;
}

pub loop-byte-preserved : goal.loop-byte-preserved
loop-byte-preserved c =
    let l = c.loop-byte in
    record {
      got = got_bytes c.args.from l.byte c.args.bits.now l.bits l.invariant.got l.auto.byte (omega (arith, c.loop-byte-test.true, c.requires));
      none = λ e. absurd (omega (arith, e, l.auto.byte, c.loop-byte-test.true));
    }
