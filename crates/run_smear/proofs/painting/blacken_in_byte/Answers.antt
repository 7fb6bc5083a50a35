use Rattle.std.proofs.Common.{◌≡◌, ◌≤◌, ◌<◌, ◌*◌, ◌+◌, ◌-◌, ◌%◌, ◌^◌, ℕ, bit_or, get_or, set, arith, subst, ◌∙◌}
use Rattle.std.proofs.Math.Nat.{mod-eq_of_lt}
use Rattle.std.proofs.Math.Pow.{pow_mono}
use Rattle.run_smear.specs.Painted.{GotBlack, IsBetween}
use Rattle.run_smear.proofs.Blackening.{got_masked}
use Rattle.run_smear.proofs.painting.blacken_in_byte.Goals as goal

-- the shift loses no bit
shifted : (n : ℕ) → n ≤ 8 → 1 * 2 ^ n % 65536 ≡ 2 ^ n
shifted n small =
    let fits : 1 * 2 ^ n < 65536 = omega (arith, pow_mono {i = n} {j = 8} small) in
    mod-eq_of_lt fits ∙ omega arith

pub overflow_sub-mask-3 : goal.overflow_sub-mask-3
overflow_sub-mask-3 c =
    omega (
      arith,
      shifted (8 - c.args.from) (omega arith),
      shifted (8 - c.args.to) (omega arith),
      pow_mono {i = 8 - c.args.to} {j = 8 - c.args.from} (omega (arith, c.requires.order)),
    )

pub returns : goal.returns
returns c =
    let bits = c.args.bits.now in
    let mask : 2 ^ (8 - c.args.from) - 2 ^ (8 - c.args.to) ≡ 1 * 2 ^ (8 - c.args.from) % 65536 - 1 * 2 ^ (8 - c.args.to) % 65536 =
    omega (arith, shifted (8 - c.args.from) (omega arith), shifted (8 - c.args.to) (omega arith)) in
    subst (λ (m : ℕ). GotBlack (IsBetween (8 * c.args.byte + c.args.from) (8 * c.args.byte + c.args.to)) bits (set bits c.args.byte (bit_or (get_or bits c.args.byte 0) m))) mask
    (got_masked bits c.args.byte c.args.from c.args.to c.requires.byte c.requires.order c.requires.inside)
