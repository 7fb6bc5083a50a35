use Rattle.std.proofs.Common.{arith, ◌≡◌, ◌≤◌, ◌-◌, ◌+◌, ◌%◌, ◌/◌, ◌-ℤ◌, ℕ, pos, neg_ℤ, to_z, of_z, w8, refl, sym, ◌∙◌}
use Rattle.std.proofs.lemmas.Int.{ints}
use Rattle.line_quality.specs.Keys.{rank}
use Rattle.line_quality.proofs.Decoding.{line_digits, offset_is, odd_slope, even_slope}
use Rattle.line_quality.proofs.key.point_of.Goals as goal
use Rattle.line_quality.proofs.key.point_of.Goals.{then-rank-eq1, else-rank-eq1}

narrow : (steps : ℕ) → steps ≤ 32 → pos steps ≡ to_z w8 steps
narrow steps few = omega (arith, ints)

narrow_below : (steps : ℕ) → steps ≤ 32 → neg_ℤ (pos steps) ≡ to_z w8 (of_z w8 (pos 0 -ℤ to_z w8 steps))
narrow_below steps few = omega (arith, ints)

pub returns : goal.returns
returns c = λ line of_grid is.
    let d = line_digits c.args.key line of_grid is in
    let r : ℕ = 64 - c.args.key / 65536 % 128 in
    let steps : ℕ = (64 - c.args.key / 65536 % 128 + 1) / 2 in
    let ranked : rank line.slope ≡ 64 - c.args.key / 65536 % 128 = omega (arith, d.ranks) in
    let few : (64 - c.args.key / 65536 % 128 + 1) / 2 ≤ 32 = omega (arith, d.ranks, d.low) in (
      elim c.if-rank-eq1.branch [
        | then-rank-eq1 w ↦ odd_slope line.slope r steps ranked w.if-rank-eq1.true refl ∙ narrow steps few ∙ sym w.slope-is
        | else-rank-eq1 w ↦ even_slope line.slope r steps ranked w.if-rank-eq1.false refl ∙ narrow_below steps few ∙ sym w.slope-is
      ],
      offset_is line.offset _ (65535 - c.args.key % 65536) of_grid.offset_in (omega (arith, d.places)) (omega (arith, ints, d.places, d.small)),
      omega (arith, d.depths, d.shallow),
    )
