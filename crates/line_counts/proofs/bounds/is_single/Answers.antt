use Rattle.std.proofs.Common.{◌≡◌, ◌∙◌, ◌+ℤ◌, pos, true, false, arith, sym}
use Rattle.std.proofs.lemmas.Int.{ints}
use Rattle.line_counts.proofs.Ranges.{kept_in}
use Rattle.line_counts.proofs.bounds.is_single.Goals as goal
use Rattle.line_counts.proofs.bounds.is_single.Goals.{then-has_one, else-has_one}

pub returns-then-has_one-2 : goal.returns-then-has_one-2
returns-then-has_one-2 c = elim c.if-has_one.branch [
  | then-has_one w ↦
      let shape = c.args.shape.now in
      let kept = kept_in shape c.requires in
      let slopes : shape.a1 ≡ shape.a0 +ℤ pos 1 = omega (arith, ints, kept.a0, kept.a1, c.has_one.ensures.0 w.if-has_one.true) in
      let offsets : shape.b1 ≡ shape.b0 +ℤ pos 1 = omega (arith, ints, kept.b0, kept.b1, w.has_one-then-has_one.ensures.0 (sym w.value-is ∙ c.if-has_one-2.true)) in (
        λ t. (slopes, offsets, omega (arith, ints, kept.c0, kept.c1, c.has_one-then-has_one-2.ensures.0 t)),
        λ single. c.has_one-then-has_one-2.ensures.1 (omega (arith, ints, kept.c0, kept.c1, single.2)),
      )
  | else-has_one w ↦ absurd (let no : false ≡ true = sym w.if-has_one.false ∙ sym w.value-is ∙ c.if-has_one-2.true in cc)
]
