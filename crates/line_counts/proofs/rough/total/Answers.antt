use Rattle.std.proofs.Common.{◌≡◌, get_or, arith, ap, ◌∙◌}
use Rattle.line_counts.specs.Tops.{sum_to}
use Rattle.line_counts.proofs.Summing.{to_next}
use Rattle.line_counts.proofs.rough.total.Goals as goal

pub loop-place-preserved : goal.loop-place-preserved
loop-place-preserved c = record {
  value = omega (arith, c.loop-place.invariant.value, to_next (λ place. get_or c.args.counts.now place 0) c.loop-place.place);
  small = omega (arith, c.loop-place.invariant.small, c.requires.small c.loop-place.place);
}

pub returns-clause-value : goal.returns-clause-value
returns-clause-value c =
    let last : c.loop-place.place ≡ 136 = omega (arith, c.loop-place-test.false, c.loop-place.auto.place-end) in
    c.loop-place.invariant.value ∙ ap (sum_to (λ place. get_or c.args.counts.now place 0)) last
