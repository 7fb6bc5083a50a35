use Rattle.std.proofs.Common.{◌≡◌, ◌+◌, ◌-◌, ◌*◌, ◌≤◌, min, ℕ, List, get_or, arith, ap, ◌∙◌}
use Rattle.line_counts.specs.Tops.{common_weight, weighed}
use Rattle.line_counts.proofs.Summing.{to_next, weighs_both, weighs_less, common_sum_low, common_sum_all}
use Rattle.line_counts.proofs.tops.line_sums.Goals as goal

turned : (depth behind more : ℕ) → depth + behind + more ≡ more + depth + behind
turned depth behind more = omega arith

-- the common weight at the place from which the sums are lessened
here : (counts : List ℕ) (depth behind more weight : ℕ) → weight ≡ common_weight depth behind
    → weight * get_or counts (depth + behind + more) 0 ≡ common_weight depth behind * get_or counts (more + depth + behind) 0
here counts depth behind more weight is =
    ap (λ (w : ℕ). w * get_or counts (depth + behind + more) 0) is ∙ ap (λ (place : ℕ). common_weight depth behind * get_or counts place 0) (turned depth behind more)

pub loop-behind-init : goal.loop-behind-init
loop-behind-init c = record {
  long = c.both_bells-sums.ensures.long;
  done = λ more less. omega (arith, c.both_bells-sums.ensures.value more less);
}

pub loop-behind-preserved : goal.loop-behind-preserved
loop-behind-preserved c =
    let counts : List ℕ = c.args.counts.now in
    let depth = c.args.depth in
    let behind = c.loop-behind.behind in
    record {
      long = c.lessen.ensures.long;
      done = λ more less.
          omega (
            arith,
            to_next (λ j. common_weight depth j * get_or counts (more + depth + j) 0) behind,
            c.lessen.ensures.value more less,
            ap (λ (xs : List ℕ). get_or xs more 0) c.as_mut_slice.ensures.value,
            here counts depth behind more c.common_weight.result c.common_weight.ensures,
            c.loop-behind.invariant.done more less,
          );
    }

pub lessen-requires-clause-enough : goal.lessen-requires-clause-enough
lessen-requires-clause-enough c =
    let counts : List ℕ = c.args.counts.now in
    let depth = c.args.depth in
    let behind = c.loop-behind.behind in
    let few : behind + 1 ≤ 9 = omega (arith, c.loop-behind-test.true) in
    λ more less.
    omega (
      arith,
      here counts depth behind more c.common_weight.result c.common_weight.ensures,
      to_next (λ j. common_weight depth j * get_or counts (more + depth + j) 0) behind,
      common_sum_low counts (more + depth) depth (behind + 1) few,
      c.requires.bells.value (more + depth) (omega (arith, less, c.requires.depth)),
      ap (λ (xs : List ℕ). get_or xs more 0) c.as_mut_slice.ensures.value,
      c.loop-behind.invariant.done more less,
    )

pub returns-then-depth-eq0-clause-over : goal.returns-then-depth-eq0-clause-over
returns-then-depth-eq0-clause-over c =
    let counts : List ℕ = c.args.counts.now in
    let flat : c.args.depth ≡ 0 = omega (arith, c.if-depth-eq0.true) in
    λ more less.
    omega (arith, ap (weighed counts more) flat, c.first_bells.ensures.value more less, c.requires.bells.value more (omega (arith, less)))

pub returns-then-greatest_of_first-enough-clause-over : goal.returns-then-greatest_of_first-enough-clause-over
returns-then-greatest_of_first-enough-clause-over c =
    let counts : List ℕ = c.args.counts.now in
    let depth = c.args.depth in
    λ more less.
    omega (
      arith,
      weighs_less counts more depth,
      c.both_bells-sums.ensures.value more less,
      c.requires.bells.value more (omega (arith, less)),
      c.requires.bells.value (more + depth) (omega (arith, less, c.requires.depth)),
    )

pub returns-clause-over : goal.returns-clause-over
returns-clause-over c =
    let counts : List ℕ = c.args.counts.now in
    let depth = c.args.depth in
    let behind = c.loop-behind.behind in
    let last : behind ≡ 9 - min depth 9 = omega (arith, c.loop-behind-test.false, c.loop-behind.auto.behind-end, c.min-behind-end.ensures) in
    λ more less.
    omega (
      arith,
      c.loop-behind.invariant.done more less,
      common_sum_all counts (more + depth) depth behind (omega (arith, last)) (omega (arith, last)),
      weighs_both counts more depth,
      c.requires.bells.value more (omega (arith, less)),
      c.requires.bells.value (more + depth) (omega (arith, less, c.requires.depth)),
    )
