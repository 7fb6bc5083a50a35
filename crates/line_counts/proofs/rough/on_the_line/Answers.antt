use Rattle.std.proofs.Common.{◌≡◌, ◌+◌, ◌*◌, ◌<◌, ◌≤◌, min, ℕ, List, arith, sym, subst}
use Rattle.line_counts.specs.Tops.{weighed}
use Rattle.line_counts.proofs.Summing.{weighs_less, weighs_all, bell_small}
use Rattle.line_counts.proofs.rough.on_the_line.Goals as goal

inside : (more depth : ℕ) → more < 64 → depth ≤ 63 → more + (2 * 4 + depth + 1) ≤ 136
inside more depth less deep = omega (arith, less, deep)

no_more : (weight one other total all : ℕ) → weight ≤ one + other → one ≤ 2000000000 → other ≤ 2000000000 → weight ≤ 25 * total → all ≡ min (total * 25) 4294967295 → weight ≤ all
no_more weight one other total all low small_one small_other few all_is = omega (arith, low, small_one, small_other, few, all_is)

pub returns : goal.returns
returns c = λ more depth less deep.
    let counts : List ℕ = c.args.counts.now in
    let weight : ℕ = weighed counts more depth in
    no_more weight (weighed counts more 0) (weighed counts (more + depth) 0) c.total.result c.saturating_mul.result
    (weighs_less counts more depth)
    (bell_small counts more c.requires.small)
    (bell_small counts (more + depth) c.requires.small)
    (subst (λ (n : ℕ). weight ≤ 25 * n) (sym c.total.ensures.value) (weighs_all counts more depth 136 (inside more depth less deep)))
    c.saturating_mul.ensures
