use Rattle.std.proofs.Common.{◌≡◌, ◌+◌, ◌*◌, ◌<◌, ◌≤◌, min, ℕ, List, arith, subst}
use Rattle.line_counts.specs.Tops.{weighed}
use Rattle.line_counts.proofs.Summing.{weighs_less, bell_small}
use Rattle.line_counts.proofs.rough.part_most.Goals as goal

inside : (more depth : ℕ) → more < 64 → depth ≤ 63 → (more < 128) × (more + depth < 128)
inside more depth less deep = (omega (arith, less), omega (arith, less, deep))

lesser : (weight bell one other twice all result : ℕ) → weight ≤ one + other → one ≤ bell → other ≤ bell → one ≤ 2000000000 → other ≤ 2000000000
    → weight ≤ all → twice ≡ min (bell * 2) 4294967295 → result ≡ min twice all → weight ≤ result
lesser weight bell one other twice all result low first second small_one small_other few twice_is is = omega (arith, low, first, second, small_one, small_other, few, twice_is, is)

pub returns : goal.returns
returns c = λ more depth less deep.
    let counts : List ℕ = c.args.counts.now in
    let weight : ℕ = weighed counts more depth in
    let bell : ℕ = c.greatest_of_first-bell.result in
    let within = inside more depth less deep in
    let bells = c.requires.bells in
    let small = c.requires.counts.small in
    lesser weight bell (weighed counts more 0) (weighed counts (more + depth) 0) c.saturating_mul.result c.on_the_line.result c.min.result
    (weighs_less counts more depth)
    (subst (λ (n : ℕ). n ≤ bell) (bells.value more within.0) (c.greatest_of_first-bell.ensures more within.0))
    (subst (λ (n : ℕ). n ≤ bell) (bells.value (more + depth) within.1) (c.greatest_of_first-bell.ensures (more + depth) within.1))
    (bell_small counts more small)
    (bell_small counts (more + depth) small)
    (c.on_the_line.ensures more depth less deep)
    c.saturating_mul.ensures
    c.min.ensures
