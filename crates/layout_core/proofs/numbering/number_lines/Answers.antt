use Rattle.std.proofs.Common.{ℕ, arith, rules, ◌+◌}
use Rattle.std.proofs.lemmas.List.Sorted.{answers_always, length_permutation}
use Rattle.line_search.specs.declared.line.Line.{Line}
use Rattle.layout_core.proofs.numbering.number_lines.Goals as goal

pub from_vec-requires : goal.from_vec-requires
from_vec-requires c = omega (arith, length_permutation _ _ c.in_ok-sort_by_key.ensures.permutation, c.into_vec-lines.ensures.small)

pub returns : goal.returns
returns c =
    let key : Line → ℕ × ℕ = λ line. (line.bbox.y0 + line.bbox.y1, line.bbox.x0) in
    rw c.from_vec.ensures.same
    (record {
      rearranged = rw (← c.into_vec-lines.ensures.same) c.in_ok-sort_by_key.ensures.permutation;
      sorted = c.in_ok-sort_by_key.ensures.sorted key (answers_always _ _ _ (λ f a r q k. search rules));
      stable = rw (← c.into_vec-lines.ensures.same) (c.in_ok-sort_by_key.ensures.stable key (answers_always _ _ _ (λ f a r q k. search rules)));
    })
