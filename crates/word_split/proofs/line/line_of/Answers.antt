use Rattle.std.proofs.Common.{ℕ, rules}
use Rattle.std.proofs.lemmas.List.Sorted.{answers_always}
use Rattle.layout_geom.specs.declared.rect.Rect.{Rect}
use Rattle.word_split.proofs.line.line_of.Goals as goal

pub returns : goal.returns
returns c =
    let key : Rect → ℕ × ℕ × ℕ × ℕ = λ r. (r.x0, r.y0, r.x1, r.y1) in
    record {
      given = c.in_ok-line.line.items;
      are_members = c.in_ok-line.ensures;
      rearranged = c.sort_unstable_by_key.ensures.permutation;
      sorted = c.sort_unstable_by_key.ensures.sorted key (answers_always _ _ _ (λ f a r q k. search rules));
    }
