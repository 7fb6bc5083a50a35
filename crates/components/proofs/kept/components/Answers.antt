use Rattle.std.proofs.Common.{◌≡◌, ℕ, length, rules, arith}
use Rattle.std.proofs.lemmas.List.Sorted.{answers_always, length_permutation}
use Rattle.layout_geom.specs.declared.rect.Rect.{Rect}
use Rattle.components.proofs.Held.{boxes_held}
use Rattle.components.proofs.kept.components.Goals as goal

pub returns-then-len-gt-MAX_KEPT-clause-fault : goal.returns-then-len-gt-MAX_KEPT-clause-fault
returns-then-len-gt-MAX_KEPT-clause-fault c = λ held holds. (
  record {
    found = c.in_ok-boxes.boxes.items;
    is_kept = boxes_held _ held holds _ c.in_ok-boxes.ensures.kept;
    counted = omega (arith, c.len-then-len-gt-MAX_KEPT.ensures, c.in_ok-boxes.boxes.ok.0);
  },
  omega (arith, c.if-len-gt-MAX_KEPT.true, c.len.ensures, c.len-then-len-gt-MAX_KEPT.ensures),
)

pub returns-clause-kept : goal.returns-clause-kept
returns-clause-kept c = λ held holds.
    let key : Rect → ℕ × ℕ × ℕ × ℕ = λ r. (r.y0, r.x0, r.y1, r.x1) in
    let same : length c.sort_by_key.new.self.items ≡ length c.in_ok-boxes.boxes.items = length_permutation _ _ c.in_ok-sort_by_key.ensures.permutation in
    record {
      boxes = rw c.from_vec.ensures.same (record {
        found = c.in_ok-boxes.boxes.items;
        is_kept = boxes_held _ held holds _ c.in_ok-boxes.ensures.kept;
        rearranged = c.in_ok-sort_by_key.ensures.permutation;
        sorted = c.in_ok-sort_by_key.ensures.sorted key (answers_always _ _ _ (λ f a r q k. search rules));
      });
      few = rw c.from_vec.ensures.same (omega (arith, same, c.if-len-gt-MAX_KEPT.false, c.len.ensures, c.in_ok-boxes.boxes.ok.0));
      median = rw (c.from_vec.ensures.same, ← c.deref.ensures.value) c.in_ok-median.ensures;
    }
