use Rattle.std.proofs.Common.{ℕ, ◌≡◌, ◌-◌, max, [], ◌∷◌, ◌++◌, ◌∙◌, ap, arith, refl, take}
use Rattle.std.proofs.lemmas.List.{length_push}
use Rattle.word_split.proofs.Widths.{right_of-small, right_more, gaps_more, sum_more}
use Rattle.word_split.proofs.gaps.gaps_of.Goals as goal

pub loop-place-init : goal.loop-place-init
loop-place-init c =
    let none = c.new-gaps.ensures.items in
    record {
      count = rw none refl;
      right = omega (arith, c.x1-right.ensures.value, right_more c.args.line.now 0 0 c.index-line-0.result c.requires c.index-line-0.is refl);
      each = rw none (λ i d low. absurd (omega (arith, low)));
      slim = rw none (omega arith);
    }

pub loop-place-preserved : goal.loop-place-preserved
loop-place-preserved c =
    let line = c.args.line.now in
    let gaps = c.loop-place.gaps.items in
    let right = c.loop-place.right in
    let next = c.index-line-place.result in
    let so_far = c.loop-place.invariant in
    let items : c.push.new.self.items ≡ gaps ++ (next.x0 - right) ∷ [] =
    c.in_ok-push.ensures.items ∙ ap (λ (gap : ℕ). gaps ++ gap ∷ []) (c.saturating_sub.ensures ∙ ap (λ (x : ℕ). x - right) c.x0.ensures.value) in
    let farther : c.max-right.result ≡ max right next.x1 = c.max-right.ensures ∙ ap (λ (x : ℕ). max right x) c.x1.ensures.value in
    record {
      count = rw items (omega (arith, so_far.count, length_push gaps (next.x0 - right)));
      right = farther ∙ right_more line c.loop-place.place right next c.loop-place-test.true c.index-line-place.is so_far.right;
      each = rw items (gaps_more line gaps c.loop-place.place right next so_far.count c.loop-place-test.true c.index-line-place.is so_far.right so_far.each);
      slim = rw (items, farther) (sum_more gaps right next so_far.slim);
    }

pub returns-clause-slim : goal.returns-clause-slim
returns-clause-slim c =
    omega (arith, c.loop-place.invariant.slim, c.loop-place.invariant.right, right_of-small (take c.loop-place.place c.args.line.now))
