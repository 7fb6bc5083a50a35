use Rattle.std.proofs.Common.{◌≡◌, ℕ, ◌++◌, [], ◌∷◌, List, length, map, take, arith, sym, ◌∙◌, ap, subst, rules}
use Rattle.std.specs.List.{range_with_len}
use Rattle.std.specs.List.Sorted.{IsPermutation, IsNonDecreasingBy}
use Rattle.std.proofs.lemmas.List.{take_all}
use Rattle.std.proofs.lemmas.List.FromFn.{map-range_with_len_more}
use Rattle.std.proofs.lemmas.List.Sorted.{IsNonDecreasingBy-from_sort_by_key}
use Rattle.reading_order.specs.declared.sweep.Place.{Place}
use Rattle.reading_order.proofs.Sorting.{place_at, number_of, in_order}
use Rattle.reading_order.proofs.sweep.numbers_by.Goals as goal

pub loop-number-preserved : goal.loop-number-preserved
loop-number-preserved c =
    let levels = c.args.levels.now in
    let number = c.loop-number.number in
    c.in_ok-push.ensures.items ∙ (ap (λ xs. xs ++ place_at levels number ∷ []) c.loop-number.invariant ∙ sym (map-range_with_len_more (place_at levels) 0 number number (omega arith)))

pub returns : goal.returns
returns c =
    let levels = c.args.levels.now in
    let sorted = c.sort_by_key.new.self.items in
    let full : c.loop-number.number ≡ length levels = omega arith in
    let P : ℕ → Type 0 = λ n. IsPermutation (map (place_at levels) (range_with_len 0 n)) sorted in
    let Q : List Place → Type 0 = λ xs. IsPermutation xs sorted in
    let moved = subst P full (subst Q c.loop-number.invariant c.in_ok-sort_by_key.ensures.permutation) in
    let rises : IsNonDecreasingBy (λ (p : Place). p.level) sorted = IsNonDecreasingBy-from_sort_by_key (λ (p : Place). p.level) _ c.in_ok-sort_by_key.ensures.sorted (λ a r q k. search rules) in
    let all : take c.loop-place.place-index c.deref-place-items.result.now ≡ sorted =
    take_all c.loop-place.place-index c.deref-place-items.result.now (omega arith) ∙ c.deref-place-items.ensures.value in
    let numbers : c.loop-place.order.items ≡ map (number_of levels) sorted = c.loop-place.invariant ∙ ap (λ xs. map (number_of levels) xs) all in
    rw numbers (in_order levels sorted moved rises)
