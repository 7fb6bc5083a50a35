use Rattle.std.proofs.Common.{◌≡◌, ◌∙◌, ℕ, List, Some, None, sum, arith, subst, sym, ap}
use Rattle.std.specs.List.Sorted.{IsNonDecreasing}
use Rattle.std.proofs.lemmas.List.Sorted.{IsNonDecreasingBy-from_sort, sum_by-IsPermutation}
use Rattle.std.proofs.lemmas.Bool.{false≢true}
use Rattle.word_split.proofs.Moved.{threshold_of_moved}
use Rattle.word_split.proofs.Chosen.{threshold_some, threshold_narrow, threshold_none, from_sorted}
use Rattle.word_split.proofs.threshold.threshold_of.Goals as goal

pub best_parting-requires-clause-rises : goal.best_parting-requires-clause-rises
best_parting-requires-clause-rises c =
    subst (λ (gaps : List ℕ). IsNonDecreasing gaps) (sym c.deref.ensures.value)
    (IsNonDecreasingBy-from_sort (λ (gap : ℕ). gap) c.sort_unstable.new.self.items c.sort_unstable.ensures.sorted)

pub best_parting-requires-clause-slim : goal.best_parting-requires-clause-slim
best_parting-requires-clause-slim c =
    let same : sum c.in_ok-rising.rising.items ≡ sum c.args.gaps.now = ap (λ (gaps : List ℕ). sum gaps) c.in_ok-rising.ensures.items in
    let moved : sum c.sort_unstable.new.self.items ≡ sum c.in_ok-rising.rising.items =
    sum_by-IsPermutation (λ (gap : ℕ). gap) c.in_ok-rising.rising.items c.sort_unstable.new.self.items c.sort_unstable.ensures.permutation in
    rw c.deref.ensures.value (omega (arith, same, moved, c.requires.slim))

pub returns-in_default : goal.returns-in_default
returns-in_default c =
    threshold_of_moved c.deref.result.now c.args.gaps.now c.args.median None
    (from_sorted _ _ _ _ c.in_ok-rising.ensures.items c.sort_unstable.ensures.permutation c.deref.ensures.value)
    (threshold_none c.deref.result.now c.args.median c.in_default.ensures)

pub returns-then-parts_words : goal.returns-then-parts_words
returns-then-parts_words c =
    threshold_of_moved c.deref.result.now c.args.gaps.now c.args.median (Some c.in-Some.best.threshold)
    (from_sorted _ _ _ _ c.in_ok-rising.ensures.items c.sort_unstable.ensures.permutation c.deref.ensures.value)
    (threshold_some c.deref.result.now c.in-Some.best c.args.median c.in-Some.ensures (c.parts_words.ensures.0 c.if-parts_words.true))

pub returns : goal.returns
returns c =
    threshold_of_moved c.deref.result.now c.args.gaps.now c.args.median None
    (from_sorted _ _ _ _ c.in_ok-rising.ensures.items c.sort_unstable.ensures.permutation c.deref.ensures.value)
    (threshold_narrow c.deref.result.now c.in-Some.best c.args.median c.in-Some.ensures (λ wide. false≢true (sym c.if-parts_words.false ∙ c.parts_words.ensures.1 wide)))
