-- Lines have one reading order.
use Rattle.std.proofs.Common.{◌≡◌, ℕ, ◌≤◌, List, [], ◌∷◌, length, get_or, arith, refl, sym, ap, ⊎_elim}
use Rattle.std.proofs.lemmas.List.Elements.{All-head}
use Rattle.layout_geom.specs.declared.rect.Rect.{Rect}
use Rattle.layout_geom.specs.declared.order.Order.{Order}
use Rattle.layout_geom.specs.declared.order.Order.TheVariants.{Topological, Cycle}
use Rattle.reading_order.specs.Lexical.{IsLexicallyAtMost}
use Rattle.reading_order.specs.Orders.{IsLeastTopologicalOrder}
use Rattle.reading_order.specs.Cycles.{IsCycle, StartAlike, IsLeastCycle}
use Rattle.reading_order.specs.Answers.{IsReadingOrder}

-- two lists, each at most the other, are one
one_word : (xs ys : List ℕ) → IsLexicallyAtMost xs ys → IsLexicallyAtMost ys xs → xs ≡ ys
one_word [] [] first second = refl
one_word [] (y ∷ ys) first second = absurd second
one_word (x ∷ xs) [] first second = absurd first
one_word (x ∷ xs) (y ∷ ys) first second =
    ⊎_elim
    (λ less. ⊎_elim (λ more. absurd (omega (arith, less, more))) (λ same. absurd (omega (arith, less, same.0))) second)
    (λ same. ⊎_elim (λ more. absurd (omega (arith, more, same.0))) (λ back. cc (same.0, one_word xs ys same.1 back.1)) second)
    first

module _ (before : ℕ → ℕ → Type 0) (limit : ℕ) where
  one_least_order : (xs ys : List ℕ) → IsLeastTopologicalOrder before limit xs → IsLeastTopologicalOrder before limit ys → xs ≡ ys
  one_least_order xs ys first second = one_word xs ys (first.least ys second.is_order) (second.least xs first.is_order)

  -- no cycle starts below the least
  starts_below : (xs ys : List ℕ) → IsLeastCycle before limit xs → IsCycle before limit ys → get_or xs 0 0 ≤ get_or ys 0 0
  starts_below xs [] first cycle = absurd cycle.ring
  starts_below xs (y ∷ ys) first cycle = All-head (λ x. get_or xs 0 0 ≤ x) y ys (first.start (y ∷ ys) cycle)

  one_least_cycle : (xs ys : List ℕ) → IsLeastCycle before limit xs → IsLeastCycle before limit ys → xs ≡ ys
  one_least_cycle xs ys first second =
      let alike : StartAlike xs ys = omega (arith, starts_below xs ys first second.is_cycle, starts_below ys xs second first.is_cycle) in
      let size : length xs ≡ length ys = omega (arith, first.shortest ys second.is_cycle alike, second.shortest xs first.is_cycle (sym alike)) in
      one_word xs ys (first.least ys second.is_cycle alike size) (second.least xs first.is_cycle (sym alike) (sym size))

pub one_order : (lines : List Rect) (o p : Order) → IsReadingOrder lines o → IsReadingOrder lines p → o ≡ p
one_order lines (Topological xs) (Topological ys) first second = ap Topological (one_least_order _ _ xs ys first second)
one_order lines (Topological xs) (Cycle ys) first second = absurd (second.1 xs first.is_order)
one_order lines (Cycle xs) (Topological ys) first second = absurd (first.1 ys second.is_order)
one_order lines (Cycle xs) (Cycle ys) first second = ap Cycle (one_least_cycle _ _ xs ys first.0 second.0)
