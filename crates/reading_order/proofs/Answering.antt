-- The answer about lines from a table that shows the rules.
use Rattle.std.proofs.Common.{◌≡◌, ◌≢◌, ℕ, ◌++◌, List, length, arith, sym, ◌∙◌, subst}
use Rattle.std.proofs.lemmas.List.{length-append}
use Rattle.layout_geom.specs.declared.rect.Rect.{Rect}
use Rattle.reading_order.specs.declared.table.Table.{Table}
use Rattle.reading_order.specs.Rules.{IsBefore}
use Rattle.reading_order.specs.Tables.{Marks}
use Rattle.reading_order.specs.Shown.{IsShown}
use Rattle.reading_order.specs.Orders.{IsTopologicalOrder, IsLeastTopologicalOrder}
use Rattle.reading_order.specs.Cycles.{IsCycle, IsLeastCycle}
use Rattle.reading_order.specs.Fronts.{IsGreedy}
use Rattle.reading_order.proofs.Members.{length_whole}
use Rattle.reading_order.proofs.Fronts.{least_order}
use Rattle.reading_order.proofs.Stuck.{some_cycle}
use Rattle.reading_order.proofs.Agreeing.{least_order_to, least_cycle_to, no_order}

module _ (lines : List Rect) (table : Table) (side : table.side ≡ length lines) (shown : IsShown lines table (length lines)) where
  pub topological : (order : List ℕ) → IsGreedy (Marks table) table.side order → length order ≡ length lines → IsLeastTopologicalOrder (IsBefore lines) (length lines) order
  topological order greedy full =
      let P : ℕ → Type 0 = λ n. IsLeastTopologicalOrder (Marks table) n order in
      least_order_to (Marks table) (IsBefore lines) (length lines) shown order
      (subst P side (least_order (Marks table) table.side order greedy.left greedy.front (full ∙ sym side)))

  pub cyclic : (order : List ℕ) → IsGreedy (Marks table) table.side order → length order ≢ length lines → (cycle : List ℕ) × IsCycle (Marks table) table.side cycle
  cyclic order greedy few =
      let size = length_whole table.side (order ++ greedy.left) greedy.front.whole in
      some_cycle (Marks table) table.side order greedy (omega (arith, size, few, side, length-append order greedy.left))

  pub least : (cycle : List ℕ) → IsLeastCycle (Marks table) table.side cycle → IsLeastCycle (IsBefore lines) (length lines) cycle × ((order : List ℕ) → IsTopologicalOrder (IsBefore lines) (length lines) order → ⊥)
  least cycle is =
      let P : ℕ → Type 0 = λ n. IsLeastCycle (Marks table) n cycle in
      let moved = least_cycle_to (Marks table) (IsBefore lines) (length lines) shown cycle (subst P side is) in
      (moved, λ order obeys. no_order (IsBefore lines) (length lines) order obeys cycle moved.is_cycle)
