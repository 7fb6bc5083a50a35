-- What an order says of lines.
use Rattle.std.specs.Prelude.{◌≡◌, ℕ, List, length}
use Rattle.layout_geom.specs.declared.rect.Rect.{Rect}
use Rattle.layout_geom.specs.declared.order.Order.{Order}
use Rattle.layout_geom.specs.declared.order.Order.TheVariants.{Topological, Cycle}
use Rattle.reading_order.specs.Rules.{IsBefore}
use Rattle.reading_order.specs.Orders.{IsTopologicalOrder, IsLeastTopologicalOrder}
use Rattle.reading_order.specs.Cycles.{IsLeastCycle}

-- the least order that obeys both rules, or the least cycle where there is none
abbrev pub IsReadingOrder : List Rect → Order → Type 0
IsReadingOrder lines (Topological order) = IsLeastTopologicalOrder (IsBefore lines) (length lines) order
IsReadingOrder lines (Cycle cycle) =
    IsLeastCycle (IsBefore lines) (length lines) cycle
    × ((order : List ℕ) → IsTopologicalOrder (IsBefore lines) (length lines) order → ⊥)

-- lines have one of these at most
abbrev pub OrderIsUnique : Type 0
OrderIsUnique = (lines : List Rect) (o p : Order) → IsReadingOrder lines o → IsReadingOrder lines p → o ≡ p
