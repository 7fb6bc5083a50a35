use Rattle.std.proofs.Common.{◌≡◌, map, take}
use Rattle.std.specs.List.{range_with_len}
use Rattle.reading_order.proofs.Sorting.{place_at, number_of}
use Rattle.reading_order.proofs.sweep.numbers_by.Given as goal

abbrev pub invariant-loop-number : goal.invariant-loop-number
invariant-loop-number l = l.places.items ≡ map (place_at l.levels) (range_with_len 0 l.number)

abbrev pub invariant-loop-place : goal.invariant-loop-place
invariant-loop-place l = l.order.items ≡ map (number_of l.levels) (take l.place-index l.place-items)
