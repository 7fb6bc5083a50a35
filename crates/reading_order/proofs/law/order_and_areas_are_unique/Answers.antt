use Rattle.reading_order.proofs.UniqueOrder.{one_order}
use Rattle.reading_order.proofs.UniqueAreas.{one_list}
use Rattle.reading_order.proofs.law.order_and_areas_are_unique.Goals as goal

pub returns : goal.returns
returns c = record { one_order = one_order; one_list_of_areas = one_list }
