-- The refusal of a page that has no layout.
use Rattle.layout_core.specs.declared.page_layout.CoreFault.{CoreFault}
use Rattle.layout_core.specs.declared.page_layout.CoreFault.TheVariants as faults
use Rattle.layout_core.specs.declared.refusal.Refusal.{Refusal}
use Rattle.layout_core.specs.declared.refusal.Refusal.TheVariants as refusals

abbrev pub refusal_of : CoreFault → Refusal
refusal_of (faults.TooMany count) = refusals.TooMany count
refusal_of faults.Memory = refusals.Memory
