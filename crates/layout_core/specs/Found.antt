-- The fault of a page whose components were not found.
use Rattle.components.specs.declared.kept.CompFault.{CompFault}
use Rattle.components.specs.declared.kept.CompFault.TheVariants as faults
use Rattle.layout_core.specs.declared.page_layout.CoreFault.{CoreFault}
use Rattle.layout_core.specs.declared.page_layout.CoreFault.TheVariants as core

abbrev pub core_fault_of : CompFault → CoreFault
core_fault_of (faults.TooMany count) = core.TooMany count
core_fault_of faults.Memory = core.Memory
