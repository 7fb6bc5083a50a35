use Rattle.std.proofs.Common.{◌<◌, arith}
use Rattle.page_runs.specs.Packed.{page_of}
use Rattle.components.proofs.Scanning.{root_sides}
use Rattle.components.proofs.scan.kept_boxes.Goals as goal

pub boxes_of-requires : goal.boxes_of-requires
boxes_of-requires c =
    let some : 0 < (page_of c.args.page.now).height = c.requires.some in
    let size = c.height-size.ensures.size (omega (arith, some, c.height-size.ensures.value)) in
    rw c.deref.ensures.value (record { sides = λ g below ends. root_sides _ _ c.in_ok-groups.ensures.done g below ends size })
