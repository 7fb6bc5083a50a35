use Rattle.layout_core.proofs.Wholes.{whole_layouts, some_page}
use Rattle.layout_core.proofs.document.read_document.Goals as goal

pub pages_text-requires : goal.pages_text-requires
pages_text-requires g c =
    let read = c.in_ok-layouts.ensures.wanted in
    whole_layouts c.args.plan.now read.pages c.in_ok-layouts.layouts read.are_layouts (some_page (read.reads).input read.pages (read.reads).spells)
