use Rattle.std.proofs.Common.{ℕ, ◌≤◌, List, length, map, refl, subst, ◌∙◌, inl, inr, arith}
use Rattle.std.proofs.lemmas.Result.{err_from_is_err_and}
use Rattle.std.proofs.lemmas.List.{length-map}
use Rattle.page_runs.specs.Page.{Page}
use Rattle.layout_geom.specs.declared.rect.Rect.{Rect}
use Rattle.hocr_writer.specs.Listing.{listing}
use Rattle.reading_order.specs.Areas.{AreAreasOf}
use Rattle.layout_core.specs.Numbering.{box_of}
use Rattle.page_runs.specs.Packed.{page_of}
use Rattle.components.specs.declared.kept.CompFault.{CompFault}
use Rattle.components.specs.declared.kept.CompFault.TheVariants as faults
use Rattle.components.specs.declared.kept.Kept.{Kept}
use Rattle.components.specs.Kept.{IsFaultOf, IsKeptOf}
use Rattle.command_words.specs.declared.plan.Plan.{Plan}
use Rattle.layout_core.specs.declared.page_layout.CoreFault.{CoreFault}
use Rattle.layout_core.specs.declared.page_layout.CoreFault.TheVariants as core
use Rattle.layout_core.specs.ShownBlocks.{IsBlockFault}
use Rattle.whitespace_cover.specs.Cover.{IsCover}
use Rattle.line_search.specs.Lines.{AreLinesOf}
use Rattle.layout_core.specs.Found.{core_fault_of}
use Rattle.layout_core.specs.Layouts.{IsCoreFault}
use Rattle.layout_core.proofs.Inside.{filter_few, holds_itself, kept_inside, numbered_inside}
use Rattle.layout_core.proofs.Members.{ordered_members}
use Rattle.layout_core.proofs.page_layout.layout_of.Goals as goal

faulted : (plan : Plan) (page : Page) (fault : CompFault) → IsFaultOf page fault → IsCoreFault plan page (core_fault_of fault)
faulted plan page (faults.TooMany count) f = inl (record { counted = f.0; many = f.1 })
faulted plan page faults.Memory f = tt

too_many_blocks : (plan : Plan) (page : Page) (kept : Kept) → IsKeptOf page kept → (fault : CoreFault) → IsBlockFault plan.blocks page kept.median fault → IsCoreFault plan page fault
too_many_blocks plan page kept is (core.TooMany count) f =
    inr (f.0, record { kept = kept; is_kept = is; smear = f.1; is_smear = f.2; many = record { counted = f.3; many = f.4 } })
too_many_blocks plan page kept is core.Memory f = tt

pub returns-in_err-kept-clause-fault : goal.returns-in_err-kept-clause-fault
returns-in_err-kept-clause-fault g c =
    let p = err_from_is_err_and c.from_residual.result c.from_residual.ensures.1 in
    λ held holds. rw (p.1, p.2) (faulted c.args.plan.now held c.in_err-kept.field-0.0 (c.in_err-kept.ensures.fault held holds))

pub returns-in_err-blocks-clause-fault : goal.returns-in_err-blocks-clause-fault
returns-in_err-blocks-clause-fault g c =
    let p = err_from_is_err_and c.from_residual-in_err-blocks.result c.from_residual-in_err-blocks.ensures.1 in
    λ held holds. rw (p.1, p.2) (too_many_blocks c.args.plan.now held c.in_ok-kept.kept (c.in_ok-kept.ensures.kept held holds) c.in_err-blocks.field-0.0 (c.in_err-blocks.ensures.fault held holds))

pub cover-requires-clause-boxes : goal.cover-requires-clause-boxes
cover-requires-clause-boxes g c = (c.in_ok-kept.ensures.kept (page_of c.args.page.now) (holds_itself c.args.page.now)).few

pub lines-requires-clause-few_boxes : goal.lines-requires-clause-few_boxes
lines-requires-clause-few_boxes g c = (c.in_ok-kept.ensures.kept (page_of c.args.page.now) (holds_itself c.args.page.now)).few

pub lines-requires-clause-few_gutters : goal.lines-requires-clause-few_gutters
lines-requires-clause-few_gutters g c =
    let few : length c.in_ok-gutters.gutters ≤ length c.in_ok-whites.whites = rw c.in_ok-gutters.ensures.filtered (filter_few _ c.in_ok-whites.whites) in
    omega (arith, few, c.in_ok-whites.ensures.cover.few, c.requires.few)

pub lines-requires-clause-contained : goal.lines-requires-clause-contained
lines-requires-clause-contained g c =
    let held = page_of c.args.page.now in
    (c.page_rect-whole.result, kept_inside held c.page_rect-whole.result c.page_rect-whole.ensures c.in_ok-kept.kept.boxes (c.in_ok-kept.ensures.kept held (holds_itself c.args.page.now)).boxes)

pub areas_in-requires-clause-contained : goal.areas_in-requires-clause-contained
areas_in-requires-clause-contained g c =
    let held = page_of c.args.page.now in
    let whole = c.page_rect-whole.result in
    let boxes = c.in_ok-kept.kept.boxes in
    let all = kept_inside held whole c.page_rect-whole.ensures boxes (c.in_ok-kept.ensures.kept held (holds_itself c.args.page.now)).boxes in
    (whole, rw c.in_ok-boxes.ensures (numbered_inside boxes c.in_ok-gutters.gutters _ _ whole all _ c.in_ok-found.found c.in_ok-lines.lines c.in_ok-found.ensures.lines (record { numbered = c.in_ok-numbered.numbered; in_order = c.in_ok-numbered.ensures; shown = c.in_ok-lines.ensures })))

pub shown_words-requires : goal.shown_words-requires
shown_words-requires g c =
    let held = page_of c.args.page.now in
    let is = c.in_ok-kept.ensures.kept held (holds_itself c.args.page.now) in
    ordered_members c.in_ok-kept.kept c.in_ok-gutters.gutters _ c.page_rect-whole.result c.in_ok-found.found c.in_ok-numbered.numbered
    (kept_inside held c.page_rect-whole.result c.page_rect-whole.ensures c.in_ok-kept.kept.boxes is.boxes) is.few c.in_ok-found.ensures.lines c.in_ok-numbered.ensures

pub shown_cells-requires-clause-contained : goal.shown_cells-requires-clause-contained
shown_cells-requires-clause-contained g c =
    let held = page_of c.args.page.now in
    (c.page_rect-whole.result, kept_inside held c.page_rect-whole.result c.page_rect-whole.ensures c.in_ok-kept.kept.boxes (c.in_ok-kept.ensures.kept held (holds_itself c.args.page.now)).boxes)

pub returns-clause-layout : goal.returns-clause-layout
returns-clause-layout g c =
    let kept = c.in_ok-kept.kept in
    let whole = c.page_rect-whole.result in
    let sides = c.page_rect-whole.ensures in
    let P : ℕ → Type 0 = λ least. IsCover whole kept.boxes least c.args.plan.now.rects c.in_ok-whites.whites in
    let Q : ℕ → Type 0 = λ height. AreLinesOf kept c.in_ok-gutters.gutters height c.in_ok-found.found in
    let order = c.in_ok-order.order in
    let R : List Rect → Type 0 = λ boxes. AreAreasOf boxes (listing order (length boxes)) kept.median c.in_ok-areas.areas in
    let S : ℕ → Type 0 = λ count. AreAreasOf (map box_of c.in_ok-lines.lines) (listing order count) kept.median c.in_ok-areas.areas in
    λ held holds.
    record {
      kept = kept;
      is_kept = c.in_ok-kept.ensures.kept held holds;
      whole = whole;
      sides = record { left = sides.left; top = sides.top; right = sides.right ∙ holds.width_is; bottom = sides.bottom ∙ holds.height_is };
      number_is = refl;
      width_is = c.width.ensures.value ∙ holds.width_is;
      height_is = c.height-2.ensures.value ∙ holds.height_is;
      black_is = c.black.ensures.held held holds;
      kept_is = c.len.ensures.value;
      median_is = refl;
      cover = subst P c.max-least.ensures c.in_ok-whites.ensures.cover;
      gutters_are = c.in_ok-gutters.ensures.filtered;
      image_is = c.in_ok-image.ensures;
      found = c.in_ok-found.found;
      are_lines = subst Q (c.height.ensures.value ∙ holds.height_is) c.in_ok-found.ensures.lines;
      numbered = record { numbered = c.in_ok-numbered.numbered; in_order = c.in_ok-numbered.ensures; shown = c.in_ok-lines.ensures };
      order_is = rw (← c.in_ok-boxes.ensures) c.in_ok-order.ensures.order;
      areas_are = subst S (length-map c.in_ok-lines.lines box_of) (subst R c.in_ok-boxes.ensures c.in_ok-areas.ensures);
      with_words_is = refl;
      words_are = c.in_ok-words.ensures;
      cells_are = c.in_ok-cells.ensures;
      blocks_are = c.in_ok-blocks.ensures.blocks held holds;
    }
