use Rattle.layout_core.proofs.Unique.{Laws, one_layout, one_output, pictured_pages, same_input, same_spelled}
use Rattle.layout_core.proofs.law.output_is_unique.Goals as goal

pub returns : goal.returns
returns c =
    let laws : Laws = record {
      kept = c.kept_is_unique.ensures;
      cover = c.cover_is_unique.ensures.one_cover;
      lines = c.lines_are_unique.ensures.one_list;
      order = c.order_and_areas_are_unique.ensures.one_order;
      areas = c.order_and_areas_are_unique.ensures.one_list_of_areas;
      words = c.words_are_unique.ensures.one_list;
      cells = c.cells_are_unique.ensures.one_list;
      smear = c.smear_is_unique.ensures.one_smear;
    } in
    let one_list = c.each_input_is_judged.ensures.one_list in
    let one_plan = c.words_have_one_plan.ensures.one_plan in
    record {
      one_layout = one_layout laws;
      one_output = λ run other p q has has_too same input told told_too.
          one_output laws one_list one_plan run other p q has has_too same
          (same_input laws one_list one_plan run other p q has has_too same input told told_too);
      one_document = λ run other p q has has_too same input respelled pages pictures told told_too spells spells_too pictured.
          one_output laws one_list one_plan run other p q has has_too same
          (same_spelled laws one_list one_plan run other p q has has_too same input respelled pages pictures told told_too spells spells_too
          (pictured_pages c.equal_pictures_are_one_page.ensures.one_page input respelled pages pictures spells spells_too pictured));
    }
