use Rattle.std.proofs.Common.{refl}
use Rattle.std.proofs.lemmas.Result.{err_from_is_err_and}
use Rattle.layout_core.proofs.page_layout.numbered_layout.Goals as goal

pub returns-in_err-layout-clause-fault : goal.returns-in_err-layout-clause-fault
returns-in_err-layout-clause-fault g c =
    let p = err_from_is_err_and c.from_residual.result c.from_residual.ensures.1 in
    λ held holds. rw (p.1, p.2) (c.in_err-layout.ensures.fault held holds)

pub returns-clause-layout : goal.returns-clause-layout
returns-clause-layout g c =
    λ held holds.
    let is = c.in_ok-layout.ensures.layout held holds in
    record {
      kept = is.kept;
      is_kept = is.is_kept;
      whole = is.whole;
      sides = is.sides;
      number_is = refl;
      width_is = is.width_is;
      height_is = is.height_is;
      black_is = is.black_is;
      kept_is = is.kept_is;
      median_is = is.median_is;
      cover = is.cover;
      gutters_are = is.gutters_are;
      image_is = is.image_is;
      found = is.found;
      are_lines = is.are_lines;
      numbered = is.numbered;
      order_is = is.order_is;
      areas_are = is.areas_are;
      with_words_is = is.with_words_is;
      words_are = is.words_are;
      cells_are = is.cells_are;
      blocks_are = is.blocks_are;
    }
