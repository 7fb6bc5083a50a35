use Rattle.std.proofs.Common.{◌≡◌, length}
use Rattle.page_runs.specs.Packed.{page_of, rows_of}
use Rattle.page_runs.specs.Given.{AfterRows}
use Rattle.page_runs.specs.Rows.{Given}
use Rattle.made_page.specs.Made.{page_of_blocks}
use Rattle.made_page.proofs.painting.paint.Given as goal

-- The page that was begun got the rows above this one.
abbrev pub invariant-loop-y : goal.invariant-loop-y
invariant-loop-y l = record {
  len : length l.bits ≡ 310;
  width : (page_of l.page).width ≡ 2480;
  height : (page_of l.page).height ≡ 3508;
  rows : rows_of l.page ≡ l.y;
  given : AfterRows Given (page_of_blocks l.blocks) l.y l.initial.page l.page;
}
