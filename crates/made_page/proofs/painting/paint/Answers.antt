use Rattle.std.proofs.Common.{◌≡◌, length, arith, ◌∙◌}
use Rattle.page_runs.specs.Rows.{Given}
use Rattle.made_page.specs.Made.{page_of_blocks}
use Rattle.made_page.proofs.Rows.{painted_row, row_more, all_given}
use Rattle.made_page.proofs.painting.paint.Goals as goal

pub loop-y-preserved : goal.loop-y-preserved
loop-y-preserved c =
    let l = c.loop-y in
    let page = page_of_blocks c.args.blocks.now in
    let bits = c.put_row.new.bits in
    let given : Given l.page bits c.push_row.new.self = c.in_ok-push_row.ensures.ok in
    let len : length bits ≡ 310 = c.put_row.ensures.len ∙ l.invariant.len in
    record {
      len = len;
      width = given.width_is ∙ l.invariant.width;
      height = given.height_is ∙ l.invariant.height;
      rows = omega (arith, given.rows_is, l.invariant.rows);
      given = row_more page l.y c.begin.new.self l.page c.push_row.new.self bits l.invariant.given (painted_row c.args.blocks.now l.y bits (omega (arith, c.loop-y-test.true)) len c.put_row.ensures.pixels) given;
    }

pub returns-clause-held : goal.returns-clause-held
returns-clause-held c =
    let l = c.loop-y in
    (all_given c.given_page_is_held.ensures (page_of_blocks c.args.blocks.now) l.y c.empty-page.result c.begin.new.self l.page (omega (arith, c.loop-y-test.false, l.auto.y-end)) c.in_ok-begin.ensures.ok l.invariant.given).1
