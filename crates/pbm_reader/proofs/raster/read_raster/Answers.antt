use Rattle.std.proofs.Common.{◌∙◌, refl, arith}
use Rattle.std.proofs.lemmas.Result.{err_from_is_err_and}
use Rattle.pbm_reader.proofs.EitherForm.{giving_none, giving_low, giving_more, giving_fails, giving_whole, giving_stops, giving_refused}
use Rattle.packed_rows.specs.Page.{row_len}
use Rattle.pbm_reader.proofs.Held.{held_row, held_row_fails, held_rows, no_held_rows}
use Rattle.pbm_reader.proofs.raster.read_raster.Goals as goal

pub loop-y-init : goal.loop-y-init
loop-y-init g c =
    let header = c.args.header in
    record {
      giving = giving_none g.R.RowSink.given c.args.feed.now.source header.len header.size.width header.size.height c.args.rows.now header.form c.requires.short;
      buffer = c.in_ok-row.ensures.len ∙ c.row_len-len.ensures;
      width = c.requires.width;
      height = omega (arith, c.requires.rows);
      held = λ raw. no_held_rows c.args.feed.now header.size.height (row_len header.size.width);
      same = refl;
      later = omega arith;
    }

pub read_row-requires-clause-low : goal.read_row-requires-clause-low
read_row-requires-clause-low g c =
    let header = c.args.header in
    giving_low g.R.RowSink.given c.args.feed.now.source header.len header.size.width header.size.height c.args.rows.now header.form c.loop-y.feed.source c.loop-y.at c.loop-y._y c.loop-y.rows
    c.loop-y.invariant.giving (omega arith) c.requires.size c.requires.short

pub loop-y-preserved : goal.loop-y-preserved
loop-y-preserved g c =
    let header = c.args.header in
    record {
      giving = giving_more g.R.RowSink.given c.args.feed.now.source header.len header.size.width header.size.height c.args.rows.now header.form c.loop-y.feed.source c.read_row.new.feed.source
          c.loop-y.at c.in_ok-at.at c.loop-y._y c.loop-y.rows c.read_row.new.rows c.loop-y.invariant.giving (omega arith) c.in_ok-at.ensures.ok;
      buffer = c.loop-y.invariant.buffer;
      width = c.in_ok-at.ensures.width;
      height = omega (arith, c.in_ok-at.ensures.rows, c.loop-y.invariant.height);
      held = λ raw. held_row c.args.feed.now c.loop-y.feed c.read_row.new.feed c.loop-y._y header.size.height (row_len header.size.width) c.in_ok-at.at (c.loop-y.invariant.held raw) (omega arith)
          (c.in_ok-at.ensures.held raw);
      same = c.read_row.ensures.same ∙ c.loop-y.invariant.same;
      later = omega arith;
    }

pub returns-in_err-row-clause-top : goal.returns-in_err-row-clause-top
returns-in_err-row-clause-top g c =
    let p = err_from_is_err_and c.from_residual.result c.from_residual.ensures.1 in
    let header = c.args.header in
    rw (p.1, p.2) (giving_refused g.R.RowSink.given c.args.feed.now.source header.len header.size.width header.size.height c.args.rows.now g.R.RowSink.unchanged header.form c.requires.short)

pub returns-in_err-at-clause-fault : goal.returns-in_err-at-clause-fault
returns-in_err-at-clause-fault g c =
    let p = err_from_is_err_and c.from_residual-in_err-at.result c.from_residual-in_err-at.ensures.1 in
    let header = c.args.header in
    rw (p.1, p.2) (giving_fails g.R.RowSink.given c.args.feed.now.source header.len header.size.width header.size.height c.args.rows.now header.form c.loop-y.feed.source c.read_row.new.feed.source
    c.loop-y.at c.loop-y._y c.loop-y.rows c.in_err-at.field-0.0 c.loop-y.invariant.giving (omega arith) c.requires.size c.requires.short c.in_err-at.ensures.fault)

pub returns-in_err-at-clause-top : goal.returns-in_err-at-clause-top
returns-in_err-at-clause-top g c =
    let p = err_from_is_err_and c.from_residual-in_err-at.result c.from_residual-in_err-at.ensures.1 in
    let header = c.args.header in
    rw (p.1, p.2) (giving_stops g.R.RowSink.given c.args.feed.now.source header.len header.size.width header.size.height c.args.rows.now g.R.RowSink.unchanged header.form c.loop-y.feed.source
    c.read_row.new.feed.source c.loop-y.at c.loop-y._y c.loop-y.rows c.read_row.new.rows c.in_err-at.field-0.0 c.loop-y.invariant.giving (omega arith) c.in_err-at.ensures.stays c.in_err-at.ensures.fault)

pub returns-clause-ok : goal.returns-clause-ok
returns-clause-ok g c =
    let header = c.args.header in
    giving_whole g.R.RowSink.given c.args.feed.now.source header.len header.size.width header.size.height c.args.rows.now header.form c.loop-y.feed.source c.loop-y.at c.loop-y._y c.loop-y.rows
    c.loop-y.invariant.giving (omega arith) c.requires.size c.requires.short

pub returns-in_err-at-clause-held : goal.returns-in_err-at-clause-held
returns-in_err-at-clause-held g c =
    let p = err_from_is_err_and c.from_residual-in_err-at.result c.from_residual-in_err-at.ensures.1 in
    let header = c.args.header in
    rw (p.1, p.2) (λ raw. held_row_fails c.args.feed.now c.loop-y.feed c.read_row.new.feed c.loop-y._y header.size.height (row_len header.size.width) c.in_err-at.field-0.0 (c.loop-y.invariant.held raw)
    (omega arith) (c.in_err-at.ensures.held raw))

pub returns-clause-held : goal.returns-clause-held
returns-clause-held g c =
    let header = c.args.header in
    λ raw. held_rows c.args.feed.now c.loop-y.feed c.loop-y._y header.size.height (row_len header.size.width) c.loop-y.at (c.loop-y.invariant.held raw) (omega arith)
