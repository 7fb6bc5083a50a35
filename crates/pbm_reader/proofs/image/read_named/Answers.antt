use Rattle.std.proofs.Common.{◌++◌, sym, subst}
use Rattle.std.proofs.lemmas.Result.{err_from_is_err_and}
use Rattle.pbm_reader.specs.declared.form.Form.{Form}
use Rattle.pbm_reader.specs.Tail.{TailFails}
use Rattle.pbm_reader.proofs.TopRows.{rows_top}
use Rattle.pbm_reader.proofs.ImageRead.{read_fails, behind_fails, image_read, tail_low}
use Rattle.pbm_reader.specs.Images.{AreUndecided}
use Rattle.pbm_reader.specs.Spelling.{magic}
use Rattle.pbm_reader.proofs.Held.{kept_held}
use Rattle.pbm_reader.proofs.image.read_named.Goals as goal

pub returns-in_err-read-clause-fault : goal.returns-in_err-read-clause-fault
returns-in_err-read-clause-fault g c =
    let p = err_from_is_err_and c.from_residual.result c.from_residual.ensures.1 in
    rw (p.1, p.2) (λ first named. read_fails c.args.is_first c.args.form first c.args.feed.now.source c.read_rows.new.feed.source c.in_err-read.field-0.0 c.requires.place named
    (c.in_err-read.ensures.fault first named))

pub returns-in_err-len-clause-low : goal.returns-in_err-len-clause-low
returns-in_err-len-clause-low g c =
    let p = err_from_is_err_and c.from_residual-in_err-len.result c.from_residual-in_err-len.ensures.1 in
    rw (p.1, p.2) (tail_low c.read_rows.new.feed.source c.read_behind.new.feed.source c.args.form c.in_ok-read.read.end c.in_err-len.field-0.0 c.in_err-len.ensures.fault.0)

pub returns-in_err-len-clause-fault : goal.returns-in_err-len-clause-fault
returns-in_err-len-clause-fault g c =
    let p = err_from_is_err_and c.from_residual-in_err-len.result c.from_residual-in_err-len.ensures.1 in
    let e = c.in_ok-read.ensures in
    rw (p.1, p.2) (λ first named. behind_fails g.R.RowSink.begun g.R.RowSink.given c.args.is_first first c.args.feed.now.source c.read_rows.new.feed.source c.read_behind.new.feed.source c.in_ok-read.read
    c.args.form c.args.rows.now c.read_rows.new.rows c.in_err-len.field-0.0 e.form c.requires.place named (e.ok first named) c.in_err-len.ensures.fault)

pub returns-in_err-len-clause-top : goal.returns-in_err-len-clause-top
returns-in_err-len-clause-top g c =
    let p = err_from_is_err_and c.from_residual-in_err-len.result c.from_residual-in_err-len.ensures.1 in
    let e = c.in_ok-read.ensures in
    rw (p.1, p.2) (λ first named. rows_top g.R.RowSink.begun g.R.RowSink.given g.R.RowSink.unchanged first c.read_rows.new.feed.source c.read_behind.new.feed.source c.in_ok-read.read c.args.rows.now
    c.read_rows.new.rows c.in_err-len.field-0.0 (e.ok first named)
    (subst (λ (f : Form). TailFails c.read_rows.new.feed.source c.read_behind.new.feed.source f c.in_ok-read.read.end c.in_err-len.field-0.0) (sym e.form) c.in_err-len.ensures.fault.0))

pub returns-clause-image : goal.returns-clause-image
returns-clause-image g c =
    let e = c.in_ok-read.ensures in
    λ first named. image_read g.R.RowSink.begun g.R.RowSink.given first c.read_rows.new.feed.source c.read_behind.new.feed.source c.in_ok-read.read c.args.form c.in_ok-len.len c.args.rows.now
    c.read_rows.new.rows e.form (e.ok first named) c.in_ok-len.ensures.ok

-- ---- what is held

pub returns-in_err-read-clause-held : goal.returns-in_err-read-clause-held
returns-in_err-read-clause-held g c =
    let p = err_from_is_err_and c.from_residual.result c.from_residual.ensures.1 in
    rw (p.1, p.2) (λ raw. c.in_err-read.ensures.held raw)

pub returns-in_err-len-clause-held : goal.returns-in_err-len-clause-held
returns-in_err-len-clause-held g c = λ raw. let n = c.in_err-len.ensures.nothing raw in absurd n.1

pub returns-clause-held : goal.returns-clause-held
returns-clause-held g c =
    let old = c.args.feed.now in
    λ raw. let n = c.in_ok-len.ensures.nothing raw in
    kept_held old c.read_rows.new.feed c.read_behind.new.feed (AreUndecided (magic c.args.form ++ old.unread)) n.0 (c.in_ok-read.ensures.held raw)
