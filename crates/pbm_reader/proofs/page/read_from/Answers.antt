use Rattle.std.proofs.Common.{[]}
use Rattle.std.proofs.lemmas.Result.{err_from_is_err_and}
use Rattle.layout_outside.specs.Taken.{Took, TookAll}
use Rattle.pbm_reader.specs.declared.form.Form.{Form}
use Rattle.pbm_reader.specs.Spelling.{magic}
use Rattle.pbm_reader.proofs.Taken.{some_of, none_of}
use Rattle.pbm_reader.proofs.HeaderLoop.{name_refuses, nothing_named}
use Rattle.pbm_reader.proofs.TopRows.{rows_top}
use Rattle.pbm_reader.proofs.WholePage.{tail_refuses, page_read}
use Rattle.pbm_reader.proofs.page.read_from.Goals as goal

pub returns-in_default-clause-fault : goal.returns-in_default-clause-fault
returns-in_default-clause-fault g c =
    let old = c.args.feed.now.source in
    let new = c.read_name.new.feed.source in
    nothing_named old new (none_of c.in_ok-form.field-0 (TookAll old new []) c.in_default.is c.in_ok-form.ensures.end)

pub returns-in_err-form-clause-fault : goal.returns-in_err-form-clause-fault
returns-in_err-form-clause-fault g c =
    let p = err_from_is_err_and c.from_residual.result c.from_residual.ensures.1 in
    rw (p.1, p.2) (name_refuses c.args.feed.now.source c.read_name.new.feed.source c.in_err-form.field-0.0 c.in_err-form.ensures.fault)

pub returns-in_err-read-clause-fault : goal.returns-in_err-read-clause-fault
returns-in_err-read-clause-fault g c =
    let p = err_from_is_err_and c.from_residual-in_err-read.result c.from_residual-in_err-read.ensures.1 in
    let old = c.args.feed.now.source in
    let named = some_of c.in_ok-form.field-0 c.in-Some.form (λ (form : Form). Took old c.read_name.new.feed.source (magic form)) c.in-Some.is c.in_ok-form.ensures.name in
    let f = c.in_err-read.ensures.fault old named in
    rw (p.1, p.2) f.refuses

pub returns-in_err-read-clause-top : goal.returns-in_err-read-clause-top
returns-in_err-read-clause-top g c =
    let p = err_from_is_err_and c.from_residual-in_err-read.result c.from_residual-in_err-read.ensures.1 in
    let old = c.args.feed.now.source in
    let named = some_of c.in_ok-form.field-0 c.in-Some.form (λ (form : Form). Took old c.read_name.new.feed.source (magic form)) c.in-Some.is c.in_ok-form.ensures.name in
    rw (p.1, p.2) (c.in_err-read.ensures.top old named)

pub returns-in_err-read_tail-clause-fault : goal.returns-in_err-read_tail-clause-fault
returns-in_err-read_tail-clause-fault g c =
    let p = err_from_is_err_and c.from_residual-in_err-read_tail.result c.from_residual-in_err-read_tail.ensures.1 in
    let old = c.args.feed.now.source in
    let named = some_of c.in_ok-form.field-0 c.in-Some.form (λ (form : Form). Took old c.read_name.new.feed.source (magic form)) c.in-Some.is c.in_ok-form.ensures.name in
    let read = c.in_ok-read.read in
    let t = c.in_ok-read.ensures.ok old named in
    rw (p.1, p.2) (tail_refuses g.R.RowSink.given old t.middle c.read_rows.new.feed.source c.read_tail.new.feed.source read.header read.end t.empty c.read_rows.new.rows c.in_err-read_tail.field-0.0 t.header
    t.raster c.in_err-read_tail.ensures.fault)

pub returns-in_err-read_tail-clause-top : goal.returns-in_err-read_tail-clause-top
returns-in_err-read_tail-clause-top g c =
    let p = err_from_is_err_and c.from_residual-in_err-read_tail.result c.from_residual-in_err-read_tail.ensures.1 in
    let old = c.args.feed.now.source in
    let named = some_of c.in_ok-form.field-0 c.in-Some.form (λ (form : Form). Took old c.read_name.new.feed.source (magic form)) c.in-Some.is c.in_ok-form.ensures.name in
    rw (p.1, p.2) (rows_top g.R.RowSink.begun g.R.RowSink.given g.R.RowSink.unchanged old c.read_rows.new.feed.source c.read_tail.new.feed.source c.in_ok-read.read c.args.rows.now c.read_rows.new.rows
    c.in_err-read_tail.field-0.0 (c.in_ok-read.ensures.ok old named) c.in_err-read_tail.ensures.fault)

pub returns-clause-page : goal.returns-clause-page
returns-clause-page g c =
    let old = c.args.feed.now.source in
    let named = some_of c.in_ok-form.field-0 c.in-Some.form (λ (form : Form). Took old c.read_name.new.feed.source (magic form)) c.in-Some.is c.in_ok-form.ensures.name in
    let read = c.in_ok-read.read in
    let t = c.in_ok-read.ensures.ok old named in
    page_read g.R.RowSink.begun g.R.RowSink.given old t.middle c.read_rows.new.feed.source c.read_tail.new.feed.source read.header read.end c.in_ok-read_tail.field-0 c.args.rows.now t.empty c.read_rows.new.rows
    t.header t.begins t.raster c.in_ok-read_tail.ensures.ok
