use Rattle.std.proofs.Common.{ℕ, ◌++◌, refl, ap, Result, Ok, Err, arith}
use Rattle.std.specs.Io.KnownBytes.{prepend_known}
use Rattle.std.proofs.lemmas.Result.{err_from_is_err_and}
use Rattle.layout_outside.specs.Views.{SourceView}
use Rattle.pbm_reader.specs.declared.fault.PageFault.{PageFault}
use Rattle.pbm_reader.specs.declared.form.Form.{Form}
use Rattle.pbm_reader.specs.Spelling.{magic}
use Rattle.pbm_reader.proofs.TopRows.{top_rows}
use Rattle.pbm_reader.proofs.ImageRead.{header_fails, rows_fail, memory_fails, header_low, raster_low}
use Rattle.pbm_reader.specs.Images.{AreUndecided}
use Rattle.pbm_reader.proofs.Held.{begin_held, rows_held}
use Rattle.pbm_reader.proofs.rows.read_rows.Goals as goal

-- a source before the name was taken
abbrev before_name : SourceView → Form → SourceView
before_name now form = record { left = prepend_known (magic form) now.left; faults = now.faults; ended = now.ended }

pub returns-in_err-header-clause-fault : goal.returns-in_err-header-clause-fault
returns-in_err-header-clause-fault g c =
    let p = err_from_is_err_and c.from_residual.result c.from_residual.ensures.1 in
    let e = c.in_err-header.ensures in
    rw (p.1, p.2) (λ first named. header_fails first c.read_sizes.new.feed.source c.in_err-header.field-0.0 (e.fault first named) e.of_header
    (λ at is. e.ended at (ap (λ (k : PageFault). Err k) is)) (λ is. e.cut (ap (λ (k : PageFault). Err k) is) first named))

pub returns-in_err-header-clause-low : goal.returns-in_err-header-clause-low
returns-in_err-header-clause-low g c =
    let p = err_from_is_err_and c.from_residual.result c.from_residual.ensures.1 in
    rw (p.1, p.2) (header_low c.in_err-header.field-0.0 c.in_err-header.ensures.of_header)

pub returns-in_err-begin-clause-fault : goal.returns-in_err-begin-clause-fault
returns-in_err-begin-clause-fault g c =
    let p = err_from_is_err_and c.from_residual-in_err-begin.result c.from_residual-in_err-begin.ensures.1 in
    rw (p.1, p.2) (λ first named. memory_fails first c.read_sizes.new.feed.source)

pub returns-in_err-end-clause-low : goal.returns-in_err-end-clause-low
returns-in_err-end-clause-low g c =
    let p = err_from_is_err_and c.from_residual-in_err-end.result c.from_residual-in_err-end.ensures.1 in
    let h = c.in_ok-header.header in
    rw (p.1, p.2)
    (raster_low c.read_sizes.new.feed.source c.read_raster.new.feed.source h.form h.size.width h.size.height h.len c.in_err-end.field-0.0 c.in_err-end.ensures.fault)

pub begin-requires : goal.begin-requires
begin-requires g c =
    let h = c.in_ok-header.ensures.header (before_name c.args.feed.now.source c.args.form) refl in
    h.size

pub read_raster-requires-clause-short : goal.read_raster-requires-clause-short
read_raster-requires-clause-short g c =
    let h = c.in_ok-header.ensures.header (before_name c.args.feed.now.source c.args.form) refl in
    omega (arith, h.len, h.short)

pub read_raster-requires-clause-size : goal.read_raster-requires-clause-size
read_raster-requires-clause-size g c =
    let h = c.in_ok-header.ensures.header (before_name c.args.feed.now.source c.args.form) refl in
    h.size

pub returns-in_err-end-clause-fault : goal.returns-in_err-end-clause-fault
returns-in_err-end-clause-fault g c =
    let p = err_from_is_err_and c.from_residual-in_err-end.result c.from_residual-in_err-end.ensures.1 in
    rw (p.1, p.2) (λ first named. rows_fail first c.read_sizes.new.feed.source c.read_raster.new.feed.source c.in_ok-header.header c.in_err-end.field-0.0
    (c.in_ok-header.ensures.header first named) c.in_err-end.ensures.fault)

pub returns-in_err-end-clause-top : goal.returns-in_err-end-clause-top
returns-in_err-end-clause-top g c =
    let p = err_from_is_err_and c.from_residual-in_err-end.result c.from_residual-in_err-end.ensures.1 in
    rw (p.1, p.2) (λ first named. top_rows g.R.RowSink.begun g.R.RowSink.given g.R.RowSink.unchanged first c.read_sizes.new.feed.source c.read_raster.new.feed.source c.in_ok-header.header
    c.args.rows.now c.begin.new.self c.read_raster.new.rows c.in_err-end.field-0.0 (c.in_ok-header.ensures.header first named) c.in_ok-begin.ensures.ok c.in_err-end.ensures.top)

pub returns-clause-ok : goal.returns-clause-ok
returns-clause-ok g c =
    λ first named.
    record {
      middle = c.read_sizes.new.feed.source;
      empty = c.begin.new.self;
      header = c.in_ok-header.ensures.header first named;
      begins = c.in_ok-begin.ensures.ok;
      raster = c.in_ok-end.ensures.ok;
    }

-- ---- what is held

pub returns-in_err-header-clause-held : goal.returns-in_err-header-clause-held
returns-in_err-header-clause-held g c =
    let p = err_from_is_err_and c.from_residual.result c.from_residual.ensures.1 in
    rw (p.1, p.2) (λ raw. c.in_err-header.ensures.stays)

pub returns-in_err-begin-clause-held : goal.returns-in_err-begin-clause-held
returns-in_err-begin-clause-held g c =
    let p = err_from_is_err_and c.from_residual-in_err-begin.result c.from_residual-in_err-begin.ensures.1 in
    let old = c.args.feed.now in
    rw (p.1, p.2) (λ raw. begin_held old c.read_sizes.new.feed c.args.form c.in_ok-header.header (AreUndecided (magic c.args.form ++ old.unread)) c.in_ok-header.ensures.held)

pub returns-in_err-end-clause-held : goal.returns-in_err-end-clause-held
returns-in_err-end-clause-held g c =
    let p = err_from_is_err_and c.from_residual-in_err-end.result c.from_residual-in_err-end.ensures.1 in
    let read : Result ℕ PageFault = Err c.in_err-end.field-0.0 in
    rw (p.1, p.2) (λ raw. rows_held c.args.feed.now c.read_sizes.new.feed c.read_raster.new.feed c.args.form c.in_ok-header.header read c.in_ok-header.ensures.form raw c.in_ok-header.ensures.held
    c.in_err-end.ensures.held)

pub returns-clause-held : goal.returns-clause-held
returns-clause-held g c =
    let read : Result ℕ PageFault = Ok c.in_ok-end.end in
    λ raw. rows_held c.args.feed.now c.read_sizes.new.feed c.read_raster.new.feed c.args.form c.in_ok-header.header read c.in_ok-header.ensures.form raw c.in_ok-header.ensures.held
    c.in_ok-end.ensures.held
