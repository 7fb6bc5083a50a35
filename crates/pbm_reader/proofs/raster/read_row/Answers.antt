use Rattle.std.proofs.Common.{ℕ, sym, subst}
use Rattle.std.proofs.lemmas.Result.{err_from_is_err_and}
use Rattle.pbm_reader.specs.Page.{IsPackedRow}
use Rattle.pbm_reader.proofs.EitherForm.{row_is_packed, row_refused}
use Rattle.pbm_reader.proofs.raster.read_row.Goals as goal

pub row-requires-clause-packed : goal.row-requires-clause-packed
row-requires-clause-packed g c =
    let P : ℕ → Type 0 = λ width. IsPackedRow width c.take_row.new.row in
    subst P (sym c.requires.width) (row_is_packed c.args.form c.args.feed.now.source c.take_row.new.feed.source c.args.start c.in_ok-end.end c.args.width c.take_row.new.row c.in_ok-end.ensures.ok)

pub returns-in_err-row-clause-fault : goal.returns-in_err-row-clause-fault
returns-in_err-row-clause-fault g c =
    let p = err_from_is_err_and c.from_residual-in_err-row.result c.from_residual-in_err-row.ensures.1 in
    rw (p.1, p.2) (row_refused c.args.form c.args.feed.now.source c.take_row.new.feed.source c.args.start c.in_ok-end.end c.args.width c.take_row.new.row c.in_ok-end.ensures.ok)

pub returns-clause-ok : goal.returns-clause-ok
returns-clause-ok g c = record { bits = c.take_row.new.row; row = c.in_ok-end.ensures.ok; gives = c.in_ok-row.ensures.ok }
