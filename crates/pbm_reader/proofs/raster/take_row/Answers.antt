use Rattle.std.proofs.Common.{IfErr, sym, subst}
use Rattle.pbm_reader.specs.declared.form.Form.{Form}
use Rattle.pbm_reader.specs.Raster.{RowFails}
use Rattle.pbm_reader.proofs.raster.take_row.Goals as goal

pub returns-in-Plain-clause-fault : goal.returns-in-Plain-clause-fault
returns-in-Plain-clause-fault g c =
    let P : Form → Type 0 = λ form. IfErr c.fill_pixels.result (RowFails form c.args.feed.now.source c.fill_pixels.new.feed.source c.args.start c.args.width) in
    subst P (sym c.in-Plain.is) c.fill_pixels.ensures.fault
