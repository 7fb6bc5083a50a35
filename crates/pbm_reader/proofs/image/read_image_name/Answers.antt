use Rattle.std.proofs.lemmas.Result.{err_from_is_err_and}
use Rattle.pbm_reader.proofs.ImageRead.{name_fails}
use Rattle.pbm_reader.proofs.image.read_image_name.Goals as goal

pub returns-in_err-name-clause-fault : goal.returns-in_err-name-clause-fault
returns-in_err-name-clause-fault g c =
    let p = err_from_is_err_and c.from_residual.result c.from_residual.ensures.1 in
    rw (p.1, p.2) (name_fails c.args.is_first c.args.feed.now.source c.read_name.new.feed.source c.in_err-name.field-0.0 c.in_err-name.ensures.fault)
