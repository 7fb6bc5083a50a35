use Rattle.std.proofs.lemmas.Result.{err_from_is_err_and}
use Rattle.layout_outside.specs.Taken.{Took}
use Rattle.pbm_reader.specs.declared.form.Form.{Form}
use Rattle.pbm_reader.specs.Spelling.{magic}
use Rattle.pbm_reader.specs.Reader.{MayBe}
use Rattle.pbm_reader.proofs.Taken.{some_of}
use Rattle.pbm_reader.proofs.image.read_image.Goals as goal
use Rattle.std.proofs.Common.{◌⊎◌, inr, Result, Ok, Err}
use Rattle.pbm_reader.specs.declared.fault.PageFault.{PageFault}
use Rattle.pbm_reader.specs.declared.image.Image.{Image}
use Rattle.pbm_reader.specs.Held.{IsNamePart, TookHeld}
use Rattle.pbm_reader.specs.Images.{AreUndecided}
use Rattle.pbm_reader.specs.Reader.{MayBegin}
use Rattle.pbm_reader.proofs.Taken.{none_of}
use Rattle.pbm_reader.proofs.Held.{image_held, image_of_held, part_lacks, raw_image, stays_held}

pub returns-in_err-image-clause-fault : goal.returns-in_err-image-clause-fault
returns-in_err-image-clause-fault g c =
    let p = err_from_is_err_and c.from_residual-in_err-image.result c.from_residual-in_err-image.ensures.1 in
    let old = c.args.feed.now.source in
    let middle = c.read_image_name.new.feed.source in
    let named = some_of c.in_ok-form.field-0 c.in-Some.form (λ (form : Form). Took old middle (magic form) × MayBe c.args.is_first form) c.in-Some.is c.in_ok-form.ensures.name in
    rw (p.1, p.2) (c.in_err-image.ensures.fault old named.0)

-- ---- what is held

pub returns-in_err-form-clause-held : goal.returns-in_err-form-clause-held
returns-in_err-form-clause-held g c =
    let p = err_from_is_err_and c.from_residual.result c.from_residual.ensures.1 in
    rw (p.1, p.2) (λ later. stays_held c.args.feed.now c.read_image_name.new.feed c.args.is_first c.in_err-form.field-0.0 c.in_err-form.ensures.stays)

pub returns-in_default-clause-held : goal.returns-in_default-clause-held
returns-in_default-clause-held g c =
    let part = none_of c.in_ok-form.field-0 (IsNamePart c.args.feed.now.unread) c.in_default.is c.in_ok-form.ensures.none in
    λ later. inr (part_lacks c.args.is_first c.args.feed.now.unread part)

pub returns-in_err-image-clause-held : goal.returns-in_err-image-clause-held
returns-in_err-image-clause-held g c =
    let p = err_from_is_err_and c.from_residual-in_err-image.result c.from_residual-in_err-image.ensures.1 in
    let old = c.args.feed.now in
    let middle = c.read_image_name.new.feed in
    let named = some_of c.in_ok-form.field-0 c.in-Some.form (λ (form : Form). Took old.source middle.source (magic form) × MayBe c.args.is_first form) c.in-Some.is c.in_ok-form.ensures.name in
    let name = some_of c.in_ok-form.field-0 c.in-Some.form (λ (form : Form). TookHeld old middle (magic form) ⊎ IsNamePart old.unread) c.in-Some.is c.in_ok-form.ensures.held in
    let read : Result Image PageFault = Err c.in_err-image.field-0.0 in
    rw (p.1, p.2) (λ later. image_held old middle c.read_named.new.feed c.args.is_first c.in-Some.form read named.1 later name c.in_err-image.ensures.held)

pub returns-clause-held : goal.returns-clause-held
returns-clause-held g c =
    let old = c.args.feed.now in
    let middle = c.read_image_name.new.feed in
    let new = c.read_named.new.feed in
    let named = some_of c.in_ok-form.field-0 c.in-Some.form (λ (form : Form). Took old.source middle.source (magic form) × MayBe c.args.is_first form) c.in-Some.is c.in_ok-form.ensures.name in
    let name = some_of c.in_ok-form.field-0 c.in-Some.form (λ (form : Form). TookHeld old middle (magic form) ⊎ IsNamePart old.unread) c.in-Some.is c.in_ok-form.ensures.held in
    let image = c.in_ok-image.image in
    let read : Result Image PageFault = Ok image in
    λ later. image_of_held old new image (AreUndecided old.unread × MayBegin c.args.is_first old.unread) (raw_image c.args.is_first c.in-Some.form image named.1 later c.in_ok-image.ensures.form)
    (image_held old middle new c.args.is_first c.in-Some.form read named.1 later name c.in_ok-image.ensures.held)
