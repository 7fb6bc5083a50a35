use Rattle.std.proofs.Common.{◌≡◌, ◌<◌, ◌≤◌, ◌+◌, ℕ, inl, refl, ap, arith}
use Rattle.std.proofs.lemmas.Result.{err_from_is_err_and}
use Rattle.pbm_reader.specs.Reader.{is_plain, ImagesView, TakesImage}
use Rattle.pbm_reader.proofs.Taken.{some_of}
use Rattle.pbm_reader.proofs.NextCall.{gives_image, plain_is, raw_is}
use Rattle.pbm_reader.proofs.images.Images.next_size.Goals.{in-Plain, in_default-matches}
use Rattle.pbm_reader.proofs.HeldNext.{last_settled, settled_same}
use Rattle.pbm_reader.proofs.images.Images.next_size.Goals as goal

pub returns-in_err-end_of_images-clause-top : goal.returns-in_err-end_of_images-clause-top
returns-in_err-end_of_images-clause-top g c =
    let p = err_from_is_err_and c.from_residual.result c.from_residual.ensures.1 in
    rw (p.1, p.2) (c.in_err-end_of_images.field-0.0, c.in_err-end_of_images.ensures.no_place _, inl (inl refl))

pub returns-clause-image : goal.returns-clause-image
returns-clause-image g c =
    let old = c.args.self.now in
    let taken = c.take_image.new.self in
    let source = g.S.Source.view c.args.src.now in
    let later = g.S.Source.view c.take_image.new.src in
    let before = c.args.rows.now in
    let after = c.take_image.new.rows in
    let image = c.in-Some.image in
    let s = c.self-2.inside in
    let few : old.count < 256 = grind arith in
    let takes = some_of c.in_ok-image.field-0 image (TakesImage g.R.RowSink.begun g.R.RowSink.given old taken source later before after) c.in-Some.is c.in_ok-image.ensures.image in
    let ended : c.match-matches.self ≡ is_plain image.form =
    elim c.match-matches.branch [
      | in-Plain w ↦ plain_is image.form c.match-matches.self w.in-Plain.is w.self-is
      | in_default-matches w ↦ raw_is image.form c.match-matches.self w.in_default-matches.not-Plain w.self-is
    ] in
    let judged : s.judged ≡ taken.judged = ap (λ (v : ImagesView). v.judged) c.self-2.view_is in
    let count : s.count ≡ taken.count = ap (λ (v : ImagesView). v.count) c.self-2.view_is in
    gives_image g.R.RowSink.begun g.R.RowSink.given old taken _ source later before after image takes c.in_ok-image.ensures.same few
    (ap (λ (v : ImagesView). v.held) c.self-2.view_is) (ap (λ (n : ℕ). n + image.len) judged) (ap (λ (n : ℕ). n + 1) count) ended

-- ---- what is held

pub returns-in_err-end_of_images-clause-settled : goal.returns-in_err-end_of_images-clause-settled
returns-in_err-end_of_images-clause-settled g c =
    let old = c.args.self.now in
    let full : old.count ≡ 256 = grind arith in
    let low : old.judged ≤ 268435456 = grind arith in
    λ some s. c.in_err-end_of_images.ensures.quiet (last_settled old.count old.judged old.held full low s)

pub returns-then-self-eq-MAX_IMAGES-clause-settled : goal.returns-then-self-eq-MAX_IMAGES-clause-settled
returns-then-self-eq-MAX_IMAGES-clause-settled g c =
    let old = c.args.self.now in
    let full : old.count ≡ 256 = grind arith in
    let low : old.judged ≤ 268435456 = grind arith in
    λ some s. c.in_ok-end_of_images.ensures.quiet (last_settled old.count old.judged old.held full low s)

pub returns-in_err-image-clause-settled : goal.returns-in_err-image-clause-settled
returns-in_err-image-clause-settled g c = λ some. settled_same c.args.self.now c.args.src.now c.take_image.new.src (c.take_image.ensures.settled some)

pub returns-in_default-clause-settled : goal.returns-in_default-clause-settled
returns-in_default-clause-settled g c = λ some. settled_same c.args.self.now c.args.src.now c.take_image.new.src (c.take_image.ensures.settled some)

pub returns-clause-settled : goal.returns-clause-settled
returns-clause-settled g c = λ some. settled_same c.args.self.now c.args.src.now c.take_image.new.src (c.take_image.ensures.settled some)
