use Rattle.std.proofs.Common.{◌≡◌, [], sym, ◌∙◌}
use Rattle.std.proofs.lemmas.Bool.{false≢true}
use Rattle.hocr_writer.proofs.Joined.{growing}
use Rattle.hocr_writer.proofs.Images.{image_named}
use Rattle.hocr_writer.proofs.document.put_image.Goals as goal

pub returns : goal.returns
returns c =
    let some : c.args.image.now ≡ [] → ⊥ = λ none. absurd (false≢true (sym c.if-is_empty.false ∙ (c.is_empty.ensures.empty).1 none)) in
    let named = image_named c.args.image.now some in
    record { grown = rw (c.in_ok-push-3.ensures.grown, c.in_ok-push-2.ensures.grown, c.in_ok-push.ensures.grown, c.as_slice.ensures.same, named) (simp growing) }
