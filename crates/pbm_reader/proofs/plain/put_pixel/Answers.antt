use Rattle.std.proofs.Common.{Bool, cond, eqb, sym, ap, ◌∙◌}
use Rattle.packed_rows.specs.Page.{pixel}
use Rattle.pbm_reader.specs.Plain.{bit_of}
use Rattle.pbm_reader.proofs.plain.put_pixel.Goals as goal

pub returns-then-is_black-clause-pixels : goal.returns-then-is_black-clause-pixels
returns-then-is_black-clause-pixels c =
    λ k. c.set_pixel.ensures.pixels k ∙ ap (λ (b : Bool). cond (eqb k c.args.x) (bit_of b) (pixel c.args.row.now k)) (sym c.if-is_black.true)
