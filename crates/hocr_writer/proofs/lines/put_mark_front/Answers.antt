use Rattle.std.proofs.Common.{w8, w32, FitsSigned}
use Rattle.std.proofs.lemmas.Int.{to_z-of_z}
use Rattle.hocr_writer.proofs.Joined.{growing}
use Rattle.hocr_writer.proofs.lines.put_mark_front.Goals as goal

pub returns : goal.returns
returns c =
    let narrow : FitsSigned w8 c.args.mark.slope = search in
    let wide : FitsSigned w32 c.constant.result = search in
    let slope = rw (to_z-of_z w8 c.args.mark.slope narrow) at c.in_ok-put_slope.ensures.grown in
    let constant = rw (to_z-of_z w32 c.constant.result wide, c.constant.ensures) at c.in_ok-push_number.ensures.grown in
    record { grown = rw (c.in_ok-push-3.ensures.grown, c.in_ok-put_depth.ensures.grown, constant, c.in_ok-push-2.ensures.grown, slope, c.in_ok-push.ensures.grown, c.in_ok-put_box_front.ensures.grown) (simp growing) }
