use Rattle.std.proofs.Common.{w8}
use Rattle.std.proofs.lemmas.Int.{to_z-of_z}
use Rattle.hocr_writer.proofs.Joined.{growing}
use Rattle.hocr_writer.proofs.lines.put_slope.Goals as goal

pub returns : goal.returns
returns c =
    let same = to_z-of_z w8 c.args.slope c.ranges.slope in
    let signed = rw (c.sign.ensures, same) at c.in_ok-push.ensures.grown in
    let digits = rw (c.unsigned_abs-steps.ensures.value, same) at c.in_ok-push-3.ensures.grown in
    record { grown = rw (digits, c.in_ok-push-2.ensures.grown, signed) (simp growing) }
