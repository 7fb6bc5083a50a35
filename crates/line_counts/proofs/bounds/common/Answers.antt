use Rattle.std.proofs.Common.{arith}
use Rattle.std.proofs.lemmas.Int.{ints, clamps}
use Rattle.line_counts.proofs.Ranges.{kept_in}
use Rattle.line_counts.proofs.bounds.common.Goals as goal

pub returns : goal.returns
returns c =
    let shape = c.args.shape.now in
    let kept = kept_in shape c.requires.shape in
    record {
      from_offset = omega (arith, ints, clamps, kept.b0, c.max.ensures.value, c.requires.low, c.requires.high, c.requires.shape.from_offset, c.requires.shape.some_offset, c.requires.shape.to_offset);
      to_offset = omega (arith, ints, clamps, kept.b1, c.min.ensures.value, c.requires.low, c.requires.high, c.requires.shape.from_offset, c.requires.shape.some_offset, c.requires.shape.to_offset);
    }
