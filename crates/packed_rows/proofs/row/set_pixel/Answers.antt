use Rattle.std.proofs.Common.{arith}
use Rattle.packed_rows.proofs.Pixels.{put_black}
use Rattle.packed_rows.proofs.row.set_pixel.Goals as goal

pub returns-clause-pixels : goal.returns-clause-pixels
returns-clause-pixels c = λ k. put_black c.args.bits.now c.args.x c.from.result k (omega (arith, c.from.ensures)) (omega (arith, c.from.ensures, c.requires))
