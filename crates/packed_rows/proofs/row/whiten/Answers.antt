use Rattle.std.proofs.Common.{length, refl}
use Rattle.packed_rows.proofs.Pixels.{row_white}
use Rattle.packed_rows.proofs.row.whiten.Goals as goal

pub returns-clause-pixels : goal.returns-clause-pixels
returns-clause-pixels c = let f = c.fill.ensures in row_white (length c.args.bits.now) c.fill.new.self f.len (λ k d lt. f.clones k d lt refl)
