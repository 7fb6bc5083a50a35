use Rattle.std.proofs.Common.{rules}
use Rattle.layout_geom.specs.PixelLaws.{overlap_test}
use Rattle.layout_geom.proofs.rect.Rect.overlaps.Goals as goal

pub returns-then-self-other-2-clause-pixel : goal.returns-then-self-other-2-clause-pixel
returns-then-self-other-2-clause-pixel c = overlap_test _ c.args.self.now c.args.other.now (search rules)
