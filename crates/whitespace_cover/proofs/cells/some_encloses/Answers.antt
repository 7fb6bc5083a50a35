use Rattle.std.proofs.Common.{sym}
use Rattle.whitespace_cover.proofs.cells.some_encloses.Goals as goal

pub returns-then-contains : goal.returns-then-contains
returns-then-contains c = λ told. (c.loop-rect.rect-index, c.rect-item.result, c.loop-rect-test.true, sym c.rect-item.is, c.contains.ensures.sides.0 c.if-contains.true)
