use Rattle.std.proofs.Common.{arith}
use Rattle.layout_geom.specs.KeyLaws.{decoded, height_decoded}
use Rattle.layout_geom.proofs.Decoding.{width_divides, made, not_made, made_back}
use Rattle.layout_geom.proofs.rect.Rect.of_key.Goals as goal

pub returns-then-area-width-ne0-clause-none : goal.returns-then-area-width-ne0-clause-none
returns-then-area-width-ne0-clause-none c = λ r is. c.if-area-width-ne0.true (width_divides r c.args.key (decoded r c.args.key is))

pub returns-then-area-width-ne0-clause-back : goal.returns-then-area-width-ne0-clause-back
returns-then-area-width-ne0-clause-back c = λ r is. absurd (returns-then-area-width-ne0-clause-none c r is)

pub returns-then-y1-clause-none : goal.returns-then-y1-clause-none
returns-then-y1-clause-none c = λ r is.
    let d = decoded r c.args.key is in
    absurd (omega (arith, c.if-y1.true, height_decoded r c.args.key d, d.top, r.sides.high, r.sides.bottom))

pub returns-then-y1-clause-back : goal.returns-then-y1-clause-back
returns-then-y1-clause-back c = λ r is. absurd (returns-then-y1-clause-none c r is)

pub returns-clause-some : goal.returns-clause-some
returns-clause-some c = made c.args.key c.new.result c.new.ensures.some c.if-area-width-ne0.false

pub returns-clause-none : goal.returns-clause-none
returns-clause-none c = not_made c.args.key c.new.result c.new.ensures.exactly.1

pub returns-clause-back : goal.returns-clause-back
returns-clause-back c = λ r is. made_back c.args.key c.new.result (returns-clause-some c) (returns-clause-none c) r is
