use Rattle.std.proofs.Common.{arith, ◌∙◌, sym}
use Rattle.std.proofs.lemmas.Bool.{false≢true}
use Rattle.hocr_writer.proofs.Apart.{apart_more, apart_here}
use Rattle.hocr_writer.proofs.whole.are_distinct.Goals as goal

pub returns-then-not-is_none_of : goal.returns-then-not-is_none_of
returns-then-not-is_none_of c = (
  (λ yes. absurd (false≢true yes)),
  (λ apart. absurd (false≢true (sym c.if-not-is_none_of.true ∙ (c.is_none_of.ensures).1 (apart_here c.loop-place.place c.args.numbers.now (omega arith) apart)))),
)

pub loop-place-preserved : goal.loop-place-preserved
loop-place-preserved c = apart_more c.loop-place.place c.args.numbers.now c.loop-place.invariant ((c.is_none_of.ensures).0 c.if-not-is_none_of.false)
