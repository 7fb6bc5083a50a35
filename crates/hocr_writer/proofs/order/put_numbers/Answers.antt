use Rattle.std.proofs.Common.{arith, sym, get_or}
use Rattle.std.proofs.lemmas.Grind.{get_or_default_zero}
use Rattle.hocr_writer.specs.Document.{cycle_number}
use Rattle.hocr_writer.proofs.Joined.{growing}
use Rattle.hocr_writer.proofs.Growing.{piece_more, piece_all}
use Rattle.hocr_writer.proofs.order.put_numbers.Goals as goal

pub loop-number-preserved : goal.loop-number-preserved
loop-number-preserved c =
    let numbers = c.args.numbers.now in
    let k = c.loop-number.number-index in
    piece_more cycle_number _ _ _ numbers k (get_or numbers k 0) (omega arith)
    (sym (get_or_default_zero numbers k (get_or numbers k 0) (omega arith)))
    c.loop-number.invariant
    (rw (c.in_ok-push_number.ensures.grown, c.in_ok-push.ensures.grown) (simp growing))

pub returns : goal.returns
returns c =
    record {
      grown = piece_all cycle_number _ _ c.args.numbers.now _ (omega arith) c.loop-number.invariant;
    }
