use Rattle.std.proofs.Common.{arith}
use Rattle.layout_outside.proofs.Known.{copied_front}
use Rattle.layout_outside.proofs.memory.hand_out.Goals as goal

pub returns-clause-front : goal.returns-clause-front
returns-clause-front c = copied_front c.args.bytes.now c.args.buf.now c.copy_from_slice.new.self c.args.at c.min-count.result (omega (arith, c.requires, c.min-count.ensures, c.min.ensures)) c.copy_from_slice.ensures.after
