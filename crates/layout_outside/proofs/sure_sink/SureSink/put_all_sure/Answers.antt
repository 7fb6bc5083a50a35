use Rattle.std.proofs.Common.{List, ℕ, ap, ◌∙◌, ◌++◌, ◌-◌, take, drop, length, append_assoc, length-append, arith}
use Rattle.std.proofs.lemmas.List.{length-take}
use Rattle.layout_outside.proofs.Known.{next_front}
use Rattle.layout_outside.proofs.sure_sink.SureSink.put_all_sure.Goals as goal

pub loop-at-preserved : goal.loop-at-preserved
loop-at-preserved c =
    let text = c.args.text.now in
    let before = c.args.self.now.bytes.items in
    let at = c.loop-at.at in
    let more = take c.write-at.result (take (length text - at) (drop at text)) in
    record {
      within = omega (arith, c.loop-at.invariant, c.write-at.ensures, c.loop-at-test.true);
      items = c.write-at.ensures.appends
          ∙ ap (λ (l : List ℕ). l ++ more) c.loop-at.invariant.items
          ∙ append_assoc before (take at text) more
          ∙ ap (λ (l : List ℕ). before ++ l) (next_front text at c.write-at.result);
      len = omega (arith, ap length c.write-at.ensures.appends, c.write-at.ensures.count, c.loop-at.invariant, length-append c.loop-at.self.bytes.items more, length-take c.write-at.result (take (length text - at) (drop at text)));
      capacity = c.write-at.ensures.capacity ∙ c.loop-at.invariant.capacity;
      piece = c.write-at.ensures.piece ∙ c.loop-at.invariant.piece;
    }
