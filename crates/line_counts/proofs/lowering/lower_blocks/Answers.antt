use Rattle.std.proofs.Common.{◌+◌, ◌<◌, ℕ, List, length, arith, ◌∙◌}
use Rattle.std.proofs.Math.ListN.{length-set}
use Rattle.line_counts.specs.declared.block.Block.{Block}
use Rattle.line_counts.specs.Blocks.{IsBlock}
use Rattle.line_counts.proofs.Covering.{rows_renewed}
use Rattle.line_counts.proofs.Keeping.{each_more, same_left}
use Rattle.line_counts.proofs.lowering.lower_blocks.Goals as goal

pub loop-place-preserved : goal.loop-place-preserved
loop-place-preserved c =
    let blocks : List Block = c.loop-place.blocks in
    let i = c.loop-place.place in
    let new : Block = c.lowered.result in
    let within : i < length blocks = omega (arith, c.loop-place-test.true, c.loop-place.invariant.long) in
    record {
      long = length-set blocks i new ∙ c.loop-place.invariant.long;
      done = λ k d less. each_more (λ (n : ℕ) (block : Block). IsBlock c.args.counts.now c.args.least c.args.deepest block) blocks i new d within c.lowered.ensures.block
          (λ n before. c.loop-place.invariant.done n d before) k less;
      left = same_left blocks c.args.blocks.now i new c.loop-place.invariant.left;
      all = rows_renewed c.args.counts.now c.args.least c.args.deepest (c.args.counts.now.height + 600 + 1) blocks i _ new within c.lowered.ensures c.loop-place.invariant.all;
    }
