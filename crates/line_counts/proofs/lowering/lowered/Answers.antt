use Rattle.std.proofs.Common.{◌≡◌, ℕ, ℤ, List, to_z, of_z, w16, subst, sym, ◌∙◌}
use Rattle.line_counts.specs.declared.block.Block.{Block}
use Rattle.line_counts.specs.Blocks.{Misses, AreKeyBounds}
use Rattle.line_counts.proofs.Keeping.{held_from, block_by, block_missed}
use Rattle.line_counts.proofs.lowering.lowered.Goals as goal

pub returns-then-misses : goal.returns-then-misses
returns-then-misses c =
    let block : Block = c.args.block.now in
    let from_is : to_z w16 (of_z w16 block.from) ≡ block.from = held_from _ c.args.least c.args.deepest block c.requires.before.was in
    block_missed c.args.counts.now c.args.least c.args.deepest c.more_rows.result c.args.spans.now c.args.hull block c.requires.before c.requires.hull c.more_rows.ensures
    (subst (λ (o : ℤ). Misses c.args.hull o c.more_rows.result) from_is (c.misses.ensures c.if-misses.true))

pub returns : goal.returns
returns c =
    let block : Block = c.args.block.now in
    let was = c.requires.before.was in
    let from_is : to_z w16 (of_z w16 block.from) ≡ block.from = held_from _ c.args.least c.args.deepest block was in
    record {
      from_offset = c.new.ensures.from ∙ from_is;
      offsets = c.new.ensures.offsets;
      block = block_by c.args.counts.now c.args.least c.args.deepest block.from block.offsets c.new.result was.of_page was.low was.high was.some was.few (c.new.ensures.from ∙ from_is) c.new.ensures.offsets
          (subst (λ (keys : List ℕ). AreKeyBounds c.args.counts.now c.args.least c.args.deepest block.from block.offsets keys) (sym c.new.ensures.keys) c.lower_keys-keys.ensures)
          c.new.ensures.greatest c.new.ensures.reached;
    }
