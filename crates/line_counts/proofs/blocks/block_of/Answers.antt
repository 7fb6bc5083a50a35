use Rattle.std.proofs.Common.{◌≡◌, ℕ, ℤ, List, arith, sym, subst}
use Rattle.std.proofs.lemmas.Int.{ints}
use Rattle.line_counts.specs.declared.block.Block.{Block}
use Rattle.line_counts.specs.Table.{LivingPage}
use Rattle.line_counts.specs.Blocks.{AreKeyBounds}
use Rattle.line_counts.proofs.blocks.block_of.Goals as goal

moved_keys : (page : LivingPage) (least deepest : ℕ) (from : ℤ) (offsets : ℕ) (keys : List ℕ) (block : Block) → block.from ≡ from → block.offsets ≡ offsets → block.keys ≡ keys
    → AreKeyBounds page least deepest from offsets keys → AreKeyBounds page least deepest block.from block.offsets block.keys
moved_keys page least deepest from offsets keys block from_is offsets_is keys_is are =
    subst (λ (o : ℤ). AreKeyBounds page least deepest o block.offsets block.keys) (sym from_is)
    (subst (λ (n : ℕ). AreKeyBounds page least deepest from n block.keys) (sym offsets_is)
    (subst (λ (ks : List ℕ). AreKeyBounds page least deepest from offsets ks) (sym keys_is) are))

pub returns-clause-block : goal.returns-clause-block
returns-clause-block c = record {
  of_page = c.requires.page;
  low = omega (arith, ints, c.new.ensures.from, c.requires.some, c.requires.inside, c.requires.page);
  high = omega (arith, ints, c.new.ensures.from, c.new.ensures.offsets, c.requires.some, c.requires.few, c.requires.inside, c.requires.page);
  some = omega (arith, ints, c.new.ensures.offsets, c.requires.some, c.requires.few);
  few = omega (arith, ints, c.new.ensures.offsets, c.requires.some, c.requires.few);
  keys = moved_keys c.args.counts.now c.args.least c.args.deepest _ _ _ c.new.result c.new.ensures.from c.new.ensures.offsets c.new.ensures.keys c.plain_keys.ensures;
  greatest = c.new.ensures.greatest;
  reached = c.new.ensures.reached;
}
