use Rattle.std.proofs.Common.{◌≡◌, ◌++◌, ℕ, List, length, take, drop, arith, ap, sym, subst, ◌∙◌}
use Rattle.std.specs.List.Sorted.{IsPermutation}
use Rattle.std.proofs.lemmas.List.{take_at}
use Rattle.line_counts.specs.declared.block.Block.{Block}
use Rattle.line_counts.specs.Table.{LivingPage}
use Rattle.line_counts.specs.KeyTables.{KeyTable}
use Rattle.line_counts.specs.Blocks.{AreBlocks, WereBlocks, with_alive}
use Rattle.line_counts.proofs.keys.Keys.take.Goals as goal

were_blocks : (before after : LivingPage) (least deepest : ℕ) (members others : List ℕ) (blocks : List Block) → after ≡ with_alive before others → IsPermutation before.alive (members ++ others)
    → AreBlocks before least deepest blocks → WereBlocks after least deepest members blocks
were_blocks before after least deepest members others blocks is divided were =
    subst (λ (page : LivingPage). WereBlocks page least deepest members blocks) (sym is) (record { alive = before.alive; divided = divided; were = were })

pub lower_blocks-requires-clause-before : goal.lower_blocks-requires-clause-before
lower_blocks-requires-clause-before c =
    let divided : IsPermutation c.self.inside.counts.alive (c.args.members.now ++ c.args.others) =
    subst (λ (keys : KeyTable). IsPermutation keys.page.alive (c.args.members.now ++ c.args.others)) (sym c.self.view_is) c.requires.divided in
    were_blocks c.self.inside.counts c.take.new.self c.self.inside.least c.self.inside.deepest c.args.members.now c.args.others c.as_mut_slice.result.now c.take.ensures.others divided
    (subst (λ (blocks : List Block). AreBlocks c.self.inside.counts c.self.inside.least c.self.inside.deepest blocks) (sym c.as_mut_slice.ensures.value) c.self.invariant)

pub invariant_of-self : goal.invariant_of-self
invariant_of-self c =
    let items : List Block = c.self.inside.blocks.items in
    let new : List Block = c.lower_blocks.new.blocks in
    let long : length new ≡ length items = c.lower_blocks.ensures.long ∙ ap (λ (xs : List Block). length xs) c.as_mut_slice.ensures.value in
    let written : take c.self.inside.blocks.len (new ++ drop (length new) items) ≡ new =
    take_at new (drop (length new) items) c.self.inside.blocks.len (omega (arith, long, c.self.inside.blocks.ok.0)) in
    subst (λ (blocks : List Block). AreBlocks c.take.new.self c.self.inside.least c.self.inside.deepest blocks) (sym written) c.lower_blocks.ensures.blocks
