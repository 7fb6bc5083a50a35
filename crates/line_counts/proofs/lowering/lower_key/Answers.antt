use Rattle.std.proofs.Common.{◌≡◌, ◌≤◌, pos, ℕ, ℤ, get_or, to_z, of_z, w8, w16, subst, ◌∙◌}
use Rattle.line_counts.specs.declared.block.Block.{Block}
use Rattle.line_counts.specs.declared.span.Span.{Span}
use Rattle.line_counts.specs.Fits.{slope_of}
use Rattle.line_counts.specs.Plain.{plain_key}
use Rattle.line_counts.specs.Table.{LivingPage}
use Rattle.line_counts.specs.Blocks.{Misses, IsKeyBound, lines_of}
use Rattle.line_counts.proofs.Places.{held_slope}
use Rattle.line_counts.proofs.Keeping.{held_from, key_kept, key_under, key_lowered}
use Rattle.line_counts.proofs.lowering.lower_key.Goals as goal

told : (span : Span) (from held : ℤ) (more : ℕ) → held ≡ from → Misses span held more → Misses span from more
told span from held more same misses = subst (λ (o : ℤ). Misses span o more) same misses

pub returns-then-misses : goal.returns-then-misses
returns-then-misses c =
    let was = c.requires.before in
    let block : Block = c.args.block.now in
    let none : Span = record { slope = pos 0; first = 0; last = 0 } in
    key_kept c.args.counts.now c.args.least c.args.deepest c.args.number c.more_rows.result c.args.spans.now block c.requires.number was none c.more_rows.ensures
    (told (get_or c.args.spans.now c.args.number none) block.from _ c.more_rows.result (held_from _ c.args.least c.args.deepest block was.was) (c.misses.ensures c.if-misses.true))

pub returns-then-plain_reaches : goal.returns-then-plain_reaches
returns-then-plain_reaches c =
    let was = c.requires.before in
    let page : LivingPage = c.args.counts.now in
    let block : Block = c.args.block.now in
    let slope_is : to_z w8 (of_z w8 c.slope-slope.result) ≡ slope_of c.args.number = held_slope c.slope-slope.result c.slope-slope.ensures.of_grid ∙ c.slope-slope.ensures.value in
    let from_is : to_z w16 (of_z w16 block.from) ≡ block.from = held_from _ c.args.least c.args.deepest block was.was in
    key_under page c.args.least c.args.deepest c.args.number c.more_rows.result c.args.spans.now block c.requires.number was
    (subst (λ (o : ℤ). get_or block.keys c.args.number 0 ≤ plain_key page.boxes page.alive (lines_of (slope_of c.args.number) o block.offsets c.args.deepest)) from_is
    (subst (λ (s : ℤ). get_or block.keys c.args.number 0 ≤ plain_key page.boxes page.alive (lines_of s (to_z w16 (of_z w16 block.from)) block.offsets c.args.deepest)) slope_is
    (c.plain_reaches.ensures c.if-plain_reaches.true)))

pub returns : goal.returns
returns c =
    let was = c.requires.before in
    let block : Block = c.args.block.now in
    let slope_is : to_z w8 (of_z w8 c.slope-slope.result) ≡ slope_of c.args.number = held_slope c.slope-slope.result c.slope-slope.ensures.of_grid ∙ c.slope-slope.ensures.value in
    let from_is : to_z w16 (of_z w16 block.from) ≡ block.from = held_from _ c.args.least c.args.deepest block was.was in
    let plain : IsKeyBound c.args.counts.now c.args.least (lines_of (slope_of c.args.number) block.from block.offsets c.args.deepest) c.plain_key.result =
    subst (λ (o : ℤ). IsKeyBound c.args.counts.now c.args.least (lines_of (slope_of c.args.number) o block.offsets c.args.deepest) c.plain_key.result) from_is
    (subst (λ (s : ℤ). IsKeyBound c.args.counts.now c.args.least (lines_of s (to_z w16 (of_z w16 block.from)) block.offsets c.args.deepest) c.plain_key.result) slope_is c.plain_key.ensures) in
    key_lowered c.args.counts.now c.args.least c.args.deepest c.args.number c.more_rows.result c.args.spans.now block c.requires.number was c.plain_key.result c.min.result c.min.ensures plain
