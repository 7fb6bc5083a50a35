use Rattle.std.proofs.Common.{◌≡◌, ◌+◌, ◌<◌, ◌≤◌, ℕ, ℤ, ◌+ℤ◌, ◌≤ℤ◌, pos, to_z, of_z, w8, w16, arith, ◌∙◌, subst}
use Rattle.std.proofs.lemmas.Int.{ints}
use Rattle.box_search.specs.Search.{IsGreatestKey}
use Rattle.line_counts.specs.Stretches.{IsKeyAt, IsGreaterKey, IsOfPage}
use Rattle.line_counts.specs.declared.stretch.Stretch.{Stretch}
use Rattle.line_counts.specs.Table.{LivingPage}
use Rattle.line_counts.proofs.Places.{held_slope, held_offset}
use Rattle.line_counts.proofs.Joining.{max_since}
use Rattle.line_counts.proofs.Passing.{IsBeatenBelow, line_beaten, by_itself, risen_by_line}
use Rattle.line_counts.proofs.counts.Counts.better.Goals as goal

high_end : (from : ℤ) (count height : ℕ) → (from +ℤ pos count) ≤ℤ pos (height + 300 + 1) → height ≤ 8192 → (from +ℤ pos count) ≤ℤ pos 8493
high_end from count height high page = omega (arith, ints)

-- what holds at the slope and the offset as the code holds them holds at the line
at_line : (P : ℤ → ℤ → Type 0) (height more : ℕ) (offset : ℤ) (stretch : Stretch) → IsOfPage height stretch → more < stretch.offsets → offset ≡ stretch.from +ℤ pos more
    → P (to_z w8 (of_z w8 stretch.slope)) (to_z w16 (of_z w16 offset)) → P stretch.slope (stretch.from +ℤ pos more)
at_line P height more offset stretch of_page less is holds =
    let held : to_z w16 (of_z w16 offset) ≡ stretch.from +ℤ pos more =
    held_offset offset stretch.from more stretch.offsets is of_page.low (high_end stretch.from stretch.offsets height of_page.high of_page.page) less ∙ is in
    subst (λ (o : ℤ). P stretch.slope o) held (subst (λ (s : ℤ). P s (to_z w16 (of_z w16 offset))) (held_slope stretch.slope of_page.slope_in) holds)

pub returns-then-not-may_beat-clause-beaten : goal.returns-then-not-may_beat-clause-beaten
returns-then-not-may_beat-clause-beaten c =
    line_beaten c.args.self.now c.args.least c.args.before c.args.top c.args.stretch.now c.args.more c.args.depth c.requires.alive
    (at_line (λ (slope offset : ℤ). IsBeatenBelow slope offset c.args.depth c.args.least c.args.top c.args.before)
    c.args.self.now.height c.args.more c.offset_of-offset.result c.args.stretch.now c.requires.of_page c.requires.more c.offset_of-offset.ensures
    (c.may_beat.ensures c.if-not-may_beat.true))

pub returns : goal.returns
returns c =
    let page : LivingPage = c.args.self.now in
    let stretch : Stretch = c.args.stretch.now in
    let depth = c.args.depth in
    let least = c.args.least in
    let exact : IsGreatestKey (IsKeyAt page least stretch.slope (stretch.from +ℤ pos c.args.more) depth) c.key_at.result =
    at_line (λ (slope offset : ℤ). IsGreatestKey (IsKeyAt page least slope offset depth) c.key_at.result)
    page.height c.args.more c.offset_of-offset.result stretch c.requires.of_page c.requires.more c.offset_of-offset.ensures c.key_at.ensures in
    let greater : IsGreaterKey (IsKeyAt page least stretch.slope (stretch.from +ℤ pos c.args.more) depth) c.args.before c.max.result =
    max_since (IsKeyAt page least stretch.slope (stretch.from +ℤ pos c.args.more) depth) c.args.before c.key_at.result c.max.result c.max.ensures exact in
    record {
      risen = risen_by_line page least c.args.before c.max.result stretch c.args.more depth c.requires.more c.requires.shallow c.requires.deep greater;
      beaten = by_itself page least c.args.before c.max.result c.args.top stretch c.args.more depth greater;
    }
