-- Why a line is passed over that cannot score enough for a greater key.
use Rattle.std.proofs.Common.{◌≡◌, ℕ, ◌+◌, ◌*◌, ◌/◌, ◌^◌, ◌<◌, ◌≤◌, min, max, ℤ, pos, negsuc, ◌+ℤ◌, ◌-ℤ◌, ◌≤ℤ◌, ◌<ℤ◌, unsigned_abs, to_z, of_z, w8, w16, List, length, inl, inr, ⊎_elim, arith, refl, sym, subst}
use Rattle.std.proofs.lemmas.Int.{ints}
use Rattle.line_quality.specs.KeyLaws.{abs_parts}
use Rattle.line_quality.specs.Keys.{line_key}
use Rattle.line_quality.specs.Scores.{IsScore}
use Rattle.line_counts.specs.declared.stretch.Stretch.{Stretch}
use Rattle.line_counts.specs.Table.{LivingPage}
use Rattle.line_counts.specs.Stretches.{IsKeyAt, IsKeyIn, IsOfPage, IsGreaterKey, IsRisen, IsBeaten}
use Rattle.line_counts.specs.Tops.{HasColumn, AreBeaten}
use Rattle.line_counts.proofs.Heaviest.{score_low}
use Rattle.line_counts.proofs.Places.{held_slope}
use Rattle.line_counts.proofs.Segments.{column_all, column_small}

-- so few boxes weigh little together
pub score_small : (page : LivingPage) (slope offset : ℤ) (depth score k : ℕ) → length page.alive ≤ 60000 → IsScore slope offset depth page.boxes page.gutters page.alive score k → score ≤ 1500000
score_small page slope offset depth score k few scored =
    omega (
      arith,
      few,
      scored.reached,
      column_all page.boxes page.gutters slope offset depth k page.alive,
      column_small page.boxes page.gutters slope offset depth (length page.gutters + 1) k page.alive,
    )

-- what is known of a line that is passed over
abbrev pub IsBeatenBelow : ℤ → ℤ → ℕ → ℕ → ℕ → ℕ → Type 0
IsBeatenBelow slope offset depth least top best = (score : ℕ) → score ≤ top → score ≤ 1500000 → least ≤ score → (0 < best) × (line_key score slope offset depth ≤ best)

-- a line
pub line_beaten : (page : LivingPage) (least best top : ℕ) (stretch : Stretch) (more depth : ℕ) → length page.alive ≤ 60000
    → IsBeatenBelow stretch.slope (stretch.from +ℤ pos more) depth least top best → IsBeaten page least stretch more depth top best
line_beaten page least best top stretch more depth few below score k scored enough low =
    below score low (score_small page stretch.slope (stretch.from +ℤ pos more) depth score k few scored) enough

-- the greater offset has the lesser key
key_falls : (score : ℕ) (slope from offset : ℤ) (depth : ℕ) → negsuc 299 ≤ℤ from → from ≤ℤ offset → line_key score slope offset depth ≤ line_key score slope from depth
key_falls score slope from offset depth low order = omega (arith, ints, abs_parts (from +ℤ pos 300), abs_parts (offset +ℤ pos 300))

-- how far an offset is behind the first
behind_first : (from offset : ℤ) (count : ℕ) → from ≤ℤ offset → offset <ℤ (from +ℤ pos count) → (more : ℕ) × (more < count) × (offset ≡ from +ℤ pos more)
behind_first from offset count low high = (
  unsigned_abs (offset -ℤ from),
  omega (arith, ints, abs_parts (offset -ℤ from)),
  omega (arith, ints, abs_parts (offset -ℤ from)),
)

further : (from : ℤ) (more : ℕ) → from ≤ℤ (from +ℤ pos more)
further from more = omega (arith, ints)

pub held_first : (height : ℕ) (stretch : Stretch) → IsOfPage height stretch → to_z w16 (of_z w16 stretch.from) ≡ stretch.from
held_first height stretch of_page = held stretch.from stretch.offsets height of_page.low of_page.high of_page.page
  where
    held : (from : ℤ) (count height : ℕ) → negsuc 299 ≤ℤ from → (from +ℤ pos count) ≤ℤ pos (height + 300 + 1) → height ≤ 8192 → to_z w16 (of_z w16 from) ≡ from
    held from count height low high page = omega (arith, ints)

-- any line of a depth, where that of the least offset is passed over by a top that is no less
pub by_the_first : (page : LivingPage) (least best most top : ℕ) (stretch : Stretch) (more depth : ℕ) → length page.alive ≤ 60000 → IsOfPage page.height stretch → top ≤ most
    → IsBeatenBelow (to_z w8 (of_z w8 stretch.slope)) (to_z w16 (of_z w16 stretch.from)) depth least most best → IsBeaten page least stretch more depth top best
by_the_first page least best most top stretch more depth few of_page less below score k scored enough low =
    let offset : ℤ = stretch.from +ℤ pos more in
    let first : IsBeatenBelow stretch.slope stretch.from depth least most best =
    subst (λ (o : ℤ). IsBeatenBelow stretch.slope o depth least most best) (held_first page.height stretch of_page)
    (subst (λ (s : ℤ). IsBeatenBelow s (to_z w16 (of_z w16 stretch.from)) depth least most best) (held_slope stretch.slope of_page.slope_in) below) in
    let beaten = first score (omega (arith, low, less)) (score_small page stretch.slope offset depth score k few scored) enough in
    (beaten.0, omega (arith, beaten.1, key_falls score stretch.slope stretch.from offset depth of_page.low (further stretch.from more)))

-- a line whose key is the best or less
pub by_itself : (page : LivingPage) (least before best top : ℕ) (stretch : Stretch) (more depth : ℕ) → IsGreaterKey (IsKeyAt page least stretch.slope (stretch.from +ℤ pos more) depth) before best
    → IsBeaten page least stretch more depth top best
by_itself page least before best top stretch more depth exact score k scored enough low =
    exact.greatest (line_key score stretch.slope (stretch.from +ℤ pos more) depth) (record { score = score; in_column = k; scored = scored; enough = enough; has_key = refl })

-- a line that is beaten stays so
pub still_beaten : (page : LivingPage) (least best word top : ℕ) (stretch : Stretch) (more depth : ℕ) → best ≤ word → IsBeaten page least stretch more depth top best → IsBeaten page least stretch more depth top word
still_beaten page least best word top stretch more depth rose beaten score k scored enough low =
    let less = beaten score k scored enough low in
    (omega (arith, less.0, rose), omega (arith, less.1, rose))

-- the digits behind the score are less than one more of it
key_below : (score : ℕ) (slope offset : ℤ) (depth : ℕ) → line_key score slope offset depth < (score + 1) * 2 ^ 29
key_below score slope offset depth = omega arith

less_key : (score best key : ℕ) → key < (score + 1) * 2 ^ 29 → score < best / 2 ^ 29 → (0 < best) × (key ≤ best)
less_key score best key low less = (omega (arith, low, less), omega (arith, low, less))

-- a line that scores no more has no greater key than the first line of the stretch would have
key_rises : (score top : ℕ) (slope from offset : ℤ) (shallowest depth : ℕ) → negsuc 299 ≤ℤ from → from ≤ℤ offset → score ≤ top → shallowest ≤ depth → line_key score slope offset depth ≤ line_key top slope from shallowest
key_rises score top slope from offset shallowest depth low order less shallow = omega (arith, ints, less, shallow, abs_parts (from +ℤ pos 300), abs_parts (offset +ℤ pos 300))

pub stretch_over : (page : LivingPage) (stretch : Stretch) (least most top : ℕ) → length page.alive ≤ 60000 → negsuc 299 ≤ℤ stretch.from → top ≡ min most 1500000
    → ((more depth score k : ℕ) → more < stretch.offsets → depth ≤ stretch.deepest → IsScore stretch.slope (stretch.from +ℤ pos more) depth page.boxes page.gutters page.alive score k → score ≤ most)
    → (key : ℕ) → IsKeyIn page least stretch key → key ≤ line_key top stretch.slope stretch.from stretch.shallowest
stretch_over page stretch least most top few first is low key within =
    let there = behind_first stretch.from within.offset stretch.offsets within.from_offset within.to_offset in
    let at : IsKeyAt page least stretch.slope (stretch.from +ℤ pos there.0) within.of.depth key =
    subst (λ (o : ℤ). IsKeyAt page least stretch.slope o within.of.depth key) there.2 within.of.at in
    let below : at.score ≤ most = low there.0 within.of.depth at.score at.in_column there.1 within.of.to_depth at.scored in
    let small : at.score ≤ 1500000 = score_small page stretch.slope (stretch.from +ℤ pos there.0) within.of.depth at.score at.in_column few at.scored in
    omega (
      arith,
      at.has_key,
      key_rises at.score top stretch.slope stretch.from (stretch.from +ℤ pos there.0) stretch.shallowest within.of.depth first (no_less stretch.from there.0) (omega (arith, is, below, small)) within.of.from_depth,
    )
  where
    no_less : (from : ℤ) (more : ℕ) → from ≤ℤ (from +ℤ pos more)
    no_less from more = omega (arith, ints)

pub stretch_empty : (page : LivingPage) (stretch : Stretch) (least most : ℕ) → most < least
    → ((more depth score k : ℕ) → more < stretch.offsets → depth ≤ stretch.deepest → IsScore stretch.slope (stretch.from +ℤ pos more) depth page.boxes page.gutters page.alive score k → score ≤ most)
    → (key : ℕ) → IsKeyIn page least stretch key → key ≤ 0
stretch_empty page stretch least most little low key within =
    let there = behind_first stretch.from within.offset stretch.offsets within.from_offset within.to_offset in
    let at : IsKeyAt page least stretch.slope (stretch.from +ℤ pos there.0) within.of.depth key =
    subst (λ (o : ℤ). IsKeyAt page least stretch.slope o within.of.depth key) there.2 within.of.at in
    absurd (omega (arith, little, at.enough, low there.0 within.of.depth at.score at.in_column there.1 within.of.to_depth at.scored))

-- a line whose top is too low for the best key of some while ago, and so for the best one
pub by_its_top : (page : LivingPage) (least ago best top needed : ℕ) (stretch : Stretch) (more depth : ℕ) → needed ≡ max least (ago / 2 ^ 29) → ago ≤ best → top < needed
    → IsBeaten page least stretch more depth top best
by_its_top page least ago best top needed stretch more depth is rose little score k scored enough low =
    let key : ℕ = line_key score stretch.slope (stretch.from +ℤ pos more) depth in
    let less = less_key score ago key (key_below score stretch.slope (stretch.from +ℤ pos more) depth) (omega (arith, is, little, low, enough)) in
    (omega (arith, less.0, rose), omega (arith, less.1, rose))

-- the best key of several lines, one after the other
pub risen_on : (P : ℕ → Type 0) (before best word : ℕ) → IsRisen P before best → IsRisen P best word → IsRisen P before word
risen_on P before best word first second = record {
  from = ⊎_elim
      (λ (same : word ≡ best). ⊎_elim
      (λ (kept : best ≡ before). inl (omega (arith, same, kept)))
      (λ (some : P best). inr (subst P (sym same) some))
      first.from)
      (λ (some : P word). inr some)
      second.from;
  no_less = omega (arith, first.no_less, second.no_less);
}

pub not_risen : (P : ℕ → Type 0) (best : ℕ) → IsRisen P best best
not_risen P best = record { from = inl refl; no_less = omega arith }

-- a line of the stretch that is as good, or better
pub risen_by_line : (page : LivingPage) (least before word : ℕ) (stretch : Stretch) (more depth : ℕ) → more < stretch.offsets → stretch.shallowest ≤ depth → depth ≤ stretch.deepest
    → IsGreaterKey (IsKeyAt page least stretch.slope (stretch.from +ℤ pos more) depth) before word → IsRisen (IsKeyIn page least stretch) before word
risen_by_line page least before word stretch more depth less shallow deep exact = record {
  from = ⊎_elim
      (λ (same : word ≡ before). inl same)
      (λ (at : IsKeyAt page least stretch.slope (stretch.from +ℤ pos more) depth word). inr (record {
        offset = stretch.from +ℤ pos more;
        from_offset = further stretch.from more;
        to_offset = before_end stretch.from more stretch.offsets less;
        of = record { depth = depth; from_depth = shallow; to_depth = deep; at = at };
      }))
      exact.from;
  no_less = exact.no_less;
}
  where
    before_end : (from : ℤ) (more count : ℕ) → more < count → (from +ℤ pos more) <ℤ (from +ℤ pos count)
    before_end from more count less = omega (arith, ints)

-- the greatest key of a stretch, where some counts that are done with weigh no less for each line than it scores
pub greatest_risen : (page : LivingPage) (least before word : ℕ) (stretch : Stretch) → IsOfPage page.height stretch → IsRisen (IsKeyIn page least stretch) before word
    → ((more k : ℕ) → more < stretch.offsets → (part : List ℕ) × HasColumn page stretch more k part × AreBeaten page least stretch part word)
    → IsGreaterKey (IsKeyIn page least stretch) before word
greatest_risen page least before word stretch of_page risen parts = record {
  from = risen.from;
  no_less = risen.no_less;
  greatest = λ key is.
      let there = behind_first stretch.from is.offset stretch.offsets is.from_offset is.to_offset in
      let depth : ℕ = is.of.depth in
      let at : IsKeyAt page least stretch.slope (stretch.from +ℤ pos there.0) depth key =
      subst (λ (o : ℤ). IsKeyAt page least stretch.slope o depth key) there.2 is.of.at in
      let held = parts there.0 at.in_column there.1 in
      let less = held.2 there.0 depth there.1 is.of.from_depth is.of.to_depth at.score at.in_column at.scored at.enough
      (score_low page stretch there.0 depth at.score at.in_column held.0 of_page.slope_in of_page.low there.1 is.of.to_depth held.1 at.scored) in
      (less.0, omega (arith, less.1, at.has_key));
}
