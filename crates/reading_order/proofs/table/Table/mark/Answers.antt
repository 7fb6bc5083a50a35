use Rattle.std.proofs.Common.{◌≡◌, ◌≢◌, ◌+◌, ◌*◌, ◌/◌, ◌%◌, ◌^◌, ◌<◌, ℕ, true, length, get_or, set, bit_or, arith, sym, subst}
use Rattle.std.proofs.lemmas.Nat.{same_from_place, mul-add-lt}
use Rattle.std.proofs.lemmas.List.{get_or_read}
use Rattle.reading_order.specs.Tables.{is_marked, is_set}
use Rattle.reading_order.proofs.Words.{set_same, set_other, word_low}
use Rattle.reading_order.proofs.table.Table.mark.Goals as goal

pub returns-clause-marked : goal.returns-clause-marked
unfolding is_marked
returns-clause-marked c =
    let table = c.args.self.now in
    let words = table.words.items in
    let place = c.args.later * table.side + c.args.earlier in
    let low : place < table.side * table.side = mul-add-lt c.args.later table.side c.args.earlier table.side c.requires.later c.requires.earlier in
    let within : place / 64 < length words = omega (arith, word_low (table.side * table.side) place low, table.room, table.words.ok.0) in
    let at : c.index_mut.result.now ≡ get_or words (place / 64) 0 = get_or_read words (place / 64) _ within c.index_mut.ensures.value 0 in
    let P : ℕ → Type 0 = λ v. is_set (set words (place / 64) (bit_or v (1 * 2 ^ (place % 64) % 2 ^ 64))) place ≡ true in
    subst P (sym at) (set_same words place within)

pub returns-clause-others : goal.returns-clause-others
unfolding is_marked
returns-clause-others c = λ a b a_low b_low apart.
    let table = c.args.self.now in
    let words = table.words.items in
    let place = c.args.later * table.side + c.args.earlier in
    let other = b * table.side + a in
    let low : place < table.side * table.side = mul-add-lt c.args.later table.side c.args.earlier table.side c.requires.later c.requires.earlier in
    let within : place / 64 < length words = omega (arith, word_low (table.side * table.side) place low, table.room, table.words.ok.0) in
    let at : c.index_mut.result.now ≡ get_or words (place / 64) 0 = get_or_read words (place / 64) _ within c.index_mut.ensures.value 0 in
    let ne : other ≢ place = λ e.
    let same = same_from_place b a c.args.later c.args.earlier table.side a_low c.requires.earlier e in
    apart same.0 same.1 in
    let P : ℕ → Type 0 = λ v. is_set (set words (place / 64) (bit_or v (1 * 2 ^ (place % 64) % 2 ^ 64))) other ≡ is_set words other in
    subst P (sym at) (set_other words place other within ne)
