use Rattle.std.proofs.Common.{◌≡◌, ◌+◌, ◌*◌, ◌/◌, ◌%◌, ◌<◌, ℕ, length, get_or, eqb, arith, ap, ◌∙◌}
use Rattle.std.specs.Int.{bit_at}
use Rattle.std.proofs.lemmas.Nat.{mul-add-lt}
use Rattle.std.proofs.lemmas.Nat.Bits.{shr_and_one}
use Rattle.std.proofs.lemmas.List.{get_or_read}
use Rattle.reading_order.specs.Tables.{is_marked}
use Rattle.reading_order.proofs.Words.{word_low}
use Rattle.reading_order.proofs.table.Table.get.Goals as goal

pub returns : goal.returns
unfolding is_marked
returns c =
    let table = c.args.self.now in
    let words = table.words.items in
    let place = c.args.later * table.side + c.args.earlier in
    let low : place < table.side * table.side = mul-add-lt c.args.later table.side c.args.earlier table.side c.requires.later c.requires.earlier in
    let within : place / 64 < length words = omega (arith, word_low (table.side * table.side) place low, table.room, table.words.ok.0) in
    let at : c.index.result.now ≡ get_or words (place / 64) 0 = get_or_read words (place / 64) _ within c.index.ensures 0 in
    ap (λ (v : ℕ). eqb v 1) (shr_and_one c.index.result.now (place % 64) ∙ ap (λ (v : ℕ). bit_at v (place % 64)) at)
