use Rattle.std.proofs.Common.{◌-◌, ◌/◌, ◌^◌, arith}
use Rattle.std.specs.Int.RustNames.{bit_and}
use Rattle.std.proofs.lemmas.Nat.Bits.{ones_shr}
use Rattle.page_runs.proofs.RowWords.{first_one, first_from, not_of_colour, masked_below}
use Rattle.page_runs.proofs.row_words.first_in_word.Goals as goal

pub returns : goal.returns
returns c =
    let ones = c.pixels_of.result in
    let from = c.args.from in
    let mask = (2 ^ 64 - 1) / 2 ^ from in
    let is_mask = ones_shr 64 from (omega (arith, c.requires.from)) in
    let first = first_from ones mask from _ c.requires.from is_mask (first_one (bit_and ones mask) (masked_below ones from)) in
    record {
      not_before = first.not_before;
      within = first.within;
      other = λ k begun less. not_of_colour _ _ ones c.requires.colour c.pixels_of.ensures (63 - k) (omega arith) (first.before k begun less);
      found = λ some. (c.pixels_of.ensures (63 - _) (omega arith)).0 (first.here some);
    }
