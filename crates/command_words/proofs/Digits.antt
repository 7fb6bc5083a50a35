-- The digits of a number, as `parse` sees them.
use Rattle.std.proofs.Common.{◌≡◌, ◌+◌, ◌<◌, ◌≤◌, ◌∙◌, ℕ, [], ◌∷◌, length, arith, refl, suc, sym, subst, ap, eqb-true, Bool, true, false, ◌==◌}
use Rattle.std.specs.List.{All}
use Rattle.std.specs.Char.{digit_value}
use Rattle.std.specs.Str.Parse.{AllDigits, IsNumeral, ParsesUnsigned, digits_value, without_leading_plus}
use Rattle.std.specs.Prelude.{Result, Ok, Err, IfNone, ◌^◌}
use Rattle.std.specs.Result.{result_ok}
use Rattle.std.proofs.lemmas.Str.{digit_value_digit}
use Rattle.command_words.specs.Items.{Text}
use Rattle.command_words.specs.Values.{IsDigit, SpellsNumber}

digit_below_ten : (byte : ℕ) → IsDigit byte → digit_value byte < 10
digit_below_ten byte is = let value : digit_value byte + 48 ≡ byte = digit_value_digit byte is in omega (arith, value, is.1)

all_digits : (text : Text) → All IsDigit text → AllDigits 10 text
all_digits [] all = tt
all_digits (byte ∷ rest) all = (digit_below_ten byte (all 0 byte (omega arith)), all_digits rest (λ k d lt. all (suc k) d (omega arith)))

-- no sign stands in front of digits
no_plus : (text : Text) → 1 ≤ length text → All IsDigit text → without_leading_plus text ≡ text
no_plus [] some all = refl
no_plus (byte ∷ rest) some all = go (byte == 43) refl
  where
    go : (b : Bool) → (byte == 43) ≡ b → without_leading_plus (byte ∷ rest) ≡ byte ∷ rest
    go true is = let plus : byte ≡ 43 = eqb-true byte 43 is in let digit = all 0 byte (omega arith) in absurd (omega (arith, digit.0))
    go false is = rw is refl

pub numeral_of : (text : Text) (n : ℕ) → SpellsNumber text n → IsNumeral 10 (without_leading_plus text) × (digits_value 10 (without_leading_plus text) ≡ n)
numeral_of text n spelled =
    let same = no_plus text spelled.some spelled.digits in
    (subst (IsNumeral 10) (sym same) (omega (arith, spelled.some), all_digits text spelled.digits), ap (digits_value 10) same ∙ spelled.value)

-- `parse` refuses no number that a `u64` holds
pub no_number : {E : Type 0} (text : Text) (r : Result ℕ E) → ParsesUnsigned 64 10 text r → IfNone (result_ok r) ((n : ℕ) → SpellsNumber text n → n < 2 ^ 64 → ⊥)
no_number text (Ok x) parses = tt
no_number text (Err e) parses = λ n spelled fits.
    let numeral = numeral_of text n spelled in
    parses (numeral.0, subst (λ v. v < 2 ^ 64) (sym numeral.1) fits)
