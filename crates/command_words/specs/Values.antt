-- What the values of options mean.
use Rattle.std.specs.Prelude.{◌≡◌, ◌≢◌, ◌<◌, ◌≤◌, ◌^◌, ℕ, [], Option, Some, None, MatchOption, length}
use Rattle.std.specs.List.{All}
use Rattle.std.specs.Str.Parse.{digits_value}
use Rattle.command_words.specs.declared.plan.TheConstants.{MAX_DIGITS, MAX_NAME_BYTES}
use Rattle.command_words.specs.Items.{Text}

-- `0` to `9`
abbrev pub IsDigit : ℕ → Type 0
IsDigit byte = (48 ≤ byte) × (byte ≤ 57)

-- The text is of 1 to `MAX_DIGITS` decimal digits and nothing else, which write n. Zeros in front count.
pub record SpellsNumber (text : Text) (n : ℕ) : Type 0 where
  pub some : 1 ≤ length text
  pub short : length text ≤ MAX_DIGITS
  pub digits : All IsDigit text
  pub value : digits_value 10 text ≡ n

-- The text spells n, which lies in the range.
pub record SpellsNumberIn (least most : ℕ) (text : Text) (n : ℕ) : Type 0 where
  pub spelled : SpellsNumber text n
  pub at_least : least ≤ n
  pub at_most : n ≤ most

-- n is what the value of an option spells, and what is usual where the option is not given
abbrev pub IsNumberOf : Option Text → ℕ → ℕ → ℕ → ℕ → Type 0
IsNumberOf value usual least most n = MatchOption value (n ≡ usual) (λ text. SpellsNumberIn least most text n)

-- The seed is the number that the text spells, and lies below 2 ^ 64.
pub record IsSeed (text : Text) (seed : Option ℕ) : Type 0 where
  pub number : ℕ
  pub is : seed ≡ Some number
  pub spelled : SpellsNumber text number
  pub below : number < 2 ^ 64

-- The seed is what the value of an option spells, and there is none where the option is not given.
abbrev pub IsSeedOf : Option Text → Option ℕ → Type 0
IsSeedOf value seed = MatchOption value (seed ≡ None) (λ text. IsSeed text seed)

-- Printable ASCII (space to `~`), but none of `"`, `&`, `'`, `;`, `<`, `>` and the backslash.
pub record IsNameByte (byte : ℕ) : Type 0 where
  pub printable : (32 ≤ byte) × (byte ≤ 126)
  pub quote : byte ≢ 34
  pub ampersand : byte ≢ 38
  pub apostrophe : byte ≢ 39
  pub semicolon : byte ≢ 59
  pub less : byte ≢ 60
  pub greater : byte ≢ 62
  pub backslash : byte ≢ 92

-- 1 to `MAX_NAME_BYTES` such bytes
pub record IsImageName (text : Text) : Type 0 where
  pub some : 1 ≤ length text
  pub short : length text ≤ MAX_NAME_BYTES
  pub bytes : All IsNameByte text

-- The name is what the value of an option is, and empty where the option is not given.
abbrev pub IsImageOf : Option Text → Text → Type 0
IsImageOf value name = MatchOption value (name ≡ []) (λ text. IsImageName text × (name ≡ text))
