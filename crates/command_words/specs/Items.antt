-- A list of words as items: options with their values, and flags.
use Rattle.std.specs.Str.{bytes_eq}
use Rattle.std.specs.List.{list_any}
use Rattle.std.specs.Prelude.{◌≡◌, ◌⊎◌, ◌==◌, ℕ, Bool, true, false, List, [], ◌∷◌, ◌++◌, codes}

-- The bytes of a text.
abbrev pub Text : Type 0
Text = List ℕ

-- An option, by its name without the two hyphens, and its value. That of a flag is empty.
pub record Item : Type 0 where
  pub name : Text
  pub value : Text

-- the first byte is a hyphen (45)
abbrev pub begins_with_hyphen : Text → Bool
begins_with_hyphen [] = false
begins_with_hyphen (byte ∷ rest) = byte == 45

-- The flags, each by its name.
abbrev pub flags : List Text
flags = codes "words" ∷ codes "blocks" ∷ codes "xy" ∷ []

-- The option takes no value.
abbrev pub is_flag : Text → Bool
is_flag name = list_any (bytes_eq name) flags

-- The words spell an option with its value: `--name=value`, or `--name` and the value in a word of its own, which
-- then does not begin with a hyphen.
abbrev pub SpellsOption : Item → List Text → Type 0
SpellsOption item words =
    (words ≡ (codes "--" ++ item.name ++ codes "=" ++ item.value) ∷ [])
    ⊎ ((words ≡ (codes "--" ++ item.name) ∷ item.value ∷ []) × (begins_with_hyphen item.value ≡ false))

-- The words spell a flag: `--name` and nothing else.
pub record SpellsFlag (item : Item) (words : List Text) : Type 0 where
  pub flag : is_flag item.name ≡ true
  pub no_value : item.value ≡ []
  pub is : words ≡ (codes "--" ++ item.name) ∷ []

-- The words spell the item: an option with its value, or a flag.
abbrev pub SpellsItem : Item → List Text → Type 0
SpellsItem item words = SpellsFlag item words ⊎ ((is_flag item.name ≡ false) × SpellsOption item words)

-- The words are those of the items, one item after the other.
abbrev pub SpellsItems : List Item → List Text → Type 0
SpellsItems [] words = words ≡ []
SpellsItems (item ∷ items) words =
    (first : List Text) × (rest : List Text) × (words ≡ first ++ rest) × SpellsItem item first × SpellsItems items rest
