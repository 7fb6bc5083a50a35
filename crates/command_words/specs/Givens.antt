-- What `clap` is asked for: the values of the options as they are written.
use Rattle.std.specs.Prelude.{◌≡◌, ◌≢◌, List, [], ◌∷◌, ◌++◌, codes, Option, option_map, map, AllPairs}
use Rattle.std.specs.List.{All, Contains}
use Rattle.std.specs.Borrow.{Bor}
use Rattle.command_words.specs.Items.{Text, Item, SpellsOption}
use Rattle.command_words.specs.Plans.{AreApart, options_of, value_in}
use Rattle.command_words.specs.declared.plan.Program.{Program}
use Rattle.command_words.specs.declared.options.OptionTexts.{OptionTexts}

-- the text behind a reference, where there is one
abbrev pub text_of : Option (Bor Text) → Option Text
text_of = option_map (λ text. text.now)

-- the texts behind references
abbrev pub texts_of : List (Bor Text) → List Text
texts_of = map (λ text. text.now)

-- The words, as `clap` is given them, are those of the items, one item after the other, each with its value.
abbrev pub SpellsOptions : List Item → List Text → Type 0
SpellsOptions [] words = words ≡ []
SpellsOptions (item ∷ items) words =
    (first : List Text) × (rest : List Text) × (words ≡ first ++ rest) × SpellsOption item first × SpellsOptions items rest

-- They are these items, of options that the program has, each at most once.
pub record HasOptions (program : Program) (words : List Text) (items : List Item) : Type 0 where
  pub spelled : SpellsOptions items words
  pub known : All (λ item. Contains (options_of program) item.name) items
  pub once : AllPairs (λ first later. first.name ≢ later.name) items

-- the words are items, and these are their values
pub record HasValues (program : Program) (words : List Text) (given : OptionTexts) : Type 0 where
  pub items : List Item
  pub spelled : HasOptions program words items
  pub workers : text_of given.workers ≡ value_in items (codes "workers")
  pub rects : text_of given.rects ≡ value_in items (codes "rects")
  pub image : text_of given.image ≡ value_in items (codes "image")
  pub make : text_of given.make ≡ value_in items (codes "make")
  pub words_given : text_of given.words ≡ value_in items (codes "words")
  pub blocks_given : text_of given.blocks ≡ value_in items (codes "blocks")
  pub cells_given : text_of given.xy ≡ value_in items (codes "xy")

-- where a seed is given, no image's name is given and no flag
pub record IsSeedApart (given : OptionTexts) : Type 0 where
  pub image : AreApart (text_of given.image) (text_of given.make)
  pub words : AreApart (text_of given.words) (text_of given.make)
  pub blocks : AreApart (text_of given.blocks) (text_of given.make)
  pub cells : AreApart (text_of given.xy) (text_of given.make)
