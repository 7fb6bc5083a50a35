-- The plan of a list of words.
use Rattle.std.specs.Prelude.{◌≡◌, ◌≢◌, ◌⊎◌, ℕ, List, ◌∷◌, codes, Option, None, is_some, find, option_map, AllPairs}
use Rattle.std.specs.List.{All, Contains}
use Rattle.std.specs.Str.{bytes_eq}
use Rattle.command_words.specs.Items.{Text, Item, SpellsItems, flags}
use Rattle.command_words.specs.Values.{IsNumberOf, IsImageOf, IsSeedOf}
use Rattle.layout_limits.specs.declared.TheConstants.{MAX_RECTS, MAX_WORKERS}
use Rattle.command_words.specs.declared.plan.TheConstants.{USUAL_RECTS, USUAL_WORKERS}
use Rattle.command_words.specs.declared.plan.Program.{Program}
use Rattle.command_words.specs.declared.plan.Program.TheVariants.{Alone, Shared}
use Rattle.command_words.specs.declared.plan.Plan.{Plan}

-- The options that a program has, the flags among them.
abbrev pub options_of : Program → List Text
options_of Alone = codes "rects" ∷ codes "image" ∷ codes "make" ∷ flags
options_of Shared = codes "workers" ∷ codes "rects" ∷ codes "image" ∷ codes "make" ∷ flags

-- The words are these items, of options that the program has, each at most once.
pub record HasItems (program : Program) (words : List Text) (items : List Item) : Type 0 where
  pub spelled : SpellsItems items words
  pub known : All (λ item. Contains (options_of program) item.name) items
  pub once : AllPairs (λ first later. first.name ≢ later.name) items

-- The value of an option, where it is among the items.
abbrev pub value_in : List Item → Text → Option Text
value_in items name = option_map (λ item. item.value) (find (λ item. bytes_eq item.name name) items)

-- how many threads search where no word tells
abbrev pub usual_workers : Program → ℕ
usual_workers Alone = 1
usual_workers Shared = USUAL_WORKERS

-- At most one of the two options is given.
abbrev pub AreApart : Option Text → Option Text → Type 0
AreApart first second = (first ≡ None) ⊎ (second ≡ None)

-- The words are items whose values tell the plan.
pub record HasPlan (program : Program) (words : List Text) (plan : Plan) : Type 0 where
  pub items : List Item
  pub spelled : HasItems program words items
  pub workers : IsNumberOf (value_in items (codes "workers")) (usual_workers program) 1 MAX_WORKERS plan.workers
  pub rects : IsNumberOf (value_in items (codes "rects")) USUAL_RECTS 1 MAX_RECTS plan.rects
  pub image : IsImageOf (value_in items (codes "image")) plan.image
  pub make : IsSeedOf (value_in items (codes "make")) plan.make
  pub shows_words : plan.words ≡ is_some (value_in items (codes "words"))
  pub shows_blocks : plan.blocks ≡ is_some (value_in items (codes "blocks"))
  pub shows_cells : plan.xy ≡ is_some (value_in items (codes "xy"))
  pub apart : AreApart (value_in items (codes "image")) (value_in items (codes "make"))
  pub words_apart : AreApart (value_in items (codes "words")) (value_in items (codes "make"))
  pub blocks_apart : AreApart (value_in items (codes "blocks")) (value_in items (codes "make"))
  pub cells_apart : AreApart (value_in items (codes "xy")) (value_in items (codes "make"))

-- The words have no plan.
abbrev pub HasNoPlan : Program → List Text → Type 0
HasNoPlan program words = (plan : Plan) → ¬ HasPlan program words plan
