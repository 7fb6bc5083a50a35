-- The refusal that a run owes its input by its plan. The images are judged in their order, each by its bytes first, then by its components
-- and then, where the plan shows them, by its blocks: these come before the fault of the next image.
use Rattle.std.specs.Prelude.{◌≡◌, ◌≤◌, ◌⊎◌, ℕ, List, [], ◌∷◌, ◌++◌, length, All}
use Rattle.pbm_reader.specs.declared.limits.TheConstants.{MAX_IMAGES, MAX_INPUT}
use Rattle.pbm_reader.specs.declared.fault.PageFault.{PageFault}
use Rattle.pbm_reader.specs.declared.form.Form.TheVariants.{Plain}
use Rattle.pbm_reader.specs.Page.{Page}
use Rattle.pbm_reader.specs.Images.{AreImages, HasPagesFault, SpellsIn}
use Rattle.command_words.specs.declared.plan.Program.{Program}
use Rattle.command_words.specs.Plans.{HasNoPlan}
use Rattle.command_words.specs.declared.plan.Plan.{Plan}
use Rattle.layout_core.specs.Layouts.{HasFew, HasTooMany}
use Rattle.layout_core.specs.Run.{ReadsBy}
use Rattle.layout_core.specs.declared.refusal.Refusal.{Refusal}
use Rattle.layout_core.specs.declared.refusal.Refusal.TheVariants as refusals

-- Raw images of these pages stand at the front of the input, within the limits of an input.
pub record StandInFront (pages : List Page) (input : List ℕ) : Type 0 where
  pub images : List ℕ
  pub behind : List ℕ
  pub whole : input ≡ images ++ behind
  pub are_images : AreImages pages images
  pub few : length pages ≤ MAX_IMAGES
  pub short : length images ≤ MAX_INPUT

-- The input has this fault, and each page of the images at its front, behind which the fault stands, has few components and blocks.
pub record OwesFault (plan : Plan) (input : List ℕ) (fault : PageFault) : Type 0 where
  pub has : HasPagesFault input fault
  pub few : (pages : List Page) → StandInFront pages input → All (HasFew plan) pages

-- The last page of some images at the front has so many components or blocks, which are too many, and the pages before it have few. What
-- stands behind these images has no part in it.
pub record ImageHasTooMany (plan : Plan) (input : List ℕ) (count : ℕ) : Type 0 where
  pub before : List Page
  pub last : Page
  pub front : StandInFront (before ++ last ∷ []) input
  pub few : All (HasFew plan) before
  pub many : HasTooMany plan last count

-- The input spells one page in the plain form, which has so many components or blocks, and these are too many.
pub record PlainHasTooMany (plan : Plan) (input : List ℕ) (count : ℕ) : Type 0 where
  pub page : Page
  pub spells : SpellsIn Plain input page
  pub many : HasTooMany plan page count

-- The refusal that is owed to the input: that of its fault, or that of too many components or blocks of a page.
abbrev pub Owes : Plan → List ℕ → Refusal → Type 0
Owes plan input (refusals.Page fault) = OwesFault plan input fault
Owes plan input (refusals.TooMany count) = ImageHasTooMany plan input count ⊎ PlainHasTooMany plan input count
Owes plan input refusal = ⊥

-- The refusal that is owed to the words and the input: that of the words where they have no plan, and else, where they plan to read, that
-- of the input.
abbrev pub IsOwed : Program → List (List ℕ) → List ℕ → Refusal → Type 0
IsOwed program words input (refusals.Usage named) = (named ≡ program) × HasNoPlan program words
IsOwed program words input refusal = ReadsBy program words (λ plan. Owes plan input refusal)

-- No refusal is owed to every input that begins with these bytes.
abbrev pub DecidesNoRefusal : Plan → List ℕ → Type 0
DecidesNoRefusal plan taken = (refusal : Refusal) → ((rest : List ℕ) → Owes plan (taken ++ rest) refusal) → ⊥
