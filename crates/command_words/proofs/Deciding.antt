-- Why words have no plan: values that tell none.
use Rattle.std.proofs.Common.{◌≡◌, ◌∙◌, ℕ, ap, sym, subst, codes, List, map, Option, Some, None}
use Rattle.std.specs.Prelude.{is_some}
use Rattle.command_words.specs.Items.{Text}
use Rattle.command_words.specs.Values.{IsImageOf, IsNumberOf, IsSeedOf}
use Rattle.command_words.specs.Plans.{AreApart, HasNoPlan, HasPlan, usual_workers, value_in}
use Rattle.command_words.specs.Givens.{HasValues, IsSeedApart, text_of}
use Rattle.command_words.specs.declared.options.OptionTexts.{OptionTexts}
use Rattle.command_words.specs.declared.plan.Plan.{Plan}
use Rattle.layout_limits.specs.declared.TheConstants.{MAX_RECTS, MAX_WORKERS}
use Rattle.command_words.specs.declared.plan.TheConstants.{USUAL_RECTS}
use Rattle.command_words.specs.declared.plan.Program.{Program}
use Rattle.command_words.specs.Strays.{told_word}
use Rattle.command_words.proofs.Known.{one_options}
use Rattle.command_words.proofs.Flags.{one_items, told_items}

-- the plan's items are those of the values
same_values : (program : Program) (words : List Text) (given : OptionTexts) (plan : Plan) (values : HasValues program (map told_word words) given) (has : HasPlan program words plan)
    → has.items ≡ values.items
same_values program words given plan values has =
    one_options program (map told_word words) has.items values.items (told_items program words has.items has.spelled) values.spelled

-- The words have no plan, where what a plan says of the value of an option holds of none that was given.
pub no_plan : (program : Program) (words : List Text) (given : OptionTexts) (values : HasValues program (map told_word words) given) (Tells : Plan → Option Text → Type 0) (name : Text) (text : Option Text)
    → text ≡ value_in values.items name → ((plan : Plan) (has : HasPlan program words plan) → Tells plan (value_in has.items name))
    → ((plan : Plan) → Tells plan text → ⊥) → HasNoPlan program words
no_plan program words given values Tells name text is told none plan has =
    none plan (subst (Tells plan) (sym is) (subst (λ items. Tells plan (value_in items name)) (same_values program words given plan values has) (told plan has)))

-- an option that a plan has apart from a seed was given apart from one
apart_as_given : (program : Program) (words : List Text) (given : OptionTexts) (plan : Plan) (values : HasValues program (map told_word words) given) (has : HasPlan program words plan) (name : Text) (text : Option Text)
    → text ≡ value_in values.items name → AreApart (value_in has.items name) (value_in has.items (codes "make")) → AreApart text (text_of given.make)
apart_as_given program words given plan values has name text is apart =
    subst (λ v. AreApart v (text_of given.make)) (sym is)
    (subst (λ v. AreApart (value_in values.items name) v) (sym values.make)
    (subst (λ is. AreApart (value_in is name) (value_in is (codes "make"))) (same_values program words given plan values has) apart))

-- Nor have words with a seed where an image, or a flag, is given too.
pub not_apart : (program : Program) (words : List Text) (given : OptionTexts) → HasValues program (map told_word words) given
    → (IsSeedApart given → ⊥) → HasNoPlan program words
not_apart program words given values both plan has =
    let as_given = apart_as_given program words given plan values has in
    both (record {
      image = as_given (codes "image") (text_of given.image) values.image has.apart;
      words = as_given (codes "words") (text_of given.words) values.words_given has.words_apart;
      blocks = as_given (codes "blocks") (text_of given.blocks) values.blocks_given has.blocks_apart;
      cells = as_given (codes "xy") (text_of given.xy) values.cells_given has.cells_apart;
    })

-- a value tells one number at most, one name, and one seed
one_number : (value : Option Text) (usual least most n m : ℕ) → IsNumberOf value usual least most n → IsNumberOf value usual least most m → n ≡ m
one_number None usual least most n m is_n is_m = is_n ∙ sym is_m
one_number (Some text) usual least most n m is_n is_m = sym is_n.spelled.value ∙ is_m.spelled.value

one_name : (value : Option Text) (x y : Text) → IsImageOf value x → IsImageOf value y → x ≡ y
one_name None x y is_x is_y = is_x ∙ sym is_y
one_name (Some text) x y is_x is_y = is_x.1 ∙ sym is_y.1

one_seed : (value : Option Text) (x y : Option ℕ) → IsSeedOf value x → IsSeedOf value y → x ≡ y
one_seed None x y is_x is_y = is_x ∙ sym is_y
one_seed (Some text) x y is_x is_y = is_x.is ∙ ap Some (sym is_x.spelled.value ∙ is_y.spelled.value) ∙ sym is_y.is

pub one_plan : (program : Program) (words : List Text) (p q : Plan) → HasPlan program words p → HasPlan program words q → p ≡ q
one_plan program words p q has_p has_q =
    let same = one_items program words has_p.items has_q.items has_p.spelled has_q.spelled in
    let rects = one_number (value_in has_q.items (codes "rects")) USUAL_RECTS 1 MAX_RECTS p.rects q.rects
    (subst (λ is. IsNumberOf (value_in is (codes "rects")) USUAL_RECTS 1 MAX_RECTS p.rects) same has_p.rects) has_q.rects in
    let workers = one_number (value_in has_q.items (codes "workers")) (usual_workers program) 1 MAX_WORKERS p.workers q.workers
    (subst (λ is. IsNumberOf (value_in is (codes "workers")) (usual_workers program) 1 MAX_WORKERS p.workers) same has_p.workers) has_q.workers in
    let image = one_name (value_in has_q.items (codes "image")) p.image q.image
    (subst (λ is. IsImageOf (value_in is (codes "image")) p.image) same has_p.image) has_q.image in
    let make = one_seed (value_in has_q.items (codes "make")) p.make q.make
    (subst (λ is. IsSeedOf (value_in is (codes "make")) p.make) same has_p.make) has_q.make in
    let shows : (name : Text) → is_some (value_in has_p.items name) ≡ is_some (value_in has_q.items name) = λ name. ap (λ is. is_some (value_in is name)) same in
    let shown : p.words ≡ q.words = has_p.shows_words ∙ shows (codes "words") ∙ sym has_q.shows_words in
    let blocks : p.blocks ≡ q.blocks = has_p.shows_blocks ∙ shows (codes "blocks") ∙ sym has_q.shows_blocks in
    let cells : p.xy ≡ q.xy = has_p.shows_cells ∙ shows (codes "xy") ∙ sym has_q.shows_cells in
    λ i. record { rects = rects i; workers = workers i; image = image i; make = make i; words = shown i; blocks = blocks i; xy = cells i }
