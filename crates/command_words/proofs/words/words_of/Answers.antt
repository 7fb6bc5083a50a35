use Rattle.std.proofs.Common.{◌≡◌, ◌∙◌, ℕ, List, false, map, ap, codes, rules, subst, sym, true≢false}
use Rattle.std.specs.List.{list_any}
use Rattle.std.specs.Borrow.{Bor}
use Rattle.clap.proofs.TakesLemmas.{passed_up}
use Rattle.command_words.specs.Values.{IsImageOf, IsNumberOf, IsSeedOf}
use Rattle.command_words.specs.Plans.{usual_workers}
use Rattle.layout_limits.specs.declared.TheConstants.{MAX_RECTS, MAX_WORKERS}
use Rattle.command_words.specs.declared.plan.TheConstants.{USUAL_RECTS}
use Rattle.command_words.specs.Givens.{HasOptions, HasValues, text_of, texts_of}
use Rattle.command_words.specs.Items.{Text, Item}
use Rattle.command_words.specs.Plans.{HasNoPlan}
use Rattle.command_words.specs.Strays.{is_refused, is_stray, told_word}
use Rattle.command_words.specs.declared.options.OptionTexts.{OptionTexts}
use Rattle.command_words.specs.declared.plan.Program.{Program}
use Rattle.command_words.proofs.Flags.{given_items, items_unrefused_words, told_items, told_plain}
use Rattle.command_words.proofs.Deciding.{no_plan, not_apart}
use Rattle.command_words.proofs.words.words_of.Goals as goal

-- what was told of the words, where their texts are those that `clap` was given
values_of : (program : Program) (words : List Text) (texts told : List (Bor Text)) (given : OptionTexts) → texts ≡ told → texts_of told ≡ map told_word words
    → HasValues program (texts_of texts) given → HasValues program (map told_word words) given
values_of program words texts told given same is values = subst (λ ws. HasValues program ws given) (ap texts_of same ∙ is) values

plain_texts : (words : List Text) (texts told : List (Bor Text)) → texts ≡ told → texts_of told ≡ map told_word words → list_any is_refused words ≡ false
    → list_any is_stray (texts_of texts) ≡ false
plain_texts words texts told same is fine = ap (list_any is_stray) (ap texts_of same ∙ is) ∙ told_plain words fine

refused_texts : (program : Program) (words : List Text) (texts told : List (Bor Text)) → texts ≡ told → texts_of told ≡ map told_word words
    → ((items : List Item) → HasOptions program (texts_of texts) items → ⊥) → HasNoPlan program words
refused_texts program words texts told same is none plan has =
    none has.items (subst (λ ws. HasOptions program ws has.items) (sym (ap texts_of same ∙ is)) (told_items program words has.items has.spelled))

pub read_options-requires : goal.read_options-requires
read_options-requires c = record { plain = plain_texts _ c.deref.result.now _ c.deref.ensures.value c.in_ok-told.ensures.told c.in_ok-told.ensures.plain }

pub returns-in_err-told-clause-usage : goal.returns-in_err-told-clause-usage
returns-in_err-told-clause-usage c =
    passed_up _ _ _ c.from_residual.ensures.1
    (λ is plan has. true≢false (sym (c.in_err-told.ensures.usage is) ∙ items_unrefused_words c.args.program _ has.items has.spelled))

pub returns-in_err-given-clause-usage : goal.returns-in_err-given-clause-usage
returns-in_err-given-clause-usage c =
    passed_up _ _ _ c.from_residual-in_err-given.ensures.1
    (λ is. refused_texts c.args.program _ c.deref.result.now _ c.deref.ensures.value c.in_ok-told.ensures.told (c.in_err-given.ensures.usage is))

pub returns-then-not-is_seed_apart-clause-usage : goal.returns-then-not-is_seed_apart-clause-usage
returns-then-not-is_seed_apart-clause-usage c = λ is.
    not_apart c.args.program _ c.in_ok-given.given (values_of c.args.program _ c.deref.result.now _ c.in_ok-given.given c.deref.ensures.value c.in_ok-told.ensures.told c.in_ok-given.ensures.values)
    (λ apart. true≢false (sym (c.is_seed_apart.ensures.apart.1 apart) ∙ c.if-not-is_seed_apart.true))

pub returns-in_err-workers-clause-usage : goal.returns-in_err-workers-clause-usage
returns-in_err-workers-clause-usage c =
    let values = (values_of c.args.program _ c.deref.result.now _ c.in_ok-given.given c.deref.ensures.value c.in_ok-told.ensures.told c.in_ok-given.ensures.values) in
    passed_up _ _ _ c.from_residual-in_err-workers.ensures.1
    (λ is. no_plan c.args.program _ c.in_ok-given.given values (λ plan v. IsNumberOf v (usual_workers c.args.program) 1 MAX_WORKERS plan.workers) (codes "workers") _ values.workers (λ plan has. has.workers) (λ plan. subst (λ usual. (n : ℕ) → IsNumberOf (text_of c.in_ok-given.given.workers) usual 1 MAX_WORKERS n → ⊥) c.workers_of.ensures.usual c.in_err-workers.ensures.usage.1 plan.workers))

pub returns-in_err-rects-clause-usage : goal.returns-in_err-rects-clause-usage
returns-in_err-rects-clause-usage c =
    let values = (values_of c.args.program _ c.deref.result.now _ c.in_ok-given.given c.deref.ensures.value c.in_ok-told.ensures.told c.in_ok-given.ensures.values) in
    passed_up _ _ _ c.from_residual-in_err-rects.ensures.1
    (λ is. no_plan c.args.program _ c.in_ok-given.given values (λ plan v. IsNumberOf v USUAL_RECTS 1 MAX_RECTS plan.rects) (codes "rects") _ values.rects (λ plan has. has.rects) (λ plan. c.in_err-rects.ensures.usage.1 plan.rects))

pub returns-in_err-image-clause-usage : goal.returns-in_err-image-clause-usage
returns-in_err-image-clause-usage c =
    let values = (values_of c.args.program _ c.deref.result.now _ c.in_ok-given.given c.deref.ensures.value c.in_ok-told.ensures.told c.in_ok-given.ensures.values) in
    passed_up _ _ _ c.from_residual-in_err-image.ensures.1
    (λ is. no_plan c.args.program _ c.in_ok-given.given values (λ plan v. IsImageOf v plan.image) (codes "image") _ values.image (λ plan has. has.image) (λ plan. c.in_err-image.ensures.usage is plan.image))

pub returns-in_err-make-clause-usage : goal.returns-in_err-make-clause-usage
returns-in_err-make-clause-usage c =
    let values = (values_of c.args.program _ c.deref.result.now _ c.in_ok-given.given c.deref.ensures.value c.in_ok-told.ensures.told c.in_ok-given.ensures.values) in
    passed_up _ _ _ c.from_residual-in_err-make.ensures.1
    (λ is. no_plan c.args.program _ c.in_ok-given.given values (λ plan v. IsSeedOf v plan.make) (codes "make") _ values.make (λ plan has. has.make) (λ plan. c.in_err-make.ensures.usage.1 plan.make))

pub returns-clause-plan : goal.returns-clause-plan
returns-clause-plan c =
    let values = (values_of c.args.program _ c.deref.result.now _ c.in_ok-given.given c.deref.ensures.value c.in_ok-told.ensures.told c.in_ok-given.ensures.values) in
    record {
      items = values.items;
      spelled = given_items c.args.program _ values.items c.in_ok-told.ensures.plain values.spelled;
      workers = search rules;
      rects = search rules;
      image = search rules;
      make = search rules;
      shows_words = search rules;
      shows_blocks = search rules;
      shows_cells = search rules;
      apart = search rules;
      words_apart = search rules;
      blocks_apart = search rules;
      cells_apart = search rules;
    }
