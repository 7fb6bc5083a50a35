-- The options of the two programs, and the items of words that are theirs.
use Rattle.std.proofs.Common.{◌≡◌, ◌≢◌, Option, option_map, map, subst, ◌∙◌, ◌<◌, ℕ, Bool, true, false, zero, suc, refl, sym, ap, arith, List, [], ◌∷◌, length, ⊎_elim}
use Rattle.std.specs.List.{All, Any, Contains, list_all, list_any, slice_index_or}
use Rattle.std.proofs.lemmas.List.Folds.{Any-from_list_any, list_any-from_Any}
use Rattle.std.specs.Str.{bytes_eq}
use Rattle.clap.specs.Faults.{fault_of}
use Rattle.clap.specs.Simple.{App, matches_of}
use Rattle.clap.specs.Kinds.{HasKind, IsAmong}
use Rattle.clap.specs.Matches.{first_value, found_of}
use Rattle.clap.specs.Values.{kind_of}
use Rattle.clap.specs.Walk.{first_of, rows_of}
use Rattle.clap.specs.declared.error.Error.{Error}
use Rattle.clap.specs.declared.error.kind.ErrorKind.TheVariants.{OutOfMemory}
use Rattle.clap.specs.declared.parser.matches.ArgMatches.{ArgMatches}
use Rattle.clap.proofs.WalkLemmas.{first_value-rows, list_any-map}
use Rattle.std.specs.Borrow.{Bor}
use Rattle.command_words.specs.Givens.{HasOptions, text_of}
use Rattle.command_words.specs.declared.plan.WordFault.{WordFault}
use Rattle.command_words.specs.declared.plan.WordFault.TheVariants.{Memory, Usage}
use Rattle.clap.specs.Faults.{is_simple_and_free}
use Rattle.command_words.specs.Items.{Text, Item}
use Rattle.command_words.specs.Strays.{is_stray, is_refused}
use Rattle.command_words.specs.Commands.{app_for}
use Rattle.command_words.specs.Plans.{options_of, value_in}
use Rattle.command_words.specs.declared.plan.Program.{Program}
use Rattle.command_words.specs.declared.plan.Program.TheVariants.{Alone, Shared}
use Rattle.command_words.proofs.Walking.{is_option, same_text, text_is_itself}
use Rattle.command_words.proofs.Reading.{is_name}
use Rattle.command_words.proofs.Parsing.{Parses, no_strays, none_refused, one_list, parsed}

pub options_are_names : (program : Program) → list_all is_name (options_of program) ≡ true
options_are_names Alone = refl
options_are_names Shared = refl

pub command_is_simple : (program : Program) → is_simple_and_free (app_for program) ≡ true
command_is_simple Alone = refl
command_is_simple Shared = refl

-- within a list the default does not matter
get_or_any : (xs : List Text) (k : ℕ) (d e : Text) → k < length xs → slice_index_or xs k d ≡ slice_index_or xs k e
get_or_any [] k d e lt = absurd (omega arith)
get_or_any (x ∷ xs) zero d e lt = refl
get_or_any (x ∷ xs) (suc k) d e lt = get_or_any xs k d e (omega arith)

contains_option : (names : List Text) (name : Text) → is_option names name ≡ true → Contains names name
contains_option names name e =
    let any = Any-from_list_any (λ known. bytes_eq known name) names e in
    (any.0, any.2, get_or_any names any.0 name any.1 any.2 ∙ any.3 ∙ same_text any.1 name any.4)

option_contained : (names : List Text) (name : Text) → Contains names name → is_option names name ≡ true
option_contained names name has =
    list_any-from_Any (λ known. bytes_eq known name) names (has.0, name, has.1, has.2, text_is_itself name)

pub known_options : (program : Program) (items : List Item) → All (λ item. Contains (options_of program) item.name) items → All (λ item. is_option (options_of program) item.name ≡ true) items
known_options program items known k d lt = option_contained (options_of program) _ (known k d lt)

-- the items where the parse has no fault
pub items_parsed : (program : Program) (words : List Text) (p : Parses (options_of program) words) → HasOptions program words p.items
items_parsed program words p = record {
  spelled = p.spelled;
  known = λ k d lt. contains_option (options_of program) _ (p.known k d lt);
  once = p.once;
}

pub parsed_words : (program : Program) (words : List Text) → list_any is_stray words ≡ false → fault_of (app_for program) words ≡ [] → Parses (options_of program) words
parsed_words program words = parsed (options_of program) (options_are_names program) words

-- no items where it has one
pub items_unrefused : (program : Program) (words : List Text) (items : List Item) → HasOptions program words items → fault_of (app_for program) words ≡ []
items_unrefused program words items has =
    none_refused (options_of program) (options_are_names program) items words (known_options program items has.known) has.once has.spelled

-- nor where a word is one that stands in no plan
pub items_unstray : (program : Program) (words : List Text) (items : List Item) → HasOptions program words items → list_any is_stray words ≡ false
items_unstray program words items has =
    no_strays (options_of program) (options_are_names program) items words (known_options program items has.known) has.spelled

-- words are the items of one list at most
pub one_options : (program : Program) (words : List Text) (xs ys : List Item) → HasOptions program words xs → HasOptions program words ys → xs ≡ ys
one_options program words xs ys has_x has_y =
    one_list (options_of program) (options_are_names program) xs ys words
    (known_options program xs has_x.known) has_x.once has_x.spelled (known_options program ys has_y.known) has_y.once has_y.spelled

-- the values of the options where the parse has no fault
pub value_given : (program : Program) (words : List Text) (p : Parses (options_of program) words) (matches : ArgMatches) (name : Text) (text : Option (Bor Text))
    → rows_of (found_of matches) ≡ matches_of (app_for program) words → option_map (λ s. s.now) text ≡ first_value (found_of matches) name
    → text_of text ≡ value_in p.items name
value_given program words p matches name text rows first =
    first ∙ first_value-rows (found_of matches) name ∙ ap (first_of name) rows ∙ p.values name

-- an error of another kind than want of memory tells a fault
pub refused_words : (program : Program) (words : List Text) (app : App) (error : Error) (fault : WordFault) → app ≡ app_for program
    → (is_simple_and_free app ≡ true → HasKind (fault_of app words) error) → (kind_of error ≡ OutOfMemory → fault ≡ Memory)
    → fault ≡ Usage → fault_of (app_for program) words ≢ []
refused_words program words app error fault is kinds memory usage none =
    ⊎_elim
    (λ oom. let bad : Memory ≡ Usage = sym (memory oom) ∙ usage in cc)
    (λ (among : IsAmong (kind_of error) (fault_of app words)). subst (IsAmong (kind_of error)) (ap (λ a. fault_of a words) is ∙ none) among)
    (kinds (ap is_simple_and_free is ∙ command_is_simple program))

-- a word that stands in no plan, among the words
module _ {Word : Type 0} (bytes : Word → Text) where
  pub some_refused : (words : List Word) → Any (λ word. is_refused (bytes word) ≡ true) words → list_any is_refused (map bytes words) ≡ true
  some_refused words any = sym (list_any-map is_refused bytes words) ∙ list_any-from_Any (λ word. is_refused (bytes word)) words any

  pub none_refused_word : (words : List Word) → (Any (λ word. is_refused (bytes word) ≡ true) words → ⊥) → list_any is_refused (map bytes words) ≡ false
  none_refused_word words none = go (list_any is_refused (map bytes words)) refl
    where
      go : (b : Bool) → list_any is_refused (map bytes words) ≡ b → list_any is_refused (map bytes words) ≡ false
      go false e = e
      go true e = absurd (none (Any-from_list_any (λ word. is_refused (bytes word)) words (list_any-map is_refused bytes words ∙ e)))
