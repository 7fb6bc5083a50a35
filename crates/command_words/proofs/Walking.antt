-- What `clap` makes of one word, where the command has options with one value and nothing else.
use Rattle.std.proofs.Common.{◌≡◌, ◌∙◌, ◌&&◌, ◌||◌, ◌++◌, ℕ, Bool, cond, true, false, not, refl, sym, ap, ap₂, List, [], ◌∷◌, map, fold, Option, Some, None, codes, true≢false, ◌≢◌}
use Rattle.std.specs.List.{list_any}
use Rattle.std.specs.Str.{bytes_eq}
use Rattle.clap.specs.Lexer.{long_of, name_and_value, short_of}
use Rattle.clap.specs.Kinds.{Kinds, or_else}
use Rattle.clap.specs.Walk.{Held, Row, Rule, Walk, arg_by_id, arg_by_index, arg_by_long, has_row, idle, option, reacted, settled, used, walked, with_values, without}
use Rattle.clap.proofs.SimpleLemmas.{is_false}
use Rattle.clap.specs.Simple.{Shape, new_rule, new_shape}
use Rattle.clap.specs.Faults.{settle_fault, turn_fault, use_fault, walk_fault}
use Rattle.clap.specs.declared.builder.action.ArgAction.TheVariants.{Set}
use Rattle.clap.specs.declared.builder.value_parser.ValueParser.TheVariants as parsers
use Rattle.clap.specs.declared.parser.matches.ValueSource.TheVariants.{CommandLine}
use Rattle.clap.specs.declared.builder.value_parser.Reading.TheVariants as readings
use Rattle.clap.specs.declared.error.kind.ErrorKind.TheVariants as kinds
use Rattle.std.proofs.lemmas.Slice.Eq.{bytes_eq-Decides}
use Rattle.command_words.specs.Items.{Text, Item, begins_with_hyphen}

-- an option as `clap` builds it
abbrev pub ready : Text → Rule
ready name = record (new_rule name) {
  long = Some name;
  action = Some Set;
  range = Some (record { start_inclusive = 1; end_inclusive = 1 });
  parser = Some parsers.String;
}

-- and the command of such options
abbrev pub shape_with : List Text → Shape
shape_with names = record (new_shape (codes "layout")) {
  rules = map ready names;
  no_binary_name = true;
  disable_help_flag = true;
  disable_help_subcommand = true;
  is_built = true;
}

-- what is found of an item
abbrev pub row_for : Item → Row
row_for item = record {
  id = item.name;
  values = item.value ∷ [];
  count = None;
  source = Some CommandLine;
  reading = readings.AsWritten;
}

abbrev pub rows_for : List Item → List Row
rows_for = map row_for

abbrev pub is_option : List Text → Text → Bool
is_option names name = list_any (λ known. bytes_eq known name) names

abbrev pub has_item : List Item → Text → Bool
has_item items name = list_any (λ item. bytes_eq item.name name) items

-- what is held where an item ends: its value may still be pending
abbrev pub holds : List Item → Option Item → Held
holds before None = record { rows = rows_for before; pending = None; skip = 0 }
holds before (Some item) = record { rows = rows_for before; pending = Some (item.name, item.value ∷ []); skip = 0 }

-- and where the option was read and its value was not
abbrev pub expects : List Item → Text → Held
expects before name = record { rows = rows_for before; pending = Some (name, []); skip = 0 }

abbrev pub at_item : Held → Walk
at_item held = record { held = held; waiting = idle; position = 1; is_trailing = false; stopped = None }

abbrev pub at_value : Text → Held → Walk
at_value name held = record { held = held; waiting = option name; position = 1; is_trailing = false; stopped = None }

pub same_text : (a b : Text) → bytes_eq a b ≡ true → a ≡ b
same_text a b e = (bytes_eq-Decides a b).0 e

pub text_is_itself : (a : Text) → bytes_eq a a ≡ true
text_is_itself a = (bytes_eq-Decides a a).1 refl

-- a look-up by name passes over the options of other names
record IsLookUp (look_up : List Rule → Text → Option Rule) : Type 0 where
  here : (first : Text) (rest : List Text) (name : Text) → bytes_eq first name ≡ true → look_up (map ready (first ∷ rest)) name ≡ Some (ready first)
  later : (first : Text) (rest : List Text) (name : Text) → bytes_eq first name ≡ false → look_up (map ready (first ∷ rest)) name ≡ look_up (map ready rest) name

-- it finds the option of a name that is known
looked_up : (look_up : List Rule → Text → Option Rule) → IsLookUp look_up → (names : List Text) (name : Text) → is_option names name ≡ true → look_up (map ready names) name ≡ Some (ready name)
looked_up look_up is [] name known = absurd (true≢false (sym known))
looked_up look_up is (first ∷ rest) name known = go (bytes_eq first name) refl (looked_up look_up is rest name)
  where
    go : (b : Bool) → bytes_eq first name ≡ b → (is_option rest name ≡ true → look_up (map ready rest) name ≡ Some (ready name)) → look_up (map ready (first ∷ rest)) name ≡ Some (ready name)
    go true e found = is.here first rest name e ∙ ap (λ t. Some (ready t)) (same_text first name e)
    go false e found = is.later first rest name e ∙ found (rw e at known)

pub option_long : (names : List Text) (name : Text) → is_option names name ≡ true → arg_by_long (map ready names) name ≡ Some (ready name)
option_long = looked_up arg_by_long (record { here = λ first rest name e. rw e refl; later = λ first rest name e. rw e refl })

pub option_by_id : (names : List Text) (name : Text) → is_option names name ≡ true → arg_by_id (map ready names) name ≡ Some (ready name)
option_by_id = looked_up arg_by_id (record { here = λ first rest name e. rw e refl; later = λ first rest name e. rw e refl })

pub no_option : (names : List Text) (name : Text) → is_option names name ≡ false → arg_by_long (map ready names) name ≡ None
no_option [] name unknown = refl
no_option (first ∷ rest) name unknown = go (bytes_eq first name) refl (no_option rest name)
  where
    go : (b : Bool) → bytes_eq first name ≡ b → (is_option rest name ≡ false → arg_by_long (map ready rest) name ≡ None) → arg_by_long (map ready (first ∷ rest)) name ≡ None
    go true e later = absurd (true≢false (rw e at unknown))
    go false e later = rw e (later (rw e at unknown))

pub no_positional : (names : List Text) (i : ℕ) → arg_by_index (map ready names) i ≡ None
no_positional [] i = refl
no_positional (first ∷ rest) i = no_positional rest i

-- the rows have the items' names
pub has_row_for : (items : List Item) (name : Text) → has_row name (rows_for items) ≡ has_item items name
has_row_for [] name = refl
has_row_for (item ∷ items) name = ap (λ b. bytes_eq item.name name || b) (has_row_for items name)

pub without_new : (items : List Item) (name : Text) → has_item items name ≡ false → without name (rows_for items) ≡ rows_for items
without_new [] name new = refl
without_new (item ∷ items) name new = go (bytes_eq item.name name) refl (without_new items name)
  where
    go : (b : Bool) → bytes_eq item.name name ≡ b → (has_item items name ≡ false → without name (rows_for items) ≡ rows_for items) → without name (rows_for (item ∷ items)) ≡ rows_for (item ∷ items)
    go true e later = absurd (true≢false (rw e at new))
    go false e later = rw e (ap (λ rows. row_for item ∷ rows) (later (rw e at new)))

pub with_new : (items : List Item) (item : Item) → has_item items item.name ≡ false
    → with_values item.name readings.AsWritten CommandLine (item.value ∷ []) (rows_for items) ≡ rows_for (items ++ item ∷ [])
with_new [] item new = refl
with_new (first ∷ items) item new = go (bytes_eq first.name item.name) refl (with_new items item)
  where
    go : (b : Bool) → bytes_eq first.name item.name ≡ b
        → (has_item items item.name ≡ false → with_values item.name readings.AsWritten CommandLine (item.value ∷ []) (rows_for items) ≡ rows_for (items ++ item ∷ []))
        → with_values item.name readings.AsWritten CommandLine (item.value ∷ []) (rows_for (first ∷ items)) ≡ rows_for (first ∷ items ++ item ∷ [])
    go true e later = absurd (true≢false (rw e at new))
    go false e later = rw e (ap (λ rows. row_for first ∷ rows) (later (rw e at new)))

-- a use of an option that was not used is one more row
pub used_new : (items : List Item) (item : Item) → has_item items item.name ≡ false
    → used (ready item.name) (item.value ∷ []) (rows_for items) ≡ rows_for (items ++ item ∷ [])
used_new items item new =
    ap (with_values item.name readings.AsWritten CommandLine (item.value ∷ [])) (without_new items item.name new) ∙ with_new items item new

-- and has no fault exactly there
pub use_faults : (items : List Item) (item : Item) → use_fault false (ready item.name) (item.value ∷ []) (rows_for items) ≡ cond (has_item items item.name) (kinds.ArgumentConflict ∷ []) []
use_faults items item = rw (has_row_for items item.name) (go (has_item items item.name))
  where
    go : (b : Bool) → or_else (cond (b && true) (kinds.ArgumentConflict ∷ []) []) [] ≡ cond b (kinds.ArgumentConflict ∷ []) []
    go true = refl
    go false = refl

-- ---- what is held

-- all items so far
abbrev pub read_items : List Item → Option Item → List Item
read_items before None = before
read_items before (Some item) = before ++ item ∷ []

abbrev pub is_new : List Item → Option Item → Bool
is_new before None = true
is_new before (Some item) = not (has_item before item.name)

abbrev pub is_known : List Text → Option Item → Bool
is_known names None = true
is_known names (Some item) = is_option names item.name

pub settle_faults : (names : List Text) (before : List Item) (last : Option Item) → is_known names last ≡ true
    → settle_fault (map ready names) false (holds before last) ≡ cond (is_new before last) [] (kinds.ArgumentConflict ∷ [])
settle_faults names before None known = refl
settle_faults names before (Some item) known = rw (option_by_id names item.name known) (use_faults before item ∙ go (has_item before item.name))
  where
    go : (b : Bool) → cond b (kinds.ArgumentConflict ∷ []) [] ≡ cond (not b) [] (kinds.ArgumentConflict ∷ [])
    go true = refl
    go false = refl

pub settles : (names : List Text) (before : List Item) (last : Option Item) → is_known names last ≡ true → is_new before last ≡ true
    → settled (map ready names) (holds before last) ≡ holds (read_items before last) None
settles names before None known new = refl
settles names before (Some item) known new = rw (option_by_id names item.name known) (ap (λ rows. record { rows = rows; pending = None; skip = 0 }) (used_new before item (is_false _ new)))

-- an option whose value was not read yet is faulty where it ends
pub expecting_faults : (names : List Text) (before : List Item) (name : Text) → is_option names name ≡ true
    → settle_fault (map ready names) false (expects before name) ≡ kinds.InvalidValue ∷ []
expecting_faults names before name known = rw (option_by_id names name known) refl

-- ---- words

pub or_else_none : (faults : Kinds) → or_else faults [] ≡ faults
or_else_none [] = refl
or_else_none (k ∷ ks) = refl

pub first_none : (a b : Kinds) → or_else a b ≡ [] → a ≡ []
first_none [] b e = refl
first_none (k ∷ ks) b e = e

pub second_none : (a b : Kinds) → or_else a b ≡ [] → b ≡ []
second_none [] b e = e
second_none (k ∷ ks) b e = cc

-- what `clap` makes of a word that begins with no hyphen
pub plain_long : (word : Text) → begins_with_hyphen word ≡ false → long_of word ≡ None
plain_long [] plain = refl
plain_long (x ∷ xs) plain = rw plain refl

pub plain_short : (word : Text) → begins_with_hyphen word ≡ false → short_of word ≡ None
plain_short [] plain = refl
plain_short (x ∷ xs) plain = rw plain refl

pub plain_dashes : (word : Text) → begins_with_hyphen word ≡ false → bytes_eq word (45 ∷ 45 ∷ []) ≡ false
plain_dashes [] plain = refl
plain_dashes (x ∷ xs) plain = rw plain refl

-- a plain word where an item may begin is a fault
pub stray_value : (names : List Text) (held : Held) (word : Text) → begins_with_hyphen word ≡ false
    → turn_fault (shape_with names) [] (at_item held) word ≡ kinds.UnknownArgument ∷ []
stray_value names held word plain =
    rw (plain_dashes word plain, plain_long word plain, plain_short word plain, no_positional names 1) refl

-- a plain word where a value is expected is the value
pub value_faults : (names : List Text) (before : List Item) (name word : Text) → begins_with_hyphen word ≡ false
    → turn_fault (shape_with names) [] (at_value name (expects before name)) word ≡ []
value_faults names before name word plain =
    rw (plain_dashes word plain, plain_long word plain, plain_short word plain) refl

pub value_walked : (names : List Text) (before : List Item) (name word : Text) → is_option names name ≡ true → begins_with_hyphen word ≡ false
    → walked (map ready names) [] (at_value name (expects before name)) word ≡ at_item (holds before (Some (record { name = name; value = word })))
unfolding walked
value_walked names before name word known plain =
    rw (plain_dashes word plain, plain_long word plain, plain_short word plain, option_by_id names name known, text_is_itself name) refl

-- a word of two hyphens and more
abbrev pub long_word : ℕ → Text → Text
long_word first rest = 45 ∷ 45 ∷ first ∷ rest

abbrev pub name_in : ℕ → Text → Text
name_in first rest = (name_and_value (first ∷ rest)).0

abbrev pub value_of : ℕ → Text → Option Text
value_of first rest = (name_and_value (first ∷ rest)).1

-- of no option
pub unknown_faults : (names : List Text) (held : Held) (first : ℕ) (rest : Text) → is_option names (name_in first rest) ≡ false
    → turn_fault (shape_with names) [] (at_item held) (long_word first rest) ≡ kinds.UnknownArgument ∷ []
unknown_faults names held first rest unknown = rw (no_option names (name_in first rest) unknown) refl

-- of any, where a value is expected
pub missing_value : (names : List Text) (before : List Item) (name : Text) (first : ℕ) (rest : Text) → is_option names name ≡ true
    → turn_fault (shape_with names) [] (at_value name (expects before name)) (long_word first rest) ≢ []
missing_value names before name first rest known = go (is_option names (name_in first rest)) refl (value_of first rest) refl
  where
    go : (b : Bool) → is_option names (name_in first rest) ≡ b → (v : Option Text) → value_of first rest ≡ v
        → turn_fault (shape_with names) [] (at_value name (expects before name)) (long_word first rest) ≢ []
    go false unknown v given none =
        let bad : kinds.UnknownArgument ∷ [] ≡ [] = rw (no_option names (name_in first rest) unknown) at none in cc
    go true is_one None given none =
        let bad : kinds.InvalidValue ∷ [] ≡ [] = rw (option_long names (name_in first rest) is_one, given, option_by_id names name known) at none in cc
    go true is_one (Some value) given none =
        let bad : kinds.InvalidValue ∷ [] ≡ [] = rw (option_long names (name_in first rest) is_one, given, option_by_id names name known) at none in cc

-- of an option, with its value
pub together_faults : (names : List Text) (held : Held) (first : ℕ) (rest value : Text) → is_option names (name_in first rest) ≡ true → value_of first rest ≡ Some value
    → turn_fault (shape_with names) [] (at_item held) (long_word first rest)
    ≡ or_else (settle_fault (map ready names) false held) (use_fault false (ready (name_in first rest)) (value ∷ []) (settled (map ready names) held).rows)
together_faults names held first rest value known given = rw (option_long names (name_in first rest) known, given) (or_else_none _)

pub together_walked : (names : List Text) (held : Held) (first : ℕ) (rest value : Text) → is_option names (name_in first rest) ≡ true → value_of first rest ≡ Some value
    → walked (map ready names) [] (at_item held) (long_word first rest)
    ≡ at_item (reacted (map ready names) (ready (name_in first rest)) (value ∷ []) held)
unfolding walked
together_walked names held first rest value known given = rw (option_long names (name_in first rest) known, given) refl

-- of an option, without a value
pub apart_faults : (names : List Text) (held : Held) (first : ℕ) (rest : Text) → is_option names (name_in first rest) ≡ true → value_of first rest ≡ None
    → turn_fault (shape_with names) [] (at_item held) (long_word first rest) ≡ or_else (settle_fault (map ready names) false held) []
apart_faults names held first rest known given = rw (option_long names (name_in first rest) known, given) refl

pub apart_walked : (names : List Text) (held : Held) (first : ℕ) (rest : Text) → is_option names (name_in first rest) ≡ true → value_of first rest ≡ None
    → walked (map ready names) [] (at_item held) (long_word first rest)
    ≡ at_value (name_in first rest) (record (settled (map ready names) held) { pending = Some (name_in first rest, []) })
unfolding walked
apart_walked names held first rest known given = rw (option_long names (name_in first rest) known, given) refl

-- ---- the end of the words

-- the faults of the rest of the words, and of what is held at their end
abbrev pub faults_from : List Text → Walk → List Text → Kinds
faults_from names walk words =
    or_else (walk_fault (shape_with names) [] walk words) (settle_fault (map ready names) false (fold (walked (map ready names) []) walk words).held)

-- what is found at their end
abbrev pub rows_from : List Text → Walk → List Text → List Row
rows_from names walk words = (settled (map ready names) (fold (walked (map ready names) []) walk words).held).rows

-- a word without fault changes the walk alone
pub next_faults : (names : List Text) (walk after : Walk) (word : Text) (words : List Text)
    → turn_fault (shape_with names) [] walk word ≡ [] → walked (map ready names) [] walk word ≡ after
    → faults_from names walk (word ∷ words) ≡ faults_from names after words
unfolding walk_fault
next_faults names walk after word words fine is =
    let one : walk_fault (shape_with names) [] walk (word ∷ words) ≡ walk_fault (shape_with names) [] (walked (map ready names) [] walk word) words = rw fine refl in
    ap₂ or_else
    (one ∙ ap (λ w. walk_fault (shape_with names) [] w words) is)
    (ap (λ (w : Walk). settle_fault (map ready names) false (fold (walked (map ready names) []) w words).held) is)

pub next_rows : (names : List Text) (walk after : Walk) (word : Text) (words : List Text)
    → walked (map ready names) [] walk word ≡ after → rows_from names walk (word ∷ words) ≡ rows_from names after words
next_rows names walk after word words is = ap (λ w. rows_from names w words) is

-- no faults from here on: none at the next word
pub no_fault_here : (names : List Text) (walk : Walk) (word : Text) (words : List Text)
    → faults_from names walk (word ∷ words) ≡ [] → turn_fault (shape_with names) [] walk word ≡ []
unfolding walk_fault
no_fault_here names walk word words none = first_none _ _ (first_none _ _ none)
