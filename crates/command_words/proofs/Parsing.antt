-- `clap`'s parse as a whole: what it finds, and when it has a fault to tell.
use Rattle.std.proofs.Common.{◌≡◌, ◌∙◌, ◌&&◌, ◌||◌, ◌++◌, ℕ, Bool, cond, true, false, not, suc, refl, sym, ap, ap₂, subst, arith, List, [], ◌∷◌, map, fold, None, codes, true≢false, option_map, append_assoc, append-nil, ⊎_elim}
use Rattle.std.specs.Prelude.{slice_get, unwrap_or}
use Rattle.std.specs.List.{All, find, list_all, list_any}
use Rattle.std.specs.Str.{bytes_eq}
use Rattle.clap.specs.Kinds.{Kinds, or_else}
use Rattle.clap.specs.Walk.{Row, first_of, has_row, nothing_held, rows_after, settled, walk, walk_from, with_default}
use Rattle.clap.specs.Faults.{built_fault, check_fault, default_fault, defaults_fault, fault_of, level_fault, settle_fault, walk_fault}
use Rattle.clap.specs.Takes.{is_given}
use Rattle.clap.specs.Simple.{App, built, filled_from, matches_of, names_of}
use Rattle.clap.proofs.FaultLemmas.{leaf_fault}
use Rattle.command_words.specs.Commands.{app_with, option_rule}
use Rattle.command_words.specs.Items.{Text, Item, SpellsOption, begins_with_hyphen}
use Rattle.command_words.specs.Givens.{SpellsOptions}
use Rattle.command_words.specs.Strays.{is_stray}
use Rattle.command_words.proofs.Walking.{at_item, faults_from, holds, is_option, or_else_none, ready, rows_for, rows_from, shape_with}
use Rattle.command_words.proofs.Reading.{is_name}
use Rattle.command_words.proofs.Finding.{AreOnce, items_found}
use Rattle.command_words.proofs.Telling.{items_told, name_of_option}
use Rattle.std.proofs.lemmas.List.Folds.{list_any-append}

-- ---- after the walk

no_default : (rows : List Row) (name : Text) → with_default rows (ready name) ≡ rows
no_default rows name = go (has_row name rows)
  where
    go : (b : Bool) → cond b rows rows ≡ rows
    go true = refl
    go false = refl

no_defaults : (names : List Text) (rows : List Row) → fold with_default rows (map ready names) ≡ rows
no_defaults [] rows = refl
no_defaults (name ∷ names) rows = ap (λ r. fold with_default r (map ready names)) (no_default rows name) ∙ no_defaults names rows

default_fine : (rows : List Row) (name : Text) → default_fault rows (ready name) ≡ []
default_fine rows name = go (has_row name rows)
  where
    go : (b : Bool) → cond {A = Kinds} (b || true) [] [] ≡ []
    go true = refl
    go false = refl

defaults_fine : (names : List Text) (rows : List Row) → defaults_fault rows (map ready names) ≡ []
unfolding defaults_fault
defaults_fine [] rows = refl
defaults_fine (name ∷ names) rows =
    ap (λ k. or_else k (defaults_fault (with_default rows (ready name)) (map ready names))) (default_fine rows name) ∙ defaults_fine names (with_default rows (ready name))

none_required : (names : List Text) (rows : List Row) → list_any (λ a. a.required && not (is_given a.id rows)) (map ready names) ≡ false
none_required [] rows = refl
none_required (name ∷ names) rows = none_required names rows

check_fine : (names : List Text) (rows : List Row) → check_fault (shape_with names) rows false ≡ []
check_fine names rows = rw (none_required names rows) refl

level_is : (names : List Text) (words : List Text) → level_fault (shape_with names) [] nothing_held words false [] ≡ faults_from names (at_item (holds [] None)) words
level_is names words =
    let end = (walk (map ready names) [] nothing_held words).held in
    let rest : or_else (settle_fault (map ready names) false end) (or_else (defaults_fault (settled (map ready names) end).rows (map ready names)) (check_fault (shape_with names) (fold with_default (settled (map ready names) end).rows (map ready names)) false)) ≡ settle_fault (map ready names) false end
    = rw (defaults_fine names (settled (map ready names) end).rows, check_fine names (fold with_default (settled (map ready names) end).rows (map ready names))) (or_else_none _) in
    ap (or_else (walk_fault (shape_with names) [] (walk_from nothing_held) words)) rest

-- building completes each option, and adds nothing
filled_options : (names : List Text) (i : ℕ) → filled_from i (map option_rule names) ≡ map ready names
filled_options [] i = refl
filled_options (name ∷ names) i = ap (λ rules. ready name ∷ rules) (filled_options names i)

built_is : (names : List Text) → built (app_with names) ≡ record { top = shape_with names; subs = [] }
built_is names = ap (λ rules. record { top = record (shape_with names) { rules = rules }; subs = [] }) (filled_options names 1)

pub faults_are : (names : List Text) (words : List Text) → fault_of (app_with names) words ≡ faults_from names (at_item (holds [] None)) words
faults_are names words =
    ap (λ (a : App). built_fault a nothing_held words) (built_is names)
    ∙ leaf_fault (record { top = shape_with names; subs = [] }) nothing_held words refl ∙ level_is names words

pub rows_are : (names : List Text) (words : List Text) → matches_of (app_with names) words ≡ rows_from names (at_item (holds [] None)) words
rows_are names words =
    ap (λ (a : App). rows_after a.top.rules (names_of a) words) (built_is names)
    ∙ no_defaults names (rows_from names (at_item (holds [] None)) words)

-- ---- values and words

-- the first value of an option is that of its item
pub first_value_is : (items : List Item) (name : Text) → first_of name (rows_for items) ≡ option_map (λ item. item.value) (find (λ item. bytes_eq item.name name) items)
first_value_is [] name = refl
first_value_is (item ∷ items) name = go (bytes_eq item.name name) refl (first_value_is items name)
  where
    go : (b : Bool) → bytes_eq item.name name ≡ b → first_of name (rows_for items) ≡ option_map (λ item. item.value) (find (λ item. bytes_eq item.name name) items)
        → first_of name (rows_for (item ∷ items)) ≡ option_map (λ item. item.value) (find (λ item. bytes_eq item.name name) (item ∷ items))
    go true e later = rw e refl
    go false e later = rw e later

-- the item of a row
item_in : Row → Item
item_in row = record { name = row.id; value = unwrap_or (slice_get row.values 0) [] }

items_in_rows : (items : List Item) → map item_in (rows_for items) ≡ items
unfolding item_in
items_in_rows [] = refl
items_in_rows (item ∷ items) = ap (λ others. item ∷ others) (items_in_rows items)

-- rows tell their items
pub same_items : (xs ys : List Item) → rows_for xs ≡ rows_for ys → xs ≡ ys
same_items xs ys e = sym (items_in_rows xs) ∙ ap (map item_in) e ∙ items_in_rows ys

-- the words of an item are none that `clap` takes in its own way
plain_word : (word : Text) → begins_with_hyphen word ≡ false → is_stray word ≡ false
plain_word [] plain = refl
plain_word (x ∷ xs) plain = rw plain refl

pub named_word : (name more : Text) → is_name name ≡ true → is_stray (codes "--" ++ name ++ more) ≡ false
named_word [] more named = absurd (true≢false (sym named))
named_word (first ∷ rest) more named = refl

no_strays_in : (item : Item) (words : List Text) → is_name item.name ≡ true → SpellsOption item words → list_any is_stray words ≡ false
no_strays_in item words named spells =
    ⊎_elim
    (λ one. subst (λ ws. list_any is_stray ws ≡ false) (sym one)
    (simp (subst (λ w. is_stray w ≡ false) (sym (append_assoc (codes "--" ++ item.name) (codes "=") item.value)) (named_word item.name (codes "=" ++ item.value) named)) refl))
    (λ two. subst (λ ws. list_any is_stray ws ≡ false) (sym two.0)
    (simp (subst (λ w. is_stray w ≡ false) (append-nil (codes "--" ++ item.name)) (named_word item.name [] named), plain_word item.value two.1) refl))
    spells

pub no_strays : (names : List Text) → list_all is_name names ≡ true → (items : List Item) (words : List Text)
    → All (λ item. is_option names item.name ≡ true) items → SpellsOptions items words → list_any is_stray words ≡ false
no_strays names all [] words are spelled = subst (λ ws. list_any is_stray ws ≡ false) (sym spelled) refl
no_strays names all (item ∷ items) words are spelled =
    let first = no_strays_in item spelled.0 (name_of_option names item.name all (are 0 item (omega arith))) spelled.3 in
    let others = no_strays names all items spelled.1 (λ k d lt. are (suc k) d (omega arith)) spelled.4 in
    subst (λ ws. list_any is_stray ws ≡ false) (sym spelled.2)
    (list_any-append is_stray spelled.0 spelled.1 ∙ ap₂ (λ a b. a || b) first others)

-- ---- the parse as a whole

-- where the parse has no fault the words are items, and these are found
pub record Parses (names : List Text) (words : List Text) : Type 0 where
  pub items : List Item
  pub spelled : SpellsOptions items words
  pub known : All (λ item. is_option names item.name ≡ true) items
  pub once : AreOnce items
  pub values : (name : Text) → first_of name (matches_of (app_with names) words) ≡ option_map (λ item. item.value) (find (λ item. bytes_eq item.name name) items)

pub parsed : (names : List Text) → list_all is_name names ≡ true → (words : List Text) → list_any is_stray words ≡ false
    → fault_of (app_with names) words ≡ [] → Parses names words
parsed names all words fine none =
    let found = items_found names words fine (sym (faults_are names words) ∙ none) in
    let told = items_told names all found.items words found.known found.once found.spelled in
    record {
      items = found.items;
      spelled = found.spelled;
      known = found.known;
      once = found.once;
      values = λ name. ap (first_of name) (rows_are names words ∙ told.rows) ∙ first_value_is found.items name;
    }

-- and where they are items it has none
pub none_refused : (names : List Text) → list_all is_name names ≡ true → (items : List Item) (words : List Text)
    → All (λ item. is_option names item.name ≡ true) items → AreOnce items → SpellsOptions items words → fault_of (app_with names) words ≡ []
none_refused names all items words known once spelled = faults_are names words ∙ (items_told names all items words known once spelled).faults

-- words are the items of one list at most
pub one_list : (names : List Text) → list_all is_name names ≡ true → (xs ys : List Item) (words : List Text)
    → All (λ item. is_option names item.name ≡ true) xs → AreOnce xs → SpellsOptions xs words
    → All (λ item. is_option names item.name ≡ true) ys → AreOnce ys → SpellsOptions ys words → xs ≡ ys
one_list names all xs ys words known_x once_x spelled_x known_y once_y spelled_y =
    same_items xs ys
    (sym (items_told names all xs words known_x once_x spelled_x).rows ∙ (items_told names all ys words known_y once_y spelled_y).rows)
