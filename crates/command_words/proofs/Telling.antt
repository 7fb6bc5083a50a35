-- Where the words spell items, `clap` has no fault to tell, and finds just these items.
use Rattle.std.proofs.Common.{◌≡◌, ◌∙◌, ◌++◌, ℕ, Bool, cond, true, false, not, suc, refl, sym, ap, ap₂, subst, arith, List, [], ◌∷◌, map, Option, Some, None, codes, true≢false, append_assoc, append-nil, ⊎_elim}
use Rattle.std.specs.List.{All, list_all}
use Rattle.std.specs.Str.{bytes_eq}
use Rattle.clap.specs.Lexer.{has_byte, name_and_value}
use Rattle.clap.specs.Kinds.{or_else}
use Rattle.clap.specs.Walk.{Held, Walk, reacted, settled, walked}
use Rattle.clap.specs.Faults.{settle_fault, turn_fault, use_fault, walk_fault}
use Rattle.clap.specs.declared.error.kind.ErrorKind.TheVariants as kinds
use Rattle.clap.proofs.SimpleLemmas.{is_false}
use Rattle.clap.proofs.WalkLemmas.{both}
use Rattle.command_words.specs.Items.{Text, Item, SpellsOption, begins_with_hyphen}
use Rattle.command_words.specs.Givens.{SpellsOptions}
use Rattle.command_words.proofs.Walking.{at_item, at_value, expects, faults_from, holds, is_known, is_new, is_option, long_word, name_in, next_faults, next_rows, or_else_none, read_items, ready, rows_for, rows_from, same_text, settle_faults, settles, shape_with, together_faults, together_walked, use_faults, value_faults, value_of, value_walked, apart_faults, apart_walked}
use Rattle.command_words.proofs.Reading.{apart, is_name, together}
use Rattle.command_words.proofs.Finding.{AreOnce, expecting, new_from_once, front_once, reacts}

-- the name of an option is a name
pub name_of_option : (names : List Text) (name : Text) → list_all is_name names ≡ true → is_option names name ≡ true → is_name name ≡ true
name_of_option [] name all known = absurd (true≢false (sym known))
name_of_option (first ∷ rest) name all known = go (bytes_eq first name) refl (name_of_option rest name (both (is_name first) _ all).1)
  where
    go : (b : Bool) → bytes_eq first name ≡ b → (is_option rest name ≡ true → is_name name ≡ true) → is_name name ≡ true
    go true e later = subst (λ t. is_name t ≡ true) (same_text first name e) (both (is_name first) _ all).0
    go false e later = later (rw e at known)

-- no fault, and these rows, from here on
pub record Tells (names : List Text) (walk : Walk) (words : List Text) (items : List Item) : Type 0 where
  pub faults : faults_from names walk words ≡ []
  pub rows : rows_from names walk words ≡ rows_for items

tells_next : (names : List Text) (walk after : Walk) (word : Text) (words : List Text) (items : List Item)
    → turn_fault (shape_with names) [] walk word ≡ [] → walked (map ready names) [] walk word ≡ after
    → Tells names after words items → Tells names walk (word ∷ words) items
tells_next names walk after word words items fine is tells = record {
  faults = next_faults names walk after word words fine is ∙ tells.faults;
  rows = next_rows names walk after word words is ∙ tells.rows;
}

new_last : (before : List Item) (last : Option Item) → AreOnce (read_items before last) → is_new before last ≡ true
new_last before None once = refl
new_last before (Some item) once = ap not (new_from_once before item [] once)

-- nothing is wrong with what is held, where its items have names of their own
settles_well : (names : List Text) (before : List Item) (last : Option Item) → is_known names last ≡ true → AreOnce (read_items before last)
    → settle_fault (map ready names) false (holds before last) ≡ []
settles_well names before last known once = settle_faults names before last known ∙ ap (λ b. cond b [] (kinds.ArgumentConflict ∷ [])) (new_last before last once)

tells_end : (names : List Text) (before : List Item) (last : Option Item) → is_known names last ≡ true → AreOnce (read_items before last)
    → Tells names (at_item (holds before last)) [] (read_items before last)
unfolding walk_fault
tells_end names before last known once = record {
  faults = settles_well names before last known once;
  rows = ap (λ (held : Held). held.rows) (settles names before last known (new_last before last once));
}

-- an item in one word
tells_together : (names : List Text) (before : List Item) (last : Option Item) (first : ℕ) (rest value : Text) (words : List Text) (items : List Item)
    → has_byte 61 (first ∷ rest) ≡ false → is_known names last ≡ true → is_option names (first ∷ rest) ≡ true
    → AreOnce (read_items before last ++ record { name = first ∷ rest; value = value } ∷ [])
    → Tells names (at_item (holds (read_items before last ++ record { name = first ∷ rest; value = value } ∷ []) None)) words items
    → Tells names (at_item (holds before last)) (long_word first (rest ++ 61 ∷ value) ∷ words) items
tells_together names before last first rest value words items whole known is_one once tells =
    let item : Item = record { name = first ∷ rest; value = value } in
    let so_far = read_items before last in
    let held = holds before last in
    let read : name_and_value (first ∷ rest ++ 61 ∷ value) ≡ (first ∷ rest, Some value) = together (first ∷ rest) value whole in
    let named : name_in first (rest ++ 61 ∷ value) ≡ first ∷ rest = ap (λ (p : Text × Option Text). p.0) read in
    let given : value_of first (rest ++ 61 ∷ value) ≡ Some value = ap (λ (p : Text × Option Text). p.1) read in
    let is_two : is_option names (name_in first (rest ++ 61 ∷ value)) ≡ true = ap (is_option names) named ∙ is_one in
    let once_so_far = front_once so_far (item ∷ []) once in
    let new = new_last before last once_so_far in
    let new_item = new_from_once so_far item [] once in
    let used_well : use_fault false (ready item.name) (value ∷ []) (settled (map ready names) held).rows ≡ []
    = ap (λ (h : Held). use_fault false (ready item.name) (value ∷ []) h.rows) (settles names before last known new)
    ∙ use_faults so_far item ∙ ap (λ b. cond b (kinds.ArgumentConflict ∷ []) []) new_item in
    tells_next names (at_item held) (at_item (holds (so_far ++ item ∷ []) None)) (long_word first (rest ++ 61 ∷ value)) words items
    (together_faults names held first (rest ++ 61 ∷ value) value is_two given
    ∙ ap₂ or_else (settles_well names before last known once_so_far)
    (ap (λ n. use_fault false (ready n) (value ∷ []) (settled (map ready names) held).rows) named ∙ used_well))
    (together_walked names held first (rest ++ 61 ∷ value) value is_two given
    ∙ ap (λ n. at_item (reacted (map ready names) (ready n) (value ∷ []) held)) named
    ∙ ap at_item (reacts names before last item known new new_item))
    tells

-- an item in two
tells_apart : (names : List Text) (before : List Item) (last : Option Item) (first : ℕ) (rest value : Text) (words : List Text) (items : List Item)
    → has_byte 61 (first ∷ rest) ≡ false → is_known names last ≡ true → is_option names (first ∷ rest) ≡ true → AreOnce (read_items before last)
    → begins_with_hyphen value ≡ false
    → Tells names (at_item (holds (read_items before last) (Some (record { name = first ∷ rest; value = value })))) words items
    → Tells names (at_item (holds before last)) (long_word first rest ∷ value ∷ words) items
tells_apart names before last first rest value words items whole known is_one once plain tells =
    let so_far = read_items before last in
    let held = holds before last in
    let read : name_and_value (first ∷ rest) ≡ (first ∷ rest, None) = apart (first ∷ rest) whole in
    let named : name_in first rest ≡ first ∷ rest = ap (λ (p : Text × Option Text). p.0) read in
    let given : value_of first rest ≡ None = ap (λ (p : Text × Option Text). p.1) read in
    let is_two : is_option names (name_in first rest) ≡ true = ap (is_option names) named ∙ is_one in
    let new = new_last before last once in
    tells_next names (at_item held) (at_value (first ∷ rest) (expects so_far (first ∷ rest))) (long_word first rest) (value ∷ words) items
    (apart_faults names held first rest is_two given ∙ or_else_none _ ∙ settles_well names before last known once)
    (apart_walked names held first rest is_two given
    ∙ ap (λ n. at_value n (record (settled (map ready names) held) { pending = Some (n, []) })) named
    ∙ ap (at_value (first ∷ rest)) (expecting names before last (first ∷ rest) known new))
    (tells_next names (at_value (first ∷ rest) (expects so_far (first ∷ rest))) (at_item (holds so_far (Some (record { name = first ∷ rest; value = value })))) value words items
    (value_faults names so_far (first ∷ rest) value plain)
    (value_walked names so_far (first ∷ rest) value is_one plain)
    tells)

-- the same, by the name as a whole
tells_one_word : (names : List Text) (before : List Item) (last : Option Item) (name value : Text) (words : List Text) (items : List Item)
    → is_name name ≡ true → is_known names last ≡ true → is_option names name ≡ true
    → AreOnce (read_items before last ++ record { name = name; value = value } ∷ [])
    → Tells names (at_item (holds (read_items before last ++ record { name = name; value = value } ∷ []) None)) words items
    → Tells names (at_item (holds before last)) ((codes "--" ++ name ++ codes "=" ++ value) ∷ words) items
tells_one_word names before last [] value words items named known is_one once tells = absurd (true≢false (sym named))
tells_one_word names before last (first ∷ rest) value words items named known is_one once tells =
    subst (λ t. Tells names (at_item (holds before last)) (long_word first t ∷ words) items) (sym (append_assoc rest (61 ∷ []) value))
    (tells_together names before last first rest value words items (is_false _ named) known is_one once tells)

tells_two_words : (names : List Text) (before : List Item) (last : Option Item) (name value : Text) (words : List Text) (items : List Item)
    → is_name name ≡ true → is_known names last ≡ true → is_option names name ≡ true → AreOnce (read_items before last)
    → begins_with_hyphen value ≡ false
    → Tells names (at_item (holds (read_items before last) (Some (record { name = name; value = value })))) words items
    → Tells names (at_item (holds before last)) ((codes "--" ++ name) ∷ value ∷ words) items
tells_two_words names before last [] value words items named known is_one once plain tells = absurd (true≢false (sym named))
tells_two_words names before last (first ∷ rest) value words items named known is_one once plain tells =
    tells_apart names before last first rest value words items (is_false _ named) known is_one once plain tells

-- the first item, where the others are told
tells_first : (names : List Text) → list_all is_name names ≡ true → (item : Item) (items : List Item) (words first rest : List Text) (before : List Item) (last : Option Item)
    → is_known names last ≡ true → is_option names item.name ≡ true → AreOnce (read_items before last ++ item ∷ items) → words ≡ first ++ rest → SpellsOption item first
    → ((before : List Item) (last : Option Item) → is_known names last ≡ true → AreOnce (read_items before last ++ items) → Tells names (at_item (holds before last)) rest (read_items before last ++ items))
    → Tells names (at_item (holds before last)) words (read_items before last ++ item ∷ items)
tells_first names all item items words first rest before last known is_one once are spells others =
    let so_far = read_items before last in
    let split : (so_far ++ item ∷ []) ++ items ≡ so_far ++ item ∷ items = append_assoc so_far (item ∷ []) items in
    let once_split : AreOnce ((so_far ++ item ∷ []) ++ items) = subst AreOnce (sym split) once in
    let once_here : AreOnce (so_far ++ item ∷ []) = front_once (so_far ++ item ∷ []) items once_split in
    let named = name_of_option names item.name all is_one in
    subst (λ is. Tells names (at_item (holds before last)) words is) split
    (⊎_elim
    (λ one. subst (λ ws. Tells names (at_item (holds before last)) ws ((so_far ++ item ∷ []) ++ items)) (sym (are ∙ ap (λ ws. ws ++ rest) one))
    (tells_one_word names before last item.name item.value rest ((so_far ++ item ∷ []) ++ items) named known is_one once_here
    (others (so_far ++ item ∷ []) None refl once_split)))
    (λ two. subst (λ ws. Tells names (at_item (holds before last)) ws ((so_far ++ item ∷ []) ++ items)) (sym (are ∙ ap (λ ws. ws ++ rest) two.0))
    (tells_two_words names before last item.name item.value rest ((so_far ++ item ∷ []) ++ items) named known is_one (front_once so_far (item ∷ []) once_here) two.1
    (others so_far (Some item) is_one once_split)))
    spells)

-- items from here on
tells_items : (names : List Text) → list_all is_name names ≡ true → (items : List Item) (words : List Text) (before : List Item) (last : Option Item)
    → is_known names last ≡ true → All (λ item. is_option names item.name ≡ true) items → AreOnce (read_items before last ++ items) → SpellsOptions items words
    → Tells names (at_item (holds before last)) words (read_items before last ++ items)
tells_items names all [] words before last known are once spelled =
    subst (λ ws. Tells names (at_item (holds before last)) ws (read_items before last ++ [])) (sym spelled)
    (subst (λ is. Tells names (at_item (holds before last)) [] is) (sym (append-nil (read_items before last)))
    (tells_end names before last known (subst AreOnce (append-nil (read_items before last)) once)))
tells_items names all (item ∷ items) words before last known are once spelled =
    tells_first names all item items words spelled.0 spelled.1 before last known (are 0 item (omega arith)) once spelled.2 spelled.3
    (λ earlier latest known_latest once_now. tells_items names all items spelled.1 earlier latest known_latest (λ k d lt. are (suc k) d (omega arith)) once_now spelled.4)

-- the words of items have no fault, and these items are found
pub items_told : (names : List Text) → list_all is_name names ≡ true → (items : List Item) (words : List Text)
    → All (λ item. is_option names item.name ≡ true) items → AreOnce items → SpellsOptions items words
    → Tells names (at_item (holds [] None)) words items
items_told names all items words are once spelled = tells_items names all items words [] None refl are once spelled
