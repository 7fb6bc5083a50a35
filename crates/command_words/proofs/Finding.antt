-- `clap` finds exactly the items that the words spell.
use Rattle.std.proofs.Common.{◌≡◌, ◌≢◌, ◌∙◌, ◌==◌, ◌||◌, ◌++◌, ◌<◌, ◌+◌, ℕ, Bool, true, false, zero, suc, refl, sym, ap, subst, arith, List, [], ◌∷◌, map, length, Option, Some, None, inl, inr, codes, true≢false, append_assoc, append-nil, length-append, ⊎_elim}
use Rattle.std.specs.List.{All, AllPairs, list_any, slice_index_or, after_first}
use Rattle.std.specs.Str.{bytes_eq}
use Rattle.std.proofs.lemmas.List.Quantifiers.{all_pairs_push}
use Rattle.std.proofs.lemmas.List.Elements.{All-cons}
use Rattle.std.proofs.Math.ListN.{get_or-append}
use Rattle.std.proofs.Math.Seq.{get_or-append_seam}
use Rattle.std.proofs.lemmas.List.Folds.{Any-from_list_any}
use Rattle.clap.proofs.SimpleLemmas.{is_false}
use Rattle.clap.specs.Lexer.{has_byte}
use Rattle.clap.specs.Kinds.{or_else}
use Rattle.clap.specs.Walk.{Held, reacted, settled, used, walked}
use Rattle.clap.specs.Faults.{settle_fault, turn_fault, use_fault, walk_fault}
use Rattle.clap.specs.declared.error.kind.ErrorKind.TheVariants as kinds
use Rattle.command_words.specs.Items.{Text, Item, SpellsOption, begins_with_hyphen}
use Rattle.command_words.specs.Givens.{SpellsOptions}
use Rattle.command_words.specs.Strays.{is_stray}
use Rattle.command_words.proofs.Walking.{at_item, at_value, expects, expecting_faults, faults_from, first_none, has_item, holds, is_known, is_new, is_option, long_word, missing_value, name_in, next_faults, no_fault_here, read_items, ready, rows_for, same_text, second_none, settle_faults, settles, shape_with, stray_value, text_is_itself, together_faults, together_walked, unknown_faults, use_faults, used_new, value_faults, value_of, value_walked, apart_faults, apart_walked}
use Rattle.command_words.proofs.Reading.{IsLong, at_sign, plain_or_long, whole_name}

-- no two items have one name
abbrev pub AreOnce : List Item → Type 0
AreOnce items = AllPairs (λ first later. first.name ≢ later.name) items

pub both_false : (a b : Bool) → (a || b) ≡ false → (a ≡ false) × (b ≡ false)
both_false true b e = absurd (true≢false e)
both_false false b e = (refl, e)

other_name : (items : List Item) (name : Text) → has_item items name ≡ false → (k : ℕ) (d : Item) → k < length items → (slice_index_or items k d).name ≢ name
other_name [] name new k d lt = absurd (omega arith)
other_name (first ∷ items) name new zero d lt =
    λ same. true≢false (sym (text_is_itself name) ∙ ap (λ t. bytes_eq t name) (sym same) ∙ (both_false _ _ new).0)
other_name (first ∷ items) name new (suc k) d lt = other_name items name (both_false _ _ new).1 k d (omega arith)

pub once_more : (items : List Item) (item : Item) → AreOnce items → has_item items item.name ≡ false → AreOnce (items ++ item ∷ [])
once_more items item once new = all_pairs_push (λ first later. first.name ≢ later.name) items item once (other_name items item.name new)

pub front_once : (xs ys : List Item) → AreOnce (xs ++ ys) → AreOnce xs
front_once xs ys once i j d lt small =
    let long : length (xs ++ ys) ≡ length xs + length ys = length-append xs ys in
    λ same. once i j d lt (omega arith)
    (ap (λ (x : Item). x.name) (get_or-append xs ys d i (omega arith)) ∙ same ∙ sym (ap (λ (x : Item). x.name) (get_or-append xs ys d j small)))

pub new_from_once : (items : List Item) (item : Item) (rest : List Item) → AreOnce (items ++ item ∷ rest) → has_item items item.name ≡ false
new_from_once items item rest once = go (has_item items item.name) refl
  where
    go : (b : Bool) → has_item items item.name ≡ b → has_item items item.name ≡ false
    go false e = e
    go true e =
        let any = Any-from_list_any (λ (x : Item). bytes_eq x.name item.name) items e in
        let long : length (items ++ item ∷ rest) ≡ length items + length (item ∷ rest) = length-append items (item ∷ rest) in
        absurd (once any.0 (length items) any.1 any.2 (omega arith)
        (ap (λ (x : Item). x.name) (get_or-append items (item ∷ rest) any.1 any.0 any.2 ∙ any.3)
        ∙ same_text any.1.name item.name any.4
        ∙ sym (ap (λ (x : Item). x.name) (get_or-append_seam items item rest any.1))))

-- ---- from what `clap` takes to items

-- the words spell items that go on with those so far
pub record ReadsOn (names : List Text) (so_far : List Item) (words : List Text) : Type 0 where
  pub items : List Item
  pub spelled : SpellsOptions items words
  pub known : All (λ item. is_option names item.name ≡ true) items
  pub once : AreOnce (so_far ++ items)

-- the same behind an option whose value is still to come
pub record ReadsOnWithValue (names : List Text) (so_far : List Item) (name : Text) (words : List Text) : Type 0 where
  pub value : Text
  pub rest : List Text
  pub are : words ≡ value ∷ rest
  pub plain : begins_with_hyphen value ≡ false
  pub after : ReadsOn names (so_far ++ record { name = name; value = value } ∷ []) rest

pub record Found (names : List Text) (words : List Text) : Type 0 where
  pub at_item_is : (before : List Item) (last : Option Item) → is_known names last ≡ true → AreOnce before
      → faults_from names (at_item (holds before last)) words ≡ [] → ReadsOn names (read_items before last) words
  pub at_value_is : (before : List Item) (name : Text) → is_option names name ≡ true → AreOnce before
      → faults_from names (at_value name (expects before name)) words ≡ [] → ReadsOnWithValue names before name words

new_where_settled : (names : List Text) (before : List Item) (last : Option Item) → is_known names last ≡ true
    → settle_fault (map ready names) false (holds before last) ≡ [] → is_new before last ≡ true
new_where_settled names before last known none = go (is_new before last) refl
  where
    go : (b : Bool) → is_new before last ≡ b → is_new before last ≡ true
    go true e = e
    go false e = let bad : kinds.ArgumentConflict ∷ [] ≡ [] = rw (settle_faults names before last known, e) at none in cc

pub once_where_new : (before : List Item) (last : Option Item) → AreOnce before → is_new before last ≡ true → AreOnce (read_items before last)
once_where_new before None once new = once
once_where_new before (Some item) once new = once_more before item once (is_false _ new)

new_where_used : (so_far : List Item) (item : Item) → use_fault false (ready item.name) (item.value ∷ []) (rows_for so_far) ≡ [] → has_item so_far item.name ≡ false
new_where_used so_far item none = go (has_item so_far item.name) refl
  where
    go : (b : Bool) → has_item so_far item.name ≡ b → has_item so_far item.name ≡ false
    go false e = e
    go true e = let bad : kinds.ArgumentConflict ∷ [] ≡ [] = rw (use_faults so_far item, e) at none in cc

-- what is held behind an item whose value stands in its word
pub reacts : (names : List Text) (before : List Item) (last : Option Item) (item : Item) → is_known names last ≡ true → is_new before last ≡ true
    → has_item (read_items before last) item.name ≡ false
    → reacted (map ready names) (ready item.name) (item.value ∷ []) (holds before last) ≡ holds (read_items before last ++ item ∷ []) None
reacts names before last item known new new_item =
    emptied last ∙ ap (λ rows. record { rows = rows; pending = None; skip = 0 })
    (ap (λ (held : Held). used (ready item.name) (item.value ∷ []) held.rows) (settles names before last known new) ∙ used_new (read_items before last) item new_item)
  where
    emptied : (last : Option Item) → reacted (map ready names) (ready item.name) (item.value ∷ []) (holds before last)
        ≡ record { rows = used (ready item.name) (item.value ∷ []) (settled (map ready names) (holds before last)).rows; pending = None; skip = 0 }
    emptied None = refl
    emptied (Some item) = refl

found_nothing : (names : List Text) → Found names []
unfolding walk_fault
found_nothing names = record {
  at_item_is = λ before last known once none. record {
    items = [];
    spelled = refl;
    known = λ k d lt. absurd (omega arith);
    once = subst AreOnce (sym (append-nil (read_items before last))) (once_where_new before last once (new_where_settled names before last known none));
  };
  at_value_is = λ before name known once none. let bad : kinds.InvalidValue ∷ [] ≡ [] = sym (expecting_faults names before name known) ∙ none in cc;
}

-- one more item in front, in one word
with_item : (names : List Text) (so_far : List Item) (item : Item) (word : Text) (words : List Text) → is_option names item.name ≡ true
    → SpellsOption item (word ∷ []) → ReadsOn names (so_far ++ item ∷ []) words → ReadsOn names so_far (word ∷ words)
with_item names so_far item word words known spells more = record {
  items = item ∷ more.items;
  spelled = (word ∷ [], words, refl, spells, more.spelled);
  known = All-cons (λ item. is_option names item.name ≡ true) item more.items known more.known;
  once = subst AreOnce (append_assoc so_far (item ∷ []) more.items) more.once;
}

-- and in two
with_two_words : (names : List Text) (so_far : List Item) (name word : Text) (words : List Text) → is_option names name ≡ true
    → word ≡ codes "--" ++ name → ReadsOnWithValue names so_far name words → ReadsOn names so_far (word ∷ words)
with_two_words names so_far name word words known is more =
    let item : Item = record { name = name; value = more.value } in
    record {
      items = item ∷ more.after.items;
      spelled = (word ∷ more.value ∷ [], more.rest, ap (λ ws. word ∷ ws) more.are, inr (ap (λ w. w ∷ more.value ∷ []) is, more.plain), more.after.spelled);
      known = All-cons (λ item. is_option names item.name ≡ true) item more.after.items known more.after.known;
      once = subst AreOnce (append_assoc so_far (item ∷ []) more.after.items) more.after.once;
    }

-- an option with its value in one word
found_together : (names : List Text) (before : List Item) (last : Option Item) (first : ℕ) (rest : Text) (words : List Text)
    → is_known names last ≡ true → AreOnce before → is_option names (name_in first rest) ≡ true → has_byte 61 (first ∷ rest) ≡ true → Found names words
    → faults_from names (at_item (holds before last)) (long_word first rest ∷ words) ≡ [] → ReadsOn names (read_items before last) (long_word first rest ∷ words)
found_together names before last first rest words known once is_one sign found none =
    let item : Item = record { name = name_in first rest; value = after_first (λ x. x == 61) (first ∷ rest) } in
    let given : value_of first rest ≡ Some item.value = rw sign refl in
    let so_far = read_items before last in
    let here = no_fault_here names (at_item (holds before last)) (long_word first rest) words none in
    let parts : or_else (settle_fault (map ready names) false (holds before last)) (use_fault false (ready item.name) (item.value ∷ []) (settled (map ready names) (holds before last)).rows) ≡ []
    = sym (together_faults names (holds before last) first rest item.value is_one given) ∙ here in
    let new = new_where_settled names before last known (first_none _ _ parts) in
    let settles_to = settles names before last known new in
    let second : use_fault false (ready item.name) (item.value ∷ []) (settled (map ready names) (holds before last)).rows ≡ [] = second_none _ _ parts in
    let unused = subst (λ (held : Held). use_fault false (ready item.name) (item.value ∷ []) held.rows ≡ []) settles_to second in
    let new_item = new_where_used so_far item unused in
    let once_so_far = once_where_new before last once new in
    let walks : walked (map ready names) [] (at_item (holds before last)) (long_word first rest) ≡ at_item (holds (so_far ++ item ∷ []) None)
    = together_walked names (holds before last) first rest item.value is_one given ∙ ap at_item (reacts names before last item known new new_item) in
    let later : faults_from names (at_item (holds (so_far ++ item ∷ []) None)) words ≡ [] = sym (next_faults names _ _ (long_word first rest) words here walks) ∙ none in
    with_item names so_far item (long_word first rest) words is_one
    (inl (ap (λ t. t ∷ []) (ap (λ t. 45 ∷ 45 ∷ t) (at_sign (first ∷ rest) sign) ∙ sym (append_assoc (codes "--" ++ item.name) (codes "=") item.value))))
    (found.at_item_is (so_far ++ item ∷ []) None refl (once_more so_far item once_so_far new_item) later)

-- what is held behind an option whose value is still to come
pub expecting : (names : List Text) (before : List Item) (last : Option Item) (name : Text) → is_known names last ≡ true → is_new before last ≡ true
    → record (settled (map ready names) (holds before last)) { pending = Some (name, []) } ≡ expects (read_items before last) name
expecting names before last name known new = ap (λ (held : Held). record held { pending = Some (name, []) }) (settles names before last known new)

-- an option whose value stands in the next word
found_apart : (names : List Text) (before : List Item) (last : Option Item) (first : ℕ) (rest : Text) (words : List Text)
    → is_known names last ≡ true → AreOnce before → is_option names (name_in first rest) ≡ true → has_byte 61 (first ∷ rest) ≡ false → Found names words
    → faults_from names (at_item (holds before last)) (long_word first rest ∷ words) ≡ [] → ReadsOn names (read_items before last) (long_word first rest ∷ words)
found_apart names before last first rest words known once is_one sign found none =
    let name = name_in first rest in
    let so_far = read_items before last in
    let given : value_of first rest ≡ None = rw sign refl in
    let here = no_fault_here names (at_item (holds before last)) (long_word first rest) words none in
    let settle_none : settle_fault (map ready names) false (holds before last) ≡ [] = first_none _ _ (sym (apart_faults names (holds before last) first rest is_one given) ∙ here) in
    let new = new_where_settled names before last known settle_none in
    let walks : walked (map ready names) [] (at_item (holds before last)) (long_word first rest) ≡ at_value name (expects so_far name)
    = apart_walked names (holds before last) first rest is_one given ∙ ap (at_value name) (expecting names before last name known new) in
    let later : faults_from names (at_value name (expects so_far name)) words ≡ [] = sym (next_faults names _ _ (long_word first rest) words here walks) ∙ none in
    with_two_words names so_far name (long_word first rest) words is_one
    (ap (λ t. 45 ∷ 45 ∷ t) (sym (whole_name (first ∷ rest) sign)))
    (found.at_value_is so_far name is_one (once_where_new before last once new) later)

-- a word of two hyphens and more, where an item may begin
found_long : (names : List Text) (before : List Item) (last : Option Item) (first : ℕ) (rest : Text) (words : List Text)
    → is_known names last ≡ true → AreOnce before → Found names words
    → faults_from names (at_item (holds before last)) (long_word first rest ∷ words) ≡ [] → ReadsOn names (read_items before last) (long_word first rest ∷ words)
found_long names before last first rest words known once found none = go (is_option names (name_in first rest)) refl (has_byte 61 (first ∷ rest)) refl
  where
    go : (b : Bool) → is_option names (name_in first rest) ≡ b → (s : Bool) → has_byte 61 (first ∷ rest) ≡ s → ReadsOn names (read_items before last) (long_word first rest ∷ words)
    go false unknown s sign =
        let bad : kinds.UnknownArgument ∷ [] ≡ []
        = sym (unknown_faults names (holds before last) first rest unknown) ∙ no_fault_here names (at_item (holds before last)) (long_word first rest) words none in
        absurd (cc)
    go true is_one true sign = found_together names before last first rest words known once is_one sign found none
    go true is_one false sign = found_apart names before last first rest words known once is_one sign found none

found_more : (names : List Text) (word : Text) (words : List Text) → is_stray word ≡ false → Found names words → Found names (word ∷ words)
found_more names word words fine found = record {
  at_item_is = λ before last known once none. ⊎_elim
      (λ plain. let bad : kinds.UnknownArgument ∷ [] ≡ []
      = sym (stray_value names (holds before last) word plain) ∙ no_fault_here names (at_item (holds before last)) word words none in
      absurd (cc))
      (λ (long : IsLong word). subst (λ w. faults_from names (at_item (holds before last)) (w ∷ words) ≡ [] → ReadsOn names (read_items before last) (w ∷ words)) (sym long.is)
      (found_long names before last long.first long.rest words known once found) none)
      (plain_or_long word fine);
  at_value_is = λ before name known once none. ⊎_elim
      (λ plain. record {
        value = word;
        rest = words;
        are = refl;
        plain = plain;
        after = found.at_item_is before (Some (record { name = name; value = word })) known once
            (sym (next_faults names _ _ word words (value_faults names before name word plain) (value_walked names before name word known plain)) ∙ none);
      })
      (λ (long : IsLong word). absurd (missing_value names before name long.first long.rest known
      (subst (λ w. turn_fault (shape_with names) [] (at_value name (expects before name)) w ≡ []) long.is
      (no_fault_here names (at_value name (expects before name)) word words none))))
      (plain_or_long word fine);
}

found_all : (names : List Text) (words : List Text) → list_any is_stray words ≡ false → Found names words
found_all names [] fine = found_nothing names
found_all names (word ∷ words) fine = found_more names word words (both_false _ _ fine).0 (found_all names words (both_false _ _ fine).1)

-- where `clap` has no fault to tell, the words are items
pub items_found : (names : List Text) (words : List Text) → list_any is_stray words ≡ false
    → faults_from names (at_item (holds [] None)) words ≡ [] → ReadsOn names [] words
items_found names words fine none = (found_all names words fine).at_item_is [] None refl (λ i j d lt small. absurd (omega arith)) none
