-- Words are items exactly where `clap`, which is given a flag with an empty value, is given these items.
use Rattle.std.proofs.Common.{◌≡◌, ◌∙◌, ◌==◌, ◌||◌, ◌++◌, ℕ, Bool, true, false, suc, refl, sym, ap, ap₂, subst, arith, List, [], ◌∷◌, map, drop, length, codes, inl, inr, true≢false, append_assoc, append-nil}
use Rattle.std.specs.List.{All, Contains, list_any, starts_with, before_first, after_first}
use Rattle.std.specs.Prelude.{eqb}
use Rattle.std.specs.Str.{bytes_eq}
use Rattle.std.proofs.lemmas.Slice.Eq.{starts_is}
use Rattle.std.proofs.lemmas.Bool.Decides.{Decides-eqb}
use Rattle.std.proofs.lemmas.List.Folds.{Any-from_list_any, list_any-append, list_any-from_Any}
use Rattle.std.proofs.lemmas.List.{map-append}
use Rattle.clap.proofs.SimpleLemmas.{is_false}
use Rattle.clap.specs.Lexer.{has_byte}
use Rattle.command_words.specs.Items.{Text, Item, SpellsItem, SpellsItems, SpellsOption, begins_with_hyphen, flags, is_flag}
use Rattle.command_words.specs.Givens.{HasOptions, SpellsOptions}
use Rattle.command_words.specs.Plans.{HasItems, options_of}
use Rattle.command_words.specs.Strays.{is_stray, is_refused, is_flag_word, gives_value, told_word}
use Rattle.command_words.specs.declared.plan.Program.{Program}
use Rattle.command_words.proofs.Walking.{same_text, text_is_itself}
use Rattle.command_words.proofs.Reading.{has_sign, is_name, name_before, value_after}
use Rattle.command_words.proofs.Parsing.{named_word}
use Rattle.command_words.proofs.Telling.{name_of_option}
use Rattle.command_words.proofs.Finding.{both_false}
use Rattle.command_words.proofs.Known.{items_unstray, known_options, one_options, options_are_names}

-- ---- the flags

-- what passes a test at one of the flags, by the flag's name
record AtFlag (passes : Text → Bool) : Type 0 where
  name : Text
  flag : is_flag name ≡ true
  passed : passes name ≡ true

at_flag : (passes : Text → Bool) → list_any passes flags ≡ true → AtFlag passes
at_flag passes e =
    let any = Any-from_list_any passes flags e in
    record {
      name = any.1;
      flag = list_any-from_Any (bytes_eq any.1) flags (any.0, any.1, any.2, any.3, text_is_itself any.1);
      passed = any.4;
    }

from_flag : (passes : Text → Bool) (name : Text) → is_flag name ≡ true → passes name ≡ true → list_any passes flags ≡ true
from_flag passes name flag passed =
    let any = Any-from_list_any (bytes_eq name) flags flag in
    list_any-from_Any passes flags (any.0, any.1, any.2, any.3, subst (λ n. passes n ≡ true) (same_text name any.1 any.4) passed)

flag_is_name : (name : Text) → is_flag name ≡ true → is_name name ≡ true
flag_is_name name flag = name_of_option flags name refl (from_flag (λ known. bytes_eq known name) name flag (text_is_itself name))

no_sign_in : (name : Text) → is_name name ≡ true → has_byte 61 name ≡ false
no_sign_in [] named = absurd (true≢false (sym named))
no_sign_in (x ∷ xs) named = is_false _ named

-- a word that is a flag
record FlagWord (word : Text) : Type 0 where
  name : Text
  flag : is_flag name ≡ true
  named : is_name name ≡ true
  is : word ≡ 45 ∷ 45 ∷ name

flag_word : (word : Text) → is_flag_word word ≡ true → FlagWord word
flag_word word e =
    let at = at_flag (λ flag. bytes_eq word (codes "--" ++ flag)) e in
    record { name = at.name; flag = at.flag; named = flag_is_name at.name at.flag; is = same_text word (codes "--" ++ at.name) at.passed }

-- ---- one word

as_it_is : (word : Text) → is_flag_word word ≡ false → told_word word ≡ word
as_it_is word other = rw other refl

with_sign : (word : Text) → is_flag_word word ≡ true → told_word word ≡ word ++ codes "="
with_sign word flag = rw flag refl

plain_other : (word : Text) → begins_with_hyphen word ≡ false → is_flag_word word ≡ false
plain_other [] plain = refl
plain_other (x ∷ xs) plain = rw plain refl

tail_of : (x y : ℕ) (xs ys : Text) → x ∷ xs ≡ y ∷ ys → xs ≡ ys
tail_of x y xs ys e = cc

-- what stands behind two hyphens
behind_two : (xs ys : Text) → 45 ∷ 45 ∷ xs ≡ 45 ∷ 45 ∷ ys → xs ≡ ys
behind_two xs ys e = tail_of 45 45 xs ys (tail_of 45 45 (45 ∷ xs) (45 ∷ ys) e)

-- a name with a value is no other one
parted : (name other value rest : Text) → has_byte 61 name ≡ false → has_byte 61 other ≡ false → name ++ 61 ∷ value ≡ other ++ 61 ∷ rest → (name ≡ other) × (value ≡ rest)
parted name other value rest whole whole_other e = (
  sym (name_before name value whole) ∙ ap (before_first (λ x. x == 61)) e ∙ name_before other rest whole_other,
  sym (value_after name value whole) ∙ ap (after_first (λ x. x == 61)) e ∙ value_after other rest whole_other,
)

-- the word of an option with its value
abbrev joined : Text → Text → Text
joined name value = codes "--" ++ name ++ codes "=" ++ value

joined_is : (name value : Text) → joined name value ≡ 45 ∷ 45 ∷ (name ++ 61 ∷ value)
joined_is name value = cc (append_assoc (codes "--" ++ name) (codes "=") value)

joined_other : (name value : Text) → is_flag_word (joined name value) ≡ false
joined_other name value = go (is_flag_word (joined name value)) refl
  where
    go : (b : Bool) → is_flag_word (joined name value) ≡ b → b ≡ false
    go false e = refl
    go true e =
        let word = flag_word (joined name value) e in
        let same : name ++ 61 ∷ value ≡ word.name = behind_two (name ++ 61 ∷ value) word.name (sym (joined_is name value) ∙ word.is) in
        absurd (true≢false (sym (has_sign name value) ∙ ap (has_byte 61) same ∙ no_sign_in word.name word.named))

-- words that give a flag a value are those that begin so
record ValuedFlag (word : Text) : Type 0 where
  name : Text
  flag : is_flag name ≡ true
  value : Text
  is : word ≡ joined name value

valued_flag : (word : Text) → gives_value word ≡ true → ValuedFlag word
valued_flag word e =
    let at = at_flag (λ flag. starts_with eqb word (codes "--" ++ flag ++ codes "=")) e in
    let front = codes "--" ++ at.name ++ codes "=" in
    record {
      name = at.name;
      flag = at.flag;
      value = drop (length front) word;
      is = (starts_is Decides-eqb word front (starts_with eqb word front) refl).0 at.passed;
    }

gives : (name value : Text) → is_flag name ≡ true → gives_value (joined name value) ≡ true
gives name value flag =
    let word = joined name value in
    let front = codes "--" ++ name ++ codes "=" in
    from_flag (λ flag. starts_with eqb word (codes "--" ++ flag ++ codes "=")) name flag
    ((starts_is Decides-eqb word front (starts_with eqb word front) refl).1 value refl)

plain_bare : (word : Text) → begins_with_hyphen word ≡ false → gives_value word ≡ false
plain_bare word plain = go (gives_value word) refl
  where
    go : (b : Bool) → gives_value word ≡ b → b ≡ false
    go false e = refl
    go true e = absurd (true≢false (sym (ap begins_with_hyphen (valued_flag word e).is) ∙ plain))

name_bare : (name : Text) → has_byte 61 name ≡ false → gives_value (45 ∷ 45 ∷ name) ≡ false
name_bare name whole = go (gives_value (45 ∷ 45 ∷ name)) refl
  where
    go : (b : Bool) → gives_value (45 ∷ 45 ∷ name) ≡ b → b ≡ false
    go false e = refl
    go true e =
        let flag = valued_flag (45 ∷ 45 ∷ name) e in
        let same : name ≡ flag.name ++ 61 ∷ flag.value = behind_two name (flag.name ++ 61 ∷ flag.value) (flag.is ∙ joined_is flag.name flag.value) in
        absurd (true≢false (sym (has_sign flag.name flag.value) ∙ sym (ap (has_byte 61) same) ∙ whole))

joined_bare : (name value : Text) → has_byte 61 name ≡ false → is_flag name ≡ false → gives_value (joined name value) ≡ false
joined_bare name value whole other = go (gives_value (joined name value)) refl
  where
    go : (b : Bool) → gives_value (joined name value) ≡ b → b ≡ false
    go false e = refl
    go true e =
        let flag = valued_flag (joined name value) e in
        let same : name ++ 61 ∷ value ≡ flag.name ++ 61 ∷ flag.value
        = behind_two (name ++ 61 ∷ value) (flag.name ++ 61 ∷ flag.value) (sym (joined_is name value) ∙ flag.is ∙ joined_is flag.name flag.value) in
        let names = parted name flag.name value flag.value whole (no_sign_in flag.name (flag_is_name flag.name flag.flag)) same in
        absurd (true≢false (sym flag.flag ∙ sym (ap is_flag names.0) ∙ other))

-- ---- the words of one item

-- no word of an item gives a flag a value
bare_words : (item : Item) (words : List Text) → is_name item.name ≡ true → SpellsItem item words → list_any gives_value words ≡ false
bare_words item words named (inl flag) =
    subst (λ ws. list_any gives_value ws ≡ false) (sym flag.is) (ap (λ b. b || false) (name_bare item.name (no_sign_in item.name named)))
bare_words item words named (inr (other, inl one)) =
    subst (λ ws. list_any gives_value ws ≡ false) (sym one)
    (ap (λ b. b || false) (joined_bare item.name item.value (no_sign_in item.name named) other))
bare_words item words named (inr (other, inr two)) =
    subst (λ ws. list_any gives_value ws ≡ false) (sym two.0)
    (ap₂ (λ a b. a || (b || false)) (name_bare item.name (no_sign_in item.name named)) (plain_bare item.value two.1))

-- an item as `clap` is given it
told_item : (item : Item) (words : List Text) → SpellsItem item words → SpellsOption item (map told_word words)
told_item item words (inl flag) =
    let word = codes "--" ++ item.name in
    inl
    (ap (map told_word) flag.is
    ∙ ap (λ w. w ∷ []) (with_sign word flag.flag ∙ sym (append-nil (word ++ codes "=")))
    ∙ sym (ap (λ v. joined item.name v ∷ []) flag.no_value))
told_item item words (inr (other, inl one)) =
    inl (ap (map told_word) one ∙ ap (λ w. w ∷ []) (as_it_is (joined item.name item.value) (joined_other item.name item.value)))
told_item item words (inr (other, inr two)) =
    inr (
      ap (map told_word) two.0
          ∙ ap₂ (λ w v. w ∷ v ∷ []) (as_it_is (45 ∷ 45 ∷ item.name) other) (as_it_is item.value (plain_other item.value two.1)),
      two.1,
    )

head_is : (x y : Text) (xs ys : List Text) → x ∷ xs ≡ y ∷ ys → x ≡ y
head_is x y xs ys e = cc

tail_is : (x y : Text) (xs ys : List Text) → x ∷ xs ≡ y ∷ ys → xs ≡ ys
tail_is x y xs ys e = cc

-- a flag as `clap` is given it
told_flag : (word : Text) (flag : is_flag_word word ≡ true) → told_word word ≡ 45 ∷ 45 ∷ ((flag_word word flag).name ++ 61 ∷ [])
told_flag word flag = with_sign word flag ∙ ap (λ w. w ++ codes "=") (flag_word word flag).is

-- and the item that is so given
item_in_one : (item : Item) (word : Text) → has_byte 61 item.name ≡ false → gives_value word ≡ false → told_word word ≡ joined item.name item.value
    → SpellsItem item (word ∷ [])
item_in_one item word whole bare told = go (is_flag_word word) refl (is_flag item.name) refl
  where
    go : (b : Bool) → is_flag_word word ≡ b → (f : Bool) → is_flag item.name ≡ f → SpellsItem item (word ∷ [])
    go true is f named =
        let flag = flag_word word is in
        let given : item.name ++ 61 ∷ item.value ≡ flag.name ++ 61 ∷ []
        = behind_two (item.name ++ 61 ∷ item.value) (flag.name ++ 61 ∷ []) (sym (joined_is item.name item.value) ∙ sym told ∙ told_flag word is) in
        let both = parted item.name flag.name item.value [] whole (no_sign_in flag.name flag.named) given in
        inl (record {
          flag = ap is_flag both.0 ∙ flag.flag;
          no_value = both.1;
          is = ap (λ w. w ∷ []) (flag.is ∙ sym (ap (λ n. 45 ∷ 45 ∷ n) both.0));
        })
    go false is true named =
        absurd (true≢false (sym (gives item.name item.value named) ∙ ap gives_value (sym told ∙ as_it_is word is) ∙ bare))
    go false is false named = inr (named, inl (ap (λ w. w ∷ []) (sym (as_it_is word is) ∙ told)))

item_in_two : (item : Item) (word value : Text) → has_byte 61 item.name ≡ false → told_word word ≡ codes "--" ++ item.name → told_word value ≡ item.value
    → begins_with_hyphen item.value ≡ false → SpellsItem item (word ∷ value ∷ [])
item_in_two item word value whole told told_value plain = go (is_flag_word word) refl (is_flag_word value) refl (is_flag item.name) refl
  where
    go : (b : Bool) → is_flag_word word ≡ b → (v : Bool) → is_flag_word value ≡ v → (f : Bool) → is_flag item.name ≡ f
        → SpellsItem item (word ∷ value ∷ [])
    go true is v is_v f named =
        let name = (flag_word word is).name in
        let given : name ++ 61 ∷ [] ≡ item.name = behind_two (name ++ 61 ∷ []) item.name (sym (told_flag word is) ∙ told) in
        absurd (true≢false (sym (has_sign name []) ∙ ap (has_byte 61) given ∙ whole))
    go false is true is_v f named = absurd (true≢false (ap begins_with_hyphen (sym (told_flag value is_v) ∙ told_value) ∙ plain))
    go false is false is_v true named =
        let same : word ≡ 45 ∷ 45 ∷ item.name = sym (as_it_is word is) ∙ told in
        absurd (true≢false (sym named ∙ sym (ap is_flag_word same) ∙ is))
    go false is false is_v false named =
        inr (named, inr (ap₂ (λ w v. w ∷ v ∷ []) (sym (as_it_is word is) ∙ told) (sym (as_it_is value is_v) ∙ told_value), plain))

given_item : (item : Item) (words : List Text) → is_name item.name ≡ true → list_any gives_value words ≡ false → SpellsOption item (map told_word words)
    → SpellsItem item words
given_item item [] named bare (inl one) = let none : (let ws : List Text = [] in ws) ≡ joined item.name item.value ∷ [] = one in cc
given_item item [] named bare (inr two) = let none : (let ws : List Text = [] in ws) ≡ (codes "--" ++ item.name) ∷ item.value ∷ [] = two.0 in cc
given_item item (word ∷ []) named bare (inl one) =
    item_in_one item word (no_sign_in item.name named) (both_false _ _ bare).0 (head_is _ _ _ _ one)
given_item item (word ∷ []) named bare (inr two) =
    let none : (let ws : List Text = [] in ws) ≡ item.value ∷ [] = tail_is _ _ _ _ two.0 in cc
given_item item (word ∷ value ∷ []) named bare (inl one) =
    let none : told_word value ∷ [] ≡ (let ws : List Text = [] in ws) = tail_is _ _ _ _ one in cc
given_item item (word ∷ value ∷ []) named bare (inr two) =
    item_in_two item word value (no_sign_in item.name named) (head_is _ _ _ _ two.0) (head_is _ _ _ _ (tail_is _ _ _ _ two.0)) two.1
given_item item (word ∷ value ∷ more ∷ words) named bare (inl one) =
    let none : told_word value ∷ map told_word (more ∷ words) ≡ (let ws : List Text = [] in ws) = tail_is _ _ _ _ one in cc
given_item item (word ∷ value ∷ more ∷ words) named bare (inr two) =
    let none : told_word more ∷ map told_word words ≡ (let ws : List Text = [] in ws) = tail_is _ _ _ _ (tail_is _ _ _ _ two.0) in cc

-- ---- all items

-- a list whose image falls into two falls into two itself
record FallsInto (words first rest : List Text) : Type 0 where
  front : List Text
  back : List Text
  is : words ≡ front ++ back
  front_is : map told_word front ≡ first
  back_is : map told_word back ≡ rest

falls : (words first rest : List Text) → map told_word words ≡ first ++ rest → FallsInto words first rest
falls words [] rest e = record { front = []; back = words; is = refl; front_is = refl; back_is = e }
falls [] (x ∷ first) rest e = let none : (let ws : List Text = [] in ws) ≡ x ∷ first ++ rest = e in cc
falls (word ∷ words) (x ∷ first) rest e =
    let more = falls words first rest (tail_is _ _ _ _ e) in
    record {
      front = word ∷ more.front;
      back = more.back;
      is = ap (λ ws. word ∷ ws) more.is;
      front_is = ap₂ (λ w ws. w ∷ ws) (head_is _ _ _ _ e) more.front_is;
      back_is = more.back_is;
    }

bare_all : (items : List Item) (words : List Text) → All (λ item. is_name item.name ≡ true) items → SpellsItems items words → list_any gives_value words ≡ false
bare_all [] words named spelled = subst (λ ws. list_any gives_value ws ≡ false) (sym spelled) refl
bare_all (item ∷ items) words named spelled =
    let first = bare_words item spelled.0 (named 0 item (omega arith)) spelled.3 in
    let others = bare_all items spelled.1 (λ k d lt. named (suc k) d (omega arith)) spelled.4 in
    subst (λ ws. list_any gives_value ws ≡ false) (sym spelled.2) (list_any-append gives_value spelled.0 spelled.1 ∙ ap₂ (λ a b. a || b) first others)

told_all : (items : List Item) (words : List Text) → SpellsItems items words → SpellsOptions items (map told_word words)
told_all [] words spelled = ap (map told_word) spelled
told_all (item ∷ items) words spelled =
    (map told_word spelled.0, map told_word spelled.1, ap (map told_word) spelled.2 ∙ map-append told_word spelled.0 spelled.1, told_item item spelled.0 spelled.3, told_all items spelled.1 spelled.4)

no_words : (words : List Text) → map told_word words ≡ [] → words ≡ []
no_words [] e = refl
no_words (word ∷ words) e = let none : told_word word ∷ map told_word words ≡ (let ws : List Text = [] in ws) = e in cc

given_all : (items : List Item) (words : List Text) → All (λ item. is_name item.name ≡ true) items → list_any gives_value words ≡ false
    → SpellsOptions items (map told_word words) → SpellsItems items words
given_all [] words named bare spelled = no_words words spelled
given_all (item ∷ items) words named bare spelled =
    let two = falls words spelled.0 spelled.1 spelled.2 in
    let bares = both_false _ _ (sym (list_any-append gives_value two.front two.back) ∙ subst (λ ws. list_any gives_value ws ≡ false) two.is bare) in (
      two.front,
      two.back,
      two.is,
      given_item item two.front (named 0 item (omega arith)) bares.0 (subst (SpellsOption item) (sym two.front_is) spelled.3),
      given_all items two.back (λ k d lt. named (suc k) d (omega arith)) bares.1 (subst (SpellsOptions items) (sym two.back_is) spelled.4),
    )

-- ---- words that stand in no plan

told_stray : (word : Text) → is_stray (told_word word) ≡ is_stray word
told_stray word = go (is_flag_word word) refl
  where
    go : (b : Bool) → is_flag_word word ≡ b → is_stray (told_word word) ≡ is_stray word
    go true e =
        let flag = flag_word word e in
        let bare : is_stray word ≡ false = ap is_stray (flag.is ∙ ap (λ n. 45 ∷ 45 ∷ n) (sym (append-nil flag.name))) ∙ named_word flag.name [] flag.named in
        ap is_stray (told_flag word e) ∙ named_word flag.name (codes "=") flag.named ∙ sym bare
    go false e = ap is_stray (as_it_is word e)

told_strays : (words : List Text) → list_any is_stray (map told_word words) ≡ list_any is_stray words
told_strays [] = refl
told_strays (word ∷ words) = ap₂ (λ a b. a || b) (told_stray word) (told_strays words)

four : (a b c d : Bool) → ((a || b) || (c || d)) ≡ ((a || c) || (b || d))
four true b c d = refl
four false true true d = refl
four false false true d = refl
four false b false d = refl

refused_parts : (words : List Text) → list_any is_refused words ≡ (list_any is_stray words || list_any gives_value words)
refused_parts [] = refl
refused_parts (word ∷ words) =
    ap (λ b. (is_stray word || gives_value word) || b) (refused_parts words)
    ∙ four (is_stray word) (gives_value word) (list_any is_stray words) (list_any gives_value words)

-- what `clap` is given has no such word
pub told_plain : (words : List Text) → list_any is_refused words ≡ false → list_any is_stray (map told_word words) ≡ false
told_plain words fine = told_strays words ∙ (both_false _ _ (sym (refused_parts words) ∙ fine)).0

-- ---- the items of a program

all_named : (program : Program) (items : List Item) → All (λ item. Contains (options_of program) item.name) items → All (λ item. is_name item.name ≡ true) items
all_named program items known k d lt = name_of_option (options_of program) _ (options_are_names program) (known_options program items known k d lt)

pub told_items : (program : Program) (words : List Text) (items : List Item) → HasItems program words items → HasOptions program (map told_word words) items
told_items program words items has = record { spelled = told_all items words has.spelled; known = has.known; once = has.once }

pub given_items : (program : Program) (words : List Text) (items : List Item) → list_any is_refused words ≡ false → HasOptions program (map told_word words) items
    → HasItems program words items
given_items program words items fine has = record {
  spelled = given_all items words (all_named program items has.known) (both_false _ _ (sym (refused_parts words) ∙ fine)).1 has.spelled;
  known = has.known;
  once = has.once;
}

-- no word of items is refused
pub items_unrefused_words : (program : Program) (words : List Text) (items : List Item) → HasItems program words items → list_any is_refused words ≡ false
items_unrefused_words program words items has =
    refused_parts words
    ∙ ap₂ (λ a b. a || b)
    (sym (told_strays words) ∙ items_unstray program (map told_word words) items (told_items program words items has))
    (bare_all items words (all_named program items has.known) has.spelled)

-- words are the items of one list at most
pub one_items : (program : Program) (words : List Text) (xs ys : List Item) → HasItems program words xs → HasItems program words ys → xs ≡ ys
one_items program words xs ys has_x has_y = one_options program (map told_word words) xs ys (told_items program words xs has_x) (told_items program words ys has_y)
