-- `clap` finds exactly the items that the words spell.
use Rattle.std.proofs.Common.{◌≡◌, ◌∙◌, ◌==◌, ◌||◌, ◌++◌, ◌⊎◌, ◌+◌, ℕ, Bool, true, false, not, suc, refl, sym, ap, ap₂, arith, [], ◌∷◌, Some, None, eqb-true, inl, inr, true≢false, take, drop}
use Rattle.std.specs.List.{before_first, after_first, position_or_len}
use Rattle.clap.specs.Lexer.{has_byte, name_and_value}
use Rattle.command_words.specs.Items.{Text, begins_with_hyphen}
use Rattle.command_words.specs.Strays.{is_stray}
use Rattle.command_words.proofs.Walking.{long_word}

-- ---- words of options

-- the name has no `=`, and is not empty
abbrev pub is_name : Text → Bool
is_name [] = false
is_name (first ∷ rest) = not (has_byte 61 (first ∷ rest))

abbrev pub no_sign : Text → Bool
no_sign text = not (has_byte 61 text)

one_more : (k : ℕ) → 1 + k ≡ suc k
one_more k = omega arith

-- the front of a list that begins with an element that does not pass
front_of_more : (x : ℕ) (xs : Text) → (x == 61) ≡ false → before_first (λ y. y == 61) (x ∷ xs) ≡ x ∷ before_first (λ y. y == 61) xs
front_of_more x xs is = rw is (ap (λ n. take n (x ∷ xs)) (one_more (position_or_len (λ y. y == 61) xs)))

end_of_more : (x : ℕ) (xs : Text) → (x == 61) ≡ false → after_first (λ y. y == 61) (x ∷ xs) ≡ after_first (λ y. y == 61) xs
end_of_more x xs is =
    let k = position_or_len (λ y. y == 61) xs in
    let more : (1 + k) + 1 ≡ suc (k + 1) = omega arith in
    rw is (ap (λ n. drop n (x ∷ xs)) more)

-- no `=`: the whole text is a name
pub whole_name : (text : Text) → has_byte 61 text ≡ false → before_first (λ x. x == 61) text ≡ text
whole_name [] e = refl
whole_name (x ∷ xs) e = go (x == 61) refl (whole_name xs)
  where
    go : (b : Bool) → (x == 61) ≡ b → (has_byte 61 xs ≡ false → before_first (λ y. y == 61) xs ≡ xs) → before_first (λ y. y == 61) (x ∷ xs) ≡ x ∷ xs
    go true is later = absurd (true≢false (rw is at e))
    go false is later = front_of_more x xs is ∙ ap (λ t. x ∷ t) (later (rw is at e))

-- a `=`: what stands before the first and what stands after it
pub at_sign : (text : Text) → has_byte 61 text ≡ true → text ≡ before_first (λ x. x == 61) text ++ 61 ∷ after_first (λ x. x == 61) text
at_sign [] e = absurd (true≢false (sym e))
at_sign (x ∷ xs) e = go (x == 61) refl (at_sign xs)
  where
    go : (b : Bool) → (x == 61) ≡ b → (has_byte 61 xs ≡ true → xs ≡ before_first (λ y. y == 61) xs ++ 61 ∷ after_first (λ y. y == 61) xs)
        → x ∷ xs ≡ before_first (λ y. y == 61) (x ∷ xs) ++ 61 ∷ after_first (λ y. y == 61) (x ∷ xs)
    go true is later = rw is (ap (λ y. y ∷ xs) (eqb-true x 61 is))
    go false is later = rw (front_of_more x xs is, end_of_more x xs is) (ap (λ t. x ∷ t) (later (rw is at e)))

pub name_before : (name value : Text) → has_byte 61 name ≡ false → before_first (λ x. x == 61) (name ++ 61 ∷ value) ≡ name
name_before [] value e = refl
name_before (x ∷ xs) value e = go (x == 61) refl (name_before xs value)
  where
    go : (b : Bool) → (x == 61) ≡ b → (has_byte 61 xs ≡ false → before_first (λ y. y == 61) (xs ++ 61 ∷ value) ≡ xs) → before_first (λ y. y == 61) (x ∷ xs ++ 61 ∷ value) ≡ x ∷ xs
    go true is later = absurd (true≢false (rw is at e))
    go false is later = front_of_more x (xs ++ 61 ∷ value) is ∙ ap (λ t. x ∷ t) (later (rw is at e))

pub value_after : (name value : Text) → has_byte 61 name ≡ false → after_first (λ x. x == 61) (name ++ 61 ∷ value) ≡ value
value_after [] value e = refl
value_after (x ∷ xs) value e = go (x == 61) refl (value_after xs value)
  where
    go : (b : Bool) → (x == 61) ≡ b → (has_byte 61 xs ≡ false → after_first (λ y. y == 61) (xs ++ 61 ∷ value) ≡ value) → after_first (λ y. y == 61) (x ∷ xs ++ 61 ∷ value) ≡ value
    go true is later = absurd (true≢false (rw is at e))
    go false is later = end_of_more x (xs ++ 61 ∷ value) is ∙ later (rw is at e)

pub has_sign : (name value : Text) → has_byte 61 (name ++ 61 ∷ value) ≡ true
has_sign [] value = refl
has_sign (x ∷ xs) value = go (x == 61) (has_sign xs value)
  where
    go : (b : Bool) → has_byte 61 (xs ++ 61 ∷ value) ≡ true → (b || has_byte 61 (xs ++ 61 ∷ value)) ≡ true
    go true e = refl
    go false e = e

-- `--name=value`
pub together : (name value : Text) → has_byte 61 name ≡ false → name_and_value (name ++ 61 ∷ value) ≡ (name, Some value)
together name value e = rw (has_sign name value, name_before name value e, value_after name value e) refl

-- `--name`
pub apart : (name : Text) → has_byte 61 name ≡ false → name_and_value name ≡ (name, None)
apart name e = rw (e, whole_name name e) refl

-- ---- kinds of words

-- the word begins with two hyphens and has more
pub record IsLong (word : Text) : Type 0 where
  pub first : ℕ
  pub rest : Text
  pub is : word ≡ long_word first rest

pub plain_or_long : (word : Text) → is_stray word ≡ false → (begins_with_hyphen word ≡ false) ⊎ IsLong word
plain_or_long [] fine = inl refl
plain_or_long (x ∷ xs) fine = go (x == 45) refl xs fine
  where
    after : (x : ℕ) → x ≡ 45 → (xs : Text) → is_stray (x ∷ xs) ≡ false → IsLong (x ∷ xs)
    after x is [] fine = absurd (true≢false (rw is at fine))
    after x is (y ∷ []) fine = absurd (true≢false (rw is at fine))
    after x is (y ∷ z ∷ zs) fine = again (y == 45) refl
      where
        again : (b : Bool) → (y == 45) ≡ b → IsLong (x ∷ y ∷ z ∷ zs)
        again true second = record { first = z; rest = zs; is = ap₂ (λ a b. a ∷ b ∷ z ∷ zs) is (eqb-true y 45 second) }
        again false second = absurd (true≢false (rw (is, second) at fine))

    go : (b : Bool) → (x == 45) ≡ b → (xs : Text) → is_stray (x ∷ xs) ≡ false → (begins_with_hyphen (x ∷ xs) ≡ false) ⊎ IsLong (x ∷ xs)
    go true is xs fine = inr (after x (eqb-true x 45 is) xs fine)
    go false is xs fine = inl is
