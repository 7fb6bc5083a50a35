-- Lists that were put together in two ways.
use Rattle.std.proofs.Common.{◌≡◌, ℕ, ◌<◌, ◌≤◌, List, [], ◌∷◌, ◌++◌, length, take, drop, refl, sym, subst, ◌∙◌, append_assoc, inl, inr, arith}
use Rattle.std.proofs.lemmas.Bool.{cases_lt}
use Rattle.std.proofs.lemmas.List.{length-append, length-take-le, length-drop, take-append-drop}

pub head_is : (x y : ℕ) (xs ys : List ℕ) → x ∷ xs ≡ y ∷ ys → x ≡ y
head_is x y xs ys e = cc

tail_is : (x y : ℕ) (xs ys : List ℕ) → x ∷ xs ≡ y ∷ ys → xs ≡ ys
tail_is x y xs ys e = cc

pub second_is : (x y u v : ℕ) (xs ys : List ℕ) → x ∷ y ∷ xs ≡ u ∷ v ∷ ys → y ≡ v
second_is x y u v xs ys e = cc

-- the first list goes on behind the other first list
pub record GoesOn (a x p q : List ℕ) : Type 0 where
  pub middle : List ℕ
  pub first : a ≡ p ++ middle
  pub second : q ≡ middle ++ x

pub goes_on : (a x p q : List ℕ) → a ++ x ≡ p ++ q → length p ≤ length a → GoesOn a x p q
goes_on a x [] q e le = record { middle = a; first = refl; second = sym e }
goes_on [] x (byte ∷ p) q e le = absurd (omega (arith, le))
goes_on (other ∷ a) x (byte ∷ p) q e le =
    let g = goes_on a x p q (tail_is other byte (a ++ x) (p ++ q) e) (omega (arith, le)) in
    record { middle = g.middle; first = both other byte a (p ++ g.middle) (head_is other byte (a ++ x) (p ++ q) e) g.first; second = g.second }
  where
    both : (u v : ℕ) (us vs : List ℕ) → u ≡ v → us ≡ vs → u ∷ us ≡ v ∷ vs
    both u v us vs h t = cc

-- a byte behind a shorter front stands in the first list
pub record HasByte (a x p : List ℕ) (byte : ℕ) (q : List ℕ) : Type 0 where
  pub middle : List ℕ
  pub first : a ≡ p ++ byte ∷ middle
  pub second : q ≡ middle ++ x

pub has_byte : (a x p : List ℕ) (byte : ℕ) (q : List ℕ) → a ++ x ≡ p ++ byte ∷ q → length p < length a → HasByte a x p byte q
has_byte a x p byte q e lt =
    let split : a ++ x ≡ (p ++ byte ∷ []) ++ q = e ∙ sym (append_assoc p (byte ∷ []) q) in
    let g = goes_on a x (p ++ byte ∷ []) q split (omega (arith, length-append p (byte ∷ []), lt)) in
    record { middle = g.middle; first = g.first ∙ append_assoc p (byte ∷ []) g.middle; second = g.second }

pub nothing_behind : (a : List ℕ) → length a ≡ 0 → a ≡ []
nothing_behind [] e = refl
nothing_behind (byte ∷ a) e = absurd (omega (arith, e))

-- what holds of each list of at most so many bytes, and of each list of so many with more behind it, holds of every list
pub short_or_longer : (P : List ℕ → Type 0) (len : ℕ) → ((input : List ℕ) → length input ≤ len → P input)
    → ((front behind : List ℕ) → length front ≡ len → 0 < length behind → P (front ++ behind)) → (input : List ℕ) → P input
short_or_longer P len short by_front input =
    elim (cases_lt len (length input)) [
      | inr le ↦ short input le
      | inl longer ↦
          subst P (take-append-drop len input)
          (by_front (take len input) (drop len input) (length-take-le len input (omega (arith, longer))) (omega (arith, length-drop len input, longer)))
    ]
