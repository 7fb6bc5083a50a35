-- A list that grows at its end, in the order of a dictionary.
use Rattle.std.proofs.Common.{◌≡◌, ℕ, List, [], ◌∷◌, ◌++◌, inl, inr, ⊎_elim, refl}
use Rattle.reading_order.specs.Lexical.{IsLexicallyAtMost}

pub IsLexicallyAtMost-push : (xs : List ℕ) (v : ℕ) (ys : List ℕ) → IsLexicallyAtMost xs ys → ((zs : List ℕ) → ys ≡ xs ++ zs → IsLexicallyAtMost (v ∷ []) zs) → IsLexicallyAtMost (xs ++ v ∷ []) ys
IsLexicallyAtMost-push [] v ys h next = next ys refl
IsLexicallyAtMost-push (x ∷ xs) v [] h next = h
IsLexicallyAtMost-push (x ∷ xs) v (y ∷ ys) h next =
    ⊎_elim (λ less. inl less)
    (λ same. inr (same.0, IsLexicallyAtMost-push xs v ys same.1 (λ zs e. next zs cc)))
    h
