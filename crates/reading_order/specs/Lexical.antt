-- Lists of numbers in the order of words in a dictionary.
use Rattle.std.specs.Prelude.{◌≡◌, ℕ, ◌<◌, List, [], ◌∷◌, ◌⊎◌}

-- the first list begins the second, or has the lesser number where the two first differ
abbrev pub IsLexicallyAtMost : List ℕ → List ℕ → Type 0
IsLexicallyAtMost [] ys = Unit {0}
IsLexicallyAtMost (x ∷ xs) [] = ⊥
IsLexicallyAtMost (x ∷ xs) (y ∷ ys) = (x < y) ⊎ ((x ≡ y) × IsLexicallyAtMost xs ys)
