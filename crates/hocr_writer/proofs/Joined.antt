-- A text that grows by one piece after the other.
use Rattle.std.proofs.Common.{ℕ, List, [], ◌∷◌, ◌++◌, ◌≡◌, append_assoc}
use Rattle.std.proofs.lemmas.List.{append-nil}
use Rattle.std.specs.List.{concat}
use Rattle.hocr_writer.specs.Pieces.{joined_pieces}

-- A text with pieces behind it is the text and the first piece, with the other pieces behind them.
pub joined_more : (front piece : List ℕ) (rest : List (List ℕ)) → front ++ joined_pieces (piece ∷ rest) ≡ (front ++ piece) ++ joined_pieces rest
unfolding joined_pieces
joined_more front piece rest = cc (append_assoc front piece (concat rest))

-- A text with no piece behind it is the text.
pub joined_none : (front : List ℕ) → front ++ joined_pieces [] ≡ front
unfolding joined_pieces
joined_none front = append-nil front

-- By these, a text that grew by one piece after the other grew by the list of them.
pub ruleset growing = (joined_more, joined_none)
