-- A text that grows by a piece for each item of a list.
use Rattle.std.proofs.Common.{ℕ, List, [], ◌++◌, ◌≡◌, ◌+◌, ◌<◌, ◌≤◌, length, drop, get_or, append_assoc, ap}
use Rattle.std.proofs.lemmas.List.{append-nil, drop_more, drop_all}
use Rattle.std.specs.List.{concat}
use Rattle.hocr_writer.specs.Pieces.{joined_pieces, numbered_pieces}

-- The piece of the next item goes over from what is left to the text.
pub piece_more : {Item : Type 0} (piece : ℕ → Item → List ℕ) (whole text now : List ℕ) (items : List Item) (k : ℕ) (item : Item) → k < length items → item ≡ get_or items k item → whole ≡ text ++ joined_pieces (numbered_pieces piece k (drop k items)) → now ≡ text ++ piece k item → whole ≡ now ++ joined_pieces (numbered_pieces piece (k + 1) (drop (k + 1) items))
unfolding joined_pieces numbered_pieces
piece_more piece whole text now items k item below read before grown =
    let rest : List ℕ = concat (numbered_pieces piece (k + 1) (drop (k + 1) items)) in
    let next : text ++ concat (numbered_pieces piece k (drop k items)) ≡ text ++ (piece k (get_or items k item) ++ rest) = ap (λ left. text ++ concat (numbered_pieces piece k left)) (drop_more items k item below) in
    let same : piece k item ≡ piece k (get_or items k item) = ap (piece k) read in
    let regrouped : (text ++ piece k item) ++ rest ≡ text ++ (piece k item ++ rest) = append_assoc text (piece k item) rest in
    cc (before, grown, next, same, regrouped)

-- Behind the last item nothing is left.
pub piece_all : {Item : Type 0} (piece : ℕ → Item → List ℕ) (whole text : List ℕ) (items : List Item) (k : ℕ) → length items ≤ k → whole ≡ text ++ joined_pieces (numbered_pieces piece k (drop k items)) → text ≡ whole
unfolding joined_pieces numbered_pieces
piece_all piece whole text items k end grown =
    let none : text ++ concat (numbered_pieces piece k (drop k items)) ≡ text ++ [] = ap (λ left. text ++ concat (numbered_pieces piece k left)) (drop_all k items end) in
    cc (grown, none, append-nil text)
