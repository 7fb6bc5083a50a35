-- The pieces that a document is put together from.
use Rattle.std.specs.Prelude.{ℕ, ◌+◌, List, [], ◌∷◌, codes, decimal}
use Rattle.std.specs.List.{concat}
use Rattle.layout_geom.specs.declared.rect.Rect.{Rect}

-- The pieces of a line, or the lines of a text, one after another. It opens only where a proof
-- asks for it, so that no check computes a whole text.
unfoldable pub joined_pieces : List (List ℕ) → List ℕ
joined_pieces pieces = concat pieces

-- A piece for each item of a list, in its order. The first item has the number that is given.
unfoldable pub numbered_pieces : {Item : Type 0} → (ℕ → Item → List ℕ) → ℕ → List Item → List (List ℕ)
numbered_pieces piece number [] = []
numbered_pieces piece number (item ∷ rest) = piece number item ∷ numbered_pieces piece (number + 1) rest

-- A half-open box: its first column and row, and the column and the row behind its last.
unfoldable pub box_text : Rect → List ℕ
box_text box =
    joined_pieces
    (decimal box.x0
    ∷ codes " "
    ∷ decimal box.y0
    ∷ codes " "
    ∷ decimal box.x1
    ∷ codes " "
    ∷ decimal box.y1
    ∷ [])

-- The end of an `id`, by the number of its element, and the box behind it.
unfoldable pub numbered_box : ℕ → Rect → List ℕ
numbered_box number box =
    joined_pieces
    (codes "_"
    ∷ decimal number
    ∷ codes "' title='bbox "
    ∷ box_text box
    ∷ [])

-- The front of an element, up to its box. Its `id` ends with the numbers of its page and of itself.
unfoldable pub box_front : List ℕ → ℕ → ℕ → Rect → List ℕ
box_front opening page number box = joined_pieces (opening ∷ decimal page ∷ numbered_box number box ∷ [])
