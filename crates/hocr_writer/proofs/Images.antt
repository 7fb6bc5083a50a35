-- The text of an image's name.
use Rattle.std.proofs.Common.{ℕ, List, [], ◌∷◌, ◌≡◌, refl}
use Rattle.std.specs.Prelude.{codes}
use Rattle.hocr_writer.specs.Pieces.{joined_pieces}
use Rattle.hocr_writer.specs.Document.{image_text}

-- A name with bytes stands in quotes.
pub image_named : (image : List ℕ) → (image ≡ [] → ⊥) → image_text image ≡ joined_pieces (codes "image \"" ∷ image ∷ codes "\"; " ∷ [])
unfolding image_text
image_named [] some = absurd (some refl)
image_named (byte ∷ bytes) some = refl
