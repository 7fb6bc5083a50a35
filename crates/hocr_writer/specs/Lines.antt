-- The element of a text line: its box, its baseline, the line of its descenders, and its words.
use Rattle.std.specs.Prelude.{ℕ, ◌+◌, ◌/◌, ◌%◌, ℤ, pos, negsuc, ◌-ℤ◌, unsigned_abs, List, [], ◌∷◌, codes, decimal, ◌==◌, if◌then◌else◌}
use Rattle.std.specs.Prelude.{Option, Some, None, unwrap_or}
use Rattle.std.specs.List.{slice_get}
use Rattle.std.specs.Fmt.{signed_decimal}
use Rattle.line_quality.specs.Points.{height_at}
use Rattle.hocr_writer.specs.declared.layout.Layout.{Layout}
use Rattle.hocr_writer.specs.declared.layout.Mark.{Mark}
use Rattle.layout_geom.specs.declared.rect.Rect.{Rect}
use Rattle.hocr_writer.specs.Pieces.{joined_pieces, numbered_pieces, numbered_box, box_front}

-- A number below 1000 in three digits.
abbrev pub three_digits : ℕ → List ℕ
three_digits number = (48 + number / 100) ∷ (48 + number / 10 % 10) ∷ (48 + number % 10) ∷ []

abbrev pub sign_text : ℤ → List ℕ
sign_text (pos steps) = []
sign_text (negsuc steps) = codes "-"

-- The slope of a line, from its thousandths, with three decimals.
abbrev pub slope_text : ℤ → List ℕ
slope_text slope = joined_pieces (sign_text slope ∷ codes "0." ∷ three_digits (unsigned_abs slope) ∷ [])

-- How far below the bottom edge of its box the baseline begins, at the box's left edge. It is
-- negative where the baseline begins above that edge.
abbrev pub constant_of : Mark → ℤ
constant_of mark = height_at mark.slope mark.offset mark.bbox.x0 -ℤ pos mark.bbox.y1

-- How many rows below the baseline the line of the descenders lies.
abbrev pub descent_text : ℕ → List ℕ
descent_text depth = joined_pieces (codes "; x_depth " ∷ decimal depth ∷ [])

-- The same, where the two are not one line.
unfoldable pub depth_text : ℕ → List ℕ
depth_text depth = if depth == 0 then [] else descent_text depth

-- A word of a line, by the numbers of the line and of the word, and its box.
unfoldable pub word_element : ℕ → ℕ → ℕ → Rect → List ℕ
word_element page line number box =
    joined_pieces
    (codes "<span class='ocrx_word' id='word_"
    ∷ decimal page
    ∷ codes "_"
    ∷ decimal line
    ∷ numbered_box number box
    ∷ codes "'></span>"
    ∷ [])

-- The words of a line, from left to right and numbered from 0.
abbrev pub words_text : ℕ → ℕ → List Rect → List ℕ
words_text page line words = joined_pieces (numbered_pieces (word_element page line) 0 words)

-- The element of a text line begins, by its number.
abbrev pub mark_front : ℕ → ℕ → Mark → List ℕ
mark_front page number mark =
    joined_pieces
    (box_front (codes "<span class='ocr_line' id='line_") page number mark.bbox
    ∷ codes "; baseline "
    ∷ slope_text mark.slope
    ∷ codes " "
    ∷ signed_decimal (constant_of mark)
    ∷ depth_text mark.depth
    ∷ codes "'>"
    ∷ [])

-- A text line, by its number, with its words.
abbrev pub mark_line : ℕ → ℕ → Mark → List Rect → List ℕ
mark_line page number mark words = joined_pieces (mark_front page number mark ∷ words_text page number words ∷ codes "</span>\n" ∷ [])

-- The words of the line of this number of a layout, or none where it shows no words.
abbrev pub words_in : Layout → ℕ → List Rect
words_in layout number = unwrap_or (slice_get layout.words number) []

-- The line of this number of a layout, where it has one.
abbrev pub line_text : ℕ → ℕ → List Rect → Option Mark → List ℕ
line_text page number words (Some mark) = mark_line page number mark words
line_text page number words None = []

abbrev pub line_of : Layout → ℕ → List ℕ
line_of layout number = line_text layout.page number (words_in layout number) (slice_get layout.lines number)
