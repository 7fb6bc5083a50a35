-- What bytes spell a page: Netpbm's PBM with its comments, in its plain and in its raw form.
use Rattle.std.specs.Prelude.{◌≡◌, ◌≤◌, ◌<◌, ◌⊎◌, ℕ, ◌+◌, ◌-◌, ◌*◌, Bool, ◌&&◌, ◌||◌, ◌==◌}
use Rattle.std.specs.Prelude.{IsTrue, IsFalse, nat_le, List, [], ◌∷◌, ◌++◌, length, drop, slice_index, nat_eq, codes}
use Rattle.std.specs.List.{concat}
use Rattle.pbm_reader.specs.declared.limits.TheConstants.{MAX_HEADER, MAX_INPUT}
use Rattle.pbm_reader.specs.declared.form.Form.{Form}
use Rattle.pbm_reader.specs.declared.form.Form.TheVariants.{Plain, Raw}
use Rattle.packed_rows.specs.Page.{Page, page_with, IsPageSize, row_len, pixel}

-- a white byte: a space, a tab, a carriage return or a line feed
abbrev pub is_white : ℕ → Bool
is_white byte = byte == 32 || byte == 9 || byte == 13 || byte == 10

-- a byte that ends a line: a carriage return or a line feed
abbrev pub is_line_end : ℕ → Bool
is_line_end byte = byte == 13 || byte == 10

-- an ASCII digit
abbrev pub is_digit : ℕ → Bool
is_digit byte = nat_le 48 byte && nat_le byte 57

-- no byte of a comment's text ends the line
abbrev pub AreInLine : List ℕ → Type 0
AreInLine [] = Unit {0}
AreInLine (byte ∷ bytes) = IsFalse (is_line_end byte) × AreInLine bytes

-- a comment: `#`, text, and the byte that ends its line
pub record IsComment (bytes : List ℕ) : Type 0 where
  pub text : List ℕ
  pub end : ℕ
  pub whole : bytes ≡ codes "#" ++ text ++ end ∷ []
  pub in_line : AreInLine text
  pub ends : IsTrue (is_line_end end)

-- a white byte
pub record IsWhite (bytes : List ℕ) : Type 0 where
  pub byte : ℕ
  pub whole : bytes ≡ byte ∷ []
  pub white : IsTrue (is_white byte)

-- each piece is a white byte or a comment
abbrev pub AreBlank : List (List ℕ) → Type 0
AreBlank [] = Unit {0}
AreBlank (piece ∷ pieces) = (IsWhite piece ⊎ IsComment piece) × AreBlank pieces

-- any number of white bytes and comments
abbrev pub IsBlank : List ℕ → Type 0
IsBlank bytes = (pieces : List (List ℕ)) × AreBlank pieces × (bytes ≡ concat pieces)

-- one or more white bytes and comments
abbrev pub IsGap : List ℕ → Type 0
IsGap bytes = IsBlank bytes × (0 < length bytes)

abbrev pub AreDigits : List ℕ → Type 0
AreDigits [] = Unit {0}
AreDigits (digit ∷ digits) = IsTrue (is_digit digit) × AreDigits digits

-- the value of decimal digits, behind the digits before them
abbrev pub value_from : ℕ → List ℕ → ℕ
value_from before [] = before
value_from before (digit ∷ digits) = value_from (10 * before + (digit - 48)) digits

-- the value of one or more decimal digits
pub record IsNumber (bytes : List ℕ) (value : ℕ) : Type 0 where
  pub some : 0 < length bytes
  pub digits : AreDigits bytes
  pub value_is : value ≡ value_from 0 bytes

-- the name of a form of PBM
abbrev pub magic : Form → List ℕ
magic Plain = codes "P1"
magic Raw = codes "P4"

-- a header of a page in this form with these sizes: the form's name, a gap, the width, a gap, the height, one white byte
pub record IsHeader (bytes : List ℕ) (form : Form) (width height : ℕ) : Type 0 where
  pub gap : List ℕ
  pub width_text : List ℕ
  pub second_gap : List ℕ
  pub height_text : List ℕ
  pub end : ℕ
  pub whole : bytes ≡ magic form ++ gap ++ width_text ++ second_gap ++ height_text ++ end ∷ []
  pub is_gap : IsGap gap
  pub is_width : IsNumber width_text width
  pub is_second_gap : IsGap second_gap
  pub is_height : IsNumber height_text height
  pub ends : IsTrue (is_white end)

-- the bytes are a header
abbrev pub IsSomeHeader : List ℕ → Type 0
IsSomeHeader bytes = (form : Form) × (width : ℕ) × (height : ℕ) × IsHeader bytes form width height

-- the input is a header of at most 65,536 bytes, and the bytes behind it
pub record HasHeader (input header behind : List ℕ) (form : Form) (width height : ℕ) : Type 0 where
  pub whole : input ≡ header ++ behind
  pub is_header : IsHeader header form width height
  pub short : length header ≤ MAX_HEADER

-- the characters of these pixels, each behind any number of white bytes and comments
abbrev pub SpellsPixels : List ℕ → List ℕ → Type 0
SpellsPixels [] bytes = bytes ≡ []
SpellsPixels (pixel ∷ pixels) bytes =
    (blank : List ℕ) × (rest : List ℕ) × (bytes ≡ blank ++ (48 + pixel) ∷ rest) × IsBlank blank × (pixel < 2) × SpellsPixels pixels rest

-- the bytes are a raster of this form and size
abbrev pub IsRaster : Form → ℕ → ℕ → List ℕ → Type 0
IsRaster Plain width height bytes = (pixels : List ℕ) × (length pixels ≡ height * width) × SpellsPixels pixels bytes
IsRaster Raw width height bytes = length bytes ≡ height * row_len width

-- the page of this size whose rows follow one another in the pixels
abbrev pub pixels_page : ℕ → ℕ → List ℕ → Page
pixels_page width height pixels = page_with width height (λ x y. nat_eq (slice_index pixels (y * width + x)) 1)

-- the page of this size whose rows follow one another in the bytes of the raster
abbrev pub raster_page : ℕ → ℕ → List ℕ → Page
raster_page width height raster = page_with width height (λ x y. nat_eq (pixel (drop (y * row_len width) raster) x) 1)

-- what may stand behind a raster: nothing, and in the plain form a white byte and any bytes
abbrev pub MayFollow : Form → List ℕ → Type 0
MayFollow form [] = Unit {0}
MayFollow Plain (byte ∷ bytes) = IsTrue (is_white byte)
MayFollow Raw (byte ∷ bytes) = ⊥

-- the bytes are so many rows of the page from its top; the rows under them are white
abbrev pub SpellsTop : Form → ℕ → Page → List ℕ → Type 0
SpellsTop Plain count page bytes =
    (pixels : List ℕ) × (length pixels ≡ count * page.width) × SpellsPixels pixels bytes
    × (page ≡ pixels_page page.width page.height pixels)
SpellsTop Raw count page bytes = (length bytes ≡ count * row_len page.width) × (page ≡ raster_page page.width page.height bytes)

-- the raster's rows are those of the page
abbrev pub SpellsRows : Form → Page → List ℕ → Type 0
SpellsRows form page raster = SpellsTop form page.height page raster

-- the bytes spell the page: a header with sizes that a page can have, a raster of its form and size, and what may follow it,
-- 268,435,456 bytes at most, which a page in the raw form never has
pub record Spells (bytes : List ℕ) (page : Page) : Type 0 where
  pub form : Form
  pub header : List ℕ
  pub raster : List ℕ
  pub tail : List ℕ
  pub has_header : HasHeader bytes header (raster ++ tail) form page.width page.height
  pub size : IsPageSize page.width page.height
  pub rows : SpellsRows form page raster
  pub follows : MayFollow form tail
  pub short : length bytes ≤ MAX_INPUT

-- the bytes spell some page
abbrev pub IsPage : List ℕ → Type 0
IsPage bytes = (page : Page) × Spells bytes page
