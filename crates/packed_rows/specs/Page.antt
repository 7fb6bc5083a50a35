-- A page, and its rows as packed bytes.
use Rattle.std.specs.Prelude.{◌≡◌, ◌≤◌, ◌<◌, ℕ, ◌+◌, ◌-◌, ◌*◌, ◌/◌, ◌%◌, Bool, ◌&&◌, IsTrue, List}
use Rattle.std.specs.Prelude.{length, slice_index, nat_lt, if◌then◌else◌}
use Rattle.std.specs.Int.{bit_at}
use Rattle.layout_limits.specs.declared.TheConstants.{MAX_SIDE, MAX_PIXELS}

-- how many bytes a row of this width takes
abbrev pub row_len : ℕ → ℕ
row_len width = (width + 7) / 8

-- the pixel at x of a row in packed bytes, the high bit leftmost: 1 is black
abbrev pub pixel : List ℕ → ℕ → ℕ
pixel bits x = bit_at (slice_index bits (x / 8)) (7 - x % 8)

-- a width, a height and a set of black places
pub record Page : Type 0 where
  pub width : ℕ
  pub height : ℕ
  pub is_black : ℕ → ℕ → Bool

-- the page of this size on which these places are black; outside of it none is
abbrev pub page_with : ℕ → ℕ → (ℕ → ℕ → Bool) → Page
page_with width height is_black = record {
  width = width;
  height = height;
  is_black = λ x y. (nat_lt x width && nat_lt y height) && is_black x y;
}

-- every black place of the page lies inside it
abbrev pub IsClipped : Page → Type 0
IsClipped page = (x y : ℕ) → IsTrue (page.is_black x y) → (x < page.width) × (y < page.height)

-- the first page has the size of the second, and inside it the same black places
pub record HasPicture (page picture : Page) : Type 0 where
  pub width_is : page.width ≡ picture.width
  pub height_is : page.height ≡ picture.height
  pub same : (x y : ℕ) → x < picture.width → y < picture.height → page.is_black x y ≡ picture.is_black x y

-- sizes that a page can have: each from 1 to MAX_SIDE, with at most MAX_PIXELS pixels
pub record IsPageSize (width height : ℕ) : Type 0 where
  pub some_width : 0 < width
  pub some_height : 0 < height
  pub width_bound : width ≤ MAX_SIDE
  pub height_bound : height ≤ MAX_SIDE
  pub area_bound : width * height ≤ MAX_PIXELS

-- the bytes are of the right number for a row, and the padding bits are clear
pub record IsPackedRow (width : ℕ) (bits : List ℕ) : Type 0 where
  pub len : length bits ≡ row_len width
  pub padding : (x : ℕ) → width ≤ x → pixel bits x ≡ 0

-- the packed bytes are the row y of the page
pub record IsRowOf (page : Page) (y : ℕ) (bits : List ℕ) : Type 0 where
  pub len : length bits ≡ row_len page.width
  pub pixels : (x : ℕ) → pixel bits x ≡ (if nat_lt x page.width && page.is_black x y then 1 else 0)

-- a row whose padding bits are cleared
pub record IsCleared (width : ℕ) (old new : List ℕ) : Type 0 where
  pub len : length new ≡ length old
  pub pixels : (x : ℕ) → pixel new x ≡ (if nat_lt x width then pixel old x else 0)
