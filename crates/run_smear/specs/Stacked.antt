-- Pages one below the other.
use Rattle.std.specs.Prelude.{◌≡◌, ◌<◌, ◌+◌, ℕ}
use Rattle.packed_rows.specs.Page.{Page}
use Rattle.page_runs.specs.Packed.{Packed, page_of, rows_of}

-- a page that got the first so many rows of another below its own
pub record HasMore (old : Packed) (more : Page) (count : ℕ) (new : Packed) : Type 0 where
  pub width_is : (page_of new).width ≡ (page_of old).width
  pub height_is : (page_of new).height ≡ (page_of old).height
  pub rows_is : rows_of new ≡ rows_of old + count
  pub above : (x y : ℕ) → y < rows_of old → (page_of new).is_black x y ≡ (page_of old).is_black x y
  pub below : (x y : ℕ) → y < count → (page_of new).is_black x (rows_of old + y) ≡ more.is_black x y

-- the page of the rows of the one, and below them those of the other
pub record IsStack (upper lower page : Page) : Type 0 where
  pub width_is : page.width ≡ upper.width
  pub height_is : page.height ≡ upper.height + lower.height
  pub above : (x y : ℕ) → y < upper.height → page.is_black x y ≡ upper.is_black x y
  pub below : (x y : ℕ) → y < lower.height → page.is_black x (upper.height + y) ≡ lower.is_black x y
