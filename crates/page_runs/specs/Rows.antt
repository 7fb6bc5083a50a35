-- What a page becomes that takes its rows.
use Rattle.std.specs.Prelude.{◌≡◌, ℕ, ◌+◌, false, List, nat_eq, if◌then◌else◌}
use Rattle.packed_rows.specs.Page.{Page, pixel, IsPageSize}
use Rattle.pbm_reader.specs.Given.{AfterPage}
use Rattle.page_runs.specs.Packed.{Packed, page_of, rows_of, IsWhole, Holds}

-- the page that began with this size: no row is there
pub record Begun (old : Packed) (width height : ℕ) (new : Packed) : Type 0 where
  pub size : IsPageSize width height
  pub width_is : (page_of new).width ≡ width
  pub height_is : (page_of new).height ≡ height
  pub none_there : rows_of new ≡ 0
  pub white : (x y : ℕ) → (page_of new).is_black x y ≡ false

-- the page that got one more row
pub record Given (old : Packed) (bits : List ℕ) (new : Packed) : Type 0 where
  pub width_is : (page_of new).width ≡ (page_of old).width
  pub height_is : (page_of new).height ≡ (page_of old).height
  pub rows_is : rows_of new ≡ rows_of old + 1
  pub blacks : (x y : ℕ)
      → (page_of new).is_black x y ≡ (if nat_eq y (rows_of old) then nat_eq (pixel bits x) 1 else (page_of old).is_black x y)

-- what was given all rows of a page is whole, and holds that page
abbrev pub GivenPageIsHeld : Type 0
GivenPageIsHeld = (page : Page) (old new : Packed) → AfterPage Begun Given page old new → IsWhole new × Holds new page
