-- The run-length smear of a page, after the run-length smoothing algorithm of Wong, Casey and Wahl (1982).
use Rattle.std.specs.Prelude.{◌≡◌, ◌<◌, ◌≤◌, ◌+◌, ◌-◌, ℕ, Bool, true, false, ◌⊎◌, ◌↔◌}
use Rattle.packed_rows.specs.Page.{Page}

-- A line of places is a row or a column: of each place it says whether it is black. A white stretch of it, from a place up to another,
-- which is excluded, is maximal and reaches no end of the line: directly before it and behind it is a black place.
pub record IsStretch (line : ℕ → Bool) (from to : ℕ) : Type 0 where
  pub some : from < to
  pub white : (k : ℕ) → from ≤ k → k < to → line k ≡ false
  pub begins : 0 < from
  pub before : line (from - 1) ≡ true
  pub behind : line to ≡ true

-- the place lies in a stretch of at most so many places
pub record IsFilled (line : ℕ → Bool) (most place : ℕ) : Type 0 where
  pub from : ℕ
  pub to : ℕ
  pub stretch : IsStretch line from to
  pub short : to ≤ from + most
  pub not_before : from ≤ place
  pub within : place < to

-- the place is black once the stretches of at most so many places are filled
abbrev pub IsSmeared : (ℕ → Bool) → ℕ → ℕ → Type 0
IsSmeared line most place = (line place ≡ true) ⊎ IsFilled line most place

-- black in the row smear, and in the column smear, of the page
abbrev pub IsInRowSmear : Page → ℕ → ℕ → ℕ → Type 0
IsInRowSmear page h x y = IsSmeared (λ k. page.is_black k y) h x

abbrev pub IsInColumnSmear : Page → ℕ → ℕ → ℕ → Type 0
IsInColumnSmear page v x y = IsSmeared (λ k. page.is_black x k) v y

-- black in both, each the smear of the page itself
abbrev pub IsInSmear : Page → ℕ → ℕ → ℕ → ℕ → Type 0
IsInSmear page h v x y = IsInRowSmear page h x y × IsInColumnSmear page v x y

-- the page of the same size whose black places are these
pub record IsSmearOf (page : Page) (h v : ℕ) (smear : Page) : Type 0 where
  pub width_is : smear.width ≡ page.width
  pub height_is : smear.height ≡ page.height
  pub blacks : (x y : ℕ) → (smear.is_black x y ≡ true) ↔ IsInSmear page h v x y

-- a page has one smear
abbrev pub SmearIsUnique : Type 0
SmearIsUnique = (page smear other : Page) (h v : ℕ) → IsSmearOf page h v smear → IsSmearOf page h v other → smear ≡ other

-- the rows of the smear from one of the page up to another, which is excluded
pub record IsBandOf (page : Page) (h v from to : ℕ) (band : Page) : Type 0 where
  pub width_is : band.width ≡ page.width
  pub height_is : band.height ≡ to - from
  pub blacks : (x y : ℕ) → y < to - from → (band.is_black x y ≡ true) ↔ IsInSmear page h v x (from + y)
