-- The blocks of a page: the kept components of its run-length smear.
use Rattle.std.specs.Prelude.{◌≡◌, ◌<◌, ◌≤◌, ◌*◌, ⊤, Bool, true, false, ℕ, List, [], length, min}
use Rattle.packed_rows.specs.Page.{Page, page_with}
use Rattle.layout_geom.specs.declared.rect.Rect.{Rect}
use Rattle.components.specs.declared.kept.TheConstants.{MAX_KEPT}
use Rattle.components.specs.Kept.{IsKeptList, IsKeptCount}
use Rattle.run_smear.specs.Smear.{IsSmearOf}
use Rattle.layout_core.specs.declared.page_layout.CoreFault.{CoreFault}
use Rattle.layout_core.specs.declared.page_layout.CoreFault.TheVariants as core
use Rattle.layout_core.specs.declared.blocks.TheConstants.{MAX_STRETCH, COLUMNS_IN_MEDIANS, ROWS_IN_MEDIANS}

-- The smear of a page whose kept components have this median height: stretches of so many medians are filled, and no place outside of
-- the page counts.
abbrev pub IsBlockSmear : Page → ℕ → Page → Type 0
IsBlockSmear page median smear =
    IsSmearOf (page_with page.width page.height page.is_black)
    (min MAX_STRETCH (COLUMNS_IN_MEDIANS * median)) (min MAX_STRETCH (ROWS_IN_MEDIANS * median)) smear

-- They are the boxes of the kept components of the smear, at most 60,000.
pub record AreBlocksOf (page : Page) (median : ℕ) (blocks : List Rect) : Type 0 where
  pub smear : Page
  pub is_smear : IsBlockSmear page median smear
  pub are_kept : IsKeptList smear blocks
  pub few : length blocks ≤ MAX_KEPT

-- Why a page has no blocks: they are shown, and the smear has so many kept components, which are too many; or memory was refused.
abbrev pub IsBlockFault : Bool → Page → ℕ → CoreFault → Type 0
IsBlockFault shown page median (core.TooMany count) = (shown ≡ true) × (smear : Page) × IsBlockSmear page median smear × IsKeptCount smear count × (MAX_KEPT < count)
IsBlockFault shown page median core.Memory = ⊤

-- The blocks of the page where they are shown, and none where they are not.
abbrev pub AreShownBlocks : Bool → Page → ℕ → List Rect → Type 0
AreShownBlocks true page median blocks = AreBlocksOf page median blocks
AreShownBlocks false page median blocks = blocks ≡ []
