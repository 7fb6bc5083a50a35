-- Reading the rows of a page.
use Rattle.std.specs.Prelude.{◌≡◌, ◌<◌, ◌≤◌, ℕ, ◌+◌, List, [], ◌∷◌, ◌++◌, length, ⊤}
use Rattle.pbm_reader.specs.declared.limits.TheConstants.{MAX_INPUT}
use Rattle.pbm_reader.specs.declared.fault.PageFault.{PageFault}
use Rattle.pbm_reader.specs.declared.fault.PageFault.TheVariants as faults
use Rattle.pbm_reader.specs.declared.form.Form.{Form}
use Rattle.pbm_reader.specs.declared.form.Form.TheVariants.{Plain, Raw}
use Rattle.packed_rows.specs.Page.{Page, row_len, IsCleared}
use Rattle.pbm_reader.specs.Spelling.{IsRaster, SpellsRows}
use Rattle.pbm_reader.specs.Fault.{IsFrontOf}
use Rattle.pbm_reader.specs.Plain.{PixelsFail, TookRow}
use Rattle.pbm_reader.specs.Given.{AfterRows, IsGivenTop, StandsBehind}
use Rattle.layout_outside.specs.Taken.{Took, TookAll}
use Rattle.layout_outside.specs.Views.{SourceView}

-- a row was taken in the raw form, and its padding bits were cleared
pub record TookCleared (old new : SourceView) (width : ℕ) (bits : List ℕ) : Type 0 where
  pub bytes : List ℕ
  pub took : Took old new bytes
  pub len : length bytes ≡ row_len width
  pub cleared : IsCleared width bytes bits

-- a row was taken in this form, from one offset to another
abbrev pub TookRowIn : Form → SourceView → SourceView → ℕ → ℕ → ℕ → List ℕ → Type 0
TookRowIn Plain old new start end width bits = TookRow old new start end width bits
TookRowIn Raw old new start end width bits = TookCleared old new width bits × (end ≡ start + row_len width)

-- a row was taken, and the sink was given it
pub record TakesRow {Sink : Type 0} (given : Sink → List ℕ → Sink → Type 0) (form : Form) (old new : SourceView) (start end width : ℕ)
    (before after : Sink) : Type 0 where
  pub bits : List ℕ
  pub row : TookRowIn form old new start end width bits
  pub gives : given before bits after

-- why fewer bytes than this length were read, from this offset on
abbrev pub BytesFail : SourceView → SourceView → ℕ → ℕ → PageFault → Type 0
BytesFail old new at len (faults.Truncated end) = (part : List ℕ) × TookAll old new part × (length part < len) × (end ≡ at + length part)
BytesFail old new at len faults.ReadFault = (part : List ℕ) × Took old new part × (length part < len)
BytesFail old new at len faults.Memory = (part : List ℕ) × Took old new part
BytesFail old new at len fault = ⊥

-- why a row was not taken in this form, from this offset on
abbrev pub RowFails : Form → SourceView → SourceView → ℕ → ℕ → PageFault → Type 0
RowFails Plain old new start width fault = PixelsFail old new start width fault
RowFails Raw old new start width fault = BytesFail old new start (row_len width) fault

-- the raster of a page was taken, up to this offset, and the sink was given its rows
pub record TookRaster {Sink : Type 0} (given : Sink → List ℕ → Sink → Type 0) (old new : SourceView)
    (form : Form) (width height start end : ℕ) (before after : Sink) : Type 0 where
  pub raster : List ℕ
  pub page : Page
  pub took : Took old new raster
  pub width_is : page.width ≡ width
  pub height_is : page.height ≡ height
  pub rows : SpellsRows form page raster
  pub gives : AfterRows given page height before after
  pub end_is : end ≡ start + length raster
  pub low : end ≤ MAX_INPUT

-- why a raster was not read, from this offset on
abbrev pub RasterFails : SourceView → SourceView → Form → ℕ → ℕ → ℕ → PageFault → Type 0
RasterFails old new form width height start (faults.Truncated end) =
    (part : List ℕ) × TookAll old new part × IsFrontOf (IsRaster form width height) part × (end ≡ start + length part) × (end ≤ MAX_INPUT)
RasterFails old new form width height start (faults.Pixel at) =
    (part : List ℕ) × (byte : ℕ) × Took old new (part ++ byte ∷ []) × (form ≡ Plain) × IsFrontOf (IsRaster form width height) part
    × ((rest : List ℕ) → IsRaster form width height (part ++ byte ∷ rest) → ⊥) × (at ≡ start + length part) × (at < MAX_INPUT)
RasterFails old new form width height start faults.InputTooLong =
    (part : List ℕ) × (byte : ℕ) × Took old new (part ++ byte ∷ []) × IsFrontOf (IsRaster form width height) part
    × (start + length part ≡ MAX_INPUT)
RasterFails old new form width height start faults.ReadFault =
    (part : List ℕ) × Took old new part × IsFrontOf (IsRaster form width height) part × (start + length part ≤ MAX_INPUT)
RasterFails old new form width height start faults.Memory = ⊤
RasterFails old new form width height start fault = ⊥

-- the sink was given top rows of a page of this size, which the bytes that were taken from this offset on spell whole, and the fault
-- stands behind them
pub record GivenTopRows {Sink : Type 0} (given : Sink → List ℕ → Sink → Type 0) (unchanged : Sink → Sink → Type 0)
    (form : Form) (width height start : ℕ) (old new : SourceView) (before after : Sink) (fault : PageFault) : Type 0 where
  pub page : Page
  pub raster : List ℕ
  pub rest : List ℕ
  pub took : Took old new (raster ++ rest)
  pub place : StandsBehind (start + length raster) fault
  pub width_is : page.width ≡ width
  pub height_is : page.height ≡ height
  pub top : IsGivenTop given unchanged form page raster before after
