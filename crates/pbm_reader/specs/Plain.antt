-- Reading the pixels of a plain raster.
use Rattle.std.specs.Prelude.{◌≡◌, ◌<◌, ◌≤◌, ℕ, ◌+◌, Bool, true, false, not}
use Rattle.std.specs.Prelude.{◌==◌, List, [], ◌∷◌, ◌++◌, length, slice_index, if◌then◌else◌}
use Rattle.pbm_reader.specs.declared.limits.TheConstants.{MAX_INPUT}
use Rattle.pbm_reader.specs.declared.fault.PageFault.{PageFault}
use Rattle.pbm_reader.specs.declared.fault.PageFault.TheVariants as faults
use Rattle.pbm_reader.specs.declared.plain.PixelStep.{PixelStep}
use Rattle.pbm_reader.specs.declared.plain.PixelStep.TheVariants.{Blank, Found, Wrong}
use Rattle.packed_rows.specs.Page.{pixel, row_len}
use Rattle.pbm_reader.specs.Spelling.{is_white, is_line_end, AreInLine, IsBlank, SpellsPixels}
use Rattle.layout_outside.specs.Taken.{Took, TookAll}
use Rattle.layout_outside.specs.Views.{SourceView}

-- what one more byte makes of what stands before a pixel
abbrev pub pixel_step : Bool → ℕ → PixelStep
pixel_step true byte = Blank (not (is_line_end byte))
pixel_step false byte =
    if byte == 48 then Found false else if byte == 49 then Found true else if byte == 35 then Blank true
    else if is_white byte then Blank false else Wrong

-- white bytes and comments, the last of which has only begun where this says so
abbrev pub IsBlankPart : Bool → List ℕ → Type 0
IsBlankPart false bytes = IsBlank bytes
IsBlankPart true bytes = (blank : List ℕ) × (text : List ℕ) × (bytes ≡ blank ++ 35 ∷ text) × IsBlank blank × AreInLine text

-- the number of a pixel: 1 is black
abbrev pub bit_of : Bool → ℕ
bit_of is_black = if is_black then 1 else 0

-- the characters of these pixels were taken, from one offset to another
pub record TookPixels (old new : SourceView) (start end : ℕ) (pixels : List ℕ) : Type 0 where
  pub bytes : List ℕ
  pub took : Took old new bytes
  pub spelled : SpellsPixels pixels bytes
  pub end_is : end ≡ start + length bytes
  pub low : end ≤ MAX_INPUT

-- the bytes are fewer pixels than this, and a part of what stands before the next
pub record PixelsBegun (count : ℕ) (in_comment : Bool) (bytes : List ℕ) : Type 0 where
  pub pixels : List ℕ
  pub text : List ℕ
  pub part : List ℕ
  pub whole : bytes ≡ text ++ part
  pub spelled : SpellsPixels pixels text
  pub fewer : length pixels < count
  pub part_is : IsBlankPart in_comment part

-- why fewer pixels than this were read, from this offset on
abbrev pub PixelsFail : SourceView → SourceView → ℕ → ℕ → PageFault → Type 0
PixelsFail old new start count (faults.Truncated end) =
    (in_comment : Bool) × (bytes : List ℕ) × TookAll old new bytes × PixelsBegun count in_comment bytes × (end ≡ start + length bytes)
    × (end ≤ MAX_INPUT)
PixelsFail old new start count (faults.Pixel at) =
    (bytes : List ℕ) × (byte : ℕ) × Took old new (bytes ++ byte ∷ []) × PixelsBegun count false bytes × (pixel_step false byte ≡ Wrong)
    × (at ≡ start + length bytes) × (at < MAX_INPUT)
PixelsFail old new start count faults.InputTooLong =
    (in_comment : Bool) × (bytes : List ℕ) × (byte : ℕ) × Took old new (bytes ++ byte ∷ []) × PixelsBegun count in_comment bytes
    × (start + length bytes ≡ MAX_INPUT)
PixelsFail old new start count faults.ReadFault =
    (in_comment : Bool) × (bytes : List ℕ) × Took old new bytes × PixelsBegun count in_comment bytes × (start + length bytes ≤ MAX_INPUT)
PixelsFail old new start count faults.Memory = (bytes : List ℕ) × Took old new bytes
PixelsFail old new start count fault = ⊥

-- the packed bytes have these pixels, and then only white ones
pub record ArePacked (width : ℕ) (pixels bits : List ℕ) : Type 0 where
  pub len : length bits ≡ row_len width
  pub pixels_are : (x : ℕ) → pixel bits x ≡ slice_index pixels x

-- a row of pixels was taken, and packed
pub record TookRow (old new : SourceView) (start end width : ℕ) (bits : List ℕ) : Type 0 where
  pub pixels : List ℕ
  pub took : TookPixels old new start end pixels
  pub count : length pixels ≡ width
  pub packed : ArePacked width pixels bits
