-- What is wrong with bytes that spell no page. The whole list is judged, by the grammar alone.
use Rattle.std.specs.Prelude.{◌≡◌, ◌<◌, ◌≤◌, ◌⊎◌, ℕ, ◌+◌, min, List, [], ◌∷◌, ◌++◌, length, codes, ⊤}
use Rattle.pbm_reader.specs.declared.limits.TheConstants.{MAX_HEADER, MAX_INPUT, MAX_NUMBER}
use Rattle.pbm_reader.specs.declared.fault.PageFault.{PageFault}
use Rattle.pbm_reader.specs.declared.fault.PageFault.TheVariants as faults
use Rattle.pbm_reader.specs.declared.form.Form.{Form}
use Rattle.pbm_reader.specs.declared.form.Form.TheVariants.{Plain}
use Rattle.packed_rows.specs.Page.{IsPageSize}
use Rattle.pbm_reader.specs.Spelling.{IsSomeHeader, HasHeader, IsRaster, MayFollow}

-- the bytes begin with this front
abbrev pub Begins : List ℕ → List ℕ → Type 0
Begins front bytes = (rest : List ℕ) × (bytes ≡ front ++ rest)

-- the bytes begin with the name of a form of PBM
abbrev pub HasMagic : List ℕ → Type 0
HasMagic bytes = Begins (codes "P1") bytes ⊎ Begins (codes "P4") bytes

-- the bytes begin a text of this kind, and aren't all of it
pub record IsFrontOf (IsText : List ℕ → Type 0) (bytes : List ℕ) : Type 0 where
  pub rest : List ℕ
  pub some : 0 < length rest
  pub is_text : IsText (bytes ++ rest)

-- the bytes before this offset begin a text of this kind, and with the byte at this offset they begin none
pub record StopsAt (IsText : List ℕ → Type 0) (bytes : List ℕ) (at : ℕ) : Type 0 where
  pub front : List ℕ
  pub byte : ℕ
  pub more : List ℕ
  pub whole : bytes ≡ front ++ byte ∷ more
  pub place : at ≡ length front
  pub begins : IsFrontOf IsText front
  pub wrong : (rest : List ℕ) → IsText (front ++ byte ∷ rest) → ⊥

-- the first byte is no `P` or is missing, or the second names no form of PBM or is missing
abbrev pub IsMagicFault : List ℕ → ℕ → Type 0
IsMagicFault input at = ((at ≡ 0) × (Begins (codes "P") input → ⊥)) ⊎ ((at ≡ 1) × Begins (codes "P") input × (HasMagic input → ⊥))

-- a header cannot have the byte at this offset there
pub record IsHeaderFault (input : List ℕ) (at : ℕ) : Type 0 where
  pub magic : HasMagic input
  pub low : at < MAX_HEADER
  pub stops : StopsAt IsSomeHeader input at

-- the first 65,536 bytes begin a header, aren't all of it, and a byte follows them
pub record IsHeaderTooLong (input : List ℕ) : Type 0 where
  pub front : List ℕ
  pub behind : List ℕ
  pub whole : input ≡ front ++ behind
  pub len : length front ≡ MAX_HEADER
  pub begins : IsFrontOf IsSomeHeader front
  pub more : 0 < length behind

-- the header is whole, and says that the page has these sizes
pub record HasSizes (input : List ℕ) (form : Form) (width height : ℕ) : Type 0 where
  pub header : List ℕ
  pub behind : List ℕ
  pub has_header : HasHeader input header behind form width height

-- the header is whole, and a size is 0
pub record IsZeroSize (input : List ℕ) : Type 0 where
  pub form : Form
  pub width : ℕ
  pub height : ℕ
  pub sizes : HasSizes input form width height
  pub zero : (width ≡ 0) ⊎ (height ≡ 0)

-- the header is whole, no size is 0, no page has these sizes; a size above 999,999,999 is told as 999,999,999
pub record IsTooLarge (input : List ℕ) (wide high : ℕ) : Type 0 where
  pub form : Form
  pub width : ℕ
  pub height : ℕ
  pub sizes : HasSizes input form width height
  pub some_width : 0 < width
  pub some_height : 0 < height
  pub large : IsPageSize width height → ⊥
  pub width_told : wide ≡ min width MAX_NUMBER
  pub height_told : high ≡ min height MAX_NUMBER

-- why no page has the sizes that a header told
abbrev pub IsSizeFault : ℕ → ℕ → PageFault → Type 0
IsSizeFault width height faults.ZeroSize = (width ≡ 0) ⊎ (height ≡ 0)
IsSizeFault width height (faults.TooLarge wide high) =
    (0 < width) × (0 < height) × (IsPageSize width height → ⊥) × (wide ≡ width) × (high ≡ height)
IsSizeFault width height fault = ⊥

-- the input begins with a header whose sizes a page can have, and these bytes are behind it
pub record HasPageHeader (input header behind : List ℕ) (form : Form) (width height : ℕ) : Type 0 where
  pub has_header : HasHeader input header behind form width height
  pub size : IsPageSize width height

-- the bytes are from 2 to 65,536, and begin a header
pub record EndsInHeader (input : List ℕ) : Type 0 where
  pub some : 2 ≤ length input
  pub short : length input ≤ MAX_HEADER
  pub begins : IsFrontOf IsSomeHeader input

-- the header is whole, and the bytes behind it begin its raster
pub record EndsInRaster (input : List ℕ) : Type 0 where
  pub form : Form
  pub width : ℕ
  pub height : ℕ
  pub header : List ℕ
  pub behind : List ℕ
  pub has_header : HasPageHeader input header behind form width height
  pub begins : IsFrontOf (IsRaster form width height) behind

-- the input ends at this offset, before the header or the raster is whole
pub record IsTruncated (input : List ℕ) (at : ℕ) : Type 0 where
  pub end : at ≡ length input
  pub short : at ≤ MAX_INPUT
  pub part : EndsInHeader input ⊎ EndsInRaster input

-- the raster, which is plain, cannot have the byte at this offset there
pub record IsPixelFault (input : List ℕ) (at : ℕ) : Type 0 where
  pub width : ℕ
  pub height : ℕ
  pub header : List ℕ
  pub behind : List ℕ
  pub has_header : HasPageHeader input header behind Plain width height
  pub place : ℕ
  pub stops : StopsAt (IsRaster Plain width height) behind place
  pub place_is : at ≡ length header + place
  pub low : at < MAX_INPUT

-- a header and its raster end at this offset, and here stands a byte that may not follow them
pub record IsTrailing (input : List ℕ) (at : ℕ) : Type 0 where
  pub form : Form
  pub width : ℕ
  pub height : ℕ
  pub header : List ℕ
  pub raster : List ℕ
  pub byte : ℕ
  pub more : List ℕ
  pub has_header : HasPageHeader input header (raster ++ byte ∷ more) form width height
  pub is_raster : IsRaster form width height raster
  pub refused : MayFollow form (byte ∷ []) → ⊥
  pub place_is : at ≡ length header + length raster
  pub low : at < MAX_INPUT

-- the fault's offset, if it has one, is one of an input
abbrev pub HasLowPlace : PageFault → Type 0
HasLowPlace (faults.Magic at) = at ≤ MAX_INPUT
HasLowPlace (faults.Header at) = at ≤ MAX_INPUT
HasLowPlace (faults.Truncated at) = at ≤ MAX_INPUT
HasLowPlace (faults.Pixel at) = at ≤ MAX_INPUT
HasLowPlace (faults.Trailing at) = at ≤ MAX_INPUT
HasLowPlace fault = ⊤

-- the input has this fault, which isn't its length
abbrev pub HasFaultWithin : List ℕ → PageFault → Type 0
HasFaultWithin input (faults.Magic at) = IsMagicFault input at
HasFaultWithin input (faults.Header at) = IsHeaderFault input at
HasFaultWithin input faults.HeaderTooLong = IsHeaderTooLong input
HasFaultWithin input faults.ZeroSize = IsZeroSize input
HasFaultWithin input (faults.TooLarge width height) = IsTooLarge input width height
HasFaultWithin input (faults.Truncated at) = IsTruncated input at
HasFaultWithin input (faults.Pixel at) = IsPixelFault input at
HasFaultWithin input (faults.Trailing at) = IsTrailing input at
HasFaultWithin input faults.InputTooLong = ⊥
HasFaultWithin input faults.TooManyImages = ⊥
HasFaultWithin input faults.ReadFault = ⊥
HasFaultWithin input faults.Memory = ⊥

-- the first 268,435,456 bytes decide no fault of this kind, and a byte follows them
pub record IsTooLong (Has : List ℕ → PageFault → Type 0) (input : List ℕ) : Type 0 where
  pub front : List ℕ
  pub behind : List ℕ
  pub whole : input ≡ front ++ behind
  pub len : length front ≡ MAX_INPUT
  pub more : 0 < length behind
  pub undecided : (fault : PageFault) → ((rest : List ℕ) → Has (front ++ rest) fault) → ⊥

abbrev pub IsInputTooLong : List ℕ → Type 0
IsInputTooLong input = IsTooLong HasFaultWithin input

-- the input has this fault
abbrev pub HasFault : List ℕ → PageFault → Type 0
HasFault input faults.InputTooLong = IsInputTooLong input
HasFault input fault = HasFaultWithin input fault

-- whatever follows these bytes, they have this fault
abbrev pub Decides : List ℕ → PageFault → Type 0
Decides taken fault = (rest : List ℕ) → HasFault (taken ++ rest) fault

abbrev pub DecidesNothing : List ℕ → Type 0
DecidesNothing taken = (fault : PageFault) → Decides taken fault → ⊥
