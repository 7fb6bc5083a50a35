-- What bytes spell a list of pages, and what is wrong with bytes that spell none.
use Rattle.std.specs.Prelude.{◌≡◌, ◌≤◌, ◌<◌, ◌⊎◌, ℕ, ◌+◌, List, [], ◌∷◌, ◌++◌, length, codes}
use Rattle.pbm_reader.specs.declared.limits.TheConstants.{MAX_IMAGES, MAX_INPUT}
use Rattle.pbm_reader.specs.declared.fault.PageFault.{PageFault}
use Rattle.pbm_reader.specs.declared.fault.PageFault.TheVariants as faults
use Rattle.pbm_reader.specs.declared.form.Form.{Form}
use Rattle.pbm_reader.specs.declared.form.Form.TheVariants.{Plain, Raw}
use Rattle.packed_rows.specs.Page.{Page}
use Rattle.pbm_reader.specs.Spelling.{Spells}
use Rattle.pbm_reader.specs.Fault.{Begins, DecidesNothing, HasFaultWithin, IsTooLong}

-- the bytes spell the page in this form
abbrev pub SpellsIn : Form → List ℕ → Page → Type 0
SpellsIn form bytes page = (s : Spells bytes page) × (s.form ≡ form)

-- the bytes are raw images of these pages, one behind the other
abbrev pub AreImages : List Page → List ℕ → Type 0
AreImages [] bytes = bytes ≡ []
AreImages (page ∷ pages) bytes =
    (image : List ℕ) × (rest : List ℕ) × (bytes ≡ image ++ rest) × SpellsIn Raw image page × AreImages pages rest

-- one to 256 raw images, one behind the other, of 268,435,456 bytes at most
pub record SpellsImages (bytes : List ℕ) (pages : List Page) : Type 0 where
  pub some : 0 < length pages
  pub few : length pages ≤ MAX_IMAGES
  pub images : AreImages pages bytes
  pub short : length bytes ≤ MAX_INPUT

-- the bytes spell these pages: one in the plain form, or raw images
abbrev pub SpellsPages : List ℕ → List Page → Type 0
SpellsPages bytes pages = ((page : Page) × (pages ≡ page ∷ []) × SpellsIn Plain bytes page) ⊎ SpellsImages bytes pages

-- the bytes spell some list of pages
abbrev pub ArePages : List ℕ → Type 0
ArePages bytes = (pages : List Page) × SpellsPages bytes pages

-- a raw image stands at the front of the bytes
pub record BeginsImage (bytes : List ℕ) : Type 0 where
  pub page : Page
  pub image : List ℕ
  pub rest : List ℕ
  pub whole : bytes ≡ image ++ rest
  pub is_image : SpellsIn Raw image page

-- the bytes begin no raw image that is whole, and decide no fault of one page
abbrev pub AreUndecided : List ℕ → Type 0
AreUndecided bytes = DecidesNothing bytes × (BeginsImage bytes → ⊥)

-- the raw images at the front of the input, as many as there are and 256 at most, and the bytes behind them
pub record FrontImages (input : List ℕ) (pages : List Page) (images behind : List ℕ) : Type 0 where
  pub whole : input ≡ images ++ behind
  pub are_images : AreImages pages images
  pub few : length pages ≤ MAX_IMAGES
  pub most : length pages < MAX_IMAGES → BeginsImage behind → ⊥

-- the fault, with its offset counted from so many bytes further to the front
abbrev pub behind_bytes : ℕ → PageFault → PageFault
behind_bytes len (faults.Magic at) = faults.Magic (len + at)
behind_bytes len (faults.Header at) = faults.Header (len + at)
behind_bytes len (faults.Truncated at) = faults.Truncated (len + at)
behind_bytes len (faults.Pixel at) = faults.Pixel (len + at)
behind_bytes len (faults.Trailing at) = faults.Trailing (len + at)
behind_bytes len fault = fault

-- the fault of bytes that stand behind an image: that of their one page, and a page in the plain form may not stand here
abbrev pub IsImageFault : List ℕ → PageFault → Type 0
IsImageFault bytes fault =
    (Begins (codes "P1") bytes × (fault ≡ faults.Magic 1)) ⊎ ((Begins (codes "P1") bytes → ⊥) × HasFaultWithin bytes fault)

-- some bytes stand behind one to 255 images that end at this offset, and this is their fault
pub record IsFaultBehind (count len : ℕ) (bytes : List ℕ) (fault : PageFault) : Type 0 where
  pub some : 0 < count
  pub fewer : count < MAX_IMAGES
  pub more : 0 < length bytes
  pub own : PageFault
  pub is_own : IsImageFault bytes own
  pub fault_is : fault ≡ behind_bytes len own

-- a byte stands behind 256 images
abbrev pub IsTooMany : ℕ → List ℕ → PageFault → Type 0
IsTooMany count bytes fault = (count ≡ MAX_IMAGES) × (0 < length bytes) × (fault ≡ faults.TooManyImages)

-- the fault of the bytes behind so many images that end at this offset; it isn't their length
abbrev pub HasFaultAfter : ℕ → ℕ → List ℕ → PageFault → Type 0
HasFaultAfter count len bytes fault =
    ((count ≡ 0) × HasFaultWithin bytes fault) ⊎ IsFaultBehind count len bytes fault ⊎ IsTooMany count bytes fault

-- the fault of the bytes behind the images at the front of the input
pub record HasImagesFault (input : List ℕ) (fault : PageFault) : Type 0 where
  pub pages : List Page
  pub images : List ℕ
  pub behind : List ℕ
  pub front : FrontImages input pages images behind
  pub is_fault : HasFaultAfter (length pages) (length images) behind fault

-- the first 268,435,456 bytes decide none of these faults, and a byte follows them
abbrev pub ArePagesTooLong : List ℕ → Type 0
ArePagesTooLong input = IsTooLong HasImagesFault input

-- what is wrong with an input that is to spell a list of pages: its length, or where it is not too long what stands behind its images
abbrev pub HasPagesFault : List ℕ → PageFault → Type 0
HasPagesFault input fault =
    ((fault ≡ faults.InputTooLong) × ArePagesTooLong input) ⊎ (HasImagesFault input fault × (ArePagesTooLong input → ⊥))
