-- A reader of several images in one input, and what its calls do.
use Rattle.std.specs.Prelude.{◌≡◌, ◌≤◌, ◌<◌, ◌⊎◌, ℕ, ◌+◌, Bool, true, false, List, [], ◌∷◌, ◌++◌, length, Option, Some, None, Result, Ok, Err, IfSome, IfNone, IfOk, IfErr, codes, ⊤, ◌-◌}
use Rattle.std.specs.Io.KnownBytes.{prepend_known, IsAtEnd}
use Rattle.pbm_reader.specs.declared.limits.TheConstants.{MAX_IMAGES, MAX_INPUT}
use Rattle.pbm_reader.specs.declared.fault.Size.{Size}
use Rattle.pbm_reader.specs.declared.fault.PageFault.{PageFault}
use Rattle.pbm_reader.specs.declared.fault.PageFault.TheVariants as faults
use Rattle.pbm_reader.specs.declared.form.Form.{Form}
use Rattle.pbm_reader.specs.declared.form.Form.TheVariants.{Plain, Raw}
use Rattle.pbm_reader.specs.declared.image.Image.{Image}
use Rattle.packed_rows.specs.Page.{Page}
use Rattle.pbm_reader.specs.Fault.{Begins, HasFaultWithin, HasLowPlace}
use Rattle.pbm_reader.specs.Images.{SpellsIn, AreImages, AreUndecided, BeginsImage, HasPagesFault, behind_bytes}
use Rattle.pbm_reader.specs.Given.{AfterFault, AfterPage}
use Rattle.pbm_reader.specs.Feed.{PieceView, is_limited, unseen, whole, with_unread}
use Rattle.layout_outside.specs.Views.{SourceView}
use Rattle.layout_outside.specs.Taken.{HasEnded, Took, TookAll}

-- ---- the machine of one image

-- an image was taken, its last byte and, where it is plain, the input to its end, and the sink was given its page
pub record TookImage {Sink : Type 0} (begun : Sink → ℕ → ℕ → Sink → Type 0) (given : Sink → List ℕ → Sink → Type 0)
    (old new : SourceView) (before after : Sink) (image : Image) : Type 0 where
  pub bytes : List ℕ
  pub page : Page
  pub took : Took old new bytes
  pub spells : SpellsIn image.form bytes page
  pub len : image.len ≡ length bytes
  pub width_is : page.width ≡ image.size.width
  pub height_is : page.height ≡ image.size.height
  pub sink : AfterPage begun given page before after
  pub ended : image.form ≡ Plain → HasEnded new

-- behind an image no plain one may stand
abbrev pub MayBe : Bool → Form → Type 0
MayBe is_first form = form ≡ Plain → is_first ≡ true

-- the bytes may begin an image, whatever is wrong with them
abbrev pub MayBegin : Bool → List ℕ → Type 0
MayBegin is_first bytes = is_first ≡ false → Begins (codes "P1") bytes → ⊥

-- the bytes are no image, and this is their fault
abbrev pub IsOwnFault : Bool → List ℕ → PageFault → Type 0
IsOwnFault is_first bytes fault =
    ((is_first ≡ false) × Begins (codes "P1") bytes × (fault ≡ faults.Magic 1))
    ⊎ (HasFaultWithin bytes fault × (BeginsImage bytes → ⊥) × MayBegin is_first bytes × (is_first ≡ false → 0 < length bytes))

-- the fault stands at this end of the input
abbrev pub IsAtPlace : ℕ → PageFault → Type 0
IsAtPlace place (faults.Truncated at) = at ≡ place
IsAtPlace place (faults.Magic at) = at ≡ place
IsAtPlace place fault = ⊥

-- the bytes have this fault, and where it stands at their end, the source has answered it
pub record FailsOn (is_first : Bool) (new : SourceView) (fault : PageFault) (bytes : List ℕ) : Type 0 where
  pub own : IsOwnFault is_first bytes fault
  pub ended : IsAtPlace (length bytes) fault → HasEnded new

-- why an image was not read
abbrev pub ImageFails : Bool → SourceView → SourceView → PageFault → Type 0
ImageFails is_first old new faults.ReadFault = (taken : List ℕ) × Took old new taken × AreUndecided taken × MayBegin is_first taken
ImageFails is_first old new faults.Memory = ⊤
ImageFails is_first old new faults.InputTooLong = IfSome old.left (λ bytes. MAX_INPUT < length bytes)
ImageFails is_first old new fault = IfSome old.left (λ bytes. FailsOn is_first new fault bytes)

-- ---- the reader

-- A reader: how many bytes it has judged and how many whole images it gave, the bytes that it holds unjudged, whether it is open, whether
-- `byte` was called before, and whether a source has answered its end.
pub record ImagesView : Type 0 where
  pub judged : ℕ
  pub count : ℕ
  pub held : List ℕ
  pub is_open : Bool
  pub gave_byte : Bool
  pub has_ended : Bool

-- what comes next, where the source tells its bytes: the bytes that are held, and what the source has left
abbrev pub coming : ImagesView → SourceView → Option (List ℕ)
coming reader source = prepend_known reader.held source.left

-- the bytes are so many raw images, and so many bytes
pub record WereImages (count len : ℕ) (images : List ℕ) : Type 0 where
  pub pages : List Page
  pub are_images : AreImages pages images
  pub count_is : length pages ≡ count
  pub len_is : length images ≡ len

-- a raw image comes next, within the limits of an input
pub record IsNextImage (count len : ℕ) (bytes : List ℕ) : Type 0 where
  pub fewer : count < MAX_IMAGES
  pub begins : BeginsImage bytes
  pub low : len + length begins.image ≤ MAX_INPUT

-- behind so many images no image comes next, and an input of them and these bytes has this fault
pub record IsNextFault (count len : ℕ) (bytes : List ℕ) (fault : PageFault) : Type 0 where
  pub none : IsNextImage count len bytes → ⊥
  pub is_fault : (images : List ℕ) → WereImages count len images → HasPagesFault (images ++ bytes) fault

-- whatever follows these bytes behind so many images, an input of them has no fault in common
abbrev pub DecidesNoFault : ℕ → ℕ → List ℕ → Type 0
DecidesNoFault count len taken =
    (images : List ℕ) → WereImages count len images → (fault : PageFault)
    → ((rest : List ℕ) → HasPagesFault (images ++ (taken ++ rest)) fault) → ⊥

-- an input of so many images and these bytes has one fault, whatever follows
pub record DecidesFault (count len : ℕ) (bytes : List ℕ) : Type 0 where
  pub images : List ℕ
  pub were : WereImages count len images
  pub fault : PageFault
  pub has_fault : (rest : List ℕ) → HasPagesFault (images ++ (bytes ++ rest)) fault

-- the bytes behind so many images begin with the next one whole, or decide a fault
abbrev pub SettlesNext : ℕ → ℕ → List ℕ → Type 0
SettlesNext count len bytes = IsNextImage count len bytes ⊎ DecidesFault count len bytes

abbrev pub is_plain : Form → Bool
is_plain Plain = true
is_plain Raw = false

-- an image was taken of what came, its last byte and no more, and is judged and counted; the sink was given its page. A plain one stands
-- alone, and is taken to the end of the input. A caller that keeps the images so far, as the fact `WereImages` with their pages, has it of
-- one image more by `more` where that is raw, and by `first` has kept none where it is plain.
pub record GivesImage {Sink : Type 0} (begun : Sink → ℕ → ℕ → Sink → Type 0) (given : Sink → List ℕ → Sink → Type 0)
    (old new : ImagesView) (source later : SourceView) (before after : Sink) (size : Size) : Type 0 where
  pub form : Form
  pub image : List ℕ
  pub page : Page
  pub took : coming old source ≡ prepend_known image (coming new later)
  pub spells : SpellsIn form image page
  pub width_is : page.width ≡ size.width
  pub height_is : page.height ≡ size.height
  pub sink : AfterPage begun given page before after
  pub judged_is : new.judged ≡ old.judged + length image
  pub low : new.judged ≤ MAX_INPUT
  pub count_is : new.count ≡ old.count + 1
  pub few : new.count ≤ MAX_IMAGES
  pub alone : form ≡ Plain → old.count ≡ 0
  pub all : form ≡ Plain → IsAtEnd (coming new later)
  pub ended : new.has_ended ≡ is_plain form
  pub more : form ≡ Raw → (images : List ℕ) → (were : WereImages old.count old.judged images)
      → (now : WereImages new.count new.judged (images ++ image)) × (now.pages ≡ were.pages ++ page ∷ [])
  pub first : form ≡ Plain → (images : List ℕ) → WereImages old.count old.judged images → images ≡ []

-- nothing comes next behind an image, nothing is taken of it, and the source has answered its end
pub record EndsBehind (old new : ImagesView) (source later : SourceView) : Type 0 where
  pub some : 0 < old.count
  pub nothing : IsAtEnd (coming old source)
  pub took : coming old source ≡ coming new later
  pub ended : new.has_ended ≡ true

-- where the source has answered its end, in this call or before it, nothing is left
pub record TellsEnd (old new : ImagesView) (later : SourceView) : Type 0 where
  pub nothing : new.has_ended ≡ true → IsAtEnd later.left
  pub answered : new.has_ended ≡ true → old.has_ended ≡ false → later.ended ≡ true

-- why no image was given: what comes has this fault behind the images before it; or a read failed, and the bytes taken begin no whole
-- image and decide no fault, and nothing is held
abbrev pub RefusesNext : ImagesView → ImagesView → SourceView → SourceView → PageFault → Type 0
RefusesNext old new source later faults.ReadFault =
    (taken : List ℕ) × (coming old source ≡ prepend_known taken (coming new later)) × DecidesNoFault old.count old.judged taken
    × (IsNextImage old.count old.judged taken → ⊥) × (new.held ≡ [])
RefusesNext old new source later faults.Memory = ⊤
RefusesNext old new source later fault = IfSome (coming old source) (λ bytes. IsNextFault old.count old.judged bytes fault)

-- what comes, behind what is held
abbrev pub behind_held : ImagesView → SourceView → SourceView
behind_held reader source = with_unread reader.held source

-- the sink after a fault: it was given nothing, or top rows that the bytes before the fault spell whole, whose own offset counts from the
-- front of what comes
abbrev pub AfterNextFault : {Sink : Type 0} → (Sink → ℕ → ℕ → Sink → Type 0) → (Sink → List ℕ → Sink → Type 0) → (Sink → Sink → Type 0)
    → ImagesView → ImagesView → SourceView → SourceView → Sink → Sink → PageFault → Type 0
AfterNextFault begun given unchanged old new source later before after fault =
    (own : PageFault) × (fault ≡ behind_bytes old.judged own)
    × AfterFault begun given unchanged (behind_held old source) (behind_held new later) before after own

-- nothing is another but what is held, and whether the end was answered
pub record HasSamePlace (old new : ImagesView) : Type 0 where
  pub judged : new.judged ≡ old.judged
  pub count : new.count ≡ old.count
  pub is_open : new.is_open ≡ old.is_open
  pub gave_byte : new.gave_byte ≡ old.gave_byte

-- where an image comes next it is given, or memory was refused
abbrev pub IsGivenUnlessMemory : {T : Type 0} → Result (Option T) PageFault → Type 0
IsGivenUnlessMemory (Ok (Some item)) = ⊤
IsGivenUnlessMemory (Ok None) = ⊥
IsGivenUnlessMemory (Err fault) = fault ≡ faults.Memory

-- the answer is an image
abbrev pub is_given : {T : Type 0} → Result (Option T) PageFault → Bool
is_given (Ok (Some item)) = true
is_given (Ok None) = false
is_given (Err fault) = false

-- these bytes were taken of what came, and are judged
pub record Judges (old new : ImagesView) (source later : SourceView) (bytes : List ℕ) : Type 0 where
  pub took : coming old source ≡ prepend_known bytes (coming new later)
  pub judged_is : new.judged ≡ old.judged + length bytes
  pub low : new.judged ≤ MAX_INPUT

-- why `byte` gave none: it stands at the limit, or a read failed
abbrev pub RefusesByte : ImagesView → ImagesView → SourceView → SourceView → PageFault → Type 0
RefusesByte old new source later faults.InputTooLong = (old.judged ≡ MAX_INPUT) × IfSome (coming old source) (λ bytes. 0 < length bytes)
RefusesByte old new source later faults.ReadFault = coming old source ≡ coming new later
RefusesByte old new source later fault = ⊥

-- ---- reading within the limit of an input

-- the answer stands at the end of what may be read, so many bytes, and would be another if the input went on
abbrev pub StandsAtEnd : ℕ → Result (Option Image) PageFault → Type 0
StandsAtEnd left (Ok None) = ⊤
StandsAtEnd left (Ok (Some image)) = image.form ≡ Plain
StandsAtEnd left (Err fault) = IsAtPlace left fault

-- the answer, with the offset of its fault counted from so many bytes further to the front
abbrev pub counted_from : ℕ → Result (Option Image) PageFault → Result (Option Image) PageFault
counted_from len (Ok read) = Ok read
counted_from len (Err fault) = Err (behind_bytes len fault)

-- An image was read of a piece and its source, or not, within so many bytes. Behind an image that many bytes have what is unread too; behind
-- another answer nothing is unread.
pub record ReadsWithin {Sink : Type 0} (begun : Sink → ℕ → ℕ → Sink → Type 0) (given : Sink → List ℕ → Sink → Type 0)
    (unchanged : Sink → Sink → Type 0) (is_first : Bool) (left : ℕ) (old new : PieceView) (source later : SourceView) (before after : Sink)
    (result : Result (Option Image) PageFault) : Type 0 where
  pub first : PieceView
  pub last : PieceView
  pub unread : first.unread ≡ old.unread
  pub limit : first.room ≡ Some (left - length old.unread)
  pub limited : is_limited last.room ≡ is_limited first.room
  pub unseen_is : unseen last.room later ≡ unseen first.room source
  pub room : new.room ≡ last.room
  pub image : IfOk result (λ read. IfSome read (λ image. MayBe is_first image.form
      × TookImage begun given (whole first source) (whole last later) before after image
      × (image.len + length new.unread ≤ left) × (new.unread ≡ last.unread)))
  pub end : IfOk result (λ read. IfNone read (TookAll (whole first source) (whole last later) []
      × (is_first ≡ false) × (after ≡ before) × (new.unread ≡ [])))
  pub fault : IfErr result (λ fault. ImageFails is_first (whole first source) (whole last later) fault × (new.unread ≡ [])
      × AfterFault begun given unchanged (whole first source) (whole last later) before after fault
      × HasLowPlace fault × (fault ≡ faults.ReadFault → last.unread ≡ []))

-- an image was taken of what came, and what is held behind it stands within the limit; the sink was given its page
pub record TakesImage {Sink : Type 0} (begun : Sink → ℕ → ℕ → Sink → Type 0) (given : Sink → List ℕ → Sink → Type 0)
    (old new : ImagesView) (source later : SourceView) (before after : Sink) (image : Image) : Type 0 where
  pub bytes : List ℕ
  pub page : Page
  pub took : coming old source ≡ prepend_known bytes (coming new later)
  pub spells : SpellsIn image.form bytes page
  pub len : image.len ≡ length bytes
  pub width_is : page.width ≡ image.size.width
  pub height_is : page.height ≡ image.size.height
  pub sink : AfterPage begun given page before after
  pub low : old.judged + image.len + length new.held ≤ MAX_INPUT
  pub alone : image.form ≡ Plain → old.count ≡ 0
  pub ended : image.form ≡ Plain → (new.held ≡ []) × HasEnded later

-- nothing comes next, nothing is held, and the source answered its end
pub record EndsHere (old new : ImagesView) (source later : SourceView) : Type 0 where
  pub nothing : IsAtEnd (coming old source)
  pub took : coming old source ≡ coming new later
  pub none : new.held ≡ []
  pub ended : HasEnded later
