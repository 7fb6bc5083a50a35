-- What a call did that used only the bytes which were held, and read nothing.
use Rattle.std.specs.Prelude.{◌≡◌, ◌<◌, ◌⊎◌, ℕ, ◌+◌, false, List, [], ◌++◌, length, Option, Some, None, Result, Ok, Err, IfOk, IfErr, codes, ⊤}
use Rattle.pbm_reader.specs.declared.fault.PageFault.{PageFault}
use Rattle.pbm_reader.specs.declared.fault.PageFault.TheVariants as faults
use Rattle.pbm_reader.specs.declared.form.Form.{Form}
use Rattle.pbm_reader.specs.declared.form.Form.TheVariants.{Raw}
use Rattle.pbm_reader.specs.declared.header.Header.{Header}
use Rattle.pbm_reader.specs.declared.image.Image.{Image}
use Rattle.pbm_reader.specs.Feed.{FeedView}
use Rattle.pbm_reader.specs.Header.{TookHeader}
use Rattle.pbm_reader.specs.Spelling.{magic}
use Rattle.layout_outside.specs.Views.{SourceView}

-- nothing was read, and these bytes were taken of those that were held
pub record TookHeld {Own : Type 0} (old new : FeedView Own) (bytes : List ℕ) : Type 0 where
  pub same : new.own ≡ old.own
  pub took : old.unread ≡ bytes ++ new.unread

-- a source that has these bytes left
abbrev pub only : List ℕ → SourceView
only bytes = record { left = Some bytes; faults = 0; ended = false }

-- the fault stands within so many bytes, and not at their end
abbrev pub IsInside : ℕ → PageFault → Type 0
IsInside len (faults.Magic at) = at < len
IsInside len (faults.Truncated at) = ⊥
IsInside len fault = ⊤

-- nothing was read, and the fault stands within so many bytes
abbrev pub StaysInside : {Own : Type 0} → FeedView Own → FeedView Own → ℕ → PageFault → Type 0
StaysInside old new len fault = (new.own ≡ old.own) × IsInside len fault

-- the bytes are less than the name of a form
abbrev pub IsNamePart : List ℕ → Type 0
IsNamePart bytes = (bytes ≡ []) ⊎ (bytes ≡ codes "P")

-- nothing was read, and behind the name of its form a header was taken of the bytes that were held
abbrev pub TookHeldSizes : {Own : Type 0} → FeedView Own → FeedView Own → Form → Header → Type 0
TookHeldSizes old new form header = (new.own ≡ old.own) × TookHeader (only (magic form ++ old.unread)) (only new.unread) header

-- nothing was read, so many of the bytes that were held were taken, and only memory can have been refused
abbrev pub TakesHeld : {Own T : Type 0} → FeedView Own → FeedView Own → ℕ → Result T PageFault → Type 0
TakesHeld old new len result =
    (new.own ≡ old.own) × IfOk result (λ _. length old.unread ≡ len + length new.unread) × IfErr result (λ fault. fault ≡ faults.Memory)

-- nothing was read, and a fault stands within so many bytes
abbrev pub ReadsNothing : {Own T : Type 0} → FeedView Own → FeedView Own → ℕ → Result T PageFault → Type 0
ReadsNothing old new len result = (new.own ≡ old.own) × IfErr result (λ fault. IsInside len fault)

-- the answer is a raw image, or a fault that stands within so many bytes
abbrev pub IsOfHeld : ℕ → Result (Option Image) PageFault → Type 0
IsOfHeld len (Ok (Some image)) = image.form ≡ Raw
IsOfHeld len (Ok None) = ⊥
IsOfHeld len (Err fault) = IsInside len fault
