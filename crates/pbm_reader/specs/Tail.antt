-- Reading what stands behind a raster.
use Rattle.std.specs.Prelude.{◌≡◌, ◌<◌, ◌≤◌, ℕ, ◌+◌, List, [], ◌∷◌, ◌++◌, length}
use Rattle.pbm_reader.specs.declared.limits.TheConstants.{MAX_INPUT}
use Rattle.pbm_reader.specs.declared.fault.PageFault.{PageFault}
use Rattle.pbm_reader.specs.declared.fault.PageFault.TheVariants as faults
use Rattle.pbm_reader.specs.declared.form.Form.{Form}
use Rattle.pbm_reader.specs.declared.form.Form.TheVariants.{Plain}
use Rattle.pbm_reader.specs.Spelling.{MayFollow}
use Rattle.layout_outside.specs.Taken.{HasEnded, Took, TookAll}
use Rattle.layout_outside.specs.Views.{SourceView}

-- all that was left was taken, from one offset to another, and it is within the limit
pub record TookRest (old new : SourceView) (start end : ℕ) : Type 0 where
  pub bytes : List ℕ
  pub took : TookAll old new bytes
  pub end_is : end ≡ start + length bytes
  pub low : start + length bytes ≤ MAX_INPUT

-- why what was left was not read to its end, from this offset on
abbrev pub RestFails : SourceView → SourceView → ℕ → PageFault → Type 0
RestFails old new start faults.InputTooLong = (bytes : List ℕ) × Took old new bytes × (MAX_INPUT < start + length bytes)
RestFails old new start faults.ReadFault = (bytes : List ℕ) × Took old new bytes × (start + length bytes ≤ MAX_INPUT)
RestFails old new start fault = ⊥

-- the bytes behind a raster, from this offset on, go past the limit, and none within it is refused
abbrev pub GoesPast : Form → ℕ → List ℕ → Type 0
GoesPast form start tail =
    (front : List ℕ) × (behind : List ℕ) × (tail ≡ front ++ behind) × MayFollow form front × (start + length front ≡ MAX_INPUT)
    × (0 < length behind)

-- what may follow a raster was taken, from one offset to another, and it was all that was left
pub record TookTail (old new : SourceView) (form : Form) (start end : ℕ) : Type 0 where
  pub tail : List ℕ
  pub took : TookAll old new tail
  pub follows : MayFollow form tail
  pub end_is : end ≡ start + length tail
  pub low : start + length tail ≤ MAX_INPUT

-- why what stands behind a raster, from this offset on, was not read to its end
abbrev pub TailFails : SourceView → SourceView → Form → ℕ → PageFault → Type 0
TailFails old new form start (faults.Trailing at) =
    (byte : ℕ) × Took old new (byte ∷ []) × (MayFollow form (byte ∷ []) → ⊥) × (at ≡ start) × (at < MAX_INPUT)
TailFails old new form start faults.InputTooLong = (tail : List ℕ) × Took old new tail × GoesPast form start tail
TailFails old new form start faults.ReadFault = (tail : List ℕ) × Took old new tail × MayFollow form tail
    × (start + length tail ≤ MAX_INPUT)
TailFails old new form start fault = ⊥

-- what belongs to an image behind its raster was taken, from one offset to another: nothing where it is raw, all where it is plain
pub record TookBehind (old new : SourceView) (form : Form) (start end : ℕ) : Type 0 where
  pub tail : List ℕ
  pub took : Took old new tail
  pub follows : MayFollow form tail
  pub end_is : end ≡ start + length tail
  pub low : start + length tail ≤ MAX_INPUT
  pub ended : form ≡ Plain → HasEnded new

-- why what belongs to an image behind its raster was not read: it is plain
abbrev pub BehindFails : SourceView → SourceView → Form → ℕ → PageFault → Type 0
BehindFails old new form start fault = TailFails old new form start fault × (form ≡ Plain)
