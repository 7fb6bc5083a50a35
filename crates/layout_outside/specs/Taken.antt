-- What was taken from a source between two of its views.
use Rattle.std.specs.Prelude.{◌≡◌, ◌<◌, ℕ, true, List, length, Result}
use Rattle.std.specs.Io.KnownBytes.{prepend_known, IsAtEnd}
use Rattle.layout_outside.specs.Causes.{HasCause}
use Rattle.layout_outside.specs.Views.{SourceView}

-- these bytes were taken from what was left
abbrev pub Took : SourceView → SourceView → List ℕ → Type 0
Took old new bytes = old.left ≡ prepend_known bytes new.left

-- the source answered its end, and nothing is left where that is told
pub record HasEnded (source : SourceView) : Type 0 where
  pub nothing : IsAtEnd source.left
  pub answered : source.ended ≡ true

-- these bytes were all that was left, and the source answered its end
pub record TookAll (old new : SourceView) (bytes : List ℕ) : Type 0 where
  pub took : Took old new bytes
  pub end : HasEnded new

-- fewer bytes than this were taken
pub record TookPart (old new : SourceView) (len : ℕ) : Type 0 where
  pub bytes : List ℕ
  pub took : Took old new bytes
  pub fewer : length bytes < len

-- the count of failed reads never falls, and an error comes only where it rose
abbrev pub HasSourceCause : {T E : Type 0} → SourceView → SourceView → Result T E → Type 0
HasSourceCause old new result = HasCause old.faults new.faults result
