-- What was appended to a sink between two of its views.
use Rattle.std.specs.Prelude.{◌≡◌, ◌<◌, ◌⊎◌, ℕ, List, length, take, Result, OnOk, OnErr}
use Rattle.std.specs.Io.KnownBytes.{append_known}
use Rattle.layout_outside.specs.declared.device.Failed.{Failed}
use Rattle.layout_outside.specs.Causes.{HasCause, Rose}
use Rattle.layout_outside.specs.Views.{SinkView}

-- these bytes were appended to what was written
abbrev pub Appended : SinkView → SinkView → List ℕ → Type 0
Appended old new bytes = new.written ≡ append_known old.written bytes

-- a front of the text was appended, and not all of it
pub record AppendedPart (old new : SinkView) (text : List ℕ) : Type 0 where
  pub count : ℕ
  pub proper : count < length text
  pub front : Appended old new (take count text)

-- All of the text was appended; or a write failed, a part of the text was appended, and the sink counted the fault.
pub record PutsText {T : Type 0} (old new : SinkView) (text : List ℕ) (result : Result T Failed) : Type 0 where
  pub ok : OnOk result (Appended old new text)
  pub err : OnErr result (AppendedPart old new text)
  pub cause : HasCause old.faults new.faults result

-- all of the text was appended; or a part of it was, and the count of faults rose
abbrev pub WritesText : SinkView → SinkView → List ℕ → Type 0
WritesText old new text = Appended old new text ⊎ (AppendedPart old new text × Rose old.faults new.faults)
