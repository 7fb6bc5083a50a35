-- What contracts see of a device, and what each of its calls does to that.
use Rattle.std.specs.Prelude.{◌≡◌, ◌≤◌, ◌<◌, ◌==◌, ℕ, Bool, List, length, take, Option, None, Result, IfOk, OnErr}
use Rattle.std.specs.Io.KnownBytes.{prepend_known, append_known, IsAtEnd}
use Rattle.layout_outside.specs.declared.device.Failed.{Failed}
use Rattle.layout_outside.specs.Causes.{HasCause}

-- A source: the bytes that are left, where they are told; how many reads failed, up to the last value of a u64; and whether the
-- last read that did not fail answered the end.
pub record SourceView : Type 0 where
  pub left : Option (List ℕ)
  pub faults : ℕ
  pub ended : Bool

-- A sink: the bytes that were written, where they are told, and how many writes failed, up to the last value of a u64.
pub record SinkView : Type 0 where
  pub written : Option (List ℕ)
  pub faults : ℕ

-- A read puts the next bytes at the front of the buffer, and says how many: none at the end alone. One that fails takes no byte,
-- and the source counted it.
pub record IsRead (old new : SourceView) (buf : List ℕ) (result : Result ℕ Failed) : Type 0 where
  pub bound : IfOk result (λ count. count ≤ length buf)
  pub bytes : IfOk result (λ count. old.left ≡ prepend_known (take count buf) new.left)
  pub end : IfOk result (λ count. count ≡ 0 → IsAtEnd new.left)
  pub ended : IfOk result (λ count. new.ended ≡ (count == 0))
  pub err : OnErr result (new.left ≡ old.left)
  pub stays : OnErr result (new.ended ≡ old.ended)
  pub cause : HasCause old.faults new.faults result

-- A write takes one byte or more from the front of the piece, and says how many. One that fails appends nothing, and the sink
-- counted it.
pub record IsWrite (old new : SinkView) (piece : List ℕ) (result : Result ℕ Failed) : Type 0 where
  pub some : IfOk result (λ count. 0 < count)
  pub bound : IfOk result (λ count. count ≤ length piece)
  pub bytes : IfOk result (λ count. new.written ≡ append_known old.written (take count piece))
  pub err : OnErr result (new.written ≡ old.written)
  pub cause : HasCause old.faults new.faults result

-- A source that does not tell its bytes.
abbrev pub untold_source : ℕ → Bool → SourceView
untold_source faults ended = record { left = None; faults = faults; ended = ended }

-- A sink that does not tell what was written.
abbrev pub untold_sink : ℕ → SinkView
untold_sink faults = record { written = None; faults = faults }
