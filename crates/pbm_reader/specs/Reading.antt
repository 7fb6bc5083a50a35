-- What a reader did, and why it refused.
use Rattle.std.specs.Prelude.{◌≡◌, ◌≤◌, ◌⊎◌, ℕ, List, Result, Err, IfSome, IsErr, IfErr, ⊤}
use Rattle.layout_outside.specs.Causes.{Rose}
use Rattle.pbm_reader.specs.declared.fault.PageFault.{PageFault}
use Rattle.pbm_reader.specs.declared.fault.PageFault.TheVariants.{ReadFault, Memory}
use Rattle.pbm_reader.specs.declared.fault.PageFault.TheVariants as faults
use Rattle.pbm_reader.specs.declared.fault.Size.{Size}
use Rattle.pbm_reader.specs.Page.{Page}
use Rattle.pbm_reader.specs.Spelling.{Spells}
use Rattle.pbm_reader.specs.Fault.{HasFault, DecidesNothing}
use Rattle.pbm_reader.specs.Given.{AfterPage}
use Rattle.layout_outside.specs.Taken.{Took, TookAll}
use Rattle.layout_outside.specs.Views.{SourceView}

-- the count of faults never falls, and a failed read is answered only where it rose
pub record HasReadCause {T : Type 0} (old new : SourceView) (result : Result T PageFault) : Type 0 where
  pub later : old.faults ≤ new.faults
  pub failed : result ≡ Err ReadFault → Rose old.faults new.faults

-- the input was read until the source answered its end, it spells a page of this size, and the sink was given the page
pub record ReadsPage {Sink : Type 0} (begun : Sink → ℕ → ℕ → Sink → Type 0) (given : Sink → List ℕ → Sink → Type 0)
    (old new : SourceView) (before after : Sink) (size : Size) : Type 0 where
  pub input : List ℕ
  pub page : Page
  pub took : TookAll old new input
  pub spells : Spells input page
  pub width_is : page.width ≡ size.width
  pub height_is : page.height ≡ size.height
  pub sink : AfterPage begun given page before after

-- why a page was refused: the input has the fault, or a read failed before the bytes taken decided one
abbrev pub Refuses : SourceView → SourceView → PageFault → Type 0
Refuses old new faults.ReadFault = (taken : List ℕ) × Took old new taken × DecidesNothing taken
Refuses old new faults.Memory = ⊤
Refuses old new fault = IfSome old.left (λ input. HasFault input fault)

-- the answer is this fault, or want of memory
abbrev pub AnswersFault : {T : Type 0} → PageFault → Result T PageFault → Type 0
AnswersFault fault result = IsErr result × IfErr result (λ answer. (answer ≡ fault) ⊎ (answer ≡ Memory))
