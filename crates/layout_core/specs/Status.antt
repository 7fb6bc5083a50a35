-- How a run ends: its status, why that comes, and when it has to come. Both programs promise it in the same words.
use Rattle.std.specs.Prelude.{◌≡◌, ◌≢◌, ◌≤◌, ◌⊎◌, ⊤, ℕ, List, Some, Result, Err, IfSome, IfOk, IfErr, All}
use Rattle.layout_outside.specs.Causes.{Rose}
use Rattle.layout_outside.specs.Views.{SourceView, SinkView}
use Rattle.layout_outside.specs.Taken.{Took}
use Rattle.layout_outside.specs.Written.{Appended, AppendedPart, WritesText}
use Rattle.pbm_reader.specs.declared.fault.PageFault.{PageFault}
use Rattle.pbm_reader.specs.declared.fault.PageFault.TheVariants as faults
use Rattle.pbm_reader.specs.Page.{Page}
use Rattle.pbm_reader.specs.Images.{SpellsPages}
use Rattle.command_words.specs.declared.plan.Program.{Program}
use Rattle.command_words.specs.Plans.{HasNoPlan}
use Rattle.command_words.specs.declared.plan.Plan.{Plan}
use Rattle.layout_core.specs.Layouts.{HasFew}
use Rattle.layout_core.specs.Run.{RunAccount, IsPlanned, IsReading, ReadsBy, IsMaking, WritesOutput, WritesFront}
use Rattle.layout_core.specs.Owed.{Owes, IsOwed, DecidesNoRefusal}
use Rattle.layout_core.specs.RefusalLines.{refusal_line}
use Rattle.layout_core.specs.declared.refusal.Refusal.{Refusal}
use Rattle.layout_core.specs.declared.refusal.Refusal.TheVariants as refusals

-- ---- statuses

-- The status of a page that was not read.
abbrev pub fault_status : PageFault → ℕ
fault_status faults.HeaderTooLong = 4
fault_status (faults.TooLarge width height) = 4
fault_status faults.InputTooLong = 4
fault_status faults.TooManyImages = 4
fault_status faults.ReadFault = 5
fault_status faults.Memory = 7
fault_status fault = 3

-- The status of a run that ended without a document.
abbrev pub status_of : Refusal → ℕ
status_of (refusals.Usage program) = 2
status_of (refusals.Page fault) = fault_status fault
status_of (refusals.TooMany count) = 4
status_of refusals.WriteFault = 6
status_of refusals.Memory = 7

-- done, usage, bad page, limit, read fault, write fault, memory
abbrev pub IsStatus : ℕ → Type 0
IsStatus status = (status ≡ 0) ⊎ (status ≡ 2) ⊎ (status ≡ 3) ⊎ (status ≡ 4) ⊎ (status ≡ 5) ⊎ (status ≡ 6) ⊎ (status ≡ 7)

-- ---- the line on `err`

-- The run wrote just the line of this refusal to `err`, or a proper front of it where a write to `err` failed.
abbrev pub Says : RunAccount → Refusal → Type 0
Says run refusal = WritesText run.err_before run.err_after (refusal_line refusal)

-- ---- why a layout was refused

-- To the input, or to some input where the source does not tell it, the refusal of so many components or blocks is owed.
pub record OwesTooMany (plan : Plan) (source : SourceView) (count : ℕ) : Type 0 where
  pub input : List ℕ
  pub is_left : IfSome source.left (λ left. left ≡ input)
  pub owes : Owes plan input (refusals.TooMany count)

-- A read failed, and these bytes, which were taken of the input, decide no refusal.
pub record StopsUndecided (plan : Plan) (before after : SourceView) : Type 0 where
  pub taken : List ℕ
  pub took : Took before after taken
  pub undecided : DecidesNoRefusal plan taken

-- Why there are no layouts of what was left of the input.
abbrev pub RefusesLayouts : Plan → SourceView → SourceView → Refusal → Type 0
RefusesLayouts plan before after (refusals.Page faults.ReadFault) = StopsUndecided plan before after
RefusesLayouts plan before after (refusals.Page faults.Memory) = ⊤
RefusesLayouts plan before after (refusals.Page fault) = IfSome before.left (λ input. Owes plan input (refusals.Page fault))
RefusesLayouts plan before after (refusals.TooMany count) = OwesTooMany plan before count
RefusesLayouts plan before after refusals.Memory = ⊤
RefusesLayouts plan before after refusal = ⊥

-- Want of memory, in the reader or elsewhere.
abbrev pub IsWantOfMemory : Refusal → Type 0
IsWantOfMemory refusal = (refusal ≡ refusals.Memory) ⊎ (refusal ≡ refusals.Page faults.Memory)

-- The count of faults never falls, and a failed read is answered only where it rose.
pub record HasRefusalCause {T : Type 0} (before after : SourceView) (result : Result T Refusal) : Type 0 where
  pub later : before.faults ≤ after.faults
  pub failed : result ≡ Err (refusals.Page faults.ReadFault) → Rose before.faults after.faults

-- The source told its input, and no read of it failed.
abbrev pub ToldWhole : SourceView → SourceView → List ℕ → Type 0
ToldWhole before after input = (before.left ≡ Some input) × ¬ Rose before.faults after.faults

-- What is wanted of the pages of an input was answered, or a refusal with its cause.
pub record AnswersPages {T : Type 0} (plan : Plan) (before after : SourceView) (result : Result T Refusal) (IsWanted : T → Type 0) : Type 0 where
  pub wanted : IfOk result IsWanted
  pub refused : IfErr result (RefusesLayouts plan before after)
  pub cause : HasRefusalCause before after result

-- The text was written to `out`, or the line of a refusal to `err`, and the status says which.
pub record Finishes {T : Type 0} (ErrStays OutStays : Type 0) (out_before out_after err_before err_after : SinkView)
    (text : Result T Refusal) (bytes_of : T → List ℕ) (status : ℕ) : Type 0 where
  pub ends : IfOk text (λ text. (status ≡ 0) ⊎ (status ≡ 6))
  pub done : IfOk text (λ text. status ≡ 0 → ErrStays × Appended out_before out_after (bytes_of text))
  pub failed : IfOk text (λ text. status ≡ 6 → Rose out_before.faults out_after.faults × AppendedPart out_before out_after (bytes_of text)
      × WritesText err_before err_after (refusal_line refusals.WriteFault))
  pub refused : IfErr text (λ refusal. (status ≡ status_of refusal) × OutStays × WritesText err_before err_after (refusal_line refusal))

-- ---- how a run ends

-- The refusal of a fault of this status is owed to the input, and the line names the fault.
pub record RefusesPage (status : ℕ) (plan : Plan) (run : RunAccount) : Type 0 where
  pub fault : PageFault
  pub status_is : fault_status fault ≡ status
  pub owes : IfSome run.source_before.left (λ input. Owes plan input (refusals.Page fault))
  pub line : Says run (refusals.Page fault)

-- The refusal of too many components or blocks of a page is owed to the input, and the line counts them.
pub record RefusesComponents (plan : Plan) (run : RunAccount) : Type 0 where
  pub count : ℕ
  pub too_many : OwesTooMany plan run.source_before count
  pub line : Says run (refusals.TooMany count)

-- A read failed, what was taken of the input decides no refusal, and the line says that a read failed.
pub record FailsToRead (plan : Plan) (run : RunAccount) : Type 0 where
  pub failed : Rose run.source_before.faults run.source_after.faults
  pub stops : StopsUndecided plan run.source_before run.source_after
  pub line : Says run (refusals.Page faults.ReadFault)

-- A write to `out` failed, a proper front of the output was written, and the line says that a write failed.
pub record FailsToWrite (run : RunAccount) : Type 0 where
  pub failed : Rose run.out_before.faults run.out_after.faults
  pub front : WritesFront run
  pub line : Says run refusals.WriteFault

-- The run ended with this status, unless memory was refused.
abbrev pub EndsWith : RunAccount → ℕ → Type 0
EndsWith run status = (run.status ≡ status) ⊎ (run.status ≡ 7)

-- The run wrote its output, unless a write failed or memory was refused.
abbrev pub EndsWritten : RunAccount → Type 0
EndsWritten run = (run.status ≡ 0) ⊎ ((run.status ≡ 6) × Rose run.out_before.faults run.out_after.faults) ⊎ (run.status ≡ 7)

-- What a run of either program does. `SourceStays`, `OutStays` and `ErrStays` say that a stream is just as before.
pub record IsRun (SourceStays OutStays ErrStays : Type 0) (run : RunAccount) : Type 0 where
  -- The status is 0 or one from 2 to 7.
  pub statuses : IsStatus run.status
  -- The headline. 0: the words have a plan, the input was read to its end, it spells pages, and just the document of the pages'
  -- layouts by that plan was written; or the plan has a seed, and just the summary of the layout of the seed's page was.
  pub done : run.status ≡ 0 → WritesOutput run
  -- 0: nothing was written to `err`.
  pub silent : run.status ≡ 0 → ErrStays
  -- 2: the words have no plan, nothing was read, and the line tells which words the program takes.
  pub usage : run.status ≡ 2 → HasNoPlan run.program run.words × SourceStays × Says run (refusals.Usage run.program)
  -- 3: the words plan to read, the refusal of a fault of this status is owed to the input, and the line names it.
  pub bad_page : run.status ≡ 3 → ReadsBy run.program run.words (λ plan. RefusesPage 3 plan run)
  -- 4: the words plan to read, and owed to the input is the refusal of a fault of this status, or of more than 60,000 kept
  -- components of a page or of its smear.
  pub limited : run.status ≡ 4 → ReadsBy run.program run.words (λ plan. RefusesPage 4 plan run ⊎ RefusesComponents plan run)
  -- 5: the words plan to read, and a read failed before the bytes that were taken decided a refusal.
  pub read_fault : run.status ≡ 5 → ReadsBy run.program run.words (λ plan. FailsToRead plan run)
  -- 6: the output is known, a write to `out` failed, and a proper front was written.
  pub write_fault : run.status ≡ 6 → FailsToWrite run
  -- 7: the line says that memory was refused.
  pub memory : run.status ≡ 7 → Says run refusals.Memory
  -- 2 to 5 and 7: nothing was written to `out`.
  pub unwritten : run.status ≢ 0 → run.status ≢ 6 → OutStays
  -- Words without a plan end with 2, unless memory was refused.
  pub planless : HasNoPlan run.program run.words → EndsWith run 2
  -- With each other status but 7 the words have a plan.
  pub planned : run.status ≢ 2 → run.status ≢ 7 → IsPlanned run.program run.words
  -- The refusal that is owed ends the run with its status, unless a read failed or memory was refused.
  pub owed : (input : List ℕ) (refusal : Refusal) → ToldWhole run.source_before run.source_after input
      → IsOwed run.program run.words input refusal → EndsWith run (status_of refusal)
  -- Completeness: an input that spells pages with few components and blocks each ends with its document written, unless a read or
  -- a write failed or memory was refused.
  pub complete : (input : List ℕ) (pages : List Page) → ToldWhole run.source_before run.source_after input → SpellsPages input pages
      → ReadsBy run.program run.words (λ plan. All (HasFew plan) pages) → EndsWritten run
  -- A run on a made page reads nothing.
  pub unread : IsMaking run.program run.words → SourceStays
  -- A run on a made page ends with its summary written, unless a write failed or memory was refused.
  pub made : IsMaking run.program run.words → EndsWritten run

-- ---- a run over streams

-- A stream before and after a run: its values, and what contracts see of each.
pub record Change (Stream View : Type 0) : Type 0 where
  pub view : Stream → View
  pub before : Stream
  pub after : Stream

abbrev pub change : {Stream View : Type 0} → (Stream → View) → Stream → Stream → Change Stream View
change view before after = record { view = view; before = before; after = after }

-- The account of a run of this program with these words, over these streams, that answered the status.
abbrev pub account_of : {S K E : Type 0} → Program → List (List ℕ) → Change S SourceView → Change K SinkView → Change E SinkView → ℕ
    → RunAccount
account_of program words source out err status = record {
  program = program;
  words = words;
  source_before = source.view source.before;
  source_after = source.view source.after;
  out_before = out.view out.before;
  out_after = out.view out.after;
  err_before = err.view err.before;
  err_after = err.view err.after;
  status = status;
}

-- It is a run as both programs promise it.
abbrev pub Runs : {S K E : Type 0} → Program → List (List ℕ) → Change S SourceView → Change K SinkView → Change E SinkView → ℕ
    → Type 0
Runs program words source out err status =
    IsRun (source.after ≡ source.before) (out.after ≡ out.before) (err.after ≡ err.before)
    (account_of program words source out err status)
