-- What a run did: what it was told, what it read, and what it wrote.
use Rattle.std.specs.Prelude.{◌≡◌, ◌⊎◌, ℕ, List, None, Some}
use Rattle.layout_outside.specs.Views.{SourceView, SinkView}
use Rattle.layout_outside.specs.Taken.{TookAll}
use Rattle.layout_outside.specs.Written.{Appended, AppendedPart}
use Rattle.pbm_reader.specs.Page.{Page}
use Rattle.pbm_reader.specs.Images.{SpellsPages}
use Rattle.hocr_writer.specs.declared.layout.Layout.{Layout}
use Rattle.hocr_writer.specs.Document.{document_of}
use Rattle.hocr_writer.specs.Summary.{summary_of}
use Rattle.made_page.specs.Made.{made_page}
use Rattle.command_words.specs.declared.plan.Plan.{Plan}
use Rattle.command_words.specs.declared.plan.Program.{Program}
use Rattle.command_words.specs.Plans.{HasPlan}
use Rattle.layout_core.specs.Layouts.{IsLayout, AreLayouts}

-- What a run did: the program, the words behind its name, what contracts see of the three streams before and after, and the
-- status that it answered.
pub record RunAccount : Type 0 where
  pub program : Program
  pub words : List (List ℕ)
  pub source_before : SourceView
  pub source_after : SourceView
  pub out_before : SinkView
  pub out_after : SinkView
  pub err_before : SinkView
  pub err_after : SinkView
  pub status : ℕ

-- ---- what the words tell

-- The words tell the program what to do.
abbrev pub IsPlanned : Program → List (List ℕ) → Type 0
IsPlanned program words = (plan : Plan) × HasPlan program words plan

-- They tell it to read pages.
abbrev pub IsReading : Program → List (List ℕ) → Type 0
IsReading program words = (plan : Plan) × HasPlan program words plan × (plan.make ≡ None)

-- They tell it to read pages by a plan of which this holds.
abbrev pub ReadsBy : Program → List (List ℕ) → (Plan → Type 0) → Type 0
ReadsBy program words Holds = (plan : Plan) × HasPlan program words plan × (plan.make ≡ None) × Holds plan

-- They tell it to make a page from a seed.
abbrev pub IsMaking : Program → List (List ℕ) → Type 0
IsMaking program words = (plan : Plan) × (seed : ℕ) × HasPlan program words plan × (plan.make ≡ Some seed)

-- ---- what was read

-- The input was read until the source answered its end, and it spells these pages.
pub record ReadsWhole (before after : SourceView) (pages : List Page) : Type 0 where
  pub input : List ℕ
  pub took : TookAll before after input
  pub spells : SpellsPages input pages

-- The input was read to its end, it spells pages, and these are the pages' layouts by the plan, in the order of the pages.
pub record ReadsLayouts (plan : Plan) (before after : SourceView) (layouts : List Layout) : Type 0 where
  pub pages : List Page
  pub reads : ReadsWhole before after pages
  pub are_layouts : AreLayouts plan pages layouts

-- ---- what was written

-- The input was read to its end, it spells pages, and the text is the document of the pages' layouts by the plan.
pub record ReadsDocument (plan : Plan) (before after : SourceView) (text : List ℕ) : Type 0 where
  pub layouts : List Layout
  pub read : ReadsLayouts plan before after layouts
  pub text_is : text ≡ document_of layouts

-- The text is the summary of the layout, by the plan, of the page of the seed.
pub record IsSummaryOf (plan : Plan) (seed : ℕ) (text : List ℕ) : Type 0 where
  pub layout : Layout
  pub is_layout : IsLayout plan (made_page seed) layout
  pub text_is : text ≡ summary_of layout

-- The words have a plan without a seed, and the text is the document, by that plan, of the pages that were read.
pub record IsDocument (run : RunAccount) (text : List ℕ) : Type 0 where
  pub plan : Plan
  pub planned : HasPlan run.program run.words plan
  pub reading : plan.make ≡ None
  pub document : ReadsDocument plan run.source_before run.source_after text

-- The words have a plan with a seed, and the text is the summary, by that plan, of the page that was made.
pub record IsSummary (run : RunAccount) (text : List ℕ) : Type 0 where
  pub plan : Plan
  pub planned : HasPlan run.program run.words plan
  pub seed : ℕ
  pub making : plan.make ≡ Some seed
  pub summary : IsSummaryOf plan seed text

-- The text is the document of the pages that were read, or the summary of the page that was made, as the words plan.
abbrev pub IsOutput : RunAccount → List ℕ → Type 0
IsOutput run text = IsDocument run text ⊎ IsSummary run text

-- Just the output was written to `out`.
pub record WritesOutput (run : RunAccount) : Type 0 where
  pub text : List ℕ
  pub is_output : IsOutput run text
  pub whole : Appended run.out_before run.out_after text

-- Just a proper front of the output was written to `out`.
pub record WritesFront (run : RunAccount) : Type 0 where
  pub text : List ℕ
  pub is_output : IsOutput run text
  pub part : AppendedPart run.out_before run.out_after text
