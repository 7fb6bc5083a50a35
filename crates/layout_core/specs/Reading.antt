-- What was read of an input, page by page.
use Rattle.std.specs.Prelude.{◌≡◌, ◌≤◌, ◌⊎◌, ℕ, true, false, List, [], ◌∷◌, ◌++◌, length, Option, Result, IfOk, IfErr, IfSome, IfNone, All}
use Rattle.std.specs.Io.KnownBytes.{prepend_known, IsAtEnd}
use Rattle.layout_outside.specs.Views.{SourceView}
use Rattle.layout_outside.specs.Taken.{TookAll}
use Rattle.pbm_reader.specs.declared.limits.TheConstants.{MAX_IMAGES, MAX_INPUT}
use Rattle.pbm_reader.specs.declared.form.Form.TheVariants.{Plain}
use Rattle.pbm_reader.specs.Page.{Page}
use Rattle.pbm_reader.specs.Images.{AreImages, SpellsIn}
use Rattle.pbm_reader.specs.Reader.{ImagesView, coming}
use Rattle.page_runs.specs.Packed.{Packed, Holds, IsWhole}
use Rattle.hocr_writer.specs.declared.layout.Layout.{Layout}
use Rattle.command_words.specs.declared.plan.Plan.{Plan}
use Rattle.layout_core.specs.declared.refusal.Refusal.{Refusal}
use Rattle.layout_core.specs.Layouts.{HasFew, AreLayouts}
use Rattle.layout_core.specs.Run.{ReadsWhole}
use Rattle.layout_core.specs.Status.{HasRefusalCause, RefusesLayouts}

-- The reader may be asked for the next image.
pub record GoesOn (reader : ImagesView) (source : SourceView) : Type 0 where
  pub is_open : reader.is_open ≡ true
  pub images : reader.gave_byte ≡ false
  pub end : reader.has_ended ≡ true → IsAtEnd source.left

-- Raw images of these pages were taken from the front of the input, within its limits, and what comes next stands behind them.
pub record ReadsImages (before : SourceView) (pages : List Page) (reader : ImagesView) (source : SourceView) : Type 0 where
  pub images : List ℕ
  pub took : before.left ≡ prepend_known images (coming reader source)
  pub are_images : AreImages pages images
  pub judged_is : reader.judged ≡ length images
  pub short : length images ≤ MAX_INPUT
  pub few : length pages ≤ MAX_IMAGES
  pub goes_on : reader.has_ended ≡ false

-- The input was read to its end, and it spells these pages: one, in the plain form.
pub record ReadsPlain (before : SourceView) (pages : List Page) (reader : ImagesView) (source : SourceView) : Type 0 where
  pub page : Page
  pub alone : pages ≡ page ∷ []
  pub input : List ℕ
  pub took : TookAll before source input
  pub spells : SpellsIn Plain input page
  pub ended : reader.has_ended ≡ true

-- These pages were read of the input so far, and the reader counted them.
pub record HasRead (before : SourceView) (pages : List Page) (reader : ImagesView) (source : SourceView) : Type 0 where
  pub goes_on : GoesOn reader source
  pub count_is : reader.count ≡ length pages
  pub read : ReadsImages before pages reader source ⊎ ReadsPlain before pages reader source

-- Behind these pages the next one was read, and these are its rows.
pub record ReadsRows (before : SourceView) (pages : List Page) (reader : ImagesView) (source : SourceView) (rows : Packed) : Type 0 where
  pub page : Page
  pub whole : IsWhole rows
  pub held : Holds rows page
  pub read : HasRead before (pages ++ page ∷ []) reader source

-- Behind whatever pages were read, the next one was; or the input ended behind them; or it was refused, with its cause.
pub record AnswersNext (old new : ImagesView) (source later : SourceView) (result : Result (Option Packed) Refusal) : Type 0 where
  pub page : IfOk result (λ next. IfSome next (λ rows. (before : SourceView) (pages : List Page) → HasRead before pages old source
      → ReadsRows before pages new later rows))
  pub end : IfOk result (λ next. IfNone next ((before : SourceView) (pages : List Page) → HasRead before pages old source
      → ReadsWhole before later pages))
  pub refused : IfErr result (λ refusal. (plan : Plan) (before : SourceView) (pages : List Page) → HasRead before pages old source
      → All (HasFew plan) pages → RefusesLayouts plan before later refusal)
  pub cause : HasRefusalCause source later result

-- The layouts of the pages that were read so far.
pub record HasLaidOut (plan : Plan) (before : SourceView) (reader : ImagesView) (source : SourceView) (layouts : List Layout) : Type 0 where
  pub pages : List Page
  pub read : HasRead before pages reader source
  pub are_layouts : AreLayouts plan pages layouts
