-- What a row sink becomes that is given the rows of a page.
use Rattle.std.specs.Prelude.{◌≡◌, ◌≤◌, ◌⊎◌, ℕ, ◌+◌, zero, suc, List, ◌++◌, length, ⊤}
use Rattle.layout_outside.specs.Views.{SourceView}
use Rattle.layout_outside.specs.Taken.{Took}
use Rattle.packed_rows.specs.Page.{Page, IsPageSize, IsRowOf}
use Rattle.pbm_reader.specs.declared.limits.TheConstants.{MAX_HEADER, MAX_INPUT}
use Rattle.pbm_reader.specs.declared.fault.PageFault.{PageFault}
use Rattle.pbm_reader.specs.declared.fault.PageFault.TheVariants as faults
use Rattle.pbm_reader.specs.declared.form.Form.{Form}
use Rattle.pbm_reader.specs.Spelling.{IsHeader, SpellsTop}

-- the sink that these first rows of the page make of a sink, one row after the other
abbrev pub AfterRows : {Sink : Type 0} → (Sink → List ℕ → Sink → Type 0) → Page → ℕ → Sink → Sink → Type 0
AfterRows {Sink} given page zero old new = new ≡ old
AfterRows {Sink} given page (suc y) old new =
    (before : Sink) × (bits : List ℕ) × AfterRows given page y old before × IsRowOf page y bits × given before bits new

-- the sink that began with the page's size, and was given all of the page's rows
pub record AfterPage {Sink : Type 0} (begun : Sink → ℕ → ℕ → Sink → Type 0)
    (given : Sink → List ℕ → Sink → Type 0) (page : Page) (old new : Sink) : Type 0 where
  pub empty : Sink
  pub begins : begun old page.width page.height empty
  pub rows : AfterRows given page page.height empty new

-- nothing was done to the sink, or it refused a call and is as it was
abbrev pub Stays : {Sink : Type 0} → (Sink → Sink → Type 0) → Sink → Sink → Type 0
Stays unchanged old new = (new ≡ old) ⊎ unchanged old new

-- the sink was given so many top rows of the page, which these bytes spell whole; the last call may have been refused
pub record IsGivenTop {Sink : Type 0} (given : Sink → List ℕ → Sink → Type 0) (unchanged : Sink → Sink → Type 0)
    (form : Form) (page : Page) (bytes : List ℕ) (before after : Sink) : Type 0 where
  pub count : ℕ
  pub few : count ≤ page.height
  pub spelled : SpellsTop form count page bytes
  pub top : Sink
  pub rows : AfterRows given page count before top
  pub stays : Stays unchanged top after

-- the fault stands behind so many bytes, which have a header whole: no fault of a header does
abbrev pub StandsBehind : ℕ → PageFault → Type 0
StandsBehind len (faults.Truncated at) = len ≤ at
StandsBehind len (faults.Pixel at) = len ≤ at
StandsBehind len (faults.Trailing at) = len ≤ at
StandsBehind len faults.InputTooLong = len ≤ MAX_INPUT
StandsBehind len faults.ReadFault = ⊤
StandsBehind len faults.Memory = ⊤
StandsBehind len fault = ⊥

-- the sink that began with the size in the header, which a page can have, and was given top rows: what was taken begins with the header and
-- the bytes of these rows, and the fault stands behind them
pub record AfterTopRows {Sink : Type 0} (begun : Sink → ℕ → ℕ → Sink → Type 0) (given : Sink → List ℕ → Sink → Type 0)
    (unchanged : Sink → Sink → Type 0) (old new : SourceView) (before after : Sink) (fault : PageFault) : Type 0 where
  pub form : Form
  pub page : Page
  pub header : List ℕ
  pub raster : List ℕ
  pub rest : List ℕ
  pub took : Took old new (header ++ (raster ++ rest))
  pub place : StandsBehind (length header + length raster) fault
  pub is_header : IsHeader header form page.width page.height
  pub short : length header ≤ MAX_HEADER
  pub size : IsPageSize page.width page.height
  pub empty : Sink
  pub begins : begun before page.width page.height empty
  pub top : IsGivenTop given unchanged form page raster empty after

-- the sink after a fault: it was given nothing, or top rows that the bytes before the fault spell whole
abbrev pub AfterFault : {Sink : Type 0} → (Sink → ℕ → ℕ → Sink → Type 0) → (Sink → List ℕ → Sink → Type 0) → (Sink → Sink → Type 0)
    → SourceView → SourceView → Sink → Sink → PageFault → Type 0
AfterFault begun given unchanged old new before after fault =
    Stays unchanged before after ⊎ AfterTopRows begun given unchanged old new before after fault
