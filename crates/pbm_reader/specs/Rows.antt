-- Reading a page to the end of its raster.
use Rattle.std.specs.Prelude.{◌≡◌, ℕ, List}
use Rattle.pbm_reader.specs.declared.fault.PageFault.{PageFault}
use Rattle.pbm_reader.specs.declared.fault.PageFault.TheVariants as faults
use Rattle.pbm_reader.specs.declared.rows.PageRows.{PageRows}
use Rattle.pbm_reader.specs.Header.{TookHeader}
use Rattle.pbm_reader.specs.Images.{AreUndecided}
use Rattle.pbm_reader.specs.Raster.{TookRaster}
use Rattle.pbm_reader.specs.Reading.{Refuses}
use Rattle.layout_outside.specs.Taken.{HasEnded, Took}
use Rattle.layout_outside.specs.Views.{SourceView}

-- a header and its raster were taken, and the sink began with the sizes and was given the rows
pub record TookRows {Sink : Type 0} (begun : Sink → ℕ → ℕ → Sink → Type 0) (given : Sink → List ℕ → Sink → Type 0)
    (old new : SourceView) (before after : Sink) (rows : PageRows) : Type 0 where
  pub middle : SourceView
  pub empty : Sink
  pub header : TookHeader old middle rows.header
  pub begins : begun before rows.header.size.width rows.header.size.height empty
  pub raster : TookRaster given middle new rows.header.form rows.header.size.width rows.header.size.height rows.header.len rows.end
      empty after

-- why a header and its raster were not taken whole
pub record RowsFail (old new : SourceView) (fault : PageFault) : Type 0 where
  pub refuses : Refuses old new fault
  pub before_end : (at : ℕ) → fault ≡ faults.Trailing at → ⊥
  pub ended : (at : ℕ) → fault ≡ faults.Truncated at → HasEnded new
  pub stopped : fault ≡ faults.ReadFault → (taken : List ℕ) × Took old new taken × AreUndecided taken
