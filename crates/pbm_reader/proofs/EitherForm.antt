-- The rows of a raster are given one after the other, in either form.
use Rattle.std.proofs.Common.{◌≡◌, ℕ, ◌+◌, ◌*◌, ◌<◌, ◌≤◌, List, refl, subst, inl, arith}
use Rattle.std.proofs.Math.Nat.{mul-le-mul_right}
use Rattle.pbm_reader.specs.declared.fault.PageFault.{PageFault}
use Rattle.pbm_reader.specs.declared.fault.PageFault.TheVariants as faults
use Rattle.pbm_reader.specs.declared.form.Form.{Form}
use Rattle.pbm_reader.specs.declared.form.Form.TheVariants.{Plain, Raw}
use Rattle.packed_rows.specs.Page.{row_len, IsPackedRow, IsPageSize}
use Rattle.pbm_reader.specs.Given.{Stays}
use Rattle.pbm_reader.specs.Raster.{BytesFail, GivenTopRows, RasterFails, RowFails, TakesRow, TookRaster, TookRowIn}
use Rattle.layout_outside.specs.Views.{SourceView}
use Rattle.pbm_reader.proofs.PixelLoop.{row_packed}
use Rattle.pbm_reader.proofs.PlainRows as plain
use Rattle.pbm_reader.proofs.RowLoop as raw
use Rattle.pbm_reader.proofs.TopRows.{Stopped, unread, bytes_stopped, pixels_stopped}

-- ---- a row

pub row_is_packed : (form : Form) (old new : SourceView) (start end width : ℕ) (bits : List ℕ) → TookRowIn form old new start end width bits → IsPackedRow width bits
row_is_packed Plain old new start end width bits r = row_packed old new start end width bits r
row_is_packed Raw old new start end width bits r = raw.cleared_packed width r.0.bytes bits r.0.len r.0.cleared

-- a row that the sink refused was taken
pub row_refused : (form : Form) (old new : SourceView) (start end width : ℕ) (bits : List ℕ) → TookRowIn form old new start end width bits → RowFails form old new start width faults.Memory
row_refused Plain old new start end width bits r = (r.took.bytes, r.took.took)
row_refused Raw old new start end width bits r = (r.0.bytes, r.0.took)

row_stopped : (form : Form) (old new : SourceView) (at width : ℕ) (fault : PageFault) → RowFails form old new at width fault → Stopped old new at fault
row_stopped Plain old new at width fault f = pixels_stopped old new at width fault f
row_stopped Raw old new at width fault f = bytes_stopped old new at (row_len width) fault f

-- ---- the rows

-- the first y rows were read and given
abbrev pub IsGivingIn : {Sink : Type 0} → (Sink → List ℕ → Sink → Type 0) → Form → SourceView → SourceView → ℕ → ℕ → ℕ → ℕ → ℕ → Sink → Sink → Type 0
IsGivingIn given Plain old now start at width height y first sink = plain.IsGivingPixels given old now start at width height y first sink
IsGivingIn given Raw old now start at width height y first sink = raw.IsGiving given old now width height y first sink × (at ≡ start + y * row_len width)

module _ {Sink : Type 0} (given : Sink → List ℕ → Sink → Type 0) (old : SourceView) (start width height : ℕ) (first : Sink) where
  pub giving_none : (form : Form) → start ≤ 65536 → IsGivingIn given form old old start start width height 0 first first
  giving_none Plain short = plain.no_pixels given old start width height first (omega (arith, short))
  giving_none Raw short = (raw.no_rows given old width height first, omega arith)

  pub giving_low : (form : Form) (now : SourceView) (at y : ℕ) (sink : Sink) → IsGivingIn given form old now start at width height y first sink → y ≤ height → IsPageSize width height → start ≤ 65536
      → at ≤ 268435456
  giving_low Plain now at y sink g few size short = g.took.low
  giving_low Raw now at y sink g few size short =
      let rows : y * row_len width ≤ height * row_len width = mul-le-mul_right (row_len width) few in
      omega (arith, raw.raster_bound width height start size short, rows, g.1)

  pub giving_more : (form : Form) (middle new : SourceView) (at end y : ℕ) (sink next : Sink) → IsGivingIn given form old middle start at width height y first sink → y < height
      → TakesRow given form middle new at end width sink next → IsGivingIn given form old new start end width height (y + 1) first next
  giving_more Plain middle new at end y sink next g below t = plain.one_more_row given old middle new start at end width height y t.bits first sink next g below t.row t.gives
  giving_more Raw middle new at end y sink next g below t =
      (raw.one_more_row given old middle new width height y t.bits first sink next g.0 below t.row.0 t.gives, omega (arith, g.1, t.row.1))

  pub giving_fails : (form : Form) (middle new : SourceView) (at y : ℕ) (sink : Sink) (fault : PageFault) → IsGivingIn given form old middle start at width height y first sink → y < height
      → IsPageSize width height → start ≤ 65536 → RowFails form middle new at width fault → RasterFails old new form width height start fault
  giving_fails Plain middle new at y sink fault g below size short f = plain.row_fails given old middle new start at width height y first sink fault g below f
  giving_fails Raw middle new at y sink fault g below size short f =
      raw.row_fails given old middle new width height y start first sink fault g.0 below size short (subst (λ (n : ℕ). BytesFail middle new n (row_len width) fault) g.1 f)

  pub giving_whole : (form : Form) (now : SourceView) (at y : ℕ) (sink : Sink) → IsGivingIn given form old now start at width height y first sink → y ≡ height → IsPageSize width height → start ≤ 65536
      → TookRaster given old now form width height start at first sink
  giving_whole Plain now at y sink g all size short = plain.all_rows given old now start at width height y first sink g all
  giving_whole Raw now at y sink g all size short = raw.all_rows given old now width height y start at first sink g.0 all size short g.1

  stops : (unchanged : Sink → Sink → Type 0) (form : Form) (middle new : SourceView) (at y : ℕ) (sink last : Sink) (fault : PageFault) → IsGivingIn given form old middle start at width height y first sink
      → y ≤ height → Stays unchanged sink last → Stopped middle new at fault → GivenTopRows given unchanged form width height start old new first last fault
  stops unchanged Plain middle new at y sink last fault g few stays stop = plain.rows_stop given unchanged old middle new start at width height y first sink last fault g few stays stop
  stops unchanged Raw middle new at y sink last fault g few stays stop =
      raw.rows_stop given unchanged old middle new width height y start first sink last fault g.0 few stays (subst (λ (n : ℕ). Stopped middle new n fault) g.1 stop)

  -- the rows given before one was refused are top rows
  pub giving_stops : (unchanged : Sink → Sink → Type 0) (form : Form) (middle new : SourceView) (at y : ℕ) (sink last : Sink) (fault : PageFault)
      → IsGivingIn given form old middle start at width height y first sink → y ≤ height → Stays unchanged sink last → RowFails form middle new at width fault
      → GivenTopRows given unchanged form width height start old new first last fault
  giving_stops unchanged form middle new at y sink last fault g few stays f =
      stops unchanged form middle new at y sink last fault g few stays (row_stopped form middle new at width fault f)

  -- memory was refused before the first row
  pub giving_refused : (unchanged : Sink → Sink → Type 0) (form : Form) → start ≤ 65536 → GivenTopRows given unchanged form width height start old old first first faults.Memory
  giving_refused unchanged form short = stops unchanged form old old start 0 first first faults.Memory (giving_none form short) (omega arith) (inl refl) (unread old start)
