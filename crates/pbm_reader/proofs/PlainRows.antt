-- The rows of a plain raster are given one after the other.
use Rattle.std.proofs.Common.{◌≡◌, ℕ, zero, suc, ◌+◌, ◌-◌, ◌*◌, ◌<◌, ◌≤◌, Bool, false, cond, eqb, List, [], ◌∷◌, ◌++◌, length, get_or, Option, option_and_then, refl, sym, ap, subst, ◌∙◌, append_assoc, append-nil, arith}
use Rattle.std.proofs.Math.Nat.{mul-le-mul_right}
use Rattle.std.proofs.Math.Seq.{get_or-append-add}
use Rattle.std.proofs.lemmas.List.{length-append, get_or_append_left, get_or_past}
use Rattle.layout_outside.specs.Views.{SourceView}
use Rattle.pbm_reader.specs.declared.fault.PageFault.{PageFault}
use Rattle.pbm_reader.specs.declared.fault.PageFault.TheVariants as faults
use Rattle.pbm_reader.specs.declared.form.Form.TheVariants.{Plain}
use Rattle.pbm_reader.specs.declared.plain.PixelStep.TheVariants.{Wrong}
use Rattle.packed_rows.specs.Page.{IsRowOf}
use Rattle.packed_rows.specs.PageLaws.{black_bit, row_of_page}
use Rattle.pbm_reader.specs.Spelling.{IsRaster, SpellsPixels, pixels_page}
use Rattle.pbm_reader.specs.Fault.{IsFrontOf}
use Rattle.pbm_reader.specs.Given.{AfterRows, Stays, StandsBehind}
use Rattle.pbm_reader.specs.Plain.{pixel_step, TookPixels, PixelsBegun, PixelsFail, ArePacked, TookRow}
use Rattle.pbm_reader.specs.Raster.{RasterFails, TookRaster, GivenTopRows}
use Rattle.pbm_reader.proofs.Machines.{run, run_append, IsRead}
use Rattle.pbm_reader.proofs.RasterWalk.{RasterState, raster_step, wanted, raster_machine, begun_open, wrong_stops, part_state, raster_is_read}
use Rattle.pbm_reader.proofs.Gaps.{none_some}
use Rattle.pbm_reader.proofs.RasterJudged.{plain_begins}
use Rattle.pbm_reader.proofs.PixelLoop.{are_packed, took_pixels, pixels_fail}
use Rattle.pbm_reader.proofs.TopRows.{Stopped}
use Rattle.pbm_reader.proofs.Taken.{prepend_nothing, took_more}

-- the first y rows were read and given
pub record IsGivingPixels {Sink : Type 0} (given : Sink → List ℕ → Sink → Type 0) (old now : SourceView) (begin at width height y : ℕ) (start sink : Sink) : Type 0 where
  pub pixels : List ℕ
  pub took : TookPixels old now begin at pixels
  pub count : length pixels ≡ y * width
  pub rows : (rest : List ℕ) → AfterRows given (pixels_page width height (pixels ++ rest)) y start sink

pub no_pixels : {Sink : Type 0} (given : Sink → List ℕ → Sink → Type 0) (old : SourceView) (begin width height : ℕ) (start : Sink) → begin ≤ 268435456
    → IsGivingPixels given old old begin begin width height 0 start start
no_pixels given old begin width height start low = record {
  pixels = [];
  took = record { bytes = []; took = prepend_nothing old.left; spelled = refl; end_is = omega arith; low = low };
  count = omega arith;
  rows = λ rest. refl;
}

bits_low : (pixels bytes : List ℕ) (k : ℕ) → SpellsPixels pixels bytes → get_or pixels k 0 < 2
bits_low [] bytes k s = let e = get_or_past {X = ℕ} [] k 0 (omega arith) in omega (arith, e)
bits_low (bit ∷ pixels) bytes zero s = s.4
bits_low (bit ∷ pixels) bytes (suc k) s = bits_low pixels s.1 k s.5

-- the pixels of a row stand behind those of the rows before it
pixels_row : (width height y : ℕ) (before row rest bytes bits : List ℕ) → y < height → length before ≡ y * width → length row ≡ width → SpellsPixels row bytes → ArePacked width row bits
    → IsRowOf (pixels_page width height ((before ++ row) ++ rest)) y bits
pixels_row width height y before row rest bytes bits below count len spelled packed =
    let all = (before ++ row) ++ rest in
    row_of_page width height (λ x v. eqb (get_or all (v * width + x) 0) 1) y bits (are_packed width row bits len packed) below
    (λ x lt.
    let place : y * width + x ≡ length before + x = omega (arith, count) in
    let same : get_or all (y * width + x) 0 ≡ get_or row x 0 =
    ap (λ (l : List ℕ). get_or l (y * width + x) 0) (append_assoc before row rest)
    ∙ ap (λ (n : ℕ). get_or (before ++ (row ++ rest)) n 0) place
    ∙ get_or-append-add before (row ++ rest) x 0
    ∙ get_or_append_left row rest 0 x (omega (arith, lt, len)) in
    packed.pixels_are x ∙ black_bit (get_or row x 0) (bits_low row bytes x spelled) ∙ ap (λ (n : ℕ). cond (eqb n 1) 1 0) (sym same))

pub one_more_row : {Sink : Type 0} (given : Sink → List ℕ → Sink → Type 0) (old middle new : SourceView) (begin at end width height y : ℕ) (bits : List ℕ) (start sink next : Sink)
    → IsGivingPixels given old middle begin at width height y start sink → y < height → TookRow middle new at end width bits → given sink bits next → IsGivingPixels given old new begin end width height (y + 1) start next
one_more_row given old middle new begin at end width height y bits start sink next g below t gives =
    let row = t.pixels in
    record {
      pixels = g.pixels ++ row;
      took = took_pixels old middle new begin at end g.pixels row g.took t.took;
      count = omega (arith, length-append g.pixels row, g.count, t.count);
      rows = λ rest.
          let page = pixels_page width height ((g.pixels ++ row) ++ rest) in
          let P : ℕ → Type 0 = λ n. AfterRows given page n start next in
          let Q : List ℕ → Type 0 = λ l. AfterRows given (pixels_page width height l) y start sink in
          let before : AfterRows given page y start sink = subst Q (sym (append_assoc g.pixels row rest)) (g.rows (row ++ rest)) in
          let e : suc y ≡ y + 1 = omega arith in
          subst P e (sink, bits, before, pixels_row width height y g.pixels row rest t.took.bytes bits below g.count t.count t.took.spelled t.packed, gives);
    }

-- pixels that have begun begin a raster
raster_begins : (width height : ℕ) (in_comment : Bool) (bytes : List ℕ) → PixelsBegun (height * width) in_comment bytes → IsFrontOf (IsRaster Plain width height) bytes
raster_begins width height in_comment bytes b =
    plain_begins width height bytes (part_state in_comment (height * width - (length b.pixels + 1)) b.pixels) (begun_open (height * width) in_comment bytes b)

raster_wrong : (width height : ℕ) (bytes : List ℕ) (byte : ℕ) → PixelsBegun (height * width) false bytes → pixel_step false byte ≡ Wrong → (rest : List ℕ) → IsRaster Plain width height (bytes ++ byte ∷ rest) → ⊥
raster_wrong width height bytes byte b wrong rest r =
    stuck (raster_is_read width height (bytes ++ byte ∷ rest) r)
  where
    stuck : IsRead (raster_machine (height * width)) (bytes ++ byte ∷ rest) → ⊥
    stuck t =
        let k = height * width - (length b.pixels + 1) in
        let o = begun_open (height * width) false bytes b in
        none_some t.0 (sym (run_append raster_step (wanted (height * width) []) (part_state false k b.pixels) bytes (byte ∷ rest) o.reads
        ∙ ap (λ (s : Option RasterState). option_and_then (λ n. run raster_step n rest) s) (wrong_stops k b.pixels byte wrong)) ∙ t.1)

-- why pixels were not read is why the raster was not read
raster_fails : (old new : SourceView) (width height start : ℕ) (fault : PageFault) → PixelsFail old new start (height * width) fault → RasterFails old new Plain width height start fault
raster_fails old new width height start (faults.Truncated end) f = (f.1, f.2, raster_begins width height f.0 f.1 f.3, f.4, f.5)
raster_fails old new width height start (faults.Pixel at) f =
    (f.0, f.1, f.2, refl, raster_begins width height false f.0 f.3, raster_wrong width height f.0 f.1 f.3 f.4, f.5, f.6)
raster_fails old new width height start faults.InputTooLong f = (f.1, f.2, f.3, raster_begins width height f.0 f.1 f.4, f.5)
raster_fails old new width height start faults.ReadFault f = (f.1, f.2, raster_begins width height f.0 f.1 f.3, f.4)
raster_fails old new width height start faults.Memory f = tt
raster_fails old new width height start (faults.Magic at) f = absurd f
raster_fails old new width height start (faults.Header at) f = absurd f
raster_fails old new width height start faults.HeaderTooLong f = absurd f
raster_fails old new width height start faults.ZeroSize f = absurd f
raster_fails old new width height start faults.TooManyImages f = absurd f
raster_fails old new width height start (faults.TooLarge wide high) f = absurd f
raster_fails old new width height start (faults.Trailing at) f = absurd f

pub row_fails : {Sink : Type 0} (given : Sink → List ℕ → Sink → Type 0) (old middle new : SourceView) (begin at width height y : ℕ) (start sink : Sink) (fault : PageFault)
    → IsGivingPixels given old middle begin at width height y start sink → y < height → PixelsFail middle new at width fault → RasterFails old new Plain width height begin fault
row_fails given old middle new begin at width height y start sink fault g lt f =
    let rows : suc y * width ≤ height * width = mul-le-mul_right width lt in
    let one_more : suc y * width ≡ y * width + width = omega arith in
    raster_fails old new width height begin fault (pixels_fail old middle new begin at width (height * width) g.pixels fault g.took (omega (arith, g.count, rows, one_more)) f)

pub all_rows : {Sink : Type 0} (given : Sink → List ℕ → Sink → Type 0) (old now : SourceView) (begin at width height y : ℕ) (start sink : Sink)
    → IsGivingPixels given old now begin at width height y start sink → y ≡ height → TookRaster given old now Plain width height begin at start sink
all_rows given old now begin at width height y start sink g e =
    let P : ℕ → Type 0 = λ n. AfterRows given (pixels_page width height (g.pixels ++ [])) n start sink in
    let Q : List ℕ → Type 0 = λ l. AfterRows given (pixels_page width height l) height start sink in
    record {
      raster = g.took.bytes;
      page = pixels_page width height g.pixels;
      took = g.took.took;
      width_is = refl;
      height_is = refl;
      rows = (g.pixels, g.count ∙ ap (λ (n : ℕ). n * width) e, g.took.spelled, refl);
      gives = subst Q (append-nil g.pixels) (subst P e (g.rows []));
      end_is = g.took.end_is;
      low = g.took.low;
    }

-- the rows given before one was refused are top rows
pub rows_stop : {Sink : Type 0} (given : Sink → List ℕ → Sink → Type 0) (unchanged : Sink → Sink → Type 0) (old middle new : SourceView) (begin at width height y : ℕ) (first sink last : Sink)
    (fault : PageFault) → IsGivingPixels given old middle begin at width height y first sink → y ≤ height → Stays unchanged sink last → Stopped middle new at fault
    → GivenTopRows given unchanged Plain width height begin old new first last fault
rows_stop given unchanged old middle new begin at width height y first sink last fault g few stays stop =
    let P : ℕ → Type 0 = λ n. StandsBehind n fault in
    let Q : List ℕ → Type 0 = λ l. AfterRows given (pixels_page width height l) y first sink in
    record {
      page = pixels_page width height g.pixels;
      raster = g.took.bytes;
      rest = stop.0;
      took = took_more old middle new g.took.bytes stop.0 g.took.took stop.1;
      place = subst P g.took.end_is stop.2;
      width_is = refl;
      height_is = refl;
      top = record {
        count = y;
        few = few;
        spelled = (g.pixels, g.count, g.took.spelled, refl);
        top = sink;
        rows = subst Q (append-nil g.pixels) (g.rows []);
        stays = stays;
      };
    }
