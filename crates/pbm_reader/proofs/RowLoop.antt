-- The rows of a raw raster are given one after the other.
use Rattle.std.proofs.Common.{◌≡◌, ℕ, suc, ◌+◌, ◌-◌, ◌*◌, ◌/◌, ◌%◌, ◌<◌, ◌≤◌, Bool, cond, eqb, List, [], ◌++◌, length, get_or, drop, refl, sym, ap, subst, ◌∙◌, append_assoc, arith}
use Rattle.std.proofs.Math.Nat.{mul-le-mul_right, mul-le-mul_left}
use Rattle.std.proofs.lemmas.Bool.{lt-ltb, le-ltb}
use Rattle.std.proofs.lemmas.List.{drop_at, length-append, append-nil, get_or_append_left}
use Rattle.std.proofs.lemmas.Nat.Bits.{bit_at-lt}
use Rattle.std.specs.Int.{bit_at}
use Rattle.pbm_reader.specs.declared.fault.PageFault.{PageFault}
use Rattle.pbm_reader.specs.declared.fault.PageFault.TheVariants as faults
use Rattle.pbm_reader.specs.declared.form.Form.TheVariants.{Raw}
use Rattle.packed_rows.specs.Page.{row_len, pixel, IsPageSize, IsPackedRow, IsRowOf, IsCleared}
use Rattle.packed_rows.specs.PageLaws.{black_bit, row_of_page}
use Rattle.pbm_reader.specs.Spelling.{raster_page}
use Rattle.pbm_reader.specs.Given.{AfterRows, Stays, StandsBehind}
use Rattle.pbm_reader.specs.Raster.{BytesFail, RasterFails, TookCleared, TookRaster, GivenTopRows}
use Rattle.layout_outside.specs.Views.{SourceView}
use Rattle.layout_outside.specs.Taken.{Took}
use Rattle.pbm_reader.proofs.TopRows.{Stopped}
use Rattle.pbm_reader.proofs.Taken.{took_more, took_all, prepend_nothing}
use Rattle.pbm_reader.proofs.RasterJudged.{raw_begins}

-- the first rows of the page that these bytes begin were given, whatever follows them
abbrev pub GivenRows : {Sink : Type 0} → (Sink → List ℕ → Sink → Type 0) → ℕ → ℕ → List ℕ → ℕ → Sink → Sink → Type 0
GivenRows given width height raster y old new = (rest : List ℕ) → AfterRows given (raster_page width height (raster ++ rest)) y old new

-- the first y rows were read and given
pub record IsGiving {Sink : Type 0} (given : Sink → List ℕ → Sink → Type 0) (old now : SourceView) (width height y : ℕ) (start sink : Sink) : Type 0 where
  pub part : List ℕ
  pub took : Took old now part
  pub len : length part ≡ y * row_len width
  pub rows : GivenRows given width height part y start sink

pub no_rows : {Sink : Type 0} (given : Sink → List ℕ → Sink → Type 0) (old : SourceView) (width height : ℕ) (start : Sink) → IsGiving given old old width height 0 start start
no_rows given old width height start = record { part = []; took = prepend_nothing old.left; len = omega arith; rows = λ rest. refl }

-- the padding of a cleared row is clear
pub cleared_packed : (width : ℕ) (bits cleared : List ℕ) → length bits ≡ row_len width → IsCleared width bits cleared → IsPackedRow width cleared
cleared_packed width bits cleared len c = record { len = c.len ∙ len; padding = λ x le. c.pixels x ∙ ap (λ (b : Bool). cond b (pixel bits x) 0) (le-ltb x width le) }

front_pixel : (bits rest : List ℕ) (x : ℕ) → x / 8 < length bits → pixel (bits ++ rest) x ≡ pixel bits x
front_pixel bits rest x lt = ap (λ (n : ℕ). bit_at n (7 - x % 8)) (get_or_append_left bits rest 0 (x / 8) lt)

-- a cleared row is the row of the page whose raster has its bytes there
cleared_is_row : (width height y : ℕ) (part bits rest cleared : List ℕ) → y < height → length part ≡ y * row_len width → length bits ≡ row_len width → IsCleared width bits cleared
    → IsRowOf (raster_page width height ((part ++ bits) ++ rest)) y cleared
cleared_is_row width height y part bits rest cleared below before len c =
    let raster = (part ++ bits) ++ rest in
    let here : drop (y * row_len width) raster ≡ bits ++ rest =
    ap (λ (l : List ℕ). drop (y * row_len width) l) (append_assoc part bits rest) ∙ drop_at part (bits ++ rest) (y * row_len width) before in
    row_of_page width height (λ x v. eqb (pixel (drop (v * row_len width) raster) x) 1) y cleared (cleared_packed width bits cleared len c) below
    (λ x lt.
    let same : pixel (drop (y * row_len width) raster) x ≡ pixel bits x = ap (λ (l : List ℕ). pixel l x) here ∙ front_pixel bits rest x (omega arith) in
    c.pixels x
    ∙ ap (λ (b : Bool). cond b (pixel bits x) 0) (lt-ltb x width lt)
    ∙ black_bit (pixel bits x) (bit_at-lt (get_or bits (x / 8) 0) (7 - x % 8))
    ∙ ap (λ (n : ℕ). cond (eqb n 1) 1 0) (sym same))

pub one_more_row : {Sink : Type 0} (given : Sink → List ℕ → Sink → Type 0) (old middle new : SourceView) (width height y : ℕ) (bits : List ℕ) (start sink next : Sink)
    → IsGiving given old middle width height y start sink → y < height → TookCleared middle new width bits → given sink bits next → IsGiving given old new width height (y + 1) start next
one_more_row given old middle new width height y bits start sink next g below row gives = record {
  part = g.part ++ row.bytes;
  took = took_more old middle new g.part row.bytes g.took row.took;
  len = length-append g.part row.bytes ∙ omega (arith, g.len, row.len);
  rows = λ rest.
      let P : ℕ → Type 0 = λ n. AfterRows given (raster_page width height ((g.part ++ row.bytes) ++ rest)) n start next in
      let Q : List ℕ → Type 0 = λ l. AfterRows given (raster_page width height l) y start sink in
      let before : AfterRows given (raster_page width height ((g.part ++ row.bytes) ++ rest)) y start sink = subst Q (sym (append_assoc g.part row.bytes rest)) (g.rows (row.bytes ++ rest)) in
      let e : suc y ≡ y + 1 = omega arith in
      subst P e (sink, bits, before, cleared_is_row width height y g.part row.bytes rest bits below g.len row.len row.cleared, gives);
}

-- a raster takes few bytes
pub raster_bound : (width height start : ℕ) → IsPageSize width height → start ≤ 65536 → start + height * row_len width < 268435456
raster_bound width height start s short =
    let row = row_len width in
    let area = s.area_bound in
    let high = s.height_bound in
    let eight : row * 8 ≤ width + 7 = omega arith in
    let all : height * (row * 8) ≤ height * (width + 7) = mul-le-mul_left height eight in
    let swap : height * row * 8 ≡ height * (row * 8) = omega arith in
    let open_up : height * (width + 7) ≡ width * height + height * 7 = omega arith in
    omega (arith, all, swap, open_up, area, high, short)

-- rows and a part of the next one are less than a raster
less_than_rows : (width height y : ℕ) (rows part : List ℕ) → y < height → length rows ≡ y * row_len width → length part < row_len width → length (rows ++ part) < height * row_len width
less_than_rows width height y rows part lt len less =
    let all : suc y * row_len width ≤ height * row_len width = mul-le-mul_right (row_len width) lt in
    let one_more : suc y * row_len width ≡ y * row_len width + row_len width = omega arith in
    omega (arith, length-append rows part, len, less, all, one_more)

-- why a row was not read is why the raster was not read
pub row_fails : {Sink : Type 0} (given : Sink → List ℕ → Sink → Type 0) (old middle new : SourceView) (width height y start : ℕ) (before sink : Sink) (fault : PageFault)
    → IsGiving given old middle width height y before sink → y < height → IsPageSize width height → start ≤ 65536
    → BytesFail middle new (start + y * row_len width) (row_len width) fault → RasterFails old new Raw width height start fault
row_fails given old middle new width height y start before sink (faults.Truncated end) g lt size short h =
    let less = less_than_rows width height y g.part h.0 lt g.len h.2 in (
      g.part ++ h.0,
      took_all old middle new g.part h.0 g.took h.1,
      raw_begins width height (g.part ++ h.0) less,
      omega (arith, length-append g.part h.0, g.len, h.3),
      omega (arith, raster_bound width height start size short, less, length-append g.part h.0, g.len, h.3),
    )
row_fails given old middle new width height y start before sink faults.ReadFault g lt size short h =
    let less = less_than_rows width height y g.part h.0 lt g.len h.2 in (
      g.part ++ h.0,
      took_more old middle new g.part h.0 g.took h.1,
      raw_begins width height (g.part ++ h.0) less,
      omega (arith, raster_bound width height start size short, less),
    )
row_fails given old middle new width height y start before sink faults.Memory g lt size short h = tt
row_fails given old middle new width height y start before sink (faults.Magic at) g lt size short h = absurd h
row_fails given old middle new width height y start before sink (faults.Header at) g lt size short h = absurd h
row_fails given old middle new width height y start before sink faults.HeaderTooLong g lt size short h = absurd h
row_fails given old middle new width height y start before sink faults.ZeroSize g lt size short h = absurd h
row_fails given old middle new width height y start before sink faults.TooManyImages g lt size short h = absurd h
row_fails given old middle new width height y start before sink (faults.TooLarge wide high) g lt size short h = absurd h
row_fails given old middle new width height y start before sink (faults.Pixel at) g lt size short h = absurd h
row_fails given old middle new width height y start before sink (faults.Trailing at) g lt size short h = absurd h
row_fails given old middle new width height y start before sink faults.InputTooLong g lt size short h = absurd h

-- all rows were given
pub all_rows : {Sink : Type 0} (given : Sink → List ℕ → Sink → Type 0) (old now : SourceView) (width height y start end : ℕ) (before sink : Sink)
    → IsGiving given old now width height y before sink → y ≡ height → IsPageSize width height → start ≤ 65536 → end ≡ start + y * row_len width
    → TookRaster given old now Raw width height start end before sink
all_rows given old now width height y start end before sink g e size short is =
    let P : ℕ → Type 0 = λ n. AfterRows given (raster_page width height (g.part ++ [])) n before sink in
    let Q : List ℕ → Type 0 = λ l. AfterRows given (raster_page width height l) height before sink in
    let rows : y * row_len width ≡ height * row_len width = ap (λ (n : ℕ). n * row_len width) e in
    record {
      raster = g.part;
      page = raster_page width height g.part;
      took = g.took;
      width_is = refl;
      height_is = refl;
      rows = (g.len ∙ rows, refl);
      gives = subst Q (append-nil g.part) (subst P e (g.rows []));
      end_is = omega (arith, is, g.len);
      low = omega (arith, raster_bound width height start size short, is, rows);
    }

-- the rows given before one was refused are top rows
pub rows_stop : {Sink : Type 0} (given : Sink → List ℕ → Sink → Type 0) (unchanged : Sink → Sink → Type 0) (old middle new : SourceView) (width height y start : ℕ) (first sink last : Sink)
    (fault : PageFault) → IsGiving given old middle width height y first sink → y ≤ height → Stays unchanged sink last → Stopped middle new (start + y * row_len width) fault
    → GivenTopRows given unchanged Raw width height start old new first last fault
rows_stop given unchanged old middle new width height y start first sink last fault g few stays stop =
    let P : ℕ → Type 0 = λ n. StandsBehind (start + n) fault in
    let Q : List ℕ → Type 0 = λ l. AfterRows given (raster_page width height l) y first sink in
    record {
      page = raster_page width height g.part;
      raster = g.part;
      rest = stop.0;
      took = took_more old middle new g.part stop.0 g.took stop.1;
      place = subst P (sym g.len) stop.2;
      width_is = refl;
      height_is = refl;
      top = record { count = y; few = few; spelled = (g.len, refl); top = sink; rows = subst Q (append-nil g.part) (g.rows []); stays = stays };
    }
