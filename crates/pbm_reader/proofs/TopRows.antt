-- The rows that were given before a fault.
use Rattle.std.proofs.Common.{◌≡◌, ℕ, ◌+◌, ◌≤◌, List, [], ◌∷◌, ◌++◌, length, Option, Result, Ok, Err, refl, sym, ap, subst, ◌∙◌, append_assoc, inl, inr, arith}
use Rattle.std.specs.Prelude.{IfErr}
use Rattle.std.proofs.lemmas.List.{append-nil, length-append}
use Rattle.std.specs.Io.KnownBytes.{prepend_known}
use Rattle.layout_outside.specs.Views.{SourceView}
use Rattle.layout_outside.specs.Taken.{Took}
use Rattle.packed_rows.specs.Page.{IsPageSize}
use Rattle.pbm_reader.specs.declared.header.Header.{Header}
use Rattle.pbm_reader.specs.declared.image.Image.{Image}
use Rattle.pbm_reader.specs.declared.fault.Size.{Size}
use Rattle.pbm_reader.specs.declared.fault.PageFault.{PageFault}
use Rattle.pbm_reader.specs.declared.fault.PageFault.TheVariants as faults
use Rattle.pbm_reader.specs.declared.form.Form.{Form}
use Rattle.pbm_reader.specs.Spelling.{IsHeader}
use Rattle.pbm_reader.specs.Given.{AfterRows, AfterFault, StandsBehind}
use Rattle.pbm_reader.specs.Raster.{BytesFail, GivenTopRows, TookRaster}
use Rattle.pbm_reader.specs.Plain.{PixelsFail}
use Rattle.pbm_reader.specs.Tail.{TailFails}
use Rattle.pbm_reader.specs.Header.{TookHeader}
use Rattle.pbm_reader.specs.Rows.{TookRows}
use Rattle.pbm_reader.specs.declared.rows.PageRows.{PageRows}
use Rattle.pbm_reader.specs.Reader.{TookImage}
use Rattle.pbm_reader.proofs.Taken.{took_more, prepend_nothing, prepend_twice}

-- ---- some bytes were taken, and a fault stands behind this offset

abbrev pub Stopped : SourceView → SourceView → ℕ → PageFault → Type 0
Stopped old new at fault = (bytes : List ℕ) × Took old new bytes × StandsBehind at fault

-- want of memory before a byte was taken
pub unread : (old : SourceView) (at : ℕ) → Stopped old old at faults.Memory
unread old at = ([], prepend_nothing old.left, tt)

-- what is so of each fault that the bytes of a raster, or those behind it, can have is so of every fault that they have: they have none of the others
by_kind : (F S : PageFault → Type 0) → ((at : ℕ) → F (faults.Magic at) → ⊥) → ((at : ℕ) → F (faults.Header at) → ⊥) → (F faults.HeaderTooLong → ⊥) → (F faults.ZeroSize → ⊥)
    → ((wide high : ℕ) → F (faults.TooLarge wide high) → ⊥) → (F faults.TooManyImages → ⊥)
    → ((at : ℕ) → F (faults.Truncated at) → S (faults.Truncated at)) → ((at : ℕ) → F (faults.Pixel at) → S (faults.Pixel at)) → ((at : ℕ) → F (faults.Trailing at) → S (faults.Trailing at))
    → (F faults.InputTooLong → S faults.InputTooLong) → (F faults.ReadFault → S faults.ReadFault) → (F faults.Memory → S faults.Memory) → (fault : PageFault) → F fault → S fault
by_kind F S magic header long zero large many truncated pixel trailing too_long cut memory (faults.Magic at) f = absurd (magic at f)
by_kind F S magic header long zero large many truncated pixel trailing too_long cut memory (faults.Header at) f = absurd (header at f)
by_kind F S magic header long zero large many truncated pixel trailing too_long cut memory faults.HeaderTooLong f = absurd (long f)
by_kind F S magic header long zero large many truncated pixel trailing too_long cut memory faults.ZeroSize f = absurd (zero f)
by_kind F S magic header long zero large many truncated pixel trailing too_long cut memory (faults.TooLarge wide high) f = absurd (large wide high f)
by_kind F S magic header long zero large many truncated pixel trailing too_long cut memory faults.TooManyImages f = absurd (many f)
by_kind F S magic header long zero large many truncated pixel trailing too_long cut memory (faults.Truncated at) f = truncated at f
by_kind F S magic header long zero large many truncated pixel trailing too_long cut memory (faults.Pixel at) f = pixel at f
by_kind F S magic header long zero large many truncated pixel trailing too_long cut memory (faults.Trailing at) f = trailing at f
by_kind F S magic header long zero large many truncated pixel trailing too_long cut memory faults.InputTooLong f = too_long f
by_kind F S magic header long zero large many truncated pixel trailing too_long cut memory faults.ReadFault f = cut f
by_kind F S magic header long zero large many truncated pixel trailing too_long cut memory faults.Memory f = memory f

pub bytes_stopped : (old new : SourceView) (at len : ℕ) (fault : PageFault) → BytesFail old new at len fault → Stopped old new at fault
bytes_stopped old new at len fault fails =
    by_kind (BytesFail old new at len) (Stopped old new at) (λ k f. f) (λ k f. f) (λ f. f) (λ f. f) (λ w h f. f) (λ f. f)
    (λ end f. (f.0, f.1.took, omega (arith, f.3))) (λ k f. absurd f) (λ k f. absurd f) (λ f. absurd f) (λ f. (f.0, f.1, tt)) (λ f. (f.0, f.1, tt)) fault fails

pub pixels_stopped : (old new : SourceView) (at count : ℕ) (fault : PageFault) → PixelsFail old new at count fault → Stopped old new at fault
pixels_stopped old new at count fault fails =
    by_kind (PixelsFail old new at count) (Stopped old new at) (λ k f. f) (λ k f. f) (λ f. f) (λ f. f) (λ w h f. f) (λ f. f)
    (λ end f. (f.1, f.2.took, omega (arith, f.4))) (λ place f. (f.0 ++ f.1 ∷ [], f.2, omega (arith, f.5))) (λ k f. absurd f) (λ f. (f.1 ++ f.2 ∷ [], f.3, omega (arith, f.5)))
    (λ f. (f.1, f.2, tt)) (λ f. (f.0, f.1, tt)) fault fails

tail_stopped : (old new : SourceView) (form : Form) (at : ℕ) (fault : PageFault) → TailFails old new form at fault → Stopped old new at fault
tail_stopped old new form at fault fails =
    by_kind (TailFails old new form at) (Stopped old new at) (λ k f. f) (λ k f. f) (λ f. f) (λ f. f) (λ w h f. f) (λ f. f)
    (λ k f. absurd f) (λ k f. absurd f) (λ place f. (f.0 ∷ [], f.1, omega (arith, f.3))) (λ f. (f.0, f.1, omega (arith, f.2.4))) (λ f. (f.0, f.1, tt)) (λ f. absurd f) fault fails

-- ---- the rows of a page

-- all rows were given, and then the page was refused
all_rows_given : {Sink : Type 0} (given : Sink → List ℕ → Sink → Type 0) (unchanged : Sink → Sink → Type 0) (old later new : SourceView) (header : Header) (end : ℕ) (empty after : Sink)
    (fault : PageFault) → TookRaster given old later header.form header.size.width header.size.height header.len end empty after → TailFails later new header.form end fault
    → GivenTopRows given unchanged header.form header.size.width header.size.height header.len old new empty after fault
all_rows_given given unchanged old later new header end empty after fault r f =
    let stop = tail_stopped later new header.form end fault f in
    let P : ℕ → Type 0 = λ n. StandsBehind n fault in
    let R : ℕ → Type 0 = λ n. AfterRows given r.page n empty after in
    record {
      page = r.page;
      raster = r.raster;
      rest = stop.0;
      took = took_more old later new r.raster stop.0 r.took stop.1;
      place = subst P r.end_is stop.2;
      width_is = r.width_is;
      height_is = r.height_is;
      top = record { count = r.page.height; few = omega arith; spelled = r.rows; top = after; rows = subst R (sym r.height_is) r.gives; stays = inl refl };
    }

-- top rows of a raster are top rows of the page whose header was taken before it
pub top_rows : {Sink : Type 0} (begun : Sink → ℕ → ℕ → Sink → Type 0) (given : Sink → List ℕ → Sink → Type 0) (unchanged : Sink → Sink → Type 0)
    (old middle new : SourceView) (header : Header) (before empty after : Sink) (fault : PageFault) → TookHeader old middle header → begun before header.size.width header.size.height empty
    → GivenTopRows given unchanged header.form header.size.width header.size.height header.len middle new empty after fault → AfterFault begun given unchanged old new before after fault
top_rows begun given unchanged old middle new header before empty after fault t b g =
    let P : ℕ → Type 0 = λ n. StandsBehind (n + length g.raster) fault in
    let Begins : ℕ → ℕ → Type 0 = λ w h. IsHeader t.bytes header.form w h × IsPageSize w h × begun before w h empty in
    let Wide : ℕ → Type 0 = λ w. Begins w header.size.height in
    let High : ℕ → Type 0 = λ h. Begins g.page.width h in
    let first : Begins header.size.width header.size.height = (t.is_header, t.size, b) in
    let begins : Begins g.page.width g.page.height = subst High (sym g.height_is) (subst Wide (sym g.width_is) first) in
    inr (record {
      form = header.form;
      page = g.page;
      header = t.bytes;
      raster = g.raster;
      rest = g.rest;
      took = took_more old middle new t.bytes (g.raster ++ g.rest) t.took g.took;
      place = subst P t.len g.place;
      is_header = begins.0;
      short = t.short;
      size = begins.1;
      empty = empty;
      begins = begins.2;
      top = g.top;
    })

-- a page whose rows were all given was refused behind them
pub rows_top : {Sink : Type 0} (begun : Sink → ℕ → ℕ → Sink → Type 0) (given : Sink → List ℕ → Sink → Type 0) (unchanged : Sink → Sink → Type 0) (old later new : SourceView) (rows : PageRows)
    (before after : Sink) (fault : PageFault) → TookRows begun given old later before after rows → TailFails later new rows.header.form rows.end fault
    → AfterFault begun given unchanged old new before after fault
rows_top begun given unchanged old later new rows before after fault t f =
    top_rows begun given unchanged old t.middle new rows.header before t.empty after fault t.header t.begins
    (all_rows_given given unchanged t.middle later new rows.header rows.end t.empty after fault t.raster f)

-- ---- the same rows, seen otherwise

-- behind what was taken stands more that was dropped, and another fault was answered
after_either : {Sink : Type 0} (begun : Sink → ℕ → ℕ → Sink → Type 0) (given : Sink → List ℕ → Sink → Type 0) (unchanged : Sink → Sink → Type 0) (old new first last : SourceView) (more : List ℕ) (before after : Sink)
    (own fault : PageFault) → ((bytes : List ℕ) → Took first last bytes → Took old new (bytes ++ more)) → ((n : ℕ) → StandsBehind n own → StandsBehind n fault)
    → AfterFault begun given unchanged first last before after own → AfterFault begun given unchanged old new before after fault
after_either begun given unchanged old new first last more before after own fault moves place (inl stays) = inl stays
after_either begun given unchanged old new first last more before after own fault moves place (inr t) =
    let all : (t.header ++ (t.raster ++ t.rest)) ++ more ≡ t.header ++ (t.raster ++ (t.rest ++ more)) =
    append_assoc t.header (t.raster ++ t.rest) more ∙ ap (λ (l : List ℕ). t.header ++ l) (append_assoc t.raster t.rest more) in
    inr (record {
      form = t.form;
      page = t.page;
      header = t.header;
      raster = t.raster;
      rest = t.rest ++ more;
      took = moves (t.header ++ (t.raster ++ t.rest)) t.took ∙ ap (λ (l : List ℕ). prepend_known l new.left) all;
      place = place (length t.header + length t.raster) t.place;
      is_header = t.is_header;
      short = t.short;
      size = t.size;
      empty = t.empty;
      begins = t.begins;
      top = t.top;
    })

pub after_moved : {Sink : Type 0} (begun : Sink → ℕ → ℕ → Sink → Type 0) (given : Sink → List ℕ → Sink → Type 0) (unchanged : Sink → Sink → Type 0) (old new first last : SourceView)
    (more : List ℕ) (before after : Sink) (fault : PageFault) → ((bytes : List ℕ) → Took first last bytes → Took old new (bytes ++ more))
    → AfterFault begun given unchanged first last before after fault → AfterFault begun given unchanged old new before after fault
after_moved begun given unchanged old new first last more before after fault moves fails =
    after_either begun given unchanged old new first last more before after fault fault moves (λ n stands. stands) fails

pub after_other : {Sink : Type 0} (begun : Sink → ℕ → ℕ → Sink → Type 0) (given : Sink → List ℕ → Sink → Type 0) (unchanged : Sink → Sink → Type 0) (old new : SourceView) (before after : Sink)
    (own fault : PageFault) → ((n : ℕ) → StandsBehind n own → StandsBehind n fault) → AfterFault begun given unchanged old new before after own → AfterFault begun given unchanged old new before after fault
after_other begun given unchanged old new before after own fault place fails =
    after_either begun given unchanged old new old new [] before after own fault (λ bytes took. subst (Took old new) (sym (append-nil bytes)) took) place fails

-- a page that was given whole is all of its rows
pub image_after : {Sink : Type 0} (begun : Sink → ℕ → ℕ → Sink → Type 0) (given : Sink → List ℕ → Sink → Type 0) (unchanged : Sink → Sink → Type 0) (old new : SourceView) (before after : Sink)
    (image : Image) (fault : PageFault) → ((n : ℕ) → n ≤ 268435456 → StandsBehind n fault) → TookImage begun given old new before after image
    → AfterFault begun given unchanged old new before after fault
image_after begun given unchanged old new before after image fault place t =
    let s = t.spells.0 in
    let h = s.has_header in
    let short = s.short in
    inr (record {
      form = s.form;
      page = t.page;
      header = s.header;
      raster = s.raster;
      rest = s.tail;
      took = t.took ∙ ap (λ (l : List ℕ). prepend_known l new.left) h.whole;
      place = place (length s.header + length s.raster)
          (omega (arith, short, ap length h.whole, length-append s.header (s.raster ++ s.tail), length-append s.raster s.tail));
      is_header = h.is_header;
      short = h.short;
      size = s.size;
      empty = t.sink.empty;
      begins = t.sink.begins;
      top = record { count = t.page.height; few = omega arith; spelled = s.rows; top = after; rows = t.sink.rows; stays = inl refl };
    })

-- ---- a feed that begins with nothing unread, and in which bytes may be left

pub top_from : {Sink : Type 0} (begun : Sink → ℕ → ℕ → Sink → Type 0) (given : Sink → List ℕ → Sink → Type 0) (unchanged : Sink → Sink → Type 0) (old new first last : SourceView)
    (unread : List ℕ) (before after : Sink) (result : Result Size PageFault) → first.left ≡ old.left → last.left ≡ prepend_known unread new.left
    → IfErr result (AfterFault begun given unchanged first last before after) → IfErr result (AfterFault begun given unchanged old new before after)
top_from begun given unchanged old new first last unread before after (Ok size) begins ends f = tt
top_from begun given unchanged old new first last unread before after (Err fault) begins ends f =
    after_moved begun given unchanged old new first last unread before after fault
    (λ bytes took. sym begins ∙ took ∙ ap (λ (k : Option (List ℕ)). prepend_known bytes k) ends ∙ sym (prepend_twice bytes unread new.left)) f
