-- A page is read exactly where the input spells one, and each refusal is the fault of the input.
use Rattle.std.proofs.Common.{◌≡◌, ℕ, ◌+◌, ◌⊎◌, ◌<◌, ◌≤◌, List, [], ◌∷◌, ◌++◌, length, Option, Some, None, Result, Ok, Err, refl, sym, ap, subst, ◌∙◌, append_assoc, append-nil, inl, inr, arith}
use Rattle.std.specs.Prelude.{IfSome, IfOk, IfErr, IsErr, IsOkUnless}
use Rattle.std.proofs.lemmas.List.{length-append}
use Rattle.std.specs.Io.KnownBytes.{prepend_known, IsAtEnd}
use Rattle.layout_outside.specs.Causes.{Rose}
use Rattle.pbm_reader.specs.declared.header.Header.{Header}
use Rattle.pbm_reader.specs.declared.fault.Size.{Size}
use Rattle.pbm_reader.specs.declared.fault.PageFault.{PageFault}
use Rattle.pbm_reader.specs.declared.fault.PageFault.TheVariants as faults
use Rattle.pbm_reader.specs.declared.form.Form.{Form}
use Rattle.pbm_reader.specs.declared.form.Form.TheVariants.{Plain, Raw}
use Rattle.packed_rows.specs.Page.{Page, IsPageSize}
use Rattle.pbm_reader.specs.Spelling.{magic, IsHeader, IsRaster, MayFollow, SpellsRows, IsPage, Spells}
use Rattle.pbm_reader.specs.Fault.{Begins, IsFrontOf, HasPageHeader, HasFault, IsTruncated, IsPixelFault, IsTrailing, IsInputTooLong}
use Rattle.pbm_reader.specs.Images.{AreUndecided, SpellsIn}
use Rattle.pbm_reader.specs.Given.{AfterRows}
use Rattle.pbm_reader.specs.Raster.{RasterFails, TookRaster}
use Rattle.pbm_reader.specs.Tail.{TailFails, TookTail}
use Rattle.layout_outside.specs.Views.{SourceView}
use Rattle.layout_outside.specs.Taken.{Took, TookAll}
use Rattle.pbm_reader.specs.Header.{TookHeader}
use Rattle.pbm_reader.specs.Reading.{HasReadCause, ReadsPage, Refuses}
use Rattle.pbm_reader.proofs.Taken.{took_more, took_all, of_all, of_end}
use Rattle.pbm_reader.proofs.Faults.{raster_ends}
use Rattle.pbm_reader.proofs.OneFault.{one_fault, page_has_no_fault, page_undecided, long_fault}
use Rattle.pbm_reader.proofs.RawImages.{form_begins}
use Rattle.pbm_reader.proofs.Undecided.{cut_open, plain_open}

-- ---- refusals in the raster

has_header : (header behind : List ℕ) (form : Form) (width height : ℕ) → IsHeader header form width height → IsPageSize width height → length header ≤ 65536
    → HasPageHeader (header ++ behind) header behind form width height
has_header header behind form width height h size short = record { has_header = record { whole = refl; is_header = h; short = short }; size = size }

-- a header and a part of its raster end too early
cut : (header : Header) (bytes part : List ℕ) (at : ℕ) → IsHeader bytes header.form header.size.width header.size.height → IsPageSize header.size.width header.size.height → length bytes ≤ 65536
    → IsFrontOf (IsRaster header.form header.size.width header.size.height) part → at ≡ length bytes + length part → at ≤ 268435456 → IsTruncated (bytes ++ part) at
cut header bytes part at h size short begins is low =
    let form = header.form in
    let width = header.size.width in
    let height = header.size.height in
    raster_ends bytes part form width height at (has_header bytes part form width height h size short) begins is low

pixel_fault : (header : Header) (bytes part rest : List ℕ) (byte at : ℕ) → IsHeader bytes header.form header.size.width header.size.height → IsPageSize header.size.width header.size.height
    → length bytes ≤ 65536 → header.form ≡ Plain → IsFrontOf (IsRaster header.form header.size.width header.size.height) part
    → ((rest : List ℕ) → IsRaster header.form header.size.width header.size.height (part ++ byte ∷ rest) → ⊥) → at ≡ length bytes + length part → at < 268435456
    → IsPixelFault ((bytes ++ (part ++ byte ∷ [])) ++ rest) at
pixel_fault header bytes part rest byte at h size short plain begins wrong is low =
    let width = header.size.width in
    let height = header.size.height in
    let behind = part ++ byte ∷ rest in
    let all : (bytes ++ (part ++ byte ∷ [])) ++ rest ≡ bytes ++ behind =
    append_assoc bytes (part ++ byte ∷ []) rest ∙ ap (λ (l : List ℕ). bytes ++ l) (append_assoc part (byte ∷ []) rest) in
    let H : Form → Type 0 = λ f. IsHeader bytes f width height in
    let B : Form → Type 0 = λ f. IsFrontOf (IsRaster f width height) part in
    let W : Form → Type 0 = λ f. (rest : List ℕ) → IsRaster f width height (part ++ byte ∷ rest) → ⊥ in
    let P : List ℕ → Type 0 = λ l. IsPixelFault l at in
    subst P (sym all) (record {
      width = width;
      height = height;
      header = bytes;
      behind = behind;
      has_header = has_header bytes behind Plain width height (subst H plain h) size short;
      place = length part;
      stops = record { front = part; byte = byte; more = rest; whole = refl; place = refl; begins = subst B plain begins; wrong = subst W plain wrong };
      place_is = is;
      low = low;
    })

-- a byte behind 268,435,456 bytes that spell a page or end too early
long : (old new : SourceView) (front behind taken : List ℕ) → Took old new taken → taken ≡ front ++ behind → length front ≡ 268435456 → 0 < length behind
    → IsPage front ⊎ ((at : ℕ) × IsTruncated front at) → IfSome old.left (λ input. IsInputTooLong input)
long old new front behind taken took split len more part =
    of_all (λ input. IsInputTooLong input) old new taken took
    (λ rest.
    let all : taken ++ rest ≡ front ++ (behind ++ rest) = ap (λ (l : List ℕ). l ++ rest) split ∙ append_assoc front behind rest in
    let P : List ℕ → Type 0 = λ l. IsInputTooLong l in
    subst P (sym all) (long_fault front (behind ++ rest) len (omega (arith, more, length-append behind rest)) part))

-- what was taken where a read fails in a raster
pub raster_stops : (old middle new : SourceView) (header : Header) → TookHeader old middle header
    → RasterFails middle new header.form header.size.width header.size.height header.len faults.ReadFault → (taken : List ℕ) × Took old new taken × AreUndecided taken
raster_stops old middle new header t f =
    let low = f.3 in (
      t.bytes ++ f.0,
      took_more old middle new t.bytes f.0 t.took f.1,
      cut_open (t.bytes ++ f.0) (length t.bytes + length f.0) (cut header t.bytes f.0 (length t.bytes + length f.0) t.is_header t.size t.short f.2 refl (omega (arith, low, t.len))),
    )

pub raster_refuses : (old middle new : SourceView) (header : Header) (fault : PageFault) → TookHeader old middle header
    → RasterFails middle new header.form header.size.width header.size.height header.len fault → Refuses old new fault
raster_refuses old middle new header (faults.Truncated at) t f =
    of_end (λ input. IsTruncated input at) old new (t.bytes ++ f.0) (took_all old middle new t.bytes f.0 t.took f.1)
    (cut header t.bytes f.0 at t.is_header t.size t.short f.2 (omega (arith, f.3, t.len)) f.4)
raster_refuses old middle new header (faults.Pixel at) t f =
    of_all (λ input. IsPixelFault input at) old new (t.bytes ++ (f.0 ++ f.1 ∷ [])) (took_more old middle new t.bytes (f.0 ++ f.1 ∷ []) t.took f.2)
    (λ rest. pixel_fault header t.bytes f.0 rest f.1 at t.is_header t.size t.short f.3 f.4 f.5 (omega (arith, f.6, t.len)) f.7)
raster_refuses old middle new header faults.InputTooLong t f =
    let total : length (t.bytes ++ f.0) ≡ 268435456 = omega (arith, length-append t.bytes f.0, f.4, t.len) in
    long old new (t.bytes ++ f.0) (f.1 ∷ []) (t.bytes ++ (f.0 ++ f.1 ∷ [])) (took_more old middle new t.bytes (f.0 ++ f.1 ∷ []) t.took f.2)
    (sym (append_assoc t.bytes f.0 (f.1 ∷ []))) total (omega arith)
    (inr (268435456, cut header t.bytes f.0 268435456 t.is_header t.size t.short f.3 (omega (arith, f.4, t.len)) (omega arith)))
raster_refuses old middle new header faults.ReadFault t f = let s = raster_stops old middle new header t f in (s.0, s.1, s.2.0)
raster_refuses old middle new header faults.Memory t f = tt
raster_refuses old middle new header (faults.Magic at) t f = absurd f
raster_refuses old middle new header (faults.Header at) t f = absurd f
raster_refuses old middle new header faults.HeaderTooLong t f = absurd f
raster_refuses old middle new header faults.ZeroSize t f = absurd f
raster_refuses old middle new header faults.TooManyImages t f = absurd f
raster_refuses old middle new header (faults.TooLarge wide high) t f = absurd f
raster_refuses old middle new header (faults.Trailing at) t f = absurd f

-- ---- refusals behind the raster

-- a header, its raster and what may follow spell the page that was given
spells : {Sink : Type 0} (given : Sink → List ℕ → Sink → Type 0) (old middle later : SourceView) (header : Header) (end : ℕ) (empty after : Sink) (tail : List ℕ)
    → (t : TookHeader old middle header) → (r : TookRaster given middle later header.form header.size.width header.size.height header.len end empty after)
    → MayFollow header.form tail → end + length tail ≤ 268435456 → Spells (t.bytes ++ (r.raster ++ tail)) r.page
spells given old middle later header end empty after tail t r follows low =
    let H : ℕ → Type 0 = λ n. IsHeader t.bytes header.form n header.size.height in
    let I : ℕ → Type 0 = λ n. IsHeader t.bytes header.form r.page.width n in
    let S : ℕ → Type 0 = λ n. IsPageSize n header.size.height in
    let U : ℕ → Type 0 = λ n. IsPageSize r.page.width n in
    let wide = sym r.width_is in
    let high = sym r.height_is in
    record {
      form = header.form;
      header = t.bytes;
      raster = r.raster;
      tail = tail;
      has_header = record { whole = refl; is_header = subst I high (subst H wide t.is_header); short = t.short };
      size = subst U high (subst S wide t.size);
      rows = r.rows;
      follows = follows;
      short = omega (arith, low, r.end_is, t.len, length-append t.bytes (r.raster ++ tail), length-append r.raster tail);
    }

pub spells_in : {Sink : Type 0} (given : Sink → List ℕ → Sink → Type 0) (old middle later : SourceView) (header : Header) (end : ℕ) (empty after : Sink) (tail : List ℕ)
    → (t : TookHeader old middle header) → (r : TookRaster given middle later header.form header.size.width header.size.height header.len end empty after)
    → MayFollow header.form tail → end + length tail ≤ 268435456 → SpellsIn header.form (t.bytes ++ (r.raster ++ tail)) r.page
unfolding spells
spells_in given old middle later header end empty after tail t r follows low = (spells given old middle later header end empty after tail t r follows low, refl)

-- the rows that spell a page make up a raster
rows_raster : (form : Form) (page : Page) (raster : List ℕ) → SpellsRows form page raster → IsRaster form page.width page.height raster
rows_raster Plain page raster rows = (rows.0, rows.1, rows.2)
rows_raster Raw page raster rows = rows.0

trailing : {Sink : Type 0} (given : Sink → List ℕ → Sink → Type 0) (old middle later : SourceView) (header : Header) (end : ℕ) (empty after : Sink) (byte : ℕ) (rest : List ℕ)
    → (t : TookHeader old middle header) → (r : TookRaster given middle later header.form header.size.width header.size.height header.len end empty after)
    → (MayFollow header.form (byte ∷ []) → ⊥) → end < 268435456 → IsTrailing ((t.bytes ++ (r.raster ++ byte ∷ [])) ++ rest) end
trailing given old middle later header end empty after byte rest t r refused low =
    let form = header.form in
    let width = header.size.width in
    let height = header.size.height in
    let behind = r.raster ++ byte ∷ rest in
    let all : (t.bytes ++ (r.raster ++ byte ∷ [])) ++ rest ≡ t.bytes ++ behind =
    append_assoc t.bytes (r.raster ++ byte ∷ []) rest ∙ ap (λ (l : List ℕ). t.bytes ++ l) (append_assoc r.raster (byte ∷ []) rest) in
    let R : ℕ → Type 0 = λ n. IsRaster form n r.page.height r.raster in
    let Q : ℕ → Type 0 = λ n. IsRaster form width n r.raster in
    let P : List ℕ → Type 0 = λ l. IsTrailing l end in
    subst P (sym all) (record {
      form = form;
      width = width;
      height = height;
      header = t.bytes;
      raster = r.raster;
      byte = byte;
      more = rest;
      has_header = has_header t.bytes behind form width height t.is_header t.size t.short;
      is_raster = subst Q r.height_is (subst R r.width_is (rows_raster form r.page r.raster r.rows));
      refused = refused;
      place_is = omega (arith, r.end_is, t.len);
      low = low;
    })

-- what was taken up to a tail
pub took_three : (old middle later new : SourceView) (a b c : List ℕ) → Took old middle a → Took middle later b → Took later new c → Took old new (a ++ (b ++ c))
took_three old middle later new a b c p q r = took_more old middle new a (b ++ c) p (took_more middle later new b c q r)

pub tail_refuses : {Sink : Type 0} (given : Sink → List ℕ → Sink → Type 0) (old middle later new : SourceView) (header : Header) (end : ℕ) (empty after : Sink) (fault : PageFault)
    → TookHeader old middle header → TookRaster given middle later header.form header.size.width header.size.height header.len end empty after
    → TailFails later new header.form end fault → Refuses old new fault
tail_refuses given old middle later new header end empty after (faults.Trailing at) t r f =
    let P : ℕ → Type 0 = λ n. IfSome old.left (λ input. IsTrailing input n) in
    let low = f.4 in
    subst P (sym f.3)
    (of_all (λ input. IsTrailing input end) old new (t.bytes ++ (r.raster ++ f.0 ∷ [])) (took_three old middle later new t.bytes r.raster (f.0 ∷ []) t.took r.took f.1)
    (λ rest. trailing given old middle later header end empty after f.0 rest t r f.2 (omega (arith, f.3, low))))
tail_refuses given old middle later new header end empty after faults.InputTooLong t r f =
    let past = f.2 in
    let front = t.bytes ++ (r.raster ++ past.0) in
    let split : t.bytes ++ (r.raster ++ f.0) ≡ front ++ past.1 =
    ap (λ (l : List ℕ). t.bytes ++ (r.raster ++ l)) past.2 ∙ ap (λ (l : List ℕ). t.bytes ++ l) (sym (append_assoc r.raster past.0 past.1)) ∙ sym (append_assoc t.bytes (r.raster ++ past.0) past.1) in
    let total : length front ≡ 268435456 = omega (arith, length-append t.bytes (r.raster ++ past.0), length-append r.raster past.0, past.4, r.end_is, t.len) in
    long old new front past.1 (t.bytes ++ (r.raster ++ f.0)) (took_three old middle later new t.bytes r.raster f.0 t.took r.took f.1) split total past.5
    (inl (r.page, spells given old middle later header end empty after past.0 t r past.3 (omega (arith, past.4))))
tail_refuses given old middle later new header end empty after faults.ReadFault t r f = (
  t.bytes ++ (r.raster ++ f.0),
  took_three old middle later new t.bytes r.raster f.0 t.took r.took f.1,
  page_undecided (t.bytes ++ (r.raster ++ f.0)) (r.page, spells given old middle later header end empty after f.0 t r f.2 f.3),
)
tail_refuses given old middle later new header end empty after (faults.Magic at) t r f = absurd f
tail_refuses given old middle later new header end empty after (faults.Header at) t r f = absurd f
tail_refuses given old middle later new header end empty after faults.HeaderTooLong t r f = absurd f
tail_refuses given old middle later new header end empty after faults.ZeroSize t r f = absurd f
tail_refuses given old middle later new header end empty after faults.TooManyImages t r f = absurd f
tail_refuses given old middle later new header end empty after (faults.TooLarge wide high) t r f = absurd f
tail_refuses given old middle later new header end empty after (faults.Truncated at) t r f = absurd f
tail_refuses given old middle later new header end empty after (faults.Pixel at) t r f = absurd f
tail_refuses given old middle later new header end empty after faults.Memory t r f = absurd f

-- what was taken where a read fails behind a plain raster
pub tail_stops : {Sink : Type 0} (given : Sink → List ℕ → Sink → Type 0) (old middle later new : SourceView) (header : Header) (end : ℕ) (empty after : Sink) → header.form ≡ Plain
    → TookHeader old middle header → TookRaster given middle later header.form header.size.width header.size.height header.len end empty after
    → TailFails later new header.form end faults.ReadFault → (taken : List ℕ) × Took old new taken × AreUndecided taken
tail_stops given old middle later new header end empty after plain t r f =
    let page = spells_in given old middle later header end empty after f.0 t r f.2 f.3 in
    let all = t.bytes ++ (r.raster ++ f.0) in (
      all,
      took_three old middle later new t.bytes r.raster f.0 t.took r.took f.1,
      plain_open all (r.page, page.0) (subst (λ (form : Form). Begins (magic form) all) plain (form_begins header.form all r.page page)),
    )

-- ---- a page

pub page_read : {Sink : Type 0} (begun : Sink → ℕ → ℕ → Sink → Type 0) (given : Sink → List ℕ → Sink → Type 0)
    (old middle later new : SourceView) (header : Header) (end last : ℕ) (before empty after : Sink)
    → TookHeader old middle header → begun before header.size.width header.size.height empty
    → TookRaster given middle later header.form header.size.width header.size.height header.len end empty after
    → TookTail later new header.form end last → ReadsPage begun given old new before after header.size
page_read begun given old middle later new header end last before empty after t b r q =
    let B : ℕ → Type 0 = λ n. begun before n header.size.height empty in
    let C : ℕ → Type 0 = λ n. begun before r.page.width n empty in
    let R : ℕ → Type 0 = λ n. AfterRows given r.page n empty after in
    record {
      input = t.bytes ++ (r.raster ++ q.tail);
      page = r.page;
      took = took_all old middle new t.bytes (r.raster ++ q.tail) t.took (took_all middle later new r.raster q.tail r.took q.took);
      spells = spells given old middle later header end empty after q.tail t r q.follows q.low;
      width_is = r.width_is;
      height_is = r.height_is;
      sink = record { empty = empty; begins = subst C (sym r.height_is) (subst B (sym r.width_is) b); rows = subst R (sym r.height_is) r.gives };
    }

-- ---- what spells a page is read

known_fault : (old : SourceView) (input : List ℕ) (page : Page) (fault : PageFault) → old.left ≡ Some input → Spells input page → IfSome old.left (λ input. HasFault input fault) → ⊥
known_fault old input page fault told p h =
    let P : Option (List ℕ) → Type 0 = λ k. IfSome k (λ input. HasFault input fault) in
    page_has_no_fault input page fault p (subst P told h)

-- the only refusal of a page where no read failed is want of memory
pub only_memory : (old new : SourceView) (result : Result Size PageFault) (input : List ℕ) → IfErr result (Refuses old new) → HasReadCause old new result
    → old.left ≡ Some input → IsPage input → (Rose old.faults new.faults → ⊥) → IsOkUnless result faults.Memory
only_memory old new (Ok size) input refuses cause told p calm = tt
only_memory old new (Err faults.Memory) input refuses cause told p calm = refl
only_memory old new (Err faults.ReadFault) input refuses cause told p calm = absurd (calm (cause.failed refl))
only_memory old new (Err (faults.Magic at)) input refuses cause told p calm = absurd (known_fault old input p.0 (faults.Magic at) told p.1 refuses)
only_memory old new (Err (faults.Header at)) input refuses cause told p calm = absurd (known_fault old input p.0 (faults.Header at) told p.1 refuses)
only_memory old new (Err faults.HeaderTooLong) input refuses cause told p calm = absurd (known_fault old input p.0 faults.HeaderTooLong told p.1 refuses)
only_memory old new (Err faults.ZeroSize) input refuses cause told p calm = absurd (known_fault old input p.0 faults.ZeroSize told p.1 refuses)
only_memory old new (Err faults.TooManyImages) input refuses cause told p calm = absurd (known_fault old input p.0 faults.TooManyImages told p.1 refuses)
only_memory old new (Err (faults.TooLarge wide high)) input refuses cause told p calm = absurd (known_fault old input p.0 (faults.TooLarge wide high) told p.1 refuses)
only_memory old new (Err (faults.Truncated at)) input refuses cause told p calm = absurd (known_fault old input p.0 (faults.Truncated at) told p.1 refuses)
only_memory old new (Err (faults.Pixel at)) input refuses cause told p calm = absurd (known_fault old input p.0 (faults.Pixel at) told p.1 refuses)
only_memory old new (Err (faults.Trailing at)) input refuses cause told p calm = absurd (known_fault old input p.0 (faults.Trailing at) told p.1 refuses)
only_memory old new (Err faults.InputTooLong) input refuses cause told p calm = absurd (known_fault old input p.0 faults.InputTooLong told p.1 refuses)

known_all : (old new : SourceView) (input taken : List ℕ) → old.left ≡ Some input → TookAll old new taken → taken ≡ input
known_all old new input taken told t = all_of old.left new.left told t.took t.end.nothing
  where
    never : (o : Option (List ℕ)) (l : List ℕ) → o ≡ Some l → o ≡ None → ⊥
    never o l p q = cc

    some_is : (a b : List ℕ) → (let o : Option (List ℕ) = Some a in o) ≡ Some b → a ≡ b
    some_is a b e = cc

    all_of : (o n : Option (List ℕ)) → o ≡ Some input → o ≡ prepend_known taken n → IsAtEnd n → taken ≡ input
    all_of o None told took end = absurd (never o input told took)
    all_of o (Some ys) told took end =
        let all : taken ++ ys ≡ taken = ap (λ (l : List ℕ). taken ++ l) end ∙ append-nil taken in
        some_is taken input (ap (λ (l : List ℕ). Some l) (sym all) ∙ sym took ∙ told)

same_fault : (old : SourceView) (input : List ℕ) (answer fault : PageFault) → old.left ≡ Some input → IfSome old.left (λ input. HasFault input answer) → HasFault input fault → answer ≡ fault
same_fault old input answer fault told h f =
    let P : Option (List ℕ) → Type 0 = λ k. IfSome k (λ input. HasFault input answer) in
    one_fault input answer fault (subst P told h) f

-- the fault of the input, where no read failed, is what is answered unless memory is refused
pub only_fault : {Sink : Type 0} (begun : Sink → ℕ → ℕ → Sink → Type 0) (given : Sink → List ℕ → Sink → Type 0)
    (old new : SourceView) (start sink : Sink) (result : Result Size PageFault) (input : List ℕ) (fault : PageFault)
    → IfOk result (ReadsPage begun given old new start sink) → IfErr result (Refuses old new) → HasReadCause old new result
    → old.left ≡ Some input → HasFault input fault → (Rose old.faults new.faults → ⊥) → IsErr result × IfErr result (λ answer. (answer ≡ fault) ⊎ (answer ≡ faults.Memory))
only_fault begun given old new start sink (Ok size) input fault reads refuses cause told f calm =
    let P : List ℕ → Type 0 = λ l. Spells l reads.page in
    absurd (page_has_no_fault input reads.page fault (subst P (known_all old new input reads.input told reads.took) reads.spells) f)
only_fault begun given old new start sink (Err faults.Memory) input fault reads refuses cause told f calm = (refl, inr refl)
only_fault begun given old new start sink (Err faults.ReadFault) input fault reads refuses cause told f calm = absurd (calm (cause.failed refl))
only_fault begun given old new start sink (Err (faults.Magic at)) input fault reads refuses cause told f calm = (refl, inl (same_fault old input (faults.Magic at) fault told refuses f))
only_fault begun given old new start sink (Err (faults.Header at)) input fault reads refuses cause told f calm = (refl, inl (same_fault old input (faults.Header at) fault told refuses f))
only_fault begun given old new start sink (Err faults.HeaderTooLong) input fault reads refuses cause told f calm = (refl, inl (same_fault old input faults.HeaderTooLong fault told refuses f))
only_fault begun given old new start sink (Err faults.ZeroSize) input fault reads refuses cause told f calm = (refl, inl (same_fault old input faults.ZeroSize fault told refuses f))
only_fault begun given old new start sink (Err faults.TooManyImages) input fault reads refuses cause told f calm = (refl, inl (same_fault old input faults.TooManyImages fault told refuses f))
only_fault begun given old new start sink (Err (faults.TooLarge wide high)) input fault reads refuses cause told f calm =
    (refl, inl (same_fault old input (faults.TooLarge wide high) fault told refuses f))
only_fault begun given old new start sink (Err (faults.Truncated at)) input fault reads refuses cause told f calm = (refl, inl (same_fault old input (faults.Truncated at) fault told refuses f))
only_fault begun given old new start sink (Err (faults.Pixel at)) input fault reads refuses cause told f calm = (refl, inl (same_fault old input (faults.Pixel at) fault told refuses f))
only_fault begun given old new start sink (Err (faults.Trailing at)) input fault reads refuses cause told f calm = (refl, inl (same_fault old input (faults.Trailing at) fault told refuses f))
only_fault begun given old new start sink (Err faults.InputTooLong) input fault reads refuses cause told f calm = (refl, inl (same_fault old input faults.InputTooLong fault told refuses f))
