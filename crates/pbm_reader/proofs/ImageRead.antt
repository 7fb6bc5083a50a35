-- An image is read, or what comes has a fault of its own.
use Rattle.std.proofs.Common.{◌≡◌, ℕ, ◌<◌, Bool, true, false, List, [], ◌∷◌, ◌++◌, length, Option, Some, None, refl, sym, ap, subst, ◌∙◌, inl, inr, arith}
use Rattle.std.specs.Prelude.{IfSome}
use Rattle.std.proofs.lemmas.List.{length-append}
use Rattle.std.specs.Io.KnownBytes.{prepend_known}
use Rattle.pbm_reader.specs.declared.header.Header.{Header}
use Rattle.pbm_reader.specs.declared.fault.PageFault.{PageFault}
use Rattle.pbm_reader.specs.declared.fault.PageFault.TheVariants as faults
use Rattle.pbm_reader.specs.declared.form.Form.{Form}
use Rattle.pbm_reader.specs.declared.form.Form.TheVariants.{Plain, Raw}
use Rattle.pbm_reader.specs.Spelling.{magic, MayFollow}
use Rattle.pbm_reader.specs.Fault.{Begins, HasFaultWithin, HasLowPlace, IsMagicFault, IsInputTooLong}
use Rattle.pbm_reader.specs.Header.{IsNameFault, IsOfHeader, NameFails, TookHeader}
use Rattle.pbm_reader.specs.Images.{AreUndecided, BeginsImage, SpellsIn}
use Rattle.pbm_reader.specs.Given.{AfterRows}
use Rattle.pbm_reader.specs.Raster.{RasterFails}
use Rattle.pbm_reader.specs.Tail.{TailFails, TookBehind}
use Rattle.pbm_reader.specs.Reading.{Refuses}
use Rattle.pbm_reader.specs.Rows.{RowsFail, TookRows}
use Rattle.pbm_reader.specs.declared.rows.PageRows.{PageRows}
use Rattle.pbm_reader.specs.Reader.{IsAtPlace, FailsOn, ImageFails, MayBe, MayBegin, TookImage}
use Rattle.layout_outside.specs.Views.{SourceView}
use Rattle.layout_outside.specs.Taken.{HasEnded, Took}
use Rattle.pbm_reader.proofs.Taken.{of_all, known_map}
use Rattle.pbm_reader.proofs.RawImages.{begins_more, image_begins, one_name, image_trails}
use Rattle.pbm_reader.proofs.Undecided.{letter_open, none_open}
use Rattle.pbm_reader.proofs.WholePage.{spells_in, took_three, raster_refuses, raster_stops, tail_refuses, tail_stops}

-- ---- bytes that begin with the name of a form

pub begins_named : (first now : SourceView) (form : Form) → Took first now (magic form) → IfSome first.left (λ input. Begins (magic form) input)
begins_named first now form took = of_all (λ input. Begins (magic form) input) first now (magic form) took (λ rest. (rest, refl))

magic_named : (form : Form) (input : List ℕ) (at : ℕ) → Begins (magic form) input → IsMagicFault input at → ⊥
magic_named Plain input at b (inl f) = f.1 (49 ∷ b.0, b.1)
magic_named Raw input at b (inl f) = f.1 (52 ∷ b.0, b.1)
magic_named Plain input at b (inr f) = f.2 (inl b)
magic_named Raw input at b (inr f) = f.2 (inr b)

not_both : (b : Bool) → b ≡ true → b ≡ false → ⊥
not_both b p q = cc

may_begin : (is_first : Bool) (form : Form) (input : List ℕ) → MayBe is_first form → Begins (magic form) input → MayBegin is_first input
may_begin is_first Plain input place b = λ later p. absurd (not_both is_first (place refl) later)
may_begin is_first Raw input place b = λ later p. one_name input p b

no_image : (form : Form) (input : List ℕ) (fault : PageFault) → Begins (magic form) input → HasFaultWithin input fault → ((at : ℕ) → fault ≡ faults.Trailing at → form ≡ Plain) → BeginsImage input → ⊥
no_image form input fault b w trails i =
    let plain = trails (length i.image) (image_trails input fault i w) in
    one_name input (subst (λ (f : Form). Begins (magic f) input) plain b) (image_begins input i)

some_named : (form : Form) (input : List ℕ) → Begins (magic form) input → 0 < length input
some_named Plain input b = omega (arith, ap length b.1)
some_named Raw input b = omega (arith, ap length b.1)

own_fails : (is_first : Bool) (form : Form) (left : Option (List ℕ)) (new : SourceView) (fault : PageFault) → MayBe is_first form → IfSome left (λ input. Begins (magic form) input)
    → IfSome left (λ input. HasFaultWithin input fault) → ((at : ℕ) → fault ≡ faults.Trailing at → form ≡ Plain)
    → ((input : List ℕ) → Begins (magic form) input → HasFaultWithin input fault → IsAtPlace (length input) fault → HasEnded new) → IfSome left (λ input. FailsOn is_first new fault input)
own_fails is_first form None new fault place b w trails ends = tt
own_fails is_first form (Some input) new fault place b w trails ends =
    record { own = inr (w, no_image form input fault b w trails, may_begin is_first form input place b, λ later. some_named form input b); ended = ends input b w }

long_input : (input : List ℕ) → IsInputTooLong input → 268435456 < length input
long_input input l = let more = l.more in omega (arith, ap length l.whole, length-append l.front l.behind, l.len, more)

-- what was taken where a read failed
undecided : (is_first : Bool) (form : Form) (left after : Option (List ℕ)) (taken : List ℕ) → MayBe is_first form → IfSome left (λ input. Begins (magic form) input) → left ≡ prepend_known taken after
    → AreUndecided taken → (bytes : List ℕ) × (left ≡ prepend_known bytes after) × AreUndecided bytes × MayBegin is_first bytes
undecided is_first form None None taken place b took nothing = ([], refl, none_open, λ later p. absurd (omega (arith, ap length p.1)))
undecided is_first form None (Some rest) taken place b took nothing = absurd cc
undecided is_first form (Some input) None taken place b took nothing = absurd cc
undecided is_first form (Some input) (Some rest) taken place b took nothing =
    let whole : input ≡ taken ++ rest = some_is input (taken ++ rest) took in
    (taken, took, nothing, λ later p. may_begin is_first form input place b later (subst (λ (l : List ℕ). Begins (magic Plain) l) (sym whole) (begins_more (magic Plain) taken rest p)))
  where
    some_is : (a c : List ℕ) → (let o : Option (List ℕ) = Some a in o) ≡ Some c → a ≡ c
    some_is a c e = cc

-- behind the name, why a page was refused is why the image was not read
pub image_fails : (is_first : Bool) (form : Form) (first now new : SourceView) (fault : PageFault) → MayBe is_first form → Took first now (magic form) → Refuses first new fault
    → ((at : ℕ) → fault ≡ faults.Trailing at → form ≡ Plain) → ((at : ℕ) → fault ≡ faults.Truncated at → HasEnded new)
    → (fault ≡ faults.ReadFault → (taken : List ℕ) × Took first new taken × AreUndecided taken) → ImageFails is_first first new fault
image_fails is_first form first now new (faults.Header at) place named refuses trails cut stopped = own_fails is_first form first.left new (faults.Header at) place (begins_named first now form named) refuses trails (λ input b w e. absurd e)
image_fails is_first form first now new faults.HeaderTooLong place named refuses trails cut stopped = own_fails is_first form first.left new faults.HeaderTooLong place (begins_named first now form named) refuses trails (λ input b w e. absurd e)
image_fails is_first form first now new faults.ZeroSize place named refuses trails cut stopped = own_fails is_first form first.left new faults.ZeroSize place (begins_named first now form named) refuses trails (λ input b w e. absurd e)
image_fails is_first form first now new (faults.TooLarge wide high) place named refuses trails cut stopped = own_fails is_first form first.left new (faults.TooLarge wide high) place (begins_named first now form named) refuses trails (λ input b w e. absurd e)
image_fails is_first form first now new (faults.Pixel at) place named refuses trails cut stopped = own_fails is_first form first.left new (faults.Pixel at) place (begins_named first now form named) refuses trails (λ input b w e. absurd e)
image_fails is_first form first now new (faults.Trailing at) place named refuses trails cut stopped = own_fails is_first form first.left new (faults.Trailing at) place (begins_named first now form named) refuses trails (λ input b w e. absurd e)
image_fails is_first form first now new faults.TooManyImages place named refuses trails cut stopped = own_fails is_first form first.left new faults.TooManyImages place (begins_named first now form named) refuses trails (λ input b w e. absurd e)
image_fails is_first form first now new (faults.Truncated at) place named refuses trails cut stopped =
    own_fails is_first form first.left new (faults.Truncated at) place (begins_named first now form named) refuses trails (λ input b w e. cut at refl)
image_fails is_first form first now new (faults.Magic at) place named refuses trails cut stopped =
    own_fails is_first form first.left new (faults.Magic at) place (begins_named first now form named) refuses trails (λ input b w e. absurd (magic_named form input at b w))
image_fails is_first form first now new faults.InputTooLong place named refuses trails cut stopped = known_map first.left (λ input. IsInputTooLong input) (λ input. 268435456 < length input) (λ input l. long_input input l) refuses
image_fails is_first form first now new faults.Memory place named refuses trails cut stopped = tt
image_fails is_first form first now new faults.ReadFault place named refuses trails cut stopped = let s = stopped refl in undecided is_first form first.left new.left s.0 place (begins_named first now form named) s.1 s.2

-- ---- the name

name_begins_none : (input : List ℕ) (at : ℕ) → IsMagicFault input at → (BeginsImage input → ⊥) × (Begins (magic Plain) input → ⊥)
name_begins_none input at f = (λ i. magic_named Raw input at (image_begins input i) f, λ b. magic_named Plain input at b f)

some_bytes : (input : List ℕ) (at : ℕ) → IsMagicFault input at → (at ≡ 0 → 0 < length input) → 0 < length input
some_bytes input at (inl f) some = some f.0
some_bytes input at (inr f) some = omega (arith, ap length f.1.1)

pub name_fails : (is_first : Bool) (old new : SourceView) (fault : PageFault) → NameFails old new fault → ImageFails is_first old new fault
name_fails is_first old new (faults.Magic at) f =
    known_map old.left (λ input. IsNameFault new at input) (λ input. FailsOn is_first new (faults.Magic at) input)
    (λ input g. let none = name_begins_none input at g.fault in record { own = inr (g.fault, none.0, λ later. none.1, λ later. some_bytes input at g.fault g.some); ended = g.ended }) f
name_fails is_first old new faults.ReadFault f =
    let e : AreUndecided f.0 × MayBegin is_first f.0 =
    elim f.2 [
      | inl none ↦ (subst AreUndecided (sym none) none_open, λ later p. absurd (omega (arith, ap length none, ap length p.1)))
      | inr letter ↦ (subst AreUndecided (sym letter) letter_open, λ later p. absurd (omega (arith, ap length letter, ap length p.1)))
    ] in
    (f.0, f.1, e.0, e.1)
name_fails is_first old new (faults.Header at) f = absurd f
name_fails is_first old new faults.HeaderTooLong f = absurd f
name_fails is_first old new faults.ZeroSize f = absurd f
name_fails is_first old new (faults.TooLarge wide high) f = absurd f
name_fails is_first old new (faults.Truncated at) f = absurd f
name_fails is_first old new (faults.Pixel at) f = absurd f
name_fails is_first old new (faults.Trailing at) f = absurd f
name_fails is_first old new faults.TooManyImages f = absurd f
name_fails is_first old new faults.InputTooLong f = absurd f
name_fails is_first old new faults.Memory f = absurd f

-- ---- the place of a fault

pub header_low : (fault : PageFault) → IsOfHeader fault → HasLowPlace fault
header_low (faults.Magic at) h = omega (arith, h)
header_low (faults.Header at) h = omega (arith, h)
header_low (faults.Truncated at) h = omega (arith, h)
header_low (faults.Pixel at) h = absurd h
header_low (faults.Trailing at) h = absurd h
header_low fault h = tt

pub raster_low : (old new : SourceView) (form : Form) (width height start : ℕ) (fault : PageFault) → RasterFails old new form width height start fault → HasLowPlace fault
raster_low old new form width height start (faults.Truncated at) f = f.4
raster_low old new form width height start (faults.Pixel at) f = let low = f.7 in omega (arith, low)
raster_low old new form width height start (faults.Magic at) f = absurd f
raster_low old new form width height start (faults.Header at) f = absurd f
raster_low old new form width height start (faults.Trailing at) f = absurd f
raster_low old new form width height start fault f = tt

pub tail_low : (old new : SourceView) (form : Form) (start : ℕ) (fault : PageFault) → TailFails old new form start fault → HasLowPlace fault
tail_low old new form start (faults.Trailing at) f = let low = f.3 in omega (arith, low)
tail_low old new form start (faults.Magic at) f = absurd f
tail_low old new form start (faults.Header at) f = absurd f
tail_low old new form start (faults.Truncated at) f = absurd f
tail_low old new form start (faults.Pixel at) f = absurd f
tail_low old new form start fault f = tt

-- ---- the image

pub header_fails : (first new : SourceView) (fault : PageFault) → Refuses first new fault → IsOfHeader fault → ((at : ℕ) → fault ≡ faults.Truncated at → HasEnded new)
    → (fault ≡ faults.ReadFault → (taken : List ℕ) × Took first new taken × AreUndecided taken) → RowsFail first new fault
header_fails first new fault refuses h ended stopped = record { refuses = refuses; before_end = λ at e. subst IsOfHeader e h; ended = ended; stopped = stopped }

pub memory_fails : (first new : SourceView) → RowsFail first new faults.Memory
memory_fails first new = record { refuses = tt; before_end = λ at e. cc; ended = λ at e. absurd cc; stopped = λ e. absurd cc }

pub rows_fail : (first middle new : SourceView) (header : Header) (fault : PageFault) → TookHeader first middle header
    → RasterFails middle new header.form header.size.width header.size.height header.len fault → RowsFail first new fault
rows_fail first middle new header fault t f =
    let moved : (k : PageFault) → fault ≡ k → RasterFails middle new header.form header.size.width header.size.height header.len k =
    λ k e. subst (λ (j : PageFault). RasterFails middle new header.form header.size.width header.size.height header.len j) e f in
    record {
      refuses = raster_refuses first middle new header fault t f;
      before_end = λ at e. moved (faults.Trailing at) e;
      ended = λ at e. let g = moved (faults.Truncated at) e in g.1.end;
      stopped = λ e. raster_stops first middle new header t (moved faults.ReadFault e);
    }

-- why the rows of an image were not read is why the image was not
pub read_fails : (is_first : Bool) (form : Form) (first now new : SourceView) (fault : PageFault) → MayBe is_first form → Took first now (magic form) → RowsFail first new fault → ImageFails is_first first new fault
read_fails is_first form first now new fault place named f = image_fails is_first form first now new fault place named f.refuses (λ at e. absurd (f.before_end at e)) f.ended f.stopped

pub behind_fails : {Sink : Type 0} (begun : Sink → ℕ → ℕ → Sink → Type 0) (given : Sink → List ℕ → Sink → Type 0) (is_first : Bool) (first now later new : SourceView) (rows : PageRows) (form : Form)
    (before after : Sink) (fault : PageFault) → rows.header.form ≡ form → MayBe is_first form → Took first now (magic form) → TookRows begun given first later before after rows
    → TailFails later new form rows.end fault × (form ≡ Plain) → ImageFails is_first first new fault
behind_fails begun given is_first first now later new rows form before after fault same place named t f =
    let moved : (k : PageFault) → fault ≡ k → TailFails later new rows.header.form rows.end k =
    λ k e. subst (λ (g : Form). TailFails later new g rows.end k) (sym same) (subst (λ (j : PageFault). TailFails later new form rows.end j) e f.0) in
    image_fails is_first form first now new fault place named
    (tail_refuses given first t.middle later new rows.header rows.end t.empty after fault t.header t.raster (moved fault refl)) (λ at e. f.1) (λ at e. absurd (moved (faults.Truncated at) e))
    (λ e. tail_stops given first t.middle later new rows.header rows.end t.empty after (same ∙ f.1) t.header t.raster (moved faults.ReadFault e))

pub image_read : {Sink : Type 0} (begun : Sink → ℕ → ℕ → Sink → Type 0) (given : Sink → List ℕ → Sink → Type 0) (first later new : SourceView) (rows : PageRows) (form : Form) (len : ℕ)
    (before after : Sink) → rows.header.form ≡ form → TookRows begun given first later before after rows → TookBehind later new form rows.end len
    → TookImage begun given first new before after (record { form = form; size = rows.header.size; len = len })
image_read begun given first later new rows form len before after same t q =
    let header = rows.header in
    let h = t.header in
    let r = t.raster in
    let B : ℕ → Type 0 = λ n. begun before n header.size.height t.empty in
    let C : ℕ → Type 0 = λ n. begun before r.page.width n t.empty in
    let R : ℕ → Type 0 = λ n. AfterRows given r.page n t.empty after in
    let follows = subst (λ (f : Form). MayFollow f q.tail) (sym same) q.follows in
    record {
      bytes = h.bytes ++ (r.raster ++ q.tail);
      page = r.page;
      took = took_three first t.middle later new h.bytes r.raster q.tail h.took r.took q.took;
      spells = subst (λ (f : Form). SpellsIn f (h.bytes ++ (r.raster ++ q.tail)) r.page) same (spells_in given first t.middle later header rows.end t.empty after q.tail h r follows q.low);
      len = omega (arith, q.end_is, r.end_is, h.len, length-append h.bytes (r.raster ++ q.tail), length-append r.raster q.tail);
      width_is = r.width_is;
      height_is = r.height_is;
      sink = record { empty = t.empty; begins = subst C (sym r.height_is) (subst B (sym r.width_is) t.begins); rows = subst R (sym r.height_is) r.gives };
      ended = q.ended;
    }
