-- What is taken of the bytes that are held, up to where they do not suffice.
use Rattle.std.proofs.Common.{◌≡◌, ℕ, suc, ◌+◌, ◌*◌, ◌<◌, ◌≤◌, ◌⊎◌, Bool, true, false, List, [], ◌∷◌, ◌++◌, length, Option, Some, None, Result, Ok, Err, refl, sym, ap, subst, ◌∙◌, append_assoc, append-nil, inl, inr, arith}
use Rattle.std.proofs.Math.Nat.{mul-le-mul_right}
use Rattle.std.proofs.lemmas.Bool.{cases_lt}
use Rattle.std.proofs.lemmas.List.{length-append}
use Rattle.std.specs.Prelude.{IfOk, IfErr, IfSome, IfNone, ⊤}
use Rattle.pbm_reader.specs.declared.fault.PageFault.{PageFault}
use Rattle.pbm_reader.specs.declared.fault.PageFault.TheVariants as faults
use Rattle.pbm_reader.specs.declared.fault.Size.{Size}
use Rattle.pbm_reader.specs.declared.form.Form.{Form}
use Rattle.pbm_reader.specs.declared.form.Form.TheVariants.{Plain, Raw}
use Rattle.pbm_reader.specs.declared.header.Header.{Header}
use Rattle.pbm_reader.specs.declared.image.Image.{Image}
use Rattle.pbm_reader.specs.declared.state.HeaderState.{HeaderState}
use Rattle.pbm_reader.specs.declared.state.HeaderState.TheVariants.{Named, Whole}
use Rattle.packed_rows.specs.Page.{row_len, IsPageSize}
use Rattle.pbm_reader.specs.Spelling.{magic, IsRaster}
use Rattle.pbm_reader.specs.Fault.{IsFrontOf, IsSizeFault}
use Rattle.pbm_reader.specs.Feed.{FeedView, PieceView, fed}
use Rattle.pbm_reader.specs.Header.{next_state, wrong_byte, TookHeader}
use Rattle.pbm_reader.specs.Held.{only, IsInside, IsNamePart, IsOfHeld, ReadsNothing, StaysInside, TakesHeld, TookHeld, TookHeldSizes}
use Rattle.pbm_reader.specs.Images.{AreUndecided}
use Rattle.pbm_reader.specs.Reader.{MayBe, MayBegin, IsAtPlace, StandsAtEnd}
use Rattle.layout_outside.specs.Taken.{Took}
use Rattle.layout_outside.specs.Views.{SourceView}
use Rattle.pbm_reader.proofs.Taken.{err_map, some_of}
use Rattle.pbm_reader.proofs.Gaps.{some_is}
use Rattle.pbm_reader.proofs.Faults.{byte_faults}
use Rattle.pbm_reader.proofs.HeaderLoop.{IsNamedReading, header_taken, named_begins, named_on, reading_undecided, reading_whole}
use Rattle.pbm_reader.proofs.HeaderWalk.{is_whole}
use Rattle.pbm_reader.proofs.RasterJudged.{raw_begins}
use Rattle.pbm_reader.proofs.RawImages.{one_name}
use Rattle.pbm_reader.proofs.RowLoop.{raster_bound}
use Rattle.pbm_reader.proofs.Undecided.{letter_open, none_open}
use Rattle.pbm_reader.proofs.WholePage.{raster_stops}

-- ---- the name

pub held_more : {Own : Type 0} (old middle new : FeedView Own) (a b : List ℕ) → TookHeld old middle a → TookHeld middle new b → TookHeld old new (a ++ b)
held_more old middle new a b p q = record { same = q.same ∙ p.same; took = p.took ∙ ap (λ (l : List ℕ). a ++ l) q.took ∙ sym (append_assoc a b new.unread) }

-- the letter alone was held, or nothing
pub letter_part : {Own : Type 0} (old middle : FeedView Own) → TookHeld old middle (80 ∷ []) ⊎ (old.unread ≡ []) → middle.unread ≡ [] → IsNamePart old.unread
letter_part old middle (inl h) none = inr (h.took ∙ ap (λ (l : List ℕ). 80 ∷ l) none)
letter_part old middle (inr e) none = inl e

pub wrong_letter : {Own : Type 0} (old new : FeedView Own) (byte : ℕ) → TookHeld old new (byte ∷ []) ⊎ (old.unread ≡ []) → StaysInside old new (length old.unread) (faults.Magic 0) ⊎ IsNamePart old.unread
wrong_letter old new byte (inl h) = inl (h.same, omega (arith, ap length h.took))
wrong_letter old new byte (inr e) = inr (inl e)

pub two_held : {Own : Type 0} (old middle new : FeedView Own) (byte : ℕ) → TookHeld old middle (80 ∷ []) ⊎ (old.unread ≡ []) → TookHeld middle new (byte ∷ []) ⊎ (middle.unread ≡ [])
    → TookHeld old new (80 ∷ byte ∷ []) ⊎ IsNamePart old.unread
two_held old middle new byte (inl a) (inl b) = inl (held_more old middle new (80 ∷ []) (byte ∷ []) a b)
two_held old middle new byte (inl a) (inr none) = inr (letter_part old middle (inl a) none)
two_held old middle new byte (inr e) b = inr (inl e)

-- a name that is wrong at its second byte
pub wrong_second : {Own : Type 0} (old new : FeedView Own) (name : List ℕ) → 1 < length name → TookHeld old new name ⊎ IsNamePart old.unread
    → StaysInside old new (length old.unread) (faults.Magic 1) ⊎ IsNamePart old.unread
wrong_second old new name two (inl h) = inl (h.same, omega (arith, two, ap length h.took, length-append name new.unread))
wrong_second old new name two (inr part) = inr part

-- ---- the header

some_magic : (form : Form) → length (magic form) ≡ 2
some_magic Plain = refl
some_magic Raw = refl

-- what was taken where a read failed is all that was held
undecided_all : (all taken : List ℕ) → Took (only all) (only []) taken → AreUndecided taken → AreUndecided all
undecided_all all taken took u = subst AreUndecided (sym (some_is all (taken ++ []) took ∙ append-nil taken)) u

wrong_inside : (state : HeaderState) (at len : ℕ) → at < len → IsInside len (wrong_byte state at)
wrong_inside state at len lt =
    elim (byte_faults state at) [
      | inl name ↦ subst (IsInside len) (sym name.1) lt
      | inr behind ↦ subst (IsInside len) (sym behind.1) tt
    ]

size_inside : (width height len : ℕ) (fault : PageFault) → IsSizeFault width height fault → IsInside len fault
size_inside width height len (faults.Magic at) s = absurd s
size_inside width height len (faults.Truncated at) s = absurd s
size_inside width height len fault s = tt

-- a header is read so far of the bytes that were held, or these do not suffice
abbrev pub IsHeldReading : {Own : Type 0} → FeedView Own → FeedView Own → Form → ℕ → HeaderState → Type 0
IsHeldReading old now form at state =
    ((now.own ≡ old.own) × IsNamedReading (only (magic form ++ old.unread)) (only now.unread) form at state) ⊎ AreUndecided (magic form ++ old.unread)

module _ {Own : Type 0} (old : FeedView Own) (form : Form) where
  abbrev Lacks : Type 0
  Lacks = AreUndecided (magic form ++ old.unread)

  pub held_begins : IsHeldReading old old form 2 (Named form)
  held_begins = inl (refl, named_begins (only (magic form ++ old.unread)) (only old.unread) form refl)

  -- no byte is held behind what was read
  pub held_spent : (middle : FeedView Own) (at : ℕ) (state : HeaderState) → IsHeldReading old middle form at state → middle.unread ≡ [] → at ≤ 65536 → Lacks
  held_spent middle at state (inr lacks) none low = lacks
  held_spent middle at state (inl r) none low =
      let u = reading_undecided (only (magic form ++ old.unread)) (only middle.unread) (only []) at state r.1.reading (ap (λ (l : List ℕ). let o : Option (List ℕ) = Some l in o) none) low in
      undecided_all (magic form ++ old.unread) u.0 u.1 u.2

  abbrev Steps : FeedView Own → FeedView Own → ℕ → ℕ → HeaderState → Type 0
  Steps middle new at byte state = ((new.own ≡ old.own) × Took (only middle.unread) (only new.unread) (byte ∷ [])
      × IsNamedReading (only (magic form ++ old.unread)) (only middle.unread) form at state) ⊎ Lacks

  held_step : (middle new : FeedView Own) (at byte : ℕ) (state : HeaderState) → IsHeldReading old middle form at state → TookHeld middle new (byte ∷ []) ⊎ (middle.unread ≡ []) → at ≤ 65536
      → Steps middle new at byte state
  held_step middle new at byte state (inr lacks) b low = inr lacks
  held_step middle new at byte state (inl r) (inl b) low = inl (b.same ∙ r.0, ap (λ (l : List ℕ). let o : Option (List ℕ) = Some l in o) b.took, r.1)
  held_step middle new at byte state (inl r) (inr none) low = inr (held_spent middle at state (inl r) none low)

  -- the byte that was read is one that was held, or what is held does not suffice
  pub held_byte : (middle new : FeedView Own) (at : ℕ) (state : HeaderState) (next : Option ℕ) (byte : ℕ) → next ≡ Some byte
      → IfSome next (λ byte. TookHeld middle new (byte ∷ []) ⊎ (middle.unread ≡ [])) → IsHeldReading old middle form at state → at ≤ 65536 → Steps middle new at byte state
  held_byte middle new at state next byte is took reading low =
      held_step middle new at byte state reading (some_of next byte (λ byte. TookHeld middle new (byte ∷ []) ⊎ (middle.unread ≡ [])) is took) low

  pub held_on : (middle new : FeedView Own) (at byte : ℕ) (state next : HeaderState) → Steps middle new at byte state → next_state state byte ≡ Some next → is_whole next ≡ false
      → IsHeldReading old new form (at + 1) next
  held_on middle new at byte state next (inr lacks) step open_yet = inr lacks
  held_on middle new at byte state next (inl s) step open_yet =
      inl (s.0, named_on (only (magic form ++ old.unread)) (only middle.unread) (only new.unread) form at byte state next s.2 s.1 step open_yet)

  pub held_wrong : (middle new : FeedView Own) (at byte : ℕ) (state : HeaderState) → Steps middle new at byte state → StaysInside old new (2 + length old.unread) (wrong_byte state at) ⊎ Lacks
  held_wrong middle new at byte state (inr lacks) = inr lacks
  held_wrong middle new at byte state (inl s) =
      let r = s.2.reading in
      let all : magic form ++ old.unread ≡ r.taken ++ middle.unread = some_is (magic form ++ old.unread) (r.taken ++ middle.unread) r.took in
      let more : middle.unread ≡ byte ∷ new.unread = some_is middle.unread (byte ∷ new.unread) s.1 in
      inl (
        s.0,
        wrong_inside state at (2 + length old.unread)
            (omega (arith, some_magic form, length-append (magic form) old.unread, ap length all, length-append r.taken middle.unread, ap length more, r.len)),
      )

  pub held_sizes : (middle new : FeedView Own) (at byte : ℕ) (state : HeaderState) (named : Form) (width height : ℕ) (size : Size) → Steps middle new at byte state
      → next_state state byte ≡ Some (Whole named width height) → at < 65536 → IsPageSize width height × (size.width ≡ width) × (size.height ≡ height)
      → TookHeldSizes old new form (record { form = form; size = size; len = at + 1 }) ⊎ Lacks
  held_sizes middle new at byte state named width height size (inr lacks) step low sized = inr lacks
  held_sizes middle new at byte state named width height size (inl s) step low sized =
      let before = only (magic form ++ old.unread) in
      let after = only new.unread in
      inl (s.0, header_taken before after form width height (at + 1) size (reading_whole before (only middle.unread) after form at byte state named width height s.2 s.1 step low) sized)

  pub held_no_size : (middle new : FeedView Own) (at byte : ℕ) (state : HeaderState) (width height : ℕ) (fault : PageFault) → Steps middle new at byte state → IsSizeFault width height fault
      → StaysInside old new (2 + length old.unread) fault ⊎ Lacks
  held_no_size middle new at byte state width height fault (inr lacks) f = inr lacks
  held_no_size middle new at byte state width height fault (inl s) f = inl (s.0, size_inside width height (2 + length old.unread) fault f)

  pub held_long : (middle new : FeedView Own) (at byte : ℕ) (state : HeaderState) → Steps middle new at byte state → StaysInside old new (2 + length old.unread) faults.HeaderTooLong ⊎ Lacks
  held_long middle new at byte state (inr lacks) = inr lacks
  held_long middle new at byte state (inl s) = inl (s.0, tt)

-- ---- the rows

-- where rows of this length are held, so many as these, nothing was read for the first y of them
abbrev pub IsHeldRows : {Own : Type 0} → FeedView Own → FeedView Own → ℕ → ℕ → ℕ → Type 0
IsHeldRows old now y height row = height * row ≤ length old.unread → (now.own ≡ old.own) × (length old.unread ≡ y * row + length now.unread)

row_left : (y height row held now : ℕ) → y < height → height * row ≤ held → held ≡ y * row + now → row ≤ now
row_left y height row held now below enough total =
    let rows : suc y * row ≤ height * row = mul-le-mul_right row below in
    let one_more : suc y * row ≡ y * row + row = omega arith in
    omega (arith, rows, one_more, enough, total)

pub no_held_rows : {Own : Type 0} (old : FeedView Own) (height row : ℕ) → IsHeldRows old old 0 height row
no_held_rows old height row enough = (refl, omega arith)

pub held_row : {Own : Type 0} (old middle new : FeedView Own) (y height row at : ℕ) → IsHeldRows old middle y height row → y < height
    → (row ≤ length middle.unread → TakesHeld middle new row (let r : Result ℕ PageFault = Ok at in r)) → IsHeldRows old new (y + 1) height row
held_row old middle new y height row at rows below takes enough =
    let k = rows enough in
    let t = takes (row_left y height row (length old.unread) (length middle.unread) below enough k.1) in
    let one_more : suc y * row ≡ y * row + row = omega arith in
    let next : (y + 1) * row ≡ suc y * row = ap (λ (n : ℕ). n * row) (omega arith) in
    (t.0 ∙ k.0, omega (arith, k.1, t.1, one_more, next))

pub held_row_fails : {Own : Type 0} (old middle new : FeedView Own) (y height row : ℕ) (fault : PageFault) → IsHeldRows old middle y height row → y < height
    → (row ≤ length middle.unread → TakesHeld middle new row (let r : Result ℕ PageFault = Err fault in r)) → height * row ≤ length old.unread
    → TakesHeld old new (height * row) (let r : Result ℕ PageFault = Err fault in r)
held_row_fails old middle new y height row fault rows below takes enough =
    let k = rows enough in
    let t = takes (row_left y height row (length old.unread) (length middle.unread) below enough k.1) in
    (t.0 ∙ k.0, tt, t.2)

pub held_rows : {Own : Type 0} (old now : FeedView Own) (y height row at : ℕ) → IsHeldRows old now y height row → y ≡ height → height * row ≤ length old.unread
    → TakesHeld old now (height * row) (let r : Result ℕ PageFault = Ok at in r)
held_rows old now y height row at rows all enough =
    let k = rows enough in
    (k.0, k.1 ∙ ap (λ (n : ℕ). n * row + length now.unread) all, tt)

-- a raw raster is held whole behind its header, or what is held does not suffice
raw_lacks : (all rest : List ℕ) (header : Header) → TookHeader (only all) (only rest) header → header.form ≡ Raw → (header.size.height * row_len header.size.width ≤ length rest) ⊎ AreUndecided all
raw_lacks all rest header t raw =
    let size = header.size.height * row_len header.size.width in
    elim (cases_lt (length rest) size) [
      | inl lt ↦
          let begins = subst (λ (f : Form). IsFrontOf (IsRaster f header.size.width header.size.height) rest) (sym raw) (raw_begins header.size.width header.size.height rest lt) in
          let bound = raster_bound header.size.width header.size.height header.len t.size (omega (arith, t.len, t.short)) in
          let all_of : Took (only rest) (only []) rest = ap (λ (l : List ℕ). let o : Option (List ℕ) = Some l in o) (sym (append-nil rest)) in
          let s = raster_stops (only all) (only rest) (only []) header t (rest, all_of, begins, omega (arith, lt, bound)) in
          inr (undecided_all all s.0 s.1 s.2)
      | inr le ↦ inl le
    ]

memory_inside : (len : ℕ) (fault : PageFault) → fault ≡ faults.Memory → IsInside len fault
memory_inside len fault e = subst (IsInside len) (sym e) tt

pub rows_held : {Own T : Type 0} (old middle new : FeedView Own) (form : Form) (header : Header) (result : Result T PageFault) → header.form ≡ form → form ≡ Raw
    → TookHeldSizes old middle form header ⊎ AreUndecided (magic form ++ old.unread)
    → (header.form ≡ Raw → header.size.height * row_len header.size.width ≤ length middle.unread → TakesHeld middle new (header.size.height * row_len header.size.width) result)
    → ReadsNothing old new (2 + length old.unread) result ⊎ AreUndecided (magic form ++ old.unread)
rows_held old middle new form header result same raw (inr lacks) takes = inr lacks
rows_held old middle new form header result same raw (inl t) takes =
    elim (raw_lacks (magic form ++ old.unread) middle.unread header t.1 (same ∙ raw)) [
      | inl enough ↦
          let k = takes (same ∙ raw) enough in
          inl (k.0 ∙ t.0, err_map result (λ fault. fault ≡ faults.Memory) (λ fault. IsInside (2 + length old.unread) fault) (λ fault e. memory_inside (2 + length old.unread) fault e) k.2)
      | inr lacks ↦ inr lacks
    ]

-- a header was taken, whatever the sink answers to it
pub begin_held : {Own : Type 0} (old new : FeedView Own) (form : Form) (header : Header) (lacks : Type 0) → TookHeldSizes old new form header ⊎ lacks → ((new.own ≡ old.own) × ⊤) ⊎ lacks
begin_held old new form header lacks (inl t) = inl (t.0, tt)
begin_held old new form header lacks (inr l) = inr l

-- ---- the image

raw_form : (is_first : Bool) (form : Form) → MayBe is_first form → is_first ≡ false → form ≡ Raw
raw_form is_first Raw place later = refl
raw_form is_first Plain place later = absurd (not_both is_first (place refl) later)
  where
    not_both : (b : Bool) → b ≡ true → b ≡ false → ⊥
    not_both b p q = cc

pub part_lacks : (is_first : Bool) (held : List ℕ) → IsNamePart held → AreUndecided held × MayBegin is_first held
part_lacks is_first held (inl none) = (subst AreUndecided (sym none) none_open, λ later p. absurd (omega (arith, ap length none, ap length p.1)))
part_lacks is_first held (inr letter) = (subst AreUndecided (sym letter) letter_open, λ later p. absurd (omega (arith, ap length letter, ap length p.1)))

pub image_held : {Own T : Type 0} (old middle new : FeedView Own) (is_first : Bool) (form : Form) (result : Result T PageFault) → MayBe is_first form → is_first ≡ false
    → TookHeld old middle (magic form) ⊎ IsNamePart old.unread
    → (form ≡ Raw → ReadsNothing middle new (2 + length middle.unread) result ⊎ AreUndecided (magic form ++ middle.unread))
    → ReadsNothing old new (length old.unread) result ⊎ (AreUndecided old.unread × MayBegin is_first old.unread)
image_held old middle new is_first form result place later (inr part) reads = inr (part_lacks is_first old.unread part)
image_held old middle new is_first form result place later (inl h) reads =
    let raw = raw_form is_first form place later in
    elim (reads raw) [
      | inl r ↦
          let total : 2 + length middle.unread ≡ length old.unread = omega (arith, some_magic form, ap length h.took, length-append (magic form) middle.unread) in
          inl (r.0 ∙ h.same, subst (λ (n : ℕ). IfErr result (λ fault. IsInside n fault)) total r.1)
      | inr lacks ↦
          let all = sym h.took in
          let named : old.unread ≡ magic Raw ++ middle.unread = h.took ∙ ap (λ (f : Form). magic f ++ middle.unread) raw in
          inr (subst AreUndecided all lacks, λ _ p. one_name old.unread p (middle.unread, named))
    ]

pub image_of_held : {Own : Type 0} (old new : FeedView Own) (image : Image) (lacks : Type 0) → image.form ≡ Raw → ((new.own ≡ old.own) × ⊤) ⊎ lacks
    → ((new.own ≡ old.own) × (image.form ≡ Raw)) ⊎ lacks
image_of_held old new image lacks raw (inl r) = inl (r.0, raw)
image_of_held old new image lacks raw (inr l) = inr l

pub raw_image : (is_first : Bool) (form : Form) (image : Image) → MayBe is_first form → is_first ≡ false → image.form ≡ form → image.form ≡ Raw
raw_image is_first form image place later same = same ∙ raw_form is_first form place later

-- nothing is read behind a raw raster
pub kept_held : {Own : Type 0} (old middle new : FeedView Own) (lacks : Type 0) → new ≡ middle → ((middle.own ≡ old.own) × ⊤) ⊎ lacks → ((new.own ≡ old.own) × ⊤) ⊎ lacks
kept_held {Own} old middle new lacks same (inl r) = inl (ap (λ (f : FeedView Own). f.own) same ∙ r.0, tt)
kept_held old middle new lacks same (inr l) = inr l

-- the name is no name of an image
pub stays_held : {Own : Type 0} (old new : FeedView Own) (is_first : Bool) (fault : PageFault) → StaysInside old new (length old.unread) fault ⊎ IsNamePart old.unread
    → ((new.own ≡ old.own) × IsOfHeld (length old.unread) (Err fault)) ⊎ (AreUndecided old.unread × MayBegin is_first old.unread)
stays_held old new is_first fault (inl s) = inl s
stays_held old new is_first fault (inr part) = inr (part_lacks is_first old.unread part)

-- ---- the limit

inside_not_last : (len left : ℕ) (fault : PageFault) → IsInside len fault → len ≤ left → IsAtPlace left fault → ⊥
inside_not_last len left (faults.Magic at) lt le place = omega (arith, lt, le, place)
inside_not_last len left (faults.Truncated at) lt le place = lt
inside_not_last len left fault lt le place = place

-- an answer of what is held does not stand at the end of what may be read
pub held_not_last : (len left : ℕ) (answer : Result (Option Image) PageFault) → IsOfHeld len answer → len ≤ left → StandsAtEnd left answer → ⊥
held_not_last len left (Ok (Some image)) of_held le stands = raw_plain image.form of_held stands
  where
    raw_plain : (form : Form) → form ≡ Raw → form ≡ Plain → ⊥
    raw_plain form p q = cc
held_not_last len left (Ok None) of_held le stands = of_held
held_not_last len left (Err fault) of_held le stands = inside_not_last len left fault of_held le stands

-- nor does it where the image and what is unread behind it are within the limit, or are refused as too long
pub within_not_last : (len left : ℕ) (answer result : Result (Option Image) PageFault) (kept unread : List ℕ)
    → IfOk result (λ read. IfSome read (λ image. (answer ≡ Ok (Some image)) × (kept ≡ unread) × (image.len + length kept ≤ left)))
    → IfOk result (λ read. IfNone read ((answer ≡ Ok None) × (kept ≡ [])))
    → IfErr result (λ fault. (kept ≡ []) × ((answer ≡ Err fault) ⊎ ((fault ≡ faults.InputTooLong) × ((image : Image) × (answer ≡ Ok (Some image)) × (left < image.len + length unread)))))
    → IsOfHeld len answer → len ≤ left → StandsAtEnd left result → ⊥
within_not_last len left answer (Ok (Some image)) kept unread i n f of_held le stands = held_not_last len left (Ok (Some image)) (subst (IsOfHeld len) i.0 of_held) le stands
within_not_last len left answer (Ok None) kept unread i n f of_held le stands = held_not_last len left (Ok None) (subst (IsOfHeld len) n.0 of_held) le stands
within_not_last len left answer (Err fault) kept unread i n f of_held le stands =
    elim f.1 [
      | inl is ↦ held_not_last len left (Err fault) (subst (IsOfHeld len) is of_held) le stands
      | inr long ↦ subst (IsAtPlace left) long.0 stands
    ]

-- ---- the piece

-- what a feed did is done by its source and its piece
pub piece_held : {Own : Type 0} (old new : FeedView Own) (own piece kept : PieceView) (name last_name : ℕ) (source later : SourceView) (first middle last : Own) (is_first : Bool)
    (result : Result (Option Image) PageFault) → old ≡ fed name first source own → own ≡ piece → new ≡ fed last_name middle later kept → last ≡ middle
    → (is_first ≡ false → ((new.own ≡ old.own) × IsOfHeld (length old.unread) result) ⊎ (AreUndecided old.unread × MayBegin is_first old.unread))
    → is_first ≡ false → ((last ≡ first) × IsOfHeld (length piece.unread) result) ⊎ (AreUndecided piece.unread × MayBegin is_first piece.unread)
piece_held {Own} old new own piece kept name last_name source later first middle last is_first result begins is ends same reads is_later =
    let held : old.unread ≡ piece.unread = ap (λ (f : FeedView Own). f.unread) begins ∙ ap (λ (p : PieceView). p.unread) is in
    elim (reads is_later) [
      | inl r ↦
          let kept_own : last ≡ first = same ∙ sym (ap (λ (f : FeedView Own). f.own) ends) ∙ r.0 ∙ ap (λ (f : FeedView Own). f.own) begins in
          inl (kept_own, subst (λ (l : List ℕ). IsOfHeld (length l) result) held r.1)
      | inr u ↦ inr (subst AreUndecided held u.0, subst (λ (l : List ℕ). MayBegin is_first l) held u.1)
    ]
