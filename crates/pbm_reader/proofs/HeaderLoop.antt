-- A header's loop keeps what was read of it, and each refusal is the fault of the input.
use Rattle.std.proofs.Common.{◌≡◌, ℕ, ◌+◌, ◌<◌, ◌≤◌, ◌⊎◌, min, Bool, true, false, List, [], ◌∷◌, ◌++◌, length, Option, Some, None, option_and_then, refl, sym, ap, subst, ◌∙◌, append_assoc, append-nil, inl, inr, arith}
use Rattle.std.specs.Prelude.{IfSome}
use Rattle.std.proofs.lemmas.Bool.{false_from_ne_true}
use Rattle.std.proofs.lemmas.List.{length-append}
use Rattle.pbm_reader.specs.declared.form.Form.{Form}
use Rattle.pbm_reader.specs.declared.form.Form.TheVariants.{Plain, Raw}
use Rattle.pbm_reader.specs.declared.fault.Size.{Size}
use Rattle.pbm_reader.specs.declared.fault.PageFault.{PageFault}
use Rattle.pbm_reader.specs.declared.fault.PageFault.TheVariants as faults
use Rattle.pbm_reader.specs.declared.state.HeaderState.{HeaderState}
use Rattle.pbm_reader.specs.declared.state.HeaderState.TheVariants.{Magic, Named, Whole}
use Rattle.packed_rows.specs.Page.{IsPageSize}
use Rattle.pbm_reader.specs.Spelling.{IsHeader, magic}
use Rattle.pbm_reader.specs.Header.{form_of, next_state, wrong_byte, missing_byte, IsNameFault, IsOfHeader, NameFails, TookHeader}
use Rattle.pbm_reader.specs.Fault.{Begins, HasFault, HasMagic, IsMagicFault, HasFaultWithin, IsSizeFault, DecidesNothing, IsTruncated, IsHeaderTooLong}
use Rattle.pbm_reader.specs.Images.{AreUndecided}
use Rattle.layout_outside.specs.Views.{SourceView}
use Rattle.layout_outside.specs.Taken.{Took, TookAll}
use Rattle.pbm_reader.specs.Reading.{Refuses}
use Rattle.pbm_reader.proofs.Taken.{known_map, took_more, took_no_more, took_all, of_all, of_end}
use Rattle.pbm_reader.proofs.Gaps.{none_some}
use Rattle.pbm_reader.proofs.Splits.{head_is, second_is}
use Rattle.pbm_reader.proofs.Machines.{run, run_append, IsOpen}
use Rattle.pbm_reader.proofs.HeaderWalk.{is_whole, header_machine, read_header, whole_is, whole_width, whole_height}
use Rattle.pbm_reader.proofs.RawImages.{header_begins, begins_more, one_name}
use Rattle.pbm_reader.proofs.Faults.{IsNamed, byte_faults, read_so_far, header_cut, wrong_fault, missing_fault, too_long, size_fault, told_size}
use Rattle.pbm_reader.proofs.OneFault.{has_fault, letter_fault, nothing_undecided, letter_undecided}
use Rattle.pbm_reader.proofs.Undecided.{cut_open, letter_open, none_open}

-- these bytes of a header were taken, and lead to this state
pub record IsReading (old now : SourceView) (at : ℕ) (state : HeaderState) : Type 0 where
  pub taken : List ℕ
  pub took : Took old now taken
  pub len : length taken ≡ at
  pub leads : IsOpen header_machine taken state

one_more : (taken : List ℕ) (byte : ℕ) (state next : HeaderState) → run next_state Magic taken ≡ Some state → next_state state byte ≡ Some next → run next_state Magic (taken ++ byte ∷ []) ≡ Some next
one_more taken byte state next reads step =
    run_append next_state Magic state taken (byte ∷ []) reads ∙ ap (λ (o : Option HeaderState). option_and_then (λ n. run next_state n []) o) step

pub reading_on : (old middle new : SourceView) (at byte : ℕ) (state next : HeaderState) → IsReading old middle at state → Took middle new (byte ∷ [])
    → next_state state byte ≡ Some next → is_whole next ≡ false → IsReading old new (at + 1) next
reading_on old middle new at byte state next r took step o = record {
  taken = r.taken ++ byte ∷ [];
  took = took_more old middle new r.taken (byte ∷ []) r.took took;
  len = omega (arith, length-append r.taken (byte ∷ []), r.len);
  leads = record { reads = one_more r.taken byte state next r.leads.reads step; open_yet = o };
}

-- these bytes begin with the name of this form
pub record IsNamedReading (old now : SourceView) (form : Form) (at : ℕ) (state : HeaderState) : Type 0 where
  pub reading : IsReading old now at state
  pub named : Begins (magic form) reading.taken

pub named_begins : (old now : SourceView) (form : Form) → Took old now (magic form) → IsNamedReading old now form 2 (Named form)
named_begins old now Plain took = record { reading = record { taken = magic Plain; took = took; len = refl; leads = record { reads = refl; open_yet = refl } }; named = ([], refl) }
named_begins old now Raw took = record { reading = record { taken = magic Raw; took = took; len = refl; leads = record { reads = refl; open_yet = refl } }; named = ([], refl) }

pub named_on : (old middle new : SourceView) (form : Form) (at byte : ℕ) (state next : HeaderState) → IsNamedReading old middle form at state → Took middle new (byte ∷ [])
    → next_state state byte ≡ Some next → is_whole next ≡ false → IsNamedReading old new form (at + 1) next
unfolding reading_on
named_on old middle new form at byte state next r took step o =
    record { reading = reading_on old middle new at byte state next r.reading took step o; named = begins_more (magic form) r.reading.taken (byte ∷ []) r.named }

-- a header has one name
one_form : (bytes : List ℕ) (form named : Form) (width height : ℕ) → IsHeader bytes form width height → length bytes ≤ 65536 → Begins (magic named) bytes → form ≡ named
one_form bytes form named width height h short b =
    by_form form named (header_begins bytes bytes [] form width height (record { whole = sym (append-nil bytes); is_header = h; short = short })) b
  where
    by_form : (f g : Form) → Begins (magic f) bytes → Begins (magic g) bytes → f ≡ g
    by_form Plain Plain x y = refl
    by_form Plain Raw x y = absurd (one_name bytes x y)
    by_form Raw Plain x y = absurd (one_name bytes y x)
    by_form Raw Raw x y = refl

-- a header was taken, of at most 65,536 bytes; a size above 999,999,999 is told as 999,999,999
pub record TookSizes (old new : SourceView) (form : Form) (wide high len : ℕ) : Type 0 where
  pub bytes : List ℕ
  pub took : Took old new bytes
  pub width : ℕ
  pub height : ℕ
  pub is_header : IsHeader bytes form width height
  pub width_told : wide ≡ min width 999999999
  pub height_told : high ≡ min height 999999999
  pub len_is : len ≡ length bytes
  pub short : length bytes ≤ 65536

pub reading_whole : (old middle new : SourceView) (named : Form) (at byte : ℕ) (state : HeaderState) (form : Form) (width height : ℕ) → IsNamedReading old middle named at state
    → Took middle new (byte ∷ []) → next_state state byte ≡ Some (Whole form width height) → at < 65536
    → TookSizes old new named width height (at + 1)
reading_whole old middle new named at byte state form width height n took step low =
    let r = n.reading in
    let bytes = r.taken ++ byte ∷ [] in
    let h = read_header bytes (Whole form width height) (one_more r.taken byte state (Whole form width height) r.leads.reads step) refl in
    let len = length-append r.taken (byte ∷ []) in
    let short : length bytes ≤ 65536 = omega (arith, len, r.len, low) in
    record {
      bytes = bytes;
      took = took_more old middle new r.taken (byte ∷ []) r.took took;
      width = h.width;
      height = h.height;
      is_header = subst (λ (f : Form). IsHeader bytes f h.width h.height) (one_form bytes h.form named h.width h.height h.is_header short (begins_more (magic named) r.taken (byte ∷ []) n.named)) h.is_header;
      width_told = whole_width form h.form width height (min h.width 999999999) (min h.height 999999999) h.told;
      height_told = whole_height form h.form width height (min h.width 999999999) (min h.height 999999999) h.told;
      len_is = omega (arith, len, r.len);
      short = short;
    }

-- a state that is no whole header
pub not_whole : (s : HeaderState) → ((form : Form) (width height : ℕ) → s ≡ Whole form width height → ⊥) → is_whole s ≡ false
not_whole s other = false_from_ne_true (is_whole s) (λ w. let is = whole_is s w in other is.0 is.1 is.2 is.3)

-- ---- refusals

-- a fault of the input is a refusal
pub refused : (old new : SourceView) (fault : PageFault) → (fault ≡ faults.ReadFault → ⊥) → IfSome old.left (λ input. HasFault input fault) → Refuses old new fault
refused old new (faults.Magic at) other f = f
refused old new (faults.Header at) other f = f
refused old new faults.HeaderTooLong other f = f
refused old new faults.ZeroSize other f = f
refused old new faults.TooManyImages other f = f
refused old new (faults.TooLarge width height) other f = f
refused old new (faults.Truncated at) other f = f
refused old new (faults.Pixel at) other f = f
refused old new (faults.Trailing at) other f = f
refused old new faults.InputTooLong other f = f
refused old new faults.ReadFault other f = absurd (other refl)
refused old new faults.Memory other f = tt

other_fault : (fault : PageFault) (at : ℕ) → (fault ≡ faults.Magic at) ⊎ ((fault ≡ faults.Header at) ⊎ (fault ≡ faults.Truncated at)) → fault ≡ faults.ReadFault → ⊥
other_fault fault at (inl f) e = cc
other_fault fault at (inr (inl f)) e = cc
other_fault fault at (inr (inr f)) e = cc

in_header : (fault : PageFault) (at : ℕ) → (fault ≡ faults.Magic at) ⊎ ((fault ≡ faults.Header at) ⊎ (fault ≡ faults.Truncated at)) → at ≤ 65536 → IsOfHeader fault
in_header fault at (inl f) low = subst IsOfHeader (sym f) low
in_header fault at (inr (inl f)) low = subst IsOfHeader (sym f) low
in_header fault at (inr (inr f)) low = subst IsOfHeader (sym f) low

pub wrong_of_header : (state : HeaderState) (at : ℕ) → at ≤ 65536 → IsOfHeader (wrong_byte state at)
wrong_of_header state at low =
    elim (byte_faults state at) [
      | inl name ↦ in_header (wrong_byte state at) at (inl name.1) low
      | inr behind ↦ in_header (wrong_byte state at) at (inr (inl behind.1)) low
    ]

pub missing_of_header : (state : HeaderState) (at : ℕ) → at ≤ 65536 → IsOfHeader (missing_byte state at)
missing_of_header state at low =
    elim (byte_faults state at) [
      | inl name ↦ in_header (missing_byte state at) at (inl name.2) low
      | inr behind ↦ in_header (missing_byte state at) at (inr (inr behind.2)) low
    ]

wrong_other : (state : HeaderState) (at : ℕ) → wrong_byte state at ≡ faults.ReadFault → ⊥
wrong_other state at e =
    elim (byte_faults state at) [
      | inl name ↦ other_fault (wrong_byte state at) at (inl name.1) e
      | inr behind ↦ other_fault (wrong_byte state at) at (inr (inl behind.1)) e
    ]

missing_other : (state : HeaderState) (at : ℕ) → missing_byte state at ≡ faults.ReadFault → ⊥
missing_other state at e =
    elim (byte_faults state at) [
      | inl name ↦ other_fault (missing_byte state at) at (inl name.2) e
      | inr behind ↦ other_fault (missing_byte state at) at (inr (inr behind.2)) e
    ]

pub wrong_fails : (old middle new : SourceView) (at byte : ℕ) (state : HeaderState) → IsReading old middle at state → Took middle new (byte ∷ [])
    → next_state state byte ≡ None → at < 65536 → Refuses old new (wrong_byte state at)
wrong_fails old middle new at byte state r took step low =
    let fault = wrong_byte state at in
    refused old new fault (wrong_other state at)
    (of_all (λ input. HasFault input fault) old new (r.taken ++ byte ∷ []) (took_more old middle new r.taken (byte ∷ []) r.took took)
    (λ rest.
    let P : List ℕ → Type 0 = λ l. HasFault l fault in
    let here = wrong_fault r.taken byte rest state r.leads step (omega (arith, r.len, low)) in
    subst P (sym (append_assoc r.taken (byte ∷ []) rest))
    (has_fault (r.taken ++ byte ∷ rest) fault (subst (λ (n : ℕ). HasFaultWithin (r.taken ++ byte ∷ rest) (wrong_byte state n)) r.len here))))

pub end_fails : (old middle new : SourceView) (at : ℕ) (state : HeaderState) → IsReading old middle at state → TookAll middle new [] → at ≤ 65536
    → Refuses old new (missing_byte state at)
end_fails old middle new at state r took low =
    let fault = missing_byte state at in
    let P : List ℕ → Type 0 = λ l. HasFault l fault in
    let here = missing_fault r.taken state r.leads (omega (arith, r.len, low)) in
    refused old new fault (missing_other state at)
    (of_end (λ input. HasFault input fault) old new (r.taken ++ []) (took_all old middle new r.taken [] r.took took)
    (subst P (sym (append-nil r.taken)) (has_fault r.taken fault (subst (λ (n : ℕ). HasFaultWithin r.taken (missing_byte state n)) r.len here))))

-- the name of a form was read
named : (old now : SourceView) (state : HeaderState) → (r : IsReading old now 65536 state) → IsNamed r.taken state
named old now state r =
    elim (read_so_far r.taken state r.leads.reads) [
      | inl m ↦ absurd (omega (arith, ap length m.0, r.len))
      | inr m ↦
          elim m [
            | inl k ↦ absurd (omega (arith, ap length k.0, r.len))
            | inr n ↦ n
          ]
    ]

-- the input ends behind 65,536 bytes of a header
pub limit_end : (old middle new : SourceView) (state : HeaderState) → IsReading old middle 65536 state → TookAll middle new [] → IfSome old.left (λ input. IsTruncated input 65536)
limit_end old middle new state r took =
    let cut = header_cut r.taken state r.leads (named old middle state r) (omega (arith, r.len)) in
    let P : List ℕ → Type 0 = λ l. IsTruncated l 65536 in
    of_end (λ input. IsTruncated input 65536) old new (r.taken ++ []) (took_all old middle new r.taken [] r.took took)
    (subst P (sym (append-nil r.taken)) (subst (λ (n : ℕ). IsTruncated r.taken n) r.len cut))

-- the input goes on behind 65,536 bytes of a header
pub limit_more : (old middle new : SourceView) (byte : ℕ) (state : HeaderState) → IsReading old middle 65536 state → Took middle new (byte ∷ []) → IfSome old.left (λ input. IsHeaderTooLong input)
limit_more old middle new byte state r took =
    of_all (λ input. IsHeaderTooLong input) old new (r.taken ++ byte ∷ []) (took_more old middle new r.taken (byte ∷ []) r.took took)
    (λ rest.
    let P : List ℕ → Type 0 = λ l. IsHeaderTooLong l in
    subst P (sym (append_assoc r.taken (byte ∷ []) rest))
    (too_long r.taken (byte ∷ rest) state r.leads.reads (omega (arith, r.len)) (omega (arith, length-append r.taken (byte ∷ rest), r.len))
    (λ w. absurd (not_both (is_whole state) w r.leads.open_yet))))
  where
    not_both : (b : Bool) → b ≡ true → b ≡ false → ⊥
    not_both b p q = cc

-- what was taken where a read fails while a header is read
pub reading_undecided : (old middle new : SourceView) (at : ℕ) (state : HeaderState) → IsReading old middle at state → Took middle new [] → at ≤ 65536
    → (taken : List ℕ) × Took old new taken × AreUndecided taken
reading_undecided old middle new at state r none low = (
  r.taken,
  took_no_more old middle new r.taken r.took none,
  elim (read_so_far r.taken state r.leads.reads) [
    | inl m ↦ subst AreUndecided (sym m.0) none_open
    | inr m ↦
        elim m [
          | inl k ↦ subst AreUndecided (sym k.0) letter_open
          | inr n ↦ cut_open r.taken (length r.taken) (header_cut r.taken state r.leads n (omega (arith, r.len, low)))
        ]
  ],
)

-- ---- the name

pub name_refuses : (old new : SourceView) (fault : PageFault) → NameFails old new fault → Refuses old new fault
name_refuses old new (faults.Magic at) f = known_map old.left (λ input. IsNameFault new at input) (λ input. IsMagicFault input at) (λ input n. n.fault) f
name_refuses old new faults.ReadFault f = (
  f.0,
  f.1,
  elim f.2 [
    | inl none ↦ subst DecidesNothing (sym none) nothing_undecided
    | inr letter ↦ subst DecidesNothing (sym letter) letter_undecided
  ],
)
name_refuses old new (faults.Header at) f = absurd f
name_refuses old new faults.HeaderTooLong f = absurd f
name_refuses old new faults.ZeroSize f = absurd f
name_refuses old new faults.TooManyImages f = absurd f
name_refuses old new (faults.TooLarge width height) f = absurd f
name_refuses old new (faults.Truncated at) f = absurd f
name_refuses old new (faults.Pixel at) f = absurd f
name_refuses old new (faults.Trailing at) f = absurd f
name_refuses old new faults.InputTooLong f = absurd f
name_refuses old new faults.Memory f = absurd f

-- ---- the sizes

pub sizes_fail : (old new : SourceView) (form : Form) (wide high len : ℕ) (fault : PageFault) → TookSizes old new form wide high len → IsSizeFault wide high fault → Refuses old new fault
sizes_fail old new form wide high len fault t f =
    let P : ℕ → Type 0 = λ n. IsSizeFault n high fault in
    let Q : ℕ → Type 0 = λ n. IsSizeFault (min t.width 999999999) n fault in
    let here = subst Q t.height_told (subst P t.width_told f) in
    refused old new fault (other fault f)
    (of_all (λ input. HasFault input fault) old new t.bytes t.took
    (λ rest. has_fault (t.bytes ++ rest) fault (size_fault t.bytes rest form t.width t.height fault t.is_header t.short here)))
  where
    other : (k : PageFault) → IsSizeFault wide high k → k ≡ faults.ReadFault → ⊥
    other faults.ZeroSize s e = cc
    other (faults.TooLarge width height) s e = cc
    other (faults.Magic at) s e = s
    other (faults.Header at) s e = s
    other faults.HeaderTooLong s e = s
    other faults.TooManyImages s e = s
    other (faults.Truncated at) s e = s
    other (faults.Pixel at) s e = s
    other (faults.Trailing at) s e = s
    other faults.InputTooLong s e = s
    other faults.ReadFault s e = s
    other faults.Memory s e = s

pub header_taken : (old new : SourceView) (form : Form) (wide high len : ℕ) (size : Size) → TookSizes old new form wide high len
    → IsPageSize wide high × (size.width ≡ wide) × (size.height ≡ high) → TookHeader old new (record { form = form; size = size; len = len })
header_taken old new form wide high len size t s =
    let P : ℕ → Type 0 = λ n. IsPageSize n high in
    let Q : ℕ → Type 0 = λ n. IsPageSize (min t.width 999999999) n in
    let e = told_size t.width t.height (subst Q t.height_told (subst P t.width_told s.0)) in
    let same_width : size.width ≡ t.width = s.1 ∙ t.width_told ∙ e.0 in
    let same_height : size.height ≡ t.height = s.2 ∙ t.height_told ∙ e.1 in
    record {
      bytes = t.bytes;
      took = t.took;
      is_header = subst (λ (n : ℕ). IsHeader t.bytes form n size.height) (sym same_width) (subst (λ (n : ℕ). IsHeader t.bytes form t.width n) (sym same_height) t.is_header);
      size = subst (λ (n : ℕ). IsPageSize n size.height) (sym s.1) (subst (λ (n : ℕ). IsPageSize wide n) (sym s.2) s.0);
      len = t.len_is;
      short = t.short;
    }

pub size_of_header : (width height : ℕ) (fault : PageFault) → IsSizeFault width height fault → IsOfHeader fault
size_of_header width height faults.ZeroSize s = tt
size_of_header width height (faults.TooLarge wide high) s = tt
size_of_header width height (faults.Magic at) s = absurd s
size_of_header width height (faults.Header at) s = absurd s
size_of_header width height faults.HeaderTooLong s = tt
size_of_header width height faults.TooManyImages s = absurd s
size_of_header width height (faults.Truncated at) s = absurd s
size_of_header width height (faults.Pixel at) s = absurd s
size_of_header width height (faults.Trailing at) s = absurd s
size_of_header width height faults.InputTooLong s = absurd s
size_of_header width height faults.ReadFault s = tt
size_of_header width height faults.Memory s = absurd s

-- the input ends before the name
pub nothing_named : (old new : SourceView) → TookAll old new [] → IfSome old.left (λ input. HasFault input (faults.Magic 0))
nothing_named old new end = of_end (λ input. HasFault input (faults.Magic 0)) old new [] end (inl (refl, λ b. omega (arith, ap length b.1)))

-- ---- the name, byte by byte

pub not_first : (old new : SourceView) (byte : ℕ) → Took old new (byte ∷ []) → (byte ≡ 80 → ⊥) → NameFails old new (faults.Magic 0)
not_first old new byte took other =
    of_all (λ input. IsNameFault new 0 input) old new (byte ∷ []) took
    (λ rest. record { fault = inl (refl, λ b. other (head_is byte 80 rest b.0 b.1)); ended = λ e. absurd (omega (arith, e)); some = λ e. omega arith })

pub no_second : (old middle new : SourceView) → Took old middle (80 ∷ []) → TookAll middle new [] → NameFails old new (faults.Magic 1)
no_second old middle new took end =
    of_end (λ input. IsNameFault new 1 input) old new (80 ∷ []) (took_all old middle new (80 ∷ []) [] took end) (record { fault = letter_fault; ended = λ e. end.end; some = λ e. omega arith })

pub not_second : (old middle new : SourceView) (byte : ℕ) → Took old middle (80 ∷ []) → Took middle new (byte ∷ []) → form_of byte ≡ None → NameFails old new (faults.Magic 1)
not_second old middle new byte took more none =
    of_all (λ input. IsNameFault new 1 input) old new (80 ∷ byte ∷ []) (took_more old middle new (80 ∷ []) (byte ∷ []) took more)
    (λ rest. record { fault = inr (refl, (byte ∷ rest, refl), λ m. no_form rest m); ended = λ e. absurd (omega (arith, e)); some = λ e. omega arith })
  where
    named : (digit : ℕ) (form : Form) → form_of digit ≡ Some form → byte ≡ digit → ⊥
    named digit form is e = absurd (none_some form (sym none ∙ ap form_of e ∙ is))

    no_form : (rest : List ℕ) → HasMagic (80 ∷ byte ∷ rest) → ⊥
    no_form rest (inl b) = named 49 Plain refl (second_is 80 byte 80 49 rest b.0 b.1)
    no_form rest (inr b) = named 52 Raw refl (second_is 80 byte 80 52 rest b.0 b.1)

pub wrong_not_cut : (state : HeaderState) (at end : ℕ) → wrong_byte state at ≡ faults.Truncated end → ⊥
wrong_not_cut state at end e =
    elim (byte_faults state at) [
      | inl name ↦ differ at end (sym name.1 ∙ e)
      | inr behind ↦ other at end (sym behind.1 ∙ e)
    ]
  where
    differ : (m n : ℕ) → faults.Magic m ≡ faults.Truncated n → ⊥
    differ m n e = cc

    other : (m n : ℕ) → faults.Header m ≡ faults.Truncated n → ⊥
    other m n e = cc
