-- Where the reading of an input stops, the input has the fault that is answered there.
use Rattle.std.proofs.Common.{◌≡◌, ℕ, ◌+◌, ◌-◌, ◌<◌, ◌≤◌, ◌⊎◌, min, Bool, true, false, cond, eqb, List, [], ◌∷◌, ◌++◌, length, take, drop, Option, Some, None, option_and_then, option_map, refl, sym, ap, subst, ◌∙◌, append_assoc, inl, inr, arith}
use Rattle.std.proofs.lemmas.Bool.Decides.{nat_tests}
use Rattle.std.proofs.lemmas.List.{append-nil, length-append, length-take-le, length-drop, take-append-drop}
use Rattle.pbm_reader.specs.declared.fault.PageFault.{PageFault}
use Rattle.pbm_reader.specs.declared.fault.PageFault.TheVariants as faults
use Rattle.pbm_reader.specs.declared.form.Form.{Form}
use Rattle.pbm_reader.specs.declared.form.Form.TheVariants.{Plain, Raw}
use Rattle.pbm_reader.specs.declared.state.HeaderState.{HeaderState}
use Rattle.pbm_reader.specs.declared.state.HeaderState.TheVariants.{Magic, Kind, Named, WidthGap, WidthComment, Width, HeightGap, HeightComment, Height, Whole}
use Rattle.packed_rows.specs.Page.{IsPageSize}
use Rattle.pbm_reader.specs.Spelling.{magic, is_white, is_line_end, IsHeader, IsSomeHeader, IsRaster}
use Rattle.pbm_reader.specs.Header.{with_digit, in_gap, in_comment, next_state, wrong_byte, missing_byte}
use Rattle.pbm_reader.specs.Fault.{Begins, HasMagic, IsFrontOf, IsMagicFault, IsHeaderFault, IsHeaderTooLong, HasPageHeader, IsSizeFault, IsTruncated, HasFaultWithin}
use Rattle.pbm_reader.proofs.Machines.{run, run_append, IsRead, IsOpen, IsStuck, front_of, stops_of, front_map, stops_map}
use Rattle.pbm_reader.proofs.Gaps.{some_is, none_some, not_both, tested, gap_tested}
use Rattle.pbm_reader.proofs.HeaderWalk.{is_whole, completes, header_machine, is_read, is_header, digit_tested}

-- ---- behind the form's name

abbrev pub past : HeaderState → Bool
past Magic = false
past Kind = false
past (Named form) = true
past (WidthGap form) = true
past (WidthComment form) = true
past (Width form width) = true
past (HeightGap form width) = true
past (HeightComment form width) = true
past (Height form width height) = true
past (Whole form width height) = true

is_past : (s n : HeaderState) → n ≡ s → past s ≡ true → past n ≡ true
is_past s n e p = ap past e ∙ p

gap_past : (gap comment n : HeaderState) (other : Option HeaderState) (byte : ℕ) → past gap ≡ true → past comment ≡ true → (other ≡ Some n → past n ≡ true) → in_gap gap comment other byte ≡ Some n
    → past n ≡ true
gap_past gap comment n other byte g c o e =
    elim (gap_tested gap comment n other byte e) [
      | inl w ↦ is_past gap n w.1 g
      | inr h ↦
          elim h [
            | inl k ↦ is_past comment n k.1 c
            | inr k ↦ o k
          ]
    ]

digit_past : (at : ℕ → HeaderState) (number byte : ℕ) (n : HeaderState) → ((v : ℕ) → past (at v) ≡ true) → option_map at (with_digit number byte) ≡ Some n → past n ≡ true
digit_past at number byte n p e = let d = digit_tested at number byte n e in ap past d.1 ∙ p _

comment_past : (gap comment n : HeaderState) (byte : ℕ) → past gap ≡ true → past comment ≡ true → in_comment gap comment byte ≡ Some n → past n ≡ true
comment_past gap comment n byte g c e =
    elim (tested (is_line_end byte) gap n (Some comment) e) [
      | inl w ↦ is_past gap n w.1 g
      | inr w ↦ is_past comment n (sym (some_is comment n w.1)) c
    ]

past_step : (s n : HeaderState) (byte : ℕ) → past s ≡ true → next_state s byte ≡ Some n → past n ≡ true
past_step Magic n byte p e = absurd cc
past_step Kind n byte p e = absurd cc
past_step (Named form) n byte p e = gap_past (WidthGap form) (WidthComment form) n None byte refl refl (λ o. absurd (none_some n o)) e
past_step (WidthGap form) n byte p e =
    gap_past (WidthGap form) (WidthComment form) n (option_map (λ w. Width form w) (with_digit 0 byte)) byte refl refl (λ o. digit_past (λ w. Width form w) 0 byte n (λ v. refl) o) e
past_step (WidthComment form) n byte p e = comment_past (WidthGap form) (WidthComment form) n byte refl refl e
past_step (Width form width) n byte p e =
    gap_past (HeightGap form width) (HeightComment form width) n (option_map (λ w. Width form w) (with_digit width byte)) byte refl refl
    (λ o. digit_past (λ w. Width form w) width byte n (λ v. refl) o) e
past_step (HeightGap form width) n byte p e =
    gap_past (HeightGap form width) (HeightComment form width) n (option_map (λ h. Height form width h) (with_digit 0 byte)) byte refl refl
    (λ o. digit_past (λ h. Height form width h) 0 byte n (λ v. refl) o) e
past_step (HeightComment form width) n byte p e = comment_past (HeightGap form width) (HeightComment form width) n byte refl refl e
past_step (Height form width height) n byte p e =
    elim (tested (is_white byte) (Whole form width height) n (option_map (λ h. Height form width h) (with_digit height byte)) e) [
      | inl w ↦ is_past (Whole form width height) n w.1 refl
      | inr w ↦ digit_past (λ h. Height form width h) height byte n (λ v. refl) w.1
    ]
past_step (Whole form width height) n byte p e = absurd (none_some n e)

past_run : (s t : HeaderState) (bytes : List ℕ) → past s ≡ true → run next_state s bytes ≡ Some t → past t ≡ true
past_run s t [] p e = ap past (sym (some_is s t e)) ∙ p
past_run s t (byte ∷ bytes) p e = cases (λ n q r. past_run n t bytes q r) (next_state s byte) refl e
  where
    cases : ((n : HeaderState) → past n ≡ true → run next_state n bytes ≡ Some t → past t ≡ true) → (o : Option HeaderState) → next_state s byte ≡ o
        → option_and_then (λ n. run next_state n bytes) o ≡ Some t → past t ≡ true
    cases again None q r = absurd (none_some t r)
    cases again (Some n) q r = again n (past_step s n byte p q) r

-- the form's name was read
pub record IsNamed (front : List ℕ) (t : HeaderState) : Type 0 where
  pub form : Form
  pub more : List ℕ
  pub text : front ≡ magic form ++ more
  pub past_it : past t ≡ true

is_eq : (a b : ℕ) → eqb a b ≡ true → a ≡ b
is_eq a b e = grind (arith, nat_tests)

-- nothing was read, or a `P`, or a form's name and what may follow it
pub read_so_far : (front : List ℕ) (t : HeaderState) → run next_state Magic front ≡ Some t → ((front ≡ []) × (t ≡ Magic)) ⊎ ((front ≡ 80 ∷ []) × (t ≡ Kind)) ⊎ IsNamed front t
read_so_far [] t e = inl (refl, sym (some_is Magic t e))
read_so_far (first ∷ []) t e = inr (inl (one (eqb first 80) refl e))
  where
    one : (b : Bool) → eqb first 80 ≡ b → option_and_then (λ n. run next_state n []) (cond b (Some Kind) None) ≡ Some t → (first ∷ [] ≡ 80 ∷ []) × (t ≡ Kind)
    one true q r = (ap (λ (n : ℕ). n ∷ []) (is_eq first 80 q), sym (some_is Kind t r))
    one false q r = absurd (none_some t r)
read_so_far (first ∷ second ∷ more) t e = inr (inr (two (eqb first 80) refl (eqb second 49) refl (eqb second 52) refl e))
  where
    named : (form : Form) (name : ℕ) → 80 ∷ name ∷ [] ≡ magic form → eqb first 80 ≡ true → eqb second name ≡ true → run next_state (Named form) more ≡ Some t → IsNamed (first ∷ second ∷ more) t
    named form name m p q r = record {
      form = form;
      more = more;
      text = ap (λ (n : ℕ). n ∷ second ∷ more) (is_eq first 80 p) ∙ ap (λ (n : ℕ). 80 ∷ n ∷ more) (is_eq second name q) ∙ ap (λ (l : List ℕ). l ++ more) m;
      past_it = past_run (Named form) t more refl r;
    }

    two : (p : Bool) → eqb first 80 ≡ p → (b : Bool) → eqb second 49 ≡ b → (d : Bool) → eqb second 52 ≡ d
        → option_and_then (λ n. option_and_then (λ k. run next_state k more) (next_state n second)) (cond p (Some Kind) None) ≡ Some t → IsNamed (first ∷ second ∷ more) t
    two false pe b be d de r = absurd (none_some t r)
    two true pe true be d de r =
        let at : run next_state (Named Plain) more ≡ Some t = ap (λ (c : Bool). option_and_then (λ k. run next_state k more) (option_map (λ form. Named form) (cond c (Some Plain) (cond (eqb second 52) (Some Raw) None)))) (sym be) ∙ r in
        named Plain 49 refl pe be at
    two true pe false be true de r =
        let at : run next_state (Named Raw) more ≡ Some t =
        ap (λ (c : Bool). option_and_then (λ k. run next_state k more) (option_map (λ form. Named form) (cond false (Some Plain) (cond c (Some Raw) None)))) (sym de)
        ∙ ap (λ (c : Bool). option_and_then (λ k. run next_state k more) (option_map (λ form. Named form) (cond c (Some Plain) (cond (eqb second 52) (Some Raw) None)))) (sym be) ∙ r in
        named Raw 52 refl pe de at
    two true pe false be false de r =
        let at : (let o : Option HeaderState = None in o) ≡ Some t =
        ap (λ (c : Bool). option_and_then (λ k. run next_state k more) (option_map (λ form. Named form) (cond false (Some Plain) (cond c (Some Raw) None)))) (sym de)
        ∙ ap (λ (c : Bool). option_and_then (λ k. run next_state k more) (option_map (λ form. Named form) (cond c (Some Plain) (cond (eqb second 52) (Some Raw) None)))) (sym be) ∙ r in
        absurd (none_some t at)

named_magic : (front rest : List ℕ) (t : HeaderState) → IsNamed front t → HasMagic (front ++ rest)
named_magic front rest t n = cases n.form n.text
  where
    cases : (form : Form) → front ≡ magic form ++ n.more → HasMagic (front ++ rest)
    cases Plain e = inl (n.more ++ rest, ap (λ (l : List ℕ). l ++ rest) e)
    cases Raw e = inr (n.more ++ rest, ap (λ (l : List ℕ). l ++ rest) e)

named_len : (front : List ℕ) (t : HeaderState) → IsNamed front t → 2 ≤ length front
named_len front t n = omega (arith, ap length n.text, length-append (magic n.form) n.more, two n.form)
  where
    two : (form : Form) → length (magic form) ≡ 2
    two Plain = refl
    two Raw = refl

-- ---- where a header's reading stops

head_is : (x y : ℕ) (xs ys : List ℕ) → x ∷ xs ≡ y ∷ ys → x ≡ y
head_is x y xs ys e = cc

tail_is : (x y : ℕ) (xs ys : List ℕ) → x ∷ xs ≡ y ∷ ys → xs ≡ ys
tail_is x y xs ys e = cc

no_p : (rest : List ℕ) → IsStuck next_state Magic rest → Begins (80 ∷ []) rest → ⊥
no_p rest stays b = refused (subst (λ (l : List ℕ). IsStuck next_state Magic l) b.1 stays)
  where
    refused : (let o : Option HeaderState = Some Kind in o) ≡ None → ⊥
    refused e = cc

no_name : (rest : List ℕ) → IsStuck next_state Kind rest → HasMagic (80 ∷ rest) → ⊥
no_name [] stays (inl m) = absurd (not_nil 49 m.0 (tail_is 80 80 [] (49 ∷ m.0) m.1))
  where
    not_nil : (x : ℕ) (xs : List ℕ) → [] ≡ x ∷ xs → ⊥
    not_nil x xs e = cc
no_name [] stays (inr m) = absurd (not_nil 52 m.0 (tail_is 80 80 [] (52 ∷ m.0) m.1))
  where
    not_nil : (x : ℕ) (xs : List ℕ) → [] ≡ x ∷ xs → ⊥
    not_nil x xs e = cc
no_name (byte ∷ rest) stays (inl m) = refused (subst (λ (n : ℕ). next_state Kind n ≡ None) (head_is byte 49 rest m.0 (tail_is 80 80 (byte ∷ rest) (49 ∷ m.0) m.1)) stays)
  where
    refused : (let o : Option HeaderState = Some (Named Plain) in o) ≡ None → ⊥
    refused e = cc
no_name (byte ∷ rest) stays (inr m) = refused (subst (λ (n : ℕ). next_state Kind n ≡ None) (head_is byte 52 rest m.0 (tail_is 80 80 (byte ∷ rest) (52 ∷ m.0) m.1)) stays)
  where
    refused : (let o : Option HeaderState = Some (Named Raw) in o) ≡ None → ⊥
    refused e = cc

-- in the form's name a wrong byte and a missing one are one fault, and behind it two
pub byte_faults : (t : HeaderState) (at : ℕ) → ((past t ≡ false) × (wrong_byte t at ≡ faults.Magic at) × (missing_byte t at ≡ faults.Magic at))
    ⊎ ((past t ≡ true) × (wrong_byte t at ≡ faults.Header at) × (missing_byte t at ≡ faults.Truncated at))
byte_faults Magic at = inl (refl, refl, refl)
byte_faults Kind at = inl (refl, refl, refl)
byte_faults (Named form) at = inr (refl, refl, refl)
byte_faults (WidthGap form) at = inr (refl, refl, refl)
byte_faults (WidthComment form) at = inr (refl, refl, refl)
byte_faults (Width form width) at = inr (refl, refl, refl)
byte_faults (HeightGap form width) at = inr (refl, refl, refl)
byte_faults (HeightComment form width) at = inr (refl, refl, refl)
byte_faults (Height form width height) at = inr (refl, refl, refl)
byte_faults (Whole form width height) at = inr (refl, refl, refl)

past_faults : (t : HeaderState) (at : ℕ) → past t ≡ true → (wrong_byte t at ≡ faults.Header at) × (missing_byte t at ≡ faults.Truncated at)
past_faults t at p =
    elim (byte_faults t at) [
      | inl name ↦ absurd (not_both (past t) p name.0)
      | inr behind ↦ (behind.1, behind.2)
    ]

-- nothing, or a `P`, and then no form's name
magic_fault : (front rest : List ℕ) (t : HeaderState) → IsStuck next_state t rest → ((front ≡ []) × (t ≡ Magic)) ⊎ ((front ≡ 80 ∷ []) × (t ≡ Kind))
    → IsMagicFault (front ++ rest) (length front)
magic_fault front rest t stays (inl m) =
    let P : HeaderState → Type 0 = λ s. IsStuck next_state s rest in
    let Q : List ℕ → Type 0 = λ l. IsMagicFault (l ++ rest) (length l) in
    subst Q (sym m.0) (inl (refl, no_p rest (subst P m.1 stays)))
magic_fault front rest t stays (inr m) =
    let P : HeaderState → Type 0 = λ s. IsStuck next_state s rest in
    let Q : List ℕ → Type 0 = λ l. IsMagicFault (l ++ rest) (length l) in
    subst Q (sym m.0) (inr (refl, (rest, refl), no_name rest (subst P m.1 stays)))

header_front : (front : List ℕ) (t : HeaderState) → IsOpen header_machine front t → IsFrontOf IsSomeHeader front
header_front front t o = front_map (IsRead header_machine) IsSomeHeader front is_header (front_of header_machine front t o)

-- a byte that no header has there
pub wrong_fault : (front : List ℕ) (byte : ℕ) (more : List ℕ) (t : HeaderState) → IsOpen header_machine front t → next_state t byte ≡ None → length front < 65536
    → HasFaultWithin (front ++ byte ∷ more) (wrong_byte t (length front))
wrong_fault front byte more t o e low = cases (read_so_far front t o.reads)
  where
    named : IsNamed front t → IsHeaderFault (front ++ byte ∷ more) (length front)
    named n = record {
      magic = named_magic front (byte ∷ more) t n;
      low = low;
      stops = stops_map (IsRead header_machine) IsSomeHeader (front ++ byte ∷ more) (length front) is_header is_read (stops_of header_machine front byte more t o e);
    }

    at_magic : (s : HeaderState) → t ≡ s → IsMagicFault (front ++ byte ∷ more) (length front) → wrong_byte s (length front) ≡ faults.Magic (length front)
        → HasFaultWithin (front ++ byte ∷ more) (wrong_byte t (length front))
    at_magic s is f m =
        let P : PageFault → Type 0 = λ k. HasFaultWithin (front ++ byte ∷ more) k in
        subst P (sym (ap (λ (u : HeaderState). wrong_byte u (length front)) is ∙ m)) f

    cases : ((front ≡ []) × (t ≡ Magic)) ⊎ ((front ≡ 80 ∷ []) × (t ≡ Kind)) ⊎ IsNamed front t → HasFaultWithin (front ++ byte ∷ more) (wrong_byte t (length front))
    cases (inl m) = at_magic Magic m.1 (magic_fault front (byte ∷ more) t e (inl m)) refl
    cases (inr (inl m)) = at_magic Kind m.1 (magic_fault front (byte ∷ more) t e (inr m)) refl
    cases (inr (inr n)) =
        let P : PageFault → Type 0 = λ k. HasFaultWithin (front ++ byte ∷ more) k in
        subst P (sym (past_faults t (length front) n.past_it).0) (named n)

-- an input that ends before its header is whole
pub missing_fault : (front : List ℕ) (t : HeaderState) → IsOpen header_machine front t → length front ≤ 65536 → HasFaultWithin front (missing_byte t (length front))
missing_fault front t o low = cases (read_so_far front t o.reads)
  where
    P : PageFault → Type 0
    P k = HasFaultWithin front k

    at_magic : (s : HeaderState) → t ≡ s → IsMagicFault (front ++ []) (length front) → missing_byte s (length front) ≡ faults.Magic (length front) → HasFaultWithin front (missing_byte t (length front))
    at_magic s is f m =
        let Q : List ℕ → Type 0 = λ l. IsMagicFault l (length front) in
        subst P (sym (ap (λ (u : HeaderState). missing_byte u (length front)) is ∙ m)) (subst Q (append-nil front) f)

    cases : ((front ≡ []) × (t ≡ Magic)) ⊎ ((front ≡ 80 ∷ []) × (t ≡ Kind)) ⊎ IsNamed front t → HasFaultWithin front (missing_byte t (length front))
    cases (inl m) = at_magic Magic m.1 (magic_fault front [] t tt (inl m)) refl
    cases (inr (inl m)) = at_magic Kind m.1 (magic_fault front [] t tt (inr m)) refl
    cases (inr (inr n)) =
        subst P (sym (past_faults t (length front) n.past_it).1)
        (record { end = refl; short = omega (arith, low); part = inl (record { some = named_len front t n; short = low; begins = header_front front t o }) })

-- 65,536 bytes, and more that go on with a header or end it
long_parts : (first second rest : List ℕ) (t : HeaderState) → run next_state Magic (first ++ second) ≡ Some t → length first ≡ 65536 → 0 < length (second ++ rest)
    → (is_whole t ≡ true → 0 < length second) → IsHeaderTooLong (first ++ (second ++ rest))
long_parts first second rest t reads len more done = record { front = first; behind = second ++ rest; whole = refl; len = len; begins = begins (is_whole t) refl; more = more }
  where
    IsReadHeader : List ℕ → Type 0
    IsReadHeader l = IsRead header_machine l

    front_read : (behind : List ℕ) (last : HeaderState) → 0 < length behind → run next_state Magic (first ++ behind) ≡ Some last → is_whole last ≡ true → IsFrontOf IsSomeHeader first
    front_read behind last some r w = record { rest = behind; some = some; is_text = is_header (first ++ behind) (last, r, w) }

    begins : (b : Bool) → is_whole t ≡ b → IsFrontOf IsSomeHeader first
    begins true w = front_read second t (done w) reads w
    begins false w =
        let c = completes t w in
        front_read (second ++ c.bytes) c.last (omega (arith, length-append second c.bytes, c.some))
        (ap (λ (l : List ℕ). run next_state Magic l) (sym (append_assoc first second c.bytes)) ∙ run_append next_state Magic t (first ++ second) c.bytes reads ∙ c.reads) c.whole

pub header_cut : (front : List ℕ) (t : HeaderState) → IsOpen header_machine front t → IsNamed front t → length front ≤ 65536 → IsTruncated front (length front)
header_cut front t o n low =
    record { end = refl; short = omega (arith, low); part = inl (record { some = named_len front t n; short = low; begins = header_front front t o }) }

-- more than 65,536 bytes that begin a header, or are one
pub too_long : (front rest : List ℕ) (t : HeaderState) → run next_state Magic front ≡ Some t → 65536 ≤ length front → 65536 < length (front ++ rest) → (is_whole t ≡ true → 65536 < length front)
    → IsHeaderTooLong (front ++ rest)
too_long front rest t reads le longer done =
    let first = take 65536 front in
    let second = drop 65536 front in
    let both : first ++ second ≡ front = take-append-drop 65536 front in
    let len : length first ≡ 65536 = length-take-le 65536 front le in
    let behind : length second ≡ length front - 65536 = length-drop 65536 front in
    let all : first ++ (second ++ rest) ≡ front ++ rest = sym (append_assoc first second rest) ∙ ap (λ (l : List ℕ). l ++ rest) both in
    subst IsHeaderTooLong all
    (long_parts first second rest t (ap (λ (l : List ℕ). run next_state Magic l) both ∙ reads) len
    (omega (arith, length-append second rest, length-append front rest, behind, longer, le)) (λ w. let lt = done w in omega (arith, behind, lt)))

-- ---- the sizes

min_size : (n : ℕ) → min n 999999999 ≤ 8192 → min n 999999999 ≡ n
min_size n le = omega (arith, le)

pub told_size : (width height : ℕ) → IsPageSize (min width 999999999) (min height 999999999) → (min width 999999999 ≡ width) × (min height 999999999 ≡ height)
told_size width height s = (min_size width s.width_bound, min_size height s.height_bound)

-- the sizes of a header that no page has
pub size_fault : (header behind : List ℕ) (form : Form) (width height : ℕ) (fault : PageFault) → IsHeader header form width height → length header ≤ 65536
    → IsSizeFault (min width 999999999) (min height 999999999) fault → HasFaultWithin (header ++ behind) fault
size_fault header behind form width height faults.ZeroSize h short f = record {
  form = form;
  width = width;
  height = height;
  sizes = record { header = header; behind = behind; has_header = record { whole = refl; is_header = h; short = short } };
  zero = zero_of f;
}
  where
    zero_of : (min width 999999999 ≡ 0) ⊎ (min height 999999999 ≡ 0) → (width ≡ 0) ⊎ (height ≡ 0)
    zero_of (inl e) = inl (omega (arith, e))
    zero_of (inr e) = inr (omega (arith, e))
size_fault header behind form width height (faults.TooLarge wide high) h short f = record {
  form = form;
  width = width;
  height = height;
  sizes = record { header = header; behind = behind; has_header = record { whole = refl; is_header = h; short = short } };
  some_width = omega (arith, f.0);
  some_height = omega (arith, f.1);
  large = λ s. f.2 (told s);
  width_told = f.3;
  height_told = f.4;
}
  where
    told : IsPageSize width height → IsPageSize (min width 999999999) (min height 999999999)
    told s =
        let wide : width ≡ min width 999999999 = omega (arith, s.width_bound) in
        let high : height ≡ min height 999999999 = omega (arith, s.height_bound) in
        let P : ℕ → Type 0 = λ n. IsPageSize n height in
        let Q : ℕ → Type 0 = λ n. IsPageSize (min width 999999999) n in
        subst Q high (subst P wide s)
size_fault header behind form width height (faults.Magic at) h short f = absurd f
size_fault header behind form width height (faults.Header at) h short f = absurd f
size_fault header behind form width height faults.HeaderTooLong h short f = absurd f
size_fault header behind form width height (faults.Truncated at) h short f = absurd f
size_fault header behind form width height (faults.Pixel at) h short f = absurd f
size_fault header behind form width height (faults.Trailing at) h short f = absurd f
size_fault header behind form width height faults.InputTooLong h short f = absurd f
size_fault header behind form width height faults.TooManyImages h short f = absurd f
size_fault header behind form width height faults.ReadFault h short f = absurd f
size_fault header behind form width height faults.Memory h short f = absurd f

-- ---- where a raster's reading stops

-- an input that ends before its raster is whole
pub raster_ends : (header part : List ℕ) (form : Form) (width height at : ℕ) → HasPageHeader (header ++ part) header part form width height
    → IsFrontOf (IsRaster form width height) part → at ≡ length header + length part → at ≤ 268435456 → IsTruncated (header ++ part) at
raster_ends header part form width height at h begins is low = record {
  end = is ∙ sym (length-append header part);
  short = low;
  part = inr (record { form = form; width = width; height = height; header = header; behind = part; has_header = h; begins = begins });
}
