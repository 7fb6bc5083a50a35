-- The header's machine reads just the headers.
use Rattle.std.proofs.Common.{lit<, ◌≡◌, ℕ, ◌⊎◌, min, Bool, true, false, cond, eqb, List, [], ◌∷◌, ◌++◌, Option, Some, None, option_map, refl, sym, ap, subst, ◌∙◌, append_assoc, inl, inr, arith}
use Rattle.std.proofs.lemmas.Bool.Decides.{nat_tests}
use Rattle.pbm_reader.specs.declared.form.Form.{Form}
use Rattle.pbm_reader.specs.declared.form.Form.TheVariants.{Plain, Raw}
use Rattle.pbm_reader.specs.declared.state.HeaderState.{HeaderState}
use Rattle.pbm_reader.specs.declared.state.HeaderState.TheVariants.{Magic, Kind, Named, WidthGap, WidthComment, Width, HeightGap, HeightComment, Height, Whole}
use Rattle.pbm_reader.specs.Spelling.{is_white, is_line_end, is_digit, magic, IsWhite, IsNumber, IsHeader, IsSomeHeader, value_from}
use Rattle.pbm_reader.specs.Header.{longer, with_digit, in_gap, next_state}
use Rattle.pbm_reader.proofs.Machines.{carried_back, run, Machine, Completes, IsRead}
use Rattle.pbm_reader.proofs.Gaps.{AfterBlank, AfterComment, AfterGap, AfterDigits, AfterNumber, ReadsGaps, blank_here, gap_blank, gap_white, gap_comment, comment_back, gap_of, told_from, told_value, digits_here, digits_more, number_first, run_gap, run_number, digit_not_white, digit_no_hash, gap_white_step, comment_end_step, comment_more_step, some_is, none_some, tested, gap_tested}

-- ---- the machine

abbrev pub is_whole : HeaderState → Bool
is_whole (Whole form width height) = true
is_whole state = false

-- a whole header has one form and one size
pub whole_form : (f g : Form) (a b c d : ℕ) → Whole f a b ≡ Whole g c d → f ≡ g
whole_form f g a b c d e = cc

pub whole_width : (f g : Form) (a b c d : ℕ) → Whole f a b ≡ Whole g c d → a ≡ c
whole_width f g a b c d e = cc

pub whole_height : (f g : Form) (a b c d : ℕ) → Whole f a b ≡ Whole g c d → b ≡ d
whole_height f g a b c d e = cc

pub whole_is : (s : HeaderState) → is_whole s ≡ true → (form : Form) × (width : ℕ) × (height : ℕ) × (s ≡ Whole form width height)
whole_is Magic w = absurd cc
whole_is Kind w = absurd cc
whole_is (Named form) w = absurd cc
whole_is (WidthGap form) w = absurd cc
whole_is (WidthComment form) w = absurd cc
whole_is (Width form width) w = absurd cc
whole_is (HeightGap form width) w = absurd cc
whole_is (HeightComment form width) w = absurd cc
whole_is (Height form width height) w = absurd cc
whole_is (Whole form width height) w = (form, width, height, refl)

pub whole_ends : (s : HeaderState) (byte : ℕ) → is_whole s ≡ true → next_state s byte ≡ None
whole_ends s byte w = let is = whole_is s w in ap (λ (state : HeaderState). next_state state byte) is.3

pub completes : (s : HeaderState) → is_whole s ≡ false → Completes next_state is_whole s
completes Magic w = record { bytes = 80 ∷ 52 ∷ 10 ∷ 49 ∷ 10 ∷ 49 ∷ 10 ∷ []; some = lit< tt; last = Whole Raw 1 1; reads = refl; whole = refl }
completes Kind w = record { bytes = 52 ∷ 10 ∷ 49 ∷ 10 ∷ 49 ∷ 10 ∷ []; some = lit< tt; last = Whole Raw 1 1; reads = refl; whole = refl }
completes (Named form) w = record { bytes = 10 ∷ 49 ∷ 10 ∷ 49 ∷ 10 ∷ []; some = lit< tt; last = Whole form 1 1; reads = refl; whole = refl }
completes (WidthGap form) w = record { bytes = 49 ∷ 10 ∷ 49 ∷ 10 ∷ []; some = lit< tt; last = Whole form 1 1; reads = refl; whole = refl }
completes (WidthComment form) w = record { bytes = 10 ∷ 49 ∷ 10 ∷ 49 ∷ 10 ∷ []; some = lit< tt; last = Whole form 1 1; reads = refl; whole = refl }
completes (Width form width) w = record { bytes = 10 ∷ 49 ∷ 10 ∷ []; some = lit< tt; last = Whole form width 1; reads = refl; whole = refl }
completes (HeightGap form width) w = record { bytes = 49 ∷ 10 ∷ []; some = lit< tt; last = Whole form width 1; reads = refl; whole = refl }
completes (HeightComment form width) w = record { bytes = 10 ∷ 49 ∷ 10 ∷ []; some = lit< tt; last = Whole form width 1; reads = refl; whole = refl }
completes (Height form width height) w = record { bytes = 10 ∷ []; some = lit< tt; last = Whole form width height; reads = refl; whole = refl }
completes (Whole form width height) w = absurd cc

abbrev pub header_machine : Machine HeaderState
header_machine = record { step = next_state; start = Magic; is_whole = is_whole; ends = whole_ends; completes = completes }

-- ---- a header is read whole

digit_step : (gap comment : HeaderState) (at : ℕ → HeaderState) (n byte : ℕ) → is_digit byte ≡ true
    → in_gap gap comment (option_map at (with_digit n byte)) byte ≡ Some (at (longer n byte))
digit_step gap comment at n byte d = rw (digit_not_white byte d, digit_no_hash byte d, d) refl

named_gaps : (form : Form) → ReadsGaps next_state (Named form) (WidthGap form) (WidthComment form)
named_gaps form = record {
  white = λ byte w. gap_white_step (WidthGap form) (WidthComment form) None byte w;
  hash = refl;
  ends = λ byte w. comment_end_step (WidthGap form) (WidthComment form) byte w;
  more = λ byte w. comment_more_step (WidthGap form) (WidthComment form) byte w;
}

width_gaps : (form : Form) → ReadsGaps next_state (WidthGap form) (WidthGap form) (WidthComment form)
width_gaps form = record {
  white = λ byte w. gap_white_step (WidthGap form) (WidthComment form) (option_map (λ n. Width form n) (with_digit 0 byte)) byte w;
  hash = refl;
  ends = λ byte w. comment_end_step (WidthGap form) (WidthComment form) byte w;
  more = λ byte w. comment_more_step (WidthGap form) (WidthComment form) byte w;
}

after_width_gaps : (form : Form) (width : ℕ) → ReadsGaps next_state (Width form width) (HeightGap form width) (HeightComment form width)
after_width_gaps form width = record {
  white = λ byte w. gap_white_step (HeightGap form width) (HeightComment form width) (option_map (λ n. Width form n) (with_digit width byte)) byte w;
  hash = refl;
  ends = λ byte w. comment_end_step (HeightGap form width) (HeightComment form width) byte w;
  more = λ byte w. comment_more_step (HeightGap form width) (HeightComment form width) byte w;
}

height_gaps : (form : Form) (width : ℕ) → ReadsGaps next_state (HeightGap form width) (HeightGap form width) (HeightComment form width)
height_gaps form width = record {
  white = λ byte w. gap_white_step (HeightGap form width) (HeightComment form width) (option_map (λ n. Height form width n) (with_digit 0 byte)) byte w;
  hash = refl;
  ends = λ byte w. comment_end_step (HeightGap form width) (HeightComment form width) byte w;
  more = λ byte w. comment_more_step (HeightGap form width) (HeightComment form width) byte w;
}

height_step : (form : Form) (width n byte : ℕ) → is_digit byte ≡ true → next_state (Height form width n) byte ≡ Some (Height form width (longer n byte))
height_step form width n byte d = rw (digit_not_white byte d, d) refl

height_end : (form : Form) (width height byte : ℕ) → is_white byte ≡ true → run next_state (Height form width height) (byte ∷ []) ≡ Some (Whole form width height)
height_end form width height byte w = rw w refl

from_name : (form : Form) (rest : List ℕ) → run next_state Magic (magic form ++ rest) ≡ run next_state (Named form) rest
from_name Plain rest = refl
from_name Raw rest = refl

number_told : (bytes : List ℕ) (value : ℕ) → IsNumber bytes value → told_from 0 bytes ≡ min value 999999999
number_told bytes value n = told_value 0 bytes ∙ ap (λ (v : ℕ). min v 999999999) (sym n.value_is)

-- the parts of a header, one behind the other
in_parts : (a b c d e f : List ℕ) → a ++ b ++ c ++ d ++ e ++ f ≡ a ++ (b ++ (c ++ (d ++ (e ++ f))))
in_parts a b c d e f = simp append_assoc

-- a header leads to its form and its sizes
pub header_reads : (bytes : List ℕ) (form : Form) (width height : ℕ) → IsHeader bytes form width height
    → run next_state Magic bytes ≡ Some (Whole form (min width 999999999) (min height 999999999))
header_reads bytes form width height h =
    let wide = told_from 0 h.width_text in
    let high = told_from 0 h.height_text in
    let fourth = h.height_text ++ h.end ∷ [] in
    let third = h.second_gap ++ fourth in
    let second = h.width_text ++ third in
    ap (λ (l : List ℕ). run next_state Magic l) (h.whole ∙ in_parts (magic form) h.gap h.width_text h.second_gap h.height_text (h.end ∷ []))
    ∙ from_name form (h.gap ++ second)
    ∙ run_gap next_state (Named form) (WidthGap form) (WidthComment form) h.gap second (named_gaps form) (width_gaps form) h.is_gap
    ∙ run_number next_state (WidthGap form) (λ n. Width form n) h.width_text third
    (λ byte d. digit_step (WidthGap form) (WidthComment form) (λ n. Width form n) 0 byte d)
    (λ n byte d. digit_step (HeightGap form n) (HeightComment form n) (λ n. Width form n) n byte d) h.is_width.some h.is_width.digits
    ∙ run_gap next_state (Width form wide) (HeightGap form wide) (HeightComment form wide) h.second_gap fourth (after_width_gaps form wide) (height_gaps form wide) h.is_second_gap
    ∙ run_number next_state (HeightGap form wide) (λ n. Height form wide n) h.height_text (h.end ∷ [])
    (λ byte d. digit_step (HeightGap form wide) (HeightComment form wide) (λ n. Height form wide n) 0 byte d)
    (λ n byte d. height_step form wide n byte d) h.is_height.some h.is_height.digits
    ∙ height_end form wide high h.end h.ends
    ∙ told (number_told h.width_text width h.is_width) (number_told h.height_text height h.is_height)
  where
    told : {a b x y : ℕ} → a ≡ x → b ≡ y → (let o : Option HeaderState = Some (Whole form a b) in o) ≡ Some (Whole form x y)
    told p q = cc

-- ---- what is read whole is a header

abbrev Ending : HeaderState → Form → ℕ → ℕ → List ℕ → Type 0
Ending t form width height bytes = IsWhite bytes × (t ≡ Whole form width height)

abbrev HeightPart : HeaderState → Form → ℕ → List ℕ → Type 0
HeightPart t form width = AfterNumber (λ height. Ending t form width height)

abbrev WidthPart : HeaderState → Form → List ℕ → Type 0
WidthPart t form = AfterNumber (λ width. AfterGap (HeightPart t form width))

abbrev NamedPart : HeaderState → Form → List ℕ → Type 0
NamedPart t form = AfterGap (WidthPart t form)

-- what the bytes behind a state are, where they lead to a whole header
abbrev Rest : HeaderState → HeaderState → List ℕ → Type 0
Rest t Magic bytes = (form : Form) × (rest : List ℕ) × (bytes ≡ magic form ++ rest) × NamedPart t form rest
Rest t Kind bytes = (form : Form) × (rest : List ℕ) × (80 ∷ bytes ≡ magic form ++ rest) × NamedPart t form rest
Rest t (Named form) bytes = NamedPart t form bytes
Rest t (WidthGap form) bytes = AfterBlank (WidthPart t form) bytes
Rest t (WidthComment form) bytes = AfterComment (WidthPart t form) bytes
Rest t (Width form width) bytes = AfterDigits width (λ w. AfterGap (HeightPart t form w)) bytes
Rest t (HeightGap form width) bytes = AfterBlank (HeightPart t form width) bytes
Rest t (HeightComment form width) bytes = AfterComment (HeightPart t form width) bytes
Rest t (Height form width height) bytes = AfterDigits height (λ h. Ending t form width h) bytes
Rest t (Whole form width height) bytes = (bytes ≡ []) × (t ≡ Whole form width height)

pub digit_tested : (at : ℕ → HeaderState) (number byte : ℕ) (n : HeaderState) → option_map at (with_digit number byte) ≡ Some n → (is_digit byte ≡ true) × (n ≡ at (longer number byte))
digit_tested at number byte n e = cases (is_digit byte) refl e
  where
    cases : (b : Bool) → is_digit byte ≡ b → option_map at (cond b (Some (longer number byte)) None) ≡ Some n → (is_digit byte ≡ true) × (n ≡ at (longer number byte))
    cases true p r = (p, sym (some_is (at (longer number byte)) n r))
    cases false p r = absurd (none_some n r)

-- a byte in front of bytes that end a header
one_back : (t s n : HeaderState) (byte : ℕ) (bytes : List ℕ) → next_state s byte ≡ Some n → Rest t n bytes → Rest t s (byte ∷ bytes)
one_back t Magic n byte bytes e r = cases (tested (eqb byte 80) Kind n None e)
  where
    is_p : eqb byte 80 ≡ true → byte ≡ 80
    is_p h = grind (arith, nat_tests)

    cases : ((eqb byte 80 ≡ true) × (n ≡ Kind)) ⊎ ((eqb byte 80 ≡ false) × ((let o : Option HeaderState = None in o) ≡ Some n)) → Rest t Magic (byte ∷ bytes)
    cases (inl h) =
        let P : HeaderState → Type 0 = λ s. Rest t s bytes in
        let k : Rest t Kind bytes = subst P h.1 r in
        (k.0, k.1, ap (λ (b : ℕ). b ∷ bytes) (is_p h.0) ∙ k.2, k.3)
    cases (inr h) = absurd (none_some n h.1)
one_back t Kind n byte bytes e r = cases (eqb byte 49) refl (eqb byte 52) refl e
  where
    is_one : eqb byte 49 ≡ true → byte ≡ 49
    is_one h = grind (arith, nat_tests)

    is_four : eqb byte 52 ≡ true → byte ≡ 52
    is_four h = grind (arith, nat_tests)

    P : HeaderState → Type 0
    P s = Rest t s bytes

    cases : (b : Bool) → eqb byte 49 ≡ b → (d : Bool) → eqb byte 52 ≡ d → option_map (λ form. Named form) (cond b (Some Plain) (cond d (Some Raw) None)) ≡ Some n → Rest t Kind (byte ∷ bytes)
    cases true h d k q = (Plain, bytes, ap (λ (b : ℕ). 80 ∷ b ∷ bytes) (is_one h), subst P (sym (some_is (Named Plain) n q)) r)
    cases false h true k q = (Raw, bytes, ap (λ (b : ℕ). 80 ∷ b ∷ bytes) (is_four k), subst P (sym (some_is (Named Raw) n q)) r)
    cases false h false k q = absurd (none_some n q)
one_back t (Named form) n byte bytes e r = cases (gap_tested (WidthGap form) (WidthComment form) n None byte e)
  where
    P : HeaderState → Type 0
    P s = Rest t s bytes

    cases : ((is_white byte ≡ true) × (n ≡ WidthGap form)) ⊎ ((byte ≡ 35) × (n ≡ WidthComment form)) ⊎ ((let o : Option HeaderState = None in o) ≡ Some n) → NamedPart t form (byte ∷ bytes)
    cases (inl w) = gap_white (WidthPart t form) byte bytes w.0 (subst P w.1 r)
    cases (inr (inl h)) = subst (λ (b : ℕ). NamedPart t form (b ∷ bytes)) (sym h.0) (gap_comment (WidthPart t form) bytes (subst P h.1 r))
    cases (inr (inr h)) = absurd (none_some n h)
one_back t (WidthGap form) n byte bytes e r = cases (gap_tested (WidthGap form) (WidthComment form) n (option_map (λ w. Width form w) (with_digit 0 byte)) byte e)
  where
    P : HeaderState → Type 0
    P s = Rest t s bytes

    K : List ℕ → Type 0
    K = WidthPart t form

    cases : ((is_white byte ≡ true) × (n ≡ WidthGap form)) ⊎ ((byte ≡ 35) × (n ≡ WidthComment form)) ⊎ (option_map (λ w. Width form w) (with_digit 0 byte) ≡ Some n) → AfterBlank K (byte ∷ bytes)
    cases (inl w) = gap_blank K (byte ∷ bytes) (gap_white K byte bytes w.0 (subst P w.1 r))
    cases (inr (inl h)) = subst (λ (b : ℕ). AfterBlank K (b ∷ bytes)) (sym h.0) (gap_blank K (35 ∷ bytes) (gap_comment K bytes (subst P h.1 r)))
    cases (inr (inr h)) =
        let d = digit_tested (λ w. Width form w) 0 byte n h in
        blank_here K (byte ∷ bytes) (number_first (λ w. AfterGap (HeightPart t form w)) byte bytes d.0 (subst P d.1 r))
one_back t (WidthComment form) n byte bytes e r = comment_back (λ (s : HeaderState). Rest t s bytes) (WidthPart t form) (WidthGap form) (WidthComment form) n byte bytes (λ b. b) (λ c. c) e r
one_back t (Width form width) n byte bytes e r = cases (gap_tested (HeightGap form width) (HeightComment form width) n (option_map (λ w. Width form w) (with_digit width byte)) byte e)
  where
    P : HeaderState → Type 0
    P s = Rest t s bytes

    K : ℕ → List ℕ → Type 0
    K w = AfterGap (HeightPart t form w)

    cases : ((is_white byte ≡ true) × (n ≡ HeightGap form width)) ⊎ ((byte ≡ 35) × (n ≡ HeightComment form width)) ⊎ (option_map (λ w. Width form w) (with_digit width byte) ≡ Some n)
        → AfterDigits width K (byte ∷ bytes)
    cases (inl w) = digits_here width K (byte ∷ bytes) (gap_white (HeightPart t form width) byte bytes w.0 (subst P w.1 r))
    cases (inr (inl h)) =
        subst (λ (b : ℕ). AfterDigits width K (b ∷ bytes)) (sym h.0) (digits_here width K (35 ∷ bytes) (gap_comment (HeightPart t form width) bytes (subst P h.1 r)))
    cases (inr (inr h)) =
        let d = digit_tested (λ w. Width form w) width byte n h in
        digits_more width K byte bytes d.0 (subst P d.1 r)
one_back t (HeightGap form width) n byte bytes e r =
    cases (gap_tested (HeightGap form width) (HeightComment form width) n (option_map (λ h. Height form width h) (with_digit 0 byte)) byte e)
  where
    P : HeaderState → Type 0
    P s = Rest t s bytes

    K : List ℕ → Type 0
    K = HeightPart t form width

    cases : ((is_white byte ≡ true) × (n ≡ HeightGap form width)) ⊎ ((byte ≡ 35) × (n ≡ HeightComment form width)) ⊎ (option_map (λ h. Height form width h) (with_digit 0 byte) ≡ Some n)
        → AfterBlank K (byte ∷ bytes)
    cases (inl w) = gap_blank K (byte ∷ bytes) (gap_white K byte bytes w.0 (subst P w.1 r))
    cases (inr (inl h)) = subst (λ (b : ℕ). AfterBlank K (b ∷ bytes)) (sym h.0) (gap_blank K (35 ∷ bytes) (gap_comment K bytes (subst P h.1 r)))
    cases (inr (inr h)) =
        let d = digit_tested (λ h. Height form width h) 0 byte n h in
        blank_here K (byte ∷ bytes) (number_first (λ h. Ending t form width h) byte bytes d.0 (subst P d.1 r))
one_back t (HeightComment form width) n byte bytes e r =
    comment_back (λ (s : HeaderState). Rest t s bytes) (HeightPart t form width) (HeightGap form width) (HeightComment form width) n byte bytes (λ b. b) (λ c. c) e r
one_back t (Height form width height) n byte bytes e r = cases (tested (is_white byte) (Whole form width height) n (option_map (λ h. Height form width h) (with_digit height byte)) e)
  where
    P : HeaderState → Type 0
    P s = Rest t s bytes

    K : ℕ → List ℕ → Type 0
    K h = Ending t form width h

    cases : ((is_white byte ≡ true) × (n ≡ Whole form width height)) ⊎ ((is_white byte ≡ false) × (option_map (λ h. Height form width h) (with_digit height byte) ≡ Some n))
        → AfterDigits height K (byte ∷ bytes)
    cases (inl w) =
        let k : Rest t (Whole form width height) bytes = subst P w.1 r in
        digits_here height K (byte ∷ bytes) (record { byte = byte; whole = ap (λ (l : List ℕ). byte ∷ l) k.0; white = w.0 }, k.1)
    cases (inr w) =
        let d = digit_tested (λ h. Height form width h) height byte n w.1 in
        digits_more height K byte bytes d.0 (subst P d.1 r)
one_back t (Whole form width height) n byte bytes e r = absurd (none_some n e)

whole_here : (t s : HeaderState) → s ≡ t → is_whole t ≡ true → Rest t s []
whole_here t s e w =
    let is = whole_is t w in
    let ended : Rest t (Whole is.0 is.1 is.2) [] = (refl, is.3) in
    subst (λ (k : HeaderState). Rest t k []) (sym (e ∙ is.3)) ended

ends_header : (bytes : List ℕ) (s t : HeaderState) → run next_state s bytes ≡ Some t → is_whole t ≡ true → Rest t s bytes
ends_header bytes s t e w = carried_back next_state t (Rest t) (λ s is. whole_here t s is w) (one_back t) bytes s e

-- the header that was read, and its sizes
pub record ReadHeader (bytes : List ℕ) (t : HeaderState) : Type 0 where
  pub form : Form
  pub width : ℕ
  pub height : ℕ
  pub is_header : IsHeader bytes form width height
  pub told : t ≡ Whole form (min width 999999999) (min height 999999999)

pub read_header : (bytes : List ℕ) (t : HeaderState) → run next_state Magic bytes ≡ Some t → is_whole t ≡ true → ReadHeader bytes t
read_header bytes t e w =
    let r = ends_header bytes Magic t e w in
    let g = gap_of (WidthPart t r.0) r.1 r.3 in
    let n = g.4 in
    let q = gap_of (HeightPart t r.0 (told_from 0 n.digits)) n.rest n.behind in
    let h = q.4 in
    let white = h.behind.0 in
    record {
      form = r.0;
      width = value_from 0 n.digits;
      height = value_from 0 h.digits;
      is_header = record {
        gap = g.0;
        width_text = n.digits;
        second_gap = q.0;
        height_text = h.digits;
        end = white.byte;
        whole = r.2 ∙ ap (λ (l : List ℕ). magic r.0 ++ l) (g.3 ∙ ap (λ (l : List ℕ). g.0 ++ l) (n.whole ∙ ap (λ (l : List ℕ). n.digits ++ l)
            (q.3 ∙ ap (λ (l : List ℕ). q.0 ++ l) (h.whole ∙ ap (λ (l : List ℕ). h.digits ++ l) white.whole))))
            ∙ sym (in_parts (magic r.0) g.0 n.digits q.0 h.digits (white.byte ∷ []));
        is_gap = g.2;
        is_width = record { some = n.some; digits = n.are; value_is = refl };
        is_second_gap = q.2;
        is_height = record { some = h.some; digits = h.are; value_is = refl };
        ends = white.white;
      };
      told = h.behind.1 ∙ told (told_value 0 n.digits) (told_value 0 h.digits);
    }
  where
    told : {form : Form} {a b x y : ℕ} → a ≡ x → b ≡ y → Whole form a b ≡ Whole form x y
    told p q = cc

pub is_read : (bytes : List ℕ) → IsSomeHeader bytes → IsRead header_machine bytes
is_read bytes h = (Whole h.0 (min h.1 999999999) (min h.2 999999999), header_reads bytes h.0 h.1 h.2 h.3, refl)

pub is_header : (bytes : List ℕ) → IsRead header_machine bytes → IsSomeHeader bytes
is_header bytes r = let h = read_header bytes r.0 r.1 r.2 in (h.form, h.width, h.height, h.is_header)
