-- White bytes, comments and digits, one byte at a time: what stands at the front of some bytes, and how a machine reads it.
use Rattle.std.proofs.Common.{◌≡◌, ℕ, ◌+◌, ◌-◌, ◌*◌, ◌<◌, ◌⊎◌, min, Bool, true, false, cond, eqb, List, [], ◌∷◌, ◌++◌, length, Option, Some, None, option_and_then, refl, sym, ap, subst, ◌∙◌, append_assoc, inl, inr, arith}
use Rattle.std.proofs.lemmas.Bool.Decides.{nat_tests}
use Rattle.std.proofs.lemmas.List.{length-append}
use Rattle.std.specs.List.{concat}
use Rattle.pbm_reader.specs.Spelling.{is_white, is_line_end, is_digit, AreInLine, IsComment, IsWhite, AreBlank, IsGap, AreDigits, value_from}
use Rattle.pbm_reader.specs.Header.{longer, in_gap, in_comment}
use Rattle.pbm_reader.proofs.Machines.{run}

-- ---- what stands at the front

-- any number of white bytes and comments, and behind them what K says
pub record AfterBlank (K : List ℕ → Type 0) (bytes : List ℕ) : Type 0 where
  pub pieces : List (List ℕ)
  pub rest : List ℕ
  pub whole : bytes ≡ concat pieces ++ rest
  pub blank : AreBlank pieces
  pub behind : K rest

-- a comment that has begun, and behind it the same
pub record AfterComment (K : List ℕ → Type 0) (bytes : List ℕ) : Type 0 where
  pub text : List ℕ
  pub end : ℕ
  pub rest : List ℕ
  pub whole : bytes ≡ text ++ end ∷ rest
  pub in_line : AreInLine text
  pub ends : is_line_end end ≡ true
  pub behind : AfterBlank K rest

-- one or more white bytes and comments
pub record AfterGap (K : List ℕ → Type 0) (bytes : List ℕ) : Type 0 where
  pub piece : List ℕ
  pub rest : List ℕ
  pub whole : bytes ≡ piece ++ rest
  pub is_piece : IsWhite piece ⊎ IsComment piece
  pub behind : AfterBlank K rest

pub blank_here : (K : List ℕ → Type 0) (bytes : List ℕ) → K bytes → AfterBlank K bytes
blank_here K bytes k = record { pieces = []; rest = bytes; whole = refl; blank = tt; behind = k }

pub gap_blank : (K : List ℕ → Type 0) (bytes : List ℕ) → AfterGap K bytes → AfterBlank K bytes
gap_blank K bytes g = record {
  pieces = g.piece ∷ g.behind.pieces;
  rest = g.behind.rest;
  whole = g.whole ∙ ap (λ (l : List ℕ). g.piece ++ l) g.behind.whole ∙ sym (append_assoc g.piece (concat g.behind.pieces) g.behind.rest);
  blank = (g.is_piece, g.behind.blank);
  behind = g.behind.behind;
}

pub gap_white : (K : List ℕ → Type 0) (byte : ℕ) (bytes : List ℕ) → is_white byte ≡ true → AfterBlank K bytes → AfterGap K (byte ∷ bytes)
gap_white K byte bytes w b = record {
  piece = byte ∷ [];
  rest = bytes;
  whole = refl;
  is_piece = inl (record { byte = byte; whole = refl; white = w });
  behind = b;
}

pub gap_comment : (K : List ℕ → Type 0) (bytes : List ℕ) → AfterComment K bytes → AfterGap K (35 ∷ bytes)
gap_comment K bytes c = record {
  piece = 35 ∷ (c.text ++ c.end ∷ []);
  rest = c.rest;
  whole = ap (λ (l : List ℕ). 35 ∷ l) (c.whole ∙ sym (append_assoc c.text (c.end ∷ []) c.rest));
  is_piece = inr (record { text = c.text; end = c.end; whole = refl; in_line = c.in_line; ends = c.ends });
  behind = c.behind;
}

pub comment_more : (K : List ℕ → Type 0) (byte : ℕ) (bytes : List ℕ) → is_line_end byte ≡ false → AfterComment K bytes → AfterComment K (byte ∷ bytes)
comment_more K byte bytes w c = record {
  text = byte ∷ c.text;
  end = c.end;
  rest = c.rest;
  whole = ap (λ (l : List ℕ). byte ∷ l) c.whole;
  in_line = (w, c.in_line);
  ends = c.ends;
  behind = c.behind;
}

pub comment_end : (K : List ℕ → Type 0) (byte : ℕ) (bytes : List ℕ) → is_line_end byte ≡ true → AfterBlank K bytes → AfterComment K (byte ∷ bytes)
comment_end K byte bytes w b = record { text = []; end = byte; rest = bytes; whole = refl; in_line = tt; ends = w; behind = b }

-- the bytes of a gap
pub gap_of : (K : List ℕ → Type 0) (bytes : List ℕ) → AfterGap K bytes → (gap : List ℕ) × (rest : List ℕ) × IsGap gap × (bytes ≡ gap ++ rest) × K rest
gap_of K bytes g = (
  g.piece ++ concat g.behind.pieces,
  g.behind.rest,
  ((g.piece ∷ g.behind.pieces, (g.is_piece, g.behind.blank), refl), omega (arith, length-append g.piece (concat g.behind.pieces), some g.piece g.is_piece)),
  g.whole ∙ ap (λ (l : List ℕ). g.piece ++ l) g.behind.whole ∙ sym (append_assoc g.piece (concat g.behind.pieces) g.behind.rest),
  g.behind.behind,
)
  where
    some : (piece : List ℕ) → IsWhite piece ⊎ IsComment piece → 0 < length piece
    some piece (inl w) = omega (arith, ap length w.whole)
    some piece (inr c) = omega (arith, ap length c.whole, length-append c.text (c.end ∷ []))

-- ---- digits

-- the value of more digits behind a number, where those above 999,999,999 aren't told apart
abbrev pub told_from : ℕ → List ℕ → ℕ
told_from before [] = before
told_from before (digit ∷ digits) = told_from (longer before digit) digits

pub told_value : (before : ℕ) (digits : List ℕ) → told_from (min before 999999999) digits ≡ min (value_from before digits) 999999999
told_value before [] = refl
told_value before (digit ∷ digits) =
    ap (λ (n : ℕ). told_from n digits) (same before digit) ∙ told_value (10 * before + (digit - 48)) digits
  where
    same : (n d : ℕ) → min (10 * min n 999999999 + (d - 48)) 999999999 ≡ min (10 * n + (d - 48)) 999999999
    same n d = omega arith

-- digits behind a number, and behind them what K says
pub record AfterDigits (before : ℕ) (K : ℕ → List ℕ → Type 0) (bytes : List ℕ) : Type 0 where
  pub digits : List ℕ
  pub rest : List ℕ
  pub whole : bytes ≡ digits ++ rest
  pub are : AreDigits digits
  pub behind : K (told_from before digits) rest

-- one or more digits
pub record AfterNumber (K : ℕ → List ℕ → Type 0) (bytes : List ℕ) : Type 0 where
  pub digits : List ℕ
  pub rest : List ℕ
  pub whole : bytes ≡ digits ++ rest
  pub some : 0 < length digits
  pub are : AreDigits digits
  pub behind : K (told_from 0 digits) rest

pub digits_here : (before : ℕ) (K : ℕ → List ℕ → Type 0) (bytes : List ℕ) → K before bytes → AfterDigits before K bytes
digits_here before K bytes k = record { digits = []; rest = bytes; whole = refl; are = tt; behind = k }

pub digits_more : (before : ℕ) (K : ℕ → List ℕ → Type 0) (byte : ℕ) (bytes : List ℕ) → is_digit byte ≡ true → AfterDigits (longer before byte) K bytes → AfterDigits before K (byte ∷ bytes)
digits_more before K byte bytes w d = record {
  digits = byte ∷ d.digits;
  rest = d.rest;
  whole = ap (λ (l : List ℕ). byte ∷ l) d.whole;
  are = (w, d.are);
  behind = d.behind;
}

pub number_first : (K : ℕ → List ℕ → Type 0) (byte : ℕ) (bytes : List ℕ) → is_digit byte ≡ true → AfterDigits (longer 0 byte) K bytes → AfterNumber K (byte ∷ bytes)
number_first K byte bytes w d = record {
  digits = byte ∷ d.digits;
  rest = d.rest;
  whole = ap (λ (l : List ℕ). byte ∷ l) d.whole;
  some = omega arith;
  are = (w, d.are);
  behind = d.behind;
}

-- ---- how a machine reads them

-- the states of a machine where a gap may stand, in the gap, and in a comment of it
pub record ReadsGaps {State : Type 0} (step : State → ℕ → Option State) (before gap comment : State) : Type 0 where
  pub white : (byte : ℕ) → is_white byte ≡ true → step before byte ≡ Some gap
  pub hash : step before 35 ≡ Some comment
  pub ends : (byte : ℕ) → is_line_end byte ≡ true → step comment byte ≡ Some gap
  pub more : (byte : ℕ) → is_line_end byte ≡ false → step comment byte ≡ Some comment

one_step : {State : Type 0} (step : State → ℕ → Option State) (s t : State) (byte : ℕ) (bytes : List ℕ) → step s byte ≡ Some t → run step s (byte ∷ bytes) ≡ run step t bytes
one_step {State} step s t byte bytes e = ap (λ (o : Option State). option_and_then (λ n. run step n bytes) o) e

pub run_comment : {State : Type 0} (step : State → ℕ → Option State) (before gap comment : State) (text : List ℕ) (end : ℕ) (rest : List ℕ) → ReadsGaps step before gap comment
    → AreInLine text → is_line_end end ≡ true → run step comment (text ++ end ∷ rest) ≡ run step gap rest
run_comment step before gap comment [] end rest r in_line ends = one_step step comment gap end rest (r.ends end ends)
run_comment step before gap comment (byte ∷ text) end rest r in_line ends =
    one_step step comment comment byte (text ++ end ∷ rest) (r.more byte in_line.0) ∙ run_comment step before gap comment text end rest r in_line.1 ends

pub run_piece : {State : Type 0} (step : State → ℕ → Option State) (before gap comment : State) (piece rest : List ℕ) → ReadsGaps step before gap comment
    → IsWhite piece ⊎ IsComment piece → run step before (piece ++ rest) ≡ run step gap rest
run_piece step before gap comment piece rest r (inl w) =
    ap (λ (l : List ℕ). run step before (l ++ rest)) w.whole ∙ one_step step before gap w.byte rest (r.white w.byte w.white)
run_piece step before gap comment piece rest r (inr c) =
    ap (λ (l : List ℕ). run step before (l ++ rest)) c.whole
    ∙ one_step step before comment 35 ((c.text ++ c.end ∷ []) ++ rest) r.hash
    ∙ ap (λ (l : List ℕ). run step comment l) (append_assoc c.text (c.end ∷ []) rest)
    ∙ run_comment step before gap comment c.text c.end rest r c.in_line c.ends

pub run_blank : {State : Type 0} (step : State → ℕ → Option State) (gap comment : State) (pieces : List (List ℕ)) (rest : List ℕ) → ReadsGaps step gap gap comment
    → AreBlank pieces → run step gap (concat pieces ++ rest) ≡ run step gap rest
run_blank step gap comment [] rest r blank = refl
run_blank step gap comment (piece ∷ pieces) rest r blank =
    ap (λ (l : List ℕ). run step gap l) (append_assoc piece (concat pieces) rest)
    ∙ run_piece step gap gap comment piece (concat pieces ++ rest) r blank.0
    ∙ run_blank step gap comment pieces rest r blank.1

pub run_gap : {State : Type 0} (step : State → ℕ → Option State) (before gap comment : State) (bytes rest : List ℕ) → ReadsGaps step before gap comment → ReadsGaps step gap gap comment
    → IsGap bytes → run step before (bytes ++ rest) ≡ run step gap rest
run_gap {State} step before gap comment bytes rest r q g = cases g.0.0 g.0.1 g.0.2
  where
    cases : (pieces : List (List ℕ)) → AreBlank pieces → bytes ≡ concat pieces → run step before (bytes ++ rest) ≡ run step gap rest
    cases [] blank e = absurd (omega (arith, g.1, ap length e))
    cases (piece ∷ pieces) blank e =
        ap (λ (l : List ℕ). run step before (l ++ rest)) e
        ∙ ap (λ (l : List ℕ). run step before l) (append_assoc piece (concat pieces) rest)
        ∙ run_piece step before gap comment piece (concat pieces ++ rest) r blank.0
        ∙ run_blank step gap comment pieces rest q blank.1

-- the states in which a number is read
pub run_digits : {State : Type 0} (step : State → ℕ → Option State) (at : ℕ → State) (before : ℕ) (digits rest : List ℕ)
    → ((n byte : ℕ) → is_digit byte ≡ true → step (at n) byte ≡ Some (at (longer n byte))) → AreDigits digits
    → run step (at before) (digits ++ rest) ≡ run step (at (told_from before digits)) rest
run_digits step at before [] rest goes are = refl
run_digits step at before (byte ∷ digits) rest goes are =
    one_step step (at before) (at (longer before byte)) byte (digits ++ rest) (goes before byte are.0) ∙ run_digits step at (longer before byte) digits rest goes are.1

pub run_number : {State : Type 0} (step : State → ℕ → Option State) (before : State) (at : ℕ → State) (digits rest : List ℕ)
    → ((byte : ℕ) → is_digit byte ≡ true → step before byte ≡ Some (at (longer 0 byte)))
    → ((n byte : ℕ) → is_digit byte ≡ true → step (at n) byte ≡ Some (at (longer n byte))) → 0 < length digits → AreDigits digits
    → run step before (digits ++ rest) ≡ run step (at (told_from 0 digits)) rest
run_number step before at [] rest first goes some are = absurd (omega (arith, some))
run_number step before at (byte ∷ digits) rest first goes some are =
    one_step step before (at (longer 0 byte)) byte (digits ++ rest) (first byte are.0) ∙ run_digits step at (longer 0 byte) digits rest goes are.1

-- ---- bytes of one kind are of no other

pub digit_not_white : (byte : ℕ) → is_digit byte ≡ true → is_white byte ≡ false
digit_not_white byte d = grind (arith, nat_tests)

pub digit_no_hash : (byte : ℕ) → is_digit byte ≡ true → eqb byte 35 ≡ false
digit_no_hash byte d = grind (arith, nat_tests)

-- ---- a byte in a gap, and what a gap's byte was

pub gap_white_step : {State : Type 0} (gap comment : State) (other : Option State) (byte : ℕ) → is_white byte ≡ true → in_gap gap comment other byte ≡ Some gap
gap_white_step gap comment other byte w = rw w refl

pub comment_end_step : {State : Type 0} (gap comment : State) (byte : ℕ) → is_line_end byte ≡ true → in_comment gap comment byte ≡ Some gap
comment_end_step gap comment byte w = rw w refl

pub comment_more_step : {State : Type 0} (gap comment : State) (byte : ℕ) → is_line_end byte ≡ false → in_comment gap comment byte ≡ Some comment
comment_more_step gap comment byte w = rw w refl

pub some_is : {A : Type 0} (a b : A) → (let o : Option A = Some a in o) ≡ Some b → a ≡ b
some_is a b e = cc

pub none_some : {A : Type 0} (a : A) → (let o : Option A = None in o) ≡ Some a → ⊥
none_some a e = cc

pub not_both : (b : Bool) → b ≡ true → b ≡ false → ⊥
not_both b p q = cc

-- why a test that gave a state gave it
pub tested : {State : Type 0} (b : Bool) (s n : State) (other : Option State) → cond b (Some s) other ≡ Some n → ((b ≡ true) × (n ≡ s)) ⊎ ((b ≡ false) × (other ≡ Some n))
tested true s n other e = inl (refl, sym (some_is s n e))
tested false s n other e = inr (refl, e)

pub gap_tested : {State : Type 0} (gap comment n : State) (other : Option State) (byte : ℕ) → in_gap gap comment other byte ≡ Some n
    → ((is_white byte ≡ true) × (n ≡ gap)) ⊎ ((byte ≡ 35) × (n ≡ comment)) ⊎ (other ≡ Some n)
gap_tested gap comment n other byte e = cases (tested (is_white byte) gap n (cond (eqb byte 35) (Some comment) other) e)
  where
    is_hash : eqb byte 35 ≡ true → byte ≡ 35
    is_hash h = grind (arith, nat_tests)

    inner : ((eqb byte 35 ≡ true) × (n ≡ comment)) ⊎ ((eqb byte 35 ≡ false) × (other ≡ Some n))
        → ((is_white byte ≡ true) × (n ≡ gap)) ⊎ ((byte ≡ 35) × (n ≡ comment)) ⊎ (other ≡ Some n)
    inner (inl h) = inr (inl (is_hash h.0, h.1))
    inner (inr h) = inr (inr h.1)

    cases : ((is_white byte ≡ true) × (n ≡ gap)) ⊎ ((is_white byte ≡ false) × (cond (eqb byte 35) (Some comment) other ≡ Some n))
        → ((is_white byte ≡ true) × (n ≡ gap)) ⊎ ((byte ≡ 35) × (n ≡ comment)) ⊎ (other ≡ Some n)
    cases (inl w) = inl w
    cases (inr w) = inner (tested (eqb byte 35) comment n other w.1)

-- a comment is read one byte back from what stands behind that byte
pub comment_back : {State : Type 0} (P : State → Type 0) (K : List ℕ → Type 0) (behind inside n : State) (byte : ℕ) (bytes : List ℕ) → (P behind → AfterBlank K bytes) → (P inside → AfterComment K bytes)
    → cond (is_line_end byte) (Some behind) (Some inside) ≡ Some n → P n → AfterComment K (byte ∷ bytes)
comment_back {State} P K behind inside n byte bytes blank comment e r = cases (tested (is_line_end byte) behind n (Some inside) e)
  where
    cases : ((is_line_end byte ≡ true) × (n ≡ behind)) ⊎ ((is_line_end byte ≡ false) × ((let o : Option State = Some inside in o) ≡ Some n)) → AfterComment K (byte ∷ bytes)
    cases (inl w) = comment_end K byte bytes w.0 (blank (subst P w.1 r))
    cases (inr w) = comment_more K byte bytes w.0 (comment (subst P (sym (some_is inside n w.1)) r))
