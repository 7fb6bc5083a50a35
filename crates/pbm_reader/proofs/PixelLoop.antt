-- Pixels of a plain raster are read one after the other.
use Rattle.std.proofs.Common.{lit<, ◌≡◌, ℕ, ◌+◌, ◌<◌, ◌≤◌, ◌⊎◌, Bool, true, false, not, cond, eqb, List, [], ◌∷◌, ◌++◌, length, get_or, refl, sym, ap, subst, ◌∙◌, append_assoc, append-nil, inl, inr, arith}
use Rattle.std.proofs.lemmas.Bool.{cases_lt, eqb-true, eq-eqb, ne_eqb}
use Rattle.std.proofs.lemmas.List.{length-append, get_or_append_left, get_or_past}
use Rattle.std.proofs.lemmas.List.Folds.{concat-append}
use Rattle.std.proofs.Math.Seq.{get_or-append-add}
use Rattle.std.specs.List.{concat}
use Rattle.pbm_reader.specs.declared.fault.PageFault.{PageFault}
use Rattle.pbm_reader.specs.declared.fault.PageFault.TheVariants as faults
use Rattle.pbm_reader.specs.declared.plain.PixelStep.TheVariants.{Blank, Found, Wrong}
use Rattle.packed_rows.specs.Page.{row_len, pixel, IsPackedRow}
use Rattle.pbm_reader.specs.Spelling.{is_white, is_line_end, AreInLine, IsWhite, IsComment, AreBlank, IsBlank, SpellsPixels}
use Rattle.pbm_reader.specs.Plain.{pixel_step, IsBlankPart, bit_of, ArePacked, TookPixels, PixelsBegun, PixelsFail, TookRow}
use Rattle.layout_outside.specs.Views.{SourceView}
use Rattle.layout_outside.specs.Taken.{Took, TookAll}
use Rattle.pbm_reader.proofs.Taken.{took_more, took_no_more, took_all, prepend_nothing}

-- ---- before a pixel

are_more : (pieces : List (List ℕ)) (piece : List ℕ) → AreBlank pieces → IsWhite piece ⊎ IsComment piece → AreBlank (pieces ++ piece ∷ [])
are_more [] piece are is = (is, tt)
are_more (first ∷ pieces) piece are is = (are.0, are_more pieces piece are.1 is)

blank_more : (blank piece : List ℕ) → IsBlank blank → IsWhite piece ⊎ IsComment piece → IsBlank (blank ++ piece)
blank_more blank piece b is = (
  b.0 ++ piece ∷ [],
  are_more b.0 piece b.1 is,
  ap (λ (l : List ℕ). l ++ piece) b.2 ∙ ap (λ (l : List ℕ). concat b.0 ++ l) (sym (append-nil piece)) ∙ sym (concat-append b.0 (piece ∷ [])),
)

line_more : (text : List ℕ) (byte : ℕ) → AreInLine text → is_line_end byte ≡ false → AreInLine (text ++ byte ∷ [])
line_more [] byte l w = (w, tt)
line_more (first ∷ text) byte l w = (l.0, line_more text byte l.1 w)

blank_is : (c d : Bool) → Blank c ≡ Blank d → c ≡ d
blank_is c d e = cc

found_is : (c d : Bool) → Found c ≡ Found d → c ≡ d
found_is c d e = cc

comment_step : (part : List ℕ) (byte : ℕ) (goes_on b : Bool) → is_line_end byte ≡ b → not b ≡ goes_on → IsBlankPart true part → IsBlankPart goes_on (part ++ byte ∷ [])
comment_step part byte true true w e p = absurd cc
comment_step part byte false false w e p = absurd cc
comment_step part byte false true w e p =
    let all : part ++ byte ∷ [] ≡ p.0 ++ (35 ∷ (p.1 ++ byte ∷ [])) = ap (λ (l : List ℕ). l ++ byte ∷ []) p.2 ∙ append_assoc p.0 (35 ∷ p.1) (byte ∷ []) in
    subst IsBlank (sym all) (blank_more p.0 (35 ∷ (p.1 ++ byte ∷ [])) p.3 (inr (record { text = p.1; end = byte; whole = refl; in_line = p.4; ends = w })))
comment_step part byte true false w e p =
    (p.0, p.1 ++ byte ∷ [], ap (λ (l : List ℕ). l ++ byte ∷ []) p.2 ∙ append_assoc p.0 (35 ∷ p.1) (byte ∷ []), p.3, line_more p.1 byte p.4 w)

-- what a byte that is no pixel's makes of the bytes before a pixel
part_more : (in_comment goes_on : Bool) (part : List ℕ) (byte : ℕ) → pixel_step in_comment byte ≡ Blank goes_on → IsBlankPart in_comment part → IsBlankPart goes_on (part ++ byte ∷ [])
part_more true goes_on part byte e p = comment_step part byte goes_on (is_line_end byte) refl (blank_is (not (is_line_end byte)) goes_on e) p
part_more false goes_on part byte e p = cases (eqb byte 48) (eqb byte 49) (eqb byte 35) refl (is_white byte) refl e
  where
    cases : (z o h : Bool) → eqb byte 35 ≡ h → (w : Bool) → is_white byte ≡ w
        → cond z (Found false) (cond o (Found true) (cond h (Blank true) (cond w (Blank false) Wrong))) ≡ Blank goes_on → IsBlankPart goes_on (part ++ byte ∷ [])
    cases true o h he w we q = absurd cc
    cases false true h he w we q = absurd cc
    cases false false true he w we q =
        let P : Bool → Type 0 = λ b. IsBlankPart b (part ++ byte ∷ []) in
        subst P (blank_is true goes_on q) (part, [], ap (λ (b : ℕ). part ++ b ∷ []) (eqb-true byte 35 he), p, tt)
    cases false false false he true we q =
        let P : Bool → Type 0 = λ b. IsBlankPart b (part ++ byte ∷ []) in
        subst P (blank_is false goes_on q) (blank_more part (byte ∷ []) p (inl (record { byte = byte; whole = refl; white = we })))
    cases false false false he false we q = absurd cc

record IsFound (in_comment is_black : Bool) (byte : ℕ) : Type 0 where
  pub outside : in_comment ≡ false
  pub byte_is : byte ≡ 48 + bit_of is_black

found_of : (in_comment is_black : Bool) (byte : ℕ) → pixel_step in_comment byte ≡ Found is_black → IsFound in_comment is_black byte
found_of true is_black byte e = absurd cc
found_of false is_black byte e = record { outside = refl; byte_is = cases (eqb byte 48) refl (eqb byte 49) refl (eqb byte 35) (is_white byte) e }
  where
    cases : (z : Bool) → eqb byte 48 ≡ z → (o : Bool) → eqb byte 49 ≡ o → (h w : Bool)
        → cond z (Found false) (cond o (Found true) (cond h (Blank true) (cond w (Blank false) Wrong))) ≡ Found is_black → byte ≡ 48 + bit_of is_black
    cases true ze o oe h w q = eqb-true byte 48 ze ∙ ap (λ (b : Bool). 48 + bit_of b) (found_is false is_black q)
    cases false ze true oe h w q = eqb-true byte 49 oe ∙ ap (λ (b : Bool). 48 + bit_of b) (found_is true is_black q)
    cases false ze false oe true w q = absurd cc
    cases false ze false oe false true q = absurd cc
    cases false ze false oe false false q = absurd cc

wrong_outside : (in_comment : Bool) (byte : ℕ) → pixel_step in_comment byte ≡ Wrong → in_comment ≡ false
wrong_outside true byte e = absurd cc
wrong_outside false byte e = refl

-- these bytes before a pixel were taken
pub record IsBetween (old now : SourceView) (start at : ℕ) (in_comment : Bool) : Type 0 where
  pub part : List ℕ
  pub took : Took old now part
  pub part_is : IsBlankPart in_comment part
  pub place : at ≡ start + length part

pub between_begins : (old : SourceView) (start : ℕ) → IsBetween old old start start false
between_begins old start = record { part = []; took = prepend_nothing old.left; part_is = ([], tt, refl); place = omega arith }

pub between_on : (old middle new : SourceView) (start at byte : ℕ) (in_comment goes_on : Bool) → IsBetween old middle start at in_comment → Took middle new (byte ∷ [])
    → pixel_step in_comment byte ≡ Blank goes_on → IsBetween old new start (at + 1) goes_on
between_on old middle new start at byte in_comment goes_on b took step = record {
  part = b.part ++ byte ∷ [];
  took = took_more old middle new b.part (byte ∷ []) b.took took;
  part_is = part_more in_comment goes_on b.part byte step b.part_is;
  place = omega (arith, b.place, length-append b.part (byte ∷ []));
}

bit_low : (b : Bool) → bit_of b < 2
bit_low true = lit< tt
bit_low false = lit< tt

pub between_found : (old middle new : SourceView) (start at byte : ℕ) (in_comment is_black : Bool) → IsBetween old middle start at in_comment → Took middle new (byte ∷ [])
    → pixel_step in_comment byte ≡ Found is_black → at < 268435456 → TookPixels old new start (at + 1) (bit_of is_black ∷ [])
between_found old middle new start at byte in_comment is_black b took step low =
    let f = found_of in_comment is_black byte step in
    let blank : IsBlank b.part = subst (λ (c : Bool). IsBlankPart c b.part) f.outside b.part_is in
    record {
      bytes = b.part ++ byte ∷ [];
      took = took_more old middle new b.part (byte ∷ []) b.took took;
      spelled = (b.part, [], ap (λ (n : ℕ). b.part ++ n ∷ []) f.byte_is, blank, bit_low is_black, refl);
      end_is = omega (arith, b.place, length-append b.part (byte ∷ []));
      low = omega (arith, low);
    }

begun_one : (in_comment : Bool) (part : List ℕ) → IsBlankPart in_comment part → PixelsBegun 1 in_comment part
begun_one in_comment part p = record { pixels = []; text = []; part = part; whole = refl; spelled = refl; fewer = lit< tt; part_is = p }

pub between_wrong : (old middle new : SourceView) (start at byte : ℕ) (in_comment : Bool) → IsBetween old middle start at in_comment → Took middle new (byte ∷ [])
    → pixel_step in_comment byte ≡ Wrong → at < 268435456 → PixelsFail old new start 1 (faults.Pixel at)
between_wrong old middle new start at byte in_comment b took step low =
    let outside = wrong_outside in_comment byte step in
    let blank : IsBlankPart false b.part = subst (λ (c : Bool). IsBlankPart c b.part) outside b.part_is in
    (b.part, byte, took_more old middle new b.part (byte ∷ []) b.took took, begun_one false b.part blank, subst (λ (c : Bool). pixel_step c byte ≡ Wrong) outside step, b.place, low)

pub between_end : (old middle new : SourceView) (start at : ℕ) (in_comment : Bool) → IsBetween old middle start at in_comment → TookAll middle new [] → at ≤ 268435456
    → PixelsFail old new start 1 (faults.Truncated at)
between_end old middle new start at in_comment b took low =
    let all = append-nil b.part in
    (in_comment, b.part, subst (λ (l : List ℕ). TookAll old new l) all (took_all old middle new b.part [] b.took took), begun_one in_comment b.part b.part_is, b.place, low)

pub between_unread : (old now new : SourceView) (start at : ℕ) (in_comment : Bool) → IsBetween old now start at in_comment → Took now new [] → at ≤ 268435456 → PixelsFail old new start 1 faults.ReadFault
between_unread old now new start at in_comment b none low = (in_comment, b.part, took_no_more old now new b.part b.took none, begun_one in_comment b.part b.part_is, omega (arith, b.place, low))

pub between_long : (old middle new : SourceView) (start at byte : ℕ) (in_comment : Bool) → IsBetween old middle start at in_comment → Took middle new (byte ∷ []) → at ≡ 268435456
    → PixelsFail old new start 1 faults.InputTooLong
between_long old middle new start at byte in_comment b took limit =
    (in_comment, b.part, byte, took_more old middle new b.part (byte ∷ []) b.took took, begun_one in_comment b.part b.part_is, omega (arith, b.place, limit))

-- ---- one pixel behind the other

pub spelled_more : (a b x y : List ℕ) → SpellsPixels a x → SpellsPixels b y → SpellsPixels (a ++ b) (x ++ y)
spelled_more [] b x y s t = subst (λ (l : List ℕ). SpellsPixels b (l ++ y)) (sym s) t
spelled_more (pixel ∷ a) b x y s t = (
  s.0,
  s.1 ++ y,
  ap (λ (l : List ℕ). l ++ y) s.2 ∙ append_assoc s.0 ((48 + pixel) ∷ s.1) y,
  s.3,
  s.4,
  spelled_more a b s.1 y s.5 t,
)

pub took_pixels : (old middle new : SourceView) (start at end : ℕ) (a b : List ℕ) → TookPixels old middle start at a → TookPixels middle new at end b → TookPixels old new start end (a ++ b)
took_pixels old middle new start at end a b p q = record {
  bytes = p.bytes ++ q.bytes;
  took = took_more old middle new p.bytes q.bytes p.took q.took;
  spelled = spelled_more a b p.bytes q.bytes p.spelled q.spelled;
  end_is = omega (arith, p.end_is, q.end_is, length-append p.bytes q.bytes);
  low = q.low;
}

begun_more : (a x : List ℕ) (n count : ℕ) (in_comment : Bool) (bytes : List ℕ) → SpellsPixels a x → length a + n ≤ count → PixelsBegun n in_comment bytes → PixelsBegun count in_comment (x ++ bytes)
begun_more a x n count in_comment bytes s le b =
    let fewer = b.fewer in
    record {
      pixels = a ++ b.pixels;
      text = x ++ b.text;
      part = b.part;
      whole = ap (λ (l : List ℕ). x ++ l) b.whole ∙ sym (append_assoc x b.text b.part);
      spelled = spelled_more a b.pixels x b.text s b.spelled;
      fewer = omega (arith, length-append a b.pixels, le, fewer);
      part_is = b.part_is;
    }

-- why pixels behind others were not read
pub pixels_fail : (old middle new : SourceView) (start at n count : ℕ) (a : List ℕ) (fault : PageFault) → TookPixels old middle start at a → length a + n ≤ count
    → PixelsFail middle new at n fault → PixelsFail old new start count fault
pixels_fail old middle new start at n count a (faults.Truncated end) p le f =
    (f.0, p.bytes ++ f.1, took_all old middle new p.bytes f.1 p.took f.2, begun_more a p.bytes n count f.0 f.1 p.spelled le f.3, omega (arith, p.end_is, f.4, length-append p.bytes f.1), f.5)
pixels_fail old middle new start at n count a (faults.Pixel place) p le f =
    let all = append_assoc p.bytes f.0 (f.1 ∷ []) in (
      p.bytes ++ f.0,
      f.1,
      subst (λ (l : List ℕ). Took old new l) (sym all) (took_more old middle new p.bytes (f.0 ++ f.1 ∷ []) p.took f.2),
      begun_more a p.bytes n count false f.0 p.spelled le f.3,
      f.4,
      omega (arith, p.end_is, f.5, length-append p.bytes f.0),
      f.6,
    )
pixels_fail old middle new start at n count a faults.InputTooLong p le f =
    let all = append_assoc p.bytes f.1 (f.2 ∷ []) in (
      f.0,
      p.bytes ++ f.1,
      f.2,
      subst (λ (l : List ℕ). Took old new l) (sym all) (took_more old middle new p.bytes (f.1 ++ f.2 ∷ []) p.took f.3),
      begun_more a p.bytes n count f.0 f.1 p.spelled le f.4,
      omega (arith, p.end_is, f.5, length-append p.bytes f.1),
    )
pixels_fail old middle new start at n count a faults.ReadFault p le f =
    (f.0, p.bytes ++ f.1, took_more old middle new p.bytes f.1 p.took f.2, begun_more a p.bytes n count f.0 f.1 p.spelled le f.3, omega (arith, p.end_is, f.4, length-append p.bytes f.1))
pixels_fail old middle new start at n count a faults.Memory p le f = (p.bytes ++ f.0, took_more old middle new p.bytes f.0 p.took f.1)
pixels_fail old middle new start at n count a (faults.Magic place) p le f = absurd f
pixels_fail old middle new start at n count a (faults.Header place) p le f = absurd f
pixels_fail old middle new start at n count a faults.HeaderTooLong p le f = absurd f
pixels_fail old middle new start at n count a faults.ZeroSize p le f = absurd f
pixels_fail old middle new start at n count a faults.TooManyImages p le f = absurd f
pixels_fail old middle new start at n count a (faults.TooLarge wide high) p le f = absurd f
pixels_fail old middle new start at n count a (faults.Trailing place) p le f = absurd f

-- ---- the packed row

-- the first pixels of a row were read, and packed
pub record IsFilling (old now : SourceView) (start at x : ℕ) (row : List ℕ) : Type 0 where
  pub pixels : List ℕ
  pub took : TookPixels old now start at pixels
  pub count : length pixels ≡ x
  pub packed : (k : ℕ) → pixel row k ≡ get_or pixels k 0

pub filling_begins : (old : SourceView) (start : ℕ) (row : List ℕ) → start ≤ 268435456 → ((k : ℕ) → pixel row k ≡ 0) → IsFilling old old start start 0 row
filling_begins old start row low white = record {
  pixels = [];
  took = record { bytes = []; took = prepend_nothing old.left; spelled = refl; end_is = omega arith; low = low };
  count = refl;
  packed = λ k. white k ∙ sym (get_or_past [] k 0 (omega arith));
}

one_more : (pixels : List ℕ) (bit k : ℕ) → get_or (pixels ++ bit ∷ []) k 0 ≡ cond (eqb k (length pixels)) bit (get_or pixels k 0)
one_more pixels bit k =
    elim (cases_lt k (length pixels)) [
      | inl lt ↦ get_or_append_left pixels (bit ∷ []) 0 k lt ∙ ap (λ (b : Bool). cond b bit (get_or pixels k 0)) (sym (ne_eqb k (length pixels) (λ e. omega (arith, e, lt))))
      | inr ge ↦
          elim (cases_lt (length pixels) k) [
            | inr le ↦
                let e : k ≡ length pixels + 0 = omega (arith, ge, le) in
                ap (λ (n : ℕ). get_or (pixels ++ bit ∷ []) n 0) e ∙ get_or-append-add pixels (bit ∷ []) 0 0
                ∙ ap (λ (b : Bool). cond b bit (get_or pixels k 0)) (sym (eq-eqb k (length pixels) (omega (arith, e))))
            | inl gt ↦
                get_or_past (pixels ++ bit ∷ []) k 0 (omega (arith, length-append pixels (bit ∷ []), gt)) ∙ sym (get_or_past pixels k 0 (omega (arith, gt)))
                ∙ ap (λ (b : Bool). cond b bit (get_or pixels k 0)) (sym (ne_eqb k (length pixels) (λ e. omega (arith, e, gt))))
          ]
    ]

pub filling_on : (old middle new : SourceView) (start at end x : ℕ) (is_black : Bool) (row next : List ℕ) → IsFilling old middle start at x row
    → TookPixels middle new at end (bit_of is_black ∷ []) → ((k : ℕ) → pixel next k ≡ cond (eqb k x) (bit_of is_black) (pixel row k)) → IsFilling old new start end (x + 1) next
filling_on old middle new start at end x is_black row next f took put = record {
  pixels = f.pixels ++ bit_of is_black ∷ [];
  took = took_pixels old middle new start at end f.pixels (bit_of is_black ∷ []) f.took took;
  count = omega (arith, length-append f.pixels (bit_of is_black ∷ []), f.count);
  packed = λ k.
      put k
      ∙ ap (λ (n : ℕ). cond (eqb k x) (bit_of is_black) n) (f.packed k)
      ∙ ap (λ (n : ℕ). cond (eqb k n) (bit_of is_black) (get_or f.pixels k 0)) (sym f.count)
      ∙ sym (one_more f.pixels (bit_of is_black) k);
}

pub filling_white : (old now : SourceView) (start at x : ℕ) (row : List ℕ) → IsFilling old now start at x row → pixel row x ≡ 0
filling_white old now start at x row f = f.packed x ∙ get_or_past f.pixels x 0 (omega (arith, f.count))

pub filled : (old now : SourceView) (start at x width : ℕ) (row : List ℕ) → IsFilling old now start at x row → x ≡ width → length row ≡ row_len width → TookRow old now start at width row
filled old now start at x width row f e len = record { pixels = f.pixels; took = f.took; count = f.count ∙ e; packed = record { len = len; pixels_are = f.packed } }

pub filling_fails : (old middle new : SourceView) (start at x width : ℕ) (row : List ℕ) (fault : PageFault) → IsFilling old middle start at x row → x < width
    → PixelsFail middle new at 1 fault → PixelsFail old new start width fault
filling_fails old middle new start at x width row fault f lt fails = pixels_fail old middle new start at 1 width f.pixels fault f.took (omega (arith, f.count, lt)) fails

-- the padding behind the pixels is white
pub are_packed : (width : ℕ) (pixels bits : List ℕ) → length pixels ≡ width → ArePacked width pixels bits → IsPackedRow width bits
are_packed width pixels bits count packed = record { len = packed.len; padding = λ x le. packed.pixels_are x ∙ get_or_past pixels x 0 (omega (arith, count, le)) }

pub row_packed : (old now : SourceView) (start end width : ℕ) (bits : List ℕ) → TookRow old now start end width bits → IsPackedRow width bits
row_packed old now start end width bits r = are_packed width r.pixels bits r.count r.packed
