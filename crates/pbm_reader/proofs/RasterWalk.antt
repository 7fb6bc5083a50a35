-- A machine that reads just the plain rasters of a number of pixels.
use Rattle.std.proofs.Common.{lit<, ◌≡◌, ℕ, zero, suc, ◌+◌, ◌-◌, ◌*◌, ◌<◌, ◌⊎◌, Bool, true, false, cond, eqb, List, [], ◌∷◌, ◌++◌, length, Option, Some, None, option_and_then, refl, sym, ap, subst, ◌∙◌, append_assoc, inl, inr, arith}
use Rattle.std.proofs.lemmas.Bool.Decides.{nat_tests}
use Rattle.std.proofs.lemmas.List.{append-nil}
use Rattle.std.specs.List.{concat}
use Rattle.pbm_reader.specs.declared.form.Form.TheVariants.{Plain}
use Rattle.pbm_reader.specs.declared.plain.PixelStep.TheVariants.{Blank, Found, Wrong}
use Rattle.pbm_reader.specs.Spelling.{is_white, is_line_end, AreInLine, IsBlank, SpellsPixels, IsRaster}
use Rattle.pbm_reader.specs.Header.{in_gap, in_comment}
use Rattle.pbm_reader.specs.Plain.{pixel_step, IsBlankPart, PixelsBegun}
use Rattle.pbm_reader.proofs.Machines.{carried_back, run, run_append, Machine, Completes, IsRead, IsOpen}
use Rattle.pbm_reader.proofs.Gaps.{AfterBlank, AfterComment, ReadsGaps, blank_here, gap_blank, gap_white, gap_comment, comment_back, run_blank, gap_white_step, comment_end_step, comment_more_step, none_some, tested, gap_tested}

-- all pixels were read; or they were not, so many are wanted behind the next one, and a comment has begun or not
pub data RasterState : Type 0 where
  whole : List ℕ → RasterState
  between : ℕ → List ℕ → RasterState
  comment : ℕ → List ℕ → RasterState

-- where so many pixels are wanted
abbrev pub wanted : ℕ → List ℕ → RasterState
wanted zero pixels = whole pixels
wanted (suc n) pixels = between n pixels

-- the byte is a pixel's character
abbrev pub with_pixel : ℕ → List ℕ → ℕ → Option RasterState
with_pixel n pixels byte = cond (eqb byte 48) (Some (wanted n (pixels ++ 0 ∷ []))) (cond (eqb byte 49) (Some (wanted n (pixels ++ 1 ∷ []))) None)

abbrev pub raster_step : RasterState → ℕ → Option RasterState
raster_step (whole pixels) byte = None
raster_step (between n pixels) byte = in_gap (between n pixels) (comment n pixels) (with_pixel n pixels byte) byte
raster_step (comment n pixels) byte = in_comment (between n pixels) (comment n pixels) byte

abbrev pub is_done : RasterState → Bool
is_done (whole pixels) = true
is_done (between n pixels) = false
is_done (comment n pixels) = false

pub done_ends : (s : RasterState) (byte : ℕ) → is_done s ≡ true → raster_step s byte ≡ None
done_ends (whole pixels) byte d = refl
done_ends (between n pixels) byte d = absurd cc
done_ends (comment n pixels) byte d = absurd cc

pub record Ending (n : ℕ) (pixels : List ℕ) : Type 0 where
  pub bytes : List ℕ
  pub last : List ℕ
  pub reads : run raster_step (wanted n pixels) bytes ≡ Some (whole last)

ending : (n : ℕ) (pixels : List ℕ) → Ending n pixels
ending zero pixels = record { bytes = []; last = pixels; reads = refl }
ending (suc n) pixels = let e = ending n (pixels ++ 0 ∷ []) in record { bytes = 48 ∷ e.bytes; last = e.last; reads = e.reads }

pub done_completes : (s : RasterState) → is_done s ≡ false → Completes raster_step is_done s
done_completes (whole pixels) d = absurd cc
done_completes (between n pixels) d =
    let e = ending (suc n) pixels in
    record { bytes = 48 ∷ (ending n (pixels ++ 0 ∷ [])).bytes; some = omega arith; last = whole (ending n (pixels ++ 0 ∷ [])).last; reads = (ending n (pixels ++ 0 ∷ [])).reads; whole = refl }
done_completes (comment n pixels) d =
    record { bytes = 10 ∷ 48 ∷ (ending n (pixels ++ 0 ∷ [])).bytes; some = omega arith; last = whole (ending n (pixels ++ 0 ∷ [])).last; reads = (ending n (pixels ++ 0 ∷ [])).reads; whole = refl }

abbrev pub raster_machine : ℕ → Machine RasterState
raster_machine count = record { step = raster_step; start = wanted count []; is_whole = is_done; ends = done_ends; completes = done_completes }

-- ---- the characters of pixels are read

between_gaps : (n : ℕ) (pixels : List ℕ) → ReadsGaps raster_step (between n pixels) (between n pixels) (comment n pixels)
between_gaps n pixels = record {
  white = λ byte w. gap_white_step (between n pixels) (comment n pixels) (with_pixel n pixels byte) byte w;
  hash = refl;
  ends = λ byte w. comment_end_step (between n pixels) (comment n pixels) byte w;
  more = λ byte w. comment_more_step (between n pixels) (comment n pixels) byte w;
}

blank_read : (n : ℕ) (pixels blank rest : List ℕ) → IsBlank blank → run raster_step (between n pixels) (blank ++ rest) ≡ run raster_step (between n pixels) rest
blank_read n pixels blank rest b =
    ap (λ (l : List ℕ). run raster_step (between n pixels) (l ++ rest)) b.2 ∙ run_blank raster_step (between n pixels) (comment n pixels) b.0 rest (between_gaps n pixels) b.1

pixel_read : (n pixel : ℕ) (pixels : List ℕ) → pixel < 2 → raster_step (between n pixels) (48 + pixel) ≡ Some (wanted n (pixels ++ pixel ∷ []))
pixel_read n zero pixels lt = refl
pixel_read n (suc zero) pixels lt = refl
pixel_read n (suc (suc pixel)) pixels lt = absurd (omega arith)

pub pixels_read : (more : List ℕ) (bytes : List ℕ) (k : ℕ) (pixels : List ℕ) → SpellsPixels more bytes
    → run raster_step (wanted (length more + k) pixels) bytes ≡ Some (wanted k (pixels ++ more))
pixels_read [] bytes k pixels s =
    let none : length {A = ℕ} [] + k ≡ k = omega arith in
    ap (λ (l : List ℕ). run raster_step (wanted (length {A = ℕ} [] + k) pixels) l) s
    ∙ ap (λ (n : ℕ). run raster_step (wanted n pixels) []) none
    ∙ ap (λ (l : List ℕ). Some (wanted k l)) (sym (append-nil pixels))
pixels_read (pixel ∷ more) bytes k pixels s =
    let n = length more + k in
    let size : length (pixel ∷ more) + k ≡ suc n = omega arith in
    ap (λ (m : ℕ). run raster_step (wanted m pixels) bytes) size
    ∙ ap (λ (l : List ℕ). run raster_step (between n pixels) l) s.2
    ∙ blank_read n pixels s.0 ((48 + pixel) ∷ s.1) s.3
    ∙ ap (λ (o : Option RasterState). option_and_then (λ t. run raster_step t s.1) o) (pixel_read n pixel pixels s.4)
    ∙ pixels_read more s.1 k (pixels ++ pixel ∷ []) s.5
    ∙ ap (λ (l : List ℕ). Some (wanted k l)) (append_assoc pixels (pixel ∷ []) more)

-- ---- what is read whole is a raster

record PixelPart (t : RasterState) (n : ℕ) (pixels bytes : List ℕ) : Type 0 where
  pub pixel : ℕ
  pub more : List ℕ
  pub rest : List ℕ
  pub text : bytes ≡ (48 + pixel) ∷ rest
  pub bit : pixel < 2
  pub spelled : SpellsPixels more rest
  pub count : length more ≡ n
  pub is : t ≡ whole (pixels ++ pixel ∷ more)

-- what the bytes behind a state are, where they lead to all pixels
abbrev Rest : RasterState → RasterState → List ℕ → Type 0
Rest t (whole pixels) bytes = (bytes ≡ []) × (t ≡ whole pixels)
Rest t (between n pixels) bytes = AfterBlank (PixelPart t n pixels) bytes
Rest t (comment n pixels) bytes = AfterComment (PixelPart t n pixels) bytes

pub record Spelled (t : RasterState) (n : ℕ) (pixels bytes : List ℕ) : Type 0 where
  pub more : List ℕ
  pub spelled : SpellsPixels more bytes
  pub count : length more ≡ n
  pub is : t ≡ whole (pixels ++ more)

spelled_of : (t : RasterState) (n : ℕ) (pixels bytes : List ℕ) → Rest t (wanted n pixels) bytes → Spelled t n pixels bytes
spelled_of t zero pixels bytes r = record { more = []; spelled = r.0; count = refl; is = r.1 ∙ ap (λ (l : List ℕ). whole l) (sym (append-nil pixels)) }
spelled_of t (suc n) pixels bytes r =
    let p = r.behind in
    record {
      more = p.pixel ∷ p.more;
      spelled = (concat r.pieces, p.rest, r.whole ∙ ap (λ (l : List ℕ). concat r.pieces ++ l) p.text, (r.pieces, r.blank, refl), p.bit, p.spelled);
      count = omega (arith, p.count);
      is = p.is;
    }

pixel_back : (t : RasterState) (n pixel : ℕ) (pixels bytes : List ℕ) → pixel < 2 → Rest t (wanted n (pixels ++ pixel ∷ [])) bytes → PixelPart t n pixels ((48 + pixel) ∷ bytes)
pixel_back t n pixel pixels bytes bit r =
    let s = spelled_of t n (pixels ++ pixel ∷ []) bytes r in
    record {
      pixel = pixel;
      more = s.more;
      rest = bytes;
      text = refl;
      bit = bit;
      spelled = s.spelled;
      count = s.count;
      is = s.is ∙ ap (λ (l : List ℕ). whole l) (append_assoc pixels (pixel ∷ []) s.more);
    }

is_eq : (a b : ℕ) → eqb a b ≡ true → a ≡ b
is_eq a b e = grind (arith, nat_tests)

one_back : (t s n : RasterState) (byte : ℕ) (bytes : List ℕ) → raster_step s byte ≡ Some n → Rest t n bytes → Rest t s (byte ∷ bytes)
one_back t (whole pixels) n byte bytes e r = absurd (none_some n e)
one_back t (between k pixels) n byte bytes e r = cases (gap_tested (between k pixels) (comment k pixels) n (with_pixel k pixels byte) byte e)
  where
    P : RasterState → Type 0
    P s = Rest t s bytes

    K : List ℕ → Type 0
    K = PixelPart t k pixels

    zero_or_one : ((eqb byte 48 ≡ true) × (n ≡ wanted k (pixels ++ 0 ∷ []))) ⊎ ((eqb byte 48 ≡ false) × (cond (eqb byte 49) (Some (wanted k (pixels ++ 1 ∷ []))) None ≡ Some n)) → K (byte ∷ bytes)
    zero_or_one (inl h) = subst (λ (b : ℕ). K (b ∷ bytes)) (sym (is_eq byte 48 h.0)) (pixel_back t k 0 pixels bytes (lit< tt) (subst P h.1 r))
    zero_or_one (inr h) = one (tested (eqb byte 49) (wanted k (pixels ++ 1 ∷ [])) n None h.1)
      where
        one : ((eqb byte 49 ≡ true) × (n ≡ wanted k (pixels ++ 1 ∷ []))) ⊎ ((eqb byte 49 ≡ false) × ((let o : Option RasterState = None in o) ≡ Some n)) → K (byte ∷ bytes)
        one (inl h) = subst (λ (b : ℕ). K (b ∷ bytes)) (sym (is_eq byte 49 h.0)) (pixel_back t k 1 pixels bytes (lit< tt) (subst P h.1 r))
        one (inr h) = absurd (none_some n h.1)

    cases : ((is_white byte ≡ true) × (n ≡ between k pixels)) ⊎ ((byte ≡ 35) × (n ≡ comment k pixels)) ⊎ (with_pixel k pixels byte ≡ Some n) → AfterBlank K (byte ∷ bytes)
    cases (inl w) = gap_blank K (byte ∷ bytes) (gap_white K byte bytes w.0 (subst P w.1 r))
    cases (inr (inl h)) = subst (λ (b : ℕ). AfterBlank K (b ∷ bytes)) (sym h.0) (gap_blank K (35 ∷ bytes) (gap_comment K bytes (subst P h.1 r)))
    cases (inr (inr h)) =
        blank_here K (byte ∷ bytes) (zero_or_one (tested (eqb byte 48) (wanted k (pixels ++ 0 ∷ [])) n (cond (eqb byte 49) (Some (wanted k (pixels ++ 1 ∷ []))) None) h))
one_back t (comment k pixels) n byte bytes e r =
    comment_back (λ (s : RasterState). Rest t s bytes) (PixelPart t k pixels) (between k pixels) (comment k pixels) n byte bytes (λ b. b) (λ c. c) e r

done_here : (t s : RasterState) → s ≡ t → is_done t ≡ true → Rest t s []
done_here t s e d = cases s e (subst (λ (k : RasterState). is_done k ≡ true) (sym e) d)
  where
    cases : (s : RasterState) → s ≡ t → is_done s ≡ true → Rest t s []
    cases (whole pixels) e d = (refl, sym e)
    cases (between n pixels) e d = absurd cc
    cases (comment n pixels) e d = absurd cc

ends_raster : (bytes : List ℕ) (s t : RasterState) → run raster_step s bytes ≡ Some t → is_done t ≡ true → Rest t s bytes
ends_raster bytes s t e d = carried_back raster_step t (Rest t) (λ s is. done_here t s is d) (one_back t) bytes s e

pub read_pixels : (count : ℕ) (bytes : List ℕ) (t : RasterState) → run raster_step (wanted count []) bytes ≡ Some t → is_done t ≡ true → Spelled t count [] bytes
read_pixels count bytes t e d = spelled_of t count [] bytes (ends_raster bytes (wanted count []) t e d)

-- the pixels lead to the state that has them
pub spelled_reads : (pixels bytes : List ℕ) (count : ℕ) → SpellsPixels pixels bytes → length pixels ≡ count → run raster_step (wanted count []) bytes ≡ Some (whole pixels)
spelled_reads pixels bytes count s len =
    let e : count ≡ length pixels + 0 = omega (arith, len) in
    ap (λ (n : ℕ). run raster_step (wanted n []) bytes) e ∙ pixels_read pixels bytes 0 [] s

pub raster_is_read : (width height : ℕ) (bytes : List ℕ) → IsRaster Plain width height bytes → IsRead (raster_machine (height * width)) bytes
raster_is_read width height bytes r = (whole r.0, spelled_reads r.0 bytes (height * width) r.2 r.1, refl)

pub read_is_raster : (width height : ℕ) (bytes : List ℕ) → IsRead (raster_machine (height * width)) bytes → IsRaster Plain width height bytes
read_is_raster width height bytes r = let s = read_pixels (height * width) bytes r.0 r.1 r.2 in (s.more, s.count, s.spelled)

-- ---- where pixels have begun

text_read : (n : ℕ) (pixels text : List ℕ) → AreInLine text → run raster_step (comment n pixels) text ≡ Some (comment n pixels)
text_read n pixels [] l = refl
text_read n pixels (byte ∷ text) l =
    ap (λ (o : Option RasterState). option_and_then (λ t. run raster_step t text) o) (comment_more_step (between n pixels) (comment n pixels) byte l.0) ∙ text_read n pixels text l.1

-- the state behind a part of what stands before a pixel
abbrev pub part_state : Bool → ℕ → List ℕ → RasterState
part_state true n pixels = comment n pixels
part_state false n pixels = between n pixels

part_read : (in_comment : Bool) (n : ℕ) (pixels part : List ℕ) → IsBlankPart in_comment part → run raster_step (between n pixels) part ≡ Some (part_state in_comment n pixels)
part_read false n pixels part p = ap (λ (l : List ℕ). run raster_step (between n pixels) l) (sym (append-nil part)) ∙ blank_read n pixels part [] p
part_read true n pixels part p =
    ap (λ (l : List ℕ). run raster_step (between n pixels) l) p.2 ∙ blank_read n pixels p.0 (35 ∷ p.1) p.3 ∙ text_read n pixels p.1 p.4

pub begun_open : (count : ℕ) (in_comment : Bool) (bytes : List ℕ) (b : PixelsBegun count in_comment bytes)
    → IsOpen (raster_machine count) bytes (part_state in_comment (count - (length b.pixels + 1)) b.pixels)
begun_open count in_comment bytes b =
    let k = count - (length b.pixels + 1) in
    let fewer = b.fewer in
    let e : count ≡ length b.pixels + suc k = omega arith in
    record {
      reads =
          ap (λ (l : List ℕ). run raster_step (wanted count []) l) b.whole
          ∙ ap (λ (n : ℕ). run raster_step (wanted n []) (b.text ++ b.part)) e
          ∙ run_append raster_step (wanted (length b.pixels + suc k) []) (between k b.pixels) b.text b.part (pixels_read b.pixels b.text (suc k) [] b.spelled)
          ∙ part_read in_comment k b.pixels b.part b.part_is;
      open_yet = is_open in_comment k b.pixels;
    }
  where
    is_open : (c : Bool) (k : ℕ) (pixels : List ℕ) → is_done (part_state c k pixels) ≡ false
    is_open true k pixels = refl
    is_open false k pixels = refl

-- a byte that is no pixel's, white or a comment's stops the reading
pub wrong_stops : (n : ℕ) (pixels : List ℕ) (byte : ℕ) → pixel_step false byte ≡ Wrong → raster_step (between n pixels) byte ≡ None
wrong_stops n pixels byte w = cases (eqb byte 48) (eqb byte 49) (eqb byte 35) (is_white byte) w
  where
    cases : (z o h b : Bool) → cond z (Found false) (cond o (Found true) (cond h (Blank true) (cond b (Blank false) Wrong))) ≡ Wrong
        → cond b (Some (between n pixels)) (cond h (Some (comment n pixels)) (cond z (Some (wanted n (pixels ++ 0 ∷ []))) (cond o (Some (wanted n (pixels ++ 1 ∷ []))) None))) ≡ None
    cases true o h b e = absurd cc
    cases false true h b e = absurd cc
    cases false false true b e = absurd cc
    cases false false false true e = absurd cc
    cases false false false false e = refl
