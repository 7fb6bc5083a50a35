-- A fault that bytes show, and not their end, is there whatever follows them.
use Rattle.std.proofs.Common.{◌≡◌, ℕ, ◌<◌, ◌≤◌, ◌⊎◌, List, [], ◌∷◌, ◌++◌, length, refl, sym, ap, subst, ◌∙◌, append_assoc, inl, inr, arith}
use Rattle.std.proofs.lemmas.List.{length-append}
use Rattle.pbm_reader.specs.declared.fault.PageFault.{PageFault}
use Rattle.pbm_reader.specs.declared.fault.PageFault.TheVariants as faults
use Rattle.pbm_reader.specs.declared.form.Form.{Form}
use Rattle.pbm_reader.specs.declared.form.Form.TheVariants.{Plain}
use Rattle.pbm_reader.specs.Spelling.{HasHeader, IsRaster}
use Rattle.pbm_reader.specs.Fault.{Begins, HasMagic, StopsAt, HasFaultWithin}
use Rattle.pbm_reader.proofs.Splits.{goes_on, has_byte}

pub begins_moved : (p a x y : List ℕ) → length p ≤ length a → Begins p (a ++ y) → Begins p (a ++ x)
begins_moved p a x y le b =
    let g = goes_on a y p b.0 b.1 le in
    (g.middle ++ x, ap (λ (l : List ℕ). l ++ x) g.first ∙ append_assoc p g.middle x)

magic_moved : (a x y : List ℕ) → 2 ≤ length a → HasMagic (a ++ y) → HasMagic (a ++ x)
magic_moved a x y le (inl m) = inl (begins_moved (80 ∷ 49 ∷ []) a x y (omega (arith, le)) m)
magic_moved a x y le (inr m) = inr (begins_moved (80 ∷ 52 ∷ []) a x y (omega (arith, le)) m)

stops_moved : (T : List ℕ → Type 0) (a x y : List ℕ) (at : ℕ) → at < length a → StopsAt T (a ++ x) at → StopsAt T (a ++ y) at
stops_moved T a x y at lt s =
    let h = has_byte a x s.front s.byte s.more s.whole (omega (arith, lt, s.place)) in
    record {
      front = s.front;
      byte = s.byte;
      more = h.middle ++ y;
      whole = ap (λ (l : List ℕ). l ++ y) h.first ∙ append_assoc s.front (s.byte ∷ h.middle) y;
      place = s.place;
      begins = s.begins;
      wrong = s.wrong;
    }

-- the first bytes are as many as an input may have, or all
abbrev pub Reaches : List ℕ → List ℕ → Type 0
Reaches a x = (length a ≡ 268435456) ⊎ (x ≡ [])

-- what is no longer than an input may be stands in them
reach : (a x p q : List ℕ) → Reaches a x → a ++ x ≡ p ++ q → length p ≤ 268435456 → length p ≤ length a
reach a x p q (inl len) e low = omega (arith, len, low)
reach a x p q (inr none) e low = omega (arith, ap length e, length-append a x, length-append p q, ap length none)

-- so does a byte behind it
reach_byte : (a x p : List ℕ) (byte : ℕ) (q : List ℕ) → Reaches a x → a ++ x ≡ p ++ byte ∷ q → length p < 268435456 → length p < length a
reach_byte a x p byte q r e low =
    let le = reach a x (p ++ byte ∷ []) q r (e ∙ sym (append_assoc p (byte ∷ []) q)) (omega (arith, low, length-append p (byte ∷ []))) in
    omega (arith, le, length-append p (byte ∷ []))

-- the name of a form does
reach_magic : (a x : List ℕ) → Reaches a x → HasMagic (a ++ x) → 2 ≤ length a
reach_magic a x r (inl m) = reach a x (80 ∷ 49 ∷ []) m.0 r m.1 (omega arith)
reach_magic a x r (inr m) = reach a x (80 ∷ 52 ∷ []) m.0 r m.1 (omega arith)

-- so does a byte behind the longest front of a header
left_over : (a x front behind middle : List ℕ) → Reaches a x → a ≡ front ++ middle → behind ≡ middle ++ x → length front ≡ 65536 → 0 < length behind → 0 < length middle
left_over a x front behind middle (inl len) first second is more = omega (arith, len, is, ap length first, length-append front middle)
left_over a x front behind middle (inr none) first second is more = omega (arith, more, ap length second, length-append middle x, ap length none)

-- the header stands in the first bytes
record HeaderMoved (a x y header behind : List ℕ) (form : Form) (width height : ℕ) : Type 0 where
  pub middle : List ℕ
  pub first : a ≡ header ++ middle
  pub second : behind ≡ middle ++ x
  pub has_header : HasHeader (a ++ y) header (middle ++ y) form width height

header_moved : (a x y header behind : List ℕ) (form : Form) (width height : ℕ) → Reaches a x → HasHeader (a ++ x) header behind form width height
    → HeaderMoved a x y header behind form width height
header_moved a x y header behind form width height r h =
    let g = goes_on a x header behind h.whole (reach a x header behind r h.whole (omega (arith, h.short))) in
    record {
      middle = g.middle;
      first = g.first;
      second = g.second;
      has_header = record { whole = ap (λ (l : List ℕ). l ++ y) g.first ∙ append_assoc header g.middle y; is_header = h.is_header; short = h.short };
    }

-- a fault that the first bytes show, by a byte and not by their end
pub record IsShown (bytes : List ℕ) (fault : PageFault) : Type 0 where
  pub whole : (at : ℕ) → fault ≡ faults.Truncated at → ⊥
  pub named : (at : ℕ) → fault ≡ faults.Magic at → at < length bytes

magic_low : (input : List ℕ) (fault : PageFault) (at : ℕ) → HasFaultWithin input fault → fault ≡ faults.Magic at → at < 2
magic_low input fault at f e = by_place (subst (λ (k : PageFault). HasFaultWithin input k) e f)
  where
    by_place : HasFaultWithin input (faults.Magic at) → at < 2
    by_place (inl m) = omega (arith, m.0)
    by_place (inr m) = omega (arith, m.0)

-- two bytes and more show each fault but that of the end
pub shown : (bytes input : List ℕ) (fault : PageFault) → 2 ≤ length bytes → ((at : ℕ) → fault ≡ faults.Truncated at → ⊥) → HasFaultWithin input fault → IsShown bytes fault
shown bytes input fault le whole f = record { whole = whole; named = λ at e. omega (arith, le, magic_low input fault at f e) }

-- it is there whatever follows them
pub settled : (a x y : List ℕ) (fault : PageFault) → Reaches a x → IsShown a fault → HasFaultWithin (a ++ x) fault → HasFaultWithin (a ++ y) fault
settled a x y (faults.Magic at) len cut (inl f) = let lt = cut.named at refl in inl (f.0, λ b. f.1 (begins_moved (80 ∷ []) a x y (omega (arith, lt)) b))
settled a x y (faults.Magic at) len cut (inr f) =
    let lt = cut.named at refl in
    inr (f.0, begins_moved (80 ∷ []) a y x (omega (arith, lt)) f.1, λ m. f.2 (magic_moved a x y (omega (arith, lt, f.0)) m))
settled a x y (faults.Header at) len cut f = record {
  magic = magic_moved a y x (reach_magic a x len f.magic) f.magic;
  low = f.low;
  stops =
      let low = f.low in
      let s = f.stops in
      stops_moved _ a x y at (omega (arith, s.place, reach_byte a x s.front s.byte s.more len s.whole (omega (arith, low, s.place)))) s;
}
settled a x y faults.HeaderTooLong len cut f =
    let inside = reach a x f.front f.behind len f.whole (omega (arith, f.len)) in
    let g = goes_on a x f.front f.behind f.whole inside in
    record {
      front = f.front;
      behind = g.middle ++ y;
      whole = ap (λ (l : List ℕ). l ++ y) g.first ∙ append_assoc f.front g.middle y;
      len = f.len;
      begins = f.begins;
      more = let left = left_over a x f.front f.behind g.middle len g.first g.second f.len f.more in omega (arith, left, length-append g.middle y);
    }
settled a x y faults.ZeroSize len cut f =
    let m = header_moved a x y f.sizes.header f.sizes.behind f.form f.width f.height len f.sizes.has_header in
    record { form = f.form; width = f.width; height = f.height; sizes = record { header = f.sizes.header; behind = m.middle ++ y; has_header = m.has_header }; zero = f.zero }
settled a x y (faults.TooLarge wide high) len cut f =
    let m = header_moved a x y f.sizes.header f.sizes.behind f.form f.width f.height len f.sizes.has_header in
    record {
      form = f.form;
      width = f.width;
      height = f.height;
      sizes = record { header = f.sizes.header; behind = m.middle ++ y; has_header = m.has_header };
      some_width = f.some_width;
      some_height = f.some_height;
      large = f.large;
      width_told = f.width_told;
      height_told = f.height_told;
    }
settled a x y (faults.Truncated at) len cut f = absurd (cut.whole at refl)
settled a x y (faults.Pixel at) len cut f =
    let m = header_moved a x y f.header f.behind Plain f.width f.height len f.has_header.has_header in
    let low = f.low in
    let T : List ℕ → Type 0 = IsRaster Plain f.width f.height in
    let stops = subst (λ (l : List ℕ). StopsAt T l f.place) m.second f.stops in
    record {
      width = f.width;
      height = f.height;
      header = f.header;
      behind = m.middle ++ y;
      has_header = record { has_header = m.has_header; size = f.has_header.size };
      place = f.place;
      stops =
          let all : a ++ x ≡ (f.header ++ stops.front) ++ stops.byte ∷ stops.more =
          f.has_header.has_header.whole ∙ ap (λ (l : List ℕ). f.header ++ l) (m.second ∙ stops.whole) ∙ sym (append_assoc f.header stops.front (stops.byte ∷ stops.more)) in
          let len_front = length-append f.header stops.front in
          let inside = reach_byte a x (f.header ++ stops.front) stops.byte stops.more len all (omega (arith, low, f.place_is, stops.place, len_front)) in
          stops_moved T m.middle x y f.place (omega (arith, inside, len_front, stops.place, ap length m.first, length-append f.header m.middle)) stops;
      place_is = f.place_is;
      low = f.low;
    }
settled a x y (faults.Trailing at) len cut f =
    let h = f.has_header.has_header in
    let low = f.low in
    let split : a ++ x ≡ (f.header ++ f.raster) ++ f.byte ∷ f.more = h.whole ∙ sym (append_assoc f.header f.raster (f.byte ∷ f.more)) in
    let b = has_byte a x (f.header ++ f.raster) f.byte f.more split (reach_byte a x (f.header ++ f.raster) f.byte f.more len split (omega (arith, low, f.place_is, length-append f.header f.raster))) in
    record {
      form = f.form;
      width = f.width;
      height = f.height;
      header = f.header;
      raster = f.raster;
      byte = f.byte;
      more = b.middle ++ y;
      has_header = record {
        has_header = record {
          whole = ap (λ (l : List ℕ). l ++ y) b.first ∙ append_assoc (f.header ++ f.raster) (f.byte ∷ b.middle) y ∙ append_assoc f.header f.raster (f.byte ∷ (b.middle ++ y));
          is_header = h.is_header;
          short = h.short;
        };
        size = f.has_header.size;
      };
      is_raster = f.is_raster;
      refused = f.refused;
      place_is = f.place_is;
      low = f.low;
    }
settled a x y faults.InputTooLong len cut f = absurd f
settled a x y faults.TooManyImages len cut f = absurd f
settled a x y faults.ReadFault len cut f = absurd f
settled a x y faults.Memory len cut f = absurd f
