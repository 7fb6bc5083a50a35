-- What stands at the front of an input that is to spell a list of pages, and what of it stays whatever follows.
use Rattle.std.proofs.Common.{◌≡◌, ℕ, ◌+◌, ◌<◌, ◌≤◌, ◌⊎◌, zero, suc, List, [], ◌∷◌, ◌++◌, length, refl, sym, ap, subst, ◌∙◌, append_assoc, inl, inr, arith}
use Rattle.std.proofs.lemmas.List.{append-nil, length-append}
use Rattle.pbm_reader.specs.declared.fault.PageFault.{PageFault}
use Rattle.pbm_reader.specs.declared.fault.PageFault.TheVariants as faults
use Rattle.pbm_reader.specs.declared.form.Form.{Form}
use Rattle.pbm_reader.specs.declared.form.Form.TheVariants.{Plain, Raw}
use Rattle.pbm_reader.specs.declared.state.HeaderState.TheVariants.{Named}
use Rattle.packed_rows.specs.Page.{Page}
use Rattle.pbm_reader.specs.Spelling.{Spells, magic, IsSomeHeader}
use Rattle.pbm_reader.specs.Fault.{Begins, HasFaultWithin, IsTrailing}
use Rattle.pbm_reader.specs.Images.{SpellsIn, AreImages, BeginsImage, FrontImages, behind_bytes, IsImageFault, HasImagesFault}
use Rattle.pbm_reader.proofs.Splits.{goes_on, second_is}
use Rattle.pbm_reader.proofs.Machines.{IsRead, front_of, front_map}
use Rattle.pbm_reader.proofs.HeaderWalk.{header_machine, is_header}
use Rattle.pbm_reader.proofs.Settled.{IsShown, settled}
use Rattle.pbm_reader.proofs.Judged.{judged_within}
use Rattle.pbm_reader.proofs.RawImages.{raw_image, header_begins, form_begins, image_begins, one_name, image_trails, trailing_image}
use Rattle.pbm_reader.proofs.OneFault.{letter_fault}
use Rattle.pbm_reader.proofs.ImageFaults.{one_images_fault}

-- ---- what stands at the front of the bytes

-- the bytes are a page in the plain form, or have a fault
abbrev pub IsPlainOrFault : List ℕ → Type 0
IsPlainOrFault bytes = ((page : Page) × SpellsIn Plain bytes page) ⊎ ((fault : PageFault) × HasFaultWithin bytes fault)

abbrev pub JudgedFront : List ℕ → Type 0
JudgedFront bytes = BeginsImage bytes ⊎ ((BeginsImage bytes → ⊥) × IsPlainOrFault bytes)

pub judged_front : (bytes : List ℕ) → length bytes ≤ 268435456 → JudgedFront bytes
judged_front bytes short =
    elim (judged_within bytes short) [
      | inl p ↦ by_form p.0 p.1 p.1.form refl
      | inr f ↦ by_fault f.0 f.1
    ]
  where
    by_form : (page : Page) (s : Spells bytes page) (form : Form) → s.form ≡ form → JudgedFront bytes
    by_form page s Plain e = inr (λ i. one_name bytes (form_begins Plain bytes page (s, e)) (image_begins bytes i), inl (page, (s, e)))
    by_form page s Raw e = inl (record { page = page; image = bytes; rest = []; whole = sym (append-nil bytes); is_image = (s, e) })

    trails : (at : ℕ) (t : IsTrailing bytes at) (form : Form) → t.form ≡ form → JudgedFront bytes
    trails at t Raw e = inl (trailing_image bytes at t e short)
    trails at t Plain e =
        let named = header_begins bytes t.header (t.raster ++ t.byte ∷ t.more) t.form t.width t.height t.has_header.has_header in
        inr (λ i. one_name bytes (subst (λ (f : Form). Begins (magic f) bytes) e named) (image_begins bytes i), inr (faults.Trailing at, t))

    other : (fault : PageFault) → HasFaultWithin bytes fault → ((at : ℕ) → fault ≡ faults.Trailing at → ⊥) → JudgedFront bytes
    other fault f not = inr (λ i. not (length i.image) (image_trails bytes fault i f), inr (fault, f))

    by_fault : (fault : PageFault) → HasFaultWithin bytes fault → JudgedFront bytes
    by_fault (faults.Trailing at) f = trails at f f.form refl
    by_fault fault f = other fault f (λ at e. absurd cc)

-- the images at the front, up to a number of them
pub record Front (n : ℕ) (bytes : List ℕ) : Type 0 where
  pub pages : List Page
  pub images : List ℕ
  pub behind : List ℕ
  pub whole : bytes ≡ images ++ behind
  pub are_images : AreImages pages images
  pub few : length pages ≤ n
  pub most : length pages < n → BeginsImage behind → ⊥

pub front : (n : ℕ) (bytes : List ℕ) → length bytes ≤ 268435456 → Front n bytes
front zero bytes short = record { pages = []; images = []; behind = bytes; whole = refl; are_images = refl; few = omega arith; most = λ lt i. omega (arith, lt) }
front (suc n) bytes short =
    elim (judged_front bytes short) [
      | inr none ↦ record { pages = []; images = []; behind = bytes; whole = refl; are_images = refl; few = omega arith; most = λ lt. none.0 }
      | inl i ↦
          let f = front n i.rest (omega (arith, short, ap length i.whole, length-append i.image i.rest)) in
          record {
            pages = i.page ∷ f.pages;
            images = i.image ++ f.images;
            behind = f.behind;
            whole = i.whole ∙ ap (λ (l : List ℕ). i.image ++ l) f.whole ∙ sym (append_assoc i.image f.images f.behind);
            are_images = (i.image, f.images, refl, i.is_image, f.are_images);
            few = let few = f.few in omega (arith, few);
            most = λ lt. f.most (omega (arith, lt));
          }
    ]

-- ---- what is there whatever follows

-- the bytes have the fault whatever follows them
abbrev pub Settles : List ℕ → PageFault → Type 0
Settles input fault = (rest : List ℕ) → HasImagesFault (input ++ rest) fault

pub grown : (input rest : List ℕ) (pages : List Page) (images behind : List ℕ) → FrontImages input pages images behind
    → (length pages < 256 → BeginsImage (behind ++ rest) → ⊥) → FrontImages (input ++ rest) pages images (behind ++ rest)
grown input rest pages images behind f most = record {
  whole = ap (λ (l : List ℕ). l ++ rest) f.whole ∙ append_assoc images behind rest;
  are_images = f.are_images;
  few = f.few;
  most = most;
}

-- bytes that show their fault have it whatever follows
pub kept : (bytes rest : List ℕ) (fault : PageFault) → IsShown bytes fault → HasFaultWithin bytes fault → HasFaultWithin (bytes ++ rest) fault
kept bytes rest fault s f = settled bytes [] rest fault (inr refl) s (subst (λ (l : List ℕ). HasFaultWithin l fault) (sym (append-nil bytes)) f)

-- and begin no image
pub no_image_grown : (bytes rest : List ℕ) (fault : PageFault) → IsShown bytes fault → HasFaultWithin bytes fault → (BeginsImage bytes → ⊥) → BeginsImage (bytes ++ rest) → ⊥
no_image_grown bytes rest fault s f none i =
    let e = image_trails (bytes ++ rest) fault i (kept bytes rest fault s f) in
    let t = subst (λ (k : PageFault). HasFaultWithin bytes k) e f in
    let total = ap length t.has_header.has_header.whole ∙ length-append t.header (t.raster ++ t.byte ∷ t.more) in
    let g = goes_on bytes rest i.image i.rest i.whole (omega (arith, t.place_is, total, length-append t.raster (t.byte ∷ t.more))) in
    none (record { page = i.page; image = i.image; rest = g.middle; whole = g.first; is_image = i.is_image })

-- the fault of bytes behind an image
pub behind_images : (input : List ℕ) (pages : List Page) (images behind : List ℕ) (own : PageFault) → FrontImages input pages images behind → 0 < length pages → length pages < 256
    → 0 < length behind → IsImageFault behind own → HasImagesFault input (behind_bytes (length images) own)
behind_images input pages images behind own f some fewer more is = record {
  pages = pages;
  images = images;
  behind = behind;
  front = f;
  is_fault = inr (inl (record { some = some; fewer = fewer; more = more; own = own; is_own = is; fault_is = refl }));
}

-- ---- where the bytes end behind an image in the letter of a name

letter_front : (rest : List ℕ) → length rest ≤ 1 → BeginsImage (80 ∷ rest) → ⊥
letter_front rest short i =
    let x = raw_image i.image i.page i.is_image in
    let h = x.is_header in
    let total = ap length i.whole ∙ length-append i.image i.rest in
    omega (
      arith,
      short,
      total,
      ap length x.whole,
      length-append x.header x.raster,
      ap length h.whole,
      length-append (magic Raw ++ h.gap ++ h.width_text ++ h.second_gap ++ h.height_text) (h.end ∷ []),
      length-append (magic Raw ++ h.gap ++ h.width_text ++ h.second_gap) h.height_text,
      length-append (magic Raw ++ h.gap ++ h.width_text) h.second_gap,
      length-append (magic Raw ++ h.gap) h.width_text,
      length-append (magic Raw) h.gap,
    )

pub name_fault : HasFaultWithin (80 ∷ 52 ∷ []) (faults.Truncated 2)
name_fault = record {
  end = refl;
  short = omega arith;
  part = inl (record {
    some = omega arith;
    short = omega arith;
    begins = front_map (IsRead header_machine) IsSomeHeader (80 ∷ 52 ∷ []) (λ l r. is_header l r) (front_of header_machine (80 ∷ 52 ∷ []) (Named Raw) (record { reads = refl; open_yet = refl }));
  });
}

-- such bytes decide nothing
pub letter_decides_nothing : (input : List ℕ) (pages : List Page) (images : List ℕ) → FrontImages input pages images (80 ∷ []) → 0 < length pages → length pages < 256
    → (fault : PageFault) → Settles input fault → ⊥
letter_decides_nothing input pages images f some fewer fault decides =
    let now = behind_images input pages images (80 ∷ []) (faults.Magic 1) f some fewer (omega arith) (inr (λ b. not_plain b.0 b.1, letter_fault)) in
    let larger = grown input (52 ∷ []) pages images (80 ∷ []) f (λ lt. letter_front (52 ∷ []) (omega arith)) in
    let later = behind_images (input ++ 52 ∷ []) pages images (80 ∷ 52 ∷ []) (faults.Truncated 2) larger some fewer (omega arith) (inr (λ b. not_raw b.0 b.1, name_fault)) in
    let first = one_images_fault input fault _ (subst (λ (l : List ℕ). HasImagesFault l fault) (append-nil input) (decides [])) now in
    let second = one_images_fault (input ++ 52 ∷ []) fault _ (decides (52 ∷ [])) later in
    differ (length images + 1) (length images + 2) (sym first ∙ second)
  where
    not_plain : (l : List ℕ) → 80 ∷ [] ≡ 80 ∷ 49 ∷ l → ⊥
    not_plain l e = omega (arith, ap length e)

    not_raw : (l : List ℕ) → 80 ∷ 52 ∷ [] ≡ 80 ∷ 49 ∷ l → ⊥
    not_raw l e = omega (arith, second_is 80 52 80 49 [] l e)

    differ : (a b : ℕ) → faults.Magic a ≡ faults.Truncated b → ⊥
    differ a b e = cc
