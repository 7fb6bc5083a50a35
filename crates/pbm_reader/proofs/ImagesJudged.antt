-- Each input spells a list of pages, or has a fault.
use Rattle.std.proofs.Common.{◌≡◌, ℕ, ◌+◌, ◌<◌, ◌≤◌, ◌⊎◌, List, [], ◌∷◌, ◌++◌, length, refl, sym, ap, subst, ◌∙◌, inl, inr, arith}
use Rattle.std.proofs.lemmas.Bool.{cases_lt}
use Rattle.std.proofs.lemmas.List.{append-nil, length-append}
use Rattle.pbm_reader.specs.declared.fault.PageFault.{PageFault}
use Rattle.pbm_reader.specs.declared.fault.PageFault.TheVariants as faults
use Rattle.pbm_reader.specs.declared.form.Form.{Form}
use Rattle.pbm_reader.specs.declared.form.Form.TheVariants.{Plain, Raw}
use Rattle.packed_rows.specs.Page.{Page}
use Rattle.pbm_reader.specs.Spelling.{Spells, magic}
use Rattle.pbm_reader.specs.Fault.{Begins, HasFaultWithin}
use Rattle.pbm_reader.specs.Images.{SpellsIn, AreImages, SpellsPages, ArePages, BeginsImage, FrontImages, behind_bytes, IsImageFault, HasFaultAfter, HasImagesFault, HasPagesFault}
use Rattle.pbm_reader.proofs.Splits.{head_is, short_or_longer, second_is}
use Rattle.pbm_reader.proofs.Settled.{IsShown, shown, begins_moved}
use Rattle.pbm_reader.proofs.Judged.{is_cut}
use Rattle.pbm_reader.proofs.RawImages.{form_begins, image_begins, begins_more, one_name, same_front}
use Rattle.pbm_reader.proofs.ImageFaults.{one_images_fault, pages_have_no_fault, too_long_len}
use Rattle.pbm_reader.proofs.ImageFronts.{judged_front, front, Settles, grown, kept, no_image_grown, behind_images, letter_decides_nothing}

-- ---- the fault of the bytes behind the images

-- the fault is one of the input's end, or is there whatever follows
abbrev Ending : List ℕ → PageFault → Type 0
Ending input fault = ((at : ℕ) × (fault ≡ faults.Truncated at)) ⊎ ((f : PageFault) → Settles input f → ⊥) ⊎ Settles input fault

record JudgedFault (input : List ℕ) : Type 0 where
  pub fault : PageFault
  pub has_fault : HasImagesFault input fault
  pub ending : length input ≡ 268435456 → Ending input fault

pub equal : (m n : ℕ) → (m ≡ n) ⊎ (m ≡ n → ⊥)
equal m n =
    elim (cases_lt m n) [
      | inl lt ↦ inr (λ e. omega (arith, lt, e))
      | inr ge ↦
          elim (cases_lt n m) [
            | inl gt ↦ inr (λ e. omega (arith, gt, e))
            | inr le ↦ inl (omega (arith, ge, le))
          ]
    ]

names_plain : (bytes : List ℕ) → Begins (magic Plain) bytes ⊎ (Begins (magic Plain) bytes → ⊥)
names_plain [] = inr (λ b. omega (arith, ap length b.1))
names_plain (x ∷ []) = inr (λ b. omega (arith, ap length b.1))
names_plain (x ∷ y ∷ l) =
    elim (equal x 80) [
      | inr other ↦ inr (λ b. other (head_is x 80 (y ∷ l) (49 ∷ b.0) b.1))
      | inl letter ↦
          elim (equal y 49) [
            | inr other ↦ inr (λ b. other (second_is x y 80 49 l b.0 b.1))
            | inl one ↦ inl (l, both x y 80 49 l letter one)
          ]
    ]
  where
    both : (x y u v : ℕ) (l : List ℕ) → x ≡ u → y ≡ v → x ∷ y ∷ l ≡ u ∷ v ∷ l
    both x y u v l a b = cc

-- behind no image
first_fault : (input : List ℕ) (images : List ℕ) (behind : List ℕ) (fault : PageFault) → FrontImages input [] images behind → input ≡ behind → (BeginsImage behind → ⊥) → HasFaultWithin behind fault
    → JudgedFault input
first_fault input images behind fault f same none w = record {
  fault = fault;
  has_fault = record { pages = []; images = images; behind = behind; front = f; is_fault = inl (refl, w) };
  ending = λ len. ending (omega (arith, len, ap length same));
}
  where
    settles : IsShown behind fault → Settles input fault
    settles s rest = record {
      pages = [];
      images = images;
      behind = behind ++ rest;
      front = grown input rest [] images behind f (λ lt. no_image_grown behind rest fault s w none);
      is_fault = inl (refl, kept behind rest fault s w);
    }

    ending : 2 ≤ length behind → Ending input fault
    ending le =
        elim (is_cut fault) [
          | inl cut ↦ inl cut
          | inr whole ↦ inr (inr (settles (shown behind behind fault le whole w)))
        ]

-- behind an image
own_fault : (input : List ℕ) (pages : List Page) (images : List ℕ) (byte : ℕ) (more : List ℕ) (own : PageFault) → FrontImages input pages images (byte ∷ more) → 0 < length pages
    → length pages < 256 → (BeginsImage (byte ∷ more) → ⊥) → (Begins (magic Plain) (byte ∷ more) → ⊥) → HasFaultWithin (byte ∷ more) own → JudgedFault input
own_fault input pages images byte more own f some fewer none raw w = record {
  fault = behind_bytes (length images) own;
  has_fault = behind_images input pages images (byte ∷ more) own f some fewer (omega arith) (inr (raw, w));
  ending = λ len. ending;
}
  where
    settles : IsShown (byte ∷ more) own → ((rest : List ℕ) → Begins (magic Plain) (byte ∷ (more ++ rest)) → ⊥) → Settles input (behind_bytes (length images) own)
    settles s never rest =
        behind_images (input ++ rest) pages images (byte ∷ (more ++ rest)) own
        (grown input rest pages images (byte ∷ more) f (λ lt. no_image_grown (byte ∷ more) rest own s w none)) some fewer (omega arith)
        (inr (never rest, kept (byte ∷ more) rest own s w))

    longer : 2 ≤ length (byte ∷ more) → (rest : List ℕ) → Begins (magic Plain) (byte ∷ (more ++ rest)) → ⊥
    longer le rest b = raw (subst (λ (l : List ℕ). Begins (magic Plain) l) (append-nil (byte ∷ more)) (begins_moved (magic Plain) (byte ∷ more) [] rest le b))

    -- one byte that is no letter of a name
    single : (byte ≡ 80 → ⊥) → ((at : ℕ) → own ≡ faults.Truncated at → ⊥) → IsShown (byte ∷ more) own
    single other whole = record { whole = whole; named = λ at e. named at (subst (λ (k : PageFault). HasFaultWithin (byte ∷ more) k) e w) }
      where
        named : (at : ℕ) → HasFaultWithin (byte ∷ more) (faults.Magic at) → at < length (byte ∷ more)
        named at (inl m) = omega (arith, m.0)
        named at (inr m) = absurd (other (head_is byte 80 more m.1.0 m.1.1))

    ending : Ending input (behind_bytes (length images) own)
    ending =
        elim (is_cut own) [
          | inl cut ↦ inl (length images + cut.0, ap (λ (k : PageFault). behind_bytes (length images) k) cut.1)
          | inr whole ↦ inr (by_len more refl whole)
        ]
      where
        by_len : (l : List ℕ) → more ≡ l → ((at : ℕ) → own ≡ faults.Truncated at → ⊥) → ((f : PageFault) → Settles input f → ⊥) ⊎ Settles input (behind_bytes (length images) own)
        by_len (x ∷ l) e whole =
            let le : 2 ≤ length (byte ∷ more) = omega (arith, ap length e) in
            inr (settles (shown (byte ∷ more) (byte ∷ more) own le whole w) (longer le))
        by_len [] e whole =
            elim (equal byte 80) [
              | inl letter ↦
                  inl (letter_decides_nothing input pages images (subst (λ (l : List ℕ). FrontImages input pages images l) (both byte 80 more [] letter e) f) some fewer)
              | inr other ↦ inr (settles (single other whole) (λ rest b. other (head_is byte 80 (more ++ rest) (49 ∷ b.0) b.1)))
            ]
          where
            both : (x y : ℕ) (l m : List ℕ) → x ≡ y → l ≡ m → x ∷ l ≡ y ∷ m
            both x y l m a b = cc

-- ---- an input of at most 268,435,456 bytes

judged_images : (input : List ℕ) → length input ≤ 268435456 → ArePages input ⊎ JudgedFault input
judged_images input short =
    let f = front 256 input short in
    by_pages f.pages f.images f.behind (record { whole = f.whole; are_images = f.are_images; few = f.few; most = f.most })
  where
    short_behind : (images behind : List ℕ) → input ≡ images ++ behind → length behind ≤ 268435456
    short_behind images behind e = omega (arith, short, ap length e, length-append images behind)

    -- a byte behind 256 images
    too_many : (pages : List Page) (images : List ℕ) (byte : ℕ) (more : List ℕ) → FrontImages input pages images (byte ∷ more) → length pages ≡ 256 → JudgedFault input
    too_many pages images byte more f count = record {
      fault = faults.TooManyImages;
      has_fault = record { pages = pages; images = images; behind = byte ∷ more; front = f; is_fault = inr (inr (count, omega arith, refl)) };
      ending = λ len. inr (inr (λ rest. record {
        pages = pages;
        images = images;
        behind = byte ∷ (more ++ rest);
        front = grown input rest pages images (byte ∷ more) f (λ lt. absurd (omega (arith, lt, count)));
        is_fault = inr (inr (count, omega arith, refl));
      }));
    }

    -- a page in the plain form behind an image
    plain_behind : (pages : List Page) (images : List ℕ) (byte : ℕ) (more : List ℕ) → FrontImages input pages images (byte ∷ more) → 0 < length pages → length pages < 256
        → Begins (magic Plain) (byte ∷ more) → JudgedFault input
    plain_behind pages images byte more f some fewer b = record {
      fault = behind_bytes (length images) (faults.Magic 1);
      has_fault = behind_images input pages images (byte ∷ more) (faults.Magic 1) f some fewer (omega arith) (inl (b, refl));
      ending = λ len. inr (inr (λ rest.
          let named = begins_more (magic Plain) (byte ∷ more) rest b in
          behind_images (input ++ rest) pages images (byte ∷ (more ++ rest)) (faults.Magic 1)
          (grown input rest pages images (byte ∷ more) f (λ lt i. one_name (byte ∷ (more ++ rest)) named (image_begins (byte ∷ (more ++ rest)) i))) some fewer (omega arith) (inl (named, refl))));
    }

    behind_image : (pages : List Page) (images : List ℕ) (byte : ℕ) (more : List ℕ) → FrontImages input pages images (byte ∷ more) → 0 < length pages → length pages < 256 → JudgedFault input
    behind_image pages images byte more f some fewer =
        elim (names_plain (byte ∷ more)) [
          | inl b ↦ plain_behind pages images byte more f some fewer b
          | inr raw ↦
              elim (judged_front (byte ∷ more) (short_behind images (byte ∷ more) f.whole)) [
                | inl i ↦ absurd (f.most fewer i)
                | inr none ↦
                    elim none.1 [
                      | inl p ↦ absurd (raw (form_begins Plain (byte ∷ more) p.0 p.1))
                      | inr w ↦ own_fault input pages images byte more w.0 f some fewer none.0 raw w.1
                    ]
              ]
        ]

    by_pages : (pages : List Page) (images behind : List ℕ) → FrontImages input pages images behind → ArePages input ⊎ JudgedFault input
    by_pages [] images behind f =
        let same : input ≡ behind = f.whole ∙ ap (λ (l : List ℕ). l ++ behind) f.are_images in
        elim (judged_front behind (short_behind images behind f.whole)) [
          | inl i ↦ absurd (f.most (omega arith) i)
          | inr none ↦
              elim none.1 [
                | inl p ↦ inl (p.0 ∷ [], inl (p.0, refl, subst (λ (l : List ℕ). SpellsIn Plain l p.0) (sym same) p.1))
                | inr w ↦ inr (first_fault input images behind w.0 f same none.0 w.1)
              ]
        ]
    by_pages (page ∷ pages) images [] f =
        let same : input ≡ images = f.whole ∙ append-nil images in
        inl (page ∷ pages, inr (record { some = omega arith; few = f.few; images = subst (λ (l : List ℕ). AreImages (page ∷ pages) l) (sym same) f.are_images; short = short }))
    by_pages (page ∷ pages) images (byte ∷ more) f =
        elim (cases_lt (length (page ∷ pages)) 256) [
          | inl fewer ↦ inr (behind_image (page ∷ pages) images byte more f (omega arith) fewer)
          | inr many ↦ let few = f.few in inr (too_many (page ∷ pages) images byte more f (omega (arith, few, many)))
        ]

-- ---- each input

-- a fault of the end is another one behind one more byte
cut_at_end : (input : List ℕ) (at : ℕ) → HasImagesFault input (faults.Truncated at) → at ≡ length input
cut_at_end input at h = cases h.is_fault
  where
    total : length input ≡ length h.images + length h.behind
    total = ap length h.front.whole ∙ length-append h.images h.behind

    own_cut : (own : PageFault) (len : ℕ) → faults.Truncated at ≡ behind_bytes len own → (place : ℕ) × (own ≡ faults.Truncated place) × (at ≡ len + place)
    own_cut (faults.Truncated place) len e = (place, refl, place_is at (len + place) e)
      where
        place_is : (m n : ℕ) → faults.Truncated m ≡ faults.Truncated n → m ≡ n
        place_is m n e = cc
    own_cut own len e = absurd cc

    own_end : (own : PageFault) → IsImageFault h.behind own → (place : ℕ) → own ≡ faults.Truncated place → place ≡ length h.behind
    own_end own (inl x) place e = absurd (differ 1 place (sym x.1 ∙ e))
      where
        differ : (m n : ℕ) → faults.Magic m ≡ faults.Truncated n → ⊥
        differ m n e = cc
    own_end own (inr x) place e = let t = subst (λ (k : PageFault). HasFaultWithin h.behind k) e x.1 in t.end

    no_images : (pages : List Page) (images : List ℕ) → AreImages pages images → length pages ≡ 0 → length images ≡ 0
    no_images [] images e none = ap length e
    no_images (page ∷ pages) images e none = absurd (omega (arith, none))

    cases : HasFaultAfter (length h.pages) (length h.images) h.behind (faults.Truncated at) → at ≡ length input
    cases (inl x) = omega (arith, x.1.end, total, no_images h.pages h.images h.front.are_images x.0)
    cases (inr (inl y)) =
        let c = own_cut y.own (length h.images) y.fault_is in
        omega (arith, c.2, own_end y.own y.is_own c.0 c.1, total)
    cases (inr (inr z)) = absurd (differ at z.2)
      where
        differ : (n : ℕ) → faults.Truncated n ≡ faults.TooManyImages → ⊥
        differ n e = cc

pub cut_decides_nothing : (input : List ℕ) (at : ℕ) → HasImagesFault input (faults.Truncated at) → (fault : PageFault) → Settles input fault → ⊥
cut_decides_nothing input at h fault decides =
    let now = subst (λ (l : List ℕ). HasImagesFault l fault) (append-nil input) (decides []) in
    let e : fault ≡ faults.Truncated at = one_images_fault input fault (faults.Truncated at) now h in
    let later = subst (λ (f : PageFault). HasImagesFault (input ++ 0 ∷ []) f) e (decides (0 ∷ [])) in
    omega (arith, cut_at_end input at h, cut_at_end (input ++ 0 ∷ []) at later, length-append input (0 ∷ []))

pub pages_decide_nothing : (input : List ℕ) → ArePages input → (fault : PageFault) → Settles input fault → ⊥
pages_decide_nothing input p fault decides = pages_have_no_fault input p.0 fault p.1 (subst (λ (l : List ℕ). HasImagesFault l fault) (append-nil input) (decides []))

pub long_pages : (first behind : List ℕ) → length first ≡ 268435456 → 0 < length behind → ((fault : PageFault) → Settles first fault → ⊥) → HasPagesFault (first ++ behind) faults.InputTooLong
long_pages first behind len more nothing = inl (refl, record { front = first; behind = behind; whole = refl; len = len; more = more; undecided = nothing })

-- what the first bytes settle is no fault of the length
pub settled_pages : (first behind : List ℕ) (fault : PageFault) → length first ≡ 268435456 → Settles first fault → HasPagesFault (first ++ behind) fault
settled_pages first behind fault len settles =
    inr (
      settles behind,
      λ l.
          let same = same_front l.front l.behind first behind (sym l.whole) (l.len ∙ sym len) in
          l.undecided fault (λ rest. subst (λ (k : List ℕ). HasImagesFault (k ++ rest) fault) (sym same.0) (settles rest)),
    )

pub pages_judged : (input : List ℕ) → ArePages input ⊎ ((fault : PageFault) × HasPagesFault input fault)
pages_judged input = short_or_longer P 268435456 of_short (λ first behind len more. inr (by_front first behind len more)) input
  where
    P : List ℕ → Type 0
    P l = ArePages l ⊎ ((fault : PageFault) × HasPagesFault l fault)

    of_short : (input : List ℕ) → length input ≤ 268435456 → P input
    of_short input short =
        elim (judged_images input short) [
          | inl p ↦ inl p
          | inr f ↦ inr (f.fault, inr (f.has_fault, λ l. omega (arith, short, too_long_len input l)))
        ]

    by_front : (first behind : List ℕ) → length first ≡ 268435456 → 0 < length behind → (fault : PageFault) × HasPagesFault (first ++ behind) fault
    by_front first behind len more =
        elim (judged_images first (omega (arith, len))) [
          | inl p ↦ (faults.InputTooLong, long_pages first behind len more (pages_decide_nothing first p))
          | inr f ↦
              elim (f.ending len) [
                | inl cut ↦
                    (faults.InputTooLong, long_pages first behind len more (cut_decides_nothing first cut.0 (subst (λ (k : PageFault). HasImagesFault first k) cut.1 f.has_fault)))
                | inr other ↦
                    elim other [
                      | inl nothing ↦ (faults.InputTooLong, long_pages first behind len more nothing)
                      | inr settles ↦ (f.fault, settled_pages first behind f.fault len settles)
                    ]
              ]
        ]

-- ---- an input of one page spells the list of this page

pub one_page_list : (input : List ℕ) (page : Page) → Spells input page → SpellsPages input (page ∷ [])
one_page_list input page s = by_form s.form refl
  where
    by_form : (form : Form) → s.form ≡ form → SpellsPages input (page ∷ [])
    by_form Plain e = inl (page, refl, (s, e))
    by_form Raw e =
        inr (record { some = omega arith; few = omega arith; images = (input, [], sym (append-nil input), (s, e), refl); short = s.short })
