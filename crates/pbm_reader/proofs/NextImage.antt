-- What comes behind some images: a fault of it, or nothing that is decided.
use Rattle.std.proofs.Common.{◌≡◌, ℕ, zero, suc, ◌+◌, ◌<◌, ◌≤◌, ◌⊎◌, Bool, true, false, List, [], ◌∷◌, ◌++◌, length, refl, sym, ap, subst, ◌∙◌, append_assoc, inl, inr, arith}
use Rattle.std.proofs.lemmas.List.{append-nil, length-append}
use Rattle.pbm_reader.specs.declared.fault.PageFault.{PageFault}
use Rattle.pbm_reader.specs.declared.fault.PageFault.TheVariants as faults
use Rattle.pbm_reader.specs.declared.form.Form.{Form}
use Rattle.pbm_reader.specs.declared.form.Form.TheVariants.{Plain, Raw}
use Rattle.packed_rows.specs.Page.{Page}
use Rattle.pbm_reader.specs.Spelling.{IsPage, Spells, magic}
use Rattle.pbm_reader.specs.Fault.{Begins, HasFaultWithin, IsMagicFault, DecidesNothing}
use Rattle.pbm_reader.specs.Images.{SpellsIn, AreImages, ArePages, BeginsImage, FrontImages, behind_bytes, IsImageFault, HasFaultAfter, HasImagesFault, HasPagesFault}
use Rattle.pbm_reader.specs.Reader.{DecidesNoFault, IsAtPlace, IsNextFault, IsNextImage, IsOwnFault, MayBegin, WereImages}
use Rattle.pbm_reader.proofs.Splits.{goes_on, head_is}
use Rattle.pbm_reader.proofs.Settled.{IsShown, shown, begins_moved}
use Rattle.pbm_reader.proofs.Judged.{judged_within}
use Rattle.pbm_reader.proofs.OneFault.{has_fault, one_within, letter_fault}
use Rattle.pbm_reader.proofs.RawImages.{form_begins, header_begins, image_begins, begins_more, one_name, image_trails}
use Rattle.pbm_reader.proofs.ImageFaults.{one_images_fault, too_long_len}
use Rattle.pbm_reader.proofs.ImageFronts.{Settles, name_fault, kept, no_image_grown, behind_images, letter_decides_nothing}
use Rattle.pbm_reader.proofs.ImagesJudged.{equal, long_pages, settled_pages, cut_decides_nothing, pages_decide_nothing, one_page_list}

-- ---- images that were given, and what comes behind them

no_count : (pages : List Page) (images : List ℕ) → AreImages pages images → length pages ≡ 0 → images ≡ []
no_count [] images e none = e
no_count (page ∷ pages) images e none = absurd (omega (arith, none))

pub first_none : (count len : ℕ) (images : List ℕ) → WereImages count len images → count ≡ 0 → images ≡ []
first_none count len images w none = no_count w.pages images w.are_images (w.count_is ∙ none)

fronts : (count len : ℕ) (images bytes : List ℕ) → (w : WereImages count len images) → count < 256 → (BeginsImage bytes → ⊥) → FrontImages (images ++ bytes) w.pages images bytes
fronts count len images bytes w few none = record { whole = refl; are_images = w.are_images; few = omega (arith, w.count_is, few); most = λ lt. none }

pub is_zero : (n : ℕ) → (n ≡ 0) ⊎ (0 < n)
is_zero zero = inl refl
is_zero (suc n) = inr (omega arith)

pub nothing_before : (fault : PageFault) → behind_bytes 0 fault ≡ fault
nothing_before (faults.Magic at) = ap (λ (n : ℕ). faults.Magic n) (omega arith)
nothing_before (faults.Header at) = ap (λ (n : ℕ). faults.Header n) (omega arith)
nothing_before (faults.Truncated at) = ap (λ (n : ℕ). faults.Truncated n) (omega arith)
nothing_before (faults.Pixel at) = ap (λ (n : ℕ). faults.Pixel n) (omega arith)
nothing_before (faults.Trailing at) = ap (λ (n : ℕ). faults.Trailing n) (omega arith)
nothing_before faults.HeaderTooLong = refl
nothing_before faults.ZeroSize = refl
nothing_before (faults.TooLarge wide high) = refl
nothing_before faults.InputTooLong = refl
nothing_before faults.TooManyImages = refl
nothing_before faults.ReadFault = refl
nothing_before faults.Memory = refl

-- the fault of what comes is that of the input
has_own : (count len : ℕ) (images bytes : List ℕ) (own : PageFault) (is_first : Bool) → WereImages count len images → count < 256 → (count ≡ 0 → is_first ≡ true) → (0 < count → is_first ≡ false)
    → IsOwnFault is_first bytes own → HasImagesFault (images ++ bytes) (behind_bytes len own)
has_own count len images bytes own is_first w few first later (inl o) =
    let b : Begins (magic Plain) bytes = o.1 in
    let front = fronts count len images bytes w few (λ i. one_name bytes b (image_begins bytes i)) in
    let some = not_none count is_first first o.0 in
    subst (λ (n : ℕ). HasImagesFault (images ++ bytes) (behind_bytes n own)) w.len_is
    (behind_images (images ++ bytes) w.pages images bytes own front (omega (arith, some, w.count_is)) (omega (arith, few, w.count_is)) (omega (arith, ap length b.1)) (inl (b, o.2)))
  where
    not_both : (b : Bool) → b ≡ true → b ≡ false → ⊥
    not_both b p q = cc

    not_none : (n : ℕ) (b : Bool) → (n ≡ 0 → b ≡ true) → b ≡ false → 0 < n
    not_none n b first later =
        elim (is_zero n) [
          | inl none ↦ absurd (not_both b (first none) later)
          | inr some ↦ some
        ]
has_own count len images bytes own is_first w few first later (inr o) =
    let front = fronts count len images bytes w few o.1 in
    elim (is_zero count) [
      | inl none ↦
          let zero_len : len ≡ 0 = sym w.len_is ∙ ap length (first_none count len images w none) in
          record { pages = w.pages; images = images; behind = bytes; front = front; is_fault = inl (w.count_is ∙ none, subst (λ (k : PageFault). HasFaultWithin bytes k) (sym (ap (λ (n : ℕ). behind_bytes n own) zero_len ∙ nothing_before own)) o.0) }
      | inr some ↦
          subst (λ (n : ℕ). HasImagesFault (images ++ bytes) (behind_bytes n own)) w.len_is
          (behind_images (images ++ bytes) w.pages images bytes own front (omega (arith, some, w.count_is)) (omega (arith, few, w.count_is)) (o.3 (later some)) (inr (o.2 (later some), o.0)))
    ]

-- an own fault that does not stand at the end of the bytes is there whatever follows
own_grown : (bytes rest : List ℕ) (own : PageFault) (is_first : Bool) → IsOwnFault is_first bytes own → (IsAtPlace (length bytes) own → ⊥) → IsOwnFault is_first (bytes ++ rest) own
own_grown bytes rest own is_first (inl o) inside = inl (o.0, begins_more (magic Plain) bytes rest o.1, o.2)
own_grown bytes rest own is_first (inr o) inside = by_bytes bytes o inside
  where
    by_shown : (l : List ℕ) → IsShown l own → (HasFaultWithin l own × (BeginsImage l → ⊥) × MayBegin is_first l × (is_first ≡ false → 0 < length l))
        → (is_first ≡ false → Begins (magic Plain) (l ++ rest) → ⊥) → IsOwnFault is_first (l ++ rest) own
    by_shown l s o may = inr (kept l rest own s o.0, no_image_grown l rest own s o.0 o.1, may, λ later. omega (arith, o.3 later, length-append l rest))

    not_cut : (l : List ℕ) (k : PageFault) → HasFaultWithin l k → (IsAtPlace (length l) k → ⊥) → (at : ℕ) → k ≡ faults.Truncated at → ⊥
    not_cut l k w inside at e =
        let t = subst (λ (j : PageFault). HasFaultWithin l j) e w in
        let P : PageFault → Type 0 = λ j. IsAtPlace (length l) j → ⊥ in
        subst P e inside t.end

    by_bytes : (l : List ℕ) → (HasFaultWithin l own × (BeginsImage l → ⊥) × MayBegin is_first l × (is_first ≡ false → 0 < length l)) → (IsAtPlace (length l) own → ⊥)
        → IsOwnFault is_first (l ++ rest) own
    by_bytes [] o inside =
        let e : own ≡ faults.Magic 0 = one_within [] own (faults.Magic 0) o.0 (inl (refl, λ b. omega (arith, ap length b.1))) in
        let P : PageFault → Type 0 = λ j. IsAtPlace 0 j → ⊥ in
        absurd (subst P e inside refl)
    by_bytes (x ∷ y ∷ l) o inside =
        let bytes = x ∷ y ∷ l in
        let le : 2 ≤ length bytes = omega arith in
        by_shown bytes (shown bytes bytes own le (not_cut bytes own o.0 inside) o.0) o
        (λ later b. o.2 later (subst (λ (k : List ℕ). Begins (magic Plain) k) (append-nil bytes) (begins_moved (magic Plain) bytes [] rest le b)))
    by_bytes (x ∷ []) o inside =
        elim (equal x 80) [
          | inl letter ↦
              let w = subst (λ (n : ℕ). HasFaultWithin (n ∷ []) own) letter o.0 in
              let e : own ≡ faults.Magic 1 = one_within (80 ∷ []) own (faults.Magic 1) w letter_fault in
              let P : PageFault → Type 0 = λ j. IsAtPlace 1 j → ⊥ in
              absurd (subst P e inside refl)
          | inr other ↦
              by_shown (x ∷ []) (record { whole = not_cut (x ∷ []) own o.0 inside; named = λ at e. named at other (subst (λ (k : PageFault). HasFaultWithin (x ∷ []) k) e o.0) }) o
              (λ later b. other (head_is x 80 rest (49 ∷ b.0) b.1))
        ]
      where
        named : (at : ℕ) → (x ≡ 80 → ⊥) → HasFaultWithin (x ∷ []) (faults.Magic at) → at < length (x ∷ [])
        named at other (inl m) = omega (arith, m.0)
        named at other (inr m) = absurd (other (head_is x 80 [] m.1.0 m.1.1))

-- an own fault begins no image
pub own_none : (bytes : List ℕ) (own : PageFault) (is_first : Bool) → IsOwnFault is_first bytes own → BeginsImage bytes → ⊥
own_none bytes own is_first (inl o) i = one_name bytes o.1 (image_begins bytes i)
own_none bytes own is_first (inr o) i = o.1 i

-- nor does an image that ends within the bytes stand at their front
none_within : (count len : ℕ) (bytes more : List ℕ) → (0 < length more → len + length bytes ≡ 268435456) → (BeginsImage bytes → ⊥) → IsNextImage count len (bytes ++ more) → ⊥
none_within count len bytes [] full none n = none (subst (λ (l : List ℕ). BeginsImage l) (append-nil bytes) n.begins)
none_within count len bytes (x ∷ more) full none n =
    let i = n.begins in
    let low = n.low in
    let g = goes_on bytes (x ∷ more) i.image i.rest i.whole (omega (arith, low, full (omega arith))) in
    none (record { page = i.page; image = i.image; rest = g.middle; whole = g.first; is_image = i.is_image })

joined : (images bytes more : List ℕ) (fault : PageFault) → HasPagesFault ((images ++ bytes) ++ more) fault → HasPagesFault (images ++ (bytes ++ more)) fault
joined images bytes more fault h = subst (λ (l : List ℕ). HasPagesFault l fault) (append_assoc images bytes more) h

-- ---- the fault of what comes

-- bytes within the limit have a fault of their own, which stands before their end where more follows
pub own_next : (count len : ℕ) (bytes more : List ℕ) (own : PageFault) (is_first : Bool) → count < 256 → len + length bytes ≤ 268435456 → (0 < length more → len + length bytes ≡ 268435456)
    → (count ≡ 0 → is_first ≡ true) → (0 < count → is_first ≡ false) → IsOwnFault is_first bytes own → (0 < length more → IsAtPlace (length bytes) own → ⊥)
    → IsNextFault count len (bytes ++ more) (behind_bytes len own)
own_next count len bytes more own is_first few low full first later o inside = record {
  none = none_within count len bytes more full (own_none bytes own is_first o);
  is_fault = λ images w. joined images bytes more (behind_bytes len own) (by_more images w more full inside);
}
  where
    total : (images : List ℕ) (w : WereImages count len images) → length (images ++ bytes) ≡ len + length bytes
    total images w = omega (arith, length-append images bytes, w.len_is)

    by_more : (images : List ℕ) → WereImages count len images → (m : List ℕ) → (0 < length m → len + length bytes ≡ 268435456) → (0 < length m → IsAtPlace (length bytes) own → ⊥)
        → HasPagesFault ((images ++ bytes) ++ m) (behind_bytes len own)
    by_more images w [] full inside =
        let h = has_own count len images bytes own is_first w few first later o in
        subst (λ (l : List ℕ). HasPagesFault l (behind_bytes len own)) (sym (append-nil (images ++ bytes))) (inr (h, λ l. omega (arith, too_long_len (images ++ bytes) l, total images w, low)))
    by_more images w (x ∷ m) full inside =
        let settles : Settles (images ++ bytes) (behind_bytes len own) =
        λ rest. subst (λ (l : List ℕ). HasImagesFault l (behind_bytes len own)) (sym (append_assoc images bytes rest))
        (has_own count len images (bytes ++ rest) own is_first w few first later (own_grown bytes rest own is_first o (inside (omega arith)))) in
        settled_pages (images ++ bytes) (x ∷ m) (behind_bytes len own) (omega (arith, total images w, full (omega arith))) settles

-- what the bytes up to the limit decide nothing of goes past it
pub past_next : (count len : ℕ) (bytes more : List ℕ) → len + length bytes ≡ 268435456 → 0 < length more → (BeginsImage bytes → count < 256 → ⊥)
    → ((images : List ℕ) → WereImages count len images → (fault : PageFault) → Settles (images ++ bytes) fault → ⊥) → IsNextFault count len (bytes ++ more) faults.InputTooLong
past_next count len bytes more full some none nothing = record {
  none = λ n. none_within count len bytes more (λ lt. full) (λ i. none i n.fewer) n;
  is_fault = λ images w. joined images bytes more faults.InputTooLong
      (long_pages (images ++ bytes) more (omega (arith, length-append images bytes, w.len_is, full)) some (nothing images w));
}

-- a byte comes behind 256 images
pub many_next : (count len byte : ℕ) (bytes : List ℕ) → count ≡ 256 → len < 268435456 → IsNextFault count len (byte ∷ bytes) faults.TooManyImages
many_next count len byte bytes many low = record {
  none = λ n. let fewer = n.fewer in omega (arith, fewer, many);
  is_fault = λ images w. inr (
    has images (byte ∷ bytes) w (omega arith),
    λ l.
        let g = goes_on l.front l.behind images (byte ∷ bytes) (sym l.whole) (omega (arith, l.len, w.len_is, low)) in
        let longer = ap length g.first ∙ length-append images g.middle in
        l.undecided faults.TooManyImages (λ rest.
        subst (λ (k : List ℕ). HasImagesFault (k ++ rest) faults.TooManyImages) (sym g.first)
        (subst (λ (k : List ℕ). HasImagesFault k faults.TooManyImages) (sym (append_assoc images g.middle rest))
        (has images (g.middle ++ rest) w (omega (arith, length-append g.middle rest, longer, l.len, w.len_is, low))))),
  );
}
  where
    has : (images rest : List ℕ) → WereImages count len images → 0 < length rest → HasImagesFault (images ++ rest) faults.TooManyImages
    has images rest w some = record {
      pages = w.pages;
      images = images;
      behind = rest;
      front = record { whole = refl; are_images = w.are_images; few = omega (arith, w.count_is, many); most = λ lt. absurd (omega (arith, lt, w.count_is, many)) };
      is_fault = inr (inr (w.count_is ∙ many, some, refl));
    }

-- ---- nothing that is decided

images_fault_kind : (input : List ℕ) → HasImagesFault input faults.InputTooLong → ⊥
images_fault_kind input h = by_fault h.is_fault
  where
    own_kind : (bytes : List ℕ) (len : ℕ) (own : PageFault) → IsImageFault bytes own → faults.InputTooLong ≡ behind_bytes len own → ⊥
    own_kind bytes len own (inl x) e = differ len (e ∙ ap (λ (k : PageFault). behind_bytes len k) x.1)
      where
        differ : (n : ℕ) → faults.InputTooLong ≡ faults.Magic (n + 1) → ⊥
        differ n e = cc
    own_kind bytes len faults.InputTooLong (inr x) e = x.1
    own_kind bytes len own (inr x) e = absurd cc

    by_fault : HasFaultAfter (length h.pages) (length h.images) h.behind faults.InputTooLong → ⊥
    by_fault (inl x) = x.1
    by_fault (inr (inl y)) = own_kind h.behind (length h.images) y.own y.is_own y.fault_is
    by_fault (inr (inr z)) = differ z.2
      where
        differ : faults.InputTooLong ≡ faults.TooManyImages → ⊥
        differ e = cc

-- a fault that is there whatever follows is none of the length
settles_images : (input : List ℕ) (fault : PageFault) → length input ≤ 268435456 → ((rest : List ℕ) → HasPagesFault (input ++ rest) fault) → Settles input fault
settles_images input fault short decides = λ rest. by_rest (input ++ rest) (decides rest)
  where
    now : HasImagesFault input fault
    now = here (subst (λ (l : List ℕ). HasPagesFault l fault) (append-nil input) (decides []))
      where
        here : HasPagesFault input fault → HasImagesFault input fault
        here (inl x) = absurd (omega (arith, short, too_long_len input x.1))
        here (inr x) = x.0

    by_rest : (all : List ℕ) → HasPagesFault all fault → HasImagesFault all fault
    by_rest all (inl x) = absurd (images_fault_kind input (subst (λ (k : PageFault). HasImagesFault input k) x.0 now))
    by_rest all (inr x) = x.0

-- where nothing is settled nothing is decided
pub no_fault_decided : (count len : ℕ) (taken : List ℕ) → len + length taken ≤ 268435456 → ((images : List ℕ) → WereImages count len images → (fault : PageFault) → Settles (images ++ taken) fault → ⊥)
    → DecidesNoFault count len taken
no_fault_decided count len taken low nothing =
    λ images w fault decides.
    nothing images w fault
    (settles_images (images ++ taken) fault (omega (arith, length-append images taken, w.len_is, low))
    (λ rest. subst (λ (l : List ℕ). HasPagesFault l fault) (sym (append_assoc images taken rest)) (decides rest)))

-- ---- nothing that is decided behind images

pub nothing_settles : (count len : ℕ) (images : List ℕ) → WereImages count len images → 0 < count → count ≤ 256 → len ≤ 268435456 → (fault : PageFault) → Settles (images ++ []) fault → ⊥
nothing_settles count len images w some few low fault s =
    let pages : ArePages (images ++ []) = (w.pages, inr (record { some = omega (arith, w.count_is, some); few = omega (arith, w.count_is, few); images = subst (λ (l : List ℕ). AreImages w.pages l) (sym (append-nil images)) w.are_images; short = omega (arith, ap length (append-nil images), w.len_is, low) })) in
    pages_decide_nothing (images ++ []) pages fault s

differ_magic : (m n : ℕ) → (m ≡ n → ⊥) → faults.Magic m ≡ faults.Magic n → ⊥
differ_magic m n other e = other (at_is m n e)
  where
    at_is : (m n : ℕ) → faults.Magic m ≡ faults.Magic n → m ≡ n
    at_is m n e = cc

no_image_at : (bytes : List ℕ) (own : PageFault) → HasFaultWithin bytes own → ((at : ℕ) → own ≡ faults.Trailing at → ⊥) → BeginsImage bytes → ⊥
no_image_at bytes own w other i = other (length i.image) (image_trails bytes own i w)

-- what has one fault, and another with a byte more, settles none
two_faults : (input more : List ℕ) (f g : PageFault) → (f ≡ g → ⊥) → HasImagesFault input f → HasImagesFault (input ++ more) g → (fault : PageFault) → Settles input fault → ⊥
two_faults input more f g other h k fault s =
    other (sym (one_images_fault input fault f (subst (λ (l : List ℕ). HasImagesFault l fault) (append-nil input) (s [])) h) ∙ one_images_fault (input ++ more) fault g (s more) k)

first_images : (bytes : List ℕ) (own : PageFault) → HasFaultWithin bytes own → ((at : ℕ) → own ≡ faults.Trailing at → ⊥) → HasImagesFault bytes own
first_images bytes own w other =
    record { pages = []; images = []; behind = bytes; front = record { whole = refl; are_images = refl; few = omega arith; most = λ lt. no_image_at bytes own w other }; is_fault = inl (refl, w) }

first_nothing : (fault : PageFault) → Settles [] fault → ⊥
first_nothing fault s =
    two_faults [] (80 ∷ []) (faults.Magic 0) (faults.Magic 1) (differ_magic 0 1 (λ e. omega (arith, e)))
    (first_images [] (faults.Magic 0) (inl (refl, λ b. omega (arith, ap length b.1))) (λ at e. cc)) (first_images (80 ∷ []) (faults.Magic 1) letter_fault (λ at e. cc)) fault s

first_letter : (fault : PageFault) → Settles (80 ∷ []) fault → ⊥
first_letter fault s =
    two_faults (80 ∷ []) (52 ∷ []) (faults.Magic 1) (faults.Truncated 2) (λ e. cc)
    (first_images (80 ∷ []) (faults.Magic 1) letter_fault (λ at e. cc)) (first_images (80 ∷ 52 ∷ []) (faults.Truncated 2) name_fault (λ at e. cc)) fault s

no_bytes : (bytes : List ℕ) → 0 ≡ length bytes → bytes ≡ []
no_bytes [] e = refl
no_bytes (x ∷ l) e = absurd (omega (arith, e))

one_letter : (bytes : List ℕ) → 1 ≡ length bytes → Begins (80 ∷ []) bytes → bytes ≡ 80 ∷ []
one_letter [] e b = absurd (omega (arith, e))
one_letter (x ∷ []) e b = ap (λ (n : ℕ). n ∷ []) (head_is x 80 [] b.0 b.1)
one_letter (x ∷ y ∷ l) e b = absurd (omega (arith, e))

moved : (a b : List ℕ) (fault : PageFault) → a ≡ b → Settles a fault → Settles b fault
moved a b fault e s = subst (λ (l : List ℕ). Settles l fault) e s

-- a fault at the end of the bytes is none that they settle
pub place_settles_nothing : (count len : ℕ) (bytes : List ℕ) (own : PageFault) (is_first : Bool) → count < 256 → len + length bytes ≤ 268435456 → (count ≡ 0 → is_first ≡ true)
    → (0 < count → is_first ≡ false) → IsOwnFault is_first bytes own → IsAtPlace (length bytes) own → (images : List ℕ) → WereImages count len images → (fault : PageFault) → Settles (images ++ bytes) fault → ⊥
place_settles_nothing count len bytes own is_first few low first later (inl o) place images w fault s =
    let here = subst (λ (k : PageFault). IsAtPlace (length bytes) k) o.2 place in
    omega (arith, here, ap length o.1.1)
place_settles_nothing count len bytes (faults.Truncated at) is_first few low first later (inr o) place images w fault s =
    cut_decides_nothing (images ++ bytes) (len + at) (has_own count len images bytes (faults.Truncated at) is_first w few first later (inr o)) fault s
place_settles_nothing count len bytes (faults.Magic at) is_first few low first later (inr o) place images w fault s = by_place o.0
  where
    none : (n : ℕ) → at ≡ n → n ≡ length bytes
    none n e = omega (arith, e, place)

    by_count : (b : List ℕ) → bytes ≡ b → (count ≡ 0 → Settles b fault → ⊥) → (0 < count → Settles (images ++ b) fault → ⊥) → ⊥
    by_count b e zero_case some_case =
        elim (is_zero count) [
          | inl none ↦
              let all : images ++ bytes ≡ b = ap (λ (l : List ℕ). l ++ bytes) (first_none count len images w none) ∙ e in
              zero_case none (moved (images ++ bytes) b fault all s)
          | inr some ↦ some_case some (moved (images ++ bytes) (images ++ b) fault (ap (λ (l : List ℕ). images ++ l) e) s)
        ]

    by_place : IsMagicFault bytes at → ⊥
    by_place (inl m) =
        by_count [] (no_bytes bytes (none 0 m.0)) (λ z k. first_nothing fault k)
        (λ some k. nothing_settles count len images w some (omega (arith, few)) (omega (arith, low)) fault k)
    by_place (inr m) =
        by_count (80 ∷ []) (one_letter bytes (none 1 m.0) m.1) (λ z k. first_letter fault k)
        (λ some k.
        let front = fronts count len images (80 ∷ []) w few (no_image_at (80 ∷ []) (faults.Magic 1) letter_fault (λ at e. cc)) in
        letter_decides_nothing (images ++ 80 ∷ []) w.pages images front (omega (arith, some, w.count_is)) (omega (arith, few, w.count_is)) fault k)
place_settles_nothing count len bytes (faults.Header at) is_first few low first later (inr o) place images w fault s = place
place_settles_nothing count len bytes faults.HeaderTooLong is_first few low first later (inr o) place images w fault s = place
place_settles_nothing count len bytes faults.ZeroSize is_first few low first later (inr o) place images w fault s = place
place_settles_nothing count len bytes (faults.TooLarge wide high) is_first few low first later (inr o) place images w fault s = place
place_settles_nothing count len bytes (faults.Pixel at) is_first few low first later (inr o) place images w fault s = place
place_settles_nothing count len bytes (faults.Trailing at) is_first few low first later (inr o) place images w fault s = place
place_settles_nothing count len bytes faults.InputTooLong is_first few low first later (inr o) place images w fault s = place
place_settles_nothing count len bytes faults.TooManyImages is_first few low first later (inr o) place images w fault s = place
place_settles_nothing count len bytes faults.ReadFault is_first few low first later (inr o) place images w fault s = place
place_settles_nothing count len bytes faults.Memory is_first few low first later (inr o) place images w fault s = place

-- ---- a page behind images

pub are_more : (pages : List Page) (images image : List ℕ) (page : Page) → AreImages pages images → SpellsIn Raw image page → AreImages (pages ++ page ∷ []) (images ++ image)
are_more [] images image page e s = (image, [], ap (λ (l : List ℕ). l ++ image) e ∙ sym (append-nil image), s, refl)
are_more (p ∷ ps) images image page e s = (e.0, e.1 ++ image, ap (λ (l : List ℕ). l ++ image) e.2 ∙ append_assoc e.0 e.1 image, e.3, are_more ps e.1 image page e.4 s)

pub page_settles_nothing : (count len : ℕ) (bytes : List ℕ) (page : Page) → count < 256 → len + length bytes ≤ 268435456 → (0 < count → Begins (magic Plain) bytes → ⊥) → Spells bytes page
    → (images : List ℕ) → WereImages count len images → (fault : PageFault) → Settles (images ++ bytes) fault → ⊥
page_settles_nothing count len bytes page few low raw p images w fault s = pages_decide_nothing (images ++ bytes) (by_count (is_zero count)) fault s
  where
    by_form : 0 < count → (form : Form) → p.form ≡ form → ArePages (images ++ bytes)
    by_form some Plain e = absurd (raw some (form_begins Plain bytes page (p, e)))
    by_form some Raw e = (
      w.pages ++ page ∷ [],
      inr (record {
        some = omega (arith, length-append w.pages (page ∷ []));
        few = omega (arith, length-append w.pages (page ∷ []), w.count_is, few);
        images = are_more w.pages images bytes page w.are_images (p, e);
        short = omega (arith, length-append images bytes, w.len_is, low);
      }),
    )

    by_count : (count ≡ 0) ⊎ (0 < count) → ArePages (images ++ bytes)
    by_count (inl none) =
        let same : images ++ bytes ≡ bytes = ap (λ (l : List ℕ). l ++ bytes) (first_none count len images w none) in
        subst ArePages (sym same) (page ∷ [], one_page_list bytes page p)
    by_count (inr some) = by_form some p.form refl

-- ---- a read failed

at_place : (n : ℕ) (own : PageFault) → IsAtPlace n own ⊎ (IsAtPlace n own → ⊥)
at_place n (faults.Truncated at) = equal at n
at_place n (faults.Magic at) = equal at n
at_place n (faults.Header at) = inr (λ e. e)
at_place n faults.HeaderTooLong = inr (λ e. e)
at_place n faults.ZeroSize = inr (λ e. e)
at_place n (faults.TooLarge wide high) = inr (λ e. e)
at_place n (faults.Pixel at) = inr (λ e. e)
at_place n (faults.Trailing at) = inr (λ e. e)
at_place n faults.InputTooLong = inr (λ e. e)
at_place n faults.TooManyImages = inr (λ e. e)
at_place n faults.ReadFault = inr (λ e. e)
at_place n faults.Memory = inr (λ e. e)

place_not_trailing : (n at : ℕ) (own : PageFault) → IsAtPlace n own → own ≡ faults.Trailing at → ⊥
place_not_trailing n at own place e = subst (λ (k : PageFault). IsAtPlace n k) e place

some_within : (bytes : List ℕ) (own : PageFault) → HasFaultWithin bytes own → IsAtPlace (length bytes) own → (own ≡ faults.Magic 0 → ⊥) → 0 < length bytes
some_within [] own w place other = absurd (other (one_within [] own (faults.Magic 0) w (inl (refl, λ b. omega (arith, ap length b.1)))))
some_within (x ∷ l) own w place other = omega arith

-- what begins no image and decides nothing of one page decides nothing behind images
pub undecided_next : (count len : ℕ) (taken : List ℕ) (is_first : Bool) → count < 256 → len + length taken ≤ 268435456 → (count ≡ 0 → is_first ≡ true) → (0 < count → is_first ≡ false)
    → DecidesNothing taken → MayBegin is_first taken → DecidesNoFault count len taken
undecided_next count len taken is_first few low first later nothing may = no_fault_decided count len taken low (λ images w fault s. by_judged images w fault s (judged_within taken (omega (arith, low))))
  where
    decided : (own : PageFault) → HasFaultWithin taken own → (IsAtPlace (length taken) own → ⊥) → ((at : ℕ) → own ≡ faults.Trailing at → ⊥) → ⊥
    decided own w inside other =
        nothing own (λ rest. has_fault (taken ++ rest) own (within rest (own_grown taken rest own true (inr (w, no_image_at taken own w other, λ e. absurd (not_both e), λ e. absurd (not_both e))) inside)))
      where
        not_both : true ≡ false → ⊥
        not_both e = cc

        within : (rest : List ℕ) → IsOwnFault true (taken ++ rest) own → HasFaultWithin (taken ++ rest) own
        within rest (inl o) = absurd (not_both o.0)
        within rest (inr o) = o.0

    -- a byte behind a raster is there whatever follows
    trails : (at : ℕ) → HasFaultWithin taken (faults.Trailing at) → ⊥
    trails at t =
        let total = ap length t.has_header.has_header.whole ∙ length-append t.header (t.raster ++ t.byte ∷ t.more) in
        let name = header_begins taken t.header (t.raster ++ t.byte ∷ t.more) t.form t.width t.height t.has_header.has_header in
        let le : 2 ≤ length taken = by_form t.form name in
        nothing (faults.Trailing at) (λ rest. has_fault (taken ++ rest) (faults.Trailing at) (kept taken rest (faults.Trailing at) (shown taken taken (faults.Trailing at) le (λ k e. cc) t) t))
      where
        by_form : (form : Form) → Begins (magic form) taken → 2 ≤ length taken
        by_form Plain b = omega (arith, ap length b.1)
        by_form Raw b = omega (arith, ap length b.1)

    by_place : (images : List ℕ) → WereImages count len images → (fault : PageFault) → Settles (images ++ taken) fault → (own : PageFault) → HasFaultWithin taken own → IsAtPlace (length taken) own
        → (l : List ℕ) → taken ≡ l → ⊥
    by_place images w fault s own o place (x ∷ l) e =
        place_settles_nothing count len taken own is_first few low first later
        (inr (o, no_image_at taken own o (λ at. place_not_trailing (length taken) at own place), may, λ z. omega (arith, ap length e))) place images w fault s
    by_place images w fault s own o place [] e =
        elim (is_zero count) [
          | inl none ↦
              place_settles_nothing count len taken own is_first few low first later
              (inr (o, no_image_at taken own o (λ at. place_not_trailing (length taken) at own place), may, λ z. absurd (not_both is_first (first none) z))) place images w fault s
          | inr some ↦
              nothing_settles count len images w some (omega (arith, few)) (omega (arith, low)) fault (moved (images ++ taken) (images ++ []) fault (ap (λ (l : List ℕ). images ++ l) e) s)
        ]
      where
        not_both : (b : Bool) → b ≡ true → b ≡ false → ⊥
        not_both b p q = cc

    by_fault : (own : PageFault) → HasFaultWithin taken own → (IsAtPlace (length taken) own → ⊥) → ⊥
    by_fault (faults.Trailing at) w inside = trails at w
    by_fault own w inside = decided own w inside (λ at e. absurd cc)

    by_judged : (images : List ℕ) → WereImages count len images → (fault : PageFault) → Settles (images ++ taken) fault → IsPage taken ⊎ ((own : PageFault) × HasFaultWithin taken own) → ⊥
    by_judged images w fault s (inl p) = page_settles_nothing count len taken p.0 few low (λ some. may (later some)) p.1 images w fault s
    by_judged images w fault s (inr o) =
        elim (at_place (length taken) o.0) [
          | inl place ↦ by_place images w fault s o.0 o.1 place taken refl
          | inr inside ↦ by_fault o.0 o.1 inside
        ]
