-- An input that spells a list of pages spells one, and has no fault; one that spells none has at most one fault.
use Rattle.std.proofs.Common.{◌≡◌, ℕ, ◌<◌, List, [], ◌∷◌, length, refl, sym, ap, subst, ◌∙◌, inl, inr, arith}
use Rattle.std.proofs.lemmas.List.{append-nil, length-append}
use Rattle.pbm_reader.specs.declared.fault.PageFault.{PageFault}
use Rattle.pbm_reader.specs.declared.form.Form.TheVariants.{Plain}
use Rattle.packed_rows.specs.Page.{Page}
use Rattle.pbm_reader.specs.Fault.{HasFaultWithin}
use Rattle.pbm_reader.specs.Images.{SpellsIn, SpellsImages, SpellsPages, BeginsImage, FrontImages, behind_bytes, IsImageFault, HasFaultAfter, HasImagesFault, ArePagesTooLong, HasPagesFault}
use Rattle.pbm_reader.proofs.OneFault.{one_within, page_within}
use Rattle.pbm_reader.proofs.OnePage.{one_page}
use Rattle.pbm_reader.proofs.RawImages.{SameImages, images_once, first_image, nothing_first, form_begins, image_begins, no_image, one_name}

-- ---- the bytes behind the images

own_once : (bytes : List ℕ) (f g : PageFault) → IsImageFault bytes f → IsImageFault bytes g → f ≡ g
own_once bytes f g (inl x) (inl y) = x.1 ∙ sym y.1
own_once bytes f g (inl x) (inr y) = absurd (y.0 x.0)
own_once bytes f g (inr x) (inl y) = absurd (x.0 y.0)
own_once bytes f g (inr x) (inr y) = one_within bytes f g x.1 y.1

after_once : (count len : ℕ) (bytes : List ℕ) (f g : PageFault) → HasFaultAfter count len bytes f → HasFaultAfter count len bytes g → f ≡ g
after_once count len bytes f g (inl x) (inl y) = one_within bytes f g x.1 y.1
after_once count len bytes f g (inl x) (inr (inl y)) = let some = y.some in absurd (omega (arith, x.0, some))
after_once count len bytes f g (inl x) (inr (inr y)) = absurd (omega (arith, x.0, y.0))
after_once count len bytes f g (inr (inl x)) (inl y) = let some = x.some in absurd (omega (arith, y.0, some))
after_once count len bytes f g (inr (inl x)) (inr (inl y)) =
    x.fault_is ∙ ap (λ (k : PageFault). behind_bytes len k) (own_once bytes x.own y.own x.is_own y.is_own) ∙ sym y.fault_is
after_once count len bytes f g (inr (inl x)) (inr (inr y)) = let fewer = x.fewer in absurd (omega (arith, y.0, fewer))
after_once count len bytes f g (inr (inr x)) (inl y) = absurd (omega (arith, x.0, y.0))
after_once count len bytes f g (inr (inr x)) (inr (inl y)) = let fewer = y.fewer in absurd (omega (arith, x.0, fewer))
after_once count len bytes f g (inr (inr x)) (inr (inr y)) = x.2 ∙ sym y.2

-- the images at the front are cut off in one way
fronts_once : (input : List ℕ) (ps qs : List Page) (a b r q : List ℕ) → FrontImages input ps a r → FrontImages input qs b q → SameImages ps qs a b r q
fronts_once input ps qs a b r q x y = images_once 256 ps qs a r b q (sym x.whole ∙ y.whole) x.are_images y.are_images x.few y.few x.most y.most

after_moved : (ps qs : List Page) (a b r q : List ℕ) (fault : PageFault) → SameImages ps qs a b r q → HasFaultAfter (length ps) (length a) r fault
    → HasFaultAfter (length qs) (length b) q fault
after_moved ps qs a b r q fault s f =
    let P : List Page → Type 0 = λ l. HasFaultAfter (length l) (length a) r fault in
    let Q : List ℕ → Type 0 = λ l. HasFaultAfter (length qs) (length l) r fault in
    let R : List ℕ → Type 0 = λ l. HasFaultAfter (length qs) (length b) l fault in
    subst R s.behind (subst Q s.images (subst P s.pages f))

pub one_images_fault : (input : List ℕ) (f g : PageFault) → HasImagesFault input f → HasImagesFault input g → f ≡ g
one_images_fault input f g x y =
    let s = fronts_once input x.pages y.pages x.images y.images x.behind y.behind x.front y.front in
    after_once (length y.pages) (length y.images) y.behind f g (after_moved x.pages y.pages x.images y.images x.behind y.behind f s x.is_fault) y.is_fault

-- ---- bytes that spell pages

-- all of the bytes are the images at their front
full_front : (input : List ℕ) (pages : List Page) → SpellsImages input pages → FrontImages input pages input []
full_front input pages s = record { whole = sym (append-nil input); are_images = s.images; few = s.few; most = λ lt i. no_image i }

-- no image stands at the front of a page in the plain form
plain_front : (input : List ℕ) (page : Page) (pages : List Page) (images behind : List ℕ) → SpellsIn Plain input page → FrontImages input pages images behind
    → (pages ≡ []) × (input ≡ behind)
plain_front input page [] images behind s f = (refl, f.whole ∙ nothing_first images behind f.are_images)
plain_front input page (first ∷ pages) images behind s f =
    let P : List ℕ → Type 0 = λ l. BeginsImage l in
    absurd (one_name input (form_begins Plain input page s) (image_begins input (subst P (sym f.whole) (first_image first pages images behind f.are_images))))

pub pages_have_no_fault : (input : List ℕ) (pages : List Page) (fault : PageFault) → SpellsPages input pages → HasImagesFault input fault → ⊥
pages_have_no_fault input pages fault (inl p) h = cases h.is_fault
  where
    front : (h.pages ≡ []) × (input ≡ h.behind)
    front = plain_front input p.0 h.pages h.images h.behind p.2 h.front

    cases : HasFaultAfter (length h.pages) (length h.images) h.behind fault → ⊥
    cases (inl x) = page_within input p.0 fault p.2.0 (subst (λ (l : List ℕ). HasFaultWithin l fault) (sym front.1) x.1)
    cases (inr (inl y)) = let some = y.some in omega (arith, some, ap length front.0)
    cases (inr (inr z)) = omega (arith, z.0, ap length front.0)
pages_have_no_fault input pages fault (inr s) h = cases (after_moved h.pages pages h.images input h.behind [] fault same h.is_fault)
  where
    same : SameImages h.pages pages h.images input h.behind []
    same = fronts_once input h.pages pages h.images input h.behind [] h.front (full_front input pages s)

    cases : HasFaultAfter (length pages) (length input) [] fault → ⊥
    cases (inl x) = let some = s.some in omega (arith, some, x.0)
    cases (inr (inl y)) = let more = y.more in omega (arith, more)
    cases (inr (inr z)) = omega (arith, z.1)

pub one_list : (input : List ℕ) (ps qs : List Page) → SpellsPages input ps → SpellsPages input qs → ps ≡ qs
one_list input ps qs (inl x) (inl y) = x.1 ∙ ap (λ (p : Page). p ∷ []) (one_page input x.0 y.0 x.2.0 y.2.0) ∙ sym y.1
one_list input ps qs (inl x) (inr y) =
    let some = y.some in
    let none = plain_front input x.0 qs input [] x.2 (full_front input qs y) in
    absurd (omega (arith, some, ap length none.0))
one_list input ps qs (inr x) (inl y) =
    let some = x.some in
    let none = plain_front input y.0 ps input [] y.2 (full_front input ps x) in
    absurd (omega (arith, some, ap length none.0))
one_list input ps qs (inr x) (inr y) = let s = fronts_once input ps qs input input [] [] (full_front input ps x) (full_front input qs y) in s.pages

-- ---- whatever the length is

pub too_long_len : (input : List ℕ) → ArePagesTooLong input → 268435456 < length input
too_long_len input l = let more = l.more in omega (arith, ap length l.whole, length-append l.front l.behind, l.len, more)

pub one_pages_fault : (input : List ℕ) (f g : PageFault) → HasPagesFault input f → HasPagesFault input g → f ≡ g
one_pages_fault input f g (inl x) (inl y) = x.0 ∙ sym y.0
one_pages_fault input f g (inl x) (inr y) = absurd (y.1 x.1)
one_pages_fault input f g (inr x) (inl y) = absurd (x.1 y.1)
one_pages_fault input f g (inr x) (inr y) = one_images_fault input f g x.0 y.0

pub never_both : (input : List ℕ) (pages : List Page) (fault : PageFault) → SpellsPages input pages → HasPagesFault input fault → ⊥
never_both input pages fault s (inr y) = pages_have_no_fault input pages fault s y.0
never_both input pages fault (inl p) (inl x) = let short = p.2.0.short in omega (arith, short, too_long_len input x.1)
never_both input pages fault (inr s) (inl x) = let short = s.short in omega (arith, short, too_long_len input x.1)
