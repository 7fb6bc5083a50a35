-- The raw images at the front of an input are cut off in one way, and an input in the plain form has none.
use Rattle.std.proofs.Common.{◌≡◌, ◌⊎◌, ◌≤◌, ◌+◌, ℕ, List, [], ◌∷◌, ◌++◌, length, get_or, refl, sym, ◌∙◌, ap, subst, inl, inr, arith, append_assoc, length-append}
use Rattle.std.specs.Prelude.{All}
use Rattle.std.proofs.lemmas.List.{append-nil, append_cancel_left}
use Rattle.std.proofs.lemmas.List.Elements.{All-nil, All-cons, All-head, All-tail}
use Rattle.pbm_reader.specs.declared.form.Form.{Form}
use Rattle.pbm_reader.specs.declared.form.Form.TheVariants.{Plain, Raw}
use Rattle.pbm_reader.specs.Page.{Page}
use Rattle.pbm_reader.specs.declared.fault.PageFault.{PageFault}
use Rattle.pbm_reader.specs.declared.fault.PageFault.TheVariants as faults
use Rattle.pbm_reader.specs.Spelling.{magic, IsHeader, MayFollow, Spells, SpellsRows}
use Rattle.pbm_reader.specs.Fault.{Begins, HasFault}
use Rattle.pbm_reader.specs.Images.{SpellsIn, AreImages}
use Rattle.layout_core.proofs.Components.{SpellsOne}

-- ---- lists

pub all_front : {X : Type 0} (P : X → Type 0) (xs ys : List X) → All P (xs ++ ys) → All P xs
all_front P [] ys all = All-nil P
all_front P (x ∷ xs) ys all = All-cons P x xs (All-head P x (xs ++ ys) all) (all_front P xs ys (All-tail P x (xs ++ ys) all))

pub all_last : {X : Type 0} (P : X → Type 0) (xs : List X) (x : X) → All P (xs ++ x ∷ []) → P x
all_last P [] x all = All-head P x [] all
all_last P (y ∷ xs) x all = all_last P xs x (All-tail P y (xs ++ x ∷ []) all)

-- ---- the name of a form

header_begins : (bytes header behind : List ℕ) (form : Form) (width height : ℕ) → IsHeader header form width height → bytes ≡ header ++ behind → Begins (magic form) bytes
header_begins bytes header behind form width height h e =
    let rest : List ℕ = h.gap ++ (h.width_text ++ (h.second_gap ++ (h.height_text ++ (h.end ∷ behind)))) in
    let joined : header ++ behind ≡ magic form ++ rest = ap (λ (l : List ℕ). l ++ behind) h.whole ∙ simp append_assoc in
    (rest, e ∙ joined)

-- bytes that spell a page in a form begin with the form's name
pub form_begins : (form : Form) (bytes : List ℕ) (page : Page) → SpellsIn form bytes page → Begins (magic form) bytes
form_begins form bytes page s =
    let p = s.0 in
    let P : Form → Type 0 = λ f. Begins (magic f) bytes in
    subst P s.1 (header_begins bytes p.header (p.raster ++ p.tail) p.form page.width page.height (p.has_header).is_header (p.has_header).whole)

pub begins_more : (front bytes more : List ℕ) → Begins front bytes → Begins front (bytes ++ more)
begins_more front bytes more b = (b.0 ++ more, ap (λ (l : List ℕ). l ++ more) b.1 ∙ append_assoc front b.0 more)

-- no bytes have two names
pub one_name : (bytes : List ℕ) → Begins (magic Plain) bytes → Begins (magic Raw) bytes → ⊥
one_name bytes p r =
    let second : List ℕ → ℕ = λ l. get_or l 1 0 in
    let differ : 49 ≡ 52 = ap second (sym p.1 ∙ r.1) in
    omega (arith, differ)

-- ---- images at a front

-- some images at the front of bytes begin with the name of the raw form
pub images_begin : (page : Page) (pages : List Page) (bytes behind : List ℕ) → AreImages (page ∷ pages) bytes → Begins (magic Raw) (bytes ++ behind)
images_begin page pages bytes behind are =
    let P : List ℕ → Type 0 = λ l. Begins (magic Raw) (l ++ behind) in
    subst P (sym are.2) (begins_more (magic Raw) (are.0 ++ are.1) behind (begins_more (magic Raw) are.0 are.1 (form_begins Raw are.0 page are.3)))

-- one more image behind the others
pub images_more : (pages : List Page) (page : Page) (bytes image : List ℕ) → AreImages pages bytes → SpellsIn Raw image page → AreImages (pages ++ page ∷ []) (bytes ++ image)
images_more [] page bytes image are is = (image, [], ap (λ (l : List ℕ). l ++ image) are ∙ alone image, is, refl)
  where
    alone : (l : List ℕ) → l ≡ l ++ []
    alone l = sym (append-nil l)
images_more (p ∷ pages) page bytes image are is =
    (are.0, are.1 ++ image, ap (λ (l : List ℕ). l ++ image) are.2 ∙ append_assoc are.0 are.1 image, are.3, images_more pages page are.1 image are.4 is)

-- ---- one image at a front

-- of two fronts of one list the one begins with the other
one_reaches : (a b x y : List ℕ) → a ++ x ≡ b ++ y → ((more : List ℕ) × (b ≡ a ++ more)) ⊎ ((more : List ℕ) × (a ≡ b ++ more))
one_reaches [] b x y e = inl (b, refl)
one_reaches (k ∷ a) [] x y e = inr (k ∷ a, refl)
one_reaches (k ∷ a) (l ∷ b) x y e =
    elim (one_reaches a b x y (rest k l (a ++ x) (b ++ y) e)) [
      | inl m ↦ inl (m.0, joined l k b (a ++ m.0) (sym (first k l (a ++ x) (b ++ y) e)) m.1)
      | inr m ↦ inr (m.0, joined k l a (b ++ m.0) (first k l (a ++ x) (b ++ y) e) m.1)
    ]
  where
    rest : (k l : ℕ) (xs ys : List ℕ) → k ∷ xs ≡ l ∷ ys → xs ≡ ys
    rest k l xs ys e = cc

    first : (k l : ℕ) (xs ys : List ℕ) → k ∷ xs ≡ l ∷ ys → k ≡ l
    first k l xs ys e = cc

    joined : (k l : ℕ) (xs ys : List ℕ) → k ≡ l → xs ≡ ys → k ∷ xs ≡ l ∷ ys
    joined k l xs ys e f = cc

no_tail : (tail : List ℕ) → MayFollow Raw tail → tail ≡ []
no_tail [] f = refl
no_tail (byte ∷ tail) f = absurd f

-- a byte behind a raw image is a fault of one page
byte_trails : (bytes more : List ℕ) (byte : ℕ) (page : Page) → SpellsIn Raw bytes page → length (bytes ++ byte ∷ more) ≤ 268435456 → HasFault (bytes ++ byte ∷ more) (faults.Trailing (length bytes))
byte_trails bytes more byte page s low =
    let p = s.0 in
    let h = p.has_header in
    let none : p.tail ≡ [] = no_tail p.tail (subst (λ (f : Form). MayFollow f p.tail) s.1 p.follows) in
    let rows : SpellsRows Raw page p.raster = subst (λ (f : Form). SpellsRows f page p.raster) s.1 p.rows in
    let whole : bytes ≡ p.header ++ p.raster = h.whole ∙ ap (λ (l : List ℕ). p.header ++ (p.raster ++ l)) none ∙ ap (λ (l : List ℕ). p.header ++ l) (append-nil p.raster) in
    record {
      form = Raw;
      width = page.width;
      height = page.height;
      header = p.header;
      raster = p.raster;
      byte = byte;
      more = more;
      has_header = record {
        has_header = record {
          whole = ap (λ (l : List ℕ). l ++ byte ∷ more) whole ∙ append_assoc p.header p.raster (byte ∷ more);
          is_header = subst (λ (f : Form). IsHeader p.header f page.width page.height) s.1 h.is_header;
          short = h.short;
        };
        size = p.size;
      };
      is_raster = rows.0;
      refused = λ f. f;
      place_is = ap length whole ∙ length-append p.header p.raster;
      low = omega (arith, low, length-append bytes (byte ∷ more));
    }

-- a page has no fault
abbrev pub PageOrFault : Type 0
PageOrFault = (input : List ℕ) (page : Page) (fault : PageFault) → Spells input page → HasFault input fault → ⊥

nothing_more : PageOrFault → (a b more : List ℕ) (p q : Page) → SpellsIn Raw a p → SpellsIn Raw b q → b ≡ a ++ more → a ≡ b
nothing_more never a b [] p q s t e = sym (e ∙ append-nil a)
nothing_more never a b (byte ∷ more) p q s t e =
    let there : Spells (a ++ byte ∷ more) q = subst (λ (l : List ℕ). Spells l q) e t.0 in
    absurd (never (a ++ byte ∷ more) q (faults.Trailing (length a)) there (byte_trails a more byte p s there.short))

-- no raw image is a proper front of another
abbrev pub OneImage : Type 0
OneImage = (a b x y : List ℕ) (p q : Page) → SpellsIn Raw a p → SpellsIn Raw b q → a ++ x ≡ b ++ y → (a ≡ b) × (p ≡ q)

pub one_image : PageOrFault → SpellsOne → OneImage
one_image never one a b x y p q s t e =
    let same : a ≡ b =
    elim (one_reaches a b x y e) [
      | inl m ↦ nothing_more never a b m.0 p q s t m.1
      | inr m ↦ sym (nothing_more never b a m.0 q p t s m.1)
    ] in
    (same, one b p q (subst (λ (l : List ℕ). Spells l p) same s.0) t.0)

-- Behind all images of some pages another one follows.
pub record FollowsThese (pages qs : List Page) (images others behind : List ℕ) : Type 0 where
  pub next : Page
  pub more : List Page
  pub image : List ℕ
  pub rest : List ℕ
  pub list : qs ≡ pages ++ next ∷ more
  pub whole : behind ≡ image ++ rest
  pub is_image : SpellsIn Raw image next
  pub short : length images + length image ≤ length others

-- of two lists of images at one front the one is the front of the other
pub one_cut : OneImage → (pages qs : List Page) (images behind others rest : List ℕ) → AreImages pages images → AreImages qs others → images ++ behind ≡ others ++ rest
    → ((more : List Page) × (pages ≡ qs ++ more)) ⊎ FollowsThese pages qs images others behind
one_cut one pages [] images behind others rest are are_too same = inl (pages, refl)
one_cut one [] (q ∷ qs) images behind others rest are are_too same =
    let whole : behind ≡ are_too.0 ++ (are_too.1 ++ rest) =
    sym (ap (λ (l : List ℕ). l ++ behind) are) ∙ same ∙ ap (λ (l : List ℕ). l ++ rest) are_too.2 ∙ append_assoc are_too.0 are_too.1 rest in
    inr (record {
      next = q;
      more = qs;
      image = are_too.0;
      rest = are_too.1 ++ rest;
      list = refl;
      whole = whole;
      is_image = are_too.3;
      short = omega (arith, ap length are, ap length are_too.2, length-append are_too.0 are_too.1);
    })
one_cut one (p ∷ pages) (q ∷ qs) images behind others rest are are_too same =
    let split : are.0 ++ (are.1 ++ behind) ≡ are_too.0 ++ (are_too.1 ++ rest) =
    sym (ap (λ (l : List ℕ). l ++ behind) are.2 ∙ append_assoc are.0 are.1 behind) ∙ same ∙ ap (λ (l : List ℕ). l ++ rest) are_too.2 ∙ append_assoc are_too.0 are_too.1 rest in
    let once = one are.0 are_too.0 (are.1 ++ behind) (are_too.1 ++ rest) p q are.3 are_too.3 split in
    let tails : are.1 ++ behind ≡ are_too.1 ++ rest = append_cancel_left are_too.0 (are.1 ++ behind) (are_too.1 ++ rest) (sym (ap (λ (l : List ℕ). l ++ (are.1 ++ behind)) once.0) ∙ split) in
    elim (one_cut one pages qs are.1 behind are_too.1 rest are.4 are_too.4 tails) [
      | inl m ↦ inl (m.0, both p q pages (qs ++ m.0) once.1 m.1)
      | inr f ↦
          inr (record {
            next = f.next;
            more = f.more;
            image = f.image;
            rest = f.rest;
            list = both q p qs (pages ++ f.next ∷ f.more) (sym once.1) f.list;
            whole = f.whole;
            is_image = f.is_image;
            short = omega (arith, f.short, ap length once.0, ap length are.2, ap length are_too.2, length-append are.0 are.1, length-append are_too.0 are_too.1);
          })
    ]
  where
    both : (u v : Page) (us vs : List Page) → u ≡ v → us ≡ vs → u ∷ us ≡ v ∷ vs
    both u v us vs h t = cc
