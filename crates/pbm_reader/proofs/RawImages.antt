-- The raw images at the front of some bytes: there is one way to cut them off.
use Rattle.std.proofs.Common.{◌≡◌, ℕ, ◌-◌, ◌*◌, ◌<◌, ◌≤◌, min, Some, None, List, [], ◌∷◌, ◌++◌, length, refl, sym, ap, subst, ◌∙◌, append_assoc, arith}
use Rattle.std.proofs.lemmas.Bool.{le-ltb}
use Rattle.std.proofs.lemmas.List.{append-nil, length-append}
use Rattle.pbm_reader.specs.declared.fault.PageFault.{PageFault}
use Rattle.pbm_reader.specs.declared.fault.PageFault.TheVariants as faults
use Rattle.pbm_reader.specs.declared.form.Form.{Form}
use Rattle.pbm_reader.specs.declared.form.Form.TheVariants.{Plain, Raw}
use Rattle.pbm_reader.specs.declared.state.HeaderState.TheVariants.{Magic, Whole}
use Rattle.packed_rows.specs.Page.{Page, IsPageSize, row_len}
use Rattle.pbm_reader.specs.Spelling.{Spells, IsHeader, HasHeader, IsRaster, magic, raster_page, MayFollow, SpellsRows}
use Rattle.pbm_reader.specs.Header.{next_state}
use Rattle.pbm_reader.specs.Fault.{Begins, HasFaultWithin, IsTrailing}
use Rattle.pbm_reader.specs.Images.{SpellsIn, AreImages, BeginsImage}
use Rattle.pbm_reader.proofs.Gaps.{some_is, none_some}
use Rattle.pbm_reader.proofs.Splits.{goes_on, nothing_behind, second_is}
use Rattle.pbm_reader.proofs.Machines.{reached_once}
use Rattle.pbm_reader.proofs.HeaderWalk.{header_reads, whole_width, whole_height}
use Rattle.pbm_reader.proofs.Verdict.{verdict, raster_verdict, verdict_sized, whole_stuck}
use Rattle.pbm_reader.proofs.FaultVerdicts.{fault_verdict, behind_verdict}
use Rattle.pbm_reader.proofs.OnePage.{no_tail, one_page, size_is}

-- ---- the names of the forms

pub begins_more : (p a x : List ℕ) → Begins p a → Begins p (a ++ x)
begins_more p a x b = (b.0 ++ x, ap (λ (l : List ℕ). l ++ x) b.1 ∙ append_assoc p b.0 x)

pub header_begins : (input header behind : List ℕ) (form : Form) (width height : ℕ) → HasHeader input header behind form width height → Begins (magic form) input
header_begins input header behind form width height h =
    let i = h.is_header in
    let name = magic form in
    let P : List ℕ → Type 0 = λ l. Begins name l in
    let wide = begins_more name (name ++ i.gap) i.width_text (begins_more name name i.gap ([], sym (append-nil name))) in
    let high = begins_more name (name ++ i.gap ++ i.width_text ++ i.second_gap) i.height_text (begins_more name (name ++ i.gap ++ i.width_text) i.second_gap wide) in
    let all = begins_more name (name ++ i.gap ++ i.width_text ++ i.second_gap ++ i.height_text) (i.end ∷ []) high in
    subst P (sym h.whole) (begins_more name header behind (subst P (sym i.whole) all))

pub form_begins : (form : Form) (bytes : List ℕ) (page : Page) → SpellsIn form bytes page → Begins (magic form) bytes
form_begins form bytes page s =
    subst (λ (f : Form). Begins (magic f) bytes) s.1 (header_begins bytes s.0.header (s.0.raster ++ s.0.tail) s.0.form page.width page.height s.0.has_header)

pub image_begins : (bytes : List ℕ) → BeginsImage bytes → Begins (magic Raw) bytes
image_begins bytes i = subst (λ (l : List ℕ). Begins (magic Raw) l) (sym i.whole) (begins_more (magic Raw) i.image i.rest (form_begins Raw i.image i.page i.is_image))

pub no_image : BeginsImage [] → ⊥
no_image i = let b = image_begins [] i in not_nil 80 (52 ∷ b.0) b.1
  where
    not_nil : (x : ℕ) (xs : List ℕ) → [] ≡ x ∷ xs → ⊥
    not_nil x xs e = cc

-- no bytes begin with both names
pub one_name : (bytes : List ℕ) → Begins (magic Plain) bytes → Begins (magic Raw) bytes → ⊥
one_name bytes a b = omega (arith, second_is 80 49 80 52 a.0 b.0 (sym a.1 ∙ b.1))

-- ---- an image

pub record RawImage (bytes : List ℕ) (page : Page) : Type 0 where
  pub header : List ℕ
  pub raster : List ℕ
  pub whole : bytes ≡ header ++ raster
  pub is_header : IsHeader header Raw page.width page.height
  pub short : length header ≤ 65536
  pub size : IsPageSize page.width page.height
  pub len : length raster ≡ page.height * row_len page.width

pub raw_image : (bytes : List ℕ) (page : Page) → SpellsIn Raw bytes page → RawImage bytes page
raw_image bytes page s =
    let p = s.0 in
    let h = p.has_header in
    let none = no_tail p.tail (subst (λ (f : Form). MayFollow f p.tail) s.1 p.follows) in
    let rows : SpellsRows Raw page p.raster = subst (λ (f : Form). SpellsRows f page p.raster) s.1 p.rows in
    record {
      header = p.header;
      raster = p.raster;
      whole = h.whole ∙ ap (λ (l : List ℕ). p.header ++ (p.raster ++ l)) none ∙ ap (λ (l : List ℕ). p.header ++ l) (append-nil p.raster);
      is_header = subst (λ (f : Form). IsHeader p.header f page.width page.height) s.1 h.is_header;
      short = h.short;
      size = p.size;
      len = rows.0;
    }

pub same_front : (a r b q : List ℕ) → a ++ r ≡ b ++ q → length a ≡ length b → (a ≡ b) × (r ≡ q)
same_front a r b q e len =
    let g = goes_on a r b q e (omega (arith, len)) in
    let none = nothing_behind g.middle (omega (arith, ap length g.first, length-append b g.middle, len)) in
    (g.first ∙ ap (λ (l : List ℕ). b ++ l) none ∙ append-nil b, sym (g.second ∙ ap (λ (l : List ℕ). l ++ r) none))

-- one image stands at the front
pub image_once : (a r b q : List ℕ) (p t : Page) → a ++ r ≡ b ++ q → SpellsIn Raw a p → SpellsIn Raw b t → (a ≡ b) × (r ≡ q)
image_once a r b q p t e s u =
    let x = raw_image a p s in
    let y = raw_image b t u in
    let wide = min p.width 999999999 in
    let high = min p.height 999999999 in
    let wider = min t.width 999999999 in
    let higher = min t.height 999999999 in
    let split : x.header ++ (x.raster ++ r) ≡ y.header ++ (y.raster ++ q) =
    sym (ap (λ (l : List ℕ). l ++ r) x.whole ∙ append_assoc x.header x.raster r) ∙ e ∙ ap (λ (l : List ℕ). l ++ q) y.whole ∙ append_assoc y.header y.raster q in
    let once = reached_once next_state Magic (Whole Raw wide high) (Whole Raw wider higher) x.header y.header (x.raster ++ r) (y.raster ++ q) split
    (header_reads x.header Raw p.width p.height x.is_header) (header_reads y.header Raw t.width t.height y.is_header)
    (whole_stuck Raw wide high (x.raster ++ r)) (whole_stuck Raw wider higher (y.raster ++ q)) in
    let same_width : p.width ≡ t.width = size_is p.width t.width x.size.width_bound y.size.width_bound (whole_width Raw Raw wide high wider higher once.last) in
    let same_height : p.height ≡ t.height = size_is p.height t.height x.size.height_bound y.size.height_bound (whole_height Raw Raw wide high wider higher once.last) in
    let len : length x.raster ≡ length y.raster =
    x.len ∙ ap (λ (n : ℕ). n * row_len p.width) same_height ∙ ap (λ (n : ℕ). t.height * row_len n) same_width ∙ sym y.len in
    let total : length a ≡ length b =
    omega (arith, ap length x.whole, ap length y.whole, length-append x.header x.raster, length-append y.header y.raster, ap length once.front, len) in
    same_front a r b q e total

-- ---- images one behind the other

pub record SameImages (ps qs : List Page) (a b r q : List ℕ) : Type 0 where
  pub pages : ps ≡ qs
  pub images : a ≡ b
  pub behind : r ≡ q

pub nothing_first : (a r : List ℕ) → a ≡ [] → a ++ r ≡ r
nothing_first a r e = ap (λ (l : List ℕ). l ++ r) e

pub first_image : (page : Page) (pages : List Page) (bytes rest : List ℕ) → AreImages (page ∷ pages) bytes → BeginsImage (bytes ++ rest)
first_image page pages bytes rest i =
    record { page = page; image = i.0; rest = i.1 ++ rest; whole = ap (λ (l : List ℕ). l ++ rest) i.2 ∙ append_assoc i.0 i.1 rest; is_image = i.3 }

-- as many images as there are, up to a number of them, are cut off in one way
pub images_once : (n : ℕ) (ps qs : List Page) (a r b q : List ℕ) → a ++ r ≡ b ++ q → AreImages ps a → AreImages qs b → length ps ≤ n → length qs ≤ n
    → (length ps < n → BeginsImage r → ⊥) → (length qs < n → BeginsImage q → ⊥) → SameImages ps qs a b r q
images_once n [] [] a r b q e x y few less most last =
    record { pages = refl; images = x ∙ sym y; behind = sym (nothing_first a r x) ∙ e ∙ nothing_first b q y }
images_once n [] (t ∷ qs) a r b q e x y few less most last =
    absurd (most (omega (arith, less)) (subst (λ (l : List ℕ). BeginsImage l) (sym e ∙ nothing_first a r x) (first_image t qs b q y)))
images_once n (p ∷ ps) [] a r b q e x y few less most last =
    absurd (last (omega (arith, few)) (subst (λ (l : List ℕ). BeginsImage l) (e ∙ nothing_first b q y) (first_image p ps a r x)))
images_once n (p ∷ ps) (t ∷ qs) a r b q e x y few less most last =
    let split : x.0 ++ (x.1 ++ r) ≡ y.0 ++ (y.1 ++ q) =
    sym (ap (λ (l : List ℕ). l ++ r) x.2 ∙ append_assoc x.0 x.1 r) ∙ e ∙ ap (λ (l : List ℕ). l ++ q) y.2 ∙ append_assoc y.0 y.1 q in
    let once = image_once x.0 (x.1 ++ r) y.0 (y.1 ++ q) p t split x.3 y.3 in
    let page = one_page y.0 p t (subst (λ (l : List ℕ). Spells l p) once.0 x.3.0) y.3.0 in
    let i = images_once (n - 1) ps qs x.1 r y.1 q once.1 x.4 y.4 (omega (arith, few)) (omega (arith, less)) (λ lt. most (omega (arith, lt))) (λ lt. last (omega (arith, lt))) in
    record { pages = both p t ps qs page i.pages; images = x.2 ∙ joined x.0 y.0 x.1 y.1 once.0 i.images ∙ sym y.2; behind = i.behind }
  where
    both : (u v : Page) (us vs : List Page) → u ≡ v → us ≡ vs → u ∷ us ≡ v ∷ vs
    both u v us vs h t = cc

    joined : (u v us vs : List ℕ) → u ≡ v → us ≡ vs → u ++ us ≡ v ++ vs
    joined u v us vs h t = cc

-- ---- what an image at the front is to the reader of one page

-- the one fault that bytes with an image at their front can have is a byte behind it
pub image_trails : (bytes : List ℕ) (fault : PageFault) (i : BeginsImage bytes) → HasFaultWithin bytes fault → fault ≡ faults.Trailing (length i.image)
image_trails bytes fault i f = by_rest i.rest refl
  where
    x : RawImage i.image i.page
    x = raw_image i.image i.page i.is_image

    all : bytes ≡ x.header ++ (x.raster ++ i.rest)
    all = i.whole ∙ ap (λ (l : List ℕ). l ++ i.rest) x.whole ∙ append_assoc x.header x.raster i.rest

    sized : verdict bytes ≡ raster_verdict Raw i.page.width i.page.height (length x.header) (x.raster ++ i.rest)
    sized =
        verdict_sized bytes x.header (x.raster ++ i.rest) Raw i.page.width i.page.height
        (record { has_header = record { whole = all; is_header = x.is_header; short = x.short }; size = x.size })

    none : raster_verdict Raw i.page.width i.page.height (length x.header) (x.raster ++ []) ≡ None
    none =
        let size = i.page.height * row_len i.page.width in
        let same : length (x.raster ++ []) ≡ size = ap length (append-nil x.raster) ∙ x.len in
        rw (le-ltb (length (x.raster ++ [])) size (omega (arith, same)), le-ltb size (length (x.raster ++ [])) (omega (arith, same))) refl

    by_rest : (rest : List ℕ) → i.rest ≡ rest → fault ≡ faults.Trailing (length i.image)
    by_rest [] e =
        absurd (none_some fault
        (sym (sized ∙ ap (λ (l : List ℕ). raster_verdict Raw i.page.width i.page.height (length x.header) (x.raster ++ l)) e ∙ none) ∙ fault_verdict bytes fault f))
    by_rest (byte ∷ more) e =
        some_is fault (faults.Trailing (length i.image))
        (sym (fault_verdict bytes fault f)
        ∙ sized
        ∙ ap (λ (l : List ℕ). raster_verdict Raw i.page.width i.page.height (length x.header) (x.raster ++ l)) e
        ∙ behind_verdict Raw i.page.width i.page.height (length x.header) byte x.raster more x.len (λ m. m)
        ∙ ap (λ (n : ℕ). Some (faults.Trailing n)) (sym (ap length x.whole ∙ length-append x.header x.raster)))

-- a byte behind a raw image stands behind an image
pub trailing_image : (bytes : List ℕ) (at : ℕ) (t : IsTrailing bytes at) → t.form ≡ Raw → length bytes ≤ 268435456 → BeginsImage bytes
trailing_image bytes at t e short = record {
  page = raster_page t.width t.height t.raster;
  image = t.header ++ t.raster;
  rest = t.byte ∷ t.more;
  whole = t.has_header.has_header.whole ∙ sym (append_assoc t.header t.raster (t.byte ∷ t.more));
  is_image = (
    record {
      form = Raw;
      header = t.header;
      raster = t.raster;
      tail = [];
      has_header = record {
        whole = ap (λ (l : List ℕ). t.header ++ l) (sym (append-nil t.raster));
        is_header = subst (λ (f : Form). IsHeader t.header f t.width t.height) e t.has_header.has_header.is_header;
        short = t.has_header.has_header.short;
      };
      size = t.has_header.size;
      rows = (raster_len t.form e t.is_raster, refl);
      follows = tt;
      short = omega (arith, short, ap length t.has_header.has_header.whole, length-append t.header (t.raster ++ t.byte ∷ t.more), length-append t.raster (t.byte ∷ t.more), length-append t.header t.raster);
    },
    refl,
  );
}
  where
    raster_len : (f : Form) → f ≡ Raw → IsRaster f t.width t.height t.raster → length t.raster ≡ t.height * row_len t.width
    raster_len f same r = subst (λ (g : Form). IsRaster g t.width t.height t.raster) same r
