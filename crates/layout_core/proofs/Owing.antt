-- One refusal is owed to an input, and none to an input that spells pages of few components and blocks.
use Rattle.std.proofs.Common.{◌≡◌, ◌<◌, ℕ, List, [], ◌∷◌, ◌++◌, length, refl, sym, ◌∙◌, ap, subst, inl, inr, arith, append_assoc, length-append}
use Rattle.std.specs.Prelude.{All}
use Rattle.std.proofs.lemmas.List.{append-nil}
use Rattle.std.proofs.lemmas.List.Elements.{All-nil, All-head, All-tail}
use Rattle.pbm_reader.specs.declared.fault.PageFault.{PageFault}
use Rattle.pbm_reader.specs.declared.form.Form.TheVariants.{Plain, Raw}
use Rattle.pbm_reader.specs.Page.{Page}
use Rattle.pbm_reader.specs.Spelling.{magic}
use Rattle.pbm_reader.specs.Fault.{Begins}
use Rattle.pbm_reader.specs.Images.{SpellsIn, AreImages, SpellsPages, HasPagesFault}
use Rattle.pbm_reader.specs.Reader.{IsNextImage, DecidesNoFault}
use Rattle.components.specs.Kept.{KeptIsUnique}
use Rattle.run_smear.specs.Smear.{SmearIsUnique}
use Rattle.command_words.specs.declared.plan.Plan.{Plan}
use Rattle.layout_core.specs.declared.refusal.Refusal.{Refusal}
use Rattle.layout_core.specs.declared.refusal.Refusal.TheVariants as refusals
use Rattle.layout_core.specs.Layouts.{HasFew, HasTooMany}
use Rattle.layout_core.specs.Owed.{StandInFront, ImageHasTooMany, PlainHasTooMany, Owes, DecidesNoRefusal}
use Rattle.layout_core.proofs.Components.{SpellsOne}
use Rattle.layout_core.proofs.Limits.{few_or_many, one_number}
use Rattle.layout_core.proofs.Fronts.{all_front, all_last, form_begins, begins_more, one_name, images_begin, PageOrFault, OneImage, one_image, FollowsThese, one_cut}

-- what the format and the components say of their definitions
pub record InputLaws : Type 0 where
  pub kept : KeptIsUnique
  pub smear : SmearIsUnique
  pub one_page : SpellsOne
  pub one_image : OneImage
  pub one_list : (input : List ℕ) (ps qs : List Page) → SpellsPages input ps → SpellsPages input qs → ps ≡ qs
  pub one_fault : (input : List ℕ) (f g : PageFault) → HasPagesFault input f → HasPagesFault input g → f ≡ g
  pub never_both : (input : List ℕ) (pages : List Page) (fault : PageFault) → SpellsPages input pages → HasPagesFault input fault → ⊥

-- these, from what the crates below state
pub input_laws : KeptIsUnique → SmearIsUnique → SpellsOne → PageOrFault → ((input : List ℕ) (ps qs : List Page) → SpellsPages input ps → SpellsPages input qs → ps ≡ qs)
    → ((input : List ℕ) (f g : PageFault) → HasPagesFault input f → HasPagesFault input g → f ≡ g)
    → ((input : List ℕ) (pages : List Page) (fault : PageFault) → SpellsPages input pages → HasPagesFault input fault → ⊥) → InputLaws
input_laws kept smear one_page never one_list one_fault never_both =
    record { kept = kept; smear = smear; one_page = one_page; one_image = one_image never one_page; one_list = one_list; one_fault = one_fault; never_both = never_both }

-- each page at the front has few components
abbrev pub FrontHasFew : Plan → List ℕ → Type 0
FrontHasFew plan input = (pages : List Page) → StandInFront pages input → All (HasFew plan) pages

-- ---- lists that end with a page

two_ends : (x y : Page) (ys : List Page) → x ∷ [] ≡ y ∷ ys → x ≡ y
two_ends x y ys e = cc

no_more : (x y z : Page) (ys more : List Page) → x ∷ [] ≡ y ∷ ((ys ++ z ∷ []) ++ more) → ⊥
no_more x y z ys more e = omega (arith, ap length e, length-append (ys ++ z ∷ []) more, length-append ys (z ∷ []))

tails : (x y : Page) (xs ys : List Page) → x ∷ xs ≡ y ∷ ys → xs ≡ ys
tails x y xs ys e = cc

heads : (x y : Page) (xs ys : List Page) → x ∷ xs ≡ y ∷ ys → x ≡ y
heads x y xs ys e = cc

module _ (laws : InputLaws) (plan : Plan) where
  -- a page is the first with too many in one place alone
  one_place : (before others : List Page) (last page : Page) (more : List Page) (m n : ℕ) → before ++ last ∷ [] ≡ (others ++ page ∷ []) ++ more → All (HasFew plan) before
      → HasTooMany plan last m → HasTooMany plan page n → m ≡ n
  one_place [] [] last page more m n same few many many_too =
      one_number laws.kept laws.smear plan last page m n (heads last page [] more same) many many_too
  one_place (b ∷ before) [] last page more m n same few many many_too =
      let P : Page → Type 0 = λ p. (HasFew plan) p in
      absurd (few_or_many laws.kept laws.smear plan page n (subst P (heads b page (before ++ last ∷ []) more same) (All-head (HasFew plan) b before few)) many_too)
  one_place [] (c ∷ others) last page more m n same few many many_too = absurd (no_more last c page others more same)
  one_place (b ∷ before) (c ∷ others) last page more m n same few many many_too =
      one_place before others last page more m n (tails b c (before ++ last ∷ []) ((others ++ page ∷ []) ++ more) same) (All-tail (HasFew plan) b before few) many many_too

  -- ---- the front of an input

  -- the images at the front of an input whose images are known are some of them
  pub few_front : (pages : List Page) (images behind : List ℕ) → AreImages pages images → All (HasFew plan) pages → (IsNextImage (length pages) (length images) behind → ⊥)
      → FrontHasFew plan (images ++ behind)
  few_front pages images behind are few none qs front =
      elim (one_cut laws.one_image pages qs images behind front.images front.behind are front.are_images front.whole) [
        | inl m ↦
            let P : List Page → Type 0 = λ l. All (HasFew plan) l in
            all_front (HasFew plan) qs m.0 (subst P m.1 few)
        | inr f ↦ absurd (none (next_image f))
      ]
    where
      next_image : FollowsThese pages qs images front.images behind → IsNextImage (length pages) (length images) behind
      next_image f =
          record {
            fewer = omega (arith, ap length f.list, length-append pages (f.next ∷ f.more), front.few);
            begins = record { page = f.next; image = f.image; rest = f.rest; whole = f.whole; is_image = f.is_image };
            low = omega (arith, f.short, front.short);
          }

  not_nil : (x : ℕ) (xs : List ℕ) → [] ≡ x ∷ xs → ⊥
  not_nil x xs e = cc

  nothing_next : (count len : ℕ) → IsNextImage count len [] → ⊥
  nothing_next count len next =
      let b = next.begins in
      let begun = begins_more (magic Raw) b.image b.rest (form_begins Raw b.image b.page b.is_image) in
      not_nil 80 (52 ∷ begun.0) (b.whole ∙ begun.1)

  -- an input in the plain form has no image at its front
  pub plain_front : (input : List ℕ) (page p : Page) (pages : List Page) → SpellsIn Plain input page → StandInFront (p ∷ pages) input → ⊥
  plain_front input page p pages spells front =
      let P : List ℕ → Type 0 = λ l. Begins (magic Raw) l in
      one_name input (form_begins Plain input page spells) (subst P (sym front.whole) (images_begin p pages front.images front.behind front.are_images))

  plain_few : (input : List ℕ) (page : Page) → SpellsIn Plain input page → FrontHasFew plan input
  plain_few input page spells [] front = All-nil (HasFew plan)
  plain_few input page spells (p ∷ pages) front = absurd (plain_front input page p pages spells front)

  -- an input of pages with few components has no other pages at its front
  pub pages_few : (input : List ℕ) (pages : List Page) → SpellsPages input pages → All (HasFew plan) pages → FrontHasFew plan input
  pages_few input pages (inl s) few = plain_few input s.0 s.2
  pages_few input pages (inr s) few =
      let P : List ℕ → Type 0 = λ l. FrontHasFew plan l in
      subst P (append-nil input) (few_front pages input [] s.images few (nothing_next (length pages) (length input)))

  image_limit : (input : List ℕ) (count : ℕ) → FrontHasFew plan input → ImageHasTooMany plan input count → ⊥
  image_limit input count front l =
      few_or_many laws.kept laws.smear plan l.last count (all_last (HasFew plan) l.before l.last (front (l.before ++ l.last ∷ []) l.front)) l.many

  -- ---- one refusal

  plain_pages : (input : List ℕ) (page : Page) → SpellsIn Plain input page → SpellsPages input (page ∷ [])
  plain_pages input page spells = inl (page, refl, spells)

  image_or_plain : (input : List ℕ) (m n : ℕ) → ImageHasTooMany plan input m → PlainHasTooMany plan input n → ⊥
  image_or_plain input m n l p = first l.before l.front
    where
      first : (before : List Page) → StandInFront (before ++ l.last ∷ []) input → ⊥
      first [] front = plain_front input p.page l.last [] p.spells front
      first (b ∷ before) front = plain_front input p.page b (before ++ l.last ∷ []) p.spells front

  one_limit : (input : List ℕ) (m n : ℕ) → ImageHasTooMany plan input m → ImageHasTooMany plan input n → m ≡ n
  one_limit input m n l k =
      let f = l.front in
      let g = k.front in
      elim (one_cut laws.one_image (l.before ++ l.last ∷ []) (k.before ++ k.last ∷ []) f.images f.behind g.images g.behind f.are_images g.are_images (sym f.whole ∙ g.whole)) [
        | inl more ↦ one_place l.before k.before l.last k.last more.0 m n more.1 l.few l.many k.many
        | inr h ↦ sym (one_place k.before l.before k.last l.last (h.next ∷ h.more) n m h.list k.few k.many l.many)
      ]

  pub one_owed : (input : List ℕ) (r s : Refusal) → Owes plan input r → Owes plan input s → r ≡ s
  one_owed input (refusals.Page f) (refusals.Page g) x y = ap (λ (k : PageFault). refusals.Page k) (laws.one_fault input f g x.has y.has)
  one_owed input (refusals.Page f) (refusals.TooMany n) x (inl y) = absurd (image_limit input n x.few y)
  one_owed input (refusals.Page f) (refusals.TooMany n) x (inr y) = absurd (laws.never_both input (y.page ∷ []) f (plain_pages input y.page y.spells) x.has)
  one_owed input (refusals.TooMany m) (refusals.Page g) (inl x) y = absurd (image_limit input m y.few x)
  one_owed input (refusals.TooMany m) (refusals.Page g) (inr x) y = absurd (laws.never_both input (x.page ∷ []) g (plain_pages input x.page x.spells) y.has)
  one_owed input (refusals.TooMany m) (refusals.TooMany n) (inl x) (inl y) = ap (λ (k : ℕ). refusals.TooMany k) (one_limit input m n x y)
  one_owed input (refusals.TooMany m) (refusals.TooMany n) (inl x) (inr y) = absurd (image_or_plain input m n x y)
  one_owed input (refusals.TooMany m) (refusals.TooMany n) (inr x) (inl y) = absurd (image_or_plain input n m y x)
  one_owed input (refusals.TooMany m) (refusals.TooMany n) (inr x) (inr y) =
      let same = laws.one_page input x.page y.page x.spells.0 y.spells.0 in
      ap (λ (k : ℕ). refusals.TooMany k) (one_number laws.kept laws.smear plan x.page y.page m n same x.many y.many)
  one_owed input (refusals.Usage program) s x y = absurd x
  one_owed input refusals.WriteFault s x y = absurd x
  one_owed input refusals.Memory s x y = absurd x
  one_owed input r (refusals.Usage program) x y = absurd y
  one_owed input r refusals.WriteFault x y = absurd y
  one_owed input r refusals.Memory x y = absurd y

  -- nothing is owed to pages of few components
  pub none_owed : (input : List ℕ) (pages : List Page) (r : Refusal) → SpellsPages input pages → All (HasFew plan) pages → Owes plan input r → ⊥
  none_owed input pages (refusals.Page fault) spells few owes = laws.never_both input pages fault spells owes.has
  none_owed input pages (refusals.TooMany count) spells few (inl owes) = image_limit input count (pages_few input pages spells few) owes
  none_owed input pages (refusals.TooMany count) spells few (inr owes) =
      let P : List Page → Type 0 = λ l. All (HasFew plan) l in
      let alone = laws.one_list input pages (owes.page ∷ []) spells (plain_pages input owes.page owes.spells) in
      few_or_many laws.kept laws.smear plan owes.page count (All-head (HasFew plan) owes.page [] (subst P alone few)) owes.many
  none_owed input pages (refusals.Usage program) spells few owes = owes
  none_owed input pages refusals.WriteFault spells few owes = owes
  none_owed input pages refusals.Memory spells few owes = owes

  -- ---- what a failed read leaves undecided

  too_long : (taken more : List ℕ) (page : Page) → 268435456 < length more → SpellsIn Plain (taken ++ more) page → ⊥
  too_long taken more page long spells = let p = spells.0 in omega (arith, p.short, length-append taken more, long)

  -- bytes of images with few components, and bytes behind them that begin no further image and decide no fault
  pub stops_undecided : (pages : List Page) (images taken long : List ℕ) → 268435456 < length long → AreImages pages images → All (HasFew plan) pages
      → (IsNextImage (length pages) (length images) taken → ⊥) → DecidesNoFault (length pages) (length images) taken → DecidesNoRefusal plan (images ++ taken)
  stops_undecided pages images taken long is_long are few none undecided (refusals.Page fault) owed =
      undecided images (record { pages = pages; are_images = are; count_is = refl; len_is = refl }) fault
      (λ rest. let P : List ℕ → Type 0 = λ l. HasPagesFault l fault in subst P (append_assoc images taken rest) (owed rest).has)
  stops_undecided pages images taken long is_long are few none undecided (refusals.TooMany count) owed = plain (limited (owed []))
    where
      here : (images ++ taken) ++ [] ≡ images ++ taken
      here = append-nil (images ++ taken)

      limited : Owes plan ((images ++ taken) ++ []) (refusals.TooMany count) → PlainHasTooMany plan (images ++ taken) count
      limited (inl l) =
          let P : List ℕ → Type 0 = λ input. ImageHasTooMany plan input count in
          absurd (image_limit (images ++ taken) count (few_front pages images taken are few none) (subst P here l))
      limited (inr p) = let P : List ℕ → Type 0 = λ input. PlainHasTooMany plan input count in subst P here p

      behind : PlainHasTooMany plan (images ++ taken) count → Owes plan ((images ++ taken) ++ long) (refusals.TooMany count) → ⊥
      behind p (inr more) = too_long (images ++ taken) long more.page is_long more.spells
      behind p (inl l) = first l.before l.front
        where
          named : Begins (magic Plain) ((images ++ taken) ++ long)
          named = begins_more (magic Plain) (images ++ taken) long (form_begins Plain (images ++ taken) p.page p.spells)

          clash : (b : Page) (before : List Page) → StandInFront (b ∷ before) ((images ++ taken) ++ long) → ⊥
          clash b before front =
              let P : List ℕ → Type 0 = λ input. Begins (magic Raw) input in
              one_name ((images ++ taken) ++ long) named (subst P (sym front.whole) (images_begin b before front.images front.behind front.are_images))

          first : (before : List Page) → StandInFront (before ++ l.last ∷ []) ((images ++ taken) ++ long) → ⊥
          first [] front = clash l.last [] front
          first (b ∷ before) front = clash b (before ++ l.last ∷ []) front

      plain : PlainHasTooMany plan (images ++ taken) count → ⊥
      plain p = behind p (owed long)
  stops_undecided pages images taken long is_long are few none undecided (refusals.Usage program) owed = owed []
  stops_undecided pages images taken long is_long are few none undecided refusals.WriteFault owed = owed []
  stops_undecided pages images taken long is_long are few none undecided refusals.Memory owed = owed []
