-- What one call of the reader makes of the pages that were read, and what a loop of such calls answers.
use Rattle.std.proofs.Common.{◌≡◌, ◌⊎◌, ◌<◌, ◌≤◌, ◌+◌, ◌-◌, ℕ, true, false, List, [], ◌∷◌, ◌++◌, length, Option, Some, None, Result, Ok, Err, refl, sym, ◌∙◌, ap, subst, inl, inr, arith, append_assoc, length-append}
use Rattle.std.specs.Prelude.{All, IfSome, replicate}
use Rattle.std.proofs.lemmas.Bool.{false≢true}
use Rattle.std.proofs.lemmas.List.{append-nil, length-replicate}
use Rattle.std.proofs.lemmas.List.Elements.{All-nil, All-cons}
use Rattle.std.specs.Io.KnownBytes.{prepend_known, IsAtEnd}
use Rattle.layout_outside.specs.Causes.{Rose}
use Rattle.layout_outside.specs.Views.{SourceView}
use Rattle.pbm_reader.specs.declared.fault.PageFault.{PageFault}
use Rattle.pbm_reader.specs.declared.fault.PageFault.TheVariants as faults
use Rattle.pbm_reader.specs.declared.fault.Size.{Size}
use Rattle.pbm_reader.specs.declared.form.Form.{Form}
use Rattle.pbm_reader.specs.declared.form.Form.TheVariants.{Plain, Raw}
use Rattle.pbm_reader.specs.Page.{Page}
use Rattle.pbm_reader.specs.Images.{SpellsIn, AreImages}
use Rattle.pbm_reader.specs.Reader.{ImagesView, coming, is_plain, IsNextImage, IsNextFault, DecidesNoFault, GivesImage, EndsBehind, TellsEnd, RefusesNext}
use Rattle.hocr_writer.specs.declared.layout.Layout.{Layout}
use Rattle.command_words.specs.declared.plan.Plan.{Plan}
use Rattle.layout_core.specs.declared.page_layout.CoreFault.{CoreFault}
use Rattle.layout_core.specs.declared.page_layout.CoreFault.TheVariants as core
use Rattle.layout_core.specs.declared.refusal.Refusal.{Refusal}
use Rattle.layout_core.specs.declared.refusal.Refusal.TheVariants as refusals
use Rattle.layout_core.specs.Refused.{refusal_of}
use Rattle.layout_core.specs.Layouts.{HasFew, HasTooMany, IsCoreFault, IsLayoutAs, AreLayouts, AreLayoutsFrom}
use Rattle.layout_core.specs.Run.{ReadsWhole}
use Rattle.layout_core.specs.Owed.{Owes}
use Rattle.layout_core.specs.Status.{OwesTooMany, RefusesLayouts, AnswersPages}
use Rattle.page_runs.specs.Packed.{Packed}
use Rattle.page_runs.specs.Rows.{Begun, Given, GivenPageIsHeld}
use Rattle.layout_core.specs.Reading.{ReadsImages, ReadsPlain, HasRead, ReadsRows, AnswersNext, HasLaidOut}
use Rattle.layout_core.proofs.Limits.{few_of}
use Rattle.layout_core.proofs.Fronts.{images_more}
use Rattle.layout_core.proofs.Owing.{InputLaws, few_front, stops_undecided}

-- ---- bytes that are told or not

twice : (xs ys : List ℕ) (left : Option (List ℕ)) → prepend_known xs (prepend_known ys left) ≡ prepend_known (xs ++ ys) left
twice xs ys None = refl
twice xs ys (Some zs) = ap (λ (l : List ℕ). Some l) (sym (append_assoc xs ys zs))

none_held : (left : Option (List ℕ)) → prepend_known [] left ≡ left
none_held None = refl
none_held (Some ys) = refl

end_left : (held : List ℕ) (left : Option (List ℕ)) → IsAtEnd (prepend_known held left) → prepend_known held left ≡ left
end_left held None end = refl
end_left held (Some []) end = ap (λ (l : List ℕ). Some l) end
end_left held (Some (y ∷ ys)) end = absurd (omega (arith, ap length end, length-append held (y ∷ ys)))

behind_known : (images : List ℕ) (left rest : Option (List ℕ)) (P Q : List ℕ → Type 0) → left ≡ prepend_known images rest → IfSome rest P → ((bytes : List ℕ) → P bytes → Q (images ++ bytes)) → IfSome left Q
behind_known images left None P Q e p step = let R : Option (List ℕ) → Type 0 = λ o. IfSome o Q in subst R (sym e) tt
behind_known images left (Some bytes) P Q e p step = let R : Option (List ℕ) → Type 0 = λ o. IfSome o Q in subst R (sym e) (step bytes p)

taken_known : (left rest : Option (List ℕ)) (input : List ℕ) → left ≡ prepend_known input rest → IsAtEnd rest → IfSome left (λ l. l ≡ input)
taken_known left None input e end = let R : Option (List ℕ) → Type 0 = λ o. IfSome o (λ l. l ≡ input) in subst R (sym e) tt
taken_known left (Some ys) input e end =
    let R : Option (List ℕ) → Type 0 = λ o. IfSome o (λ l. l ≡ input) in
    subst R (sym e) (ap (λ (l : List ℕ). input ++ l) end ∙ append-nil input)

no_pages : (pages : List Page) → length pages ≡ 0 → pages ≡ []
no_pages [] e = refl
no_pages (p ∷ pages) e = absurd (omega (arith, e))

form_is : (form : Form) → (form ≡ Plain) ⊎ (form ≡ Raw)
form_is Plain = inl refl
form_is Raw = inr refl

-- a list of more bytes than an input has
long_list : (n : ℕ) → (long : List ℕ) × (n ≤ length long)
long_list n = (replicate n 0, omega (arith, length-replicate {A = ℕ} n 0))

-- ---- one call

module _ {Sink : Type 0} (begun : Sink → ℕ → ℕ → Sink → Type 0) (given : Sink → List ℕ → Sink → Type 0) (old new : ImagesView) (source later : SourceView) (empty full : Sink)
    (size : Size) (g : GivesImage begun given old new source later empty full size) (tells : TellsEnd old new later) (before : SourceView) (pages : List Page)
    (count_is : old.count ≡ length pages) where
  next_count : new.count ≡ length (pages ++ g.page ∷ [])
  next_count = omega (arith, g.count_is, count_is, length-append pages (g.page ∷ []))

  raw_read : ReadsImages before pages old source → g.form ≡ Raw → ReadsImages before (pages ++ g.page ∷ []) new later
  raw_read r raw =
      let spells : SpellsIn Raw g.image g.page = subst (λ (f : Form). SpellsIn f g.image g.page) raw g.spells in
      let joined : new.judged ≡ length (r.images ++ g.image) = omega (arith, g.judged_is, r.judged_is, length-append r.images g.image) in
      record {
        images = r.images ++ g.image;
        took = r.took ∙ ap (λ (o : Option (List ℕ)). prepend_known r.images o) g.took ∙ twice r.images g.image (coming new later);
        are_images = images_more pages g.page r.images g.image r.are_images spells;
        judged_is = joined;
        short = omega (arith, g.low, joined);
        few = omega (arith, g.few, next_count);
        goes_on = g.ended ∙ ap is_plain raw;
      }

  plain_read : ReadsImages before pages old source → g.form ≡ Plain → ReadsPlain before (pages ++ g.page ∷ []) new later
  plain_read r plain =
      let none : pages ≡ [] = no_pages pages (omega (arith, g.alone plain, count_is)) in
      let nothing : r.images ≡ [] = let P : List Page → Type 0 = λ l. AreImages l r.images in subst P none r.are_images in
      let ended : new.has_ended ≡ true = g.ended ∙ ap is_plain plain in
      let taken : before.left ≡ prepend_known g.image (coming new later) = r.took ∙ ap (λ (l : List ℕ). prepend_known l (coming old source)) nothing ∙ none_held (coming old source) ∙ g.took in
      record {
        page = g.page;
        alone = ap (λ (l : List Page). l ++ g.page ∷ []) none;
        input = g.image;
        took = record {
          took = taken ∙ ap (λ (o : Option (List ℕ)). prepend_known g.image o) (end_left new.held later.left (g.all plain));
          end = record { nothing = tells.nothing ended; answered = tells.answered ended r.goes_on };
        };
        spells = subst (λ (f : Form). SpellsIn f g.image g.page) plain g.spells;
        ended = ended;
      }

  -- an image was given, behind the pages that were read
  pub page_read : new.is_open ≡ true → new.gave_byte ≡ false → (old.has_ended ≡ true → ⊥) → HasRead before pages old source → HasRead before (pages ++ g.page ∷ []) new later
  page_read opened images on h =
      record {
        goes_on = record { is_open = opened; images = images; end = tells.nothing };
        count_is = next_count;
        read = elim h.read [
          | inl r ↦
              elim (form_is g.form) [
                | inl plain ↦ inr (plain_read r plain)
                | inr raw ↦ inl (raw_read r raw)
              ]
          | inr p ↦ absurd (on p.ended)
        ];
      }

-- the input ended behind the pages that were read
pub pages_end : (old new : ImagesView) (source later : SourceView) → EndsBehind old new source later → TellsEnd old new later → (old.has_ended ≡ true → later ≡ source)
    → (before : SourceView) (pages : List Page) → HasRead before pages old source → ReadsWhole before later pages
pages_end old new source later e tells quiet before pages h =
    elim h.read [
      | inl r ↦
          record {
            input = r.images;
            took = record {
              took = r.took
                  ∙ ap (λ (o : Option (List ℕ)). prepend_known r.images o) (e.took ∙ end_left new.held later.left (subst (λ (o : Option (List ℕ)). IsAtEnd o) e.took e.nothing));
              end = record { nothing = tells.nothing e.ended; answered = tells.answered e.ended r.goes_on };
            };
            spells = inr (record { some = omega (arith, e.some, h.count_is); few = r.few; images = r.are_images; short = r.short });
          }
      | inr p ↦
          let here : ReadsWhole before source pages = record { input = p.input; took = p.took; spells = inl (p.page, p.alone, p.spells) } in
          subst (λ (s : SourceView). ReadsWhole before s pages) (sym (quiet p.ended)) here
    ]

-- the next page was refused
module _ (laws : InputLaws) (plan : Plan) (old new : ImagesView) (source later : SourceView) (before : SourceView) (pages : List Page) (count_is : old.count ≡ length pages) (few : All (HasFew plan) pages)
    (r : ReadsImages before pages old source) where
  fault_owed : (fault : PageFault) → IfSome (coming old source) (λ bytes. IsNextFault old.count old.judged bytes fault) → IfSome before.left (λ input. Owes plan input (refusals.Page fault))
  fault_owed fault why =
      behind_known r.images before.left (coming old source) (λ bytes. IsNextFault old.count old.judged bytes fault) (λ input. Owes plan input (refusals.Page fault)) r.took why
      (λ bytes next.
      let none : IsNextImage (length pages) (length r.images) bytes → ⊥ =
      subst (λ (n : ℕ). IsNextImage (length pages) n bytes → ⊥) r.judged_is (subst (λ (n : ℕ). IsNextImage n old.judged bytes → ⊥) count_is next.none) in
      record {
        has = next.is_fault r.images (record { pages = pages; are_images = r.are_images; count_is = sym count_is; len_is = sym r.judged_is });
        few = few_front laws plan pages r.images bytes r.are_images few none;
      })

  pub next_refused : (fault : PageFault) → RefusesNext old new source later fault → RefusesLayouts plan before later (refusals.Page fault)
  next_refused faults.ReadFault why =
      let long = long_list 268435457 in
      let is_long : 268435456 < length long.0 = omega (arith, long.1) in
      let rest : coming new later ≡ later.left = ap (λ (l : List ℕ). prepend_known l later.left) why.4 ∙ none_held later.left in
      let undecided : DecidesNoFault (length pages) (length r.images) why.0 =
      subst (λ (n : ℕ). DecidesNoFault (length pages) n why.0) r.judged_is (subst (λ (n : ℕ). DecidesNoFault n old.judged why.0) count_is why.2) in
      let none : IsNextImage (length pages) (length r.images) why.0 → ⊥ =
      subst (λ (n : ℕ). IsNextImage (length pages) n why.0 → ⊥) r.judged_is (subst (λ (n : ℕ). IsNextImage n old.judged why.0 → ⊥) count_is why.3) in
      record {
        taken = r.images ++ why.0;
        took = r.took ∙ ap (λ (o : Option (List ℕ)). prepend_known r.images o) (why.1 ∙ ap (λ (o : Option (List ℕ)). prepend_known why.0 o) rest) ∙ twice r.images why.0 later.left;
        undecided = stops_undecided laws plan pages r.images why.0 long.0 is_long r.are_images few none undecided;
      }
  next_refused faults.Memory why = tt
  next_refused fault why = fault_owed fault why

-- the components of the next page are too many
module _ (plan : Plan) (before : SourceView) (pages : List Page) (page : Page) (count : ℕ) (few : All (HasFew plan) pages) (many : HasTooMany plan page count) where
  raw_limit : (reader : ImagesView) (source : SourceView) → ReadsImages before (pages ++ page ∷ []) reader source → OwesTooMany plan before count
  raw_limit reader source r = limit (coming reader source) r.took
    where
      owes : (behind : List ℕ) → Owes plan (r.images ++ behind) (refusals.TooMany count)
      owes behind =
          inl (record {
            before = pages;
            last = page;
            front = record { images = r.images; behind = behind; whole = refl; are_images = r.are_images; few = r.few; short = r.short };
            few = few;
            many = many;
          })

      limit : (rest : Option (List ℕ)) → before.left ≡ prepend_known r.images rest → OwesTooMany plan before count
      limit None e =
          let R : Option (List ℕ) → Type 0 = λ o. IfSome o (λ l. l ≡ r.images ++ []) in
          record { input = r.images ++ []; is_left = subst R (sym e) tt; owes = owes [] }
      limit (Some bytes) e =
          let R : Option (List ℕ) → Type 0 = λ o. IfSome o (λ l. l ≡ r.images ++ bytes) in
          record { input = r.images ++ bytes; is_left = subst R (sym e) refl; owes = owes bytes }

  one_page : (front : List Page) (other : Page) → front ++ page ∷ [] ≡ other ∷ [] → page ≡ other
  one_page [] other e = cc
  one_page (p ∷ front) other e = absurd (omega (arith, ap length e, length-append front (page ∷ [])))

  pub limit_owed : (reader : ImagesView) (source : SourceView) → HasRead before (pages ++ page ∷ []) reader source → OwesTooMany plan before count
  limit_owed reader source h =
      elim h.read [
        | inl r ↦ raw_limit reader source r
        | inr p ↦
            record {
              input = p.input;
              is_left = taken_known before.left source.left p.input (p.took).took (p.took).end.nothing;
              owes = inr (record { page = p.page; spells = p.spells; many = subst (λ (q : Page). HasTooMany plan q count) (one_page pages p.page p.alone) many });
            }
      ]

-- the layout of the next page was refused
pub core_refused : (plan : Plan) (before : SourceView) (pages : List Page) (page : Page) (fault : CoreFault) → All (HasFew plan) pages → IsCoreFault plan page fault
    → (reader : ImagesView) (source : SourceView) → HasRead before (pages ++ page ∷ []) reader source → RefusesLayouts plan before source (refusal_of fault)
core_refused plan before pages page (core.TooMany count) few is reader source h = limit_owed plan before pages page count few is reader source h
core_refused plan before pages page core.Memory few is reader source h = tt

-- ---- the layouts so far

pub few_pages : (number : ℕ) (plan : Plan) (pages : List Page) (layouts : List Layout) → AreLayoutsFrom number plan pages layouts → All (HasFew plan) pages
few_pages number plan [] [] are = All-nil (HasFew plan)
few_pages number plan [] (layout ∷ layouts) are = absurd are
few_pages number plan (page ∷ pages) [] are = absurd are
few_pages number plan (page ∷ pages) (layout ∷ layouts) are =
    All-cons (HasFew plan) page pages (few_of number plan page layout are.0) (few_pages (number + 1) plan pages layouts are.1)

layouts_from : (number : ℕ) (plan : Plan) (pages : List Page) (layouts : List Layout) (page : Page) (layout : Layout) (place : ℕ) → AreLayoutsFrom number plan pages layouts → place ≡ number + length pages
    → IsLayoutAs place plan page layout → AreLayoutsFrom number plan (pages ++ page ∷ []) (layouts ++ layout ∷ [])
layouts_from number plan [] [] page layout place are at is =
    (subst (λ (n : ℕ). IsLayoutAs n plan page layout) (let here : place ≡ number = omega (arith, at) in here) is, tt)
layouts_from number plan [] (l ∷ layouts) page layout place are at is = absurd are
layouts_from number plan (p ∷ pages) [] page layout place are at is = absurd are
layouts_from number plan (p ∷ pages) (l ∷ layouts) page layout place are at is =
    (are.0, layouts_from (number + 1) plan pages layouts page layout place are.1 (omega (arith, at)) is)

-- one more layout
pub layouts_more : (plan : Plan) (pages : List Page) (layouts : List Layout) (page : Page) (layout : Layout) (place : ℕ) → AreLayouts plan pages layouts → place ≡ length pages
    → IsLayoutAs place plan page layout → AreLayouts plan (pages ++ page ∷ []) (layouts ++ layout ∷ [])
layouts_more plan pages layouts page layout place are at is = layouts_from 0 plan pages layouts page layout place are (omega (arith, at)) is

-- before the first image no page was read
no_image : ImagesView
no_image = record { judged = 0; count = 0; held = []; is_open = true; gave_byte = false; has_ended = false }

pub nothing_read : (plan : Plan) (reader : ImagesView) (source : SourceView) → reader ≡ (let r : ImagesView = record { judged = 0; count = 0; held = []; is_open = true; gave_byte = false; has_ended = false } in r)
    → HasLaidOut plan source reader source []
unfolding no_image
nothing_read plan reader source is =
    let P : ImagesView → Type 0 = λ r. HasRead source [] r source in
    let images : ReadsImages source [] no_image source = record {
      images = [];
      took = sym (none_held (coming no_image source) ∙ none_held source.left);
      are_images = refl;
      judged_is = refl;
      short = omega arith;
      few = omega arith;
      goes_on = refl;
    } in
    let here : P no_image = record {
      goes_on = record { is_open = refl; images = refl; end = λ e. absurd (false≢true e) };
      count_is = refl;
      read = inl images;
    } in
    record { pages = []; read = subst P (sym is) here; are_layouts = tt }

-- a reader gives no more than 256 images
pub count_low : (before : SourceView) (pages : List Page) (reader : ImagesView) (source : SourceView) → HasRead before pages reader source → reader.count ≤ 256
count_low before pages reader source h =
    elim h.read [
      | inl r ↦ omega (arith, h.count_is, r.few)
      | inr p ↦ omega (arith, h.count_is, ap length p.alone)
    ]

-- one more page was read, and laid out
pub laid_more : (plan : Plan) (before : SourceView) (old new : ImagesView) (source later : SourceView) (layouts : List Layout) (h : HasLaidOut plan before old source layouts) (rows : Packed)
    (r : ReadsRows before h.pages new later rows) (number : ℕ) (layout : Layout) → number ≡ new.count - 1 → IsLayoutAs number plan r.page layout → HasLaidOut plan before new later (layouts ++ layout ∷ [])
laid_more plan before old new source later layouts h rows r number layout at is =
    record {
      pages = h.pages ++ r.page ∷ [];
      read = r.read;
      are_layouts = layouts_more plan h.pages layouts r.page layout number h.are_layouts (omega (arith, at, (r.read).count_is, length-append h.pages (r.page ∷ []))) is;
    }

-- ---- what is answered

err_is : {T : Type 0} (r s : Refusal) → (let a : Result T Refusal = Err r in a) ≡ Err s → r ≡ s
err_is r s e = cc

pub answers_refused : {T : Type 0} (plan : Plan) (IsWanted : T → Type 0) (before after : SourceView) (refusal : Refusal) → before.faults ≤ after.faults → RefusesLayouts plan before after refusal
    → (refusal ≡ refusals.Page faults.ReadFault → Rose before.faults after.faults) → AnswersPages plan before after (let r : Result T Refusal = Err refusal in r) IsWanted
answers_refused plan IsWanted before after refusal later why rose =
    record { wanted = tt; refused = why; cause = record { later = later; failed = λ same. rose (err_is refusal (refusals.Page faults.ReadFault) same) } }

pub answers_wanted : {T : Type 0} (plan : Plan) (IsWanted : T → Type 0) (before after : SourceView) (value : T) → before.faults ≤ after.faults → IsWanted value
    → AnswersPages plan before after (let r : Result T Refusal = Ok value in r) IsWanted
answers_wanted plan IsWanted before after value later wanted = record { wanted = wanted; refused = tt; cause = record { later = later; failed = λ same. absurd (cc same) } }

pub not_read_fault : (fault : CoreFault) → refusal_of fault ≡ refusals.Page faults.ReadFault → ⊥
not_read_fault (core.TooMany count) e = cc
not_read_fault core.Memory e = cc

-- ---- what one call answers

given_not_none : {T F : Type 0} (x : T) → (let r : Result (Option T) F = Ok (Some x) in r) ≡ Ok None → ⊥
given_not_none x e = cc

err_not_none : {T F : Type 0} (f : F) → (let r : Result (Option T) F = Err f in r) ≡ Ok None → ⊥
err_not_none f e = cc

page_fault_is : (f g : PageFault) → refusals.Page f ≡ refusals.Page g → f ≡ g
page_fault_is f g e = cc

-- the next image was given, and its rows are held
pub next_given : (old new : ImagesView) (source later : SourceView) (empty full : Packed) (size : Size) → GivesImage Begun Given old new source later empty full size → TellsEnd old new later
    → new.is_open ≡ true → new.gave_byte ≡ false → (old.has_ended ≡ true → (let r : Result (Option Size) PageFault = Ok (Some size) in r) ≡ Ok None) → source.faults ≤ later.faults → GivenPageIsHeld
    → AnswersNext old new source later (Ok (Some full))
next_given old new source later empty full size g tells opened images on faults held =
    let rows = held g.page empty full g.sink in
    record {
      page = λ before pages h.
          record {
            page = g.page;
            whole = rows.0;
            held = rows.1;
            read = page_read Begun Given old new source later empty full size g tells before pages h.count_is opened images (λ ended. given_not_none size (on ended)) h;
          };
      end = tt;
      refused = tt;
      cause = record { later = faults; failed = λ same. absurd (cc same) };
    }

-- the input ended
pub next_ends : (old new : ImagesView) (source later : SourceView) → EndsBehind old new source later → TellsEnd old new later → (old.has_ended ≡ true → later ≡ source)
    → source.faults ≤ later.faults → AnswersNext old new source later (Ok None)
next_ends old new source later e tells quiet faults =
    record {
      page = tt;
      end = λ before pages h. pages_end old new source later e tells quiet before pages h;
      refused = tt;
      cause = record { later = faults; failed = λ same. absurd (cc same) };
    }

-- the next image was refused
pub next_fails : InputLaws → (old new : ImagesView) (source later : SourceView) (fault : PageFault) → RefusesNext old new source later fault
    → (old.has_ended ≡ true → (let r : Result (Option Size) PageFault = Err fault in r) ≡ Ok None) → source.faults ≤ later.faults → (fault ≡ faults.ReadFault → Rose source.faults later.faults)
    → AnswersNext old new source later (Err (refusals.Page fault))
next_fails laws old new source later fault why on later_faults rose =
    record {
      page = tt;
      end = tt;
      refused = λ plan before pages h few.
          elim h.read [
            | inl r ↦ next_refused laws plan old new source later before pages h.count_is few r fault why
            | inr p ↦ absurd (err_not_none fault (on p.ended))
          ];
      cause = record {
        later = later_faults;
        failed = λ same. rose (page_fault_is fault faults.ReadFault (err_is (refusals.Page fault) (refusals.Page faults.ReadFault) same));
      };
    }

-- a count that rose later rose from before
pub rose_from : (before now later : ℕ) → before ≤ now → Rose now later → Rose before later
rose_from before now later low rose = omega (arith, low, rose)
