-- What a reader of images answers where its source tells its bytes and no read fails.
use Rattle.std.proofs.Common.{◌≡◌, ℕ, ◌<◌, ◌≤◌, ◌⊎◌, List, [], ◌∷◌, ◌++◌, length, Option, Some, None, Result, Ok, Err, refl, sym, ap, subst, ◌∙◌, inl, inr, arith}
use Rattle.std.specs.Prelude.{IfSome, IfNone, IfOk, IfErr, IsOkUnless}
use Rattle.std.proofs.lemmas.List.{append-nil, length-append}
use Rattle.std.specs.Io.KnownBytes.{prepend_known, IsAtEnd}
use Rattle.layout_outside.specs.Causes.{Rose}
use Rattle.layout_outside.specs.Views.{SourceView}
use Rattle.pbm_reader.specs.declared.fault.Size.{Size}
use Rattle.pbm_reader.specs.declared.fault.PageFault.{PageFault}
use Rattle.pbm_reader.specs.declared.fault.PageFault.TheVariants as faults
use Rattle.pbm_reader.specs.declared.form.Form.{Form}
use Rattle.pbm_reader.specs.declared.form.Form.TheVariants.{Plain, Raw}
use Rattle.pbm_reader.specs.Spelling.{magic}
use Rattle.pbm_reader.specs.Fault.{Begins}
use Rattle.pbm_reader.specs.Images.{SpellsIn, ArePages, BeginsImage, HasPagesFault}
use Rattle.pbm_reader.specs.Reading.{AnswersFault, HasReadCause}
use Rattle.pbm_reader.specs.Reader.{coming, EndsBehind, GivesImage, ImagesView, IsGivenUnlessMemory, IsNextFault, IsNextImage, RefusesNext, WereImages}
use Rattle.pbm_reader.proofs.Taken.{some_of}
use Rattle.pbm_reader.proofs.RawImages.{form_begins, no_image}
use Rattle.pbm_reader.proofs.ImageFaults.{never_both, one_pages_fault}
use Rattle.pbm_reader.proofs.NextImage.{first_none}

-- the bytes that were taken are the first of those that came
front_of : (left after : Option (List ℕ)) (bytes image : List ℕ) → left ≡ Some bytes → left ≡ prepend_known image after → (rest : List ℕ) × (after ≡ Some rest) × (bytes ≡ image ++ rest)
front_of left None bytes image told took = absurd (differ bytes (sym told ∙ took))
  where
    differ : (l : List ℕ) → (let o : Option (List ℕ) = Some l in o) ≡ None → ⊥
    differ l e = cc
front_of left (Some rest) bytes image told took = (rest, refl, some_is bytes (image ++ rest) (sym told ∙ took))
  where
    some_is : (a b : List ℕ) → (let o : Option (List ℕ) = Some a in o) ≡ Some b → a ≡ b
    some_is a b e = cc

some_spelled : (form : Form) (image bytes : List ℕ) → Begins (magic form) image → 0 < length image
some_spelled Plain image bytes b = omega (arith, ap length b.1)
some_spelled Raw image bytes b = omega (arith, ap length b.1)

module _ {Sink : Type 0} (begun : Sink → ℕ → ℕ → Sink → Type 0) (given : Sink → List ℕ → Sink → Type 0) (old new : ImagesView) (source later : SourceView) (before after : Sink) where
  -- what a size says that was answered, and what an end says
  abbrev Gives : Size → Type 0
  Gives size = GivesImage begun given old new source later before after size

  abbrev Ends : Type 0
  Ends = EndsBehind old new source later × (after ≡ before)

  refuses : (fault : PageFault) (bytes : List ℕ) → RefusesNext old new source later fault → (fault ≡ faults.ReadFault → ⊥) → coming old source ≡ Some bytes
      → (fault ≡ faults.Memory) ⊎ IsNextFault old.count old.judged bytes fault
  refuses faults.Memory bytes f calm told = inl refl
  refuses faults.ReadFault bytes f calm told = absurd (calm refl)
  refuses (faults.Magic at) bytes f calm told = inr (some_of (coming old source) bytes (λ l. IsNextFault old.count old.judged l (faults.Magic at)) told f)
  refuses (faults.Header at) bytes f calm told = inr (some_of (coming old source) bytes (λ l. IsNextFault old.count old.judged l (faults.Header at)) told f)
  refuses faults.HeaderTooLong bytes f calm told = inr (some_of (coming old source) bytes (λ l. IsNextFault old.count old.judged l faults.HeaderTooLong) told f)
  refuses faults.ZeroSize bytes f calm told = inr (some_of (coming old source) bytes (λ l. IsNextFault old.count old.judged l faults.ZeroSize) told f)
  refuses (faults.TooLarge wide high) bytes f calm told = inr (some_of (coming old source) bytes (λ l. IsNextFault old.count old.judged l (faults.TooLarge wide high)) told f)
  refuses (faults.Truncated at) bytes f calm told = inr (some_of (coming old source) bytes (λ l. IsNextFault old.count old.judged l (faults.Truncated at)) told f)
  refuses (faults.Pixel at) bytes f calm told = inr (some_of (coming old source) bytes (λ l. IsNextFault old.count old.judged l (faults.Pixel at)) told f)
  refuses (faults.Trailing at) bytes f calm told = inr (some_of (coming old source) bytes (λ l. IsNextFault old.count old.judged l (faults.Trailing at)) told f)
  refuses faults.InputTooLong bytes f calm told = inr (some_of (coming old source) bytes (λ l. IsNextFault old.count old.judged l faults.InputTooLong) told f)
  refuses faults.TooManyImages bytes f calm told = inr (some_of (coming old source) bytes (λ l. IsNextFault old.count old.judged l faults.TooManyImages) told f)

  -- what was given to a reader is so whether it is open or not
  same_image : (last : ImagesView) (size : Size) → last.judged ≡ new.judged → last.count ≡ new.count → last.held ≡ new.held → last.has_ended ≡ new.has_ended → Gives size
      → GivesImage begun given old last source later before after size
  same_image last size judged count held ended g =
      let low = g.low in
      let few = g.few in
      record {
        form = g.form;
        image = g.image;
        page = g.page;
        took = g.took ∙ ap (λ (u : List ℕ). prepend_known g.image (prepend_known u later.left)) (sym held);
        spells = g.spells;
        width_is = g.width_is;
        height_is = g.height_is;
        sink = g.sink;
        judged_is = judged ∙ g.judged_is;
        low = omega (arith, judged, low);
        count_is = count ∙ g.count_is;
        few = omega (arith, count, few);
        alone = g.alone;
        all = λ plain. subst (λ (u : List ℕ). IsAtEnd (prepend_known u later.left)) (sym held) (g.all plain);
        ended = ended ∙ g.ended;
        more = λ raw images were.
            let m = g.more raw images were in
            (record { pages = m.0.pages; are_images = m.0.are_images; count_is = m.0.count_is ∙ sym count; len_is = m.0.len_is ∙ sym judged }, m.1);
        first = g.first;
      }

  pub image_next : (last : ImagesView) (result : Result (Option Size) PageFault) → last.judged ≡ new.judged → last.count ≡ new.count → last.held ≡ new.held → last.has_ended ≡ new.has_ended
      → IfOk result (λ o. IfSome o Gives) → IfOk result (λ o. IfSome o (GivesImage begun given old last source later before after))
  image_next last (Ok (Some size)) judged count held ended gives = same_image last size judged count held ended gives
  image_next last (Ok None) judged count held ended gives = tt
  image_next last (Err fault) judged count held ended gives = tt

  -- an end was answered
  nothing : (bytes : List ℕ) → Ends → coming old source ≡ Some bytes → bytes ≡ []
  nothing bytes e told = subst IsAtEnd told e.0.nothing

  calm_fault : (fault : PageFault) → (result : Result (Option Size) PageFault) → result ≡ Err fault → HasReadCause source later result → (Rose source.faults later.faults → ⊥) → fault ≡ faults.ReadFault → ⊥
  calm_fault fault result is cause calm e = calm (cause.failed (is ∙ ap (λ (k : PageFault). Err k) e))

  pub given_next : (result : Result (Option Size) PageFault) (bytes : List ℕ) → IfOk result (λ o. IfNone o Ends) → IfErr result (RefusesNext old new source later) → HasReadCause source later result
      → coming old source ≡ Some bytes → IsNextImage old.count old.judged bytes → (Rose source.faults later.faults → ⊥) → IsGivenUnlessMemory result
  given_next (Ok (Some size)) bytes ends fails cause told next calm = tt
  given_next (Ok None) bytes ends fails cause told next calm = no_image (subst (λ (l : List ℕ). BeginsImage l) (nothing bytes ends told) next.begins)
  given_next (Err fault) bytes ends fails cause told next calm =
      elim (refuses fault bytes fails (calm_fault fault (Err fault) refl cause calm) told) [
        | inl memory ↦ memory
        | inr f ↦ absurd (f.none next)
      ]

  pub none_next : (result : Result (Option Size) PageFault) → IfOk result (λ o. IfSome o Gives) → coming old source ≡ Some [] → IfOk result (λ o. o ≡ None)
  none_next (Ok (Some size)) gives told =
      let g = gives in
      let f = front_of (coming old source) (coming new later) [] g.image told g.took in
      let some = some_spelled g.form g.image [] (form_begins g.form g.image g.page g.spells) in
      absurd (omega (arith, some, ap length f.2, length-append g.image f.0))
  none_next (Ok None) gives told = refl
  none_next (Err fault) gives told = tt

  pub complete_next : (result : Result (Option Size) PageFault) (images bytes : List ℕ) → IfErr result (RefusesNext old new source later) → HasReadCause source later result → WereImages old.count old.judged images
      → coming old source ≡ Some bytes → ArePages (images ++ bytes) → (Rose source.faults later.faults → ⊥) → IsOkUnless result faults.Memory
  complete_next (Ok o) images bytes fails cause w told pages calm = tt
  complete_next (Err fault) images bytes fails cause w told pages calm =
      elim (refuses fault bytes fails (calm_fault fault (Err fault) refl cause calm) told) [
        | inl memory ↦ memory
        | inr f ↦ absurd (never_both (images ++ bytes) pages.0 fault pages.1 (f.is_fault images w))
      ]

  -- an image that was given is one at the front of what came, or a plain page that is all of it
  given_fault : (size : Size) (images bytes : List ℕ) (fault : PageFault) → Gives size → WereImages old.count old.judged images → coming old source ≡ Some bytes → HasPagesFault (images ++ bytes) fault
      → (IsNextImage old.count old.judged bytes → ⊥) → ⊥
  given_fault size images bytes fault g w told f none = by_form g.form refl
    where
      split : (rest : List ℕ) × (coming new later ≡ Some rest) × (bytes ≡ g.image ++ rest)
      split = front_of (coming old source) (coming new later) bytes g.image told g.took

      by_form : (form : Form) → g.form ≡ form → ⊥
      by_form Raw e =
          let few = g.few in
          let low = g.low in
          none (record {
            fewer = omega (arith, few, g.count_is);
            begins = record { page = g.page; image = g.image; rest = split.0; whole = split.2; is_image = subst (λ (k : Form). SpellsIn k g.image g.page) e g.spells };
            low = omega (arith, low, g.judged_is);
          })
      by_form Plain e =
          let rest : split.0 ≡ [] = subst IsAtEnd split.1 (g.all e) in
          let all : bytes ≡ g.image = split.2 ∙ ap (λ (l : List ℕ). g.image ++ l) rest ∙ append-nil g.image in
          let whole : images ++ bytes ≡ g.image = ap (λ (l : List ℕ). l ++ bytes) (first_none old.count old.judged images w (g.alone e)) ∙ all in
          never_both g.image (g.page ∷ []) fault (inl (g.page, refl, subst (λ (k : Form). SpellsIn k g.image g.page) e g.spells)) (subst (λ (l : List ℕ). HasPagesFault l fault) whole f)

  end_fault : (images bytes : List ℕ) (fault : PageFault) → Ends → old.count ≤ 256 → old.judged ≤ 268435456 → WereImages old.count old.judged images → coming old source ≡ Some bytes → HasPagesFault (images ++ bytes) fault → ⊥
  end_fault images bytes fault e few low w told f =
      let whole : images ++ bytes ≡ images = ap (λ (l : List ℕ). images ++ l) (nothing bytes e told) ∙ append-nil images in
      let some = e.0.some in
      never_both images w.pages fault (inr (record { some = omega (arith, some, w.count_is); few = omega (arith, few, w.count_is); images = w.are_images; short = omega (arith, low, w.len_is) }))
      (subst (λ (l : List ℕ). HasPagesFault l fault) whole f)

  pub faulty_next : (result : Result (Option Size) PageFault) (images bytes : List ℕ) (fault : PageFault) → IfOk result (λ o. IfSome o Gives) → IfOk result (λ o. IfNone o Ends)
      → IfErr result (RefusesNext old new source later) → HasReadCause source later result → old.count ≤ 256 → old.judged ≤ 268435456 → WereImages old.count old.judged images
      → coming old source ≡ Some bytes → HasPagesFault (images ++ bytes) fault → (IsNextImage old.count old.judged bytes → ⊥) → (Rose source.faults later.faults → ⊥) → AnswersFault fault result
  faulty_next (Ok (Some size)) images bytes fault gives ends fails cause few low w told f none calm = absurd (given_fault size images bytes fault gives w told f none)
  faulty_next (Ok None) images bytes fault gives ends fails cause few low w told f none calm = absurd (end_fault images bytes fault ends few low w told f)
  faulty_next (Err answer) images bytes fault gives ends fails cause few low w told f none calm =
      elim (refuses answer bytes fails (calm_fault answer (Err answer) refl cause calm) told) [
        | inl memory ↦ (refl, inr memory)
        | inr g ↦ (refl, inl (one_pages_fault (images ++ bytes) answer fault (g.is_fault images w) f))
      ]
