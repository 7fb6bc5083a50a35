-- What a call of a reader of images says of all that comes, by what it read within the limit.
use Rattle.std.proofs.Common.{◌≡◌, ℕ, ◌+◌, ◌-◌, ◌<◌, ◌≤◌, ◌==◌, Bool, true, false, List, [], ◌∷◌, ◌++◌, length, Option, Some, None, Result, Ok, Err, refl, sym, ap, subst, ◌∙◌, arith, rules}
use Rattle.std.specs.Prelude.{IfSome, IfNone, IfOk, IfErr}
use Rattle.pbm_reader.specs.declared.image.Image.{Image}
use Rattle.pbm_reader.specs.declared.fault.PageFault.{PageFault}
use Rattle.pbm_reader.specs.declared.fault.PageFault.TheVariants as faults
use Rattle.std.specs.Io.KnownBytes.{prepend_known, IsAtEnd}
use Rattle.pbm_reader.specs.declared.form.Form.{Form}
use Rattle.pbm_reader.specs.declared.form.Form.TheVariants.{Plain, Raw}
use Rattle.pbm_reader.specs.Feed.{PieceView, whole}
use Rattle.pbm_reader.specs.Reader.{coming, counted_from, is_plain, AfterNextFault, EndsHere, GivesImage, HasSamePlace, ImagesView, IsNextFault, ReadsWithin, RefusesNext, StandsAtEnd, TakesImage}
use Rattle.layout_outside.specs.Views.{SourceView}
use Rattle.layout_outside.specs.Taken.{HasEnded, Took}
use Rattle.std.proofs.lemmas.List.{length-append}
use Rattle.pbm_reader.specs.Images.{SpellsIn}
use Rattle.pbm_reader.proofs.Taken.{prepend_nothing}
use Rattle.pbm_reader.proofs.NextImage.{are_more, first_none}
use Rattle.pbm_reader.proofs.NextRead.{IsReading, Answers, Ends, past, past_top, failed, next_fault, next_image, next_none, next_top}

-- a reader that holds these bytes
abbrev pub holding : List ℕ → ImagesView
holding held = record { judged = 0; count = 0; held = held; is_open = true; gave_byte = true; has_ended = true }

-- a reader that has judged and counted so much, of whose source an image was read, or not
module _ {Sink : Type 0} {begun : Sink → ℕ → ℕ → Sink → Type 0} {given : Sink → List ℕ → Sink → Type 0} {unchanged : Sink → Sink → Type 0} {view : ImagesView} {before kept : PieceView}
    {source middle : SourceView} {empty full : Sink} {answer : Result (Option Image) PageFault} (old : ImagesView)
    (reads : ReadsWithin begun given unchanged (view.count == 0) (268435456 - view.judged) before kept source middle empty full answer)
    (is : view ≡ old) (held : before.unread ≡ view.held) (fits : view.judged + length view.held ≤ 268435456) (few : old.count < 256) (new : ImagesView) (stays : new.held ≡ kept.unread) where
  w : ReadsWithin begun given unchanged (old.count == 0) (268435456 - old.judged) before kept source middle empty full answer
  w = subst (λ (v : ImagesView). ReadsWithin begun given unchanged (v.count == 0) (268435456 - v.judged) before kept source middle empty full answer) is reads

  reading : IsReading old (old.count == 0) w.first w.last kept source middle
  reading =
      let now : before.unread ≡ old.held = held ∙ ap (λ (v : ImagesView). v.held) is in
      record {
        held = w.unread ∙ now;
        low = subst (λ (v : ImagesView). v.judged + length v.held ≤ 268435456) is fits;
        few = few;
        first = none old.count;
        later = some old.count;
        limit = w.limit ∙ ap (λ (l : List ℕ). let o : Option ℕ = Some (268435456 - old.judged - length l) in o) now;
        limited = w.limited;
        same = w.unseen_is;
        room = w.room;
      }
    where
      none : (n : ℕ) → n ≡ 0 → (n == 0) ≡ true
      none n e = ap (λ (k : ℕ). k == 0) e

      some : (n : ℕ) → 0 < n → (n == 0) ≡ false
      some n lt = search (rules, lt)

  abbrev Read : Result (Option Image) PageFault → Type 0
  Read r = Answers begun given unchanged old (old.count == 0) w.first w.last kept source middle empty full reading r

  read : Read answer
  read = by_answer answer w.image w.end w.fault
    where
      by_answer : (r : Result (Option Image) PageFault) → IfOk r (λ o. IfSome o (λ image. Read (Ok (Some image)))) → IfOk r (λ o. IfNone o (Read (Ok None))) → IfErr r (λ fault. Read (Err fault)) → Read r
      by_answer (Ok (Some image)) i n f = i
      by_answer (Ok None) i n f = n
      by_answer (Err fault) i n f = f

  left_is : (r : Result (Option Image) PageFault) → StandsAtEnd (268435456 - view.judged) r → StandsAtEnd (268435456 - old.judged) r
  left_is r s = subst (λ (v : ImagesView). StandsAtEnd (268435456 - v.judged) r) is s

  -- ---- it goes on behind the limit, or a read failed there

  pub call_past : (later : SourceView) (byte : ℕ) → StandsAtEnd (268435456 - view.judged) answer → Took middle later (byte ∷ [])
      → IfSome (coming old source) (λ bytes. IsNextFault old.count old.judged bytes faults.InputTooLong)
  call_past later byte stands took =
      past begun given unchanged old (old.count == 0) w.first w.last kept source middle empty full reading answer later byte read (left_is answer stands) took

  pub call_past_top : (later : SourceView) (byte : ℕ) → StandsAtEnd (268435456 - view.judged) answer → Took middle later (byte ∷ [])
      → AfterNextFault begun given unchanged old new source later empty full faults.InputTooLong
  call_past_top later byte stands took =
      past_top begun given unchanged old (old.count == 0) w.first w.last kept source middle empty full reading answer faults.InputTooLong new later (byte ∷ []) read (left_is answer stands)
      (λ n low. low) refl stays took

  pub call_failed : (later : SourceView) → StandsAtEnd (268435456 - view.judged) answer → Took middle later [] → RefusesNext old new source later faults.ReadFault
  call_failed later stands took =
      failed begun given unchanged old (old.count == 0) w.first w.last kept source middle empty full reading answer new later read (left_is answer stands) stays took

  pub call_failed_top : (later : SourceView) → StandsAtEnd (268435456 - view.judged) answer → Took middle later [] → AfterNextFault begun given unchanged old new source later empty full faults.ReadFault
  call_failed_top later stands took =
      past_top begun given unchanged old (old.count == 0) w.first w.last kept source middle empty full reading answer faults.ReadFault new later [] read (left_is answer stands) (λ n low. tt) refl stays took

  -- ---- the answer holds of all that comes

  module _ (later : SourceView) (took : Took middle later []) (ends : StandsAtEnd (268435456 - view.judged) answer → HasEnded (whole kept middle) → HasEnded later)
      (result : Result (Option Image) PageFault) (counted : result ≡ counted_from view.judged answer) where
    ends_now : Ends begun given unchanged old (old.count == 0) w.first w.last kept source middle empty full reading answer later
    ends_now stands e = ends (subst (λ (v : ImagesView). StandsAtEnd (268435456 - v.judged) answer) (sym is) stands) e

    is_counted : counted_from old.judged answer ≡ result
    is_counted = sym (counted ∙ ap (λ (v : ImagesView). counted_from v.judged answer) is)

    pub call_fault : IfErr result (RefusesNext old new source later)
    call_fault = subst (λ (x : Result (Option Image) PageFault). IfErr x (RefusesNext old new source later)) is_counted (by_answer answer read ends_now)
      where
        by_answer : (r : Result (Option Image) PageFault) → Read r → Ends begun given unchanged old (old.count == 0) w.first w.last kept source middle empty full reading r later
            → IfErr (counted_from old.judged r) (RefusesNext old new source later)
        by_answer (Ok o) a e = tt
        by_answer (Err own) a e = next_fault begun given unchanged old (old.count == 0) w.first w.last kept source middle empty full reading own new later a stays took e

    pub call_top : IfErr result (AfterNextFault begun given unchanged old new source later empty full)
    call_top = subst (λ (x : Result (Option Image) PageFault). IfErr x (AfterNextFault begun given unchanged old new source later empty full)) is_counted (by_answer answer read)
      where
        by_answer : (r : Result (Option Image) PageFault) → Read r → IfErr (counted_from old.judged r) (AfterNextFault begun given unchanged old new source later empty full)
        by_answer (Ok o) a = tt
        by_answer (Err own) a = next_top begun given unchanged old (old.count == 0) w.first w.last kept source middle empty full reading own new later a stays took

    pub call_image : IfOk result (λ o. IfSome o (TakesImage begun given old new source later empty full))
    call_image = subst (λ (x : Result (Option Image) PageFault). IfOk x (λ o. IfSome o (TakesImage begun given old new source later empty full))) is_counted (by_answer answer read ends_now)
      where
        by_answer : (r : Result (Option Image) PageFault) → Read r → Ends begun given unchanged old (old.count == 0) w.first w.last kept source middle empty full reading r later
            → IfOk (counted_from old.judged r) (λ o. IfSome o (TakesImage begun given old new source later empty full))
        by_answer (Ok (Some image)) a e = next_image begun given unchanged old (old.count == 0) w.first w.last kept source middle empty full reading image new later a stays took e
        by_answer (Ok None) a e = tt
        by_answer (Err own) a e = tt

    pub call_none : IfOk result (λ o. IfNone o (EndsHere old new source later × (0 < old.count) × (full ≡ empty)))
    call_none = subst (λ (x : Result (Option Image) PageFault). IfOk x (λ o. IfNone o (EndsHere old new source later × (0 < old.count) × (full ≡ empty)))) is_counted (by_answer answer read ends_now)
      where
        by_answer : (r : Result (Option Image) PageFault) → Read r → Ends begun given unchanged old (old.count == 0) w.first w.last kept source middle empty full reading r later
            → IfOk (counted_from old.judged r) (λ o. IfNone o (EndsHere old new source later × (0 < old.count) × (full ≡ empty)))
        by_answer (Ok (Some image)) a e = tt
        by_answer (Ok None) a e = next_none begun given unchanged old (old.count == 0) w.first w.last kept source middle empty full reading new later a stays took e
        by_answer (Err own) a e = tt

-- ---- an image that is judged and counted

pub plain_is : (form : Form) (b : Bool) → form ≡ Plain → b ≡ true → b ≡ is_plain form
plain_is form b plain e = e ∙ sym (ap is_plain plain)

pub raw_is : (form : Form) (b : Bool) → (form ≡ Plain → ⊥) → b ≡ false → b ≡ is_plain form
raw_is Plain b other e = absurd (other refl)
raw_is Raw b other e = e

pub gives_image : {Sink : Type 0} (begun : Sink → ℕ → ℕ → Sink → Type 0) (given : Sink → List ℕ → Sink → Type 0) (old taken new : ImagesView) (source later : SourceView) (before after : Sink) (image : Image)
    → TakesImage begun given old taken source later before after image → HasSamePlace old taken → old.count < 256 → new.held ≡ taken.held → new.judged ≡ taken.judged + image.len → new.count ≡ taken.count + 1
    → new.has_ended ≡ is_plain image.form → GivesImage begun given old new source later before after image.size
gives_image begun given old taken new source later before after image t same few held judged count ended =
    let low = t.low in
    let nothing : (taken.held ≡ []) × HasEnded later → IsAtEnd (coming new later) =
    λ e. subst IsAtEnd (sym (ap (λ (u : List ℕ). prepend_known u later.left) (held ∙ e.0) ∙ sym (prepend_nothing later.left))) e.1.nothing in
    record {
      form = image.form;
      image = t.bytes;
      page = t.page;
      took = t.took ∙ ap (λ (u : List ℕ). prepend_known t.bytes (prepend_known u later.left)) (sym held);
      spells = t.spells;
      width_is = t.width_is;
      height_is = t.height_is;
      sink = t.sink;
      judged_is = omega (arith, judged, same.judged, t.len);
      low = omega (arith, judged, same.judged, low);
      count_is = omega (arith, count, same.count);
      few = omega (arith, count, same.count, few);
      alone = t.alone;
      all = λ plain. nothing (t.ended plain);
      ended = ended;
      more = λ raw images were. (
        record {
          pages = were.pages ++ t.page ∷ [];
          are_images = are_more were.pages images t.bytes t.page were.are_images (subst (λ (f : Form). SpellsIn f t.bytes t.page) raw t.spells);
          count_is = omega (arith, length-append were.pages (t.page ∷ []), were.count_is, count, same.count);
          len_is = omega (arith, length-append images t.bytes, were.len_is, judged, same.judged, t.len);
        },
        refl,
      );
      first = λ plain images were. first_none old.count old.judged images were (t.alone plain);
    }
