-- What was read within the limit of an input, and what it says of all that comes.
use Rattle.std.proofs.Common.{◌≡◌, ℕ, ◌+◌, ◌-◌, ◌<◌, ◌≤◌, Bool, true, false, List, [], ◌∷◌, ◌++◌, length, Option, Some, None, Result, Ok, Err, refl, sym, ap, subst, ◌∙◌, inl, inr, arith}
use Rattle.std.specs.Prelude.{IfSome}
use Rattle.std.specs.Io.KnownBytes.{prepend_known, IsAtEnd}
use Rattle.pbm_reader.specs.declared.image.Image.{Image}
use Rattle.pbm_reader.specs.declared.fault.PageFault.{PageFault}
use Rattle.pbm_reader.specs.declared.fault.PageFault.TheVariants as faults
use Rattle.pbm_reader.specs.declared.form.Form.{Form}
use Rattle.pbm_reader.specs.declared.form.Form.TheVariants.{Plain}
use Rattle.pbm_reader.specs.Spelling.{magic}
use Rattle.pbm_reader.specs.Fault.{Begins, HasLowPlace}
use Rattle.pbm_reader.specs.Images.{behind_bytes}
use Rattle.pbm_reader.specs.Given.{AfterFault, StandsBehind}
use Rattle.pbm_reader.specs.Feed.{PieceView, seen, unseen, is_limited, whole}
use Rattle.pbm_reader.specs.Reader.{behind_held, coming, AfterNextFault, EndsHere, FailsOn, ImageFails, ImagesView, IsAtPlace, IsNextFault, MayBe, RefusesNext, StandsAtEnd, TakesImage, TookImage}
use Rattle.layout_outside.specs.Views.{SourceView}
use Rattle.layout_outside.specs.Taken.{HasEnded, Took, TookAll}
use Rattle.pbm_reader.proofs.Taken.{prepend_nothing, prepend_twice, some_of}
use Rattle.pbm_reader.proofs.Coming.{some_room, piece_coming}
use Rattle.pbm_reader.proofs.TopRows.{after_moved, after_other, image_after}
use Rattle.pbm_reader.proofs.OneFault.{nothing_undecided}
use Rattle.pbm_reader.proofs.RawImages.{form_begins, image_begins, no_image, one_name}
use Rattle.pbm_reader.proofs.NextImage.{is_zero, own_next, own_none, past_next, no_fault_decided, nothing_settles, place_settles_nothing, page_settles_nothing, undecided_next}
use Rattle.pbm_reader.proofs.WithinLimit.{IsCut, SettlesNothing, all_taken, ended_unread, ended_kept, is_cut, own_place, taken_len, untold, untold_behind, untold_part}

-- ---- a reading

-- a piece was limited to what may be read of the input, and an image read of it
pub record IsReading (old : ImagesView) (is_first : Bool) (before after kept : PieceView) (source middle : SourceView) : Type 0 where
  pub held : before.unread ≡ old.held
  pub low : old.judged + length old.held ≤ 268435456
  pub few : old.count < 256
  pub first : old.count ≡ 0 → is_first ≡ true
  pub later : 0 < old.count → is_first ≡ false
  pub limit : before.room ≡ Some (268435456 - old.judged - length old.held)
  pub limited : is_limited after.room ≡ is_limited before.room
  pub same : unseen after.room middle ≡ unseen before.room source
  pub room : kept.room ≡ after.room

not_both : (b : Bool) → b ≡ true → b ≡ false → ⊥
not_both b p q = cc

module _ {Sink : Type 0} (begun : Sink → ℕ → ℕ → Sink → Type 0) (given : Sink → List ℕ → Sink → Type 0) (unchanged : Sink → Sink → Type 0) (old : ImagesView) (is_first : Bool)
    (before after kept : PieceView) (source middle : SourceView) (empty full : Sink) (r : IsReading old is_first before after kept source middle) where
  abbrev pub Answers : Result (Option Image) PageFault → Type 0
  Answers (Ok (Some image)) = MayBe is_first image.form × TookImage begun given (whole before source) (whole after middle) empty full image
      × (image.len + length kept.unread ≤ 268435456 - old.judged) × (kept.unread ≡ after.unread)
  Answers (Ok None) = TookAll (whole before source) (whole after middle) [] × (is_first ≡ false) × (full ≡ empty) × (kept.unread ≡ [])
  Answers (Err fault) = ImageFails is_first (whole before source) (whole after middle) fault × (kept.unread ≡ [])
      × AfterFault begun given unchanged (whole before source) (whole after middle) empty full fault × HasLowPlace fault × (fault ≡ faults.ReadFault → after.unread ≡ [])

  cut : (all : List ℕ) → source.left ≡ Some all → IsCut old.judged before after source middle
  cut all told = is_cut old.judged (268435456 - old.judged - length old.held) before after source middle all r.limit r.limited r.same (let low = r.low in omega (arith, low, ap length r.held)) told

  some_before : is_first ≡ false → 0 < old.count
  some_before e =
      elim (is_zero old.count) [
        | inl none ↦ absurd (not_both is_first (r.first none) e)
        | inr some ↦ some
      ]

  none_before : is_first ≡ true → old.count ≡ 0
  none_before e =
      elim (is_zero old.count) [
        | inl none ↦ none
        | inr some ↦ absurd (not_both is_first e (r.later some))
      ]

  comes : (c : IsCut old.judged before after source middle) → coming old source ≡ Some (c.front ++ c.more)
  comes c = ap (λ (u : List ℕ). prepend_known u source.left) (sym r.held) ∙ c.coming_is

  -- what is said of all that comes, where it is told
  by_told : (P : List ℕ → Type 0) → ((c : IsCut old.judged before after source middle) → P (c.front ++ c.more)) → IfSome (coming old source) P
  by_told P holds = by_left source.left refl
    where
      by_left : (left : Option (List ℕ)) → source.left ≡ left → IfSome (coming old source) P
      by_left None none = subst (λ (o : Option (List ℕ)). IfSome (prepend_known old.held o) P) (sym none) tt
      by_left (Some all) told = let c = cut all told in subst (λ (o : Option (List ℕ)). IfSome o P) (sym (comes c)) (holds c)

  -- ---- an answer at the end of what may be read

  AtEnd : IsCut old.judged before after source middle → Type 0
  AtEnd c = SettlesNothing old.count old.judged c.front × HasEnded (whole after middle)

  own_end : (c : IsCut old.judged before after source middle) (own : PageFault) → FailsOn is_first (whole after middle) own c.front → IsAtPlace (268435456 - old.judged) own → AtEnd c
  unfolding AtEnd
  own_end c own f place =
      let low = c.low in
      let here = own_place is_first c.front (268435456 - old.judged) own f.own (omega (arith, low)) place in (
        record {
          none = λ i few. own_none c.front own is_first f.own i;
          nothing = place_settles_nothing old.count old.judged c.front own is_first r.few c.low r.first r.later f.own here;
        },
        f.ended here,
      )

  at_end : (answer : Result (Option Image) PageFault) → Answers answer → StandsAtEnd (268435456 - old.judged) answer → (c : IsCut old.judged before after source middle) → AtEnd c
  unfolding AtEnd
  at_end (Ok None) a stands c =
      let all = all_taken (whole before source).left (whole after middle).left c.front [] c.front_is a.0.took a.0.end.nothing in
      let few = r.few in
      let low = c.low in (
        subst (λ (l : List ℕ). SettlesNothing old.count old.judged l) (sym all) (record {
          none = λ i few. no_image i;
          nothing = λ images w. nothing_settles old.count old.judged images w (some_before a.1) (omega (arith, few)) (omega (arith, low));
        }),
        a.0.end,
      )
  at_end (Ok (Some image)) a stands c =
      let t = a.1 in
      let e = t.ended stands in
      let all = all_taken (whole before source).left (whole after middle).left c.front t.bytes c.front_is t.took e.nothing in
      let begins = subst (λ (f : Form). Begins (magic f) t.bytes) stands (form_begins image.form t.bytes t.page t.spells) in
      let none = none_before (a.0 stands) in
      let low = c.low in (
        subst (λ (l : List ℕ). SettlesNothing old.count old.judged l) (sym all) (record {
          none = λ i few. one_name t.bytes begins (image_begins t.bytes i);
          nothing = page_settles_nothing old.count old.judged t.bytes t.page r.few (omega (arith, low, ap length all)) (λ some. absurd (omega (arith, some, none))) t.spells.0;
        }),
        e,
      )
  at_end (Err (faults.Truncated at)) a stands c =
      own_end c (faults.Truncated at) (some_of (whole before source).left c.front (λ (l : List ℕ). FailsOn is_first (whole after middle) (faults.Truncated at) l) c.front_is a.0) stands
  at_end (Err (faults.Magic at)) a stands c =
      own_end c (faults.Magic at) (some_of (whole before source).left c.front (λ (l : List ℕ). FailsOn is_first (whole after middle) (faults.Magic at) l) c.front_is a.0) stands
  at_end (Err fault) a stands c = absurd stands

  -- the input goes on behind the answer
  pub past : (answer : Result (Option Image) PageFault) (later : SourceView) (byte : ℕ) → Answers answer → StandsAtEnd (268435456 - old.judged) answer → Took middle later (byte ∷ [])
      → IfSome (coming old source) (λ bytes. IsNextFault old.count old.judged bytes faults.InputTooLong)
  unfolding AtEnd
  past answer later byte a stands took =
      by_told (λ bytes. IsNextFault old.count old.judged bytes faults.InputTooLong) (λ c.
      let end = at_end answer a stands c in
      let some : 0 < length c.more = omega (arith, ap length (c.ended end.1), longer c.rest later.left byte (sym c.rest_is ∙ took)) in
      past_next old.count old.judged c.front c.more (c.full some) some end.0.none end.0.nothing)
    where
      longer : (rest : List ℕ) (o : Option (List ℕ)) (byte : ℕ) → (let s : Option (List ℕ) = Some rest in s) ≡ prepend_known (byte ∷ []) o → 0 < length rest
      longer rest None byte e = absurd (differ rest e)
        where
          differ : (l : List ℕ) → (let s : Option (List ℕ) = Some l in s) ≡ None → ⊥
          differ l e = cc
      longer rest (Some l) byte e = omega (arith, ap length (some_is rest (byte ∷ l) e))
        where
          some_is : (a b : List ℕ) → (let o : Option (List ℕ) = Some a in o) ≡ Some b → a ≡ b
          some_is a b e = cc

  -- whether it goes on is not known
  pub failed : (answer : Result (Option Image) PageFault) (new : ImagesView) (later : SourceView) → Answers answer → StandsAtEnd (268435456 - old.judged) answer → new.held ≡ kept.unread → Took middle later []
      → RefusesNext old new source later faults.ReadFault
  unfolding AtEnd
  failed answer new later a stands held took = by_left source.left refl
    where
      kept_none : (answer : Result (Option Image) PageFault) → Answers answer → StandsAtEnd (268435456 - old.judged) answer → kept.unread ≡ []
      kept_none (Ok (Some image)) a stands = a.3 ∙ ended_unread after.unread (seen after.room middle) (a.1.ended stands)
      kept_none (Ok None) a stands = a.3
      kept_none (Err own) a stands = a.1

      none_held : new.held ≡ []
      none_held = held ∙ kept_none answer a stands

      by_left : (left : Option (List ℕ)) → source.left ≡ left → RefusesNext old new source later faults.ReadFault
      by_left None none =
          let untold = sym took ∙ middle_none none in
          let low = r.low in (
            [],
            ap (λ (o : Option (List ℕ)). prepend_known old.held o) none ∙ sym (ap (λ (o : Option (List ℕ)). prepend_known [] (prepend_known new.held o)) (later_none later.left untold)),
            undecided_next old.count old.judged [] is_first r.few (omega (arith, low)) r.first r.later nothing_undecided (λ l b. omega (arith, ap length b.1)),
            (λ n. no_image n.begins),
            none_held,
          )
        where
          middle_none : source.left ≡ None → middle.left ≡ None
          middle_none none =
              let limit = some_room after.room (r.limited ∙ ap is_limited r.limit) in
              untold_behind limit.0 middle (ap (λ (o : Option ℕ). unseen o middle) (sym limit.1) ∙ r.same ∙ untold_part before.room source none)

          later_none : (o : Option (List ℕ)) → prepend_known [] o ≡ None → o ≡ None
          later_none None e = refl
          later_none (Some l) e = absurd (differ l e)
            where
              differ : (l : List ℕ) → (let o : Option (List ℕ) = Some ([] ++ l) in o) ≡ None → ⊥
              differ l e = cc
      by_left (Some all) told =
          let c = cut all told in
          let end = at_end answer a stands c in
          let same : coming new later ≡ Some c.more =
          ap (λ (u : List ℕ). prepend_known u later.left) none_held ∙ sym took ∙ c.rest_is ∙ ap (λ (l : List ℕ). let o : Option (List ℕ) = Some l in o) (c.ended end.1) in (
            c.front,
            comes c ∙ sym (ap (λ (o : Option (List ℕ)). prepend_known c.front o) same),
            no_fault_decided old.count old.judged c.front c.low end.0.nothing,
            (λ n. end.0.none n.begins r.few),
            none_held,
          )

  -- ---- an answer that holds of all that comes

  -- the source has answered its end where the answer stands at it
  abbrev pub Ends : Result (Option Image) PageFault → SourceView → Type 0
  Ends answer later = StandsAtEnd (268435456 - old.judged) answer → HasEnded (whole kept middle) → HasEnded later

  nothing_more : (c : IsCut old.judged before after source middle) (later : SourceView) → Took middle later [] → HasEnded later → c.more ≡ []
  nothing_more c later took e = c.nothing (all_taken middle.left later.left c.rest [] c.rest_is took e.nothing)

  own_holds : (own : PageFault) (later : SourceView) → kept.unread ≡ [] → Took middle later [] → Ends (Err own) later → (c : IsCut old.judged before after source middle) → FailsOn is_first (whole after middle) own c.front
      → IsNextFault old.count old.judged (c.front ++ c.more) (behind_bytes old.judged own)
  own_holds own later none took ends c f = own_next old.count old.judged c.front c.more own is_first r.few c.low c.full r.first r.later f.own apart
    where
      apart : 0 < length c.more → IsAtPlace (length c.front) own → ⊥
      apart some place =
          let stands : IsAtPlace (268435456 - old.judged) own = subst (λ (n : ℕ). IsAtPlace n own) (omega (arith, c.full some)) place in
          let e = ends stands (ended_kept after kept middle r.room (inr none) (f.ended place)) in
          omega (arith, some, ap length (nothing_more c later took e))

  told_holds : (own : PageFault) (later : SourceView) → kept.unread ≡ [] → Took middle later [] → Ends (Err own) later → IfSome (whole before source).left (λ bytes. FailsOn is_first (whole after middle) own bytes)
      → IfSome (coming old source) (λ bytes. IsNextFault old.count old.judged bytes (behind_bytes old.judged own))
  told_holds own later none took ends f =
      by_told (λ bytes. IsNextFault old.count old.judged bytes (behind_bytes old.judged own)) (λ c.
      own_holds own later none took ends c (some_of (whole before source).left c.front (λ (l : List ℕ). FailsOn is_first (whole after middle) own l) c.front_is f))

  pub next_fault : (own : PageFault) (new : ImagesView) (later : SourceView) → Answers (Err own) → new.held ≡ kept.unread → Took middle later [] → Ends (Err own) later
      → RefusesNext old new source later (behind_bytes old.judged own)
  next_fault (faults.Magic at) new later a held took ends = told_holds (faults.Magic at) later a.1 took ends a.0
  next_fault (faults.Header at) new later a held took ends = told_holds (faults.Header at) later a.1 took ends a.0
  next_fault (faults.Truncated at) new later a held took ends = told_holds (faults.Truncated at) later a.1 took ends a.0
  next_fault (faults.Pixel at) new later a held took ends = told_holds (faults.Pixel at) later a.1 took ends a.0
  next_fault (faults.Trailing at) new later a held took ends = told_holds (faults.Trailing at) later a.1 took ends a.0
  next_fault faults.HeaderTooLong new later a held took ends = told_holds faults.HeaderTooLong later a.1 took ends a.0
  next_fault faults.ZeroSize new later a held took ends = told_holds faults.ZeroSize later a.1 took ends a.0
  next_fault (faults.TooLarge wide high) new later a held took ends = told_holds (faults.TooLarge wide high) later a.1 took ends a.0
  next_fault faults.TooManyImages new later a held took ends = told_holds faults.TooManyImages later a.1 took ends a.0
  next_fault faults.InputTooLong new later a held took ends =
      by_told (λ bytes. IsNextFault old.count old.judged bytes faults.InputTooLong) (λ c.
      let low = c.low in
      let long : 268435456 < length c.front = some_of (whole before source).left c.front (λ (l : List ℕ). 268435456 < length l) c.front_is a.0 in
      absurd (omega (arith, low, long)))
  next_fault faults.Memory new later a held took ends = tt
  next_fault faults.ReadFault new later a held took ends = by_left source.left refl
    where
      same : coming old source ≡ prepend_known a.0.0 (coming new later)
      same =
          ap (λ (u : List ℕ). prepend_known u source.left) (sym r.held)
          ∙ piece_coming before after (268435456 - old.judged - length old.held) source middle a.0.0 r.limit r.limited a.0.1 r.same
          ∙ ap (λ (u : List ℕ). prepend_known a.0.0 (prepend_known u middle.left)) (a.4 refl ∙ sym a.1 ∙ sym held)
          ∙ ap (λ (o : Option (List ℕ)). prepend_known a.0.0 (prepend_known new.held o)) (took ∙ sym (prepend_nothing later.left))

      by_left : (left : Option (List ℕ)) → source.left ≡ left → RefusesNext old new source later faults.ReadFault
      by_left None none =
          let low = r.low in (
            [],
            untold a.0.0 (coming old source) (coming new later) same (ap (λ (o : Option (List ℕ)). prepend_known old.held o) none),
            undecided_next old.count old.judged [] is_first r.few (omega (arith, low)) r.first r.later nothing_undecided (λ l b. omega (arith, ap length b.1)),
            (λ n. no_image n.begins),
            held ∙ a.1,
          )
      by_left (Some all) told =
          let c = cut all told in
          let low = c.low in (
            a.0.0,
            same,
            undecided_next old.count old.judged a.0.0 is_first r.few (omega (arith, low, taken_len (whole before source).left (whole after middle).left c.front a.0.0 c.front_is a.0.1)) r.first r.later a.0.2.0 a.0.3,
            (λ n. a.0.2.1 n.begins),
            held ∙ a.1,
          )

  pub next_image : (image : Image) (new : ImagesView) (later : SourceView) → Answers (Ok (Some image)) → new.held ≡ kept.unread → Took middle later [] → Ends (Ok (Some image)) later
      → TakesImage begun given old new source later empty full image
  next_image image new later a held took ends =
      let t = a.1 in
      let low = a.2 in
      let first = r.low in
      let ended : image.form ≡ Plain → (new.held ≡ []) × HasEnded later =
      λ plain. (held ∙ a.3 ∙ ended_unread after.unread (seen after.room middle) (t.ended plain), ends plain (ended_kept after kept middle r.room (inl a.3) (t.ended plain))) in
      record {
        bytes = t.bytes;
        page = t.page;
        took = ap (λ (u : List ℕ). prepend_known u source.left) (sym r.held)
            ∙ piece_coming before after (268435456 - old.judged - length old.held) source middle t.bytes r.limit r.limited t.took r.same
            ∙ ap (λ (u : List ℕ). prepend_known t.bytes (prepend_known u middle.left)) (sym a.3 ∙ sym held)
            ∙ ap (λ (o : Option (List ℕ)). prepend_known t.bytes (prepend_known new.held o)) (took ∙ sym (prepend_nothing later.left));
        spells = t.spells;
        len = t.len;
        width_is = t.width_is;
        height_is = t.height_is;
        sink = t.sink;
        low = omega (arith, low, first, ap length held);
        alone = λ plain. none_before (a.0 plain);
        ended = ended;
      }

  pub next_none : (new : ImagesView) (later : SourceView) → Answers (Ok None) → new.held ≡ kept.unread → Took middle later [] → Ends (Ok None) later
      → EndsHere old new source later × (0 < old.count) × (full ≡ empty)
  next_none new later a held took ends =
      let e = ends tt (ended_kept after kept middle r.room (inr a.3) a.0.end) in
      let nothing : IsAtEnd (coming old source) = by_left e source.left refl in
      (record { nothing = nothing; took = same; none = held ∙ a.3; ended = e }, some_before a.1, a.2)
    where
      same : coming old source ≡ coming new later
      same =
          ap (λ (u : List ℕ). prepend_known u source.left) (sym r.held)
          ∙ piece_coming before after (268435456 - old.judged - length old.held) source middle [] r.limit r.limited a.0.took r.same
          ∙ ap (λ (u : List ℕ). prepend_known [] (prepend_known u middle.left)) (ended_unread after.unread (seen after.room middle) a.0.end ∙ sym a.3 ∙ sym held)
          ∙ ap (λ (o : Option (List ℕ)). prepend_known [] (prepend_known new.held o)) (took ∙ sym (prepend_nothing later.left))
          ∙ sym (prepend_nothing (coming new later))

      by_left : HasEnded later → (left : Option (List ℕ)) → source.left ≡ left → IsAtEnd (coming old source)
      by_left e None none = subst (λ (o : Option (List ℕ)). IsAtEnd (prepend_known old.held o)) (sym none) tt
      by_left e (Some all) told =
          let c = cut all told in
          let front = all_taken (whole before source).left (whole after middle).left c.front [] c.front_is a.0.took a.0.end.nothing in
          subst IsAtEnd (sym (comes c)) (ap (λ (l : List ℕ). l ++ c.more) front ∙ nothing_more c later took e)

  -- ---- the rows that were given before a fault

  -- what was taken of what is seen, and all that was dropped behind it, is taken of all that comes
  moves : (new : ImagesView) (later : SourceView) (behind : List ℕ) → new.held ≡ [] → Took middle later behind → (bytes : List ℕ) → Took (whole before source) (whole after middle) bytes
      → Took (behind_held old source) (behind_held new later) (bytes ++ (after.unread ++ behind))
  moves new later behind held took bytes t =
      ap (λ (u : List ℕ). prepend_known u source.left) (sym r.held)
      ∙ piece_coming before after (268435456 - old.judged - length old.held) source middle bytes r.limit r.limited t r.same
      ∙ ap (λ (o : Option (List ℕ)). prepend_known bytes (prepend_known after.unread o)) took
      ∙ ap (λ (o : Option (List ℕ)). prepend_known bytes o) (sym (prepend_twice after.unread behind later.left))
      ∙ sym (prepend_twice bytes (after.unread ++ behind) later.left)
      ∙ ap (λ (o : Option (List ℕ)). prepend_known (bytes ++ (after.unread ++ behind)) o) (prepend_nothing later.left ∙ ap (λ (u : List ℕ). prepend_known u later.left) (sym held))

  pub next_top : (own : PageFault) (new : ImagesView) (later : SourceView) → Answers (Err own) → new.held ≡ kept.unread → Took middle later []
      → AfterNextFault begun given unchanged old new source later empty full (behind_bytes old.judged own)
  next_top own new later a held took =
      let top = after_moved begun given unchanged (behind_held old source) (behind_held new later) (whole before source) (whole after middle) (after.unread ++ []) empty full own
      (moves new later [] (held ∙ a.1) took) a.2 in
      (own, refl, top)

  -- an answer that would be another if the input went on
  cut_top : (answer : Result (Option Image) PageFault) (fault : PageFault) → Answers answer → StandsAtEnd (268435456 - old.judged) answer → ((n : ℕ) → n ≤ 268435456 → StandsBehind n fault)
      → AfterFault begun given unchanged (whole before source) (whole after middle) empty full fault × (kept.unread ≡ [])
  cut_top (Ok None) fault a stands place = (inl (inl a.2), a.3)
  cut_top (Ok (Some image)) fault a stands place =
      let t = a.1 in
      (image_after begun given unchanged (whole before source) (whole after middle) empty full image fault place t, a.3 ∙ ended_unread after.unread (seen after.room middle) (t.ended stands))
  cut_top (Err (faults.Truncated at)) fault a stands place =
      let low = a.3 in
      (after_other begun given unchanged (whole before source) (whole after middle) empty full (faults.Truncated at) fault (λ n behind. place n (omega (arith, behind, low))) a.2, a.1)
  cut_top (Err (faults.Magic at)) fault a stands place =
      (after_other begun given unchanged (whole before source) (whole after middle) empty full (faults.Magic at) fault (λ n behind. absurd behind) a.2, a.1)
  cut_top (Err own) fault a stands place = absurd stands

  pub past_top : (answer : Result (Option Image) PageFault) (fault : PageFault) (new : ImagesView) (later : SourceView) (behind : List ℕ) → Answers answer
      → StandsAtEnd (268435456 - old.judged) answer → ((n : ℕ) → n ≤ 268435456 → StandsBehind n fault) → fault ≡ behind_bytes old.judged fault → new.held ≡ kept.unread → Took middle later behind
      → AfterNextFault begun given unchanged old new source later empty full fault
  past_top answer fault new later behind a stands place whole_fault held took =
      let t = cut_top answer fault a stands place in
      let top = after_moved begun given unchanged (behind_held old source) (behind_held new later) (whole before source) (whole after middle) (after.unread ++ behind) empty full fault
      (moves new later behind (held ∙ t.1) took) t.0 in
      (fault, whole_fault, top)
