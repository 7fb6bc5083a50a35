-- What an answer that was read within the limit of an input says of all that comes.
use Rattle.std.proofs.Common.{◌≡◌, ℕ, zero, suc, ◌+◌, ◌-◌, ◌<◌, ◌≤◌, ◌⊎◌, Bool, true, false, List, [], ◌∷◌, ◌++◌, length, take, drop, Option, Some, None, Result, Ok, Err, refl, sym, ap, subst, ◌∙◌, append_assoc, take-append-drop, length-take, length-drop, inl, inr, arith}
use Rattle.std.specs.Prelude.{option_map, IfSome, IfNone, IfOk, IfErr}
use Rattle.std.proofs.lemmas.List.{append-nil, length-append}
use Rattle.std.specs.Io.KnownBytes.{prepend_known, IsAtEnd}
use Rattle.pbm_reader.specs.declared.image.Image.{Image}
use Rattle.pbm_reader.specs.declared.fault.PageFault.{PageFault}
use Rattle.pbm_reader.specs.declared.fault.PageFault.TheVariants as faults
use Rattle.pbm_reader.specs.Fault.{HasLowPlace, IsMagicFault}
use Rattle.pbm_reader.specs.Images.{BeginsImage}
use Rattle.pbm_reader.specs.Feed.{PieceView, seen, unseen, is_limited, whole, with_unread}
use Rattle.pbm_reader.specs.Given.{AfterFault}
use Rattle.pbm_reader.specs.Reader.{DecidesNoFault, ImageFails, IsAtPlace, IsNextFault, IsOwnFault, MayBe, ReadsWithin, TookImage, WereImages}
use Rattle.layout_outside.specs.Views.{SourceView}
use Rattle.layout_outside.specs.Taken.{HasEnded, TookAll}
use Rattle.pbm_reader.proofs.Taken.{prepend_nothing, prepend_twice}
use Rattle.pbm_reader.proofs.TopRows.{image_after}
use Rattle.pbm_reader.proofs.Coming.{some_room}
use Rattle.pbm_reader.proofs.ImageFronts.{Settles}
use Rattle.pbm_reader.proofs.NextImage.{past_next, many_next, no_fault_decided, nothing_settles}

-- ---- behind 256 images

pub last_more : (count judged : ℕ) (bytes : List ℕ) → count ≡ 256 → judged < 268435456 → 0 < length bytes → IsNextFault count judged bytes faults.TooManyImages
last_more count judged [] full low some = absurd (omega (arith, some))
last_more count judged (byte ∷ bytes) full low some = many_next count judged byte bytes full low

pub last_long : (count judged : ℕ) (bytes : List ℕ) → count ≡ 256 → judged ≡ 268435456 → 0 < length bytes → IsNextFault count judged bytes faults.InputTooLong
last_long count judged bytes full long some =
    past_next count judged [] bytes (omega (arith, long)) some (λ i few. omega (arith, few, full)) (λ images w. nothing_settles count judged images w (omega (arith, full)) (omega (arith, full)) (omega (arith, long)))

pub last_undecided : (count judged : ℕ) → count ≡ 256 → judged ≤ 268435456 → DecidesNoFault count judged []
last_undecided count judged full low =
    no_fault_decided count judged [] (omega (arith, low)) (λ images w. nothing_settles count judged images w (omega (arith, full)) (omega (arith, full)) low)

-- ---- an end that was seen

-- where a source has answered its end nothing is unread
pub ended_unread : (unread : List ℕ) (source : SourceView) → HasEnded (with_unread unread source) → unread ≡ []
ended_unread [] source e = refl
ended_unread (byte ∷ unread) source e = absurd (not_both e.answered)
  where
    not_both : false ≡ true → ⊥
    not_both e = cc

-- the same piece, but for what is unread of it
pub ended_kept : (old new : PieceView) (source : SourceView) → new.room ≡ old.room → (new.unread ≡ old.unread) ⊎ (new.unread ≡ []) → HasEnded (whole old source) → HasEnded (whole new source)
ended_kept old new source room same e =
    let first = ended_unread old.unread (seen old.room source) e in
    let last : new.unread ≡ old.unread =
    elim same [
      | inl s ↦ s
      | inr none ↦ none ∙ sym first
    ] in
    let P : List ℕ → Type 0 = λ u. HasEnded (with_unread u (seen new.room source)) in
    let Q : Option ℕ → Type 0 = λ r. HasEnded (with_unread old.unread (seen r source)) in
    subst P (sym last) (subst Q (sym room) e)

-- bytes that were taken to the end are all
pub all_taken : (left after : Option (List ℕ)) (seen bytes : List ℕ) → left ≡ Some seen → left ≡ prepend_known bytes after → IsAtEnd after → seen ≡ bytes
all_taken left None seen bytes told took end = absurd (differ left seen told took)
  where
    differ : (o : Option (List ℕ)) (l : List ℕ) → o ≡ Some l → o ≡ None → ⊥
    differ o l a b = cc
all_taken left (Some rest) seen bytes told took end = some_is seen (bytes ++ rest) (sym told ∙ took) ∙ ap (λ (l : List ℕ). bytes ++ l) end ∙ append-nil bytes
  where
    some_is : (a b : List ℕ) → (let o : Option (List ℕ) = Some a in o) ≡ Some b → a ≡ b
    some_is a b e = cc

-- ---- what is seen within the limit, and what stands behind it

-- what a source tells: the bytes that may be read, and those behind them; and what it tells behind a reading
pub record IsCut (judged : ℕ) (old new : PieceView) (source later : SourceView) : Type 0 where
  pub front : List ℕ
  pub more : List ℕ
  pub rest : List ℕ
  pub front_is : (whole old source).left ≡ Some front
  pub coming_is : prepend_known old.unread source.left ≡ Some (front ++ more)
  pub rest_is : later.left ≡ Some rest
  pub low : judged + length front ≤ 268435456
  pub full : 0 < length more → judged + length front ≡ 268435456
  pub nothing : rest ≡ [] → more ≡ []
  pub ended : HasEnded (whole new later) → rest ≡ more

told_by : (f : List ℕ → List ℕ) (o : Option (List ℕ)) (l : List ℕ) → option_map f o ≡ Some l → (rest : List ℕ) × (o ≡ Some rest) × (f rest ≡ l)
told_by f None l e = absurd (differ l e)
  where
    differ : (l : List ℕ) → (let o : Option (List ℕ) = None in o) ≡ Some l → ⊥
    differ l e = cc
told_by f (Some rest) l e = (rest, refl, some_is (f rest) l e)
  where
    some_is : (a b : List ℕ) → (let o : Option (List ℕ) = Some a in o) ≡ Some b → a ≡ b
    some_is a b e = cc

take_within : (n : ℕ) (l : List ℕ) → length (take n l) ≤ n
take_within n l = grind (arith, length-take)

drop_full : (n : ℕ) (l : List ℕ) → 0 < length (drop n l) → length (take n l) ≡ n
drop_full n l some = grind (arith, length-take, length-drop)

pub is_cut : (judged room : ℕ) (old new : PieceView) (source later : SourceView) (all : List ℕ) → old.room ≡ Some room → is_limited new.room ≡ is_limited old.room
    → unseen new.room later ≡ unseen old.room source → judged + length old.unread + room ≡ 268435456 → source.left ≡ Some all → IsCut judged old new source later
is_cut judged room old new source later all limit more same fits told =
    let after = some_room new.room (more ∙ ap is_limited limit) in
    let seen_is : (seen old.room source).left ≡ Some (take room all) =
    ap (λ (o : Option ℕ). (seen o source).left) limit ∙ ap (λ (o : Option (List ℕ)). option_map (λ bytes. take room bytes) o) told in
    let behind : unseen (Some after.0) later ≡ Some (drop room all) =
    ap (λ (o : Option ℕ). unseen o later) (sym after.1) ∙ same ∙ ap (λ (o : Option ℕ). unseen o source) limit ∙ ap (λ (o : Option (List ℕ)). option_map (λ bytes. drop room bytes) o) told in
    let rest = told_by (λ bytes. drop after.0 bytes) later.left (drop room all) behind in
    record {
      front = old.unread ++ take room all;
      more = drop room all;
      rest = rest.0;
      front_is = ap (λ (o : Option (List ℕ)). prepend_known old.unread o) seen_is;
      coming_is = ap (λ (o : Option (List ℕ)). prepend_known old.unread o) told
          ∙ ap (λ (l : List ℕ). let o : Option (List ℕ) = Some l in o) (ap (λ (l : List ℕ). old.unread ++ l) (sym (take-append-drop room all)) ∙ sym (append_assoc old.unread (take room all) (drop room all)));
      rest_is = rest.1;
      low = omega (arith, fits, length-append old.unread (take room all), take_within room all);
      full = λ some. omega (arith, fits, length-append old.unread (take room all), drop_full room all some);
      nothing = λ none. sym rest.2 ∙ ap (λ (l : List ℕ). drop after.0 l) none ∙ drop_nothing after.0;
      ended = λ e. ended after.0 rest.0 rest.1 after.1 rest.2 e;
    }
  where
    drop_nothing : (n : ℕ) → drop n (let l : List ℕ = [] in l) ≡ []
    drop_nothing zero = refl
    drop_nothing (suc n) = refl

    ended : (n : ℕ) (rest : List ℕ) → later.left ≡ Some rest → new.room ≡ Some n → drop n rest ≡ drop room all → HasEnded (whole new later) → rest ≡ drop room all
    ended n rest told limit behind e =
        let none = ended_unread new.unread (seen new.room later) e in
        let left_is : (whole new later).left ≡ Some (take n rest) =
        ap (λ (u : List ℕ). prepend_known u (seen new.room later).left) none
        ∙ sym (prepend_nothing (seen new.room later).left)
        ∙ ap (λ (o : Option ℕ). (seen o later).left) limit
        ∙ ap (λ (o : Option (List ℕ)). option_map (λ bytes. take n bytes) o) told in
        let nothing : take n rest ≡ [] = subst IsAtEnd left_is e.nothing in
        sym (take-append-drop n rest) ∙ ap (λ (l : List ℕ). l ++ drop n rest) nothing ∙ behind

-- ---- a source that does not tell its bytes

pub untold_part : (room : Option ℕ) (source : SourceView) → source.left ≡ None → unseen room source ≡ None
untold_part None source none = refl
untold_part (Some n) source none = ap (λ (o : Option (List ℕ)). option_map (λ bytes. drop n bytes) o) none

pub untold_behind : (n : ℕ) (source : SourceView) → unseen (Some n) source ≡ None → source.left ≡ None
untold_behind n source none = by_left source.left none
  where
    differ : (l : List ℕ) → (let o : Option (List ℕ) = Some l in o) ≡ None → ⊥
    differ l e = cc

    by_left : (o : Option (List ℕ)) → option_map (λ bytes. drop n bytes) o ≡ None → o ≡ None
    by_left None e = refl
    by_left (Some l) e = absurd (differ (drop n l) e)

pub untold : (bytes : List ℕ) (left after : Option (List ℕ)) → left ≡ prepend_known bytes after → left ≡ None → left ≡ prepend_known [] after
untold bytes left None e none = none
untold bytes left (Some l) e none = absurd (differ (bytes ++ l) (sym e ∙ none))
  where
    differ : (l : List ℕ) → (let o : Option (List ℕ) = Some l in o) ≡ None → ⊥
    differ l e = cc

pub taken_len : (left after : Option (List ℕ)) (front bytes : List ℕ) → left ≡ Some front → left ≡ prepend_known bytes after → length bytes ≤ length front
taken_len left None front bytes told took = absurd (differ front (sym told ∙ took))
  where
    differ : (l : List ℕ) → (let o : Option (List ℕ) = Some l in o) ≡ None → ⊥
    differ l e = cc
taken_len left (Some rest) front bytes told took = omega (arith, length-append bytes rest, ap length (some_is front (bytes ++ rest) (sym told ∙ took)))
  where
    some_is : (a b : List ℕ) → (let o : Option (List ℕ) = Some a in o) ≡ Some b → a ≡ b
    some_is a b e = cc

-- ---- an end at which nothing is settled

pub record SettlesNothing (count judged : ℕ) (bytes : List ℕ) : Type 0 where
  pub none : BeginsImage bytes → count < 256 → ⊥
  pub nothing : (images : List ℕ) → WereImages count judged images → (fault : PageFault) → Settles (images ++ bytes) fault → ⊥

-- the fault stands at the end of the bytes where it stands at that of what may be read
pub own_place : (is_first : Bool) (bytes : List ℕ) (left : ℕ) (own : PageFault) → IsOwnFault is_first bytes own → length bytes ≤ left → IsAtPlace left own → IsAtPlace (length bytes) own
own_place is_first bytes left (faults.Truncated at) (inl o) low place = absurd (differ at o.2)
  where
    differ : (n : ℕ) → faults.Truncated n ≡ faults.Magic 1 → ⊥
    differ n e = cc
own_place is_first bytes left (faults.Truncated at) (inr o) low place = o.0.end
own_place is_first bytes left (faults.Magic at) (inl o) low place = omega (arith, low, place, at_is at o.2, ap length o.1.1)
  where
    at_is : (n : ℕ) → faults.Magic n ≡ faults.Magic 1 → n ≡ 1
    at_is n e = cc
own_place is_first bytes left (faults.Magic at) (inr o) low place = by_fault o.0
  where
    by_fault : IsMagicFault bytes at → at ≡ length bytes
    by_fault (inl m) = omega (arith, m.0, low, place)
    by_fault (inr m) = omega (arith, m.0, low, place, ap length m.1.1)
own_place is_first bytes left own o low place = absurd place

-- ---- what was read, and is within the limit

module _ {Sink : Type 0} (begun : Sink → ℕ → ℕ → Sink → Type 0) (given : Sink → List ℕ → Sink → Type 0) (unchanged : Sink → Sink → Type 0) (is_first : Bool) (left : ℕ)
    (old before after kept : PieceView) (source middle : SourceView) (empty full : Sink) (unread : before.unread ≡ old.unread) (limit : before.room ≡ Some (left - length old.unread))
    (limited : is_limited after.room ≡ is_limited before.room) (same : unseen after.room middle ≡ unseen before.room source) (room : kept.room ≡ after.room)
    (low : left ≤ 268435456) (few : length old.unread ≤ left) where
  abbrev Gives : Image → Type 0
  Gives image = MayBe is_first image.form × TookImage begun given (whole before source) (whole after middle) empty full image
      × (image.len + length kept.unread ≤ left) × (kept.unread ≡ after.unread)

  abbrev Ends : Type 0
  Ends = TookAll (whole before source) (whole after middle) [] × (is_first ≡ false) × (full ≡ empty) × (kept.unread ≡ [])

  abbrev Fails : PageFault → Type 0
  Fails fault = ImageFails is_first (whole before source) (whole after middle) fault × (kept.unread ≡ [])
      × AfterFault begun given unchanged (whole before source) (whole after middle) empty full fault × HasLowPlace fault × (fault ≡ faults.ReadFault → after.unread ≡ [])

  reads : (answer : Result (Option Image) PageFault) → IfOk answer (λ o. IfSome o Gives) → IfOk answer (λ o. IfNone o Ends) → IfErr answer Fails
      → ReadsWithin begun given unchanged is_first left old kept source middle empty full answer
  reads answer gives ends fails = record {
    first = before;
    last = after;
    unread = unread;
    limit = limit;
    limited = limited;
    unseen_is = same;
    room = room;
    image = gives;
    end = ends;
    fault = fails;
  }

  untold_seen : (room : Option ℕ) → source.left ≡ None → (seen room source).left ≡ None
  untold_seen None none = none
  untold_seen (Some n) none = ap (λ (o : Option (List ℕ)). option_map (λ bytes. take n bytes) o) none

  -- no source that tells its bytes goes past the limit
  never_past : (image : Image) → TookImage begun given (whole before source) (whole after middle) empty full image → left < image.len + length after.unread
      → IfSome (whole before source).left (λ bytes. 268435456 < length bytes)
  never_past image t more = by_left source.left refl
    where
      shorter : (left o : Option (List ℕ)) (front bytes unread : List ℕ) → left ≡ Some front → left ≡ prepend_known bytes (prepend_known unread o) → length bytes + length unread ≤ length front
      shorter left o front bytes unread told took =
          omega (arith, length-append bytes unread, taken_len left o front (bytes ++ unread) told (took ∙ sym (prepend_twice bytes unread o)))

      by_left : (left : Option (List ℕ)) → source.left ≡ left → IfSome (whole before source).left (λ bytes. 268435456 < length bytes)
      by_left None none = subst (λ (o : Option (List ℕ)). IfSome (prepend_known before.unread o) (λ bytes. 268435456 < length bytes)) (sym (untold_seen before.room none)) tt
      by_left (Some all) told =
          let c = is_cut (268435456 - left) (left - length old.unread) before after source middle all limit limited same (omega (arith, few, low, ap length unread)) told in
          let within = c.low in
          absurd (omega (arith, more, within, low, t.len, shorter (whole before source).left (seen after.room middle).left c.front t.bytes after.unread c.front_is t.took))

  pub kept_answer : (read answer : Result (Option Image) PageFault)
      → IfOk read (λ o. IfSome o (λ image. MayBe is_first image.form × TookImage begun given (whole before source) (whole after middle) empty full image))
      → IfOk read (λ o. IfNone o (TookAll (whole before source) (whole after middle) [] × (is_first ≡ false) × (full ≡ empty)))
      → IfErr read (ImageFails is_first (whole before source) (whole after middle)) → IfErr read HasLowPlace
      → IfErr read (AfterFault begun given unchanged (whole before source) (whole after middle) empty full) → (read ≡ Err faults.ReadFault → after.unread ≡ [])
      → IfOk answer (λ o. IfSome o (λ image. (read ≡ Ok (Some image)) × (kept.unread ≡ after.unread) × (image.len + length kept.unread ≤ left)))
      → IfOk answer (λ o. IfNone o ((read ≡ Ok None) × (kept.unread ≡ [])))
      → IfErr answer (λ fault. (kept.unread ≡ []) × ((read ≡ Err fault)
      ⊎ ((fault ≡ faults.InputTooLong) × ((image : Image) × (read ≡ Ok (Some image)) × (left < image.len + length after.unread)))))
      → ReadsWithin begun given unchanged is_first left old kept source middle empty full answer
  kept_answer read (Ok (Some image)) image_of none_of fault_of low_of top_of drained within ends fails =
      let R : Result (Option Image) PageFault → Type 0 =
      λ x. IfOk x (λ o. IfSome o (λ image. MayBe is_first image.form × TookImage begun given (whole before source) (whole after middle) empty full image)) in
      let t = subst R within.0 image_of in
      reads (Ok (Some image)) (t.0, t.1, within.2, within.1) tt tt
  kept_answer read (Ok None) image_of none_of fault_of low_of top_of drained within ends fails =
      let R : Result (Option Image) PageFault → Type 0 = λ x. IfOk x (λ o. IfNone o (TookAll (whole before source) (whole after middle) [] × (is_first ≡ false) × (full ≡ empty))) in
      let t = subst R ends.0 none_of in
      reads (Ok None) tt (t.0, t.1, t.2, ends.1) tt
  kept_answer read (Err fault) image_of none_of fault_of low_of top_of drained within ends fails = reads (Err fault) tt tt (by_cause fails.1)
    where
      by_cause : (read ≡ Err fault) ⊎ ((fault ≡ faults.InputTooLong) × ((image : Image) × (read ≡ Ok (Some image)) × (left < image.len + length after.unread))) → Fails fault
      by_cause (inl same) =
          let F : Result (Option Image) PageFault → Type 0 = λ x. IfErr x (ImageFails is_first (whole before source) (whole after middle)) in
          let A : Result (Option Image) PageFault → Type 0 = λ x. IfErr x (AfterFault begun given unchanged (whole before source) (whole after middle) empty full) in
          let L : Result (Option Image) PageFault → Type 0 = λ x. IfErr x HasLowPlace in
          (subst F same fault_of, fails.0, subst A same top_of, subst L same low_of, λ e. drained (same ∙ ap (λ (k : PageFault). Err k) e))
      by_cause (inr long) =
          let image = long.1.0 in
          let R : Result (Option Image) PageFault → Type 0 =
          λ x. IfOk x (λ o. IfSome o (λ image. MayBe is_first image.form × TookImage begun given (whole before source) (whole after middle) empty full image)) in
          let t = subst R long.1.1 image_of in
          let top = image_after begun given unchanged (whole before source) (whole after middle) empty full image faults.InputTooLong (λ n low. low) t.1 in
          subst Fails (sym long.0) (never_past image t.1 long.1.2, fails.0, top, tt, λ e. absurd cc)
