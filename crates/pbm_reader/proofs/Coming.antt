-- What comes next of a source that is read within a limit.
use Rattle.std.proofs.Common.{◌≡◌, ℕ, zero, suc, ◌<◌, ◌==◌, ◌||◌, Bool, true, false, List, [], ◌∷◌, ◌++◌, take, drop, Option, Some, None, Result, Ok, Err, refl, sym, ap, subst, ◌∙◌, append_assoc, take-append-drop, arith, rules}
use Rattle.std.specs.Prelude.{option_map, is_some, IfOk, IfSome, IfNone, IsTrue, OnErr}
use Rattle.std.specs.Io.KnownBytes.{prepend_known, IsAtEnd}
use Rattle.layout_outside.specs.Views.{SourceView}
use Rattle.layout_outside.specs.Taken.{HasEnded, Took}
use Rattle.pbm_reader.specs.Feed.{PieceView, seen, unseen, is_limited, whole, with_unread}
use Rattle.pbm_reader.specs.Reader.{ImagesView, coming}
use Rattle.pbm_reader.proofs.Taken.{prepend_nothing}

-- what is seen, and what is not
pub join : Option (List ℕ) → Option (List ℕ) → Option (List ℕ)
join (Some v) (Some u) = Some (v ++ u)
join (Some v) None = None
join None u = None

whole_join : (unread : List ℕ) (room : ℕ) (left : Option (List ℕ))
    → prepend_known unread left ≡ join (prepend_known unread (option_map (λ bytes. take room bytes) left)) (option_map (λ bytes. drop room bytes) left)
unfolding join
whole_join unread room None = refl
whole_join unread room (Some l) =
    ap (λ (k : List ℕ). Some k) (ap (λ (k : List ℕ). unread ++ k) (sym (take-append-drop room l)) ∙ sym (append_assoc unread (take room l) (drop room l)))

join_prepend : (bytes : List ℕ) (v u : Option (List ℕ)) → join (prepend_known bytes v) u ≡ prepend_known bytes (join v u)
unfolding join
join_prepend bytes None u = refl
join_prepend bytes (Some v) None = refl
join_prepend bytes (Some v) (Some u) = ap (λ (k : List ℕ). Some k) (append_assoc bytes v u)

-- what is taken of what is seen is taken of all that comes
pub took_coming : (unread held : List ℕ) (room left : ℕ) (source later : SourceView) (bytes : List ℕ) → Took (whole (record { unread = unread; room = Some room; space = 0 }) source) (whole (record { unread = held; room = Some left; space = 0 }) later) bytes
    → unseen (Some left) later ≡ unseen (Some room) source → prepend_known unread source.left ≡ prepend_known bytes (prepend_known held later.left)
took_coming unread held room left source later bytes took same =
    whole_join unread room source.left
    ∙ ap (λ (v : Option (List ℕ)). join v (unseen (Some room) source)) took
    ∙ ap (λ (u : Option (List ℕ)). join (prepend_known bytes (prepend_known held (option_map (λ bytes. take left bytes) later.left))) u) (sym same)
    ∙ join_prepend bytes (prepend_known held (option_map (λ bytes. take left bytes) later.left)) (unseen (Some left) later)
    ∙ ap (λ (k : Option (List ℕ)). prepend_known bytes k) (sym (whole_join held left later.left))

-- where more might be read and nothing is seen, nothing is left
take_none : (room : ℕ) (l : List ℕ) → 0 < room → take room l ≡ [] → l ≡ []
take_none zero l lt e = absurd (omega (arith, lt))
take_none (suc room) [] lt e = refl
take_none (suc room) (x ∷ l) lt e = absurd cc

pub seen_end : (room : ℕ) (left : Option (List ℕ)) → 0 < room → IsAtEnd (option_map (λ bytes. take room bytes) left) → IsAtEnd left
seen_end room None lt e = tt
seen_end room (Some l) lt e = take_none room l lt e

pub some_room : (o : Option ℕ) → is_limited o ≡ true → (room : ℕ) × (o ≡ Some room)
some_room None e = absurd cc
some_room (Some room) e = (room, refl)

pub piece_coming : (old new : PieceView) (room : ℕ) (source later : SourceView) (bytes : List ℕ) → old.room ≡ Some room → is_limited new.room ≡ is_limited old.room → Took (whole old source) (whole new later) bytes
    → unseen new.room later ≡ unseen old.room source → prepend_known old.unread source.left ≡ prepend_known bytes (prepend_known new.unread later.left)
piece_coming old new room source later bytes limit more took same =
    let r = some_room new.room (more ∙ ap is_limited limit) in
    let P : Option ℕ → Option ℕ → Type 0 = λ o n. prepend_known old.unread (seen o source).left ≡ prepend_known bytes (prepend_known new.unread (seen n later).left) in
    let Q : Option ℕ → Option ℕ → Type 0 = λ o n. unseen n later ≡ unseen o source in
    took_coming old.unread new.unread room r.0 source later bytes
    (subst (λ (o : Option ℕ). P o (Some r.0)) limit (subst (λ (n : Option ℕ). P old.room n) r.1 took))
    (subst (λ (o : Option ℕ). Q o (Some r.0)) limit (subst (λ (n : Option ℕ). Q old.room n) r.1 same))

-- what is taken of a piece that holds what a reader held is taken of what comes next to the reader
pub held_coming : (view old : ImagesView) (first last : PieceView) (room : ℕ) (source later : SourceView) (bytes : List ℕ) → view ≡ old → first.unread ≡ view.held → first.room ≡ Some room
    → is_limited last.room ≡ is_limited first.room → Took (whole first source) (whole last later) bytes → unseen last.room later ≡ unseen first.room source
    → coming old source ≡ prepend_known bytes (prepend_known last.unread later.left)
held_coming view old first last room source later bytes is held limit limited took same =
    ap (λ (v : ImagesView). prepend_known v.held source.left) (sym is)
    ∙ ap (λ (l : List ℕ). prepend_known l source.left) (sym held)
    ∙ piece_coming first last room source later bytes limit limited took same

-- a byte that a piece with nothing unread takes is one of the source
pub byte_taken : (next : Option ℕ) (old new : PieceView) (room : ℕ) (source later : SourceView) → IsTrue (is_some next) → old.room ≡ Some room → is_limited new.room ≡ is_limited old.room
    → unseen new.room later ≡ unseen old.room source → old.unread ≡ [] → new.unread ≡ [] → IfSome next (λ byte. Took (whole old source) (whole new later) (byte ∷ []))
    → (byte : ℕ) × Took source later (byte ∷ [])
byte_taken None old new room source later some limit more same first last took = absurd cc
byte_taken (Some byte) old new room source later some limit more same first last took =
    let nothing : (u : List ℕ) (o : Option (List ℕ)) → u ≡ [] → prepend_known u o ≡ o = λ u o e. ap (λ (l : List ℕ). prepend_known l o) e ∙ sym (prepend_nothing o) in (
      byte,
      sym (nothing old.unread source.left first)
          ∙ piece_coming old new room source later (byte ∷ []) limit more took same
          ∙ ap (λ (k : Option (List ℕ)). prepend_known (byte ∷ []) k) (nothing new.unread later.left last),
    )

-- where a source is seen to end though more might be read, it has answered its end
pub piece_ended : (piece : PieceView) (room : ℕ) (source : SourceView) → piece.room ≡ Some room → 0 < room → HasEnded (whole piece source) → (piece.unread ≡ []) × HasEnded source
piece_ended piece room source limit some e =
    let P : Option ℕ → Type 0 = λ r. HasEnded (with_unread piece.unread (seen r source)) in
    by_unread piece.unread (subst P limit e)
  where
    behind : (a b : Bool) → a ≡ false → (a || b) ≡ true → b ≡ true
    behind a b none e = cc

    by_unread : (unread : List ℕ) → HasEnded (with_unread unread (seen (Some room) source)) → (unread ≡ []) × HasEnded source
    by_unread (byte ∷ unread) e = absurd (not_both e.answered)
      where
        not_both : false ≡ true → ⊥
        not_both e = cc
    by_unread [] e =
        let more : (room == 0) ≡ false = search (rules, some) in
        let told = prepend_nothing (seen (Some room) source).left in
        (refl, record { nothing = seen_end room source.left some (subst IsAtEnd (sym told) e.nothing); answered = behind (room == 0) source.ended more e.answered })

-- ---- answers

pub none_map : {T E : Type 0} (r : Result (Option T) E) (P Q R : Type 0) → (P → Q → R) → IfOk r (λ o. IfNone o P) → IfOk r (λ o. IfNone o Q) → IfOk r (λ o. IfNone o R)
none_map (Ok (Some x)) P Q R f p q = tt
none_map (Ok None) P Q R f p q = f p q
none_map (Err e) P Q R f p q = tt

pub next_map : {T E : Type 0} (r : Result (Option T) E) (P Q : T → Type 0) → ((x : T) → P x → Q x) → IfOk r (λ o. IfSome o P) → IfOk r (λ o. IfSome o Q)
next_map (Ok (Some x)) P Q f p = f x p
next_map (Ok None) P Q f p = p
next_map (Err e) P Q f p = p

pub on_err_map : {T E : Type 0} (r : Result T E) (P Q : Type 0) → (P → Q) → OnErr r P → OnErr r Q
on_err_map (Ok x) P Q f p = p
on_err_map (Err e) P Q f p = f p
