-- Bytes that are taken one after the other.
use Rattle.std.proofs.Common.{◌≡◌, ℕ, ◌+◌, ◌<◌, List, [], ◌∷◌, ◌++◌, length, take, set, Option, Some, None, Result, Ok, Err, refl, sym, ap, ◌∙◌, append_assoc, subst}
use Rattle.std.specs.Prelude.{IfSome, IfNone, IfOk, IfErr}
use Rattle.std.proofs.lemmas.List.{append-nil, take_more_set}
use Rattle.std.specs.Io.KnownBytes.{prepend_known, IsAtEnd}
use Rattle.layout_outside.specs.Views.{SourceView}
use Rattle.layout_outside.specs.Taken.{Took, TookAll}

pub prepend_twice : (a b : List ℕ) (known : Option (List ℕ)) → prepend_known (a ++ b) known ≡ prepend_known a (prepend_known b known)
prepend_twice a b None = refl
prepend_twice a b (Some xs) = ap (λ (l : List ℕ). Some l) (append_assoc a b xs)

pub prepend_nothing : (known : Option (List ℕ)) → known ≡ prepend_known [] known
prepend_nothing None = refl
prepend_nothing (Some xs) = refl

pub took_more : (old middle new : SourceView) (a b : List ℕ) → Took old middle a → Took middle new b → Took old new (a ++ b)
took_more old middle new a b p q = p ∙ ap (λ (k : Option (List ℕ)). prepend_known a k) q ∙ sym (prepend_twice a b new.left)

-- a read that failed took nothing
pub took_no_more : (old middle new : SourceView) (a : List ℕ) → Took old middle a → Took middle new [] → Took old new a
took_no_more old middle new a p q = p ∙ ap (λ (k : Option (List ℕ)). prepend_known a k) (q ∙ sym (prepend_nothing new.left))

-- one more byte of a buffer
pub took_byte : (old middle new : SourceView) (row : List ℕ) (i byte : ℕ) → i < length row
    → Took old middle (take i row) → Took middle new (byte ∷ []) → Took old new (take (i + 1) (set row i byte))
took_byte old middle new row i byte within p q =
    took_more old middle new (take i row) (byte ∷ []) p q
    ∙ ap (λ (l : List ℕ). prepend_known l new.left) (sym (take_more_set row i byte within))

pub took_all : (old middle new : SourceView) (a b : List ℕ) → Took old middle a → TookAll middle new b → TookAll old new (a ++ b)
took_all old middle new a b p q = record { took = took_more old middle new a b p q.took; end = q.end }

subst_known : (P : List ℕ → Type 0) (a b : Option (List ℕ)) → a ≡ b → IfSome b P → IfSome a P
subst_known P a b e h = subst (λ (k : Option (List ℕ)). IfSome k P) (sym e) h

from_known : (P : List ℕ → Type 0) (old new : Option (List ℕ)) (taken : List ℕ) → old ≡ prepend_known taken new → ((rest : List ℕ) → P (taken ++ rest)) → IfSome old P
from_known P old None taken took holds = subst_known P old None took tt
from_known P old (Some ys) taken took holds = subst_known P old (Some (taken ++ ys)) took (holds ys)

-- what holds of the bytes taken, whatever follows them, holds of what was left
pub of_all : (P : List ℕ → Type 0) (old new : SourceView) (taken : List ℕ) → Took old new taken → ((rest : List ℕ) → P (taken ++ rest)) → IfSome old.left P
of_all P old new taken took holds = from_known P old.left new.left taken took holds

at_end : (P : List ℕ → Type 0) (old new : Option (List ℕ)) (taken : List ℕ) → old ≡ prepend_known taken new → IsAtEnd new → P taken → IfSome old P
at_end P old None taken took end holds = subst_known P old None took tt
at_end P old (Some ys) taken took end holds =
    subst_known P old (Some (taken ++ ys)) took (subst P (sym (ap (λ (l : List ℕ). taken ++ l) end ∙ append-nil taken)) holds)

-- what holds of all bytes, taken to the end, holds of what was left
pub of_end : (P : List ℕ → Type 0) (old new : SourceView) (taken : List ℕ) → TookAll old new taken → P taken → IfSome old.left P
of_end P old new taken took holds = at_end P old.left new.left taken took.took took.end.nothing holds

-- ---- one byte or none

pub some_of : {T : Type 0} (o : Option T) (x : T) (P : T → Type 0) → o ≡ Some x → IfSome o P → P x
some_of {T} o x P e h = let Q : Option T → Type 0 = λ k. IfSome k P in subst Q e h

pub none_of : {T : Type 0} (o : Option T) (P : Type 0) → o ≡ None → IfNone o P → P
none_of {T} o P e h = let Q : Option T → Type 0 = λ k. IfNone k P in subst Q e h

-- ---- what an answer says

pub ok_map : {T E : Type 0} (r : Result T E) (P Q : T → Type 0) → ((x : T) → P x → Q x) → IfOk r P → IfOk r Q
ok_map (Ok x) P Q f p = f x p
ok_map (Err e) P Q f p = p

pub err_map : {T E : Type 0} (r : Result T E) (P Q : E → Type 0) → ((e : E) → P e → Q e) → IfErr r P → IfErr r Q
err_map (Ok x) P Q f p = p
err_map (Err e) P Q f p = f e p

pub known_map : (o : Option (List ℕ)) (P Q : List ℕ → Type 0) → ((x : List ℕ) → P x → Q x) → IfSome o P → IfSome o Q
known_map None P Q f p = tt
known_map (Some x) P Q f p = f x p
