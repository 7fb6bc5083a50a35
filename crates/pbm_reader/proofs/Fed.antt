-- What a feed that began with nothing unread sees of its source.
use Rattle.std.proofs.Common.{◌≡◌, ℕ, List, [], Option, Result, Ok, Err, refl, sym, ap, subst, ◌∙◌}
use Rattle.std.specs.Prelude.{IfSome, IfErr}
use Rattle.std.specs.Io.KnownBytes.{prepend_known}
use Rattle.pbm_reader.specs.declared.fault.Size.{Size}
use Rattle.pbm_reader.specs.declared.fault.PageFault.{PageFault}
use Rattle.pbm_reader.specs.declared.fault.PageFault.TheVariants as faults
use Rattle.pbm_reader.specs.Fault.{HasFault}
use Rattle.pbm_reader.specs.Reading.{Refuses}
use Rattle.layout_outside.specs.Causes.{Rose}
use Rattle.layout_outside.specs.Views.{SourceView}
use Rattle.pbm_reader.specs.Feed.{with_unread}
use Rattle.pbm_reader.proofs.Taken.{prepend_nothing}

pub left_first : (old first : SourceView) → first ≡ with_unread [] old → first.left ≡ old.left
left_first old first begins = ap (λ (v : SourceView). v.left) begins ∙ sym (prepend_nothing old.left)

-- the feed saw no read fail where none failed
pub calm_fed : (old first last : SourceView) (now : ℕ) → first ≡ with_unread [] old → last.faults ≡ now → (Rose old.faults now → ⊥) → Rose first.faults last.faults → ⊥
calm_fed old first last now begins ends calm rose =
    let start : first.faults ≡ old.faults = ap (λ (v : SourceView). v.faults) begins in
    calm (subst (λ (n : ℕ). Rose n now) start (subst (λ (n : ℕ). Rose first.faults n) ends rose))

same_input : (old first : SourceView) (fault : PageFault) → first.left ≡ old.left → IfSome first.left (λ input. HasFault input fault) → IfSome old.left (λ input. HasFault input fault)
same_input old first fault begins f =
    let P : Option (List ℕ) → Type 0 = λ k. IfSome k (λ input. HasFault input fault) in
    subst P begins f

-- why a page was refused is said of the source itself
pub refuses_from : (old new first last : SourceView) (unread : List ℕ) (result : Result Size PageFault) → first.left ≡ old.left → last.left ≡ prepend_known unread new.left
    → (result ≡ Err faults.ReadFault → unread ≡ []) → IfErr result (Refuses first last) → IfErr result (Refuses old new)
refuses_from old new first last unread (Ok size) begins ends drained f = tt
refuses_from old new first last unread (Err faults.Memory) begins ends drained f = tt
refuses_from old new first last unread (Err faults.ReadFault) begins ends drained f =
    let none : last.left ≡ new.left = ends ∙ ap (λ (l : List ℕ). prepend_known l new.left) (drained refl) ∙ sym (prepend_nothing new.left) in
    (f.0, sym begins ∙ f.1 ∙ ap (λ (k : Option (List ℕ)). prepend_known f.0 k) none, f.2)
refuses_from old new first last unread (Err (faults.Magic at)) begins ends drained f = same_input old first (faults.Magic at) begins f
refuses_from old new first last unread (Err (faults.Header at)) begins ends drained f = same_input old first (faults.Header at) begins f
refuses_from old new first last unread (Err faults.HeaderTooLong) begins ends drained f = same_input old first faults.HeaderTooLong begins f
refuses_from old new first last unread (Err faults.ZeroSize) begins ends drained f = same_input old first faults.ZeroSize begins f
refuses_from old new first last unread (Err faults.TooManyImages) begins ends drained f = same_input old first faults.TooManyImages begins f
refuses_from old new first last unread (Err (faults.TooLarge wide high)) begins ends drained f = same_input old first (faults.TooLarge wide high) begins f
refuses_from old new first last unread (Err (faults.Truncated at)) begins ends drained f = same_input old first (faults.Truncated at) begins f
refuses_from old new first last unread (Err (faults.Pixel at)) begins ends drained f = same_input old first (faults.Pixel at) begins f
refuses_from old new first last unread (Err (faults.Trailing at)) begins ends drained f = same_input old first (faults.Trailing at) begins f
refuses_from old new first last unread (Err faults.InputTooLong) begins ends drained f = same_input old first faults.InputTooLong begins f
