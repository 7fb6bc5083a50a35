-- A page has too many kept components exactly where it does not have few.
use Rattle.std.proofs.Common.{◌≡◌, ℕ, List, ◌++◌, length, Option, Some, None, sym, ap, subst, ◌∙◌, arith}
use Rattle.std.proofs.lemmas.List.{append-nil}
use Rattle.std.proofs.lemmas.List.Sorted.{length_permutation}
use Rattle.std.specs.Io.KnownBytes.{prepend_known, IsAtEnd}
use Rattle.layout_outside.specs.Views.{SourceView}
use Rattle.pbm_reader.specs.Page.{Page}
use Rattle.pbm_reader.specs.Spelling.{Spells}
use Rattle.pbm_reader.specs.Images.{SpellsPages}
use Rattle.components.specs.declared.kept.Kept.{Kept}
use Rattle.components.specs.Kept.{IsKeptCount, IsKeptOf, KeptIsUnique}
use Rattle.layout_core.specs.Layouts.{HasFewComponents, HasTooManyComponents}
use Rattle.layout_core.specs.Run.{ReadsWhole}

-- a list of the kept boxes counts the kept components
list_counts : (page : Page) (f : HasFewComponents page) → IsKeptCount page (length f.boxes)
list_counts page f = record { found = f.are_kept.found; is_kept = f.are_kept.is_kept; counted = sym (length_permutation f.are_kept.found f.boxes f.are_kept.rearranged) }

pub few_components : KeptIsUnique → (page : Page) (count : ℕ) → HasFewComponents page → HasTooManyComponents page count → ⊥
few_components unique page count f m =
    let same : count ≡ length f.boxes = (unique page).one_count count (length f.boxes) m.counted (list_counts page f) in
    omega (arith, same, f.few, m.many)

-- a page has one number of components that are too many
pub one_count : KeptIsUnique → (page : Page) (m n : ℕ) → HasTooManyComponents page m → HasTooManyComponents page n → m ≡ n
one_count unique page m n many many_too = (unique page).one_count m n many.counted many_too.counted

-- a page with kept components has few
pub few_kept : (page : Page) (kept : Kept) → IsKeptOf page kept → HasFewComponents page
few_kept page kept is = record { boxes = kept.boxes; are_kept = is.boxes; few = is.few }

-- what was read to its end is what was left at the start
pub whole_is : (before after : SourceView) (input : List ℕ) (pages : List Page) → before.left ≡ Some input → ReadsWhole before after pages → SpellsPages input pages
whole_is before after input pages told r = whole before.left after.left r.input told r.took.took r.took.end.nothing r.spells
  where
    never : (o : Option (List ℕ)) (l : List ℕ) → o ≡ Some l → o ≡ None → ⊥
    never o l p q = cc

    some_is : (a b : List ℕ) → (let o : Option (List ℕ) = Some a in o) ≡ Some b → a ≡ b
    some_is a b e = cc

    whole : (old new : Option (List ℕ)) (taken : List ℕ) → old ≡ Some input → old ≡ prepend_known taken new → IsAtEnd new → SpellsPages taken pages → SpellsPages input pages
    whole old None taken told took end spells = absurd (never old input told took)
    whole old (Some ys) taken told took end spells =
        let all : taken ++ ys ≡ taken = ap (λ (l : List ℕ). taken ++ l) end ∙ append-nil taken in
        let P : List ℕ → Type 0 = λ l. SpellsPages l pages in
        subst P (some_is taken input (ap (λ (l : List ℕ). Some l) (sym all) ∙ sym took ∙ told)) spells

-- an input spells one page
abbrev pub SpellsOne : Type 0
SpellsOne = (input : List ℕ) (p q : Page) → Spells input p → Spells input q → p ≡ q
