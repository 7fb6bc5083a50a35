-- An input has at most one fault, and none where it spells a page.
use Rattle.std.proofs.Common.{◌≡◌, ℕ, ◌<◌, ◌≤◌, ◌⊎◌, List, [], ◌∷◌, ◌++◌, length, refl, sym, ap, subst, ◌∙◌, inl, inr, arith}
use Rattle.std.proofs.lemmas.List.{append-nil, length-append}
use Rattle.pbm_reader.specs.declared.fault.PageFault.{PageFault}
use Rattle.pbm_reader.specs.declared.fault.PageFault.TheVariants as faults
use Rattle.packed_rows.specs.Page.{Page}
use Rattle.pbm_reader.specs.Spelling.{Spells, IsPage}
use Rattle.pbm_reader.specs.Fault.{HasMagic, IsTruncated, IsInputTooLong, HasFaultWithin, HasFault, DecidesNothing}
use Rattle.pbm_reader.proofs.FaultVerdicts.{fault_verdict, page_verdict}
use Rattle.pbm_reader.proofs.Gaps.{some_is, none_some}
use Rattle.pbm_reader.proofs.Settled.{settled, shown}

-- ---- within the limit

pub one_within : (input : List ℕ) (f g : PageFault) → HasFaultWithin input f → HasFaultWithin input g → f ≡ g
one_within input f g x y = some_is f g (sym (fault_verdict input f x) ∙ fault_verdict input g y)

pub page_within : (input : List ℕ) (page : Page) (fault : PageFault) → Spells input page → HasFaultWithin input fault → ⊥
page_within input page fault p f = none_some fault (sym (page_verdict input page p) ∙ fault_verdict input fault f)

-- bytes that spell a page decide no fault within the limit
page_open : (taken : List ℕ) (page : Page) (fault : PageFault) → Spells taken page → ((rest : List ℕ) → HasFaultWithin (taken ++ rest) fault) → ⊥
page_open taken page fault p decides = page_within taken page fault p (subst (λ (l : List ℕ). HasFaultWithin l fault) (append-nil taken) (decides []))

-- bytes that end too early decide none either
cut_open : (taken : List ℕ) (at : ℕ) (fault : PageFault) → IsTruncated taken at → ((rest : List ℕ) → HasFaultWithin (taken ++ rest) fault) → ⊥
cut_open taken at fault t decides =
    let now = subst (λ (l : List ℕ). HasFaultWithin l fault) (append-nil taken) (decides []) in
    let e : fault ≡ faults.Truncated at = one_within taken fault (faults.Truncated at) now t in
    let later = subst (λ (f : PageFault). HasFaultWithin (taken ++ 0 ∷ []) f) e (decides (0 ∷ [])) in
    omega (arith, t.end, later.end, length-append taken (0 ∷ []))

-- ---- whatever the length is

-- a fault within the limit, or the input's length
within_or_long : (input : List ℕ) (fault : PageFault) → HasFault input fault → HasFaultWithin input fault ⊎ ((fault ≡ faults.InputTooLong) × IsInputTooLong input)
within_or_long input (faults.Magic at) f = inl f
within_or_long input (faults.Header at) f = inl f
within_or_long input faults.HeaderTooLong f = inl f
within_or_long input faults.ZeroSize f = inl f
within_or_long input (faults.TooLarge width height) f = inl f
within_or_long input (faults.Truncated at) f = inl f
within_or_long input (faults.Pixel at) f = inl f
within_or_long input (faults.Trailing at) f = inl f
within_or_long input faults.InputTooLong f = inr (refl, f)
within_or_long input faults.TooManyImages f = inl f
within_or_long input faults.ReadFault f = inl f
within_or_long input faults.Memory f = inl f

pub has_fault : (input : List ℕ) (fault : PageFault) → HasFaultWithin input fault → HasFault input fault
has_fault input (faults.Magic at) f = f
has_fault input (faults.Header at) f = f
has_fault input faults.HeaderTooLong f = f
has_fault input faults.ZeroSize f = f
has_fault input (faults.TooLarge width height) f = f
has_fault input (faults.Truncated at) f = f
has_fault input (faults.Pixel at) f = f
has_fault input (faults.Trailing at) f = f
has_fault input faults.InputTooLong f = absurd f
has_fault input faults.TooManyImages f = f
has_fault input faults.ReadFault f = f
has_fault input faults.Memory f = f

cut_len : (input : List ℕ) (fault : PageFault) (at : ℕ) → HasFaultWithin input fault → fault ≡ faults.Truncated at → length input ≤ 268435456
cut_len input fault at f e =
    let t = subst (λ (k : PageFault). HasFaultWithin input k) e f in
    let low = t.short in
    omega (arith, t.end, low)

not_long : (input : List ℕ) (fault : PageFault) → HasFaultWithin input fault → IsInputTooLong input → ⊥
not_long input fault f l =
    let whole = l.whole in
    let P : List ℕ → Type 0 = λ k. HasFaultWithin k fault in
    let uncut : (at : ℕ) → fault ≡ faults.Truncated at → ⊥ = λ at e. let short = cut_len input fault at f e in omega (arith, short, ap length whole, length-append l.front l.behind, l.len, l.more) in
    l.undecided fault (λ rest. settled l.front l.behind rest fault (inl l.len) (shown l.front input fault (omega (arith, l.len)) uncut f) (subst P whole f))

pub one_fault : (input : List ℕ) (f g : PageFault) → HasFault input f → HasFault input g → f ≡ g
one_fault input f g x y = cases (within_or_long input f x) (within_or_long input g y)
  where
    cases : HasFaultWithin input f ⊎ ((f ≡ faults.InputTooLong) × IsInputTooLong input) → HasFaultWithin input g ⊎ ((g ≡ faults.InputTooLong) × IsInputTooLong input) → f ≡ g
    cases (inl a) (inl b) = one_within input f g a b
    cases (inl a) (inr b) = absurd (not_long input f a b.1)
    cases (inr a) (inl b) = absurd (not_long input g b a.1)
    cases (inr a) (inr b) = a.0 ∙ sym b.0

pub page_has_no_fault : (input : List ℕ) (page : Page) (fault : PageFault) → Spells input page → HasFault input fault → ⊥
page_has_no_fault input page fault p f =
    elim (within_or_long input fault f) [
      | inl a ↦ page_within input page fault p a
      | inr b ↦
          let short = p.short in
          omega (arith, short, ap length b.1.whole, length-append b.1.front b.1.behind, b.1.len, b.1.more)
    ]

-- ---- what decides no fault

pub page_undecided : (taken : List ℕ) → IsPage taken → DecidesNothing taken
page_undecided taken p fault decides = page_has_no_fault taken p.0 fault p.1 (subst (λ (l : List ℕ). HasFault l fault) (append-nil taken) (decides []))

pub cut_undecided : (taken : List ℕ) (at : ℕ) → IsTruncated taken at → DecidesNothing taken
cut_undecided taken at t fault decides =
    let now = subst (λ (l : List ℕ). HasFault l fault) (append-nil taken) (decides []) in
    let e : fault ≡ faults.Truncated at = one_fault taken fault (faults.Truncated at) now t in
    let later = subst (λ (f : PageFault). HasFault (taken ++ 0 ∷ []) f) e (decides (0 ∷ [])) in
    omega (arith, t.end, later.end, length-append taken (0 ∷ []))

pub nothing_undecided : DecidesNothing []
nothing_undecided fault decides =
    let now = decides [] in
    let first : HasFault [] (faults.Magic 0) = inl (refl, λ b. not_nil 80 b.0 b.1) in
    let e : fault ≡ faults.Magic 0 = one_fault [] fault (faults.Magic 0) now first in
    let later = subst (λ (f : PageFault). HasFault (80 ∷ []) f) e (decides (80 ∷ [])) in
    elim later [
      | inl f ↦ f.1 ([], refl)
      | inr f ↦ omega (arith, f.0)
    ]
  where
    not_nil : (x : ℕ) (xs : List ℕ) → [] ≡ x ∷ xs → ⊥
    not_nil x xs e = cc

-- the letter of a name alone is no name
pub letter_fault : HasFaultWithin (80 ∷ []) (faults.Magic 1)
letter_fault = inr (refl, ([], refl), none)
  where
    shorter : (x y : ℕ) (xs : List ℕ) → 80 ∷ [] ≡ x ∷ y ∷ xs → ⊥
    shorter x y xs e = omega (arith, ap length e)

    none : HasMagic (80 ∷ []) → ⊥
    none (inl m) = shorter 80 49 m.0 m.1
    none (inr m) = shorter 80 52 m.0 m.1

pub letter_undecided : DecidesNothing (80 ∷ [])
letter_undecided fault decides =
    let now = decides [] in
    let e : fault ≡ faults.Magic 1 = one_fault (80 ∷ []) fault (faults.Magic 1) now letter_fault in
    let later = subst (λ (f : PageFault). HasFault (80 ∷ 52 ∷ []) f) e (decides (52 ∷ [])) in
    elim later [
      | inl f ↦ omega (arith, f.0)
      | inr f ↦ f.2 (inr ([], refl))
    ]

-- an input that goes on behind 268,435,456 bytes that spell a page or end too early
pub long_fault : (front behind : List ℕ) → length front ≡ 268435456 → 0 < length behind → IsPage front ⊎ ((at : ℕ) × IsTruncated front at) → IsInputTooLong (front ++ behind)
long_fault front behind len more part = record { front = front; behind = behind; whole = refl; len = len; more = more; undecided = λ fault decides. cases fault decides part }
  where
    cases : (fault : PageFault) → ((rest : List ℕ) → HasFaultWithin (front ++ rest) fault) → IsPage front ⊎ ((at : ℕ) × IsTruncated front at) → ⊥
    cases fault decides (inl p) = page_open front p.0 fault p.1 decides
    cases fault decides (inr t) = cut_open front t.0 fault t.1 decides
