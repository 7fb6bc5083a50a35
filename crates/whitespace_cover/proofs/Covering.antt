-- One rectangle after another.
use Rattle.std.proofs.Common.{◌≡◌, ℕ, ◌<◌, ◌≤◌, List, [], ◌∷◌, ◌++◌, length, refl, arith, sym, ◌∙◌, ⊎_elim, subst, length-append}
use Rattle.std.proofs.Math.ListN.{get_or-append}
use Rattle.std.proofs.Math.Seq.{take-append_seam, get_or-append_seam}
use Rattle.std.proofs.lemmas.List.{take-append-le}
use Rattle.std.proofs.lemmas.Bool.{cases_lt}
use Rattle.layout_geom.specs.declared.rect.Rect.{Rect}
use Rattle.layout_geom.specs.Keys.{rect_key}
use Rattle.layout_geom.specs.KeyLaws.{same_key, positive_key}
use Rattle.box_search.specs.Search.{IsGreatestKey}
use Rattle.box_search.specs.Problems.{on_numbers, of_numbers}
use Rattle.whitespace_cover.specs.Admissible.{IsAdmissible, IsFull, IsBestRect}
use Rattle.whitespace_cover.specs.Problem.{WhiteProblem, white_numbers, HasRectOfKey, IsWhiteKey}
use Rattle.whitespace_cover.specs.WhiteLaws.{same_white_problem}
use Rattle.whitespace_cover.specs.Cover.{EachIsBest}

-- the key is the answer for the problem
abbrev pub IsWhiteAnswer : WhiteProblem → ℕ → Type 0
IsWhiteAnswer problem key = IsGreatestKey (IsWhiteKey (white_numbers problem)) key

-- the key of an admissible rectangle is at most the answer
under : (problem : WhiteProblem) (key : ℕ) (r : Rect) → IsWhiteAnswer problem key → IsAdmissible problem.page problem.obstacles problem.least r → rect_key r ≤ key
under problem key r answer admissible = answer.greatest (rect_key r) (on_numbers white_numbers (HasRectOfKey (rect_key r)) problem (record { rect = r; has_key = refl; admissible = admissible }))

-- an answer above 0 is the key of an admissible rectangle
found : (problem : WhiteProblem) (key : ℕ) → IsWhiteAnswer problem key → 0 < key → HasRectOfKey key problem
found problem key answer positive = ⊎_elim (λ (none : key ≡ 0). absurd (omega (arith, none, positive))) (λ (some : IsWhiteKey (white_numbers problem) key). of_numbers white_numbers same_white_problem (HasRectOfKey key) problem some) answer.sound

-- where no rectangle has the answer for its key, none is admissible
pub full_at : (problem : WhiteProblem) (key : ℕ) → IsWhiteAnswer problem key → ((r : Rect) → rect_key r ≡ key → ⊥) → IsFull problem.page problem.obstacles problem.least
full_at problem key answer none r admissible =
    let has : HasRectOfKey key problem = found problem key answer (omega (arith, under problem key r answer admissible, positive_key r)) in
    none has.rect has.has_key

-- the rectangle whose key is the answer is the best
pub best_at : (problem : WhiteProblem) (key : ℕ) (r : Rect) → IsWhiteAnswer problem key → rect_key r ≡ key → IsBestRect problem.page problem.obstacles problem.least r
best_at problem key r answer is =
    let has : HasRectOfKey key problem = found problem key answer (omega (arith, is, positive_key r)) in
    let one : has.rect ≡ r = same_key has.rect r (has.has_key ∙ sym is) in
    record {
      admissible = subst (λ (q : Rect). IsAdmissible problem.page problem.obstacles problem.least q) one has.admissible;
      greatest = λ other admissible. omega (arith, under problem key other answer admissible, is);
    }

-- one more
pub each_more : (page : Rect) (boxes rects : List Rect) (least : ℕ) (r : Rect) → EachIsBest page boxes least rects → IsBestRect page (boxes ++ rects) least r → EachIsBest page boxes least (rects ++ r ∷ [])
each_more page boxes rects least r each best = λ i d within.
    ⊎_elim
    (λ before. rw (take-append-le i rects (r ∷ []) (omega arith), get_or-append rects (r ∷ []) d i before) (each i d before))
    (λ last.
    let here : i ≡ length rects = omega (arith, within, length-append rects (r ∷ [])) in
    rw (here, take-append_seam rects (r ∷ []), get_or-append_seam rects r [] d) best)
    (cases_lt i (length rects))

-- the answer for a problem is the answer for its parts
pub asked : (problem : WhiteProblem) (page : Rect) (obstacles : List Rect) (least : ℕ) (key : ℕ) → problem.page ≡ page → problem.obstacles ≡ obstacles → problem.least ≡ least → IsWhiteAnswer problem key → IsWhiteAnswer (record { page = page; obstacles = obstacles; least = least }) key
asked problem page obstacles least key p o l answer =
    subst (λ (n : ℕ). IsWhiteAnswer (record { page = page; obstacles = obstacles; least = n }) key) l
    (subst (λ (xs : List Rect). IsWhiteAnswer (record { page = page; obstacles = xs; least = problem.least }) key) o
    (subst (λ (r : Rect). IsWhiteAnswer (record { page = r; obstacles = problem.obstacles; least = problem.least }) key) p answer))
