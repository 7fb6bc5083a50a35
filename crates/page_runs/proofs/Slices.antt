-- Where the runs of a row lie.
use Rattle.std.proofs.Common.{◌≡◌, ◌<◌, ◌≤◌, ℕ, ◌-◌, List, [], ◌∷◌, ◌++◌, length, get_or, take, drop, sym, ap, ◌∙◌, arith}
use Rattle.std.proofs.Math.Seq.{take-length, drop-append_seam}
use Rattle.std.proofs.lemmas.List.{get_or-append_right, get_or_append_left, get_or_past, length-append, length-drop, drop-append-le, take-append-le}
use Rattle.page_runs.specs.declared.row_runs.Run.{Run}
use Rattle.page_runs.specs.Packed.{runs_between}

-- the ends of the rows, and 0 before them
abbrev pub from_at : List ℕ → ℕ → ℕ
from_at ends y = get_or (0 ∷ ends) y 0

abbrev pub to_at : List ℕ → ℕ → ℕ
to_at ends y = get_or ends y 0

none_taken : (n : ℕ) (runs : List Run) → n ≡ 0 → take n runs ≡ []
none_taken n runs none = ap (λ (k : ℕ). take k runs) none

-- a row that is not there has no run
pub row_past : (runs : List Run) (ends : List ℕ) (y : ℕ) → length ends ≤ y → runs_between runs (from_at ends y) (to_at ends y) ≡ []
row_past runs ends y past = none_taken (to_at ends y - from_at ends y) (drop (from_at ends y) runs) (omega (arith, get_or_past ends y 0 past))

part_kept : (runs more : List Run) (from to : ℕ) → from ≤ to → to ≤ length runs → runs_between (runs ++ more) from to ≡ runs_between runs from to
part_kept runs more from to order within =
    ap (take (to - from)) (drop-append-le from runs more (omega (arith, order, within)))
    ∙ take-append-le (to - from) (drop from runs) more (omega (arith, length-drop from runs, order, within))

-- ---- a row more

pub from_kept : (ends : List ℕ) (end y : ℕ) → y ≤ length ends → from_at (ends ++ end ∷ []) y ≡ from_at ends y
from_kept ends end y there = get_or_append_left (0 ∷ ends) (end ∷ []) 0 y (omega (arith, there))

pub to_kept : (ends : List ℕ) (end y : ℕ) → y < length ends → to_at (ends ++ end ∷ []) y ≡ to_at ends y
to_kept ends end y there = get_or_append_left ends (end ∷ []) 0 y there

pub to_new : (ends : List ℕ) (end y : ℕ) → y ≡ length ends → to_at (ends ++ end ∷ []) y ≡ end
to_new ends end y last =
    let e : y - y ≡ 0 = omega arith in
    get_or-append_right ends (end ∷ []) y y 0 (sym last) (omega arith) ∙ ap (λ (k : ℕ). get_or (end ∷ []) k 0) e

-- the rows that were there keep their runs
pub row_kept : (runs more : List Run) (ends : List ℕ) (end y : ℕ) → y < length ends → from_at ends y ≤ to_at ends y → to_at ends y ≤ length runs
    → runs_between (runs ++ more) (from_at (ends ++ end ∷ []) y) (to_at (ends ++ end ∷ []) y) ≡ runs_between runs (from_at ends y) (to_at ends y)
row_kept runs more ends end y there order within =
    rw (from_kept ends end y (omega (arith, there)), to_kept ends end y there) (part_kept runs more (from_at ends y) (to_at ends y) order within)

-- the new row has the new runs
pub row_new : (runs more : List Run) (ends : List ℕ) (y : ℕ) → y ≡ length ends → from_at ends (length ends) ≡ length runs
    → runs_between (runs ++ more) (from_at (ends ++ length (runs ++ more) ∷ []) y) (to_at (ends ++ length (runs ++ more) ∷ []) y) ≡ more
row_new runs more ends y last begins =
    let end = length (runs ++ more) in
    let from : from_at (ends ++ end ∷ []) y ≡ length runs = from_kept ends end y (omega (arith, last)) ∙ ap (from_at ends) last ∙ begins in
    let count : end - length runs ≡ length more = omega (arith, length-append runs more) in
    rw (from, to_new ends end y last)
    (ap (λ (n : ℕ). take n (drop (length runs) (runs ++ more))) count ∙ ap (take (length more)) (drop-append_seam runs more) ∙ take-length more)
