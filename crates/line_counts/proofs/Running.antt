-- The counts of a part as they are summed, segment by segment.
use Rattle.std.proofs.Common.{◌≡◌, ℕ, ◌+◌, ◌*◌, ◌<◌, ◌≤◌, pos, ◌+ℤ◌, List, length, get_or, ◌⊎◌, inl, inr, ⊎_elim, arith, ap, refl}
use Rattle.std.proofs.Math.ListN.{replicate}
use Rattle.line_counts.specs.Fits.{column_of_segment}
use Rattle.line_counts.specs.Tops.{ArePartCounts, HasColumn, IsCutBefore, of_column, count_behind}
use Rattle.line_counts.specs.declared.stretch.Stretch.{Stretch}
use Rattle.line_counts.specs.Table.{LivingPage}
use Rattle.line_counts.proofs.Counting.{zero_at}
use Rattle.line_counts.proofs.Summing.{of_none}
use Rattle.line_counts.proofs.Bounding.{IsCovered, all_passed, covered_more, next_column, of_empty, columns_grow}

-- the column of a segment for the line of an offset of a stretch
abbrev pub column_at : LivingPage → Stretch → ℕ → ℕ → ℕ
column_at page stretch more segment = column_of_segment stretch.slope (stretch.from +ℤ pos more) page.gutters segment

-- how many places weigh something for a stretch
abbrev pub reach_of : Stretch → ℕ
reach_of stretch = stretch.offsets + stretch.deepest + 2 * 4

-- the sums are small, and have what the column of the segment has in those before it
pub record AreRunning (page : LivingPage) (stretch : Stretch) (segment : ℕ) (sums : List ℕ) : Type 0 where
  pub long : length sums ≡ 136
  pub small : (k : ℕ) → get_or sums k 0 ≤ segment * 65535
  pub enough : (more place : ℕ) → more < stretch.offsets → place < reach_of stretch
      → of_column (λ s. column_at page stretch more s) (λ s. count_behind page stretch place s) (column_at page stretch more segment) segment ≤ get_or sums place 0

module _ (page : LivingPage) (stretch : Stretch) (segment : ℕ) where
  -- they begin anew with a segment with which each line begins a column
  pub begin_anew : IsCutBefore page.gutters stretch segment → AreRunning page stretch segment (replicate 136 0)
  begin_anew cut = record {
    long = refl;
    small = λ k. omega (arith, zero_at 136 k);
    enough = λ more place less _.
        omega (arith, of_empty (λ s. column_at page stretch more s) (λ s. count_behind page stretch place s) (column_at page stretch more segment) segment (λ s before. cut more s less before));
  }

  -- there is room for one segment more
  pub room_for : (sums given : List ℕ) → (sums ≡ replicate 136 0) ⊎ ((k : ℕ) → get_or sums k 0 ≤ segment * 65535) → given ≡ sums → segment ≤ 72 → (k : ℕ) → get_or given k 0 ≤ 4784055
  room_for sums given small same few k = ⊎_elim
      (λ anew. omega (arith, zero_at 136 k, ap (λ (xs : List ℕ). get_or xs k 0) anew, ap (λ (xs : List ℕ). get_or xs k 0) same))
      (λ going_on. omega (arith, few, going_on k, ap (λ (xs : List ℕ). get_or xs k 0) same))
      small

  -- which is added
  pub run_on : (sums given new_sums : List ℕ) → AreRunning page stretch segment sums → given ≡ sums → length new_sums ≡ 136
      → ((place : ℕ) → place < reach_of stretch → get_or new_sums place 0 ≡ get_or given place 0 + count_behind page stretch place segment)
      → ((place : ℕ) → get_or new_sums place 0 ≤ get_or given place 0 + 65535) → AreRunning page stretch (segment + 1) new_sums
  run_on sums given new_sums are same long added few =
      let given_is : (k : ℕ) → get_or given k 0 ≡ get_or sums k 0 = λ k. ap (λ (xs : List ℕ). get_or xs k 0) same in
      record {
        long = long;
        small = λ k. omega (arith, given_is k, few k, are.small k);
        enough = λ more place less within.
            next_column (λ s. column_at page stretch more s) (λ s. count_behind page stretch place s) (λ a b order. columns_grow stretch.slope (stretch.from +ℤ pos more) page.gutters a b order)
            segment (get_or sums place 0) (get_or new_sums place 0)
            (omega (arith, added place within, given_is place))
            (are.enough more place less within);
      }

-- nothing is summed before the first segment
pub none_yet : (page : LivingPage) (stretch : Stretch) → AreRunning page stretch 0 (replicate 136 0)
none_yet page stretch = begin_anew page stretch 0 (λ more before less early. absurd (omega (arith, early)))

-- whatever the line and the column, a part that is done with has what the first segments add to it, or the sums have it
abbrev pub AllCovered : LivingPage → Stretch → ℕ → (List ℕ → Type 0) → List ℕ → Type 0
AllCovered page stretch segment done sums = (more k : ℕ) → more < stretch.offsets
    → IsCovered (λ s. column_at page stretch more s) (λ place s. count_behind page stretch place s) (reach_of stretch) k segment done sums

-- the sums before a segment, of which some parts are done with
pub record AreSummed (page : LivingPage) (stretch : Stretch) (segment : ℕ) (done : List ℕ → Type 0) (sums : List ℕ) : Type 0 where
  pub running : AreRunning page stretch segment sums
  pub covered : AllCovered page stretch segment done sums

module _ (page : LivingPage) (stretch : Stretch) where
  pub sums_begin : (done : List ℕ → Type 0) → AreSummed page stretch 0 done (replicate 136 0)
  sums_begin done = record {
    running = none_yet page stretch;
    covered = λ more k less. inr (λ place within. omega (arith, of_none (λ s. column_at page stretch more s) (λ s. count_behind page stretch place s) k));
  }

  -- they are small
  pub are_counts : (segment : ℕ) (sums : List ℕ) → AreRunning page stretch segment sums → segment ≤ 73 → ArePartCounts sums
  are_counts segment sums are few = record { long = are.long; small = λ k. omega (arith, few, are.small k) }

  -- a part ends, and the next one begins
  pub next_part : (segment : ℕ) (was done : List ℕ → Type 0) (sums : List ℕ) → IsCutBefore page.gutters stretch segment
      → ((part : List ℕ) → was part → done part) → done sums → AreSummed page stretch segment was sums → AreSummed page stretch segment done (replicate 136 0)
  next_part segment was done sums cut still ended are = record {
    running = begin_anew page stretch segment cut;
    covered = λ more k less. inl (all_passed (λ s. column_at page stretch more s) (λ place s. count_behind page stretch place s) (reach_of stretch) k segment was done sums still ended (are.covered more k less));
  }

  -- a segment more
  pub next_segment : (segment : ℕ) (done : List ℕ → Type 0) (sums given new_sums : List ℕ) → given ≡ sums → length new_sums ≡ 136
      → ((place : ℕ) → place < reach_of stretch → get_or new_sums place 0 ≡ get_or given place 0 + count_behind page stretch place segment)
      → ((place : ℕ) → get_or new_sums place 0 ≤ get_or given place 0 + 65535)
      → AreSummed page stretch segment done sums → AreSummed page stretch (segment + 1) done new_sums
  next_segment segment done sums given new_sums same long added few are = record {
    running = run_on page stretch segment sums given new_sums are.running same long added few;
    covered = λ more k less.
        covered_more (λ s. column_at page stretch more s) (λ place s. count_behind page stretch place s) (reach_of stretch) k segment done sums new_sums
        (λ place within. omega (arith, added place within, ap (λ (xs : List ℕ). get_or xs place 0) same))
        (λ place within. are.running.enough more place less within)
        (are.covered more k less);
  }

  -- all segments: some part that is done with has no less than a column of a line, whatever the line and the column
  pub all_summed : (segment : ℕ) (was done : List ℕ → Type 0) (sums : List ℕ) → segment ≡ length page.gutters + 1
      → ((part : List ℕ) → was part → done part) → done sums → AreSummed page stretch segment was sums
      → (more k : ℕ) → more < stretch.offsets → (part : List ℕ) × HasColumn page stretch more k part × done part
  all_summed segment was done sums last still ended are more k less =
      let held = all_passed (λ s. column_at page stretch more s) (λ place s. count_behind page stretch place s) (reach_of stretch) k segment was done sums still ended (are.covered more k less) in (
        held.part,
        (λ place within. omega (arith, held.enough place within, ap (λ (n : ℕ). of_column (λ s. column_at page stretch more s) (λ s. count_behind page stretch place s) k n) last)),
        held.low,
      )
