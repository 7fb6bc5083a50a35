use Rattle.std.proofs.Common.{◌≡◌, ◌<◌, ◌++◌, ◌+◌, ℕ, List, length, take, drop, All, length-append, arith, sym, subst}
use Rattle.std.specs.List.Sorted.{IsPermutation}
use Rattle.std.proofs.lemmas.List.{get_or_append_left, get_or-append-add, take_at}
use Rattle.std.proofs.lemmas.List.Sorted.{All-permutation, length_permutation}
use Rattle.line_counts.specs.Table.{LivingPage, AreCounts}
use Rattle.line_counts.proofs.Counting.{counts_shuffled}
use Rattle.line_counts.proofs.counts.Counts.take.Goals as goal

-- the members and the others are those that were alive
divided : (fields page : LivingPage) (both : List ℕ) → fields ≡ page → IsPermutation page.alive both → IsPermutation fields.alive both
divided fields page both same is = subst (λ (p : LivingPage). IsPermutation p.alive both) (sym same) is

pub lower_all-requires-clause-within : goal.lower_all-requires-clause-within
lower_all-requires-clause-within c =
    let boxes = c.self.inside.boxes in
    let all : All (λ (p : ℕ). p < length boxes) (c.args.members.now ++ c.args.others) =
    All-permutation (λ (p : ℕ). p < length boxes) c.self.inside.alive (c.args.members.now ++ c.args.others) (divided _ c.args.self.now _ c.self.view_is c.requires.divided) c.self.invariant.countable.positions in
    λ k d within. subst (λ (n : ℕ). n < length boxes) (get_or_append_left c.args.members.now c.args.others d k within) (all k d (omega (arith, within, length-append c.args.members.now c.args.others)))

pub lower_all-requires-clause-all : goal.lower_all-requires-clause-all
lower_all-requires-clause-all c = (
  c.args.others,
  subst (λ (cells : List ℕ). AreCounts c.self.inside.boxes c.self.inside.gutters c.self.inside.width (c.args.members.now ++ c.args.others) cells) (sym c.as_mut_slice.ensures.value)
      (counts_shuffled c.self.inside.boxes c.self.inside.gutters c.self.inside.width c.self.inside.alive (c.args.members.now ++ c.args.others) c.self.inside.cells.items
      (divided _ c.args.self.now _ c.self.view_is c.requires.divided) c.self.invariant.counts),
)

pub invariant_of-self : goal.invariant_of-self
invariant_of-self c =
    let both : List ℕ = c.args.members.now ++ c.args.others in
    let boxes = c.self.inside.boxes in
    let alive : IsPermutation c.self.inside.alive both = divided _ c.args.self.now _ c.self.view_is c.requires.divided in
    let all : All (λ (p : ℕ). p < length boxes) both = All-permutation (λ (p : ℕ). p < length boxes) c.self.inside.alive both alive c.self.invariant.countable.positions in
    let counted : AreCounts boxes c.self.inside.gutters c.self.inside.width c.args.others c.lower_all.new.cells =
    c.lower_all.ensures c.args.others
    (subst (λ (cells : List ℕ). AreCounts boxes c.self.inside.gutters c.self.inside.width both cells) (sym c.as_mut_slice.ensures.value)
    (counts_shuffled boxes c.self.inside.gutters c.self.inside.width c.self.inside.alive both c.self.inside.cells.items alive c.self.invariant.counts)) in
    let written : take c.self.inside.cells.len (c.lower_all.new.cells ++ drop (length c.lower_all.new.cells) c.self.inside.cells.items) ≡ c.lower_all.new.cells =
    take_at c.lower_all.new.cells (drop (length c.lower_all.new.cells) c.self.inside.cells.items) c.self.inside.cells.len
    (omega (arith, counted.long, c.self.invariant.counts.long, c.self.inside.cells.ok.0)) in
    record {
      countable = record {
        high = c.self.invariant.countable.high;
        few_boxes = c.self.invariant.countable.few_boxes;
        few_alive = omega (arith, c.self.invariant.countable.few_alive, length_permutation c.self.inside.alive both alive, length-append c.args.members.now c.args.others);
        few_gutters = c.self.invariant.countable.few_gutters;
        positions = λ k d within.
            subst (λ (n : ℕ). n < length boxes) (get_or-append-add c.args.members.now c.args.others k d)
            (all (length c.args.members.now + k) d (omega (arith, within, length-append c.args.members.now c.args.others)));
      };
      wide = c.self.invariant.wide;
      counts = subst (λ (cells : List ℕ). AreCounts boxes c.self.inside.gutters c.self.inside.width c.args.others cells) (sym written) counted;
    }

pub returns-clause-members : goal.returns-clause-members
returns-clause-members c =
    let boxes = c.args.self.now.boxes in
    let page : LivingPage = c.args.self.now in
    let positions : All (λ (p : ℕ). p < length page.boxes) page.alive = subst (λ (q : LivingPage). All (λ (p : ℕ). p < length q.boxes) q.alive) c.self.view_is c.self.invariant.countable.positions in
    let all : All (λ (p : ℕ). p < length page.boxes) (c.args.members.now ++ c.args.others) = All-permutation (λ (p : ℕ). p < length page.boxes) page.alive (c.args.members.now ++ c.args.others) c.requires.divided positions in
    λ k d within. subst (λ (n : ℕ). n < length page.boxes) (get_or_append_left c.args.members.now c.args.others d k within) (all k d (omega (arith, within, length-append c.args.members.now c.args.others)))
