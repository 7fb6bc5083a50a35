-- A step that changes no more than the bound word and what its pass knows keeps the rule of the split search.
use Rattle.std.proofs.Common.{◌≡◌, ℕ, suc, ◌<◌, ◌≤◌, List, ℤ, length, get_or, set, max, sym, refl, ap, ◌∙◌, inl, inr, subst, arith, Option, length-set, get_or-set_same, get_or-set_other}
use mathlib.Core.Option.{Option as Maybe, none, some, some-injective}
use mathlib.Core.Logic.{dite}
use native.Mathlib.Decide.{ℕ_discrete}
use lib.ListN.{get_elem?}
use Rattle.atomic_table.specs.Table.{State, Me, step, keeps, stepped, Allows}
use Rattle.atomic_table.proofs.Lists.{set_here, set_else}
use Rattle.box_search.specs.declared.space.Node.{Node}
use Rattle.box_search.specs.declared.space.Shape.{Shape}
use Rattle.box_search.specs.Search.{IsSound}
use Rattle.bound_word.specs.Asking.{asks, Reads, Raises}
use Rattle.bound_word.proofs.Rises.{KeepsAsked, reads as word_reads, raises as word_raises}
use Rattle.frontier_turn.specs.declared.view.Snapshot.{Snapshot}
use Rattle.frontier_turn.specs.Bags.{total, one_if}
use Rattle.frontier_turn.proofs.Bags.{total_same}
use Rattle.frontier_turn.proofs.Items.{within, each_set}
use Rattle.split_frontier.specs.declared.view.Claim.{Claim}
use Rattle.split_frontier.specs.Claims.{of_home, IsClaimed}
use Rattle.split_frontier.specs.Views.{View, standing}
use Rattle.split_frontier.specs.Rule.{Slot, parts_of, is_shard, held_by, named_by, is_listed, IsPass, IsOut, IsTurned, ShardsClauses, ShardsRule}

pub suc_same : (a b : ℕ) → suc a ≡ suc b → a ≡ b
suc_same a b e = omega arith

-- a lease that was out still is, where the pass names at least the unspent leases that it named
pub out_set : (lies_in : ℕ → Shape → Type 0) (views : List View) (id : ℕ) (v w : View) (key : ℕ) → get_elem? views id ≡ some v → (IsClaimed lies_in v.rest.leases key → IsClaimed lies_in w.rest.leases key)
    → IsOut lies_in views key → IsOut lies_in (set views id w) key
out_set lies_in views id v w key at more (other, u, there, claimed) = dite (ℕ_discrete other id)
    (λ (same : other ≡ id).
    let is : u ≡ v = some-injective u v (sym there ∙ (ap (λ (j : ℕ). get_elem? views j) same ∙ at)) in
    (id, w, set_here views id w (within views id v at).0, more (subst (λ (x : View). IsClaimed lies_in x.rest.leases key) is claimed)))
    (λ apart. (other, u, set_else views id other w apart ∙ there, claimed))

-- what a pass knows stays so where the word rises
pub higher : (problem : List ℤ) (word word' : ℕ) (now : ℕ → Snapshot) (u : View) → word ≤ word' → IsPass problem word now u → IsPass problem word' now u
higher problem word word' now u more s = record {
  live = λ l. let k = s.live l in let seen = k.seen in record { problem_is = k.problem_is; seen = omega arith; taken = k.taken; empties = k.empties };
  spent = s.spent;
}

module _ {W : Type 0} (p : List ℤ) (admits : ℕ → Type 0) (lies_in : ℕ → Shape → Type 0) (fits : Node W → Type 0) where
  abbrev Home : Type 0
  Home = Maybe (Slot W)

  abbrev K : List ℕ → List Home → List View → Type 0
  K = ShardsClauses p admits lies_in fits

  -- a step that changes no more than the bound word, and what the pass has seen, asked and met
  pub quiet : (words words' : List ℕ) (homes : List Home) (views : List View) (id : ℕ) (v w : View) → K words homes views → get_elem? views id ≡ some v → 0 < v.rest.parts
      → w.rest.problem ≡ v.rest.problem → w.rest.holds ≡ v.rest.holds → w.rest.taken ≡ v.rest.taken → w.rest.leases ≡ v.rest.leases → w.rest.empties ≡ v.rest.empties → w.rest.parts ≡ v.rest.parts
      → length words' ≡ length words → ((shard : ℕ) → get_or words' (suc shard) 0 ≡ get_or words (suc shard) 0)
      → get_or words 0 0 ≤ get_or words' 0 0 → w.seen ≤ get_or words' 0 0 → IsSound admits (get_or words' 0 0) → K words' homes (set views id w)
  quiet words words' homes views id v w k at live same_problem same_holds same_taken same_leases same_empties same_parts long turns more seen sound =
      let mine = (k.each id v at).live live in record {
        now = k.now;
        beyond = k.beyond;
        turn_words = long ∙ k.turn_words;
        parts = total_same parts_of views id v w at same_parts ∙ k.parts;
        each = each_set (IsPass p (get_or words' 0 0) k.now) views id w
            (record {
              live = λ _. record {
                problem_is = same_problem ∙ mine.problem_is;
                seen = seen;
                taken = λ shard h. same_taken ∙ mine.taken shard (ap (is_shard shard) (sym same_holds) ∙ h);
                empties = λ all shard l. mine.empties (sym same_parts ∙ all) shard (ap (λ (es : List ℕ). is_listed es shard) (sym same_empties) ∙ l);
              };
              spent = λ z. absurd (omega arith);
            })
            (λ j u _ u_at. higher p (get_or words 0 0) (get_or words' 0 0) k.now u more (k.each j u u_at));
        sound = sound;
        turned = λ shard home home_at.
            let held = total_same (held_by shard) views id v w at (ap (λ (h : Option ℕ). one_if (is_shard shard h)) same_holds) in
            subst (λ (n : ℕ × ℕ). IsTurned p admits lies_in fits n.0 home n.1 (k.now shard)) (λ i. (sym (turns shard) i, sym held i)) (k.turned shard home home_at);
        covered = λ key fair. elim (k.covered key fair) [
          | inl low ↦ inl (omega arith)
          | inr (inl opened) ↦ inr (inl opened)
          | inr (inr out) ↦ inr (inr (out_set lies_in views id v w key at (subst (λ (cs : List Claim). IsClaimed lies_in cs key) (sym same_leases)) out))
        ];
        leases = λ shard h. total_same (named_by shard h) views id v w at (ap (total (of_home shard h)) same_leases) ∙ k.leases shard h;
        numbers = k.numbers;
      }

module _ {W : Type 0} (admits_of : List ℤ → ℕ → Type 0) (lies_in_of : List ℤ → ℕ → Shape → Type 0) (fits_of : List ℤ → Node W → Type 0) (p : List ℤ)
    (slots id : ℕ) (me : Me (Slot W) View) (own : me.0.rest.problem ≡ p) (live : 0 < me.0.rest.parts) where
  abbrev Of : State (Slot W) View → Type 0
  Of = ShardsRule p (admits_of p) (lies_in_of p) (fits_of p)

  asked : (s : State (Slot W) View) (r : Of s) → get_elem? s.views id ≡ some me.0 → (n m word : ℕ) → get_or s.words 0 0 ≤ word → m ≤ word → IsSound (admits_of p) word → Of (stepped s 0 word id me.1 (asks me.0 n m) keeps)
  asked s r at n m word more seen sound =
      let long = r.turn_words in
      let is : get_or (set s.words 0 word) 0 0 ≡ word = get_or-set_same s.words 0 word 0 (omega arith) in
      quiet p (admits_of p) (lies_in_of p) (fits_of p) s.words (set s.words 0 word) s.homes s.views id me.0 (asks me.0 n m) r at live refl refl refl refl refl refl (length-set s.words 0 word)
      (λ shard. get_or-set_other s.words 0 (suc shard) word 0 (λ e. omega arith)) (omega arith) (omega arith) (rw is sound)

  kept : KeepsAsked admits_of standing.problem Of id me
  kept = record {
    sound = λ s r. rw own r.sound;
    seen = λ s r at. ((r.each id me.0 at).live live).seen;
    asked = λ s r at found seen word more less sound. asked s r at found seen word more less (rw own at sound);
  }

  pub reads : (a b : ℕ) → Allows Of slots id me 0 (λ n. n) (Reads admits_of standing.problem (step slots 0 a b none) me)
  reads = word_reads admits_of standing.problem Of slots id me kept

  pub raises : (k b : ℕ) → admits_of p k → Allows Of slots id me 0 (λ n. max n k) (Raises admits_of standing.problem (step slots 0 k b none) me)
  raises k b fair = word_raises admits_of standing.problem Of slots id me kept k b (subst (λ (q : List ℤ). admits_of q k) (sym own) fair)
