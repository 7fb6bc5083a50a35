-- The step that gives the turn of a shard back keeps the rule of the split search.
use Rattle.std.proofs.Common.{◌≡◌, ℕ, suc, ◌<◌, ◌≤◌, ◌≢◌, ◌⊎◌, List, ℤ, [], ◌∷◌, true, cond, eqb, length, get_or, set, sym, refl, ap, ◌∙◌, inl, inr, ⊎_elim, subst, arith, rules, ne_eqb, Option, Some, length-set, get_or-set_same, get_or-set_other}
use Rattle.std.specs.Prelude.{Any}
use Rattle.std.proofs.lemmas.Bool.{eq-eqb}
use mathlib.Core.Option.{Option as Maybe, none, some, some-injective}
use mathlib.Core.Logic.{dite}
use native.Mathlib.Decide.{ℕ_discrete}
use lib.ListN.{get_elem?}
use Rattle.atomic_table.specs.Table.{step, gives, Allows}
use Rattle.atomic_table.proofs.Lists.{set_here, set_else}
use Rattle.box_search.specs.declared.space.Node.{Node}
use Rattle.box_search.specs.declared.space.Shape.{Shape}
use Rattle.box_search.specs.declared.lease.Entry.{Entry}
use Rattle.frontier_turn.specs.declared.view.Outline.{Outline}
use Rattle.frontier_turn.specs.declared.view.Snapshot.{Snapshot}
use Rattle.frontier_turn.specs.Bags.{total, one_if}
use Rattle.frontier_turn.specs.Snapshots.{snapshot_of, nothing_left, is_empty, NumbersDiffer}
use Rattle.frontier_turn.proofs.Bags.{total_set, total_same, total_part}
use Rattle.frontier_turn.proofs.Items.{here, within, each_set}
use Rattle.frontier_turn.proofs.Parts.{two_parts}
use Rattle.frontier_turn.proofs.Truths.{empty_true}
use Rattle.split_frontier.specs.declared.view.Claim.{Claim}
use Rattle.split_frontier.specs.declared.parked.Parked.{Parked}
use Rattle.split_frontier.specs.Claims.{claims_after, IsClaimed}
use Rattle.split_frontier.specs.Views.{View, blank, leaves_turn}
use Rattle.split_frontier.specs.Rule.{Slot, parts_of, is_shard, held_by, named_by, IsPass, IsOpen, IsOut, IsFree, IsHeld, IsTurned, ShardsClauses, ShardsRule}
use Rattle.split_frontier.specs.Steps.{GivesTurn, IsToBeFound, MayReturn}
use Rattle.split_frontier.proofs.Marks.{marked_listed}
use Rattle.split_frontier.proofs.Moves.{suc_same}

module _ {W : Type 0} (p : List ℤ) (admits : ℕ → Type 0) (lies_in : ℕ → Shape → Type 0) (fits : Node W → Type 0) where
  abbrev Home : Type 0
  Home = Maybe (Slot W)

  abbrev K : List ℕ → List Home → List View → Type 0
  K = ShardsClauses p admits lies_in fits

  module _ (slots id shard : ℕ) (v : View) (P : Parked W) (own : v.rest.problem ≡ p) (live : 0 < v.rest.parts) (holds : v.rest.holds ≡ Some shard) (back : MayReturn admits lies_in fits v shard P.frontier (claims_after v.rest.leases P.naming.value)) where
    abbrev claims : List Claim
    claims = claims_after v.rest.leases P.naming.value

    abbrev q : Snapshot
    q = snapshot_of P.frontier

    abbrev left : View
    left = leaves_turn v shard q claims

    abbrev then : (ℕ → Snapshot) → ℕ → Snapshot
    then now t = cond (eqb t shard) q (now t)

    then_here : (now : ℕ → Snapshot) → then now shard ≡ q
    then_here now = rw (eq-eqb shard shard refl) refl

    then_else : (now : ℕ → Snapshot) (t : ℕ) → t ≢ shard → then now t ≡ now t
    then_else now t apart = rw (ne_eqb t shard apart) refl

    by_shard : (now : ℕ → Snapshot) (Q : ℕ → Snapshot → Type 0) → Q shard q → ((t : ℕ) → t ≢ shard → Q t (now t)) → (t : ℕ) → Q t (then now t)
    by_shard now Q here else t = dite (ℕ_discrete t shard)
        (λ (same : t ≡ shard). subst (λ (k : ℕ). Q k (then now k)) (sym same) (subst (Q shard) (sym (then_here now)) here))
        (λ apart. subst (Q t) (sym (then_else now t apart)) (else t apart))

    given : (words : List ℕ) (homes : List Home) (views : List View) (k : K words homes views) → shard < length homes → get_elem? views id ≡ some v → K (set words (suc shard) 0) (set homes shard (some (Some P))) (set views id left)
    given words homes views k there at =
        let words' = set words (suc shard) 0 in
        let homes' = set homes shard (some (Some P)) in
        let views' = set views id left in
        let mine = (k.each id v at).live live in
        let low = mine.seen in
        let all = k.parts in
        let long = k.turn_words in
        let stays : get_or words' 0 0 ≡ get_or words 0 0 = get_or-set_other words (suc shard) 0 0 0 (λ e. omega arith) in
        let its : is_shard shard v.rest.holds ≡ true = ap (is_shard shard) holds ∙ eq-eqb shard shard refl in
        let is : v.rest.taken ≡ k.now shard = mine.taken shard its in
        let one : held_by shard v ≡ 1 = ap one_if its in
        let part = total_part (held_by shard) views id v at in
        let home = get_or homes shard none in
        let somebody : total (held_by shard) views ≡ 1 = ⊎_elim (λ (f : IsFree p admits lies_in fits (get_or words (suc shard) 0) home (total (held_by shard) views) (k.now shard)). let nobody = f.nobody in absurd (omega arith))
        (λ (h : IsHeld p admits lies_in fits (get_or words (suc shard) 0) home (total (held_by shard) views)). h.somebody) (k.turned shard home (here homes shard none there)) in
        let cut = total_set (held_by shard) views id v left at in
        let nobody : total (held_by shard) views' ≡ 0 = omega arith in
        let out_again : (key : ℕ) → IsClaimed lies_in claims key → IsOut lies_in views' key = λ key c. (id, left, set_here views id left (within views id v at).0, c) in
        let returned : (key : ℕ) → (key ≤ v.seen) ⊎ IsToBeFound lies_in q claims key → (key ≤ get_or words' 0 0) ⊎ (IsOpen lies_in (then k.now) key ⊎ IsOut lies_in views' key) = λ key found. elim found [
          | inl le ↦ inl (omega arith)
          | inr (inl opened) ↦ inr (inl (shard, subst (λ (z : Snapshot). Any (λ (o : Outline). lies_in key o.shape) z.open_nodes) (sym (then_here k.now)) opened))
          | inr (inr claimed) ↦ inr (inr (out_again key claimed))
        ] in
        record {
          now = then k.now;
          beyond = λ t l. let far : length homes ≤ t = subst (λ (n : ℕ). n ≤ t) (length-set homes shard (some (Some P))) l in then_else k.now t (λ e. omega arith) ∙ k.beyond t far;
          turn_words = length-set words (suc shard) 0 ∙ (long ∙ ap suc (sym (length-set homes shard (some (Some P)))));
          parts = total_same parts_of views id v left at refl ∙ all;
          each = each_set (IsPass p (get_or words' 0 0) (then k.now)) views id left
              (record {
                live = λ _. record {
                  problem_is = mine.problem_is;
                  seen = subst (λ (n : ℕ). v.seen ≤ n) (sym stays) low;
                  taken = λ t e. absurd (search rules);
                  empties = λ whole t listed. elim (marked_listed shard (is_empty q) v.rest.empties t listed) [
                    | inl mark ↦ subst (λ (k' : ℕ). then k.now k' ≡ nothing_left) (sym mark.0) (then_here k.now ∙ empty_true q mark.1)
                    | inr rest ↦ then_else k.now t rest.0 ∙ mine.empties whole t rest.1
                  ];
                };
                spent = λ z. absurd (omega arith);
              })
              (λ j u other u_at. let s = k.each j u u_at in record {
                live = λ l. let known = s.live l in record {
                  problem_is = known.problem_is;
                  seen = subst (λ (n : ℕ). u.seen ≤ n) (sym stays) known.seen;
                  taken = λ t e. dite (ℕ_discrete t shard)
                      (λ (same : t ≡ shard). let two : held_by shard u ≡ 1 = ap one_if (subst (λ (k' : ℕ). is_shard k' u.rest.holds ≡ true) same e) in let bound = total_part (held_by shard) views' j u (set_else views id j left other ∙ u_at) in absurd (omega arith))
                      (λ apart. known.taken t e ∙ sym (then_else k.now t apart));
                  empties = λ whole t listed. let both = two_parts parts_of blank refl views id v at j u u_at other in absurd (omega arith);
                };
                spent = s.spent;
              });
          sound = rw stays k.sound;
          turned = by_shard k.now (λ t z. (h : Home) → get_elem? homes' t ≡ some h → IsTurned p admits lies_in fits (get_or words' (suc t) 0) h (total (held_by t) views') z)
              (λ h h_at. inl record {
                zero = get_or-set_same words (suc shard) 0 0 (omega arith);
                nobody = nobody;
                parked = P;
                at_home = some-injective h (some (Some P)) (sym h_at ∙ set_here homes shard (some (Some P)) there);
                shows = refl;
                fitting = back.fitting;
              })
              (λ t apart h h_at.
              let none_before : held_by t v ≡ 0 = ap (λ (o : Option ℕ). one_if (is_shard t o)) holds ∙ ap one_if (ne_eqb shard t (λ z. apart (sym z))) in
              let held = total_same (held_by t) views id v left at (sym none_before) in
              let turn_stays = get_or-set_other words (suc shard) (suc t) 0 0 (λ e. apart (omega arith)) in
              subst (λ (n : ℕ × ℕ). IsTurned p admits lies_in fits n.0 h n.1 (k.now t)) (λ i. (sym turn_stays i, sym held i)) (k.turned t h (sym (set_else homes shard t (some (Some P)) apart) ∙ h_at)));
          covered = λ key fair. elim (k.covered key fair) [
            | inl le ↦ inl (omega arith)
            | inr (inl (t, opened)) ↦ dite (ℕ_discrete t shard)
                (λ (same : t ≡ shard). returned key (back.covers key fair (inl (subst (λ (z : Snapshot). Any (λ (o : Outline). lies_in key o.shape) z.open_nodes) (ap k.now same ∙ sym is) opened))))
                (λ apart. inr (inl (t, subst (λ (z : Snapshot). Any (λ (o : Outline). lies_in key o.shape) z.open_nodes) (sym (then_else k.now t apart)) opened)))
            | inr (inr (other, u, u_at, claimed)) ↦ dite (ℕ_discrete other id)
                (λ (same : other ≡ id). let me : u ≡ v = some-injective u v (sym u_at ∙ (ap (λ (j : ℕ). get_elem? views j) same ∙ at)) in
                returned key (back.covers key fair (inr (subst (λ (x : View). IsClaimed lies_in x.rest.leases key) me claimed))))
                (λ apart. inr (inr (other, u, set_else views id other left apart ∙ u_at, claimed)))
          ];
          leases = by_shard k.now (λ t z. (h : Entry → ℕ) → total (named_by t h) views' ≡ total h z.leased)
              (λ h.
              let before = k.leases shard h in
              let same : total h v.rest.taken.leased ≡ total h (k.now shard).leased = ap (λ (z : Snapshot). total h z.leased) is in
              let swap = total_set (named_by shard h) views id v left at in
              let beside = back.others h in
              omega arith)
              (λ t apart h. total_same (named_by t h) views id v left at (back.foreign t apart h) ∙ k.leases t h);
          numbers = by_shard k.now (λ t z. NumbersDiffer z.leased) back.numbers (λ t _. k.numbers t);
        }

    pub gives_the_turn : shard < slots → (i a b : ℕ) → i ≡ suc shard → Allows (ShardsRule p admits lies_in fits) slots id (v, (shard, Some P) ∷ []) i (λ _. 0) (GivesTurn (step slots i a b none) (v, (shard, Some P) ∷ []))
    gives_the_turn there i a b i_is = subst (λ (i' : ℕ). Allows (ShardsRule p admits lies_in fits) slots id (v, (shard, Some P) ∷ []) i' (λ _. 0) (GivesTurn (step slots i' a b none) (v, (shard, Some P) ∷ []))) (sym i_is) (λ s r long at _. (
      left,
      gives,
      tt,
      given s.words s.homes s.views r (omega arith) at,
      (λ other is. (ap (λ (t : ℕ). leaves_turn v t q claims) (suc_same shard other is), refl)),
    ))
