-- The pixels of packed bytes that blocks are painted on.
use Rattle.std.proofs.Common.{◌≡◌, ◌≢◌, ◌⊎◌, Bool, true, false, cond, eqb, leb, ltb, ◌&&◌, ◌||◌, bit_or, w8, refl, ℕ, ◌+◌, ◌-◌, ◌*◌, ◌/◌, ◌%◌, ◌^◌, ◌<◌, ◌≤◌, List, length, get_or, take, set, sym, ap, ◌∙◌, inl, inr, arith}
use Rattle.std.proofs.lemmas.Nat.Bits.{bit_at-zero, bit_at_set_same, bit_at_set_other}
use Rattle.std.proofs.lemmas.Bool.Decides.{nat_tests}
use Rattle.std.proofs.lemmas.Bool.{cases_lt}
use Rattle.std.proofs.lemmas.List.{get_or-set_same, get_or-set_other, get_or_past, take_all}
use Rattle.std.proofs.lemmas.List.Folds.{list_any_more}
use Rattle.std.specs.Int.{bit_at}
use Rattle.std.specs.List.{list_any}
use Rattle.packed_rows.specs.Page.{pixel}
use Rattle.made_page.specs.declared.block.Block.{Block}
use Rattle.made_page.specs.Made.{has_place}

-- a stretch without a column has no pixel
pub stretch_none : (left k was : ℕ) → was ≡ cond (leb left k && ltb k left) 1 was
stretch_none left k was = let no : (leb left k && ltb k left) ≡ false = grind (arith, nat_tests) in ap (λ (b : Bool). cond b 1 was) (sym no)

-- a stretch got one more column
pub stretch_more : (left x k was before now : ℕ) → left ≤ x → before ≡ cond (leb left k && ltb k x) 1 was → now ≡ cond (eqb k x) 1 before → now ≡ cond (leb left k && ltb k (x + 1)) 1 was
stretch_more left x k was before now some old new = cases (eqb k x) refl
  where
    cases : (b : Bool) → eqb k x ≡ b → now ≡ cond (leb left k && ltb k (x + 1)) 1 was
    cases true e =
        let yes : (leb left k && ltb k (x + 1)) ≡ true = grind (arith, nat_tests) in
        new ∙ ap (λ (b : Bool). cond b 1 before) e ∙ ap (λ (b : Bool). cond b 1 was) (sym yes)
    cases false e =
        let same : (leb left k && ltb k x) ≡ (leb left k && ltb k (x + 1)) = grind (arith, nat_tests) in
        new ∙ ap (λ (b : Bool). cond b 1 before) e ∙ old ∙ ap (λ (b : Bool). cond b 1 was) same

-- the columns up to where the walk ended are those of the stretch
pub stretch_all : (left right x k was now : ℕ) → right ≤ x → (left ≤ right → x ≤ right) → (right ≤ left → x ≡ left) → now ≡ cond (leb left k && ltb k x) 1 was → now ≡ cond (leb left k && ltb k right) 1 was
stretch_all left right x k was now past within none old =
    elim (cases_lt left right) [
      | inl some ↦
          let end : x ≡ right = omega (arith, past, within (omega (arith, some))) in
          old ∙ ap (λ (n : ℕ). cond (leb left k && ltb k n) 1 was) end
      | inr empty ↦
          let end : x ≡ left = none empty in
          let no : (leb left k && ltb k x) ≡ (leb left k && ltb k right) = grind (arith, nat_tests) in
          old ∙ ap (λ (b : Bool). cond b 1 was) no
    ]

-- the block has a stretch of its rows, and nothing of others
pub block_here : (k y : ℕ) (block : Block) (was now : ℕ) → block.top ≤ y → y < block.foot → now ≡ cond (leb block.left k && ltb k block.right) 1 was → now ≡ cond (has_place k y block) 1 was
unfolding has_place
block_here k y block was now below above old =
    let same : (leb block.left k && ltb k block.right) ≡ ((leb block.left k && ltb k block.right) && (leb block.top y && ltb y block.foot)) = grind (arith, nat_tests) in
    old ∙ ap (λ (b : Bool). cond b 1 was) same

pub block_elsewhere : (k y : ℕ) (block : Block) (was : ℕ) → (y < block.top) ⊎ (block.foot ≤ y) → was ≡ cond (has_place k y block) 1 was
unfolding has_place
block_elsewhere k y block was out =
    let no : ((leb block.left k && ltb k block.right) && (leb block.top y && ltb y block.foot)) ≡ false = grind (arith, nat_tests) in
    ap (λ (b : Bool). cond b 1 was) (sym no)

-- one block more was painted
pub one_block : (k y : ℕ) (blocks : List Block) (i : ℕ) (d : Block) (was now : ℕ) → i < length blocks
    → was ≡ cond (list_any (has_place k y) (take i blocks)) 1 0 → now ≡ cond (has_place k y (get_or blocks i d)) 1 was → now ≡ cond (list_any (has_place k y) (take (i + 1) blocks)) 1 0
one_block k y blocks i d was now below old new =
    new
    ∙ ap (λ (n : ℕ). cond (has_place k y (get_or blocks i d)) 1 n) old
    ∙ either (has_place k y (get_or blocks i d)) (list_any (has_place k y) (take i blocks)) 1 0
    ∙ ap (λ (b : Bool). cond b 1 0) (sym (list_any_more (has_place k y) blocks i d below))
  where
    either : (a b : Bool) (black white : ℕ) → cond a black (cond b black white) ≡ cond (b || a) black white
    either true true black white = refl
    either true false black white = refl
    either false true black white = refl
    either false false black white = refl

-- all blocks were painted
pub all_blocks : (k y : ℕ) (blocks : List Block) (i now : ℕ) → length blocks ≤ i → now ≡ cond (list_any (has_place k y) (take i blocks)) 1 0 → now ≡ cond (list_any (has_place k y) blocks) 1 0
all_blocks k y blocks i now past old = old ∙ ap (λ (l : List Block). cond (list_any (has_place k y) l) 1 0) (take_all i blocks past)
