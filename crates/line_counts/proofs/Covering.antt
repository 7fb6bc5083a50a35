-- That each offset of a page is of some block, as blocks are put to the others.
use Rattle.std.proofs.Common.{◌≡◌, ℕ, ◌+◌, ◌<◌, ◌≤◌, ℤ, pos, negsuc, ◌+ℤ◌, ◌≤ℤ◌, List, [], ◌∷◌, ◌++◌, Any, length, get_or, set, get_or-set_same, get_or-set_other, ⊎_elim, arith, ap, sym, ◌∙◌}
use Rattle.std.proofs.Math.ListN.{length-set}
use Rattle.std.proofs.lemmas.List.{get_or_default}
use Rattle.std.proofs.lemmas.Int.{ints}
use Rattle.std.proofs.lemmas.Bool.{cases_eq, cases_lt}
use Rattle.std.proofs.lemmas.List.Elements.{Contains-append_left}
use Rattle.std.proofs.lemmas.List.Quantifiers.{Any-push}
use Rattle.line_counts.specs.declared.block.Block.{Block}
use Rattle.line_counts.specs.Table.{LivingPage}
use Rattle.line_counts.specs.Blocks.{HasOffset, HaveRows, IsRenewed}

any_kept : (P : Block → Type 0) (xs ys : List Block) → Any P xs → Any P (xs ++ ys)
any_kept P xs ys (k, x, inside, at, holds) = let there = Contains-append_left xs ys x (k, inside, at) in (there.0, x, there.1, there.2, holds)

has_offset : (row from end : ℕ) (block : Block) → block.from ≡ pos from +ℤ negsuc 299 → from + block.offsets ≡ end → from ≤ row → row < end → HasOffset (pos row +ℤ negsuc 299) block
has_offset row from end block first offsets low high = record {
  from_offset = omega (arith, ints, first, low);
  to_offset = omega (arith, ints, first, offsets, high);
}

-- the rows of one block more
pub rows_more : (from end : ℕ) (blocks : List Block) (block : Block) → block.from ≡ pos from +ℤ negsuc 299 → from + block.offsets ≡ end
    → HaveRows from blocks → HaveRows end (blocks ++ block ∷ [])
rows_more from end blocks block first offsets have = λ row less.
    ⊎_elim
    (λ before. any_kept (HasOffset (pos row +ℤ negsuc 299)) blocks (block ∷ []) (have row before))
    (λ after. Any-push (HasOffset (pos row +ℤ negsuc 299)) blocks block (has_offset row from end block first offsets after less))
    (cases_lt row from)

moved : (offset : ℤ) (x new : Block) → x.from ≡ new.from → x.offsets ≡ new.offsets → HasOffset offset x → HasOffset offset new
moved offset x new from offsets has = record {
  from_offset = omega (arith, ints, from, has.from_offset);
  to_offset = omega (arith, ints, from, offsets, has.to_offset);
}

-- a block with the same offsets has the same rows
pub rows_set : (rows : ℕ) (blocks : List Block) (i : ℕ) (old new : Block) → i < length blocks → old ≡ get_or blocks i old → new.from ≡ old.from → new.offsets ≡ old.offsets
    → HaveRows rows blocks → HaveRows rows (set blocks i new)
rows_set rows blocks i old new within at from offsets have = λ row less.
    let found = have row less in
    let k : ℕ = found.0 in
    let x : Block = found.1 in
    ⊎_elim
    (λ same.
    let x_is : x ≡ old = sym found.3 ∙ ap (λ (n : ℕ). get_or blocks n x) same ∙ get_or_default blocks i x old within ∙ sym at in (
      i,
      new,
      omega (arith, within, length-set blocks i new),
      get_or-set_same blocks i new new within,
      moved (pos row +ℤ negsuc 299) x new (ap (λ (b : Block). b.from) x_is ∙ sym from) (ap (λ (b : Block). b.offsets) x_is ∙ sym offsets) found.4,
    ))
    (λ differs. (k, x, omega (arith, found.2, length-set blocks i new), get_or-set_other blocks i k new x differs ∙ found.3, found.4))
    (cases_eq k i)

-- and so have the blocks with one renewed
pub rows_renewed : (page : LivingPage) (least deepest rows : ℕ) (blocks : List Block) (i : ℕ) (d new : Block) → i < length blocks → IsRenewed page least deepest (get_or blocks i d) new
    → HaveRows rows blocks → HaveRows rows (set blocks i new)
rows_renewed page least deepest rows blocks i d new within is have =
    rows_set rows blocks i (get_or blocks i d) new within (get_or_default blocks i d (get_or blocks i d) within) is.from_offset is.offsets have

pub high_end : (from : ℤ) (row offsets end height : ℕ) → from ≡ pos row +ℤ negsuc 299 → row + offsets ≡ end → end ≤ height + 600 + 1 → (from +ℤ pos offsets) ≤ℤ pos (height + 300 + 1)
high_end from row offsets end height first same inside = omega (arith, ints)

pub low_end : (from : ℤ) (row : ℕ) → from ≡ pos row +ℤ negsuc 299 → negsuc 299 ≤ℤ from
low_end from row first = omega (arith, ints)
