-- Draws and blocks, one after the other.
use Rattle.std.proofs.Common.{◌≡◌, ℕ, suc, ◌+◌, ◌*◌, ◌/◌, ◌%◌, ◌^◌, List, [], ◌∷◌, ◌++◌, append_assoc, arith, refl, ap, sym, ◌∙◌}
use Rattle.std.proofs.lemmas.List.{append-nil}
use Rattle.std.proofs.lemmas.List.FromFn.{map-range_with_len_more}
use Rattle.made_page.specs.declared.block.Block.{Block}
use Rattle.made_page.specs.Draws.{state_behind, state_after, draw}
use Rattle.made_page.specs.Blocks.{glyph, speck, glyphs_of, specks_of}

pub next_is : (state : ℕ) → (state * 6364136223846793005 % 18446744073709551616 + 1442695040888963407) % 18446744073709551616 ≡ state_behind state
unfolding state_behind
next_is state = omega arith

pub no_draw : (seed : ℕ) → seed ≡ state_after seed 0
unfolding state_after
no_draw seed = refl

-- the state after one more draw, and what is drawn
pub one_draw : (seed draws state : ℕ) → state ≡ state_after seed draws → state_behind state ≡ state_after seed (draws + 1)
unfolding state_after
one_draw seed draws state at =
    let e : suc draws ≡ draws + 1 = omega arith in
    ap state_behind at ∙ ap (state_after seed) e

pub drawn : (seed number state : ℕ) → state ≡ state_after seed number → state_behind state / 2 ^ 33 ≡ draw seed number
unfolding draw
drawn seed number state at = ap (λ (s : ℕ). s / 2 ^ 33) (one_draw seed number state at)

pub two_draws : (seed number state : ℕ) → state ≡ state_after seed (2 * number) → state_behind (state_behind state) ≡ state_after seed (2 * (number + 1))
two_draws seed number state at =
    let e : 2 * number + 1 + 1 ≡ 2 * (number + 1) = omega arith in
    one_draw seed (2 * number + 1) (state_behind state) (one_draw seed (2 * number) state at) ∙ ap (state_after seed) e

-- a list that ends with the first blocks, before the first, and with one more
pub no_glyph : (seed : ℕ) (blocks : List Block) → blocks ≡ blocks ++ glyphs_of seed 0
unfolding glyphs_of
no_glyph seed blocks = sym (append-nil blocks)

pub one_glyph : (seed number : ℕ) (front before after : List Block) → before ≡ front ++ glyphs_of seed number → after ≡ before ++ glyph seed number ∷ [] → after ≡ front ++ glyphs_of seed (number + 1)
unfolding glyphs_of
one_glyph seed number front before after was now =
    now
    ∙ ap (λ (blocks : List Block). blocks ++ glyph seed number ∷ []) was
    ∙ append_assoc front (glyphs_of seed number) (glyph seed number ∷ [])
    ∙ ap (λ (blocks : List Block). front ++ blocks) (sym (map-range_with_len_more (glyph seed) 0 number number (omega arith)))

pub no_speck : (blocks : List Block) → blocks ≡ blocks ++ specks_of 0
unfolding specks_of
no_speck blocks = sym (append-nil blocks)

pub one_speck : (row : ℕ) (front before after : List Block) → before ≡ front ++ specks_of row → after ≡ before ++ speck row ∷ [] → after ≡ front ++ specks_of (row + 1)
unfolding specks_of
one_speck row front before after was now =
    now
    ∙ ap (λ (blocks : List Block). blocks ++ speck row ∷ []) was
    ∙ append_assoc front (specks_of row) (speck row ∷ [])
    ∙ ap (λ (blocks : List Block). front ++ blocks) (sym (map-range_with_len_more speck 0 row row (omega arith)))
