-- Kept places are not connected, so they lie in different blocks.
use Rattle.std.proofs.Common.{◌≡◌, ◌≢◌, ℕ, zero, suc, ◌<◌, ◌≤◌, Bool, true, false, cond, eqb, ◌&&◌, ◌||◌, List, [], ◌∷◌, length, map, get_or, refl, ap, sym, subst, ◌∙◌, arith}
use Rattle.std.specs.List.{list_any, AllZip, AllPairs, IsDistinct}
use Rattle.std.proofs.lemmas.Bool.Decides.{nat_tests}
use Rattle.std.proofs.lemmas.List.{get_or-map, length-map, length-append}
use Rattle.std.proofs.lemmas.List.FromFn.{length-map-range_with_len}
use Rattle.std.proofs.lemmas.List.Folds.{Any-from_list_any}
use Rattle.std.proofs.lemmas.Slice.Zip.{AllZip-long}
use Rattle.std.proofs.lemmas.Map.Keys.{IsDistinct-from_apart}
use Rattle.std.proofs.lemmas.Map.Steps.{length-le_from_distinct_below}
use Rattle.packed_rows.specs.Page.{Page}
use Rattle.components.specs.declared.place.Place.{Place}
use Rattle.components.specs.Connected.{IsBlack, IsConnected}
use Rattle.components.specs.Boxes.{IsKept}
use Rattle.made_page.specs.declared.block.Block.{Block}
use Rattle.made_page.specs.Blocks.{glyphs_of, specks_of, blocks_of, glyph, speck}
use Rattle.made_page.specs.Made.{has_place, page_of_blocks, made_page}
use Rattle.made_page.specs.Few.{MadePageHasFewComponents}
use Rattle.made_page.proofs.Connecting.{one_block_connected}

-- the number of the first block that has the place
abbrev block_of : List Block → Place → ℕ
block_of [] p = 0
block_of (block ∷ blocks) p = cond (has_place p.x p.y block) 0 (suc (block_of blocks p))

record IsFound (blocks : List Block) (p : Place) (d : Block) : Type 0 where
  pub below : block_of blocks p < length blocks
  pub has : has_place p.x p.y (get_or blocks (block_of blocks p) d) ≡ true

is_found : (blocks : List Block) (p : Place) (d : Block) → list_any (has_place p.x p.y) blocks ≡ true → IsFound blocks p d
is_found [] p d some = absurd (elim_false some)
  where
    elim_false : false ≡ true → ⊥
    elim_false e = cc
is_found (block ∷ blocks) p d some = cases (is_found blocks p d) (has_place p.x p.y block) refl
  where
    cases : (list_any (has_place p.x p.y) blocks ≡ true → IsFound blocks p d) → (t : Bool) → has_place p.x p.y block ≡ t → IsFound (block ∷ blocks) p d
    cases later_one true here =
        let first : block_of (block ∷ blocks) p ≡ 0 = ap (λ (b : Bool). cond b 0 (suc (block_of blocks p))) here in
        record {
          below = omega (arith, first);
          has = ap (λ (k : ℕ). has_place p.x p.y (get_or (block ∷ blocks) k d)) first ∙ here;
        }
    cases later_one false other =
        let later : block_of (block ∷ blocks) p ≡ suc (block_of blocks p) = ap (λ (b : Bool). cond b 0 (suc (block_of blocks p))) other in
        let rest = later_one (sym (ap (λ (b : Bool). b || list_any (has_place p.x p.y) blocks) other) ∙ some) in
        record {
          below = omega (arith, later, rest.below);
          has = ap (λ (k : ℕ). has_place p.x p.y (get_or (block ∷ blocks) k d)) later ∙ rest.has;
        }

-- a black place of the page is on a block
on_block : (on some : Bool) → (on && some) ≡ true → some ≡ true
on_block true some black = black
on_block false some black = cc

-- places of which each is black, and no two are connected, are at most as many as the blocks
module _ (blocks : List Block) (places : List Place)
    (black : (k : ℕ) (d : Place) → k < length places → IsBlack (page_of_blocks blocks) (get_or places k d))
    (apart : AllPairs (λ p q. IsConnected (page_of_blocks blocks) p q → ⊥) places) where
  corner : Place
  corner = record { x = 0; y = 0 }

  no_block : Block
  no_block = record { left = 0; right = 0; top = 0; foot = 0 }

  found_at : (k : ℕ) → k < length places → IsFound blocks (get_or places k corner) no_block
  found_at k below = is_found blocks (get_or places k corner) no_block (on_block _ _ (black k corner below).black)

  number_at : (k d : ℕ) → k < length places → get_or (map (block_of blocks) places) k d ≡ block_of blocks (get_or places k corner)
  number_at k d below = get_or-map (block_of blocks) places k corner d below

  differ : (i j : ℕ) → i < j → j < length places → block_of blocks (get_or places i corner) ≢ block_of blocks (get_or places j corner)
  differ i j less below same =
      let before : i < length places = omega (arith, less, below) in
      let first = found_at i before in
      let second = found_at j below in
      let q : Place = get_or places j corner in
      let here : has_place q.x q.y (get_or blocks (block_of blocks (get_or places i corner)) no_block) ≡ true =
      subst (λ (k : ℕ). has_place q.x q.y (get_or blocks k no_block) ≡ true) (sym same) second.has in
      apart i j corner less below (one_block_connected blocks (block_of blocks (get_or places i corner)) no_block (get_or places i corner) q first.below (black i corner before) (black j corner below) first.has here)

  distinct : IsDistinct eqb (map (block_of blocks) places)
  distinct = IsDistinct-from_apart eqb (map (block_of blocks) places) (λ i j d less within.
      let below : j < length places = omega (arith, within, length-map places (block_of blocks)) in
      let before : i < length places = omega (arith, less, below) in
      let other = differ i j less below in
      let first = number_at i d before in
      let second = number_at j d below in
      grind (arith, nat_tests))

  in_blocks : (number : ℕ) → list_any (eqb number) (map (block_of blocks) places) ≡ true → number < length blocks
  in_blocks number some =
      let any = Any-from_list_any (eqb number) (map (block_of blocks) places) some in
      let below : any.0 < length places = omega (arith, any.2, length-map places (block_of blocks)) in
      let is : number ≡ any.1 = is_eq number any.1 any.4 in
      let at : any.1 ≡ block_of blocks (get_or places any.0 corner) = sym any.3 ∙ number_at any.0 any.1 below in
      omega (arith, is, at, (found_at any.0 below).below)
    where
      is_eq : (a b : ℕ) → eqb a b ≡ true → a ≡ b
      is_eq a b e = grind (arith, nat_tests)

  few_places : length places ≤ length blocks
  few_places = omega (arith, length-map places (block_of blocks), length-le_from_distinct_below (map (block_of blocks) places) (length blocks) distinct in_blocks)

-- what follows at each pair holds of each first item
firsts_of : {A B : Type 0} (R : A → B → Type 0) (P : A → Type 0) → ((x : A) (y : B) → R x y → P x) → (xs : List A) (ys : List B) → AllZip R xs ys → (k : ℕ) (d : A) → k < length xs → P (get_or xs k d)
firsts_of R P follows [] ys zip k d below = absurd (omega (arith, below))
firsts_of R P follows (x ∷ xs) [] zip k d below = absurd zip
firsts_of R P follows (x ∷ xs) (y ∷ ys) zip zero d below = follows x y zip.0
firsts_of R P follows (x ∷ xs) (y ∷ ys) zip (suc k) d below = firsts_of R P follows xs ys zip.1 k d (omega (arith, below))

glyphs_counted : (seed count : ℕ) → length (glyphs_of seed count) ≡ count
unfolding glyphs_of
glyphs_counted seed count = length-map-range_with_len (glyph seed) 0 count

specks_counted : (rows : ℕ) → length (specks_of rows) ≡ rows
unfolding specks_of
specks_counted rows = length-map-range_with_len speck 0 rows

blocks_counted : (seed : ℕ) → length (blocks_of seed) ≡ 1980
unfolding blocks_of
blocks_counted seed = omega (arith, length-append (glyphs_of seed 1936) (specks_of 44), glyphs_counted seed 1936, specks_counted 44)

pub few_kept : MadePageHasFewComponents
unfolding made_page
few_kept seed count kept =
    let places = kept.is_kept.places in
    let are = kept.is_kept.are_kept in
    let page : Page = page_of_blocks (blocks_of seed) in
    let black = firsts_of (IsKept page) (IsBlack page) (λ p box is. is.black) places kept.found are.kept in
    omega (
      arith,
      kept.counted,
      AllZip-long (IsKept page) places kept.found are.kept,
      few_places (blocks_of seed) places black are.apart,
      blocks_counted seed,
    )
