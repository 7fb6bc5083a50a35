-- How a key stays a bound of its lines, as boxes go and as it is made exact.
use Rattle.std.proofs.Common.{◌≡◌, ℕ, ◌+◌, ◌<◌, ◌≤◌, min, ℤ, pos, negsuc, ◌+ℤ◌, ◌≤ℤ◌, ◌<ℤ◌, to_z, of_z, w16, List, get_or, set, get_or-set_same, get_or-set_other, length, inl, inr, ⊎_elim, slice_get, arith, refl, sym, ap, ◌∙◌, subst}
use Rattle.std.specs.List.{sum_by}
use Rattle.std.proofs.Math.ListN.{length-set}
use Rattle.std.proofs.lemmas.Int.{ints, clamps}
use Rattle.std.proofs.lemmas.Bool.{cases_eq}
use Rattle.box_search.specs.declared.space.Shape.{Shape}
use Rattle.box_search.specs.Search.{IsGreatestKey}
use Rattle.line_quality.specs.Points.{IsSlope}
use Rattle.line_quality.specs.Keys.{line_key}
use Rattle.line_counts.specs.declared.block.Block.{Block}
use Rattle.line_counts.specs.declared.span.Span.{Span}
use Rattle.line_counts.specs.declared.stretch.Stretch.{Stretch}
use Rattle.line_counts.specs.Fits.{slope_of}
use Rattle.line_counts.specs.Shapes.{least_depth}
use Rattle.line_counts.specs.Plain.{plain_weight, plain_key, nearest_slope}
use Rattle.line_counts.specs.Table.{LivingPage}
use Rattle.line_counts.specs.Stretches.{IsSharper, IsKeyAt, IsKeyIn, IsOfPage}
use Rattle.line_counts.specs.KeyTables.{IsKeyInShape}
use Rattle.line_counts.specs.Blocks.{IsKeyBound, AreKeyBounds, IsBlock, IsRenewed, WasBlock, IsHull, Misses, lines_of}
use Rattle.line_counts.proofs.Places.{slope_in, held_in_grid}
use Rattle.line_counts.proofs.Growing.{line_below, score_within}
use Rattle.line_counts.proofs.Nearing.{same_rows}
use Rattle.line_counts.proofs.Weighing.{same_sum}
use Rattle.line_counts.proofs.Renewing.{bound_stays, plain_stays}

module _ (page : LivingPage) (least deepest number more : ℕ) (spans : List Span) (block : Block) (numbered : number < 65) (was : WasBlock page least deepest spans block) where
  -- a key is a bound of what is left
  key_over : (key : ℕ) → IsKeyInShape page least (lines_of (slope_of number) block.from block.offsets deepest) key → key ≤ get_or block.keys number 0
  key_over key is =
      bound_stays page least was.alive was.members was.divided (lines_of (slope_of number) block.from block.offsets deepest) (get_or block.keys number 0)
      (was.was.keys.each number numbered).over key is

  -- and at most the plain key where the members are missed
  pub key_kept : (none : Span) → more + 1 ≡ block.offsets + deepest → Misses (get_or spans number none) block.from more
      → IsKeyBound page least (lines_of (slope_of number) block.from block.offsets deepest) (get_or block.keys number 0)
  key_kept none rows misses =
      let spanned = was.spanned.each number none numbered in
      let stays : plain_key page.boxes was.alive (lines_of (slope_of number) block.from block.offsets deepest)
      ≡ plain_key page.boxes page.alive (lines_of (slope_of number) block.from block.offsets deepest) =
      plain_stays page.boxes (slope_of number) block.from block.offsets deepest more (slope_in number numbered) was.was.low rows (get_or spans number none) spanned.0 misses
      was.alive was.members page.alive was.divided spanned.1 in
      record { over = key_over; plain = omega (arith, stays, (was.was.keys.each number numbered).plain) }

  -- or where that is no less
  pub key_under : get_or block.keys number 0 ≤ plain_key page.boxes page.alive (lines_of (slope_of number) block.from block.offsets deepest)
      → IsKeyBound page least (lines_of (slope_of number) block.from block.offsets deepest) (get_or block.keys number 0)
  key_under low = record { over = key_over; plain = low }

  -- or where it is lowered to that
  pub key_lowered : (plain key : ℕ) → key ≡ min (get_or block.keys number 0) plain → IsKeyBound page least (lines_of (slope_of number) block.from block.offsets deepest) plain
      → IsKeyBound page least (lines_of (slope_of number) block.from block.offsets deepest) key
  key_lowered plain key is bound = record {
    over = λ k some. omega (arith, is, key_over k some, bound.over k some);
    plain = omega (arith, is, bound.plain);
  }

nearest_one : (s n : ℤ) → n ≡ nearest_slope (record { a0 = s; a1 = s +ℤ pos 1; b0 = pos 0; b1 = pos 0; c0 = pos 0; c1 = pos 0 }) → n ≡ s
nearest_one s n is = omega (arith, ints, clamps)

-- what all boxes weigh at most together gives the plain key
pub plain_is : (page : LivingPage) (least : ℕ) (slope from : ℤ) (offsets deepest more score key : ℕ) → IsSlope slope → negsuc 299 ≤ℤ from → more + 1 ≡ offsets + deepest
    → score ≡ sum_by (λ position. plain_weight (lines_of slope from 1 more) (slice_get page.boxes position)) page.alive
    → key ≡ line_key score slope from 0 → IsKeyBound page least (lines_of slope from offsets deepest) key
plain_is page least slope from offsets deepest more score key in_slopes above rows scored is =
    let shape : Shape = lines_of slope from offsets deepest in
    let same : score ≡ sum_by (λ position. plain_weight shape (slice_get page.boxes position)) page.alive =
    scored ∙ same_sum (λ position. plain_weight (lines_of slope from 1 more) (slice_get page.boxes position)) (λ position. plain_weight shape (slice_get page.boxes position))
    (λ position. same_rows slope from offsets deepest more in_slopes above rows (slice_get page.boxes position)) page.alive in
    let key_is : key ≡ line_key score (nearest_slope shape) shape.b0 (least_depth shape) =
    is ∙ ap (λ (s : ℤ). line_key score s from 0) (sym (nearest_one slope (nearest_slope shape) refl)) in
    record {
      over = λ k some. omega (arith, key_is, line_below page least shape k score above (omega (arith, ints)) (omega (arith, same)) some);
      plain = omega (arith, key_is, ap (λ (n : ℕ). line_key n (nearest_slope shape) shape.b0 (least_depth shape)) same);
    }

-- where they weigh too little no line has a key
pub plain_none : (page : LivingPage) (least : ℕ) (slope from : ℤ) (offsets deepest more score : ℕ) → IsSlope slope → negsuc 299 ≤ℤ from → more + 1 ≡ offsets + deepest
    → score ≡ sum_by (λ position. plain_weight (lines_of slope from 1 more) (slice_get page.boxes position)) page.alive
    → score < least → IsKeyBound page least (lines_of slope from offsets deepest) 0
plain_none page least slope from offsets deepest more score in_slopes above rows scored little =
    let shape : Shape = lines_of slope from offsets deepest in
    let same : score ≡ sum_by (λ position. plain_weight shape (slice_get page.boxes position)) page.alive =
    scored ∙ same_sum (λ position. plain_weight (lines_of slope from 1 more) (slice_get page.boxes position)) (λ position. plain_weight shape (slice_get page.boxes position))
    (λ position. same_rows slope from offsets deepest more in_slopes above rows (slice_get page.boxes position)) page.alive in
    record {
      over = λ k some. absurd (omega (
        arith,
        little,
        some.at.enough,
        score_within page least shape k score (omega (arith, same)) some,
      ));
      plain = omega arith;
    }

-- the lines of a slope are those of a stretch
pub record IsStretchOf (slope from : ℤ) (offsets deepest : ℕ) (stretch : Stretch) : Type 0 where
  pub slope_is : stretch.slope ≡ slope
  pub from_is : stretch.from ≡ from
  pub offsets_is : stretch.offsets ≡ offsets
  pub all_shallow : stretch.shallowest ≡ 0
  pub all_deep : stretch.deepest ≡ deepest

module _ (page : LivingPage) (least : ℕ) (slope from : ℤ) (offsets deepest : ℕ) (stretch : Stretch) (of : IsStretchOf slope from offsets deepest stretch) where
  one_slope : (s : ℤ) → slope ≤ℤ s → s <ℤ (slope +ℤ pos 1) → s ≡ stretch.slope
  one_slope s low high = omega (arith, ints, of.slope_is)

  in_stretch : (key : ℕ) → IsKeyInShape page least (lines_of slope from offsets deepest) key → IsKeyIn page least stretch key
  in_stretch key is = record {
    offset = is.offset;
    from_offset = omega (arith, ints, of.from_is, is.inside.from_offset);
    to_offset = omega (arith, ints, of.from_is, of.offsets_is, is.inside.to_offset);
    of = record {
      depth = is.depth;
      from_depth = omega (arith, of.all_shallow);
      to_depth = omega (arith, ints, of.all_deep, is.inside.to_depth);
      at = subst (λ (s : ℤ). IsKeyAt page least s is.offset is.depth key) (one_slope is.slope is.inside.from_slope is.inside.to_slope) is.at;
    };
  }

  in_lines : (key : ℕ) → IsKeyIn page least stretch key → IsKeyInShape page least (lines_of slope from offsets deepest) key
  in_lines key is = record {
    slope = stretch.slope;
    offset = is.offset;
    depth = is.of.depth;
    inside = record {
      from_slope = omega (arith, ints, of.slope_is);
      to_slope = omega (arith, ints, of.slope_is);
      from_offset = omega (arith, ints, of.from_is, is.from_offset);
      to_offset = omega (arith, ints, of.from_is, of.offsets_is, is.to_offset);
      from_depth = omega (arith, ints);
      to_depth = omega (arith, ints, of.all_deep, is.of.to_depth);
    };
    at = is.of.at;
  }

  -- so a sharper bound of the stretch is one where another was
  pub sharper_bound : (bound key : ℕ) → IsKeyBound page least (lines_of slope from offsets deepest) bound → IsSharper (IsKeyIn page least stretch) bound key
      → IsKeyBound page least (lines_of slope from offsets deepest) key
  sharper_bound bound key is sharper = record {
    over = λ k some. sharper.over k (in_stretch k some);
    plain = ⊎_elim
        (λ (less : key < bound). omega (arith, less, is.plain))
        (λ (exact : IsGreatestKey (IsKeyIn page least stretch) key). ⊎_elim
        (λ (none : key ≡ 0). omega (arith, none))
        (λ (some : IsKeyIn page least stretch key). omega (arith, is.over key (in_lines key some), is.plain))
        exact.sound)
        sharper.low;
  }

-- the block of some offsets and their bounds
pub block_by : (page : LivingPage) (least deepest : ℕ) (from : ℤ) (offsets : ℕ) (block : Block) → page.height ≤ 8192 → negsuc 299 ≤ℤ from → (from +ℤ pos offsets) ≤ℤ pos (page.height + 300 + 1) → 0 < offsets → offsets ≤ 64
    → block.from ≡ from → block.offsets ≡ offsets → AreKeyBounds page least deepest from offsets block.keys → ((number : ℕ) → get_or block.keys number 0 ≤ block.greatest)
    → ((number : ℕ) × (number < 65) × (get_or block.keys number 0 ≡ block.greatest)) → IsBlock page least deepest block
block_by page least deepest from offsets block high_page low high some few from_is offsets_is keys greatest reached = record {
  of_page = high_page;
  low = omega (arith, ints, from_is, low);
  high = omega (arith, ints, from_is, offsets_is, high);
  some = omega (arith, offsets_is, some);
  few = omega (arith, offsets_is, few);
  keys = subst (λ (o : ℤ). AreKeyBounds page least deepest o block.offsets block.keys) (sym from_is)
      (subst (λ (n : ℕ). AreKeyBounds page least deepest from n block.keys) (sym offsets_is) keys);
  greatest = greatest;
  reached = reached;
}

-- the first offset of a block as the code holds it
pub held_from : (page : LivingPage) (least deepest : ℕ) (block : Block) → IsBlock page least deepest block → to_z w16 (of_z w16 block.from) ≡ block.from
held_from page least deepest block is = held_in_grid block.from (record { low = is.low; high = omega (arith, ints, is.high, is.some, is.of_page) })

-- one item more holds
pub each_more : {X : Type 0} (P : ℕ → X → Type 0) (xs : List X) (i : ℕ) (x d : X) → i < length xs → P i x → ((n : ℕ) → n < i → P n (get_or xs n d))
    → (n : ℕ) → n < i + 1 → P n (get_or (set xs i x) n d)
each_more P xs i x d within new done n less = ⊎_elim
    (λ same. subst (λ (k : ℕ). P k (get_or (set xs i x) k d)) (sym same) (subst (P i) (sym (get_or-set_same xs i x d within)) new))
    (λ differs. subst (P n) (sym (get_or-set_other xs i n x d differs)) (done n (omega (arith, less, differs))))
    (cases_eq n i)

-- and so do all where one is changed
pub each_set : {X : Type 0} (P : ℕ → X → Type 0) (xs : List X) (i : ℕ) (x d : X) (count : ℕ) → i < length xs → P i x → ((n : ℕ) → n < count → P n (get_or xs n d))
    → (n : ℕ) → n < count → P n (get_or (set xs i x) n d)
each_set P xs i x d count within new done n less = ⊎_elim
    (λ same. subst (λ (k : ℕ). P k (get_or (set xs i x) k d)) (sym same) (subst (P i) (sym (get_or-set_same xs i x d within)) new))
    (λ differs. subst (P n) (sym (get_or-set_other xs i n x d differs)) (done n less))
    (cases_eq n i)

-- the items behind are as they were
pub same_left : {X : Type 0} (xs old : List X) (i : ℕ) (x : X) → ((k : ℕ) (d : X) → i ≤ k → get_or xs k d ≡ get_or old k d)
    → (k : ℕ) (d : X) → i + 1 ≤ k → get_or (set xs i x) k d ≡ get_or old k d
same_left xs old i x same k d more = get_or-set_other xs i k x d (λ e. omega (arith, e, more)) ∙ same k d (omega (arith, more))

-- a block that the hull of the spans misses stays as it is
pub block_missed : (page : LivingPage) (least deepest more : ℕ) (spans : List Span) (hull : Span) (block : Block) → WasBlock page least deepest spans block → IsHull spans hull → more + 1 ≡ block.offsets + deepest
    → Misses hull block.from more → IsRenewed page least deepest block block
block_missed page least deepest more spans hull block was covers rows misses = record {
  from_offset = refl;
  offsets = refl;
  block = record {
    of_page = was.was.of_page;
    low = was.was.low;
    high = was.was.high;
    some = was.was.some;
    few = was.was.few;
    keys = record {
      long = was.was.keys.long;
      each = λ number numbered.
          key_kept page least deepest number more spans block numbered was none rows (missed number (omega (arith, numbered, was.spanned.long)));
    };
    greatest = was.was.greatest;
    reached = was.was.reached;
  };
}
  where
    none : Span
    none = record { slope = pos 0; first = 0; last = 0 }

    missed : (number : ℕ) → number < length spans → Misses (get_or spans number none) block.from more
    missed number within =
        let inside = covers number none within in
        ⊎_elim (λ before. inl (omega (arith, inside.1, before))) (λ behind. inr (omega (arith, inside.0, behind))) misses

module _ (page : LivingPage) (least deepest number : ℕ) (block : Block) (is : IsBlock page least deepest block) (numbered : number < 65) (deep : deepest ≤ 63) (stretch : Stretch)
    (of : IsStretchOf (slope_of number) block.from block.offsets deepest stretch) where
  -- the lines of a block and a slope are of the page
  pub lines_of_page : IsOfPage page.height stretch
  lines_of_page = record {
    page = is.of_page;
    slope_in = subst IsSlope (sym of.slope_is) (slope_in number numbered);
    low = omega (arith, ints, of.from_is, is.low);
    high = omega (arith, ints, of.from_is, of.offsets_is, is.high);
    some_depth = omega (arith, of.all_shallow);
    shallow = omega (arith, of.all_deep, deep);
  }

  -- and a block stays one where their key is made sharper
  pub sharp_block : (key : ℕ) (new : Block) → IsSharper (IsKeyIn page least stretch) (get_or block.keys number 0) key → new.from ≡ block.from → new.offsets ≡ block.offsets → new.keys ≡ set block.keys number key
      → ((n : ℕ) → get_or new.keys n 0 ≤ new.greatest) → ((n : ℕ) × (n < 65) × (get_or new.keys n 0 ≡ new.greatest)) → IsBlock page least deepest new
  sharp_block key new sharper from_is offsets_is keys_is greatest reached =
      let within : number < length block.keys = omega (arith, numbered, is.keys.long) in
      let bound : IsKeyBound page least (lines_of (slope_of number) block.from block.offsets deepest) key =
      sharper_bound page least (slope_of number) block.from block.offsets deepest stretch of (get_or block.keys number 0) key (is.keys.each number numbered) sharper in
      let keys : AreKeyBounds page least deepest block.from block.offsets (set block.keys number key) = record {
        long = length-set block.keys number key ∙ is.keys.long;
        each = each_set (λ (n k : ℕ). IsKeyBound page least (lines_of (slope_of n) block.from block.offsets deepest) k) block.keys number key 0 65 within bound is.keys.each;
      } in
      block_by page least deepest block.from block.offsets new is.of_page is.low is.high is.some is.few from_is offsets_is
      (subst (λ (ks : List ℕ). AreKeyBounds page least deepest block.from block.offsets ks) (sym keys_is) keys) greatest reached
