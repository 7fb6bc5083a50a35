-- The best band along both axes.
use Rattle.std.proofs.Common.{◌≡◌, ℕ, ◌<◌, ◌≤◌, List, Option, Some, None, arith, refl, sym, subst, ⊎_elim, ◌∙◌}
use Rattle.std.specs.List.Sorted.{IsPermutation}
use Rattle.std.proofs.lemmas.List.Sorted.{All-permutation, IsPermutation-sym}
use Rattle.layout_geom.specs.declared.rect.Rect.{Rect}
use Rattle.xy_cut.specs.declared.axis.Axis.{Axis}
use Rattle.xy_cut.specs.declared.axis.Axis.TheVariants.{Across, Down}
use Rattle.xy_cut.specs.declared.band.Band.{Band}
use Rattle.xy_cut.specs.Bands.{width_of, IsBand, IsBandAlong, IsBetter, IsBestBand}
use Rattle.xy_cut.specs.Widest.{IsInOrder, IsWider, Leads, IsWidestAlong, IsBestOf}
use Rattle.xy_cut.proofs.Lists.{any_moved}
use Rattle.xy_cut.proofs.Bands.{EndsAt, BeginsAt, LiesApart}

band_moved : (axis : Axis) (xs ys : List Rect) (least low high : ℕ) → IsPermutation xs ys → IsBandAlong axis xs least low high → IsBandAlong axis ys least low high
band_moved axis xs ys least low high moved band = record {
  wide = band.wide;
  apart = All-permutation (LiesApart axis low high) xs ys moved band.apart;
  ends = any_moved (EndsAt axis low) xs ys moved band.ends;
  begins = any_moved (BeginsAt axis high) xs ys moved band.begins;
}

-- the order of the boxes does not matter
pub widest_moved : (axis : Axis) (boxes line : List Rect) (least : ℕ) (widest : Option Band) → IsInOrder axis boxes line
    → IsWidestAlong axis line least widest → IsWidestAlong axis boxes least widest
widest_moved axis boxes line least (Some band) order is = (
  is.0,
  band_moved axis line boxes least band.low band.high (IsPermutation-sym boxes line order.rearranged) is.1,
  λ low high other. is.2 low high (band_moved axis boxes line least low high order.rearranged other),
)
widest_moved axis boxes line least None order is = λ low high other. is low high (band_moved axis boxes line least low high order.rearranged other)

-- a band is no better than one along the same axis that leads it
along : (band other : Band) → other.axis ≡ band.axis → Leads band other.low other.high → IsBetter other band → ⊥
along band other same leads better =
    ⊎_elim
    (λ wider. omega (arith, wider, leads.wide))
    (λ rest. ⊎_elim
    (λ ways. let e : Down ≡ Across = sym ways.1 ∙ same ∙ ways.2 in cc)
    (λ earlier. omega (arith, earlier.0, earlier.2, leads.early earlier.0))
    rest)
    better

-- nor one from left to right than one down that is as wide
no_wider : (band other : Band) → band.axis ≡ Down → other.axis ≡ Across → width_of other ≤ width_of band → IsBetter other band → ⊥
no_wider band other down across most better =
    ⊎_elim
    (λ wider. omega (arith, wider, most))
    (λ rest. ⊎_elim
    (λ ways. let e : Down ≡ Across = sym ways.1 ∙ across in cc)
    (λ earlier. let e : Across ≡ Down = sym across ∙ earlier.1 ∙ down in cc)
    rest)
    better

-- nor one down than one from left to right that is wider
narrower : (band other : Band) → band.axis ≡ Across → other.axis ≡ Down → width_of other < width_of band → IsBetter other band → ⊥
narrower band other across down less better =
    ⊎_elim
    (λ wider. omega (arith, wider, less))
    (λ rest. ⊎_elim
    (λ ways. omega (arith, ways.0, less))
    (λ earlier. omega (arith, earlier.0, less))
    rest)
    better

module _ (boxes : List Rect) (least : ℕ) where
  by_axis : (Q : Band → Type 0) → ((b : Band) → b.axis ≡ Across → IsBandAlong Across boxes least b.low b.high → Q b)
      → ((b : Band) → b.axis ≡ Down → IsBandAlong Down boxes least b.low b.high → Q b) → (b : Band) (axis : Axis) → b.axis ≡ axis → IsBandAlong axis boxes least b.low b.high → Q b
  by_axis Q across down b Across e is = across b e is
  by_axis Q across down b Down e is = down b e is

  is_band : (b : Band) (axis : Axis) → b.axis ≡ axis → IsBandAlong axis boxes least b.low b.high → IsBand boxes least b
  is_band b axis e is = subst (λ a. IsBandAlong a boxes least b.low b.high) (sym e) is

  -- no band from left to right
  pub only_down : (down : Option Band) → IsWidestAlong Across boxes least None → IsWidestAlong Down boxes least down → IsBestOf boxes least down
  only_down (Some d) none is = record {
    is_band = is_band d Down is.0 is.1;
    best = λ other there. by_axis (λ b. IsBetter b d → ⊥)
        (λ b e across. absurd (none b.low b.high across))
        (λ b e there. along d b (e ∙ sym is.0) (is.2 b.low b.high there))
        other other.axis refl there;
  }
  only_down None none is = λ other there. by_axis (λ b. ⊥) (λ b e across. none b.low b.high across) (λ b e there. is b.low b.high there) other other.axis refl there

  -- one from left to right, and maybe one down
  pub best_of_both : (across winner : Band) (down : Option Band) → IsWidestAlong Across boxes least (Some across) → IsWidestAlong Down boxes least down
      → IsWider down across winner → IsBestOf boxes least (Some winner)
  best_of_both a winner (Some d) first second wins =
      ⊎_elim
      (λ old. subst (IsBestBand boxes least) (sym old.0) (record {
        is_band = is_band d Down second.0 second.1;
        best = λ other there. by_axis (λ b. IsBetter b d → ⊥)
            (λ b e across. let leads : Leads a b.low b.high = first.2 b.low b.high across in no_wider d b second.0 e (omega (arith, leads.wide, old.1)))
            (λ b e there. along d b (e ∙ sym second.0) (second.2 b.low b.high there))
            other other.axis refl there;
      }))
      (λ new. subst (IsBestBand boxes least) (sym new.0) (record {
        is_band = is_band a Across first.0 first.1;
        best = λ other there. by_axis (λ b. IsBetter b a → ⊥)
            (λ b e there. along a b (e ∙ sym first.0) (first.2 b.low b.high there))
            (λ b e down. let leads : Leads d b.low b.high = second.2 b.low b.high down in narrower a b first.0 e (omega (arith, leads.wide, new.1)))
            other other.axis refl there;
      }))
      wins
  best_of_both a winner None first second wins = subst (IsBestBand boxes least) (sym wins) (record {
    is_band = is_band a Across first.0 first.1;
    best = λ other there. by_axis (λ b. IsBetter b a → ⊥)
        (λ b e there. along a b (e ∙ sym first.0) (first.2 b.low b.high there))
        (λ b e down. absurd (second b.low b.high down))
        other other.axis refl there;
  })
