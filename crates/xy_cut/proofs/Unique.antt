-- Boxes have one list of cells.
use Rattle.std.proofs.Common.{◌≡◌, ℕ, ◌≤◌, List, [], ◌∷◌, ◌++◌, arith, refl, sym, ap, subst, inl, inr, ⊎_elim, ◌∙◌, All}
use Rattle.std.proofs.lemmas.Bool.{cases_lt}
use Rattle.layout_geom.specs.declared.rect.Rect.{Rect}
use Rattle.layout_geom.specs.Rectangles.{Encloses}
use Rattle.layout_geom.specs.SameSides.{one_least}
use Rattle.xy_cut.specs.declared.axis.Axis.{Axis}
use Rattle.xy_cut.specs.declared.axis.Axis.TheVariants.{Across, Down}
use Rattle.xy_cut.specs.declared.band.Band.{Band}
use Rattle.xy_cut.specs.declared.cell.Cell.{Cell}
use Rattle.xy_cut.specs.declared.cell.Side.{Side}
use Rattle.xy_cut.specs.declared.cell.Side.TheVariants.{Before, After}
use Rattle.xy_cut.specs.Bands.{width_of, IsBestBand, part_of}
use Rattle.xy_cut.specs.Cells.{IsCellOf, AreWhole, IsCut, IsUncut, AreCells, Whole, Parted}

made_band : (a b : Band) → a.axis ≡ b.axis → a.low ≡ b.low → a.high ≡ b.high → a ≡ b
made_band a b axis low high =
    let of : Axis → ℕ → ℕ → Band = λ x m n. record { axis = x; low = m; high = n } in
    ap (λ (x : Axis). of x a.low a.high) axis ∙ ap (λ (n : ℕ). of b.axis n a.high) low ∙ ap (λ (n : ℕ). of b.axis b.low n) high

made_cell : (c d : Cell) → c.path ≡ d.path → c.count ≡ d.count → c.bbox ≡ d.bbox → c ≡ d
made_cell c d way count bbox =
    let of : List Side → ℕ → Rect → Cell = λ w n r. record { path = w; count = n; bbox = r } in
    ap (λ (w : List Side). of w c.count c.bbox) way ∙ ap (λ (n : ℕ). of d.path n c.bbox) count ∙ ap (λ (r : Rect). of d.path d.count r) bbox

module _ (boxes : List Rect) (least : ℕ) where
  not_wider : (a b : Band) → IsBestBand boxes least a → IsBestBand boxes least b → width_of a ≤ width_of b
  not_wider a b first second = ⊎_elim (λ less. absurd (second.best a first.is_band (inl less))) (λ most. most) (cases_lt (width_of b) (width_of a))

  same_way : (a b : Band) → IsBestBand boxes least a → IsBestBand boxes least b → (x y : Axis) → a.axis ≡ x → b.axis ≡ y → width_of a ≡ width_of b → x ≡ y
  same_way a b first second Across Across e f width = refl
  same_way a b first second Across Down e f width = absurd (first.best b second.is_band (inr (inl (sym width, f, e))))
  same_way a b first second Down Across e f width = absurd (second.best a first.is_band (inr (inl (width, e, f))))
  same_way a b first second Down Down e f width = refl

  not_earlier : (a b : Band) → IsBestBand boxes least a → IsBestBand boxes least b → width_of a ≡ width_of b → a.axis ≡ b.axis → b.low ≤ a.low
  not_earlier a b first second width axis = ⊎_elim (λ less. absurd (second.best a first.is_band (inr (inr (width, axis, less))))) (λ most. most) (cases_lt a.low b.low)

  pub one_band : (a b : Band) → IsBestBand boxes least a → IsBestBand boxes least b → a ≡ b
  one_band a b first second =
      let width : width_of a ≡ width_of b = omega (arith, not_wider a b first second, not_wider b a second first) in
      let axis : a.axis ≡ b.axis = same_way a b first second a.axis b.axis refl refl width in
      let low : a.low ≡ b.low = omega (arith, not_earlier a b first second width axis, not_earlier b a second first (sym width) (sym axis)) in
      made_band a b axis low (omega (arith, width, low, first.is_band.wide, second.is_band.wide))

same_cell : (path : List Side) (boxes : List Rect) (c d : Cell) → IsCellOf path boxes c → IsCellOf path boxes d → c ≡ d
same_cell path boxes c d one other =
    made_cell c d (one.way ∙ sym other.way) (one.count ∙ sym other.count) (one_least (λ outer. All (Encloses outer) boxes) c.bbox d.bbox one.round other.round)

same_whole : (path : List Side) (boxes : List Rect) (xs ys : List Cell) → AreWhole path boxes xs → AreWhole path boxes ys → xs ≡ ys
same_whole path [] xs ys one other = one ∙ sym other
same_whole path (box ∷ boxes) xs ys one other =
    let e : one.0 ≡ other.0 = same_cell path (box ∷ boxes) one.0 other.0 one.2 other.2 in
    let f : xs ≡ one.0 ∷ [] = one.1 in
    let g : ys ≡ other.0 ∷ [] = other.1 in
    cc

not_both : (least : ℕ) (path : List Side) (boxes : List Rect) (band : Band) → IsCut least path boxes band → IsUncut least path boxes → ⊥
not_both least path boxes band cut uncut = ⊎_elim (λ full. omega (arith, full, cut.short)) (λ none. none band cut.best.is_band) uncut

whole_one : (least : ℕ) (path : List Side) (boxes : List Rect) (xs ys : List Cell) → IsUncut least path boxes → AreWhole path boxes xs → AreCells least path boxes ys → xs ≡ ys
whole_one least path boxes xs ys uncut whole (Whole p b cells uncut2 whole2) = same_whole p b xs cells whole whole2
whole_one least path boxes xs ys uncut whole (Parted p b band cells others cut first second) = absurd (not_both least p b band cut uncut)

abbrev AreOnly : ℕ → List Side → List Rect → List Cell → Type 0
AreOnly least path boxes cells = (ys : List Cell) → AreCells least path boxes ys → cells ≡ ys

parted_one : (least : ℕ) (path : List Side) (boxes : List Rect) (band : Band) (xs zs ys : List Cell) → IsCut least path boxes band
    → AreOnly least (path ++ Before ∷ []) (part_of band Before boxes) xs → AreOnly least (path ++ After ∷ []) (part_of band After boxes) zs
    → AreCells least path boxes ys → xs ++ zs ≡ ys
parted_one least path boxes band xs zs ys cut before after (Whole p b cells uncut whole) = absurd (not_both least p b band cut uncut)
parted_one least path boxes band xs zs ys cut before after (Parted p b band2 cells others cut2 first second) =
    let same : band2 ≡ band = one_band b least band2 band cut2.best cut.best in
    let left : xs ≡ cells = before cells (subst (λ (w : Band). AreCells least (p ++ Before ∷ []) (part_of w Before b) cells) same first) in
    let right : zs ≡ others = after others (subst (λ (w : Band). AreCells least (p ++ After ∷ []) (part_of w After b) others) same second) in
    cc

pub one_list : (least : ℕ) (path : List Side) (boxes : List Rect) (xs ys : List Cell) → AreCells least path boxes xs → AreCells least path boxes ys → xs ≡ ys
one_list least path boxes xs ys (Whole p b cells uncut whole) other = whole_one least p b cells ys uncut whole other
one_list least path boxes xs ys (Parted p b band cells others cut first second) other =
    parted_one least p b band cells others ys cut
    (λ zs are. one_list least (p ++ Before ∷ []) (part_of band Before b) cells zs first are)
    (λ zs are. one_list least (p ++ After ∷ []) (part_of band After b) others zs second are)
    other
