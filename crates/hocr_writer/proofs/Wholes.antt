-- What is known of the lines and the areas of a layout that can be written.
use Rattle.std.proofs.Common.{◌≡◌, ℕ, zero, suc, ◌+◌, ◌<◌, ◌≤◌, List, [], ◌∷◌, length, get_or, take, drop, sym, ◌∙◌, subst, arith}
use Rattle.std.specs.Prelude.{slice_index}
use Rattle.std.specs.List.{range_with_len}
use Rattle.std.proofs.lemmas.List.FromFn.{get_or-range_with_len, length-range_with_len}
use Rattle.std.proofs.lemmas.List.{get_or-take, get_or-drop, length-take, length-drop}
use Rattle.std.proofs.lemmas.Grind.{get_or_default_zero}
use Rattle.layout_geom.specs.declared.area.Area.{Area}
use Rattle.layout_geom.specs.declared.order.Order.{Order}
use Rattle.layout_geom.specs.declared.order.Order.TheVariants.{Topological, Cycle}
use Rattle.hocr_writer.specs.Listing.{SplitListing, listing, NamesLines}

-- The last area ends at the end.
pub split_below : (from end : ℕ) (areas : List Area) → SplitListing from end areas → from ≤ end
split_below from end [] s = omega (arith, s)
split_below from end (area ∷ areas) s = omega (arith, split_below (from + area.count) end areas s.1)

-- Each area ends at the end or before it.
pub area_within : (from end : ℕ) (areas : List Area) (k : ℕ) (area : Area) → SplitListing from end areas → k < length areas → area ≡ get_or areas k area → area.first + area.count ≤ end
area_within from end [] k area s below is = absurd (omega (arith, below))
area_within from end (a ∷ areas) zero area s below is =
    let P : Area → Type 0 = λ z. z.first + z.count ≤ end in
    subst P (sym is) (omega (arith, s.0, split_below (from + a.count) end areas s.1))
area_within from end (a ∷ areas) (suc k) area s below is = area_within (from + a.count) end areas k area s.1 (omega (arith, below)) is

-- The numbers as they rise are the positions.
pub rising_at : (count position : ℕ) → position < length (range_with_len 0 count) → position ≡ get_or (range_with_len 0 count) position 0
rising_at count position within = omega (arith, get_or-range_with_len 0 count position 0 (omega (arith, within, length-range_with_len 0 count)))

pub rising_below : (count position : ℕ) → position < length (range_with_len 0 count) → position < count
rising_below count position within = omega (arith, within, length-range_with_len 0 count)

-- On a cycle the lines are listed by their numbers.
pub cycle_at : (order : Order) (cycle : List ℕ) (count position : ℕ) → order ≡ Cycle cycle → position < length (listing order count) → (position ≡ slice_index (listing order count) position) × (position < count)
cycle_at order cycle count position is within =
    let P : Order → Type 0 = λ o. position < length (listing o count) → (position ≡ slice_index (listing o count) position) × (position < count) in
    subst P (sym is) (λ inside. (rising_at count position inside, rising_below count position inside)) within

-- A listing has as many lines as there are.
pub listing_long : (order : Order) (count : ℕ) → NamesLines order count → length (listing order count) ≡ count
listing_long (Topological order) count names = names.long
listing_long (Cycle cycle) count names = length-range_with_len 0 count

-- A stretch of a list has the length that was asked for, where the list reaches so far.
pub stretch_long : (xs : List ℕ) (first count : ℕ) → first + count ≤ length xs → length (take count (drop first xs)) ≡ count
stretch_long xs first count within = omega (arith, within, length-take count (drop first xs), length-drop first xs)

-- An item of a stretch, by its place there.
pub stretch_at : (xs : List ℕ) (first count k v : ℕ) → k < count → first + count ≤ length xs → v ≡ get_or xs (first + k) 0 → v ≡ get_or (take count (drop first xs)) k v
stretch_at xs first count k v below within is =
    is ∙ sym (get_or-drop first xs k 0) ∙ sym (get_or-take count (drop first xs) k 0 below)
    ∙ sym (get_or_default_zero (take count (drop first xs)) k v (omega (arith, below, stretch_long xs first count within)))
