-- A page has too many components or blocks for a plan exactly where it does not have few.
use Rattle.std.proofs.Common.{◌≡◌, ◌∙◌, ℕ, true, List, map, refl, sym, ap, subst, inl, inr}
use Rattle.pbm_reader.specs.Page.{Page}
use Rattle.packed_rows.specs.Page.{page_with}
use Rattle.layout_geom.specs.declared.rect.Rect.{Rect}
use Rattle.layout_geom.specs.Rectangles.{height_of}
use Rattle.components.specs.declared.kept.Kept.{Kept}
use Rattle.components.specs.Kept.{IsKeptOf, IsLowerMedian, KeptIsUnique}
use Rattle.run_smear.specs.Smear.{SmearIsUnique}
use Rattle.hocr_writer.specs.declared.layout.Layout.{Layout}
use Rattle.command_words.specs.declared.plan.Plan.{Plan}
use Rattle.layout_core.specs.ShownBlocks.{IsBlockSmear, AreBlocksOf, AreShownBlocks}
use Rattle.layout_core.specs.Layouts.{HasFewComponents, HasFewBlocks, HasFew, HasTooMany, IsLayoutAs}
use Rattle.layout_core.proofs.Components.{few_components, one_count, few_kept}
use Rattle.layout_core.proofs.Stable.{one_rising}

pub one_median : (xs ys : List ℕ) (m n : ℕ) → xs ≡ ys → IsLowerMedian xs m → IsLowerMedian ys n → m ≡ n
one_median xs ys m n same is is_too =
    let here : IsLowerMedian ys m = rw same at is in
    let rising : here.rising ≡ is_too.rising = one_rising ys here.rising is_too.rising here.rearranged here.rises is_too.rearranged is_too.rises in
    here.middle ∙ rw rising (sym is_too.middle)

-- a page has one smear whose components are its blocks
pub one_block_smear : KeptIsUnique → SmearIsUnique → (page : Page) (k l : Kept) (s t : Page) → IsKeptOf page k → IsKeptOf page l → IsBlockSmear page k.median s → IsBlockSmear page l.median t → s ≡ t
one_block_smear kept smear page k l s t is is_too first second =
    let boxes : k.boxes ≡ l.boxes = (kept page).one_list k.boxes l.boxes is.boxes is_too.boxes in
    let medians : k.median ≡ l.median = one_median (map height_of k.boxes) (map height_of l.boxes) k.median l.median (ap (map height_of) boxes) is.median is_too.median in
    smear (page_with page.width page.height page.is_black) s t _ _ (subst (λ (m : ℕ). IsBlockSmear page m s) medians first) second

pub few_or_many : KeptIsUnique → SmearIsUnique → (plan : Plan) (page : Page) (count : ℕ) → HasFew plan page → HasTooMany plan page count → ⊥
few_or_many kept smear plan page count few (inl many) = few_components kept page count few.components many
few_or_many kept smear plan page count few (inr shown) =
    let f = few.blocks shown.0 in
    let m = shown.1 in
    let same : f.smear ≡ m.smear = one_block_smear kept smear page f.kept m.kept f.smear m.smear f.is_kept m.is_kept f.is_smear m.is_smear in
    few_components kept m.smear count (subst (λ (p : Page). HasFewComponents p) same f.few) m.many

-- a page has one number of components or blocks that are too many
one_here : KeptIsUnique → SmearIsUnique → (plan : Plan) (page : Page) (m n : ℕ) → HasTooMany plan page m → HasTooMany plan page n → m ≡ n
one_here kept smear plan page m n (inl many) (inl many_too) = one_count kept page m n many many_too
one_here kept smear plan page m n (inl many) (inr shown) = absurd (few_components kept page m (few_kept page shown.1.kept shown.1.is_kept) many)
one_here kept smear plan page m n (inr shown) (inl many) = absurd (few_components kept page n (few_kept page shown.1.kept shown.1.is_kept) many)
one_here kept smear plan page m n (inr shown) (inr shown_too) =
    let f = shown.1 in
    let g = shown_too.1 in
    let same : f.smear ≡ g.smear = one_block_smear kept smear page f.kept g.kept f.smear g.smear f.is_kept g.is_kept f.is_smear g.is_smear in
    let many = rw same at f.many in
    one_count kept g.smear m n many g.many

pub one_number : KeptIsUnique → SmearIsUnique → (plan : Plan) (page other : Page) (m n : ℕ) → page ≡ other → HasTooMany plan page m → HasTooMany plan other n → m ≡ n
one_number kept smear plan page other m n same many many_too = one_here kept smear plan other m n (subst (λ (p : Page). HasTooMany plan p m) same many) many_too

few_blocks : (page : Page) (kept : Kept) (blocks : List Rect) → IsKeptOf page kept → AreBlocksOf page kept.median blocks → HasFewBlocks page
few_blocks page kept blocks is are =
    record { kept = kept; is_kept = is; smear = are.smear; is_smear = are.is_smear; few = record { boxes = blocks; are_kept = are.are_kept; few = are.few } }

-- a page with a layout has few
pub few_of : (number : ℕ) (plan : Plan) (page : Page) (layout : Layout) → IsLayoutAs number plan page layout → HasFew plan page
few_of number plan page layout l =
    record {
      components = few_kept page l.kept l.is_kept;
      blocks = λ shown. few_blocks page l.kept layout.blocks l.is_kept (subst (λ b. AreShownBlocks b page l.kept.median layout.blocks) shown l.blocks_are);
    }
