-- No place outside of a page that is kept as runs is black.
use Rattle.std.proofs.Common.{◌≡◌, ◌<◌, ◌∙◌, ℕ, refl, sym}
use Rattle.std.specs.List.{list_any}
use Rattle.std.proofs.lemmas.Bool.{lt-ltb}
use Rattle.packed_rows.specs.Page.{Page, page_with, IsClipped}
use Rattle.packed_rows.specs.PageLaws.{with_clipped, one_picture}
use Rattle.page_runs.specs.Packed.{Packed, Holds, page_of, row_of}
use Rattle.page_runs.specs.Runs.{has_column}

pub page_clipped : (p : Packed) → IsClipped (page_of p)
unfolding page_of
page_clipped p = with_clipped p.width p.height (λ x y. list_any (has_column x) (row_of p y))

inside : (page : Page) (x y : ℕ) → x < page.width → y < page.height → (page_with page.width page.height page.is_black).is_black x y ≡ page.is_black x y
inside page x y in_row in_column = rw (lt-ltb x page.width in_row, lt-ltb y page.height in_column) refl

-- runs are kept of one page, but for what is told of places outside of it
pub held_page : (p : Packed) (held : Page) → Holds p held → page_of p ≡ page_with held.width held.height held.is_black
held_page p held holds =
    one_picture (page_of p) (page_with held.width held.height held.is_black) (page_clipped p) (with_clipped held.width held.height held.is_black)
    (record {
      width_is = holds.width_is;
      height_is = holds.height_is;
      same = λ x y in_row in_column. holds.same x y in_row in_column ∙ sym (inside held x y in_row in_column);
    })
