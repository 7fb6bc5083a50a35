-- Pages that are spelled have no black place outside, so those with one picture are one page.
use Rattle.std.proofs.Common.{◌≡◌, ℕ, ◌+◌, ◌*◌, eqb, List, get_or, drop, sym, subst}
use Rattle.pbm_reader.specs.declared.form.Form.{Form}
use Rattle.pbm_reader.specs.declared.form.Form.TheVariants.{Plain, Raw}
use Rattle.packed_rows.specs.Page.{Page, row_len, pixel, IsClipped, HasPicture}
use Rattle.packed_rows.specs.PageLaws.{with_clipped, one_picture}
use Rattle.pbm_reader.specs.Spelling.{SpellsRows, Spells}

rows_clipped : (form : Form) (page : Page) (raster : List ℕ) → SpellsRows form page raster → IsClipped page
rows_clipped Plain page raster rows = subst IsClipped (sym rows.3) (with_clipped page.width page.height (λ x y. eqb (get_or rows.0 (y * page.width + x) 0) 1))
rows_clipped Raw page raster rows = subst IsClipped (sym rows.1) (with_clipped page.width page.height (λ x y. eqb (pixel (drop (y * row_len page.width) raster) x) 1))

pub spelled_clipped : (input : List ℕ) (page : Page) → Spells input page → IsClipped page
spelled_clipped input page s = rows_clipped s.form page s.raster s.rows

pub spelled_once : (a b : List ℕ) (p q : Page) → Spells a p → Spells b q → HasPicture p q → p ≡ q
spelled_once a b p q s t picture = one_picture p q (spelled_clipped a p s) (spelled_clipped b q t) picture
