-- An input spells at most one page.
use Rattle.std.proofs.Common.{◌≡◌, ℕ, ◌*◌, ◌≤◌, min, List, [], ◌∷◌, ◌++◌, length, refl, sym, ap, subst, ◌∙◌, arith}
use Rattle.std.proofs.lemmas.List.{append-nil}
use Rattle.pbm_reader.specs.declared.form.Form.{Form}
use Rattle.pbm_reader.specs.declared.form.Form.TheVariants.{Plain, Raw}
use Rattle.pbm_reader.specs.declared.state.HeaderState.TheVariants.{Magic, Whole}
use Rattle.packed_rows.specs.Page.{Page}
use Rattle.pbm_reader.specs.Spelling.{MayFollow, SpellsRows, pixels_page, raster_page, Spells}
use Rattle.pbm_reader.specs.Header.{next_state}
use Rattle.pbm_reader.proofs.Machines.{reached_once}
use Rattle.pbm_reader.proofs.HeaderWalk.{header_reads, whole_form, whole_width, whole_height}
use Rattle.pbm_reader.proofs.RasterWalk.{raster_step, wanted, spelled_reads}
use Rattle.pbm_reader.proofs.RasterWalk.RasterState.{whole}
use Rattle.pbm_reader.proofs.Verdict.{whole_stuck, done_stuck}

pub no_tail : (tail : List ℕ) → MayFollow Raw tail → tail ≡ []
no_tail [] f = refl
no_tail (byte ∷ tail) f = absurd f

same_rows : (form : Form) (p q : Page) (a b x y : List ℕ) → SpellsRows form p a → SpellsRows form q b → p.width ≡ q.width → p.height ≡ q.height → a ++ x ≡ b ++ y → MayFollow form x → MayFollow form y
    → p ≡ q
same_rows Raw p q a b x y s t wide high e f g =
    let same : a ≡ b = sym (append-nil a) ∙ ap (λ (l : List ℕ). a ++ l) (sym (no_tail x f)) ∙ e ∙ ap (λ (l : List ℕ). b ++ l) (no_tail y g) ∙ append-nil b in
    s.1
    ∙ ap (λ (n : ℕ). raster_page n p.height a) wide
    ∙ ap (λ (n : ℕ). raster_page q.width n a) high
    ∙ ap (λ (l : List ℕ). raster_page q.width q.height l) same
    ∙ sym t.1
same_rows Plain p q a b x y s t wide high e f g =
    let count = p.height * p.width in
    let other : length t.0 ≡ count = t.1 ∙ sym (ap (λ (n : ℕ). n * p.width) high ∙ ap (λ (n : ℕ). q.height * n) wide) in
    let r = reached_once raster_step (wanted count []) (whole s.0) (whole t.0) a b x y e (spelled_reads s.0 a count s.2 s.1) (spelled_reads t.0 b count t.2 other) (done_stuck s.0 x) (done_stuck t.0 y) in
    s.3
    ∙ ap (λ (n : ℕ). pixels_page n p.height s.0) wide
    ∙ ap (λ (n : ℕ). pixels_page q.width n s.0) high
    ∙ ap (λ (l : List ℕ). pixels_page q.width q.height l) (pixels_is s.0 t.0 r.last)
    ∙ sym t.3
  where
    pixels_is : (u v : List ℕ) → whole u ≡ whole v → u ≡ v
    pixels_is u v e = cc

-- sizes of pages that are told alike are alike
pub size_is : (m n : ℕ) → m ≤ 8192 → n ≤ 8192 → min m 999999999 ≡ min n 999999999 → m ≡ n
size_is m n x y e = omega (arith, e, x, y)

-- an input spells at most one page
pub one_page : (input : List ℕ) (p q : Page) → Spells input p → Spells input q → p ≡ q
one_page input p q s t =
    let a = s.has_header in
    let b = t.has_header in
    let wide = min p.width 999999999 in
    let high = min p.height 999999999 in
    let wider = min q.width 999999999 in
    let higher = min q.height 999999999 in
    let r = reached_once next_state Magic (Whole s.form wide high) (Whole t.form wider higher) s.header t.header (s.raster ++ s.tail) (t.raster ++ t.tail) (sym a.whole ∙ b.whole)
    (header_reads s.header s.form p.width p.height a.is_header) (header_reads t.header t.form q.width q.height b.is_header)
    (whole_stuck s.form wide high (s.raster ++ s.tail)) (whole_stuck t.form wider higher (t.raster ++ t.tail)) in
    let form : s.form ≡ t.form = whole_form s.form t.form wide high wider higher r.last in
    let same_width : p.width ≡ q.width = size_is p.width q.width s.size.width_bound t.size.width_bound (whole_width s.form t.form wide high wider higher r.last) in
    let same_height : p.height ≡ q.height = size_is p.height q.height s.size.height_bound t.size.height_bound (whole_height s.form t.form wide high wider higher r.last) in
    let rows = subst (λ (f : Form). SpellsRows f p s.raster) form s.rows in
    let follows = subst (λ (f : Form). MayFollow f s.tail) form s.follows in
    same_rows t.form p q s.raster t.raster s.tail t.tail rows t.rows same_width same_height r.rest follows t.follows
