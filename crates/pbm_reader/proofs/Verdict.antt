-- What the two machines make of an input: its one fault, or none where it spells a page.
use Rattle.std.proofs.Common.{◌≡◌, ℕ, ◌+◌, ◌*◌, min, Bool, false, cond, ltb, List, [], ◌∷◌, ◌++◌, length, Option, Some, None, refl, sym, ap, ◌∙◌, arith}
use Rattle.std.proofs.lemmas.Bool.{lt-ltb, le-ltb}
use Rattle.pbm_reader.specs.declared.fault.PageFault.{PageFault}
use Rattle.pbm_reader.specs.declared.fault.PageFault.TheVariants as faults
use Rattle.pbm_reader.specs.declared.form.Form.{Form}
use Rattle.pbm_reader.specs.declared.form.Form.TheVariants.{Plain, Raw}
use Rattle.pbm_reader.specs.declared.state.HeaderState.{HeaderState}
use Rattle.pbm_reader.specs.declared.state.HeaderState.TheVariants.{Magic, Kind, Named, WidthGap, WidthComment, Width, HeightGap, HeightComment, Height, Whole}
use Rattle.packed_rows.specs.Page.{row_len}
use Rattle.pbm_reader.specs.Spelling.{is_white, HasHeader}
use Rattle.pbm_reader.specs.Header.{next_state}
use Rattle.pbm_reader.specs.Fault.{HasPageHeader}
use Rattle.pbm_reader.proofs.Machines.{run, IsOpen, IsStuck, reached, reached_once}
use Rattle.pbm_reader.proofs.HeaderWalk.{is_whole, header_machine, header_reads}
use Rattle.pbm_reader.proofs.RasterWalk.{RasterState, raster_step, is_done, wanted}
use Rattle.pbm_reader.proofs.RasterWalk.RasterState.{whole}

-- ---- the verdict

-- behind a plain raster, at this offset
abbrev pub tail_verdict : ℕ → List ℕ → Option PageFault
tail_verdict at [] = None
tail_verdict at (byte ∷ bytes) = cond (is_white byte) None (Some (faults.Trailing at))

-- in a plain raster, at this offset
abbrev pub pixel_verdict : ℕ → List ℕ → Option PageFault
pixel_verdict at [] = Some (faults.Truncated at)
pixel_verdict at (byte ∷ bytes) = Some (faults.Pixel at)

abbrev pub plain_verdict : ℕ → RasterState → List ℕ → Option PageFault
plain_verdict at state rest = cond (is_done state) (tail_verdict at rest) (pixel_verdict at rest)

-- behind a header of this length with sizes that a page can have
abbrev pub raster_verdict : Form → ℕ → ℕ → ℕ → List ℕ → Option PageFault
raster_verdict Raw width height len behind =
    let size = height * row_len width in
    cond (ltb (length behind) size) (Some (faults.Truncated (len + length behind))) (cond (ltb size (length behind)) (Some (faults.Trailing (len + size))) None)
raster_verdict Plain width height len behind =
    let r = reached raster_step (wanted (height * width) []) behind in
    plain_verdict (len + length r.front) r.last r.rest

abbrev pub body_verdict : ℕ → List ℕ → Form → ℕ → ℕ → Option PageFault
body_verdict len behind form width height =
    cond (ltb 0 width) (cond (ltb 0 height) (
    cond (ltb 8192 width) (Some (faults.TooLarge width height)) (cond (ltb 8192 height) (Some (faults.TooLarge width height))
    (cond (ltb 33554432 (width * height)) (Some (faults.TooLarge width height)) (raster_verdict form width height len behind))))
    (Some faults.ZeroSize)) (Some faults.ZeroSize)

abbrev pub open_verdict : ℕ → List ℕ → Option PageFault
open_verdict at [] = cond (ltb at 2) (Some (faults.Magic at)) (cond (ltb 65536 at) (Some faults.HeaderTooLong) (Some (faults.Truncated at)))
open_verdict at (byte ∷ bytes) = cond (ltb at 2) (Some (faults.Magic at)) (cond (ltb at 65536) (Some (faults.Header at)) (Some faults.HeaderTooLong))

-- where a header's reading got into this state
abbrev pub head_verdict : ℕ → HeaderState → List ℕ → Option PageFault
head_verdict len (Whole form width height) rest = cond (ltb 65536 len) (Some faults.HeaderTooLong) (body_verdict len rest form width height)
head_verdict len state rest = open_verdict len rest

abbrev pub verdict : List ℕ → Option PageFault
verdict input = let r = reached next_state Magic input in head_verdict (length r.front) r.last r.rest

-- ---- how it is found

pub verdict_at : (front rest : List ℕ) (state : HeaderState) → run next_state Magic front ≡ Some state → IsStuck next_state state rest
    → verdict (front ++ rest) ≡ head_verdict (length front) state rest
verdict_at front rest state reads stays =
    let r = reached next_state Magic (front ++ rest) in
    let s = reached_once next_state Magic r.last state r.front front r.rest rest (sym r.whole) r.reads reads r.stays stays in
    ap (λ (l : List ℕ). head_verdict (length l) r.last r.rest) s.front
    ∙ ap (λ (t : HeaderState). head_verdict (length front) t r.rest) s.last
    ∙ ap (λ (l : List ℕ). head_verdict (length front) state l) s.rest

pub plain_at : (width height len : ℕ) (front rest : List ℕ) (state : RasterState) → run raster_step (wanted (height * width) []) front ≡ Some state → IsStuck raster_step state rest
    → raster_verdict Plain width height len (front ++ rest) ≡ plain_verdict (len + length front) state rest
plain_at width height len front rest state reads stays =
    let start = wanted (height * width) [] in
    let r = reached raster_step start (front ++ rest) in
    let s = reached_once raster_step start r.last state r.front front r.rest rest (sym r.whole) r.reads reads r.stays stays in
    ap (λ (l : List ℕ). plain_verdict (len + length l) r.last r.rest) s.front
    ∙ ap (λ (t : RasterState). plain_verdict (len + length front) t r.rest) s.last
    ∙ ap (λ (l : List ℕ). plain_verdict (len + length front) state l) s.rest

open_at : (len : ℕ) (state : HeaderState) (rest : List ℕ) → is_whole state ≡ false → head_verdict len state rest ≡ open_verdict len rest
open_at len Magic rest o = refl
open_at len Kind rest o = refl
open_at len (Named form) rest o = refl
open_at len (WidthGap form) rest o = refl
open_at len (WidthComment form) rest o = refl
open_at len (Width form width) rest o = refl
open_at len (HeightGap form width) rest o = refl
open_at len (HeightComment form width) rest o = refl
open_at len (Height form width height) rest o = refl
open_at len (Whole form width height) rest o = absurd cc

-- a machine that is done stops
pub done_stuck : (pixels rest : List ℕ) → IsStuck raster_step (whole pixels) rest
done_stuck pixels [] = tt
done_stuck pixels (byte ∷ rest) = refl

pub whole_stuck : (form : Form) (width height : ℕ) (rest : List ℕ) → IsStuck next_state (Whole form width height) rest
whole_stuck form width height [] = tt
whole_stuck form width height (byte ∷ rest) = refl

-- behind a whole header
pub verdict_behind : (input header behind : List ℕ) (form : Form) (width height : ℕ) → HasHeader input header behind form width height
    → verdict input ≡ body_verdict (length header) behind form (min width 999999999) (min height 999999999)
verdict_behind input header behind form width height h =
    let wide = min width 999999999 in
    let high = min height 999999999 in
    ap verdict h.whole
    ∙ verdict_at header behind (Whole form wide high) (header_reads header form width height h.is_header) (whole_stuck form wide high behind)
    ∙ ap (λ (b : Bool). cond b (Some faults.HeaderTooLong) (body_verdict (length header) behind form wide high)) (le-ltb 65536 (length header) h.short)

-- behind a header with sizes that a page can have
pub verdict_sized : (input header behind : List ℕ) (form : Form) (width height : ℕ) → HasPageHeader input header behind form width height
    → verdict input ≡ raster_verdict form width height (length header) behind
verdict_sized input header behind form width height p =
    let s = p.size in
    let wide : min width 999999999 ≡ width = omega (arith, s.width_bound) in
    let high : min height 999999999 ≡ height = omega (arith, s.height_bound) in
    verdict_behind input header behind form width height p.has_header
    ∙ ap (λ (n : ℕ). body_verdict (length header) behind form n (min height 999999999)) wide
    ∙ ap (λ (n : ℕ). body_verdict (length header) behind form width n) high
    ∙ rw (lt-ltb 0 width s.some_width, lt-ltb 0 height s.some_height, le-ltb 8192 width s.width_bound, le-ltb 8192 height s.height_bound, le-ltb 33554432 (width * height) s.area_bound) refl

pub open_reads : (front rest : List ℕ) (state : HeaderState) → IsOpen header_machine front state → IsStuck next_state state rest → verdict (front ++ rest) ≡ open_verdict (length front) rest
open_reads front rest state o stays = verdict_at front rest state o.reads stays ∙ open_at (length front) state rest o.open_yet
