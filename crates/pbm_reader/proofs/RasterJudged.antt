-- An input whose header a page can have spells a page, or has a fault in its raster or behind it.
use Rattle.std.proofs.Common.{◌≡◌, ℕ, ◌+◌, ◌-◌, ◌*◌, ◌<◌, ◌≤◌, ◌⊎◌, Bool, true, false, List, [], ◌∷◌, ◌++◌, length, take, drop, replicate, refl, sym, ap, subst, ◌∙◌, inl, inr, arith}
use Rattle.std.proofs.lemmas.Bool.{cases_lt}
use Rattle.std.proofs.lemmas.List.{append-nil, length-append, length-take-le, take-append-drop, length-replicate}
use Rattle.pbm_reader.specs.declared.fault.PageFault.{PageFault}
use Rattle.pbm_reader.specs.declared.fault.PageFault.TheVariants as faults
use Rattle.pbm_reader.specs.declared.form.Form.{Form}
use Rattle.pbm_reader.specs.declared.form.Form.TheVariants.{Plain, Raw}
use Rattle.packed_rows.specs.Page.{Page, row_len}
use Rattle.pbm_reader.specs.Spelling.{is_white, IsRaster, MayFollow, SpellsRows, SpellsPixels, pixels_page, raster_page, IsPage}
use Rattle.pbm_reader.specs.Fault.{IsFrontOf, HasPageHeader, HasFaultWithin}
use Rattle.pbm_reader.proofs.Machines.{IsRead, IsOpen, IsStuck, Reached, reached, front_of, stops_of, front_map, stops_map}
use Rattle.pbm_reader.proofs.RasterWalk.{RasterState, raster_step, is_done, wanted, raster_machine, read_pixels, raster_is_read, read_is_raster}
use Rattle.pbm_reader.proofs.Gaps.{not_both}

-- the input spells a page, or has a fault within the limit
abbrev pub JudgedWithin : List ℕ → Type 0
JudgedWithin input = IsPage input ⊎ ((fault : PageFault) × HasFaultWithin input fault)

-- ---- what stands behind a header with sizes that a page can have

-- the input ends before its raster is whole
ends_early : (input header behind : List ℕ) (form : Form) (width height : ℕ) → HasPageHeader input header behind form width height → length input ≤ 268435456
    → IsFrontOf (IsRaster form width height) behind → JudgedWithin input
ends_early input header behind form width height h short begins = inr (
  faults.Truncated (length input),
  record {
    end = refl;
    short = short;
    part = inr (record { form = form; width = width; height = height; header = header; behind = behind; has_header = h; begins = begins });
  },
)

-- a byte stands behind the raster that may not follow it
trails : (input header raster more : List ℕ) (byte : ℕ) (form : Form) (width height : ℕ) → HasPageHeader input header (raster ++ byte ∷ more) form width height → length input ≤ 268435456
    → IsRaster form width height raster → (MayFollow form (byte ∷ []) → ⊥) → JudgedWithin input
trails input header raster more byte form width height h short is refused =
    let total = ap length h.has_header.whole ∙ length-append header (raster ++ byte ∷ more) in
    inr (
      faults.Trailing (length header + length raster),
      record {
        form = form;
        width = width;
        height = height;
        header = header;
        raster = raster;
        byte = byte;
        more = more;
        has_header = h;
        is_raster = is;
        refused = refused;
        place_is = refl;
        low = omega (arith, total, length-append raster (byte ∷ more), short);
      },
    )

-- the raster is whole, and what stands behind it may follow it
is_page : (input header raster tail : List ℕ) (form : Form) (page : Page) → HasPageHeader input header (raster ++ tail) form page.width page.height → length input ≤ 268435456
    → SpellsRows form page raster → MayFollow form tail → JudgedWithin input
is_page input header raster tail form page h short rows follows =
    inl (page, record { form = form; header = header; raster = raster; tail = tail; has_header = h.has_header; size = h.size; rows = rows; follows = follows; short = short })

-- ---- a raw raster

-- a part of a raw raster begins one
pub raw_begins : (width height : ℕ) (part : List ℕ) → length part < height * row_len width → IsFrontOf (IsRaster Raw width height) part
raw_begins width height part lt =
    let missing = height * row_len width - length part in
    record {
      rest = replicate missing 0;
      some = omega (arith, length-replicate {A = ℕ} missing 0, lt);
      is_text = omega (arith, length-append part (replicate missing 0), length-replicate {A = ℕ} missing 0, lt);
    }

raw_judged : (input header behind : List ℕ) (width height : ℕ) → HasPageHeader input header behind Raw width height → length input ≤ 268435456 → JudgedWithin input
raw_judged input header behind width height h short =
    let size = height * row_len width in
    elim (cases_lt (length behind) size) [
      | inl fewer ↦ ends_early input header behind Raw width height h short (raw_begins width height behind fewer)
      | inr enough ↦
          let split : behind ≡ take size behind ++ drop size behind = sym (take-append-drop size behind) in
          let P : List ℕ → Type 0 = λ l. HasPageHeader input header l Raw width height in
          by_rest (take size behind) (drop size behind) (length-take-le size behind enough) (subst P split h)
    ]
  where
    by_rest : (raster rest : List ℕ) → length raster ≡ height * row_len width → HasPageHeader input header (raster ++ rest) Raw width height → JudgedWithin input
    by_rest raster [] len has = is_page input header raster [] Raw (raster_page width height raster) has short (len, refl) tt
    by_rest raster (byte ∷ rest) len has = trails input header raster rest byte Raw width height has short len (λ f. f)

-- ---- a plain raster

-- a plain raster that begins with these bytes, which lead to an open state
pub plain_begins : (width height : ℕ) (part : List ℕ) (t : RasterState) → IsOpen (raster_machine (height * width)) part t → IsFrontOf (IsRaster Plain width height) part
plain_begins width height part t o =
    front_map (IsRead (raster_machine (height * width))) (IsRaster Plain width height) part (λ l r. read_is_raster width height l r) (front_of (raster_machine (height * width)) part t o)

plain_judged : (input header behind : List ℕ) (width height : ℕ) → HasPageHeader input header behind Plain width height → length input ≤ 268435456 → JudgedWithin input
plain_judged input header behind width height h short = cases (reached raster_step (wanted (height * width) []) behind)
  where
    P : List ℕ → Type 0
    P l = HasPageHeader input header l Plain width height

    page : (front rest pixels : List ℕ) → P (front ++ rest) → SpellsPixels pixels front → length pixels ≡ height * width → MayFollow Plain rest → JudgedWithin input
    page front rest pixels has spelled len follows = is_page input header front rest Plain (pixels_page width height pixels) has short (pixels, len, spelled, refl) follows

    behind_raster : (front rest pixels : List ℕ) → P (front ++ rest) → SpellsPixels pixels front → length pixels ≡ height * width → JudgedWithin input
    behind_raster front [] pixels has spelled len = page front [] pixels has spelled len tt
    behind_raster front (byte ∷ rest) pixels has spelled len = by_white (is_white byte) refl
      where
        by_white : (b : Bool) → is_white byte ≡ b → JudgedWithin input
        by_white true w = page front (byte ∷ rest) pixels has spelled len w
        by_white false w = trails input header front rest byte Plain width height has short (pixels, len, spelled) (λ t. not_both (is_white byte) t w)

    in_raster : (front rest : List ℕ) (t : RasterState) → P (front ++ rest) → IsOpen (raster_machine (height * width)) front t → IsStuck raster_step t rest → JudgedWithin input
    in_raster front [] t has o stays = ends_early input header front Plain width height (subst P (append-nil front) has) short (plain_begins width height front t o)
    in_raster front (byte ∷ rest) t has o stays =
        let total = ap length has.has_header.whole ∙ length-append header (front ++ byte ∷ rest) in
        inr (
          faults.Pixel (length header + length front),
          record {
            width = width;
            height = height;
            header = header;
            behind = front ++ byte ∷ rest;
            has_header = has;
            place = length front;
            stops = stops_map (IsRead (raster_machine (height * width))) (IsRaster Plain width height) (front ++ byte ∷ rest) (length front)
                (λ l r. read_is_raster width height l r) (λ l r. raster_is_read width height l r)
                (stops_of (raster_machine (height * width)) front byte rest t o stays);
            place_is = refl;
            low = omega (arith, total, length-append front (byte ∷ rest), short);
          },
        )

    cases : Reached raster_step (wanted (height * width) []) behind → JudgedWithin input
    cases r = by_state (is_done r.last) refl
      where
        by_state : (b : Bool) → is_done r.last ≡ b → JudgedWithin input
        by_state true d = let s = read_pixels (height * width) r.front r.last r.reads d in behind_raster r.front r.rest s.more (subst P r.whole h) s.spelled s.count
        by_state false d = in_raster r.front r.rest r.last (subst P r.whole h) (record { reads = r.reads; open_yet = d }) r.stays

pub sized_judged : (input header behind : List ℕ) (form : Form) (width height : ℕ) → HasPageHeader input header behind form width height → length input ≤ 268435456 → JudgedWithin input
sized_judged input header behind Plain width height h short = plain_judged input header behind width height h short
sized_judged input header behind Raw width height h short = raw_judged input header behind width height h short
