-- An input's fault is the verdict, and where it spells a page there is none.
use Rattle.std.proofs.Common.{◌≡◌, ℕ, ◌+◌, ◌*◌, ◌<◌, ◌≤◌, ◌⊎◌, min, Bool, true, false, cond, eqb, ltb, List, [], ◌∷◌, ◌++◌, length, Some, None, refl, sym, ap, subst, ◌∙◌, append_assoc, inl, inr, arith}
use Rattle.std.proofs.lemmas.Bool.{cases_lt, lt-ltb, le-ltb, ne_eqb, false_from_ne_true}
use Rattle.std.proofs.lemmas.List.{append-nil, length-append}
use Rattle.pbm_reader.specs.declared.fault.PageFault.{PageFault}
use Rattle.pbm_reader.specs.declared.fault.PageFault.TheVariants as faults
use Rattle.pbm_reader.specs.declared.form.Form.{Form}
use Rattle.pbm_reader.specs.declared.form.Form.TheVariants.{Plain, Raw}
use Rattle.pbm_reader.specs.declared.state.HeaderState.{HeaderState}
use Rattle.pbm_reader.specs.declared.state.HeaderState.TheVariants.{Magic, Kind, Named, WidthGap, WidthComment, Width, HeightGap, HeightComment, Height, Whole}
use Rattle.packed_rows.specs.Page.{Page, row_len}
use Rattle.pbm_reader.specs.Spelling.{is_white, magic, IsSomeHeader, IsRaster, MayFollow, SpellsRows, Spells}
use Rattle.pbm_reader.specs.Header.{next_state}
use Rattle.pbm_reader.specs.Fault.{HasMagic, IsFrontOf, IsMagicFault, IsHeaderFault, IsHeaderTooLong, EndsInHeader, EndsInRaster, IsZeroSize, IsTooLarge, IsPixelFault, IsTrailing, HasFaultWithin}
use Rattle.pbm_reader.proofs.Machines.{run, run_append, IsOpen, IsStuck, reached, reached_once, front_map, stops_map, front_state, stops_state}
use Rattle.pbm_reader.proofs.HeaderWalk.{is_whole, header_machine, is_read, is_header}
use Rattle.pbm_reader.proofs.RasterWalk.{RasterState, raster_step, is_done, wanted, raster_machine, spelled_reads, raster_is_read, read_is_raster}
use Rattle.pbm_reader.proofs.RasterWalk.RasterState.{whole}
use Rattle.pbm_reader.proofs.Gaps.{some_is, not_both}
use Rattle.pbm_reader.proofs.Verdict.{tail_verdict, raster_verdict, body_verdict, open_verdict, head_verdict, verdict, verdict_at, plain_at, done_stuck, verdict_behind, verdict_sized, open_reads}

-- ---- each fault is the verdict

header_front : (bytes : List ℕ) → IsFrontOf IsSomeHeader bytes → (t : HeaderState) × IsOpen header_machine bytes t
header_front bytes f = front_state header_machine bytes (front_map IsSomeHeader (λ l. (t : HeaderState) × (run next_state Magic l ≡ Some t) × (is_whole t ≡ true)) bytes is_read f)

head_is : (x y : ℕ) (xs ys : List ℕ) → x ∷ xs ≡ y ∷ ys → x ≡ y
head_is x y xs ys e = cc

magic_verdict : (input : List ℕ) (at : ℕ) → IsMagicFault input at → verdict input ≡ Some (faults.Magic at)
magic_verdict [] at (inl f) = open_reads [] [] Magic (record { reads = refl; open_yet = refl }) tt ∙ ap (λ (n : ℕ). Some (faults.Magic n)) (sym f.0)
magic_verdict (byte ∷ bytes) at (inl f) =
    let other : eqb byte 80 ≡ false = ne_eqb byte 80 (λ e. f.1 (bytes, ap (λ (b : ℕ). b ∷ bytes) e)) in
    open_reads [] (byte ∷ bytes) Magic (record { reads = refl; open_yet = refl }) (rw other refl) ∙ ap (λ (n : ℕ). Some (faults.Magic n)) (sym f.0)
magic_verdict input at (inr f) =
    ap verdict f.1.1
    ∙ open_reads (80 ∷ []) f.1.0 Kind (record { reads = refl; open_yet = refl }) (stays f.1.0 (λ m. f.2 (subst HasMagic (sym f.1.1) m)))
    ∙ one f.1.0
    ∙ ap (λ (n : ℕ). Some (faults.Magic n)) (sym f.0)
  where
    stays : (rest : List ℕ) → (HasMagic (80 ∷ rest) → ⊥) → IsStuck next_state Kind rest
    stays [] none = tt
    stays (byte ∷ rest) none =
        let not_one : eqb byte 49 ≡ false = ne_eqb byte 49 (λ e. none (inl (rest, ap (λ (b : ℕ). 80 ∷ b ∷ rest) e))) in
        let not_four : eqb byte 52 ≡ false = ne_eqb byte 52 (λ e. none (inr (rest, ap (λ (b : ℕ). 80 ∷ b ∷ rest) e))) in
        rw (not_one, not_four) refl

    one : (rest : List ℕ) → open_verdict (length {A = ℕ} (80 ∷ [])) rest ≡ Some (faults.Magic 1)
    one [] = refl
    one (byte ∷ rest) = refl

-- a machine that reads the form's name does not stop before
not_in_name : (input front more : List ℕ) (byte : ℕ) (state : HeaderState) → HasMagic input → input ≡ front ++ byte ∷ more → run next_state Magic front ≡ Some state → next_state state byte ≡ None
    → 2 ≤ length front
not_in_name input front more byte state m e reads stop = by_form m
  where
    reaches : (form : Form) (rest : List ℕ) → input ≡ magic form ++ rest → run next_state Magic (magic form) ≡ Some (Named form) → length (magic form) ≡ 2 → 2 ≤ length front
    reaches form rest split named two =
        let r = reached next_state (Named form) rest in
        let all : input ≡ (magic form ++ r.front) ++ r.rest = split ∙ ap (λ (l : List ℕ). magic form ++ l) r.whole ∙ sym (append_assoc (magic form) r.front r.rest) in
        let goes = run_append next_state Magic (Named form) (magic form) r.front named ∙ r.reads in
        let s = reached_once next_state Magic state r.last front (magic form ++ r.front) (byte ∷ more) r.rest (sym e ∙ all) reads goes stop r.stays in
        omega (arith, ap length s.front, length-append (magic form) r.front, two)

    by_form : HasMagic input → 2 ≤ length front
    by_form (inl one) = reaches Plain one.0 one.1 refl refl
    by_form (inr four) = reaches Raw four.0 four.1 refl refl

stop_verdict : (at : ℕ) (byte : ℕ) (more : List ℕ) → 2 ≤ at → at < 65536 → open_verdict at (byte ∷ more) ≡ Some (faults.Header at)
stop_verdict at byte more le lt = rw (le-ltb at 2 le, lt-ltb at 65536 lt) refl

header_verdict : (input : List ℕ) (at : ℕ) → IsHeaderFault input at → verdict input ≡ Some (faults.Header at)
header_verdict input at f =
    let IsReadHeader : List ℕ → Type 0 = λ l. (t : HeaderState) × (run next_state Magic l ≡ Some t) × (is_whole t ≡ true) in
    let s = stops_map IsSomeHeader IsReadHeader input at is_read is_header f.stops in
    let t = stops_state header_machine input at s in
    let two = not_in_name input s.front s.more s.byte t.0 f.magic s.whole t.1.reads t.2 in
    let low : length s.front < 65536 = omega (arith, f.low, s.place) in
    ap verdict s.whole
    ∙ open_reads s.front (s.byte ∷ s.more) t.0 t.1 t.2
    ∙ stop_verdict (length s.front) s.byte s.more two low
    ∙ ap (λ (n : ℕ). Some (faults.Header n)) (sym s.place)

-- where a machine reads on behind an open state
long_verdict : (len : ℕ) (state : HeaderState) (rest : List ℕ) → 65536 ≤ len → (rest ≡ [] → 65536 < len) → (is_whole state ≡ true → 65536 < len) → head_verdict len state rest ≡ Some faults.HeaderTooLong
long_verdict len state rest le none done = cases state refl
  where
    by_rest : (l : List ℕ) → rest ≡ l → open_verdict len l ≡ Some faults.HeaderTooLong
    by_rest [] e = let lt = none e in rw (le-ltb len 2 (omega (arith, le)), lt-ltb 65536 len lt) refl
    by_rest (byte ∷ more) e = rw (le-ltb len 2 (omega (arith, le)), le-ltb len 65536 le) refl

    cases : (s : HeaderState) → state ≡ s → head_verdict len s rest ≡ Some faults.HeaderTooLong
    cases Magic e = by_rest rest refl
    cases Kind e = by_rest rest refl
    cases (Named form) e = by_rest rest refl
    cases (WidthGap form) e = by_rest rest refl
    cases (WidthComment form) e = by_rest rest refl
    cases (Width form width) e = by_rest rest refl
    cases (HeightGap form width) e = by_rest rest refl
    cases (HeightComment form width) e = by_rest rest refl
    cases (Height form width height) e = by_rest rest refl
    cases (Whole form width height) e =
        let lt = done (ap is_whole e) in
        ap (λ (b : Bool). cond b (Some faults.HeaderTooLong) (body_verdict len rest form width height)) (lt-ltb 65536 len lt)

too_long_verdict : (input : List ℕ) → IsHeaderTooLong input → verdict input ≡ Some faults.HeaderTooLong
too_long_verdict input f =
    let t = header_front f.front f.begins in
    let r = reached next_state t.0 f.behind in
    let all : input ≡ (f.front ++ r.front) ++ r.rest = f.whole ∙ ap (λ (l : List ℕ). f.front ++ l) r.whole ∙ sym (append_assoc f.front r.front r.rest) in
    let goes = run_append next_state Magic t.0 f.front r.front t.1.reads ∙ r.reads in
    let len = length-append f.front r.front in
    ap verdict all
    ∙ verdict_at (f.front ++ r.front) r.rest r.last goes r.stays
    ∙ long_verdict (length (f.front ++ r.front)) r.last r.rest (omega (arith, len, f.len))
    (λ none. omega (arith, len, f.len, f.more, ap length r.whole, length-append r.front r.rest, ap length none))
    (λ done. omega (arith, len, f.len, moved t.0 r.last r.front t.1.open_yet done r.reads))
  where
    moved : (s t : HeaderState) (front : List ℕ) → is_whole s ≡ false → is_whole t ≡ true → run next_state s front ≡ Some t → 0 < length front
    moved s t [] o done e = absurd (not_both (is_whole t) done (sym (ap is_whole (some_is s t e)) ∙ o))
    moved s t (byte ∷ front) o done e = omega arith

zero_verdict : (input : List ℕ) → IsZeroSize input → verdict input ≡ Some faults.ZeroSize
zero_verdict input f =
    verdict_behind input f.sizes.header f.sizes.behind f.form f.width f.height f.sizes.has_header
    ∙ by_zero (min f.width 999999999) (min f.height 999999999) (either f.zero)
  where
    either : (f.width ≡ 0) ⊎ (f.height ≡ 0) → (min f.width 999999999 ≡ 0) ⊎ (min f.height 999999999 ≡ 0)
    either (inl e) = inl (omega (arith, e))
    either (inr e) = inr (omega (arith, e))

    is_zero : (n : ℕ) → n ≡ 0 → ltb 0 n ≡ false
    is_zero n e = le-ltb 0 n (omega (arith, e))

    by_zero : (a b : ℕ) → (a ≡ 0) ⊎ (b ≡ 0) → body_verdict (length f.sizes.header) f.sizes.behind f.form a b ≡ Some faults.ZeroSize
    by_zero a b (inl e) = rw (is_zero a e) refl
    by_zero a b (inr e) =
        elim (cases_lt 0 a) [
          | inl lt ↦ rw (lt-ltb 0 a lt, is_zero b e) refl
          | inr le ↦ rw (le-ltb 0 a le) refl
        ]

large_verdict : (input : List ℕ) (wide high : ℕ) → IsTooLarge input wide high → verdict input ≡ Some (faults.TooLarge wide high)
large_verdict input wide high f =
    verdict_behind input f.sizes.header f.sizes.behind f.form f.width f.height f.sizes.has_header
    ∙ ap (λ (n : ℕ). body_verdict (length f.sizes.header) f.sizes.behind f.form n (min f.height 999999999)) (sym f.width_told)
    ∙ ap (λ (n : ℕ). body_verdict (length f.sizes.header) f.sizes.behind f.form wide n) (sym f.height_told)
    ∙ large
  where
    some_wide : 0 < wide
    some_wide = omega (arith, f.some_width, f.width_told)

    some_high : 0 < high
    some_high = omega (arith, f.some_height, f.height_told)

    impossible : wide ≤ 8192 → high ≤ 8192 → wide * high ≤ 33554432 → ⊥
    impossible w h a =
        let same_wide : wide ≡ f.width = omega (arith, w, f.width_told) in
        let same_high : high ≡ f.height = omega (arith, h, f.height_told) in
        let same : f.width * f.height ≡ wide * high = ap (λ (n : ℕ). n * f.height) (sym same_wide) ∙ ap (λ (n : ℕ). wide * n) (sym same_high) in
        f.large (record {
          some_width = f.some_width;
          some_height = f.some_height;
          width_bound = omega (arith, w, same_wide);
          height_bound = omega (arith, h, same_high);
          area_bound = omega (arith, a, same);
        })

    large : body_verdict (length f.sizes.header) f.sizes.behind f.form wide high ≡ Some (faults.TooLarge wide high)
    large =
        rw (lt-ltb 0 wide some_wide, lt-ltb 0 high some_high) (
        elim (cases_lt 8192 wide) [
          | inl wider ↦ rw (lt-ltb 8192 wide wider) refl
          | inr w ↦
              rw (le-ltb 8192 wide w) (
              elim (cases_lt 8192 high) [
                | inl higher ↦ rw (lt-ltb 8192 high higher) refl
                | inr h ↦
                    rw (le-ltb 8192 high h) (
                    elim (cases_lt 33554432 (wide * high)) [
                      | inl larger ↦ rw (lt-ltb 33554432 (wide * high) larger) refl
                      | inr a ↦ absurd (impossible w h a)
                    ])
              ])
        ])

-- a front of a plain raster leads to an open state
plain_front : (width height : ℕ) (bytes : List ℕ) → IsFrontOf (IsRaster Plain width height) bytes → (t : RasterState) × IsOpen (raster_machine (height * width)) bytes t
plain_front width height bytes f =
    let start = wanted (height * width) [] in
    front_state (raster_machine (height * width)) bytes
    (front_map (IsRaster Plain width height) (λ l. (t : RasterState) × (run raster_step start l ≡ Some t) × (is_done t ≡ true)) bytes (λ l r. raster_is_read width height l r) f)

truncated_verdict : (form : Form) (width height len : ℕ) (behind : List ℕ) → IsFrontOf (IsRaster form width height) behind
    → raster_verdict form width height len behind ≡ Some (faults.Truncated (len + length behind))
truncated_verdict Raw width height len behind f =
    let lt : length behind < height * row_len width = omega (arith, f.is_text, f.some, length-append behind f.rest) in
    rw (lt-ltb (length behind) (height * row_len width) lt) refl
truncated_verdict Plain width height len behind f =
    let t = plain_front width height behind f in
    ap (λ (l : List ℕ). raster_verdict Plain width height len l) (sym (append-nil behind))
    ∙ plain_at width height len behind [] t.0 t.1.reads tt
    ∙ ap (λ (b : Bool). cond b (tail_verdict (len + length behind) []) (Some (faults.Truncated (len + length behind)))) t.1.open_yet

front_verdict : (at : ℕ) → 2 ≤ at → at ≤ 65536 → open_verdict at [] ≡ Some (faults.Truncated at)
front_verdict at two le = rw (le-ltb at 2 two, le-ltb 65536 at le) refl

end_verdict : (input : List ℕ) (at : ℕ) → at ≡ length input → EndsInHeader input ⊎ EndsInRaster input → verdict input ≡ Some (faults.Truncated at)
end_verdict input at end (inl h) =
    let t = header_front input h.begins in
    ap verdict (sym (append-nil input))
    ∙ open_reads input [] t.0 t.1 tt
    ∙ front_verdict (length input) h.some h.short
    ∙ ap (λ (n : ℕ). Some (faults.Truncated n)) (sym end)
end_verdict input at end (inr r) =
    let len : length r.header + length r.behind ≡ at = sym (length-append r.header r.behind) ∙ sym (ap length r.has_header.has_header.whole) ∙ sym end in
    verdict_sized input r.header r.behind r.form r.width r.height r.has_header
    ∙ truncated_verdict r.form r.width r.height (length r.header) r.behind r.begins
    ∙ ap (λ (n : ℕ). Some (faults.Truncated n)) len

wrong_verdict : (input : List ℕ) (at : ℕ) → IsPixelFault input at → verdict input ≡ Some (faults.Pixel at)
wrong_verdict input at f =
    let start = wanted (f.height * f.width) [] in
    let IsReadRaster : List ℕ → Type 0 = λ l. (t : RasterState) × (run raster_step start l ≡ Some t) × (is_done t ≡ true) in
    let s = stops_map (IsRaster Plain f.width f.height) IsReadRaster f.behind f.place (λ l r. raster_is_read f.width f.height l r) (λ l r. read_is_raster f.width f.height l r) f.stops in
    let t = stops_state (raster_machine (f.height * f.width)) f.behind f.place s in
    let len = length f.header in
    verdict_sized input f.header f.behind Plain f.width f.height f.has_header
    ∙ ap (λ (l : List ℕ). raster_verdict Plain f.width f.height len l) s.whole
    ∙ plain_at f.width f.height len s.front (s.byte ∷ s.more) t.0 t.1.reads t.2
    ∙ ap (λ (b : Bool). cond b (tail_verdict (len + length s.front) (s.byte ∷ s.more)) (Some (faults.Pixel (len + length s.front)))) t.1.open_yet
    ∙ ap (λ (n : ℕ). Some (faults.Pixel n)) (sym (f.place_is ∙ ap (λ (n : ℕ). len + n) s.place))

-- behind a whole plain raster
behind_plain : (width height len : ℕ) (raster rest : List ℕ) → IsRaster Plain width height raster → raster_verdict Plain width height len (raster ++ rest) ≡ tail_verdict (len + length raster) rest
behind_plain width height len raster rest r = plain_at width height len raster rest (whole r.0) (spelled_reads r.0 raster (height * width) r.2 r.1) (done_stuck r.0 rest)

pub behind_verdict : (form : Form) (width height len byte : ℕ) (raster more : List ℕ) → IsRaster form width height raster → (MayFollow form (byte ∷ []) → ⊥)
    → raster_verdict form width height len (raster ++ byte ∷ more) ≡ Some (faults.Trailing (len + length raster))
behind_verdict Raw width height len byte raster more r refused =
    let size = height * row_len width in
    let longer : size < length (raster ++ byte ∷ more) = omega (arith, r, length-append raster (byte ∷ more)) in
    rw (le-ltb (length (raster ++ byte ∷ more)) size (omega (arith, longer)), lt-ltb size (length (raster ++ byte ∷ more)) longer)
    (ap (λ (n : ℕ). Some (faults.Trailing (len + n))) (sym r))
behind_verdict Plain width height len byte raster more r refused =
    behind_plain width height len raster (byte ∷ more) r
    ∙ ap (λ (b : Bool). cond b None (Some (faults.Trailing (len + length raster)))) (false_from_ne_true (is_white byte) refused)

trailing_verdict : (input : List ℕ) (at : ℕ) → IsTrailing input at → verdict input ≡ Some (faults.Trailing at)
trailing_verdict input at f =
    verdict_sized input f.header (f.raster ++ f.byte ∷ f.more) f.form f.width f.height f.has_header
    ∙ behind_verdict f.form f.width f.height (length f.header) f.byte f.raster f.more f.is_raster f.refused
    ∙ ap (λ (n : ℕ). Some (faults.Trailing n)) (sym f.place_is)

-- an input's fault is the verdict
pub fault_verdict : (input : List ℕ) (fault : PageFault) → HasFaultWithin input fault → verdict input ≡ Some fault
fault_verdict input (faults.Magic at) f = magic_verdict input at f
fault_verdict input (faults.Header at) f = header_verdict input at f
fault_verdict input faults.HeaderTooLong f = too_long_verdict input f
fault_verdict input faults.ZeroSize f = zero_verdict input f
fault_verdict input (faults.TooLarge width height) f = large_verdict input width height f
fault_verdict input (faults.Truncated at) f = end_verdict input at f.end f.part
fault_verdict input (faults.Pixel at) f = wrong_verdict input at f
fault_verdict input (faults.Trailing at) f = trailing_verdict input at f
fault_verdict input faults.InputTooLong f = absurd f
fault_verdict input faults.TooManyImages f = absurd f
fault_verdict input faults.ReadFault f = absurd f
fault_verdict input faults.Memory f = absurd f

-- ---- what spells a page has none

rows_verdict : (form : Form) (page : Page) (len : ℕ) (raster tail : List ℕ) → SpellsRows form page raster → MayFollow form tail
    → raster_verdict form page.width page.height len (raster ++ tail) ≡ None
rows_verdict Raw page len raster [] rows follows =
    let size = page.height * row_len page.width in
    let same : length (raster ++ []) ≡ size = ap length (append-nil raster) ∙ rows.0 in
    rw (le-ltb (length (raster ++ [])) size (omega (arith, same)), le-ltb size (length (raster ++ [])) (omega (arith, same))) refl
rows_verdict Raw page len raster (byte ∷ tail) rows follows = absurd follows
rows_verdict Plain page len raster [] rows follows = behind_plain page.width page.height len raster [] (rows.0, rows.1, rows.2)
rows_verdict Plain page len raster (byte ∷ tail) rows follows =
    behind_plain page.width page.height len raster (byte ∷ tail) (rows.0, rows.1, rows.2)
    ∙ ap (λ (b : Bool). cond b None (Some (faults.Trailing (len + length raster)))) follows

pub page_verdict : (input : List ℕ) (page : Page) → Spells input page → verdict input ≡ None
page_verdict input page p =
    verdict_sized input p.header (p.raster ++ p.tail) p.form page.width page.height (record { has_header = p.has_header; size = p.size })
    ∙ rows_verdict p.form page (length p.header) p.raster p.tail p.rows p.follows
