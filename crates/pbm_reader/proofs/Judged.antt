-- Each input spells a page or has a fault.
use Rattle.std.proofs.Common.{◌≡◌, ℕ, ◌*◌, ◌<◌, ◌≤◌, ◌⊎◌, min, Bool, true, false, List, [], ◌∷◌, ◌++◌, length, Some, refl, sym, ap, subst, inl, inr, arith}
use Rattle.std.proofs.lemmas.Bool.{cases_lt}
use Rattle.std.proofs.lemmas.List.{append-nil, length-append}
use Rattle.pbm_reader.specs.declared.fault.PageFault.{PageFault}
use Rattle.pbm_reader.specs.declared.fault.PageFault.TheVariants as faults
use Rattle.pbm_reader.specs.declared.form.Form.{Form}
use Rattle.pbm_reader.specs.declared.state.HeaderState.{HeaderState}
use Rattle.pbm_reader.specs.declared.state.HeaderState.TheVariants.{Magic}
use Rattle.packed_rows.specs.Page.{IsPageSize}
use Rattle.pbm_reader.specs.Spelling.{IsHeader, IsPage}
use Rattle.pbm_reader.specs.Header.{next_state, wrong_byte, missing_byte}
use Rattle.pbm_reader.specs.Fault.{HasFaultWithin, HasFault}
use Rattle.pbm_reader.proofs.Machines.{run, IsOpen, IsStuck, Reached, reached}
use Rattle.pbm_reader.proofs.HeaderWalk.{is_whole, header_machine, read_header}
use Rattle.pbm_reader.proofs.Faults.{wrong_fault, missing_fault, too_long}
use Rattle.pbm_reader.proofs.Gaps.{not_both}
use Rattle.pbm_reader.proofs.Settled.{settled, shown}
use Rattle.pbm_reader.proofs.Splits.{short_or_longer}
use Rattle.pbm_reader.proofs.OneFault.{has_fault, long_fault}
use Rattle.pbm_reader.proofs.RasterJudged.{JudgedWithin, sized_judged}

-- a size is 0, or no page has the sizes, or a page can have them
decide_size : (width height : ℕ) → IsPageSize width height ⊎ ((width ≡ 0) ⊎ (height ≡ 0)) ⊎ ((0 < width) × (0 < height) × (IsPageSize width height → ⊥))
decide_size width height =
    elim (cases_lt 0 width) [
      | inr none ↦ inr (inl (inl (omega (arith, none))))
      | inl some ↦
          elim (cases_lt 0 height) [
            | inr none ↦ inr (inl (inr (omega (arith, none))))
            | inl also ↦
                elim (cases_lt 8192 width) [
                  | inl wide ↦ inr (inr (some, also, λ s. let b = s.width_bound in omega (arith, b, wide)))
                  | inr w ↦
                      elim (cases_lt 8192 height) [
                        | inl high ↦ inr (inr (some, also, λ s. let b = s.height_bound in omega (arith, b, high)))
                        | inr h ↦
                            elim (cases_lt 33554432 (width * height)) [
                              | inl large ↦ inr (inr (some, also, λ s. let b = s.area_bound in omega (arith, b, large)))
                              | inr a ↦ inl (record { some_width = some; some_height = also; width_bound = w; height_bound = h; area_bound = a })
                            ]
                      ]
                ]
          ]
    ]

header_judged : (header behind : List ℕ) (form : Form) (width height : ℕ) → IsHeader header form width height → length header ≤ 65536 → length (header ++ behind) ≤ 268435456
    → JudgedWithin (header ++ behind)
header_judged header behind form width height h short all =
    elim (decide_size width height) [
      | inl size ↦ sized_judged (header ++ behind) header behind form width height (record { has_header = record { whole = refl; is_header = h; short = short }; size = size }) all
      | inr other ↦
          elim other [
            | inl zero ↦ inr (
              faults.ZeroSize,
              record {
                form = form;
                width = width;
                height = height;
                sizes = record { header = header; behind = behind; has_header = record { whole = refl; is_header = h; short = short } };
                zero = zero;
              },
            )
            | inr large ↦ inr (
              faults.TooLarge (min width 999999999) (min height 999999999),
              record {
                form = form;
                width = width;
                height = height;
                sizes = record { header = header; behind = behind; has_header = record { whole = refl; is_header = h; short = short } };
                some_width = large.0;
                some_height = large.1;
                large = large.2;
                width_told = refl;
                height_told = refl;
              },
            )
          ]
    ]

pub judged_within : (input : List ℕ) → length input ≤ 268435456 → JudgedWithin input
judged_within input short = cases (reached next_state Magic input)
  where
    J : List ℕ → Type 0
    J l = JudgedWithin l

    whole_header : (front rest : List ℕ) (t : HeaderState) → run next_state Magic front ≡ Some t → is_whole t ≡ true → length (front ++ rest) ≤ 268435456 → JudgedWithin (front ++ rest)
    whole_header front rest t reads w all =
        let h = read_header front t reads w in
        elim (cases_lt 65536 (length front)) [
          | inl longer ↦ inr (faults.HeaderTooLong, too_long front rest t reads (omega (arith, longer)) (omega (arith, length-append front rest, longer)) (λ d. longer))
          | inr le ↦ header_judged front rest h.form h.width h.height h.is_header le all
        ]

    open_header : (front rest : List ℕ) (t : HeaderState) → IsOpen header_machine front t → IsStuck next_state t rest → JudgedWithin (front ++ rest)
    open_header front [] t o stays =
        elim (cases_lt 65536 (length front)) [
          | inl longer ↦ inr (faults.HeaderTooLong, too_long front [] t o.reads (omega (arith, longer)) (omega (arith, length-append front [], longer)) (λ d. longer))
          | inr le ↦ subst J (sym (append-nil front)) (inr (missing_byte t (length front), missing_fault front t o le))
        ]
    open_header front (byte ∷ rest) t o stays =
        elim (cases_lt (length front) 65536) [
          | inl lt ↦ inr (wrong_byte t (length front), wrong_fault front byte rest t o stays lt)
          | inr ge ↦ inr (faults.HeaderTooLong, too_long front (byte ∷ rest) t o.reads ge (omega (arith, length-append front (byte ∷ rest), ge)) (λ d. absurd (not_both (is_whole t) d o.open_yet)))
        ]

    cases : Reached next_state Magic input → JudgedWithin input
    cases r = subst J (sym r.whole) (by_state (is_whole r.last) refl)
      where
        by_state : (b : Bool) → is_whole r.last ≡ b → JudgedWithin (r.front ++ r.rest)
        by_state true w = whole_header r.front r.rest r.last r.reads w (omega (arith, short, ap length r.whole))
        by_state false o = open_header r.front r.rest r.last (record { reads = r.reads; open_yet = o }) r.stays

-- whether the fault is the input's end
pub is_cut : (fault : PageFault) → ((at : ℕ) × (fault ≡ faults.Truncated at)) ⊎ ((at : ℕ) → fault ≡ faults.Truncated at → ⊥)
is_cut (faults.Truncated at) = inl (at, refl)
is_cut (faults.Magic at) = inr (λ k e. absurd cc)
is_cut (faults.Header at) = inr (λ k e. absurd cc)
is_cut faults.HeaderTooLong = inr (λ k e. absurd cc)
is_cut faults.ZeroSize = inr (λ k e. absurd cc)
is_cut (faults.TooLarge width height) = inr (λ k e. absurd cc)
is_cut (faults.Pixel at) = inr (λ k e. absurd cc)
is_cut (faults.Trailing at) = inr (λ k e. absurd cc)
is_cut faults.InputTooLong = inr (λ k e. absurd cc)
is_cut faults.TooManyImages = inr (λ k e. absurd cc)
is_cut faults.ReadFault = inr (λ k e. absurd cc)
is_cut faults.Memory = inr (λ k e. absurd cc)

pub judged : (input : List ℕ) → IsPage input ⊎ ((fault : PageFault) × HasFault input fault)
judged input = short_or_longer P 268435456 (λ l short. of_short l (judged_within l short)) (λ front behind len more. inr (by_front front behind len more)) input
  where
    P : List ℕ → Type 0
    P l = IsPage l ⊎ ((fault : PageFault) × HasFault l fault)

    of_short : (input : List ℕ) → JudgedWithin input → P input
    of_short input (inl p) = inl p
    of_short input (inr f) = inr (f.0, has_fault input f.0 f.1)

    -- the fault of so many bytes, whether it is their end or not, with more behind them
    refused : (front behind : List ℕ) → length front ≡ 268435456 → 0 < length behind → (fault : PageFault) → HasFaultWithin front fault → (fault : PageFault) × HasFault (front ++ behind) fault
    refused front behind len more fault has =
        elim (is_cut fault) [
          | inl t ↦ (faults.InputTooLong, long_fault front behind len more (inr (t.0, subst (λ (k : PageFault). HasFaultWithin front k) t.1 has)))
          | inr other ↦
              let here = subst (λ (l : List ℕ). HasFaultWithin l fault) (sym (append-nil front)) has in
              (fault, has_fault (front ++ behind) fault (settled front [] behind fault (inl len) (shown front front fault (omega (arith, len)) other has) here))
        ]

    by_front : (front behind : List ℕ) → length front ≡ 268435456 → 0 < length behind → (fault : PageFault) × HasFault (front ++ behind) fault
    by_front front behind len more =
        elim (judged_within front (omega (arith, len))) [
          | inl p ↦ (faults.InputTooLong, long_fault front behind len more (inl p))
          | inr f ↦ refused front behind len more f.0 f.1
        ]
