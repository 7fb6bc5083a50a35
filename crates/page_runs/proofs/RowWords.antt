-- The pixels of a row in words of eight bytes.
use Rattle.std.proofs.Common.{◌≡◌, ◌<◌, ◌≤◌, ℕ, zero, suc, ◌+◌, ◌-◌, ◌*◌, ◌/◌, ◌%◌, ◌^◌, min, List, ◌++◌, length, get_or, take, drop, replicate, inl, inr, refl, sym, ap, subst, pow-suc, length-drop, length-append, ◌∙◌, ◌↔◌, arith}
use Rattle.std.specs.Int.{bit_at, bit_not, w64, from_be_bytes, to_be_bytes}
use Rattle.std.specs.Int.RustNames.{bit_and}
use Rattle.std.specs.Int.Count.{count_leading_zeros, leading_of_zero}
use Rattle.std.proofs.Math.Seq.{take-length}
use Rattle.std.proofs.Math.Nat.{div-le_self, div-div-eq-div-mul, div-one, div-eq_of_lt-le}
use Rattle.std.proofs.lemmas.Bool.{cases_lt}
use Rattle.std.proofs.lemmas.Nat.{be_bytes_8, pow-add, and_le_r, div-add-mod', leading_top, leading_le}
use Rattle.std.proofs.lemmas.Nat.Bits.{bit_at_cat_low, bit_at-zero, bit_at_above, bit_at_and, bit_at_ones, bit_at_ones_above, bit_at-lt, bit_at_not}
use Rattle.std.proofs.lemmas.List.{get_or-drop, get_or-take, get_or_append_left, get_or-append_right, get_or_past, get_or-replicate, length-take, length-take-le}
use Rattle.packed_rows.specs.Page.{pixel}

-- ---- a word of eight bytes

-- a bit of a stretch of the bits of a number
bit_of_part : (n a b j : ℕ) → j < b → bit_at (n / 2 ^ a % 2 ^ b) j ≡ bit_at n (a + j)
bit_of_part n a b j less =
    sym (bit_at_cat_low (n / 2 ^ a / 2 ^ b) b (n / 2 ^ a % 2 ^ b) j less)
    ∙ ap (λ (m : ℕ). bit_at m j) (div-add-mod' (n / 2 ^ a) (2 ^ b))
    ∙ ap (λ (m : ℕ). m % 2) (div-div-eq-div-mul n (2 ^ a) (2 ^ j) ∙ ap (λ (m : ℕ). n / m) (sym (pow-add 2 a j)))

byte_of : (n a q r : ℕ) → r < 8 → q * 8 + a ≡ 56 → bit_at n (63 - (q * 8 + r)) ≡ bit_at (n / 2 ^ a % 2 ^ 8) (7 - r)
byte_of n a q r less sum =
    let e : 63 - (q * 8 + r) ≡ a + (7 - r) = omega (arith, less, sum) in
    ap (bit_at n) e ∙ sym (bit_of_part n a 8 (7 - r) (omega arith))

-- the bits of a byte of a word, the first byte being the highest
bit_of_byte : (n q r : ℕ) → q < 8 → r < 8 → bit_at n (63 - (q * 8 + r)) ≡ bit_at (get_or (to_be_bytes w64 n) q 0) (7 - r)
bit_of_byte n zero r below less = byte_of n 56 0 r less refl
bit_of_byte n (suc zero) r below less = byte_of n 48 1 r less refl
bit_of_byte n (suc (suc zero)) r below less = byte_of n 40 2 r less refl
bit_of_byte n (suc (suc (suc zero))) r below less = byte_of n 32 3 r less refl
bit_of_byte n (suc (suc (suc (suc zero)))) r below less = byte_of n 24 4 r less refl
bit_of_byte n (suc (suc (suc (suc (suc zero))))) r below less = byte_of n 16 5 r less refl
bit_of_byte n (suc (suc (suc (suc (suc (suc zero)))))) r below less = byte_of n 8 6 r less refl
bit_of_byte n (suc (suc (suc (suc (suc (suc (suc zero))))))) r below less =
    byte_of n 0 7 r less refl ∙ ap (λ (m : ℕ). bit_at (m % 256) (7 - r)) (div-one n)
bit_of_byte n (suc (suc (suc (suc (suc (suc (suc (suc q)))))))) r below less = absurd (omega (arith, below))

-- the pixels of eight bytes are the bits of their word
pub word_of_bytes : (bytes : List ℕ) (word : ℕ) → length bytes ≡ 8 → ((i : ℕ) → get_or bytes i 0 < 256) → word ≡ from_be_bytes w64 bytes
    → (k : ℕ) → k < 64 → bit_at word (63 - k) ≡ pixel bytes k
word_of_bytes bytes word len small is k less =
    let e : k ≡ k / 8 * 8 + k % 8 = omega arith in
    ap (λ (j : ℕ). bit_at word (63 - j)) e
    ∙ bit_of_byte word (k / 8) (k % 8) (omega (arith, less)) (omega arith)
    ∙ ap (λ (bs : List ℕ). bit_at (get_or bs (k / 8) 0) (7 - k % 8)) (be_bytes_8 bytes word len small is)

-- the pixels of the bytes from one on
pub pixel_behind : (bits : List ℕ) (byte k : ℕ) → pixel (drop byte bits) k ≡ pixel bits (byte * 8 + k)
pixel_behind bits byte k =
    let place : (byte * 8 + k) / 8 ≡ byte + k / 8 = omega arith in
    let bit : (byte * 8 + k) % 8 ≡ k % 8 = omega arith in
    ap (λ (b : ℕ). bit_at b (7 - k % 8)) (get_or-drop byte bits (k / 8) 0 ∙ ap (λ (i : ℕ). get_or bits i 0) (sym place))
    ∙ ap (λ (j : ℕ). bit_at (get_or bits ((byte * 8 + k) / 8) 0) (7 - j)) (sym bit)

-- the pixels of the first eight bytes
pub pixel_of_first : (bits : List ℕ) (k : ℕ) → k < 64 → pixel (take 8 bits) k ≡ pixel bits k
pixel_of_first bits k less = ap (λ (b : ℕ). bit_at b (7 - k % 8)) (get_or-take 8 bits (k / 8) 0 (omega (arith, less)))

-- behind the bytes all is white
pub pixel_padded : (bits zeros : List ℕ) → ((i : ℕ) → get_or zeros i 0 ≡ 0) → (k : ℕ) → pixel (bits ++ zeros) k ≡ pixel bits k
pixel_padded bits zeros all k = elim (cases_lt (k / 8) (length bits)) [
  | inl inside ↦ ap (λ (b : ℕ). bit_at b (7 - k % 8)) (get_or_append_left bits zeros 0 (k / 8) inside)
  | inr behind ↦ ap (λ (b : ℕ). bit_at b (7 - k % 8)) (get_or-append_right bits zeros (length bits) (k / 8) 0 refl behind ∙ all (k / 8 - length bits) ∙ sym (get_or_past bits (k / 8) 0 behind))
]

small_part : (bits : List ℕ) → ((i : ℕ) → get_or bits i 0 < 256) → (byte i : ℕ) → get_or (take 8 (drop byte bits)) i 0 < 256
small_part bits small byte i = elim (cases_lt i 8) [
  | inl inside ↦ omega (arith, get_or-take 8 (drop byte bits) i 0 inside, get_or-drop byte bits i 0, small (byte + i))
  | inr behind ↦ omega (arith, get_or_past (take 8 (drop byte bits)) i 0 (omega (arith, behind, length-take 8 (drop byte bits))))
]

-- a word of the bytes from one on
pub word_behind : (bits bytes : List ℕ) (byte word : ℕ) → 8 ≤ length (take (length bits - byte) (drop byte bits))
    → bytes ≡ take 8 (take (length bits - byte) (drop byte bits)) → ((i : ℕ) → get_or bits i 0 < 256) → word ≡ from_be_bytes w64 bytes
    → (k : ℕ) → k < 64 → bit_at word (63 - k) ≡ pixel bits (byte * 8 + k)
word_behind bits bytes byte word enough part small is k less =
    let rest = drop byte bits in
    let all : take (length bits - byte) rest ≡ rest = ap (λ (n : ℕ). take n rest) (sym (length-drop byte bits)) ∙ take-length rest in
    let same : bytes ≡ take 8 rest = part ∙ ap (take 8) all in
    let len : length bytes ≡ 8 = ap length same ∙ length-take-le 8 rest (omega (arith, enough, ap length all)) in
    word_of_bytes bytes word len (λ i. subst (λ (bs : List ℕ). get_or bs i 0 < 256) (sym same) (small_part bits small byte i)) is k less
    ∙ ap (λ (bs : List ℕ). pixel bs k) same
    ∙ pixel_of_first rest k less
    ∙ pixel_behind bits byte k

no_more : (n i : ℕ) → get_or (drop n (replicate {A = ℕ} 8 0)) i 0 ≡ 0
no_more n i = get_or-drop n (replicate {A = ℕ} 8 0) i 0 ∙ elim (cases_lt (n + i) 8) [
  | inl inside ↦ get_or-replicate 8 (n + i) 0 0 inside
  | inr behind ↦ get_or_past (replicate {A = ℕ} 8 0) (n + i) 0 (omega (arith, behind))
]

small_padded : (bits zeros : List ℕ) → ((i : ℕ) → get_or bits i 0 < 256) → ((i : ℕ) → get_or zeros i 0 ≡ 0) → (i : ℕ) → get_or (bits ++ zeros) i 0 < 256
small_padded bits zeros small none i = elim (cases_lt i (length bits)) [
  | inl inside ↦ omega (arith, get_or_append_left bits zeros 0 i inside, small i)
  | inr behind ↦ omega (arith, get_or-append_right bits zeros (length bits) i 0 refl behind, none (i - length bits))
]

-- the word of fewer than eight bytes
pub word_padded : (bits copied : List ℕ) (word : ℕ) → length bits < 8 → copied ≡ bits → ((i : ℕ) → get_or bits i 0 < 256)
    → word ≡ from_be_bytes w64 (copied ++ drop (length bits) (replicate 8 0)) → (k : ℕ) → k < 64 → bit_at word (63 - k) ≡ pixel bits k
word_padded bits copied word few same small is k less =
    let zeros : List ℕ = drop (length bits) (replicate 8 0) in
    let whole : word ≡ from_be_bytes w64 (bits ++ zeros) = subst (λ (bs : List ℕ). word ≡ from_be_bytes w64 (bs ++ zeros)) same is in
    let len : length (bits ++ zeros) ≡ 8 = omega (arith, length-append bits zeros, length-drop (length bits) (replicate {A = ℕ} 8 0), few) in
    word_of_bytes (bits ++ zeros) word len (small_padded bits zeros small (no_more (length bits))) whole k less
    ∙ pixel_padded bits zeros (no_more (length bits)) k

-- ---- the first bit of a word

-- the place of the highest 1 of a word, counted from its highest bit
pub record IsFirstOne (word place : ℕ) : Type 0 where
  pub within : place ≤ 64
  pub before : (k : ℕ) → k < place → bit_at word (63 - k) ≡ 0
  pub here : place < 64 → bit_at word (63 - place) ≡ 1

pub first_one : (word : ℕ) → word < 2 ^ 64 → IsFirstOne word (count_leading_zeros 64 word)
first_one zero below =
    let none : count_leading_zeros 64 zero ≡ 64 = leading_of_zero 64 in
    record {
      within = omega (arith, none);
      before = λ k less. bit_at-zero (63 - k);
      here = λ some. absurd (omega (arith, none, some));
    }
first_one (suc n) below =
    let top = leading_top 64 (suc n) (omega arith) below in
    let one : suc n / 2 ^ top.0 ≡ 1 = div-eq_of_lt-le (2 ^ top.0) (omega (arith, top.2)) (omega (arith, top.3, pow-suc 2 top.0)) in
    record {
      within = leading_le 64 (suc n);
      before = λ k less. bit_at_above (suc n) (suc top.0) (63 - k) top.3 (omega (arith, top.1, less));
      here = λ some.
          let e : 63 - count_leading_zeros 64 (suc n) ≡ top.0 = omega (arith, top.1) in
          ap (bit_at (suc n)) e ∙ ap (λ (m : ℕ). m % 2) one;
    }

-- the first 1 from a place on, found in the word without the bits before it
pub record IsFirstFrom (word from place : ℕ) : Type 0 where
  pub not_before : from ≤ place
  pub within : place ≤ 64
  pub before : (k : ℕ) → from ≤ k → k < place → bit_at word (63 - k) ≡ 0
  pub here : place < 64 → bit_at word (63 - place) ≡ 1

bit_masked : (word from k : ℕ) → from ≤ k → k < 64 → bit_at (bit_and word (2 ^ (64 - from) - 1)) (63 - k) ≡ bit_at word (63 - k)
bit_masked word from k begun less =
    bit_at_and word (2 ^ (64 - from) - 1) (63 - k)
    ∙ ap (λ (b : ℕ). min (bit_at word (63 - k)) b) (bit_at_ones (64 - from) (63 - k) (omega (arith, begun, less)))
    ∙ omega (arith, bit_at-lt word (63 - k))

pub first_from : (word mask from place : ℕ) → from < 64 → mask ≡ 2 ^ (64 - from) - 1 → IsFirstOne (bit_and word mask) place → IsFirstFrom word from place
first_from word mask from place inside is_mask found =
    let ones = 2 ^ (64 - from) - 1 in
    let first : IsFirstOne (bit_and word ones) place = subst (λ (m : ℕ). IsFirstOne (bit_and word m) place) is_mask found in
    let begun : from ≤ place = elim (cases_lt place from) [
      | inl less ↦
          let none : bit_at ones (63 - place) ≡ 0 = bit_at_ones_above (64 - from) (63 - place) (omega (arith, less, inside)) in
          absurd (omega (arith, first.here (omega (arith, less, inside)), bit_at_and word ones (63 - place), none))
      | inr not_less ↦ not_less
    ] in
    record {
      not_before = begun;
      within = first.within;
      before = λ k after less. sym (bit_masked word from k after (omega (arith, less, first.within))) ∙ first.before k less;
      here = λ some. sym (bit_masked word from place begun some) ∙ first.here some;
    }

-- of the bits that are 0 or 1, the ones of a word are the pixels of a colour
abbrev pub AreOfColour : ℕ → ℕ → ℕ → Type 0
AreOfColour colour word ones = (i : ℕ) → i < 64 → (bit_at ones i ≡ 1) ↔ (bit_at word i ≡ colour)

pub whites_of : (word : ℕ) → word < 2 ^ 64 → AreOfColour 0 word (bit_not w64 word)
whites_of word below i less =
    let e = bit_at_not w64 word i below less in
    let two = bit_at-lt word i in
    (λ one. omega (arith, e, two, one), λ none. omega (arith, e, two, none))

pub not_of_colour : (colour word ones : ℕ) → colour ≤ 1 → AreOfColour colour word ones → (i : ℕ) → i < 64 → bit_at ones i ≡ 0 → bit_at word i ≡ 1 - colour
not_of_colour colour word ones small of i less none =
    one_of_two colour (bit_at word i) small (bit_at-lt word i) (λ same. absurd (omega (arith, none, (of i less).1 same)))
  where
    one_of_two : (a b : ℕ) → a ≤ 1 → b < 2 → (b ≡ a → ⊥) → b ≡ 1 - a
    one_of_two zero zero small lt other = absurd (other refl)
    one_of_two zero (suc zero) small lt other = refl
    one_of_two (suc zero) zero small lt other = refl
    one_of_two (suc zero) (suc zero) small lt other = absurd (other refl)
    one_of_two (suc (suc a)) b small lt other = absurd (omega (arith, small))
    one_of_two a (suc (suc b)) small lt other = absurd (omega (arith, lt))

pub masked_below : (word from : ℕ) → bit_and word ((2 ^ 64 - 1) / 2 ^ from) < 2 ^ 64
masked_below word from = omega (arith, and_le_r word ((2 ^ 64 - 1) / 2 ^ from), div-le_self (2 ^ 64 - 1) (2 ^ from))
