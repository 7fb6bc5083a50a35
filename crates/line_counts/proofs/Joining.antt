-- The greatest key of several lines.
use Rattle.std.proofs.Common.{◌≡◌, ℕ, ◌+◌, ◌<◌, ◌≤◌, ◌⊎◌, inl, inr, ⊎_elim, max, ℤ, pos, ◌+ℤ◌, arith, refl, sym, subst}
use Rattle.std.proofs.lemmas.Int.{ints, by_lt_z}
use Rattle.std.proofs.lemmas.Bool.{cases_lt}
use Rattle.box_search.specs.Search.{IsGreatestKey}
use Rattle.line_quality.specs.Keys.{line_key}
use Rattle.line_quality.specs.Scores.{IsScore}
use Rattle.line_quality.specs.ScoreLaws.{same_score}
use Rattle.line_counts.specs.Table.{LivingPage}
use Rattle.line_counts.specs.Stretches.{IsKeyAt, IsKeyIn, IsGreaterKey}
use Rattle.line_counts.specs.declared.stretch.Stretch.{Stretch}

-- no key is there
pub no_key : (P : ℕ → Type 0) → ((k : ℕ) → P k → ⊥) → IsGreatestKey P 0
no_key P none = record {
  sound = inl refl;
  greatest = λ k some. absurd (none k some);
  none = λ _. none;
}

-- the only key is there
pub one_key : (P : ℕ → Type 0) (key : ℕ) → 0 < key → P key → ((k : ℕ) → P k → k ≡ key) → IsGreatestKey P key
one_key P key positive some only = record {
  sound = inr some;
  greatest = λ k holds. omega (arith, only k holds);
  none = λ zero. absurd (omega (arith, zero, positive));
}

-- no key is greater
pub none_since : (P : ℕ → Type 0) (before : ℕ) → ((k : ℕ) → P k → (0 < before) × (k ≤ before)) → IsGreaterKey P before before
none_since P before passed = record { from = inl refl; no_less = omega arith; greatest = passed }

-- the greater of the two
pub max_since : (P : ℕ → Type 0) (before key word : ℕ) → word ≡ max key before → IsGreatestKey P key → IsGreaterKey P before word
max_since P before key word is exact = record {
  from = ⊎_elim
      (λ less. inl (omega (arith, is, less)))
      (λ more. ⊎_elim
      (λ (none : key ≡ 0). inl (omega (arith, is, none)))
      (λ (some : P key). let same : key ≡ word = omega (arith, is, more) in inr (subst P same some))
      exact.sound)
      (cases_lt key before);
  no_less = omega (arith, is);
  greatest = λ k some. ⊎_elim
      (λ (none : key < 1). absurd (exact.none (omega (arith, none)) k some))
      (λ positive. (omega (arith, is, positive), omega (arith, is, exact.greatest k some)))
      (cases_lt key 1);
}

-- the greatest key, where there was none before
pub from_none : (P : ℕ → Type 0) (key : ℕ) → IsGreaterKey P 0 key → IsGreatestKey P key
from_none P key is = record {
  sound = is.from;
  greatest = λ k some. (is.greatest k some).1;
  none = λ zero k some. omega (arith, zero, (is.greatest k some).0);
}

-- the keys of both are there
pub both_since : (P Q R : ℕ → Type 0) (a b c : ℕ) → ((k : ℕ) → P k → R k) → ((k : ℕ) → Q k → R k) → ((k : ℕ) → R k → Q k ⊎ P k)
    → IsGreaterKey P a b → IsGreaterKey Q b c → IsGreaterKey R a c
both_since P Q R a b c first second apart p q = record {
  from = ⊎_elim
      (λ (same : c ≡ b). ⊎_elim
      (λ (kept : b ≡ a). inl (omega (arith, same, kept)))
      (λ (some : P b). inr (first c (subst P (sym same) some)))
      p.from)
      (λ (some : Q c). inr (second c some))
      q.from;
  no_less = omega (arith, p.no_less, q.no_less);
  greatest = λ k some. ⊎_elim
      (λ (there : Q k). q.greatest k there)
      (λ (here : P k). let is = p.greatest k here in (omega (arith, is.0, q.no_less), omega (arith, is.1, q.no_less)))
      (apart k some);
}

module _ (page : LivingPage) (least : ℕ) (slope offset : ℤ) (depth score in_column : ℕ) (scored : IsScore slope offset depth page.boxes page.gutters page.alive score in_column) where
  -- a line that scores enough has one key
  pub key_of_line : (key : ℕ) → least ≤ score → key ≡ line_key score slope offset depth → 0 < key → IsGreatestKey (IsKeyAt page least slope offset depth) key
  key_of_line key enough is positive =
      one_key (IsKeyAt page least slope offset depth) key positive
      (record { score = score; in_column = in_column; scored = scored; enough = enough; has_key = sym is })
      (λ k at. omega (arith, is, at.has_key, (same_score slope offset depth page.boxes page.gutters page.alive at.score score at.in_column in_column at.scored scored).0))

  -- and one that scores too little has none
  pub no_key_of_line : score < least → IsGreatestKey (IsKeyAt page least slope offset depth) 0
  no_key_of_line little = no_key (IsKeyAt page least slope offset depth)
      (λ k at. omega (arith, little, at.enough, (same_score slope offset depth page.boxes page.gutters page.alive at.score score at.in_column in_column at.scored scored).0))

-- the first offsets of a stretch
abbrev pub first_of : Stretch → ℕ → Stretch
first_of stretch count = record stretch { offsets = count }

-- so many offsets behind the first ones
abbrev pub part_behind : Stretch → ℕ → ℕ → Stretch
part_behind stretch n count = record stretch { from = stretch.from +ℤ pos n; offsets = count }

module _ (page : LivingPage) (least : ℕ) (stretch : Stretch) where
  pub no_offset : (before : ℕ) → IsGreaterKey (IsKeyIn page least (first_of stretch 0)) before before
  no_offset before = none_since (IsKeyIn page least (first_of stretch 0)) before (λ k is. absurd (omega (arith, ints, is.from_offset, is.to_offset)))

  part_cases : (n count key : ℕ) → IsKeyIn page least (first_of stretch (n + count)) key → IsKeyIn page least (part_behind stretch n count) key ⊎ IsKeyIn page least (first_of stretch n) key
  part_cases n count key is = by_lt_z is.offset (stretch.from +ℤ pos n)
      (λ less. inr (record { offset = is.offset; from_offset = is.from_offset; to_offset = less; of = is.of }))
      (λ more. inl (record { offset = is.offset; from_offset = omega (arith, ints, more); to_offset = omega (arith, ints, is.to_offset); of = is.of }))

  -- one more part
  pub part_more : (n count before best more : ℕ) → IsGreaterKey (IsKeyIn page least (first_of stretch n)) before best
      → IsGreaterKey (IsKeyIn page least (part_behind stretch n count)) best more
      → IsGreaterKey (IsKeyIn page least (first_of stretch (n + count))) before more
  part_more n count before best more =
      both_since (IsKeyIn page least (first_of stretch n)) (IsKeyIn page least (part_behind stretch n count)) (IsKeyIn page least (first_of stretch (n + count))) before best more
      (λ k in_it. record { offset = in_it.offset; from_offset = in_it.from_offset; to_offset = omega (arith, ints, in_it.to_offset); of = in_it.of })
      (λ k in_it. record { offset = in_it.offset; from_offset = omega (arith, ints, in_it.from_offset); to_offset = omega (arith, ints, in_it.to_offset); of = in_it.of })
      (part_cases n count)

  -- all offsets
  pub offset_all : (n before key : ℕ) → n ≡ stretch.offsets → IsGreaterKey (IsKeyIn page least (first_of stretch n)) before key → IsGreaterKey (IsKeyIn page least stretch) before key
  offset_all n before key last all = subst (λ (k : ℕ). IsGreaterKey (IsKeyIn page least (first_of stretch k)) before key) last all
