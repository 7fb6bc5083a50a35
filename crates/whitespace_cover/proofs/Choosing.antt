-- What is known of an obstacle that was chosen, or that none was.
use Rattle.std.proofs.Common.{◌≡◌, Option, Some, None, IfSome, IfNone, MatchOption, true, false}
use Rattle.std.specs.Prelude.{is_some}
use Rattle.layout_geom.specs.declared.rect.Rect.{Rect}

module _ (P Q : Type 0) where
  pub none_then : (P → Q) → (o : Option Rect) → IfNone o P → IfNone o Q
  none_then then None p = then p
  none_then then (Some r) p = tt

  pub left_then : (R : Rect → Type 0) → (P → Q) → (o : Option Rect) → MatchOption o P R → MatchOption o Q R
  left_then R then None p = then p
  left_then R then (Some r) p = p

  pub none_left : (R : Rect → Type 0) → (P → Q) → (o : Option Rect) → MatchOption o P R → IfNone o Q
  none_left R then None p = then p
  none_left R then (Some r) p = tt

  no_some : false ≡ true → ⊥
  no_some h = cc

  pub still_some : (R : Rect → Type 0) → (o : Option Rect) → is_some o ≡ true → MatchOption o P R → MatchOption o Q R
  still_some R None some p = absurd (no_some some)
  still_some R (Some r) some p = p

module _ (P : Type 0) where
  pub some_left : (R : Rect → Type 0) → (o : Option Rect) → MatchOption o P R → IfSome o R
  some_left R None p = tt
  some_left R (Some r) p = p

  no_none : true ≡ false → ⊥
  no_none h = cc

  pub of_none : (o : Option Rect) → is_some o ≡ false → IfNone o P → P
  of_none None none p = p
  of_none (Some r) none p = absurd (no_none none)
