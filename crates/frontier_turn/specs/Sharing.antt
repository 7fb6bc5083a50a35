-- What the views of searches by many passes have in common, and which of their steps are alike.
use Rattle.std.specs.Prelude.{◌≡◌, ℕ, ◌<◌, ◌≤◌, List, ℤ, max}
use mathlib.Core.Option.{none}
use Rattle.atomic_table.specs.Table.{State, Me, step, Allows, Splits, Joins}
use Rattle.bound_word.specs.declared.view.View.{View}
use Rattle.bound_word.specs.Asking.{Reads, Raises}

-- how views are cut in two and made one, and what is left of a pass that was joined away
pub record Parting (R : Type 0) : Type 0 where
  pub left : View R → View R
  pub right : View R → View R
  pub both : View R → View R → View R
  pub spent : View R

-- what all steps ask of the rest of a view: its problem, its parts, and whether it holds no turn and names no lease
pub record Standing (R : Type 0) : Type 1 where
  pub problem : R → List ℤ
  pub parts : R → ℕ
  pub is_idle : R → Type 0
  pub is_free : R → Type 0

-- the pass has parts, and searches this problem
pub record IsLiveIn {R : Type 0} (stands : Standing R) (problem : List ℤ) (view : View R) : Type 0 where
  pub problem_is : stands.problem view.rest ≡ problem
  pub parts : 0 < stands.parts view.rest

-- `Allows Rule ..` says: whatever the words, the slots and the views are that meet the rule, they meet it after the step too
module _ {T R : Type 0} (admits : List ℤ → ℕ → Type 0) (RuleOf : List ℤ → State T (View R) → Type 0)
    (stands : Standing R) (parting : Parting R) where
  -- the steps that are alike, whatever the turns are, keep the rule of a table with so many slots
  pub record KeepTheRule (slots : ℕ) : Type 0 where
    -- a pass reads the bound word
    pub read : (problem : List ℤ) (id : ℕ) (pass : Me T (View R)) → IsLiveIn stands problem pass.0
        → Allows (RuleOf problem) slots id pass 0 (λ word. word) (Reads admits stands.problem (step slots 0 0 0 none) pass)
    -- a pass raises the bound word to an admitted key
    pub raise : (problem : List ℤ) (id key : ℕ) (pass : Me T (View R)) → IsLiveIn stands problem pass.0 → admits problem key
        → Allows (RuleOf problem) slots id pass 0 (λ word. max word key) (Raises admits stands.problem (step slots 0 key 0 none) pass)
    -- a pass of at least two parts that holds no turn is cut in two
    pub split : (problem : List ℤ) (id : ℕ) (view : View R) → 2 ≤ stands.parts view.rest → stands.is_idle view.rest
        → Splits (RuleOf problem) id view (parting.left view) (parting.right view)
    -- a pass takes in another that names no lease, and neither holds a turn
    pub join : (problem : List ℤ) (id other : ℕ) (view spent : View R) → IsLiveIn stands problem view → IsLiveIn stands problem spent
        → stands.is_idle view.rest → stands.is_idle spent.rest → stands.is_free spent.rest
        → Joins (RuleOf problem) id view other spent (parting.both view spent) parting.spent
