-- What contracts see of a split search and of its passes.
use Rattle.std.specs.Prelude.{◌≡◌, ℕ, suc, ◌<◌, List, [], ℤ, None}
use Rattle.atomic_table.specs.Seated.{TableId}
use Rattle.split_frontier.specs.Views.{View}
use Rattle.split_frontier.specs.Steps.{Seated}

-- a split search: its name, how many shards it has, and the problem that is searched
pub record ShardsHome : Type 0 where
  pub table_id : TableId
  pub shards : ℕ
  pub problem : List ℤ

-- a pass: the name of its search, and what it knows
pub record ShardsPass : Type 0 where
  pub table_id : TableId
  pub view : View

-- the pass is one of this search's
abbrev pub IsOwn : ShardsHome → ShardsPass → Type 0
IsOwn home pass = (pass.table_id ≡ home.table_id) × (pass.view.rest.problem ≡ home.problem)

-- a table has the bound word, and of each shard a turn word and a slot
pub record IsSplitTable (table_id : TableId) (shards : ℕ) : Type 0 where
  pub words : table_id.words ≡ suc shards
  pub slots : table_id.slots ≡ shards

-- what a pass keeps: it is live, holds no turn, and has no slot in hand
pub record IsIdlePass {W : Type 0} (me : Seated W) : Type 0 where
  pub live : 0 < me.0.rest.parts
  pub idle : me.0.rest.holds ≡ None
  pub none_carried : me.1 ≡ []
