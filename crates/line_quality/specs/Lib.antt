-- What a line of the grid is, what boxes weigh for it, its score and its key; and what holds of all.
pub mod Points
pub mod Crossings
pub mod Scores
pub mod Keys
pub mod HeightLaws
pub mod ScoreLaws
pub mod KeyLaws
pub mod ColumnLaws
pub mod SumLaws
