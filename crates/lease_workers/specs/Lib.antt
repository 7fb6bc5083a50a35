-- What a worker finds as it goes round the shards, and what it knows of a shape that it cut.
pub mod Finding
pub mod Cutting
