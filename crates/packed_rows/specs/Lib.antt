-- A page, and its rows as packed bytes.
pub mod Page
pub mod PageLaws
