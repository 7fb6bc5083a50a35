-- A source over memory that never fails: its count of faults is the constant 0.
use Rattle.std.specs.Prelude.{drop, Some}
use Rattle.layout_outside.specs.Views.{SourceView}
use Rattle.layout_outside.specs.declared.sure_source.SureSource.{SureSource}

abbrev pub sure_view : SureSource → SourceView
sure_view source = record { left = Some (drop source.at source.bytes.items); faults = 0; ended = source.ended }
