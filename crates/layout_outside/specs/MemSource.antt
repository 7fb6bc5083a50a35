-- A source over memory.
use Rattle.std.specs.Prelude.{ℕ, List, drop, Some}
use Rattle.layout_outside.specs.Views.{SourceView}
use Rattle.layout_outside.specs.declared.mem_source.MemSource.{MemSource}

-- the bytes that were not handed out yet
abbrev pub bytes_left : MemSource → List ℕ
bytes_left source = drop source.at source.bytes.items

abbrev pub source_view : MemSource → SourceView
source_view source = record { left = Some (bytes_left source); faults = source.faults; ended = source.ended }
