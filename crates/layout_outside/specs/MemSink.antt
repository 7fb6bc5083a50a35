-- A sink over memory.
use Rattle.std.specs.Prelude.{Some}
use Rattle.layout_outside.specs.Views.{SinkView}
use Rattle.layout_outside.specs.declared.mem_sink.MemSink.{MemSink}

abbrev pub sink_view : MemSink → SinkView
sink_view sink = record { written = Some sink.bytes.items; faults = sink.faults }
