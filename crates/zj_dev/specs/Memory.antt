-- The memory forms of streams: which calls fail, and how many were made.
use Rattle.std.specs.Prelude.{ℕ, List, drop}
use Rattle.zj_dev.specs.declared.source.MemSource.{MemSource}
use Rattle.zj_dev.specs.declared.sink.MemSink.{MemSink}

-- the bytes that a source in memory has left
abbrev pub bytes_left : MemSource → List ℕ
bytes_left source = drop source.next source.bytes.items

-- the numbers of the reads that fail
abbrev pub failing_reads : MemSource → List ℕ
failing_reads source = source.failing.items

-- how many reads were made
abbrev pub reads_made : MemSource → ℕ
reads_made source = source.calls

-- the bytes that a sink in memory holds
abbrev pub bytes_held : MemSink → List ℕ
bytes_held sink = sink.bytes.items

-- the numbers of the writes that fail
abbrev pub failing_writes : MemSink → List ℕ
failing_writes sink = sink.failing.items

-- how many writes were made
abbrev pub writes_made : MemSink → ℕ
writes_made sink = sink.calls
