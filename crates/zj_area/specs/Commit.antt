-- What the two halves of a commit do to a journal, at each moment.
use Rattle.std.specs.Prelude.{◌⊎◌, List, [], ◌∷◌, ◌++◌}
use Rattle.zj_block.specs.declared.numbers.Tail.{Tail}
use Rattle.zj_dev.specs.Disk.{EachImageSince}
use Rattle.zj_tx.specs.Record.{Record}
use Rattle.zj_area.specs.Ring.{Holds}
use Rattle.zj_area.specs.Journal.{IsAtRest, IsLaid, JournalView}

-- Laying a record: whatever a crash leaves at a moment of it holds the records before.
abbrev pub KeepsRecords : JournalView → JournalView → Type 0
KeepsRecords old new = (records : List Record) → IsAtRest old records
    → EachImageSince old.disk.calls new.disk (λ image. Holds old.sizes old.core image old.tail records old.end)

-- Opening the gate of a record that was laid: whatever a crash leaves at a moment of it holds the records before, or those
-- with the new one.
abbrev pub OpensGate : JournalView → JournalView → Tail → Type 0
OpensGate old new next = (records : List Record) (r : Record) → IsLaid old records r next
    → EachImageSince old.disk.calls new.disk (λ image. Holds old.sizes old.core image old.tail records old.end ⊎ Holds old.sizes old.core image old.tail (records ++ r ∷ []) next)
