-- A journal at rest with no records.
use Rattle.std.proofs.Common.{◌≡◌, ℕ, List, [], sym, ◌∙◌, arith}
use Rattle.std.specs.Prelude.{IfSome, Option, Some, None}
use Rattle.zj_block.specs.Sizes.{Numbers}
use Rattle.zj_block.specs.declared.numbers.Tail.{Tail}
use Rattle.zj_dev.specs.Disk.{DiskView, IsSettled, OnlyReads}
use Rattle.zj_tx.specs.Record.{Record}
use Rattle.zj_area.specs.Ring.{Holds}
use Rattle.zj_area.specs.Journal.{IsAtRest, IsJournal, JournalView}

-- reading leaves a settled device settled
pub reads_settled : (old new : DiskView) → OnlyReads old new → IsSettled old → IsSettled new
reads_settled old new reads settled image may =
    reads.bytes ∙ settled image (sym (reads.images new.calls image reads.goes_on.calls (omega arith)) ∙ may)

-- a journal that holds no record up to its end
pub rests_empty : (new : JournalView) (old read : DiskView) (n : Numbers) (core : ℕ) (tail end : Tail) (records : List Record) → new.disk ≡ read → new.sizes ≡ n → new.core ≡ core → new.tail ≡ tail → new.end ≡ end
    → OnlyReads old read → IsSettled old → records ≡ [] → IfSome old.bytes (λ image. Holds n core image tail records end) → IsAtRest new []
rests_empty new old read n core tail end records disk sizes core_is tail_is end_is reads settled empty holds = record {
  settled = rw disk (reads_settled old read reads settled);
  journal = rw (disk, reads.bytes, sizes, core_is, tail_is, end_is) (each old.bytes (rw empty at holds));
}
  where
    each : (o : Option (List ℕ)) → IfSome o (λ image. Holds n core image tail [] end) → IfSome o (λ image. IsJournal n core image tail [] end)
    each None held = tt
    each (Some image) held = record { holds = held; between = tt }
