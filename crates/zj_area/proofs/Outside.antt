-- Records that lie outside a range whose bytes may have changed.
use Rattle.std.proofs.Common.{ℕ, ◌+◌, ◌≤◌, List, [], ◌∷◌, ◌∙◌, ◌⊎◌}
use Rattle.zj_block.specs.Sizes.{Numbers}
use Rattle.zj_block.specs.declared.numbers.Tail.{Tail}
use Rattle.zj_dev.specs.Disk.{SameOutside}
use Rattle.zj_dev.proofs.DiskLaws.{part_outside}
use Rattle.zj_tx.specs.Record.{Record}
use Rattle.zj_area.specs.Ring.{HasRecords, behind, len_of}

-- each record lies outside a range
abbrev pub Clear : Numbers → ℕ → ℕ → Tail → List Record → Type 0
Clear n lo count at [] = Unit {0}
Clear n lo count at (r ∷ rs) = ((at.place + len_of r ≤ lo) ⊎ (lo + count ≤ at.place)) × Clear n lo count (behind n at r) rs

-- such records stand where they stood
pub stand_stays : (n : Numbers) (core : ℕ) (lo count : ℕ) (old new : List ℕ) (records : List Record) (tail end : Tail) → SameOutside lo count old new → Clear n lo count tail records → HasRecords n core old tail records end → HasRecords n core new tail records end
stand_stays n core lo count old new [] tail end same clear stand = stand
stand_stays n core lo count old new (r ∷ rs) tail end same clear stand = (
  record {
    is_record = stand.0.is_record;
    accepted = stand.0.accepted;
    spelled = part_outside lo count old new tail.place (tail.place + len_of r) same clear.0 ∙ stand.0.spelled;
  },
  stand_stays n core lo count old new rs (behind n tail r) end same clear.1 stand.1,
)
