-- What each area keeps over its calls.
use Rattle.std.proofs.Common.{◌≡◌, ℕ, ◌+◌, ◌^◌, ◌≤◌, sym, ◌∙◌, arith}
use Rattle.std.specs.Prelude.{Option, IfSome}
use Rattle.zj_block.specs.Sizes.{Numbers}
use Rattle.zj_block.specs.declared.numbers.Tail.{Tail}
use Rattle.zj_dev.specs.Disk.{Continues, DiskView, IsDisk}
use Rattle.zj_area.specs.Ring.{IsPlace}
use Rattle.zj_area.specs.Journal.{IsArea}

-- calls that leave the end
pub kept : (old new : DiskView) (n : Numbers) (core : ℕ) (tail end : Tail) (laid next : Option Tail) (room buffer : ℕ) → IsArea old n core tail end laid room → IsDisk new → Continues old new → room ≡ buffer
    → IfSome next (λ t. IsPlace n t.place × (t.number ≡ end.number + 1)) → IsArea new n core tail end next buffer
kept old new n core tail end laid next room buffer is is_disk on same due = record {
  is_disk = is_disk;
  limits = is.limits;
  size = on.size ∙ is.size;
  core_within = is.core_within;
  tail_place = is.tail_place;
  tail_number = omega (arith, is.tail_number, on.calls);
  tail_early = is.tail_early;
  end_place = is.end_place;
  end_number = omega (arith, is.end_number, on.calls);
  end_early = is.end_early;
  next = due;
  room = sym same ∙ is.room;
}

-- calls that move it to where the next record is due
pub moved_on : (old new : DiskView) (n : Numbers) (core : ℕ) (tail end next : Tail) (laid : Option Tail) (room : ℕ) → IsArea old n core tail end laid room → IsDisk new → Continues old new
    → IsPlace n next.place → next.number ≤ 2 ^ 62 + new.calls → next.number ≤ 2 ^ 62 + 2 ^ 63 → (due : Option Tail) → IfSome due (λ t. IsPlace n t.place × (t.number ≡ next.number + 1)) → IsArea new n core tail next due room
moved_on old new n core tail end next laid room is is_disk on place number early due due_is = record {
  is_disk = is_disk;
  limits = is.limits;
  size = on.size ∙ is.size;
  core_within = is.core_within;
  tail_place = is.tail_place;
  tail_number = omega (arith, is.tail_number, on.calls);
  tail_early = is.tail_early;
  end_place = place;
  end_number = number;
  end_early = early;
  next = due_is;
  room = is.room;
}
