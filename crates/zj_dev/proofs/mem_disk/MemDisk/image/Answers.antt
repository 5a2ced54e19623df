use Rattle.std.proofs.Common.{◌≡◌, ◌∙◌, true, refl, arith}
use Rattle.std.proofs.lemmas.Result.{IfOk-weaker}
use Rattle.zj_dev.specs.Medium.{at_rest, medium_at, leaves, filled}
use Rattle.zj_dev.specs.MemDisk.{medium_of, calls_made}
use Rattle.zj_dev.proofs.Histories.{lost_left, byte_left, torn_left}
use Rattle.zj_dev.proofs.mem_disk.MemDisk.image.Goals as goal

pub returns-in-Lost-clause-left : goal.returns-in-Lost-clause-left
returns-in-Lost-clause-left c =
    let disk = c.args.self.now in
    IfOk-weaker c.from_slice.result (λ v. v.items ≡ c.deref.result.now) (λ v. leaves (medium_at (calls_made disk) (at_rest disk.start.items) disk.history.items) v.items ≡ true)
    (λ v e. torn_left disk.start.items disk.history.items disk.calls (medium_of disk) v.items disk.settled.items
    (lost_left disk.start.items disk.history.items disk.calls (medium_of disk) disk.history_is) (e ∙ c.deref.ensures.value)) c.from_slice.ensures.items

pub returns-in-Filled-clause-left : goal.returns-in-Filled-clause-left
returns-in-Filled-clause-left c =
    let disk = c.args.self.now in
    let byte = c.in-Filled.byte in
    IfOk-weaker c.filled_copy.result (λ v. v.items ≡ filled byte c.deref-in-Filled-2.result.now c.deref-in-Filled.result.now) (λ v. leaves (medium_at (calls_made disk) (at_rest disk.start.items) disk.history.items) v.items ≡ true)
    (λ v e. torn_left disk.start.items disk.history.items disk.calls (medium_of disk) v.items (filled byte disk.pending.items disk.settled.items)
    (byte_left disk.start.items disk.history.items disk.calls (medium_of disk) byte (omega arith) disk.history_is)
    (e ∙ rw (c.deref-in-Filled-2.ensures.value, c.deref-in-Filled.ensures.value) refl)) c.filled_copy.ensures
