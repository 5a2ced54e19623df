use Rattle.std.proofs.Common.{◌+◌, length, refl, arith}
use Rattle.zj_dev.specs.declared.mem_disk.Extent.{Extent}
use Rattle.zj_dev.specs.declared.mem_disk.HistoryEntry.{HistoryEntry}
use Rattle.zj_dev.specs.declared.mem_disk.Change.TheVariants.{Wrote}
use Rattle.zj_dev.proofs.Images.{are_bytes}
use Rattle.zj_dev.proofs.Histories.{written_history, writes_told}
use Rattle.zj_dev.specs.Medium.{fails_at}
use Rattle.zj_dev.proofs.Faults.{quiet}
use Rattle.zj_dev.proofs.mem_disk.MemDisk.put.Goals as goal

pub invariant_of-self-2-clause-history_is : goal.invariant_of-self-2-clause-history_is
invariant_of-self-2-clause-history_is c =
    let extent : Extent = record { at = c.args.at; count = length c.args.piece.now } in
    let entry : HistoryEntry = record { call = c.args.self.now.calls; change = Wrote extent c.in_ok-copy.copy } in
    written_history _ _ _ _ _ _ _ _ _ extent c.args.piece.now entry c.args.self.now.history_is refl
    (rw c.in_ok-copy.ensures.items refl) (rw c.in_ok-copy.ensures.items c.requires.within) refl c.requires.within (are_bytes c.args.piece.now (λ k. (c.type_inv.piece k).fits))
    c.in_ok-record.ensures.history c.overwrite.ensures c.in_ok-record.ensures.pending

pub returns-clause-writes : goal.returns-clause-writes
returns-clause-writes c =
    let extent : Extent = record { at = c.args.at; count = length c.args.piece.now } in
    let entry : HistoryEntry = record { call = c.args.self.now.calls; change = Wrote extent c.in_ok-copy.copy } in
    writes_told _ _ _ _ _ _ _ _ _ _ extent c.args.piece.now entry c.args.self.now.history_is refl
    (rw c.in_ok-copy.ensures.items refl) (rw c.in_ok-copy.ensures.items c.requires.within) refl c.requires.within (are_bytes c.args.piece.now (λ k. (c.type_inv.piece k).fits))
    c.in_ok-record.ensures.history c.overwrite.ensures c.requires.early

pub returns-clause-quiet : goal.returns-clause-quiet
returns-clause-quiet c = λ none.
    let d = c.args.self.now in
    quiet (fails_at d.failing.items d.stop) d.calls (d.calls + 1) c.requires.early (omega (arith, c.requires.early)) none
