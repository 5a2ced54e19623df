use Rattle.std.proofs.Common.{refl, arith}
use Rattle.zj_dev.specs.declared.mem_disk.Extent.{Extent}
use Rattle.zj_dev.specs.declared.mem_disk.HistoryEntry.{HistoryEntry}
use Rattle.zj_dev.specs.declared.mem_disk.Change.TheVariants.{Tore}
use Rattle.zj_dev.proofs.Histories.{torn_history, tears_told}
use Rattle.zj_dev.proofs.mem_disk.MemDisk.tear.Goals as goal

pub invariant_of-self-2-clause-history_is : goal.invariant_of-self-2-clause-history_is
invariant_of-self-2-clause-history_is c =
    let extent : Extent = record { at = c.args.at; count = c.args.count } in
    let entry : HistoryEntry = record { call = c.args.self.now.calls; change = Tore extent } in
    torn_history _ _ _ _ _ _ _ _ extent entry c.args.self.now.history_is refl refl tt c.requires.within c.in_ok-record.ensures.history c.in_ok-record.ensures.pending

pub returns-clause-tears : goal.returns-clause-tears
returns-clause-tears c =
    let extent : Extent = record { at = c.args.at; count = c.args.count } in
    let entry : HistoryEntry = record { call = c.args.self.now.calls; change = Tore extent } in
    tears_told _ _ _ _ _ _ _ _ _ extent entry c.args.self.now.history_is refl refl tt c.requires.within c.in_ok-record.ensures.history (omega arith)
