use Rattle.std.proofs.Common.{◌+◌, refl, ◌∙◌, arith}
use Rattle.std.proofs.lemmas.List.{with_items_is}
use Rattle.std.proofs.lemmas.Grind.{common_steps}
use Rattle.zj_dev.specs.declared.mem_disk.HistoryEntry.{HistoryEntry}
use Rattle.zj_dev.specs.declared.mem_disk.Change.TheVariants.{Synced}
use Rattle.zj_dev.proofs.Histories.{synced_history, syncs_told}
use Rattle.zj_dev.specs.Medium.{fails_at}
use Rattle.zj_dev.proofs.Faults.{quiet}
use Rattle.zj_dev.proofs.mem_disk.MemDisk.put_down.Goals as goal

pub invariant_of-self-2-clause-history_is : goal.invariant_of-self-2-clause-history_is
invariant_of-self-2-clause-history_is c =
    let entry : HistoryEntry = record { call = c.args.self.now.calls; change = Synced } in
    synced_history _ _ _ _ _ _ _ _ _ entry c.args.self.now.history_is refl refl c.in_ok-push.ensures.items (with_items_is c.args.self.now.settled c.settle.new.settled (grind (arith, common_steps)) ∙ grind (arith, common_steps)) c.clear.ensures.items

pub returns-clause-syncs : goal.returns-clause-syncs
returns-clause-syncs c =
    let entry : HistoryEntry = record { call = c.args.self.now.calls; change = Synced } in
    syncs_told _ _ _ _ _ _ _ _ _ entry c.args.self.now.history_is refl refl c.in_ok-push.ensures.items c.requires

pub returns-clause-quiet : goal.returns-clause-quiet
returns-clause-quiet c = λ none.
    let d = c.args.self.now in
    quiet (fails_at d.failing.items d.stop) d.calls (d.calls + 1) c.requires (omega (arith, c.requires)) none
