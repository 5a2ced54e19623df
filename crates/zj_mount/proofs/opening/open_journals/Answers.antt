use Rattle.std.proofs.Common.{◌<◌, ◌∙◌, arith, ap, subst}
use Rattle.std.proofs.lemmas.Result.{err_from_is_err_and}
use Rattle.zj_block.specs.Sizes.{Numbers}
use Rattle.zj_dev.specs.Shelf.{Slot}
use Rattle.zj_mount.specs.Opening.{IsJournalCause}
use Rattle.zj_mount.proofs.OpenLemmas.{journal_cause_since, next_slot, opened_more, stops}
use Rattle.zj_mount.proofs.opening.open_journals.Goals as goal

pub returns-in_err-area-clause-stops : goal.returns-in_err-area-clause-stops
returns-in_err-area-clause-stops g c =
    let p = err_from_is_err_and c.from_residual.result c.from_residual.ensures.1 in
    let small : c.loop-core.core < 8 = omega (arith, c.cores-core-end.ensures.limits.most_cores, c.cores-core-end.ensures.value) in
    rw (p.1, p.2, c.reserve.ensures.areas)
    (stops g.H.D.Disk.view (g.H.Shelf.names c.args.shelf.now) c.args.home.now.told (g.H.Shelf.names c.loop-core.shelf) (g.H.Shelf.names c.open_journal.new.shelf) c.loop-core.core c.loop-core.areas.areas c.in_err-area.field-0.0.device small c.loop-core.invariant.opened
    c.open_journal.ensures.others c.in_err-area.ensures.refused)

pub returns-in_err-area-clause-cause : goal.returns-in_err-area-clause-cause
returns-in_err-area-clause-cause g c =
    let p = err_from_is_err_and c.from_residual.result c.from_residual.ensures.1 in
    let small : c.loop-core.core < 8 = omega (arith, c.cores-core-end.ensures.limits.most_cores, c.cores-core-end.ensures.value) in
    let here = next_slot g.H.D.Disk.view (g.H.Shelf.names c.args.shelf.now) (g.H.Shelf.names c.loop-core.shelf) c.args.home.now.told c.loop-core.core c.loop-core.areas.areas small c.loop-core.invariant.opened in
    let cause = journal_cause_since _ (g.H.Shelf.faults c.args.shelf.now) (g.H.Shelf.faults c.loop-core.shelf) (g.H.Shelf.faults c.open_journal.new.shelf) c.args.home.now.told c.loop-core.core c.in_err-area.field-0.0.fault c.loop-core.invariant.no_fewer c.in_err-area.ensures.cause in
    let same = ap (λ (n : Numbers). n.cores) c.sizes.ensures in
    let below : c.loop-core.core < c.args.home.now.told.sizes.cores = omega (arith, c.cores-core-end.ensures.value, same, c.loop-core-test.true) in
    rw (p.1, p.2) (
      c.loop-core.core,
      below,
      c.loop-core.invariant.opened.lengths,
      subst (λ (s : Slot). IsJournalCause s (g.H.Shelf.faults c.args.shelf.now) (g.H.Shelf.faults c.open_journal.new.shelf) c.args.home.now.told c.loop-core.core c.in_err-area.field-0.0.fault) here cause,
    )

pub loop-core-preserved : goal.loop-core-preserved
loop-core-preserved g c =
    let small : c.loop-core.core < 8 = omega (arith, c.cores-core-end.ensures.limits.most_cores, c.cores-core-end.ensures.value) in
    let items = rw c.reserve.ensures.areas at c.push.ensures.areas in
    record {
      opened = rw items (opened_more g.H.D.Disk.view (g.H.Shelf.names c.args.shelf.now) c.args.home.now.told (g.H.Shelf.names c.loop-core.shelf) (g.H.Shelf.names c.open_journal.new.shelf) c.loop-core.core c.loop-core.areas.areas c.in_ok-area.area small c.loop-core.invariant.opened
          c.open_journal.ensures.others c.in_ok-area.ensures.lent c.in_ok-area.ensures.area c.in_ok-area.ensures.length);
      quiet = c.in_ok-area.ensures.quiet ∙ c.loop-core.invariant.quiet;
      no_fewer = omega (arith, c.loop-core.invariant.no_fewer, c.open_journal.ensures.no_fewer);
    }
