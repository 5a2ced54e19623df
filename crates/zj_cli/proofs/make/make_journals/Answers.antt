use Rattle.std.proofs.Common.{◌≡◌, refl, sym, subst, arith}
use Rattle.std.specs.Result.{result_err}
use Rattle.std.proofs.lemmas.Result.{err_from_is_err_and}
use Rattle.zj_dev.specs.declared.device.Device.TheVariants as devices
use Rattle.zj_cli.specs.Make.{IsClosing, MakesJournals}
use Rattle.zj_cli.proofs.MakeLemmas.{both_closed, cause_since, journals_more, journals_none}
use Rattle.zj_cli.proofs.make.make_journals.Goals as goal

pub loop-core-init : goal.loop-core-init
loop-core-init g c = record {
  made = journals_none c.args.sizes.now (g.H.Shelf.names c.args.shelf.now);
  closing = refl;
  no_fewer = omega arith;
}

pub returns-in_err-one-clause-cause : goal.returns-in_err-one-clause-cause
returns-in_err-one-clause-cause g c =
    let p = err_from_is_err_and c.from_residual.result c.from_residual.ensures.1 in
    rw (p.1, p.2) (
      c.loop-core.core,
      omega (arith, c.loop-core-test.true, c.cores-core-end.ensures.value),
      record {
        mid = g.H.Shelf.names c.loop-core.shelf;
        journals = c.loop-core.invariant.made;
        others = c.make_journal.ensures.others;
        next = cause_since (devices.Journal c.loop-core.core) _ _ (g.H.Shelf.faults c.args.shelf.now) (g.H.Shelf.faults c.loop-core.shelf) (g.H.Shelf.faults c.make_journal.new.shelf) _ c.loop-core.invariant.no_fewer c.in_err-one.ensures.cause;
      },
    )

pub returns-in_err-one-clause-no_fewer : goal.returns-in_err-one-clause-no_fewer
returns-in_err-one-clause-no_fewer g c = omega (arith, c.loop-core.invariant.no_fewer, c.make_journal.ensures.no_fewer)

pub loop-core-preserved : goal.loop-core-preserved
loop-core-preserved g c = record {
  made = journals_more c.args.sizes.now (g.H.Shelf.names c.args.shelf.now) (g.H.Shelf.names c.loop-core.shelf) (g.H.Shelf.names c.make_journal.new.shelf) c.loop-core.core (omega (arith, c.loop-core-test.true, c.cores-core-end.ensures.value, c.cores-core-end.ensures.limits.most_cores))
      c.loop-core.invariant.made c.in_ok-one.ensures.others c.in_ok-one.ensures.made;
  closing = subst (λ r. IsClosing c.args.sizes.now (g.H.Shelf.faults c.args.shelf.now) (g.H.Shelf.faults c.make_journal.new.shelf) (result_err r)) (sym c.and-closed.ensures)
      (both_closed c.args.sizes.now (g.H.Shelf.faults c.args.shelf.now) (g.H.Shelf.faults c.loop-core.shelf) (g.H.Shelf.faults c.make_journal.new.shelf) c.loop-core.closed c.in_ok-one.one c.loop-core.invariant.no_fewer c.make_journal.ensures.no_fewer c.loop-core.invariant.closing c.in_ok-one.ensures.closing);
  no_fewer = omega (arith, c.loop-core.invariant.no_fewer, c.make_journal.ensures.no_fewer);
}

pub returns-clause-made : goal.returns-clause-made
returns-clause-made g c =
    let all : c.loop-core.core ≡ c.args.sizes.now.cores = omega (arith, c.loop-core-test.false, c.cores-core-end.ensures.value, c.loop-core.auto.core-end) in
    subst (λ n. MakesJournals c.args.sizes.now (g.H.Shelf.names c.args.shelf.now) (g.H.Shelf.names c.loop-core.shelf) n) all c.loop-core.invariant.made

pub returns-clause-closing : goal.returns-clause-closing
returns-clause-closing g c = c.loop-core.invariant.closing

pub returns-clause-no_fewer : goal.returns-clause-no_fewer
returns-clause-no_fewer g c = c.loop-core.invariant.no_fewer
