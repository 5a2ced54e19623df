-- The entries that were seen are those of every made state.
use Rattle.std.proofs.Common.{◌≡◌, Some, ap, ◌∙◌, arith, below_more}
use Rattle.std.specs.Option.{option_copied}
use Rattle.zj_layout.specs.Image.{item_block}
use Rattle.zj_dirs.specs.Possible.{or_nothing}
use Rattle.std.proofs.lemmas.Result.{err_from_is_err_and}
use Rattle.zj_dirs.specs.Walking.{IsSearched}
use Rattle.zj_dirs.proofs.Looks.{found_first, found_nowhere, links_are, searched}
use Rattle.zj_dirs.proofs.Stops.{stops_more}
use Rattle.zj_dirs.proofs.looking.find_entry.Goals as goal

pub loop-place-init : goal.loop-place-init
loop-place-init c = λ k lt. absurd (omega arith)

pub returns-in_err-link-clause-stop : goal.returns-in_err-link-clause-stop
returns-in_err-link-clause-stop c =
    let p = err_from_is_err_and c.from_residual.result c.from_residual.ensures.1 in
    rw (p.1, p.2)
    (stops_more c.args.sizes.now c.args.taken.now (or_nothing (option_copied c.args.written)) (λ image block. block ≡ item_block image c.args.dir c.loop-place.place) (λ image block. IsSearched image c.args.dir c.args.name.now block)
    (λ state tree p b e. searched c.args.sizes.now c.args.taken.now (or_nothing (option_copied c.args.written)) state tree p (c.requires.stored state tree p) c.args.dir c.args.node.now (c.requires.node state tree p) c.requires.directory c.args.name.now c.loop-place.place b c.loop-place-test.true e (λ k lt. c.loop-place.invariant k lt state tree p))
    c.in_err-link.field-0.0 c.in_err-link.ensures.stop)

pub returns-in-Some-clause-ok : goal.returns-in-Some-clause-ok
returns-in-Some-clause-ok c = λ state tree p.
    let found = rw c.in-Some.is at c.in_ok-link.ensures.some in
    let at = found.1 state tree p in
    record {
      stands =
          links_are c.args.sizes.now c.args.taken.now (or_nothing (option_copied c.args.written)) state tree p (c.requires.stored state tree p) c.args.dir c.args.node.now (c.requires.node state tree p) c.requires.directory c.loop-place.place c.in-Some.link c.loop-place-test.true at
          ∙ ap (λ n. Some (record { node = c.in-Some.link.node; name = n })) found.0;
      leads =
          found_first c.args.sizes.now c.args.taken.now (or_nothing (option_copied c.args.written)) state tree p (c.requires.stored state tree p) c.args.dir c.args.node.now (c.requires.node state tree p) c.requires.directory c.args.name.now c.loop-place.place c.in-Some.link c.loop-place-test.true (λ k lt. c.loop-place.invariant k lt state tree p)
          at found.0;
    }

pub loop-place-preserved : goal.loop-place-preserved
loop-place-preserved c = below_more _ _ c.loop-place.invariant (rw c.in_default.is at c.in_ok-link.ensures.none)

pub returns-clause-ok : goal.returns-clause-ok
returns-clause-ok c = λ state tree p.
    found_nowhere c.args.sizes.now c.args.taken.now (or_nothing (option_copied c.args.written)) state tree p (c.requires.stored state tree p) c.args.dir c.args.node.now (c.requires.node state tree p) c.requires.directory c.args.name.now
    (λ k lt. c.loop-place.invariant k (omega arith) state tree p)
