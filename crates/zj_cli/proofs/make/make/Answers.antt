use Rattle.std.proofs.Common.{refl, sym, subst}
use Rattle.std.specs.Result.{result_err}
use Rattle.zj_cli.specs.Make.{IsClosing}
use Rattle.zj_cli.specs.Outside.{Outside}
use Rattle.zj_cli.proofs.MakeLemmas.{both_closed, make_ends}
use Rattle.zj_cli.proofs.make.make.Goals as goal

pub returns : goal.returns
returns g c = record {
  ends = λ left held input_faults output_faults.
      let before : Outside = record { left = left; held = held; names = g.H.Shelf.names c.args.shelf.now; input_faults = input_faults; output_faults = output_faults; shelf_faults = g.H.Shelf.faults c.args.shelf.now } in
      let after : Outside = record { left = left; held = held; names = g.H.Shelf.names c.make_home.new.shelf; input_faults = input_faults; output_faults = output_faults; shelf_faults = g.H.Shelf.faults c.make_home.new.shelf } in
      make_ends c.args.sizes.now before after (g.H.Shelf.names c.make_journals.new.shelf) (result_err c.and.result) c.in_ok-journals.ensures.made c.in_ok-home.ensures.others c.in_ok-home.ensures.made refl refl
      (subst (λ r. IsClosing c.args.sizes.now (g.H.Shelf.faults c.args.shelf.now) (g.H.Shelf.faults c.make_home.new.shelf) (result_err r)) (sym c.and.ensures)
      (both_closed c.args.sizes.now (g.H.Shelf.faults c.args.shelf.now) (g.H.Shelf.faults c.make_journals.new.shelf) (g.H.Shelf.faults c.make_home.new.shelf) c.in_ok-journals.journals c.in_ok-home.home c.make_journals.ensures.no_fewer c.make_home.ensures.no_fewer c.in_ok-journals.ensures.closing c.in_ok-home.ensures.closing));
}
