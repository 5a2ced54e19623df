use Rattle.std.proofs.Common.{◌∙◌, refl, sym, ap, subst}
use Rattle.std.specs.Result.{result_err}
use Rattle.zj_cli.specs.Check.{TellingEnds, spelling_of}
use Rattle.zj_cli.specs.Outside.{Outside}
use Rattle.zj_cli.proofs.CheckLemmas.{close_cause, out_read, read_again, read_cause, tells}
use Rattle.zj_cli.proofs.Ends.{ends, fails_to_print, if_err, on_ok, prints, told_failed, told_quiet}
use Rattle.zj_cli.proofs.check.tell.Goals as goal

pub returns-clause-runs : goal.returns-clause-runs
returns-clause-runs g c left input_faults =
    let view = g.H.D.Disk.view in
    let before = g.H.Shelf.names c.args.shelf.now in
    let mid = g.H.Shelf.names c.open_all.new.shelf in
    let now = g.H.Shelf.names c.close_all.new.shelf in
    let opened = c.in_ok-home.ensures in
    let home = view c.in_ok-home.field-0.home.device in
    let home' = view c.print_set-printed.new.home.device in
    let super = c.in_ok-home.field-0.home.told in
    let old = c.in_ok-home.field-0.areas.areas in
    let new = c.print_set-printed.new.areas.areas in
    let out = out_read view before mid home home' old new opened.out c.print_set-printed.ensures.home_read c.print_set-printed.ensures.read in
    let again = read_again view before now home' new (c.close_all.ensures.closed before out) in
    let outside : Outside = record { left = left; held = g.K.Sink.held c.args.out.now; names = before; input_faults = input_faults; output_faults = g.K.Sink.faults c.args.out.now; shelf_faults = g.H.Shelf.faults c.args.shelf.now } in
    let after : Outside = record { left = left; held = g.K.Sink.held c.print_set-printed.new.out; names = now; input_faults = input_faults; output_faults = g.K.Sink.faults c.print_set-printed.new.out; shelf_faults = g.H.Shelf.faults c.close_all.new.shelf } in
    let known = tells view before mid now home home' old new super opened.out again opened.in_order opened.home opened.journals (spelling_of c.args.telling) in
    record {
      back = c.close_all.ensures.back before out;
      ends = subst (λ fault. TellingEnds (spelling_of c.args.telling) outside after fault) (sym (ap (λ r. result_err r) c.and.ensures)) (ends (spelling_of c.args.telling) outside after c.print_set-printed.result c.map_err-closed.result refl
          (prints (spelling_of c.args.telling) outside after _ c.print_set-printed.result known c.print_set-printed.ensures.printed c.print_set-printed.ensures.quiet)
          (if_err c.print_set-printed.result (fails_to_print (spelling_of c.args.telling) outside after known (read_cause view before mid now home home' old new super opened.out again opened.in_order opened.home opened.journals _ _) (λ same. ap (λ out. g.K.Sink.held out) same)) c.print_set-printed.ensures.cause)
          (told_quiet _ c.close_all.result c.map_err-closed.result c.map_err-closed.ensures.cases (on_ok c.close_all.result (λ quiet. quiet ∙ opened.quiet) c.close_all.ensures.quiet))
          (told_failed outside after c.close_all.result c.map_err-closed.result c.map_err-closed.ensures.cases
          (if_err c.close_all.result (λ fault. close_cause view before mid now home home' old new super opened.out again opened.in_order opened.home opened.journals _ (g.H.Shelf.faults c.args.shelf.now) (g.H.Shelf.faults c.open_all.new.shelf) (g.H.Shelf.faults c.close_all.new.shelf) fault.device (c.print_set-printed.ensures.count ∙ opened.in_order.many) c.open_all.ensures.no_fewer) c.close_all.ensures.cause)));
    }
