use Rattle.std.proofs.Common.{◌≡◌, ◌∙◌, ℕ, List, [], length, refl, sym, ap, subst, inl, inr, arith}
use Rattle.std.proofs.lemmas.Result.{err_from_is_err_and}
use Rattle.std.specs.Result.{result_err}
use Rattle.zj_dev.specs.Disk.{DiskView}
use Rattle.zj_mount.specs.Image.{RoseUnder}
use Rattle.zj_mount.specs.Set.{journal_name}
use Rattle.zj_cli.specs.Outside.{Outside}
use Rattle.zj_cli.specs.Phases.{AreOf, AreUnder, HasRound, JournalFails}
use Rattle.zj_cli.specs.Play.{PlayEnds}
use Rattle.zj_cli.proofs.CheckLemmas.{close_cause, mount_cause, mounts_tree, rose_under}
use Rattle.zj_cli.proofs.CutLemmas.{begins_told, cuts_under, foreign_back, none_begin, none_round, others_told}
use Rattle.zj_cli.proofs.Ends.{if_err, on_ok, told_failed, told_quiet}
use Rattle.zj_cli.proofs.PlayLemmas.{early, play_ends, unopened}
use Rattle.zj_cli.proofs.SessionLemmas.{as_many}
use Rattle.zj_cli.proofs.ShelfLemmas.{all_back, are_again, disks_are, none_touched, only_read, phases_under, script_under}
use Rattle.zj_cli.proofs.play.play.Goals as goal

pub close_all-requires : goal.close_all-requires
close_all-requires g c =
    let opened = c.in_ok-home.ensures in
    omega (arith, as_many g.H.D.Disk.view c.in_ok-home.field-0.areas.areas c.play_set-areas.result.0.areas c.play_set-areas.ensures.journals, opened.in_order.few)

pub returns-in_err-home-clause-runs : goal.returns-in_err-home-clause-runs
returns-in_err-home-clause-runs g c =
    let p = err_from_is_err_and c.from_residual-in_err-home.result c.from_residual-in_err-home.ensures.1 in
    let before = g.H.Shelf.names c.args.shelf.now in
    let now = g.H.Shelf.names c.open_all.new.shelf in
    let outside : Outside = record { left = g.S.Source.left c.args.input.now; held = g.K.Sink.held c.args.out.now; names = before; input_faults = g.S.Source.faults c.args.input.now; output_faults = g.K.Sink.faults c.args.out.now; shelf_faults = g.H.Shelf.faults c.args.shelf.now } in
    let after : Outside = record { left = g.S.Source.left c.args.input.now; held = g.K.Sink.held c.args.out.now; names = now; input_faults = g.S.Source.faults c.args.input.now; output_faults = g.K.Sink.faults c.args.out.now; shelf_faults = g.H.Shelf.faults c.open_all.new.shelf } in
    let none = c.reserve.ensures.items ∙ c.requires.none in
    record {
      back = only_read before now c.in_err-home.ensures.back;
      others = λ core fits past. c.in_err-home.ensures.back.journals core fits;
      phases_are = inl (none, c.in_err-home.ensures.back);
      begins = none_begin before now c.reserve.new.self.items none;
      cuts = λ spans has. absurd (none_round c.reserve.new.self.items spans none has);
      ends = rw p.1 (unopened outside after _ c.in_err-home.field-0.0 p.0 p.2 c.in_err-home.ensures.cause (refl, refl) (c.reserve.ensures.items ∙ c.requires.none));
    }

pub returns-clause-runs : goal.returns-clause-runs
returns-clause-runs g c =
    let view = g.H.D.Disk.view in
    let before = g.H.Shelf.names c.args.shelf.now in
    let mid = g.H.Shelf.names c.open_all.new.shelf in
    let now = g.H.Shelf.names c.close_all.new.shelf in
    let opened = c.in_ok-home.ensures in
    let played = c.play_set-areas.ensures in
    let d = c.in_ok-home.field-0.home.device in
    let d' = c.play_set-areas.new.home.device in
    let super = c.in_ok-home.field-0.home.told in
    let old = c.in_ok-home.field-0.areas.areas in
    let new = c.play_set-areas.result.0.areas in
    let phases = c.play_set-areas.new.phases.items in
    let closes = c.close_all.ensures.closes in
    let again = are_again view before mid now (view d) (view d') old new opened.out closes played.journals in
    let count = as_many view old new played.journals ∙ opened.in_order.many in
    let to : (disks : List DiskView) → AreUnder super.sizes.cores now disks → AreOf view d' new disks = disks_are view super.sizes.cores before now d' new again count (omega (arith, as_many view old new played.journals, opened.in_order.few)) in
    let are_phases = phases_under super.sizes.cores (AreOf view d' new) (AreUnder super.sizes.cores now) phases to played.phases in
    let begin = begins_told view before mid now d d' old new opened.out (omega (arith, opened.in_order.few)) played.home played.journals super.sizes.cores phases are_phases to played.begins in
    let outside : Outside = record { left = g.S.Source.left c.args.input.now; held = g.K.Sink.held c.args.out.now; names = before; input_faults = g.S.Source.faults c.args.input.now; output_faults = g.K.Sink.faults c.args.out.now; shelf_faults = g.H.Shelf.faults c.args.shelf.now } in
    let after : Outside = record { left = g.S.Source.left c.play_set-areas.new.input; held = g.K.Sink.held c.play_set-areas.new.out; names = now; input_faults = g.S.Source.faults c.play_set-areas.new.input; output_faults = g.K.Sink.faults c.play_set-areas.new.out; shelf_faults = g.H.Shelf.faults c.close_all.new.shelf } in
    record {
      back = all_back view before mid now (view d) (view d') old new opened.out closes played.journals played.home;
      others = others_told super.sizes.cores (AreUnder super.sizes.cores now) before now phases are_phases
          (λ core fits past. foreign_back view before mid now (view d) (view d') old new opened.out closes played.journals core fits (omega (arith, past, opened.in_order.many)));
      phases_are = inr (super, opened.home, are_phases);
      begins = begin;
      cuts = λ spans has.
          let left = played.cuts spans has in (
            super,
            left.0,
            left.1,
            mounts_tree view before mid now (view d) (view d') old new super opened.out again opened.in_order opened.home opened.journals d left.0 left.1 refl left.2,
            cuts_under super left.0 left.1 (AreOf view d' new) (AreUnder super.sizes.cores now) outside.left after.left spans to left.3,
          );
      ends = subst (λ fault. PlayEnds outside after phases fault) (sym (ap (λ r. result_err r) c.and.ensures)) (play_ends outside after phases c.play_set-areas.result.1 c.map_err-closed.result
          (elim played.ends [
            | inl from ↦ inl (record {
              super = super;
              start = from.0;
              tree = from.1;
              mounts = mounts_tree view before mid now (view d) (view d') old new super opened.out again opened.in_order opened.home opened.journals d from.0 from.1 refl from.2;
              phases_are = are_phases;
              script = script_under super from.0 from.1 (AreOf view d' new) (AreUnder super.sizes.cores now) (HasRound phases) (JournalFails view old new) (λ core. RoseUnder (before (journal_name core)) (now (journal_name core))) outside after to
                  (λ core fails. (rose_under view before mid now (view d) (view d') old new super opened.out again opened.in_order opened.home opened.journals core fails).1)
                  (result_err c.play_set-areas.result.1)
                  (from.3 before now (g.H.Shelf.faults c.args.shelf.now) (g.H.Shelf.faults c.close_all.new.shelf));
            })
            | inr none ↦ inr (
              if_err c.play_set-areas.result.1 (λ fault. mount_cause view before mid now (view d) (view d') old new super opened.out again opened.in_order opened.home opened.journals (g.H.Shelf.faults c.args.shelf.now) (g.H.Shelf.faults c.close_all.new.shelf) d d' fault refl refl) none.0,
              none.1,
              ((ap g.S.Source.left none.2, ap g.K.Sink.held none.3), inr (super, opened.home, are_phases, none.4)),
            )
          ])
          (told_quiet _ c.close_all.result c.map_err-closed.result c.map_err-closed.ensures.cases (on_ok c.close_all.result (λ quiet. quiet ∙ opened.quiet) c.close_all.ensures.quiet))
          (told_failed outside after c.close_all.result c.map_err-closed.result c.map_err-closed.ensures.cases
          (if_err c.close_all.result (λ fault. close_cause view before mid now (view d) (view d') old new super opened.out again opened.in_order opened.home opened.journals _ (g.H.Shelf.faults c.args.shelf.now) (g.H.Shelf.faults c.open_all.new.shelf) (g.H.Shelf.faults c.close_all.new.shelf) fault.device count c.open_all.ensures.no_fewer) c.close_all.ensures.cause)));
    }
