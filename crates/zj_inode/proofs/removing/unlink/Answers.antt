-- Each answer of the code is the plain service's in every possible state.
use Rattle.std.proofs.lemmas.Result.{IfErr-weaker, IfOk-weaker, err_from_is_err_and}
use Rattle.zj_inode.proofs.Targets.{free_target}
use Rattle.zj_inode.proofs.Unlinked.{unlink_directory, unlink_root_refused, unlink_stops, unlink_way, unlinked}
use Rattle.zj_inode.proofs.removing.unlink.Goals as goal

pub returns-in_default-clause-stop : goal.returns-in_default-clause-stop
returns-in_default-clause-stop c = unlink_root_refused c.args.sizes.now c.args.taken.now c.args.path.now c.in_default.ensures.none

pub returns-in_err-target-clause-stop : goal.returns-in_err-target-clause-stop
returns-in_err-target-clause-stop c =
    let q = err_from_is_err_and c.from_residual.result c.from_residual.ensures.1 in
    rw (q.1, q.2) (unlink_way c.args.sizes.now c.args.taken.now c.args.path.now c.in-Some.front.now c.in-Some.name.now c.in-Some.ensures.some c.in_err-target.field-0.0 c.in_err-target.ensures.stop)

pub detach-requires-clause-at : goal.detach-requires-clause-at
detach-requires-clause-at c = (c.in-Some.front.now, c.in-Some.name.now, c.in_ok-target.ensures.ok)

pub returns-in-File-clause-done : goal.returns-in-File-clause-done
returns-in-File-clause-done c = IfOk-weaker c.detach.result _ _
    (unlinked c.args.sizes.now c.args.taken.now c.args.path.now c.in-Some.front.now c.in-Some.name.now c.in-Some.ensures.some c.in_ok-target.target c.in_ok-target.ensures.ok c.in-File.is c.detach.new.built)
    c.detach.ensures.done

pub returns-in-File-clause-stop : goal.returns-in-File-clause-stop
returns-in-File-clause-stop c = IfErr-weaker c.detach.result _ _
    (unlink_stops c.args.sizes.now c.args.taken.now c.args.path.now c.in-Some.front.now c.in-Some.name.now c.in-Some.ensures.some c.in_ok-target.target c.in_ok-target.ensures.ok c.in-File.is)
    c.detach.ensures.stop

pub returns-in-Dir-clause-stop : goal.returns-in-Dir-clause-stop
returns-in-Dir-clause-stop c = unlink_directory c.args.sizes.now c.args.taken.now c.args.path.now c.in-Some.front.now c.in-Some.name.now c.in-Some.ensures.some c.in_ok-target.target c.in_ok-target.ensures.ok c.in-Dir.is

pub returns-in-Free-clause-stop : goal.returns-in-Free-clause-stop
returns-in-Free-clause-stop c = free_target c.args.sizes.now c.args.taken.now c.in-Some.front.now c.in-Some.name.now c.in_ok-target.target c.in_ok-target.ensures.ok c.in-Free.is
