-- Each answer of the code is the plain service's in every possible state.
use Rattle.std.proofs.Common.{◌≡◌, Some}
use Rattle.std.proofs.lemmas.Result.{err_from_is_err_and}
use Rattle.zj_layout.specs.Stored.{IsStored}
use Rattle.zj_inode.proofs.Cuts.{cut_done, cut_stops, no_file_stops, past_end}
use Rattle.zj_inode.proofs.Steps.{always_stored, fresh_made}
use Rattle.zj_inode.proofs.files.truncate.Goals as goal

pub returns-in_err-file-clause-stop : goal.returns-in_err-file-clause-stop
returns-in_err-file-clause-stop c =
    let q = err_from_is_err_and c.from_residual.result c.from_residual.ensures.1 in
    rw (q.1, q.2) (no_file_stops c.args.sizes.now c.args.taken.now c.args.path.now c.args.size c.in_err-file.field-0.0 c.in_err-file.ensures.stop)

pub returns-then-size-file-clause-stop : goal.returns-then-size-file-clause-stop
returns-then-size-file-clause-stop c = past_end c.args.sizes.now c.args.taken.now c.args.path.now c.args.size c.in_ok-file.file c.in_ok-file.ensures.ok c.in_ok-file.ensures.file c.if-size-file.true

pub cut-requires-clause-stored : goal.cut-requires-clause-stored
cut-requires-clause-stored c = fresh_made c.args.sizes.now c.args.taken.now c.args.built.now c.requires.fresh (IsStored c.args.sizes.now) (always_stored c.args.sizes.now c.args.taken.now)

pub cut-requires-clause-node : goal.cut-requires-clause-node
cut-requires-clause-node c = fresh_made c.args.sizes.now c.args.taken.now c.args.built.now c.requires.fresh (λ image. image.node c.in_ok-file.file.number ≡ Some c.in_ok-file.file.node) (λ state tree p. (c.in_ok-file.ensures.ok state tree p).is)

pub returns-in_err-cut-clause-stop : goal.returns-in_err-cut-clause-stop
returns-in_err-cut-clause-stop c =
    let q = err_from_is_err_and c.from_residual-in_err-cut.result c.from_residual-in_err-cut.ensures.1 in
    rw (q.1, q.2) (cut_stops c.args.sizes.now c.args.taken.now c.args.path.now c.args.size c.in_ok-file.file c.in_ok-file.ensures.ok c.in_ok-file.ensures.file c.args.built.now c.requires.fresh c.in_err-cut.field-0.0 c.in_err-cut.ensures.halt)

pub returns-clause-done : goal.returns-clause-done
returns-clause-done c = cut_done c.args.sizes.now c.args.taken.now c.args.path.now c.args.size c.in_ok-file.file c.in_ok-file.ensures.ok c.in_ok-file.ensures.file c.args.built.now c.requires.fresh c.cut.new.built c.len-contents.ensures.contents c.in_ok-cut.ensures.done
