-- What is left of the built contents performs the call.
use Rattle.std.proofs.Common.{subst}
use Rattle.std.specs.Result.{IfErr, IfOk}
use Rattle.zj_inode.specs.Answering.{Builds, CallStops}
use Rattle.zj_inode.proofs.Fewer.{fewer_trimmed}
use Rattle.zj_inode.proofs.Trims.{performs_trimmed}
use Rattle.zj_inode.proofs.finishing.finish.Goals as goal

pub returns-in_ok-trim-in-Ok-clause-says : goal.returns-in_ok-trim-in-Ok-clause-says
returns-in_ok-trim-in-Ok-clause-says c = λ call builds stops.
    performs_trimmed c.args.sizes.now c.args.taken.now c.args.built.now c.in_ok-trim-in-Ok.field-0 call c.in-Ok.reply c.in_ok-trim-in-Ok.ensures.trimmed c.in_ok-trim-in-Ok.ensures.same c.requires
    (subst (λ r. IfOk r (Builds c.args.sizes.now c.args.taken.now c.args.built.now call)) c.in-Ok.is builds)

pub returns-in-Err-clause-says : goal.returns-in-Err-clause-says
returns-in-Err-clause-says c = λ call builds stops. c.stop.ensures.says c.args.taken.now call (subst (λ r. IfErr r (CallStops c.args.sizes.now c.args.taken.now call)) c.in-Err.is stops)

pub returns-in_ok-trim-in-Ok-clause-few : goal.returns-in_ok-trim-in-Ok-clause-few
returns-in_ok-trim-in-Ok-clause-few c = fewer_trimmed c.args.taken.now c.args.built.now c.in_ok-trim-in-Ok.field-0 c.in_ok-trim-in-Ok.ensures.trimmed
