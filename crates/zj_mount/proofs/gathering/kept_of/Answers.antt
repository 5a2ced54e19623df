use Rattle.std.proofs.Common.{◌≡◌, subst}
use Rattle.std.specs.Prelude.{slice_index}
use Rattle.zj_history.specs.Transactions.{Bounds}
use Rattle.zj_closure.specs.Found.{tail_of}
use Rattle.zj_closure.specs.Kept.{AreKept}
use Rattle.zj_mount.proofs.gathering.kept_of.Goals as goal

pub returns : goal.returns
returns g c =
    let same : tail_of c.tails_of.result ≡ tail_of c.args.home.now.told.tails = λ i core. c.tails_of.ensures.tails core i in
    subst (λ (tails : Bounds). AreKept tails c.args.found.now (slice_index c.closed.result)) same c.closed.ensures
