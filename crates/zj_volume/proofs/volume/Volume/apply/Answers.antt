-- The new contents make the blocks show the tree that the call leaves.
use Rattle.std.proofs.Common.{sym, subst}
use Rattle.zj_layout.specs.Shows.{ShowsSome}
use Rattle.zj_volume.proofs.Served.{still_shows}
use Rattle.zj_volume.proofs.volume.Volume.apply.Goals as goal

pub invariant_of-self : goal.invariant_of-self
invariant_of-self c =
    subst (ShowsSome c.self.inside.sizes) (sym c.put_written.ensures)
    (still_shows c.self.inside.sizes c.self.inside.blocks c.args.call.now c.in_ok-reply.reply c.in_ok-reply.written c.in_ok-reply.ensures c.self.invariant)
