use Rattle.std.proofs.Common.{subst}
use Rattle.zj_layout.specs.Shows.{ShowsSome}
use Rattle.zj_volume.specs.Volume.{SizedState}
use Rattle.zj_volume.proofs.volume.Volume.blocks.Goals as goal

pub returns-clause-shows : goal.returns-clause-shows
returns-clause-shows c = subst (λ (v : SizedState). ShowsSome v.sizes v.state) c.self.view_is c.self.invariant
