use Rattle.std.proofs.Common.{Option, subst}
use Rattle.std.specs.Prelude.{IfSome}
use Rattle.zj_tx.specs.declared.part.Part.{Part}
use Rattle.zj_closure.specs.Newest.{HasNewer}
use Rattle.zj_closure.proofs.imaging.add_part.Goals as goal

pub returns-then-has_as_new-clause-ok : goal.returns-then-has_as_new-clause-ok
returns-then-has_as_new-clause-ok c =
    let none = rw c.deref.ensures.value at c.if-has_as_new.ensures in
    subst (λ (o : Option Part). IfSome o (HasNewer c.args.images.now.items c.args.images.now.items)) c.in-Some.ensures.image (none c.in-Some.image.now)
