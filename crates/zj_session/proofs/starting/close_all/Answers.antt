use Rattle.std.proofs.Common.{◌≡◌, ◌∙◌, None, ap, subst, arith, length}
use Rattle.std.proofs.lemmas.List.Elements.{All-head, All-tail}
use Rattle.std.specs.Vec.Iter.{into_iter_items}
use Rattle.zj_core.specs.Core.{CoreState}
use Rattle.zj_session.specs.Playing.{AreIdle}
use Rattle.zj_session.proofs.Cores.{behind}
use Rattle.zj_session.proofs.starting.close_all.Goals as goal

pub close-pass-requires : goal.close-pass-requires
close-pass-requires g c =
    All-head (λ (d : CoreState _). d.begun ≡ None) c.in-Some.core (into_iter_items c.next.new.self) (subst AreIdle c.in-Some.ensures.items c.loop-core.invariant.idle)

pub loop-core-preserved : goal.loop-core-preserved
loop-core-preserved g c =
    let inv = c.loop-core.invariant in
    let closed = ap (λ t. t.1) c.close-pass.ensures in
    record {
      all = behind c.loop-core.places.areas c.push.new.self.areas (into_iter_items c.loop-core.left) (into_iter_items c.next.new.self) c.in-Some.core _ closed c.push.ensures.areas c.in-Some.ensures.items ∙ inv.all;
      spare = omega (arith, c.push.ensures.spare, c.in-Some.ensures.cases, inv.spare);
      count = let e = ap length c.in-Some.ensures.items in omega (arith, e, inv.count, c.in-Some.ensures.cases);
      idle = All-tail (λ (d : CoreState _). d.begun ≡ None) c.in-Some.core (into_iter_items c.next.new.self) (subst AreIdle c.in-Some.ensures.items inv.idle);
    }
