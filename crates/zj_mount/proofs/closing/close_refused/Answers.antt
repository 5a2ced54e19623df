use Rattle.std.proofs.Common.{◌≡◌, ℕ, length, ap, ◌∙◌, arith}
use Rattle.zj_mount.specs.Set.{journal_name}
use Rattle.zj_mount.proofs.CloseLemmas.{all_back}
use Rattle.zj_mount.proofs.Refused.{none_out, one_back, out_but_one}
use Rattle.zj_mount.proofs.closing.close_refused.Goals as goal

pub returns-in-None-clause-back : goal.returns-in-None-clause-back
returns-in-None-clause-back g c before mid super stay lent stops =
    let view = g.H.D.Disk.view in
    let now = g.H.Shelf.names c.args.shelf.now in
    let home = view c.args.set.home.device in
    let areas = c.args.set.areas.areas in
    let out = out_but_one view before mid now super home areas c.args.refused stay lent stops in
    let back = all_back view _ (g.H.Shelf.names c.close_all.new.shelf) home areas (c.close_all.ensures.closed _ out) in
    none_out view before mid now super home areas c.args.refused stay lent stops c.in-None.is (g.H.Shelf.names c.close_all.new.shelf) back

pub returns-in-Some-clause-back : goal.returns-in-Some-clause-back
returns-in-Some-clause-back g c before mid super stay lent stops =
    let view = g.H.D.Disk.view in
    let now = g.H.Shelf.names c.args.shelf.now in
    let home = view c.args.set.home.device in
    let areas = c.args.set.areas.areas in
    let out = out_but_one view before mid now super home areas c.args.refused stay lent stops in
    let back = all_back view _ (g.H.Shelf.names c.close_all.new.shelf) home areas (c.close_all.ensures.closed _ out) in
    let many : c.len.result ≡ length c.args.set.areas.areas = omega (arith, c.len.ensures) in
    let named = c.journal_name-name.ensures ∙ ap (λ (core : ℕ). journal_name core) many in
    one_back view before mid now super home areas c.args.refused stay lent stops c.in-Some.d c.in-Some.is (g.H.Shelf.names c.close_all.new.shelf) (g.H.Shelf.names c.close.new.self) back
    (rw named at c.close.ensures.closed) (rw named at c.close.ensures.others)
