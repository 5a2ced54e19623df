use Rattle.std.proofs.Common.{◌≡◌, ◌∙◌, ap, length, subst, sym, arith}
use Rattle.zj_block.specs.Sizes.{Numbers}
use Rattle.zj_session.specs.Playing.{AreJournals}
use Rattle.zj_session.proofs.Cores.{all_long, all_made}
use Rattle.zj_session.proofs.Fresh.{fresh_rest, fresh_service, made_many, made_shows, made_sizes}
use Rattle.zj_session.proofs.Past.{fresh_past}
use Rattle.zj_session.proofs.service.Service.start.Goals as goal

pub invariant_of-result : goal.invariant_of-result
invariant_of-result g c =
    let r = c.args.recovered.now in
    let sizes = c.sizes-sizes.result.now in
    let same = made_sizes c.in-Ok.cache r sizes c.in-Ok.ensures.cache c.requires.shows c.sizes-sizes.ensures in
    let many = made_many c.in-Ok.cache r sizes c.in-Ok.ensures.cache c.requires.shows c.sizes-sizes.ensures in
    let all = all_made c.make_cores.new.cores.items c.make_cores.new.waiting.items c.take_all.new.waiting.items c.args.areas.areas c.make_cores.ensures.journals c.make_cores.ensures.all c.take_all.ensures.taken in
    let long = all_long c.make_cores.new.cores.items c.args.areas.areas all in
    (fresh_rest c.in-Ok.cache sizes c.make_cores.new.cores.items c.make_cores.ensures.fresh same many, c.take_all.ensures.areas, omega (arith, long, c.take_all.ensures.spare))

pub returns-clause-service : goal.returns-clause-service
returns-clause-service g c =
    let r = c.args.recovered.now in
    let made = c.in-Ok.ensures.cache in
    let sizes = c.sizes-sizes.result.now in
    let cores = c.make_cores.new.cores.items in
    let same = made_sizes c.in-Ok.cache r sizes made c.requires.shows c.sizes-sizes.ensures in
    let many = made_many c.in-Ok.cache r sizes made c.requires.shows c.sizes-sizes.ensures in
    let shows = made_shows c.in-Ok.cache r sizes made c.requires.shows c.sizes-sizes.ensures in
    let all = all_made cores c.make_cores.new.waiting.items c.take_all.new.waiting.items c.args.areas.areas c.make_cores.ensures.journals c.make_cores.ensures.all c.take_all.ensures.taken in
    let long : length cores ≡ c.in-Ok.cache.cores = all_long cores c.args.areas.areas all ∙ c.requires.many ∙ sym made.cores_are in
    fresh_service c.in-Ok.cache sizes cores c.make_cores.ensures.fresh same many shows long
    (made.cores_are ∙ ap (λ (n : Numbers). n.cores) (sym made.sizes_are))
    (subst (AreJournals sizes) (sym all) (subst (λ n. AreJournals n c.args.areas.areas) (sym c.sizes-sizes.ensures) c.requires.journals))

pub returns-clause-past : goal.returns-clause-past
returns-clause-past g c =
    let r = c.args.recovered.now in
    let made = c.in-Ok.ensures.cache in
    let sizes = c.sizes-sizes.result.now in
    let cores = c.make_cores.new.cores.items in
    let same = made_sizes c.in-Ok.cache r sizes made c.requires.shows c.sizes-sizes.ensures in
    let many = made_many c.in-Ok.cache r sizes made c.requires.shows c.sizes-sizes.ensures in
    let shows = made_shows c.in-Ok.cache r sizes made c.requires.shows c.sizes-sizes.ensures in
    let all = all_made cores c.make_cores.new.waiting.items c.take_all.new.waiting.items c.args.areas.areas c.make_cores.ensures.journals c.make_cores.ensures.all c.take_all.ensures.taken in
    let long : length cores ≡ c.in-Ok.cache.cores = all_long cores c.args.areas.areas all ∙ c.requires.many ∙ sym made.cores_are in
    let own = subst (AreJournals sizes) (sym all) (subst (λ n. AreJournals n c.args.areas.areas) (sym c.sizes-sizes.ensures) c.requires.journals) in
    fresh_past g.D.Disk.view c.in-Ok.cache sizes cores c.args.areas.areas all c.make_cores.ensures.fresh own c.requires.rest
    (fresh_service c.in-Ok.cache sizes cores c.make_cores.ensures.fresh same many shows long (made.cores_are ∙ ap (λ (n : Numbers). n.cores) (sym made.sizes_are)) own)
