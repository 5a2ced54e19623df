use Rattle.std.proofs.Common.{◌≡◌, length, sym, subst}
use Rattle.zj_block.specs.Sizes.{Numbers}
use Rattle.zj_home.specs.Super.{Super}
use Rattle.zj_session.specs.Playing.{AreJournals}
use Rattle.zj_session.proofs.Journals.{mounted_journals, mounted_rest, mounted_shows}
use Rattle.core_cases.proofs.service.starts_and_ends.Goals as goal

pub start-requires-clause-shows : goal.start-requires-clause-shows
start-requires-clause-shows c = mounted_shows c.in-Ok-mount.recovered _ c.in-Ok-mount.ensures.sizes c.in-Ok-mount.ensures.tree.shows

pub start-requires-clause-journals : goal.start-requires-clause-journals
start-requires-clause-journals c =
    let set = c.in-Ok.field-0 in
    let tails = subst (λ (s : Super). length s.tails ≡ s.sizes.cores) c.mount.ensures.told c.tail-tail.ensures.tail_count in
    subst (λ (n : Numbers). AreJournals n c.mount.new.areas.areas) (sym c.in-Ok-mount.ensures.sizes)
    (mounted_journals set.home.told set.areas.areas c.mount.new.areas.areas tails c.in-Ok.ensures.opened c.mount.ensures.count c.in-Ok-mount.ensures.ready)

pub start-requires-clause-rest : goal.start-requires-clause-rest
start-requires-clause-rest c =
    let set = c.in-Ok.field-0 in
    let tails = subst (λ (s : Super). length s.tails ≡ s.sizes.cores) c.mount.ensures.told c.tail-tail.ensures.tail_count in
    mounted_rest _ set.home.told set.areas.areas c.mount.new.areas.areas tails c.in-Ok.ensures.opened c.mount.ensures.count c.in-Ok-mount.ensures.rest
