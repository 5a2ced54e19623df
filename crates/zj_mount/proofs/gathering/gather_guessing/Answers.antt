use Rattle.std.proofs.Common.{◌≡◌, ◌∙◌, length, map}
use Rattle.std.specs.Prelude.{slice_index}
use Rattle.std.proofs.lemmas.List.{length-map}
use Rattle.zj_mount.proofs.GatherLemmas.{settled}
use Rattle.zj_mount.proofs.gathering.gather_guessing.Goals as goal

pub returns-clause-reading : goal.returns-clause-reading
returns-clause-reading g c =
    let journals = map g.J.Journal.journal c.args.journals.now in
    let cores : length journals ≡ c.args.home.now.told.sizes.cores = length-map c.args.journals.now g.J.Journal.journal ∙ c.requires.cores in
    let same = rw c.deref-2.ensures.value at c.choose_same.ensures in
    settled c.args.home.now.told journals (slice_index c.args.guess.now) (slice_index c.kept_of-kept.result) c.in_ok-heads.heads.items c.in_ok-heads.images cores c.bare_are_kept.ensures c.in_ok-heads.ensures.gathered
    (rw c.deref.ensures.value at c.kept_of-kept.ensures) (same.0 c.if-not-choose_same.false)
