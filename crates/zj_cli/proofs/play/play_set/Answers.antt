use Rattle.std.proofs.Common.{◌≡◌, ◌∙◌, inl, inr, ℕ, ◌+◌, List, [], ◌∷◌, ◌++◌, length, map, refl, sym, ap, subst, arith}
use Rattle.std.specs.Result.{result_err}
use Rattle.std.proofs.lemmas.List.{length-map}
use Rattle.zj_area.specs.Journal.{AreaView}
use Rattle.zj_block.specs.Sizes.{Numbers}
use Rattle.zj_dev.specs.Disk.{DiskView, IsSettled}
use Rattle.zj_dev.specs.declared.span.Span.{Span}
use Rattle.zj_home.specs.Home.{HomeView}
use Rattle.zj_layout.specs.Shows.{Shows}
use Rattle.zj_mount.specs.Areas.{AreaList}
use Rattle.zj_mount.specs.Mounting.{HasTree, IsMountCause}
use Rattle.zj_mount.specs.Scanning.{AreReady}
use Rattle.zj_mount.specs.Settling.{AreSettled, RestEmpty, Settles}
use Rattle.zj_core.specs.Core.{CoreState}
use Rattle.zj_session.specs.Playing.{AreJournals, journals_of}
use Rattle.zj_session.specs.Starting.{RestWithNone, past_of}
use Rattle.zj_turns.specs.Passes.{CacheParameters}
use Rattle.zj_cli.specs.declared.phase.Phase.{Phase}
use Rattle.zj_cli.specs.Outside.{Outside}
use Rattle.zj_cli.specs.Phases.{AreDisks, AreMoments, AreOf, ArePhases, DevicesGoOn, HasRound, JournalFails, spans_in}
use Rattle.zj_cli.specs.Play.{IsInputCause, LeavesCuts, ScriptEnds}
use Rattle.zj_cli.proofs.PhaseLemmas.{begins_with, first_is, no_round, one_phase, round_is, settled_on, two_phases}
use Rattle.zj_cli.proofs.PlayableLemmas.{left, playable}
use Rattle.zj_cli.proofs.ReadyLemmas.{journals_ready}
use Rattle.zj_cli.proofs.SessionLemmas.{as_many, cuts_of, fails_in_round, input_ends, journal_fails, on_trans, rest_with_none, round_goes_on, script_ends, session_recovers, tails_are}
use Rattle.zj_cli.proofs.play.play_set.Goals as goal

pub moments-ready-requires : goal.moments-ready-requires
moments-ready-requires g c =
    let same0 : c.moments-opened.new.areas.areas ≡ c.args.areas.areas = ap (λ (list : AreaList _). list.areas) c.moments-opened.ensures.same in
    record { few = omega (arith, c.prepare-prepared.ensures.count, ap length same0, c.requires.in_order.few) }

pub returns-in-Err-clause-told : goal.returns-in-Err-clause-told
returns-in-Err-clause-told g c =
    c.prepare-prepared.ensures.told

pub returns-in-Err-clause-home : goal.returns-in-Err-clause-home
returns-in-Err-clause-home g c =
    c.prepare-prepared.ensures.home

pub returns-in-Err-clause-journals : goal.returns-in-Err-clause-journals
returns-in-Err-clause-journals g c =
    let same0 : c.moments-opened.new.areas.areas ≡ c.args.areas.areas = ap (λ (list : AreaList _). list.areas) c.moments-opened.ensures.same in
    let same1 : c.moments-ready.new.areas.areas ≡ c.prepare-prepared.new.areas.areas = ap (λ (list : AreaList _). list.areas) c.moments-ready.ensures.same in
    let settled : AreSettled g.D.Disk.view c.args.areas.areas c.moments-ready.new.areas.areas = subst (λ (areas : List (AreaView _)). AreSettled g.D.Disk.view c.args.areas.areas areas) (sym same1) (subst (λ (areas : List (AreaView _)). AreSettled g.D.Disk.view areas c.prepare-prepared.new.areas.areas) same0 c.prepare-prepared.ensures.settles) in
    settled_on g.D.Disk.view c.args.areas.areas c.moments-ready.new.areas.areas settled

pub returns-in-Err-clause-phases : goal.returns-in-Err-clause-phases
returns-in-Err-clause-phases g c =
    let same0 : c.moments-opened.new.areas.areas ≡ c.args.areas.areas = ap (λ (list : AreaList _). list.areas) c.moments-opened.ensures.same in
    let same1 : c.moments-ready.new.areas.areas ≡ c.prepare-prepared.new.areas.areas = ap (λ (list : AreaList _). list.areas) c.moments-ready.ensures.same in
    let count : length c.moments-ready.new.areas.areas ≡ length c.args.areas.areas = ap length same1 ∙ c.prepare-prepared.ensures.count ∙ ap length same0 in
    let settled : AreSettled g.D.Disk.view c.args.areas.areas c.moments-ready.new.areas.areas = subst (λ (areas : List (AreaView _)). AreSettled g.D.Disk.view c.args.areas.areas areas) (sym same1) (subst (λ (areas : List (AreaView _)). AreSettled g.D.Disk.view areas c.prepare-prepared.new.areas.areas) same0 c.prepare-prepared.ensures.settles) in
    let last : AreMoments g.D.Disk.view c.prepare-prepared.new.home.device (map (λ (a : AreaView _). a.device) c.moments-ready.new.areas.areas) c.moments-ready.result = subst (λ (areas : List (AreaView _)). AreMoments g.D.Disk.view c.prepare-prepared.new.home.device (map (λ (a : AreaView _). a.device) areas) c.moments-ready.result) (sym same1) c.moments-ready.ensures.moments in
    let devices : c.new.result.devices ≡ length c.args.areas.areas + 1 = omega (arith, c.new.ensures.devices, c.len.ensures, c.requires.in_order.few) in
    let items : c.push_reserved.new.self.items ≡ c.new.result ∷ [] = c.push_reserved.ensures.items ∙ ap (λ (front : List Phase). front ++ c.new.result ∷ []) c.requires.none in
    one_phase g.D.Disk.view c.args.home.now.told.sizes.cores c.push_reserved.new.self.items c.new.result c.moments-opened.result c.moments-ready.result c.args.home.now.device c.prepare-prepared.new.home.device c.args.areas.areas c.moments-ready.new.areas.areas c.new.ensures.kind devices c.new.ensures.spans c.moments-opened.ensures.moments last c.prepare-prepared.ensures.home settled c.moments-ready.ensures.fits c.requires.in_order.many (count ∙ c.requires.in_order.many) items

pub returns-in-Err-clause-ends : goal.returns-in-Err-clause-ends
returns-in-Err-clause-ends g c =
    let same0 : c.moments-opened.new.areas.areas ≡ c.args.areas.areas = ap (λ (list : AreaList _). list.areas) c.moments-opened.ensures.same in
    let same1 : c.moments-ready.new.areas.areas ≡ c.prepare-prepared.new.areas.areas = ap (λ (list : AreaList _). list.areas) c.moments-ready.ensures.same in
    let items : c.push_reserved.new.self.items ≡ c.new.result ∷ [] = c.push_reserved.ensures.items ∙ ap (λ (front : List Phase). front ++ c.new.result ∷ []) c.requires.none in
    let cause = rw same0 at c.in-Err.ensures.cause in
    elim cause [
      | inl from ↦ inl (from.0, from.1, from.2, λ names now faults since. input_ends c.args.home.now.told from.0 from.1 (AreOf g.D.Disk.view c.prepare-prepared.new.home.device c.moments-ready.new.areas.areas) (HasRound c.push_reserved.new.self.items) (JournalFails g.D.Disk.view c.args.areas.areas c.moments-ready.new.areas.areas) (record { left = g.S.Source.left c.args.input.now; held = g.K.Sink.held c.args.out.now; names = names; input_faults = g.S.Source.faults c.args.input.now; output_faults = g.K.Sink.faults c.args.out.now; shelf_faults = faults }) (record { left = g.S.Source.left c.prepare-prepared.new.input; held = g.K.Sink.held c.args.out.now; names = now; input_faults = g.S.Source.faults c.prepare-prepared.new.input; output_faults = g.K.Sink.faults c.args.out.now; shelf_faults = since }) c.in-Err.fault (λ spans has. no_round c.push_reserved.new.self.items c.new.result spans items has) from.3 refl)
      | inr none ↦ inr ((none.0, none.1, subst (λ (areas : List (AreaView _)). IsMountCause g.D.Disk.view c.args.home.now.told c.args.home.now.device c.prepare-prepared.new.home.device c.args.areas.areas areas none.0) (sym same1) none.2), refl, none.3, refl, ap length items)
    ]

pub returns-in-Err-clause-unwritten : goal.returns-in-Err-clause-unwritten
returns-in-Err-clause-unwritten g c =
    λ before. refl

pub start-requires-clause-many : goal.start-requires-clause-many
start-requires-clause-many g c =
    let same0 : c.moments-opened.new.areas.areas ≡ c.args.areas.areas = ap (λ (list : AreaList _). list.areas) c.moments-opened.ensures.same in
    let same1 : c.moments-ready.new.areas.areas ≡ c.prepare-prepared.new.areas.areas = ap (λ (list : AreaList _). list.areas) c.moments-ready.ensures.same in
    let count : length c.moments-ready.new.areas.areas ≡ length c.args.areas.areas = ap length same1 ∙ c.prepare-prepared.ensures.count ∙ ap length same0 in
    count ∙ c.requires.in_order.many ∙ sym (ap (λ (n : Numbers). n.cores) c.in-Ok.ensures.sizes)

pub start-requires-clause-rest : goal.start-requires-clause-rest
start-requires-clause-rest g c =
    let same0 : c.moments-opened.new.areas.areas ≡ c.args.areas.areas = ap (λ (list : AreaList _). list.areas) c.moments-opened.ensures.same in
    let same1 : c.moments-ready.new.areas.areas ≡ c.prepare-prepared.new.areas.areas = ap (λ (list : AreaList _). list.areas) c.moments-ready.ensures.same in
    let rest : RestEmpty g.D.Disk.view c.args.areas.areas c.prepare-prepared.new.areas.areas = subst (λ (areas : List (AreaView _)). RestEmpty g.D.Disk.view areas c.prepare-prepared.new.areas.areas) same0 c.in-Ok.ensures.rest in
    subst (RestWithNone g.D.Disk.view) (sym same1) (rest_with_none g.D.Disk.view c.args.home.now.told c.args.areas.areas c.prepare-prepared.new.areas.areas c.requires.opened (c.prepare-prepared.ensures.count ∙ ap length same0) c.has_tails.ensures rest)

pub start-requires-clause-shows : goal.start-requires-clause-shows
start-requires-clause-shows g c =
    let same0 : c.moments-opened.new.areas.areas ≡ c.args.areas.areas = ap (λ (list : AreaList _). list.areas) c.moments-opened.ensures.same in
    let has : HasTree g.D.Disk.view c.args.home.now.told c.args.home.now.device c.args.areas.areas c.in-Ok.prepared.0.blocks c.in-Ok.prepared.0.tree.tree = subst (λ (areas : List (AreaView _)). HasTree g.D.Disk.view c.args.home.now.told c.args.home.now.device areas c.in-Ok.prepared.0.blocks c.in-Ok.prepared.0.tree.tree) same0 c.in-Ok.ensures.tree in
    (c.in-Ok.prepared.0.tree.tree, subst (λ (n : Numbers). Shows n c.in-Ok.prepared.0.blocks c.in-Ok.prepared.0.tree.tree) (sym c.in-Ok.ensures.sizes) has.shows)

pub start-requires-clause-journals : goal.start-requires-clause-journals
start-requires-clause-journals g c =
    let same0 : c.moments-opened.new.areas.areas ≡ c.args.areas.areas = ap (λ (list : AreaList _). list.areas) c.moments-opened.ensures.same in
    let same1 : c.moments-ready.new.areas.areas ≡ c.prepare-prepared.new.areas.areas = ap (λ (list : AreaList _). list.areas) c.moments-ready.ensures.same in
    let count : length c.moments-ready.new.areas.areas ≡ length c.args.areas.areas = ap length same1 ∙ c.prepare-prepared.ensures.count ∙ ap length same0 in
    let ready : AreReady c.args.areas.areas c.moments-ready.new.areas.areas (length c.args.areas.areas) = subst (λ (areas : List (AreaView _)). AreReady c.args.areas.areas areas (length c.args.areas.areas)) (sym same1) (subst (λ (areas : List (AreaView _)). AreReady areas c.prepare-prepared.new.areas.areas (length areas)) same0 c.in-Ok.ensures.ready) in
    journals_ready c.args.home.now.told c.in-Ok.prepared.0.sizes c.args.areas.areas c.moments-ready.new.areas.areas c.in-Ok.prepared.0.journals c.in-Ok.ensures.sizes c.requires.opened count ready c.in-Ok.ensures.many c.in-Ok.ensures.tallies

pub play_round-played-requires-clause-playable : goal.play_round-played-requires-clause-playable
play_round-played-requires-clause-playable g c =
    let same0 : c.moments-opened.new.areas.areas ≡ c.args.areas.areas = ap (λ (list : AreaList _). list.areas) c.moments-opened.ensures.same in
    let same1 : c.moments-ready.new.areas.areas ≡ c.prepare-prepared.new.areas.areas = ap (λ (list : AreaList _). list.areas) c.moments-ready.ensures.same in
    let count : length c.moments-ready.new.areas.areas ≡ length c.args.areas.areas = ap length same1 ∙ c.prepare-prepared.ensures.count ∙ ap length same0 in
    let started : journals_of c.in-Ok-start.service.cores ≡ c.moments-ready.new.areas.areas = c.in-Ok-start.ensures.journals in
    let schedule = c.in-Ok.ensures.schedule in
    playable c.args.home.now.told.sizes.cores (length c.in-Ok-start.service.cores) schedule.0 c.in-Ok.prepared.1 (sym (length-map c.in-Ok-start.service.cores (λ (x : CoreState _). x.area)) ∙ ap length started ∙ count ∙ c.requires.in_order.many) schedule.2 c.in-Ok.ensures.built

pub play_round-played-requires-clause-left : goal.play_round-played-requires-clause-left
play_round-played-requires-clause-left g c =
    let schedule = c.in-Ok.ensures.schedule in
    left c.in-Ok-start.service.cache c.in-Ok-start.service.cores c.args.home.now.told.sizes.cores schedule.0 c.in-Ok.prepared.1 c.in-Ok-start.ensures.service schedule.2

pub moments-ended-requires : goal.moments-ended-requires
moments-ended-requires g c =
    let same0 : c.moments-opened.new.areas.areas ≡ c.args.areas.areas = ap (λ (list : AreaList _). list.areas) c.moments-opened.ensures.same in
    let same1 : c.moments-ready.new.areas.areas ≡ c.prepare-prepared.new.areas.areas = ap (λ (list : AreaList _). list.areas) c.moments-ready.ensures.same in
    let count : length c.moments-ready.new.areas.areas ≡ length c.args.areas.areas = ap length same1 ∙ c.prepare-prepared.ensures.count ∙ ap length same0 in
    let started : journals_of c.in-Ok-start.service.cores ≡ c.moments-ready.new.areas.areas = c.in-Ok-start.ensures.journals in
    let on : DevicesGoOn g.D.Disk.view c.moments-ready.new.areas.areas (journals_of c.play_round-played.new.service.cores) = subst (λ (areas : List (AreaView _)). DevicesGoOn g.D.Disk.view areas (journals_of c.play_round-played.new.service.cores)) started (round_goes_on g.D.Disk.view (journals_of c.in-Ok-start.service.cores) (journals_of c.play_round-played.new.service.cores) c.play_round-played.ensures.journals) in
    let many_new : length (journals_of c.play_round-played.new.service.cores) ≡ length c.moments-ready.new.areas.areas = as_many g.D.Disk.view c.moments-ready.new.areas.areas (journals_of c.play_round-played.new.service.cores) on in
    record { few = omega (arith, ap length c.end-areas.ensures, many_new, count, c.requires.in_order.few) }

pub returns-in-Ok-start-clause-told : goal.returns-in-Ok-start-clause-told
returns-in-Ok-start-clause-told g c =
    ap (λ (home : HomeView _). home.told) c.play_round-played.ensures.home ∙ c.prepare-prepared.ensures.told

pub returns-in-Ok-start-clause-home : goal.returns-in-Ok-start-clause-home
returns-in-Ok-start-clause-home g c =
    subst (λ (home : HomeView _). Settles (g.D.Disk.view c.args.home.now.device) (g.D.Disk.view home.device)) (sym c.play_round-played.ensures.home) c.prepare-prepared.ensures.home

pub returns-in-Ok-start-clause-journals : goal.returns-in-Ok-start-clause-journals
returns-in-Ok-start-clause-journals g c =
    let same0 : c.moments-opened.new.areas.areas ≡ c.args.areas.areas = ap (λ (list : AreaList _). list.areas) c.moments-opened.ensures.same in
    let same1 : c.moments-ready.new.areas.areas ≡ c.prepare-prepared.new.areas.areas = ap (λ (list : AreaList _). list.areas) c.moments-ready.ensures.same in
    let settled : AreSettled g.D.Disk.view c.args.areas.areas c.moments-ready.new.areas.areas = subst (λ (areas : List (AreaView _)). AreSettled g.D.Disk.view c.args.areas.areas areas) (sym same1) (subst (λ (areas : List (AreaView _)). AreSettled g.D.Disk.view areas c.prepare-prepared.new.areas.areas) same0 c.prepare-prepared.ensures.settles) in
    let started : journals_of c.in-Ok-start.service.cores ≡ c.moments-ready.new.areas.areas = c.in-Ok-start.ensures.journals in
    let on : DevicesGoOn g.D.Disk.view c.moments-ready.new.areas.areas (journals_of c.play_round-played.new.service.cores) = subst (λ (areas : List (AreaView _)). DevicesGoOn g.D.Disk.view areas (journals_of c.play_round-played.new.service.cores)) started (round_goes_on g.D.Disk.view (journals_of c.in-Ok-start.service.cores) (journals_of c.play_round-played.new.service.cores) c.play_round-played.ensures.journals) in
    let same3 : c.moments-ended.new.areas.areas ≡ journals_of c.play_round-played.new.service.cores = ap (λ (list : AreaList _). list.areas) c.moments-ended.ensures.same ∙ c.end-areas.ensures in
    subst (λ (areas : List (AreaView _)). DevicesGoOn g.D.Disk.view c.args.areas.areas areas) (sym same3) (on_trans g.D.Disk.view c.args.areas.areas c.moments-ready.new.areas.areas (journals_of c.play_round-played.new.service.cores) (settled_on g.D.Disk.view c.args.areas.areas c.moments-ready.new.areas.areas settled) on)

pub returns-in-Ok-start-clause-phases : goal.returns-in-Ok-start-clause-phases
returns-in-Ok-start-clause-phases g c =
    let same0 : c.moments-opened.new.areas.areas ≡ c.args.areas.areas = ap (λ (list : AreaList _). list.areas) c.moments-opened.ensures.same in
    let same1 : c.moments-ready.new.areas.areas ≡ c.prepare-prepared.new.areas.areas = ap (λ (list : AreaList _). list.areas) c.moments-ready.ensures.same in
    let count : length c.moments-ready.new.areas.areas ≡ length c.args.areas.areas = ap length same1 ∙ c.prepare-prepared.ensures.count ∙ ap length same0 in
    let settled : AreSettled g.D.Disk.view c.args.areas.areas c.moments-ready.new.areas.areas = subst (λ (areas : List (AreaView _)). AreSettled g.D.Disk.view c.args.areas.areas areas) (sym same1) (subst (λ (areas : List (AreaView _)). AreSettled g.D.Disk.view areas c.prepare-prepared.new.areas.areas) same0 c.prepare-prepared.ensures.settles) in
    let last : AreMoments g.D.Disk.view c.prepare-prepared.new.home.device (map (λ (a : AreaView _). a.device) c.moments-ready.new.areas.areas) c.moments-ready.result = subst (λ (areas : List (AreaView _)). AreMoments g.D.Disk.view c.prepare-prepared.new.home.device (map (λ (a : AreaView _). a.device) areas) c.moments-ready.result) (sym same1) c.moments-ready.ensures.moments in
    let devices : c.new.result.devices ≡ length c.args.areas.areas + 1 = omega (arith, c.new.ensures.devices, c.len.ensures, c.requires.in_order.few) in
    let items : c.push_reserved.new.self.items ≡ c.new.result ∷ [] = c.push_reserved.ensures.items ∙ ap (λ (front : List Phase). front ++ c.new.result ∷ []) c.requires.none in
    let started : journals_of c.in-Ok-start.service.cores ≡ c.moments-ready.new.areas.areas = c.in-Ok-start.ensures.journals in
    let on : DevicesGoOn g.D.Disk.view c.moments-ready.new.areas.areas (journals_of c.play_round-played.new.service.cores) = subst (λ (areas : List (AreaView _)). DevicesGoOn g.D.Disk.view areas (journals_of c.play_round-played.new.service.cores)) started (round_goes_on g.D.Disk.view (journals_of c.in-Ok-start.service.cores) (journals_of c.play_round-played.new.service.cores) c.play_round-played.ensures.journals) in
    let many_new : length (journals_of c.play_round-played.new.service.cores) ≡ length c.moments-ready.new.areas.areas = as_many g.D.Disk.view c.moments-ready.new.areas.areas (journals_of c.play_round-played.new.service.cores) on in
    let same3 : c.moments-ended.new.areas.areas ≡ journals_of c.play_round-played.new.service.cores = ap (λ (list : AreaList _). list.areas) c.moments-ended.ensures.same ∙ c.end-areas.ensures in
    let dev : c.play_round-played.new.home.device ≡ c.prepare-prepared.new.home.device = ap (λ (home : HomeView _). home.device) c.play_round-played.ensures.home in
    let round_devices : c.new-in-Ok-start.result.devices ≡ length c.args.areas.areas + 1 = omega (arith, c.new-in-Ok-start.ensures.devices, c.len.ensures, c.requires.in_order.few) in
    let items2 : c.push_reserved-in-Ok-start.new.self.items ≡ c.new.result ∷ c.new-in-Ok-start.result ∷ [] = c.push_reserved-in-Ok-start.ensures.items ∙ ap (λ (front : List Phase). front ++ c.new-in-Ok-start.result ∷ []) items in
    let final : AreMoments g.D.Disk.view c.play_round-played.new.home.device (map (λ (a : AreaView _). a.device) (journals_of c.play_round-played.new.service.cores)) c.moments-ended.result = subst (λ (areas : List (AreaView _)). AreMoments g.D.Disk.view c.play_round-played.new.home.device (map (λ (a : AreaView _). a.device) areas) c.moments-ended.result) c.end-areas.ensures c.moments-ended.ensures.moments in
    let final' : AreMoments g.D.Disk.view c.prepare-prepared.new.home.device (map (λ (a : AreaView _). a.device) (journals_of c.play_round-played.new.service.cores)) c.moments-ended.result = subst (λ (d : _). AreMoments g.D.Disk.view d (map (λ (a : AreaView _). a.device) (journals_of c.play_round-played.new.service.cores)) c.moments-ended.result) dev final in
    subst (λ (areas : List (AreaView _)). ArePhases c.args.home.now.told.sizes.cores (AreOf g.D.Disk.view c.play_round-played.new.home.device areas) c.push_reserved-in-Ok-start.new.self.items) (sym same3)
    (subst (λ (d : _). ArePhases c.args.home.now.told.sizes.cores (AreOf g.D.Disk.view d (journals_of c.play_round-played.new.service.cores)) c.push_reserved-in-Ok-start.new.self.items) (sym dev)
    (two_phases g.D.Disk.view c.args.home.now.told.sizes.cores c.push_reserved-in-Ok-start.new.self.items c.new.result c.moments-opened.result c.moments-ready.result c.args.home.now.device c.prepare-prepared.new.home.device c.args.areas.areas c.moments-ready.new.areas.areas c.new.ensures.kind devices c.new.ensures.spans c.moments-opened.ensures.moments last c.prepare-prepared.ensures.home settled c.moments-ready.ensures.fits c.requires.in_order.many (count ∙ c.requires.in_order.many) c.new-in-Ok-start.result c.moments-ended.result (journals_of c.play_round-played.new.service.cores) items2 c.new-in-Ok-start.ensures.kind round_devices c.new-in-Ok-start.ensures.spans final' on (many_new ∙ count ∙ c.requires.in_order.many)))

pub returns-in-Ok-start-clause-ends : goal.returns-in-Ok-start-clause-ends
returns-in-Ok-start-clause-ends g c =
    let same0 : c.moments-opened.new.areas.areas ≡ c.args.areas.areas = ap (λ (list : AreaList _). list.areas) c.moments-opened.ensures.same in
    let same1 : c.moments-ready.new.areas.areas ≡ c.prepare-prepared.new.areas.areas = ap (λ (list : AreaList _). list.areas) c.moments-ready.ensures.same in
    let count : length c.moments-ready.new.areas.areas ≡ length c.args.areas.areas = ap length same1 ∙ c.prepare-prepared.ensures.count ∙ ap length same0 in
    let settled : AreSettled g.D.Disk.view c.args.areas.areas c.moments-ready.new.areas.areas = subst (λ (areas : List (AreaView _)). AreSettled g.D.Disk.view c.args.areas.areas areas) (sym same1) (subst (λ (areas : List (AreaView _)). AreSettled g.D.Disk.view areas c.prepare-prepared.new.areas.areas) same0 c.prepare-prepared.ensures.settles) in
    let last : AreMoments g.D.Disk.view c.prepare-prepared.new.home.device (map (λ (a : AreaView _). a.device) c.moments-ready.new.areas.areas) c.moments-ready.result = subst (λ (areas : List (AreaView _)). AreMoments g.D.Disk.view c.prepare-prepared.new.home.device (map (λ (a : AreaView _). a.device) areas) c.moments-ready.result) (sym same1) c.moments-ready.ensures.moments in
    let items : c.push_reserved.new.self.items ≡ c.new.result ∷ [] = c.push_reserved.ensures.items ∙ ap (λ (front : List Phase). front ++ c.new.result ∷ []) c.requires.none in
    let ready : AreReady c.args.areas.areas c.moments-ready.new.areas.areas (length c.args.areas.areas) = subst (λ (areas : List (AreaView _)). AreReady c.args.areas.areas areas (length c.args.areas.areas)) (sym same1) (subst (λ (areas : List (AreaView _)). AreReady areas c.prepare-prepared.new.areas.areas (length areas)) same0 c.in-Ok.ensures.ready) in
    let has : HasTree g.D.Disk.view c.args.home.now.told c.args.home.now.device c.args.areas.areas c.in-Ok.prepared.0.blocks c.in-Ok.prepared.0.tree.tree = subst (λ (areas : List (AreaView _)). HasTree g.D.Disk.view c.args.home.now.told c.args.home.now.device areas c.in-Ok.prepared.0.blocks c.in-Ok.prepared.0.tree.tree) same0 c.in-Ok.ensures.tree in
    let started : journals_of c.in-Ok-start.service.cores ≡ c.moments-ready.new.areas.areas = c.in-Ok-start.ensures.journals in
    let on : DevicesGoOn g.D.Disk.view c.moments-ready.new.areas.areas (journals_of c.play_round-played.new.service.cores) = subst (λ (areas : List (AreaView _)). DevicesGoOn g.D.Disk.view areas (journals_of c.play_round-played.new.service.cores)) started (round_goes_on g.D.Disk.view (journals_of c.in-Ok-start.service.cores) (journals_of c.play_round-played.new.service.cores) c.play_round-played.ensures.journals) in
    let many_new : length (journals_of c.play_round-played.new.service.cores) ≡ length c.moments-ready.new.areas.areas = as_many g.D.Disk.view c.moments-ready.new.areas.areas (journals_of c.play_round-played.new.service.cores) on in
    let same3 : c.moments-ended.new.areas.areas ≡ journals_of c.play_round-played.new.service.cores = ap (λ (list : AreaList _). list.areas) c.moments-ended.ensures.same ∙ c.end-areas.ensures in
    let dev : c.play_round-played.new.home.device ≡ c.prepare-prepared.new.home.device = ap (λ (home : HomeView _). home.device) c.play_round-played.ensures.home in
    let round_devices : c.new-in-Ok-start.result.devices ≡ length c.args.areas.areas + 1 = omega (arith, c.new-in-Ok-start.ensures.devices, c.len.ensures, c.requires.in_order.few) in
    let items2 : c.push_reserved-in-Ok-start.new.self.items ≡ c.new.result ∷ c.new-in-Ok-start.result ∷ [] = c.push_reserved-in-Ok-start.ensures.items ∙ ap (λ (front : List Phase). front ++ c.new-in-Ok-start.result ∷ []) items in
    let final : AreMoments g.D.Disk.view c.play_round-played.new.home.device (map (λ (a : AreaView _). a.device) (journals_of c.play_round-played.new.service.cores)) c.moments-ended.result = subst (λ (areas : List (AreaView _)). AreMoments g.D.Disk.view c.play_round-played.new.home.device (map (λ (a : AreaView _). a.device) areas) c.moments-ended.result) c.end-areas.ensures c.moments-ended.ensures.moments in
    let first : AreMoments g.D.Disk.view c.play_round-played.new.home.device (map (λ (a : AreaView _). a.device) c.moments-ready.new.areas.areas) c.moments-ready.result = subst (λ (d : _). AreMoments g.D.Disk.view d (map (λ (a : AreaView _). a.device) c.moments-ready.new.areas.areas) c.moments-ready.result) (sym dev) last in
    let tails = tails_are g.D.Disk.view c.args.home.now.told c.args.areas.areas c.moments-ready.new.areas.areas c.requires.opened count c.has_tails.ensures ready in
    let sized = c.in-Ok-start.ensures.cache.0 ∙ c.in-Ok.ensures.sizes in
    let held = c.in-Ok-start.ensures.cache.1 in
    let then_sized = ap (λ (cache : CacheParameters). cache.sizes) c.play_round-played.ensures.cache ∙ sized in
    let then_held = ap (λ (cache : CacheParameters). cache.start) c.play_round-played.ensures.cache ∙ held in
    let quiet : IsSettled (g.D.Disk.view c.play_round-played.new.home.device) = subst (λ (d : _). IsSettled (g.D.Disk.view d)) (sym dev) c.in-Ok.ensures.settled in
    let read : (g.D.Disk.view c.play_round-played.new.home.device).bytes ≡ (g.D.Disk.view c.args.home.now.device).bytes = subst (λ (d : _). (g.D.Disk.view d).bytes ≡ (g.D.Disk.view c.args.home.now.device).bytes) (sym dev) c.prepare-prepared.ensures.home.bytes in
    let many = sym (length-map c.play_round-played.new.service.cores (λ (x : CoreState _). x.area)) ∙ many_new in
    let schedule = c.in-Ok.ensures.schedule in
    let were : AreDisks g.D.Disk.view c.moments-ready.new.areas.areas = subst (λ (areas : List (AreaView _)). AreDisks g.D.Disk.view areas) (sym same1) c.moments-ready.ensures.disks in
    let are_disks : AreDisks g.D.Disk.view (journals_of c.play_round-played.new.service.cores) = subst (λ (areas : List (AreaView _)). AreDisks g.D.Disk.view areas) c.end-areas.ensures c.moments-ended.ensures.disks in
    let on_settled : AreSettled g.D.Disk.view c.args.areas.areas (journals_of c.in-Ok-start.service.cores) = subst (λ (areas : List (AreaView _)). AreSettled g.D.Disk.view c.args.areas.areas areas) (sym started) settled in
    inl (
      c.in-Ok.prepared.0.blocks,
      c.in-Ok.prepared.0.tree.tree,
      has,
      λ names now faults since.
          script_ends g.D.Disk.view c.args.home.now.told c.in-Ok.prepared.0.blocks c.in-Ok.prepared.0.tree.tree c.in-Ok-start.service c.play_round-played.new.service c.moments-ready.new.areas.areas c.in-Ok.prepared.1 (AreOf g.D.Disk.view c.play_round-played.new.home.device c.moments-ended.new.areas.areas) (HasRound c.push_reserved-in-Ok-start.new.self.items) (JournalFails g.D.Disk.view c.args.areas.areas c.moments-ended.new.areas.areas) (record { left = g.S.Source.left c.args.input.now; held = g.K.Sink.held c.args.out.now; names = names; input_faults = g.S.Source.faults c.args.input.now; output_faults = g.K.Sink.faults c.args.out.now; shelf_faults = faults }) (record { left = g.S.Source.left c.prepare-prepared.new.input; held = g.K.Sink.held c.play_round-played.new.out; names = now; input_faults = g.S.Source.faults c.prepare-prepared.new.input; output_faults = g.K.Sink.faults c.play_round-played.new.out; shelf_faults = since })
          sized held tails has.shows c.fit_is_run.ensures schedule.0 schedule.1 schedule.2 c.in-Ok.ensures.built c.in-Ok.ensures.quiet (spans_in c.new-in-Ok-start.result) (c.new.result, c.new-in-Ok-start.result, items2, refl)
          (session_recovers c.round_recovers.ensures g.D.Disk.view c.args.home.now.told c.in-Ok.prepared.0.blocks c.in-Ok.prepared.0.tree.tree c.play_round-played.new.service.cache c.play_round-played.new.service.cores c.moments-ready.new.areas.areas c.moments-ended.new.areas.areas c.args.home.now.device c.play_round-played.new.home.device c.new-in-Ok-start.result c.moments-ready.result c.moments-ended.result
          then_sized then_held tails same3 c.new-in-Ok-start.ensures.spans first final many (omega (arith, round_devices, count)) quiet read has.held has.shows)
          (λ core below rose. subst (λ (areas : List (AreaView _)). JournalFails g.D.Disk.view c.args.areas.areas areas core) (sym same3) (journal_fails g.D.Disk.view c.args.areas.areas c.in-Ok-start.service.cores c.play_round-played.new.service.cores core on_settled c.play_round-played.ensures.journals below rose))
          (λ disks are core below rose. fails_in_round g.D.Disk.view c.play_round-played.new.home.device c.in-Ok-start.service.cores c.play_round-played.new.service.cores c.moments-ready.new.areas.areas c.moments-ended.new.areas.areas c.new-in-Ok-start.result c.moments-ready.result c.moments-ended.result
          started same3 c.new-in-Ok-start.ensures.spans first final were are_disks c.play_round-played.ensures.journals disks are core below rose)
          (result_err c.play_round-played.result) (c.play_round-played.ensures.ends (past_of g.D.Disk.view c.moments-ready.new.areas.areas) c.in-Ok-start.ensures.past),
    )

pub returns-in-Ok-start-clause-unwritten : goal.returns-in-Ok-start-clause-unwritten
returns-in-Ok-start-clause-unwritten g c =
    c.play_round-played.ensures.unwritten

pub returns-clause-told : goal.returns-clause-told
returns-clause-told g c =
    c.prepare-prepared.ensures.told

pub returns-clause-home : goal.returns-clause-home
returns-clause-home g c =
    c.prepare-prepared.ensures.home

pub returns-clause-journals : goal.returns-clause-journals
returns-clause-journals g c =
    let same0 : c.moments-opened.new.areas.areas ≡ c.args.areas.areas = ap (λ (list : AreaList _). list.areas) c.moments-opened.ensures.same in
    let same1 : c.moments-ready.new.areas.areas ≡ c.prepare-prepared.new.areas.areas = ap (λ (list : AreaList _). list.areas) c.moments-ready.ensures.same in
    let settled : AreSettled g.D.Disk.view c.args.areas.areas c.moments-ready.new.areas.areas = subst (λ (areas : List (AreaView _)). AreSettled g.D.Disk.view c.args.areas.areas areas) (sym same1) (subst (λ (areas : List (AreaView _)). AreSettled g.D.Disk.view areas c.prepare-prepared.new.areas.areas) same0 c.prepare-prepared.ensures.settles) in
    subst (λ (areas : List (AreaView _)). DevicesGoOn g.D.Disk.view c.args.areas.areas areas) (sym c.in-Err-start.ensures.err) (settled_on g.D.Disk.view c.args.areas.areas c.moments-ready.new.areas.areas settled)

pub returns-clause-phases : goal.returns-clause-phases
returns-clause-phases g c =
    let same0 : c.moments-opened.new.areas.areas ≡ c.args.areas.areas = ap (λ (list : AreaList _). list.areas) c.moments-opened.ensures.same in
    let same1 : c.moments-ready.new.areas.areas ≡ c.prepare-prepared.new.areas.areas = ap (λ (list : AreaList _). list.areas) c.moments-ready.ensures.same in
    let count : length c.moments-ready.new.areas.areas ≡ length c.args.areas.areas = ap length same1 ∙ c.prepare-prepared.ensures.count ∙ ap length same0 in
    let settled : AreSettled g.D.Disk.view c.args.areas.areas c.moments-ready.new.areas.areas = subst (λ (areas : List (AreaView _)). AreSettled g.D.Disk.view c.args.areas.areas areas) (sym same1) (subst (λ (areas : List (AreaView _)). AreSettled g.D.Disk.view areas c.prepare-prepared.new.areas.areas) same0 c.prepare-prepared.ensures.settles) in
    let last : AreMoments g.D.Disk.view c.prepare-prepared.new.home.device (map (λ (a : AreaView _). a.device) c.moments-ready.new.areas.areas) c.moments-ready.result = subst (λ (areas : List (AreaView _)). AreMoments g.D.Disk.view c.prepare-prepared.new.home.device (map (λ (a : AreaView _). a.device) areas) c.moments-ready.result) (sym same1) c.moments-ready.ensures.moments in
    let devices : c.new.result.devices ≡ length c.args.areas.areas + 1 = omega (arith, c.new.ensures.devices, c.len.ensures, c.requires.in_order.few) in
    let items : c.push_reserved.new.self.items ≡ c.new.result ∷ [] = c.push_reserved.ensures.items ∙ ap (λ (front : List Phase). front ++ c.new.result ∷ []) c.requires.none in
    subst (λ (areas : List (AreaView _)). ArePhases c.args.home.now.told.sizes.cores (AreOf g.D.Disk.view c.prepare-prepared.new.home.device areas) c.push_reserved.new.self.items) (sym c.in-Err-start.ensures.err) (one_phase g.D.Disk.view c.args.home.now.told.sizes.cores c.push_reserved.new.self.items c.new.result c.moments-opened.result c.moments-ready.result c.args.home.now.device c.prepare-prepared.new.home.device c.args.areas.areas c.moments-ready.new.areas.areas c.new.ensures.kind devices c.new.ensures.spans c.moments-opened.ensures.moments last c.prepare-prepared.ensures.home settled c.moments-ready.ensures.fits c.requires.in_order.many (count ∙ c.requires.in_order.many) items)

pub returns-clause-ends : goal.returns-clause-ends
returns-clause-ends g c =
    let same0 : c.moments-opened.new.areas.areas ≡ c.args.areas.areas = ap (λ (list : AreaList _). list.areas) c.moments-opened.ensures.same in
    let has : HasTree g.D.Disk.view c.args.home.now.told c.args.home.now.device c.args.areas.areas c.in-Ok.prepared.0.blocks c.in-Ok.prepared.0.tree.tree = subst (λ (areas : List (AreaView _)). HasTree g.D.Disk.view c.args.home.now.told c.args.home.now.device areas c.in-Ok.prepared.0.blocks c.in-Ok.prepared.0.tree.tree) same0 c.in-Ok.ensures.tree in
    inl (c.in-Ok.prepared.0.blocks, c.in-Ok.prepared.0.tree.tree, has, λ names now faults since. record { read = c.in-Ok.ensures.schedule.0; reads = c.in-Ok.ensures.schedule.1.reads; unwritten = refl })

pub returns-clause-unwritten : goal.returns-clause-unwritten
returns-clause-unwritten g c =
    λ before. refl

pub returns-in-Err-clause-begins : goal.returns-in-Err-clause-begins
returns-in-Err-clause-begins g c =
    let items : c.push_reserved.new.self.items ≡ c.new.result ∷ [] = c.push_reserved.ensures.items ∙ ap (λ (front : List Phase). front ++ c.new.result ∷ []) c.requires.none in
    let devices : c.new.result.devices ≡ length c.args.areas.areas + 1 = omega (arith, c.new.ensures.devices, c.len.ensures, c.requires.in_order.few) in
    let froms = begins_with c.new.result c.moments-opened.result c.moments-ready.result c.new.ensures.spans g.D.Disk.view c.args.home.now.device c.args.areas.areas devices c.moments-opened.ensures.moments in
    λ first later is. subst (λ (p : Phase). map (λ (s : Span). s.from) (spans_in p) ≡ map (λ (d : DiskView). d.calls) (g.D.Disk.view c.args.home.now.device ∷ map (λ (a : AreaView _). g.D.Disk.view a.device) c.args.areas.areas)) (first_is c.push_reserved.new.self.items c.new.result first [] later items is) froms

pub returns-in-Err-clause-cuts : goal.returns-in-Err-clause-cuts
returns-in-Err-clause-cuts g c =
    let items : c.push_reserved.new.self.items ≡ c.new.result ∷ [] = c.push_reserved.ensures.items ∙ ap (λ (front : List Phase). front ++ c.new.result ∷ []) c.requires.none in
    λ spans has. absurd (no_round c.push_reserved.new.self.items c.new.result spans items has)

pub returns-clause-begins : goal.returns-clause-begins
returns-clause-begins g c =
    let items : c.push_reserved.new.self.items ≡ c.new.result ∷ [] = c.push_reserved.ensures.items ∙ ap (λ (front : List Phase). front ++ c.new.result ∷ []) c.requires.none in
    let devices : c.new.result.devices ≡ length c.args.areas.areas + 1 = omega (arith, c.new.ensures.devices, c.len.ensures, c.requires.in_order.few) in
    let froms = begins_with c.new.result c.moments-opened.result c.moments-ready.result c.new.ensures.spans g.D.Disk.view c.args.home.now.device c.args.areas.areas devices c.moments-opened.ensures.moments in
    λ first later is. subst (λ (p : Phase). map (λ (s : Span). s.from) (spans_in p) ≡ map (λ (d : DiskView). d.calls) (g.D.Disk.view c.args.home.now.device ∷ map (λ (a : AreaView _). g.D.Disk.view a.device) c.args.areas.areas)) (first_is c.push_reserved.new.self.items c.new.result first [] later items is) froms

pub returns-clause-cuts : goal.returns-clause-cuts
returns-clause-cuts g c =
    let items : c.push_reserved.new.self.items ≡ c.new.result ∷ [] = c.push_reserved.ensures.items ∙ ap (λ (front : List Phase). front ++ c.new.result ∷ []) c.requires.none in
    λ spans has. absurd (no_round c.push_reserved.new.self.items c.new.result spans items has)

pub returns-in-Ok-start-clause-begins : goal.returns-in-Ok-start-clause-begins
returns-in-Ok-start-clause-begins g c =
    let items : c.push_reserved.new.self.items ≡ c.new.result ∷ [] = c.push_reserved.ensures.items ∙ ap (λ (front : List Phase). front ++ c.new.result ∷ []) c.requires.none in
    let items2 : c.push_reserved-in-Ok-start.new.self.items ≡ c.new.result ∷ c.new-in-Ok-start.result ∷ [] = c.push_reserved-in-Ok-start.ensures.items ∙ ap (λ (front : List Phase). front ++ c.new-in-Ok-start.result ∷ []) items in
    let devices : c.new.result.devices ≡ length c.args.areas.areas + 1 = omega (arith, c.new.ensures.devices, c.len.ensures, c.requires.in_order.few) in
    let froms = begins_with c.new.result c.moments-opened.result c.moments-ready.result c.new.ensures.spans g.D.Disk.view c.args.home.now.device c.args.areas.areas devices c.moments-opened.ensures.moments in
    λ first later is. subst (λ (p : Phase). map (λ (s : Span). s.from) (spans_in p) ≡ map (λ (d : DiskView). d.calls) (g.D.Disk.view c.args.home.now.device ∷ map (λ (a : AreaView _). g.D.Disk.view a.device) c.args.areas.areas)) (first_is c.push_reserved-in-Ok-start.new.self.items c.new.result first (c.new-in-Ok-start.result ∷ []) later items2 is) froms

pub returns-in-Ok-start-clause-cuts : goal.returns-in-Ok-start-clause-cuts
returns-in-Ok-start-clause-cuts g c =
    let same0 : c.moments-opened.new.areas.areas ≡ c.args.areas.areas = ap (λ (list : AreaList _). list.areas) c.moments-opened.ensures.same in
    let same1 : c.moments-ready.new.areas.areas ≡ c.prepare-prepared.new.areas.areas = ap (λ (list : AreaList _). list.areas) c.moments-ready.ensures.same in
    let count : length c.moments-ready.new.areas.areas ≡ length c.args.areas.areas = ap length same1 ∙ c.prepare-prepared.ensures.count ∙ ap length same0 in
    let settled : AreSettled g.D.Disk.view c.args.areas.areas c.moments-ready.new.areas.areas = subst (λ (areas : List (AreaView _)). AreSettled g.D.Disk.view c.args.areas.areas areas) (sym same1) (subst (λ (areas : List (AreaView _)). AreSettled g.D.Disk.view areas c.prepare-prepared.new.areas.areas) same0 c.prepare-prepared.ensures.settles) in
    let last : AreMoments g.D.Disk.view c.prepare-prepared.new.home.device (map (λ (a : AreaView _). a.device) c.moments-ready.new.areas.areas) c.moments-ready.result = subst (λ (areas : List (AreaView _)). AreMoments g.D.Disk.view c.prepare-prepared.new.home.device (map (λ (a : AreaView _). a.device) areas) c.moments-ready.result) (sym same1) c.moments-ready.ensures.moments in
    let items : c.push_reserved.new.self.items ≡ c.new.result ∷ [] = c.push_reserved.ensures.items ∙ ap (λ (front : List Phase). front ++ c.new.result ∷ []) c.requires.none in
    let ready : AreReady c.args.areas.areas c.moments-ready.new.areas.areas (length c.args.areas.areas) = subst (λ (areas : List (AreaView _)). AreReady c.args.areas.areas areas (length c.args.areas.areas)) (sym same1) (subst (λ (areas : List (AreaView _)). AreReady areas c.prepare-prepared.new.areas.areas (length areas)) same0 c.in-Ok.ensures.ready) in
    let has : HasTree g.D.Disk.view c.args.home.now.told c.args.home.now.device c.args.areas.areas c.in-Ok.prepared.0.blocks c.in-Ok.prepared.0.tree.tree = subst (λ (areas : List (AreaView _)). HasTree g.D.Disk.view c.args.home.now.told c.args.home.now.device areas c.in-Ok.prepared.0.blocks c.in-Ok.prepared.0.tree.tree) same0 c.in-Ok.ensures.tree in
    let started : journals_of c.in-Ok-start.service.cores ≡ c.moments-ready.new.areas.areas = c.in-Ok-start.ensures.journals in
    let on : DevicesGoOn g.D.Disk.view c.moments-ready.new.areas.areas (journals_of c.play_round-played.new.service.cores) = subst (λ (areas : List (AreaView _)). DevicesGoOn g.D.Disk.view areas (journals_of c.play_round-played.new.service.cores)) started (round_goes_on g.D.Disk.view (journals_of c.in-Ok-start.service.cores) (journals_of c.play_round-played.new.service.cores) c.play_round-played.ensures.journals) in
    let many_new : length (journals_of c.play_round-played.new.service.cores) ≡ length c.moments-ready.new.areas.areas = as_many g.D.Disk.view c.moments-ready.new.areas.areas (journals_of c.play_round-played.new.service.cores) on in
    let same3 : c.moments-ended.new.areas.areas ≡ journals_of c.play_round-played.new.service.cores = ap (λ (list : AreaList _). list.areas) c.moments-ended.ensures.same ∙ c.end-areas.ensures in
    let dev : c.play_round-played.new.home.device ≡ c.prepare-prepared.new.home.device = ap (λ (home : HomeView _). home.device) c.play_round-played.ensures.home in
    let round_devices : c.new-in-Ok-start.result.devices ≡ length c.args.areas.areas + 1 = omega (arith, c.new-in-Ok-start.ensures.devices, c.len.ensures, c.requires.in_order.few) in
    let items2 : c.push_reserved-in-Ok-start.new.self.items ≡ c.new.result ∷ c.new-in-Ok-start.result ∷ [] = c.push_reserved-in-Ok-start.ensures.items ∙ ap (λ (front : List Phase). front ++ c.new-in-Ok-start.result ∷ []) items in
    let final : AreMoments g.D.Disk.view c.play_round-played.new.home.device (map (λ (a : AreaView _). a.device) (journals_of c.play_round-played.new.service.cores)) c.moments-ended.result = subst (λ (areas : List (AreaView _)). AreMoments g.D.Disk.view c.play_round-played.new.home.device (map (λ (a : AreaView _). a.device) areas) c.moments-ended.result) c.end-areas.ensures c.moments-ended.ensures.moments in
    let first : AreMoments g.D.Disk.view c.play_round-played.new.home.device (map (λ (a : AreaView _). a.device) c.moments-ready.new.areas.areas) c.moments-ready.result = subst (λ (d : _). AreMoments g.D.Disk.view d (map (λ (a : AreaView _). a.device) c.moments-ready.new.areas.areas) c.moments-ready.result) (sym dev) last in
    let tails = tails_are g.D.Disk.view c.args.home.now.told c.args.areas.areas c.moments-ready.new.areas.areas c.requires.opened count c.has_tails.ensures ready in
    let sized = c.in-Ok-start.ensures.cache.0 ∙ c.in-Ok.ensures.sizes in
    let held = c.in-Ok-start.ensures.cache.1 in
    let then_sized = ap (λ (cache : CacheParameters). cache.sizes) c.play_round-played.ensures.cache ∙ sized in
    let then_held = ap (λ (cache : CacheParameters). cache.start) c.play_round-played.ensures.cache ∙ held in
    let quiet : IsSettled (g.D.Disk.view c.play_round-played.new.home.device) = subst (λ (d : _). IsSettled (g.D.Disk.view d)) (sym dev) c.in-Ok.ensures.settled in
    let read : (g.D.Disk.view c.play_round-played.new.home.device).bytes ≡ (g.D.Disk.view c.args.home.now.device).bytes = subst (λ (d : _). (g.D.Disk.view d).bytes ≡ (g.D.Disk.view c.args.home.now.device).bytes) (sym dev) c.prepare-prepared.ensures.home.bytes in
    let many = sym (length-map c.play_round-played.new.service.cores (λ (x : CoreState _). x.area)) ∙ many_new in
    let schedule = c.in-Ok.ensures.schedule in
    let on_settled : AreSettled g.D.Disk.view c.args.areas.areas (journals_of c.in-Ok-start.service.cores) = subst (λ (areas : List (AreaView _)). AreSettled g.D.Disk.view c.args.areas.areas areas) (sym started) settled in
    let played = c.play_round-played.ensures.cuts (past_of g.D.Disk.view c.moments-ready.new.areas.areas) c.in-Ok-start.ensures.past in
    λ spans round. (
      c.in-Ok.prepared.0.blocks,
      c.in-Ok.prepared.0.tree.tree,
      has,
      subst (λ (s : List Span). LeavesCuts c.args.home.now.told c.in-Ok.prepared.0.blocks c.in-Ok.prepared.0.tree.tree (AreOf g.D.Disk.view c.play_round-played.new.home.device c.moments-ended.new.areas.areas) (g.S.Source.left c.args.input.now) (g.S.Source.left c.prepare-prepared.new.input) s) (round_is c.push_reserved-in-Ok-start.new.self.items c.new.result c.new-in-Ok-start.result spans items2 round)
          (cuts_of g.D.Disk.view c.args.home.now.told c.in-Ok.prepared.0.blocks c.in-Ok.prepared.0.tree.tree c.in-Ok-start.service c.play_round-played.new.service c.moments-ready.new.areas.areas c.in-Ok.prepared.1 (AreOf g.D.Disk.view c.play_round-played.new.home.device c.moments-ended.new.areas.areas)
          sized held tails has.shows c.fit_is_run.ensures (spans_in c.new-in-Ok-start.result)
          (session_recovers c.round_recovers.ensures g.D.Disk.view c.args.home.now.told c.in-Ok.prepared.0.blocks c.in-Ok.prepared.0.tree.tree c.play_round-played.new.service.cache c.play_round-played.new.service.cores c.moments-ready.new.areas.areas c.moments-ended.new.areas.areas c.args.home.now.device c.play_round-played.new.home.device c.new-in-Ok-start.result c.moments-ready.result c.moments-ended.result
          then_sized then_held tails same3 c.new-in-Ok-start.ensures.spans first final many (omega (arith, round_devices, count)) quiet read has.held has.shows)
          (g.S.Source.left c.args.input.now) (g.S.Source.left c.prepare-prepared.new.input) schedule.0 schedule.1 schedule.2 c.in-Ok.ensures.built played.0 played.1 played.2),
    )
