use Rattle.std.proofs.Common.{◌≡◌, ◌<◌, ◌≤◌, true, length, get_or, ap, ◌∙◌, sym, arith}
use Rattle.std.proofs.lemmas.Option.{get_or_from_slice_get, slice_get-get_or}
use Rattle.zj_turns.specs.Passes.{PassState}
use Rattle.zj_session.specs.Gathering.{passes_of}
use Rattle.zj_session.proofs.Seen.{joining, joining_aside, gathered_is}
use Rattle.zj_session.proofs.Moving.{moved_ahead, moved_all, moved_more, moved_none, moved_of, peers_apart, peers_each}
use Rattle.zj_session.proofs.gathering.meet_all.Goals as goal

pub loop-other-init : goal.loop-other-init
loop-other-init g c =
    moved_none joining joining_aside true c.args.core.now c.args.others.now
    (peers_each c.args.core.now.pass c.args.others.now _ c.requires.peers) (peers_apart c.args.core.now.pass c.args.others.now _ c.requires.peers)

pub meet-requires-clause-of : goal.meet-requires-clause-of
meet-requires-clause-of g c = moved_of joining joining_aside true c.args.core.now c.args.others.now c.args.cache.now c.loop-other.core c.loop-other.other-items c.loop-other.other-index c.loop-other.invariant c.requires.of

pub meet-requires-clause-peer : goal.meet-requires-clause-peer
meet-requires-clause-peer g c =
    let below : c.loop-other.other-index < length c.loop-other.other-items = omega arith in
    let a = get_or c.loop-other.other-items c.loop-other.other-index c.other-item.result in
    let is : a ≡ get_or c.loop-other.other-items c.loop-other.other-index a =
    sym (get_or_from_slice_get c.loop-other.other-items c.loop-other.other-index a a (slice_get-get_or c.loop-other.other-items c.loop-other.other-index c.other-item.result below)) in
    moved_ahead joining joining_aside true c.args.core.now c.args.others.now c.loop-other.core c.loop-other.other-items c.loop-other.other-index a below is c.loop-other.invariant

pub loop-other-preserved : goal.loop-other-preserved
loop-other-preserved g c =
    let below : c.loop-other.other-index < length c.loop-other.other-items = omega arith in
    let a = get_or c.loop-other.other-items c.loop-other.other-index c.other-item.result in
    let is : a ≡ get_or c.loop-other.other-items c.loop-other.other-index a =
    sym (get_or_from_slice_get c.loop-other.other-items c.loop-other.other-index a a (slice_get-get_or c.loop-other.other-items c.loop-other.other-index c.other-item.result below)) in
    moved_more joining joining_aside true c.args.core.now c.args.others.now c.loop-other.core c.meet.new.self c.loop-other.other-items c.loop-other.other-index a c.meet.new.other below is c.loop-other.invariant
    c.meet.ensures.met c.meet.ensures.other c.meet.ensures.peer

pub returns : goal.returns
returns g c =
    let over : length c.loop-other.other-items ≤ c.loop-other.other-index = omega arith in
    let all = moved_all joining joining_aside true c.args.core.now c.args.others.now c.loop-other.core c.loop-other.other-items c.loop-other.other-index over c.loop-other.invariant in
    record {
      core = all.core_is ∙ ap (λ (p : PassState). record c.args.core.now { pass = p }) (sym (gathered_is c.args.core.now.pass (passes_of c.args.others.now)));
      others = all.now_is;
      peers = all.peers;
    }
