-- The core meets all others, does the act, and parts from them.
use Rattle.zj_session.specs.Answering.{Does}
use Rattle.zj_session.proofs.Line.{answered, if_ok, journals_on, left_off, on_err, place_get, split_is, steady_at, together_at}
use Rattle.zj_session.proofs.Together.{back_away, back_here, back_home, front_away, front_home, front_peers, has_core, has₂, left₂, met_is, mine₂, of_core, of₁, of₂, of₃, of₄, parted_is}
use Rattle.zj_session.proofs.answering.answer_line.Goals as goal

pub meet_all-requires-clause-of : goal.meet_all-requires-clause-of
meet_all-requires-clause-of g c =
    let front = c.split_at_mut-front.result.0.now in
    let core = c.in-Some.core.now in
    let back = c.in-Some.back.now in
    let t = together_at c.args.cache.now c.args.cores.now front c.split_at_mut-front.result.1.now back core c.split_at_mut-front.ensures.value c.in-Some.ensures.cases.0 c.requires.together in
    of_core c.args.cache.now front back core t

pub meet_all-requires-clause-peers : goal.meet_all-requires-clause-peers
meet_all-requires-clause-peers g c =
    let front = c.split_at_mut-front.result.0.now in
    let core = c.in-Some.core.now in
    let back = c.in-Some.back.now in
    let t = together_at c.args.cache.now c.args.cores.now front c.split_at_mut-front.result.1.now back core c.split_at_mut-front.ensures.value c.in-Some.ensures.cases.0 c.requires.together in
    front_peers c.args.cache.now front back core t

pub meet_all-requires-2-clause-of : goal.meet_all-requires-2-clause-of
meet_all-requires-2-clause-of g c =
    let front = c.split_at_mut-front.result.0.now in
    let core = c.in-Some.core.now in
    let back = c.in-Some.back.now in
    let t = together_at c.args.cache.now c.args.cores.now front c.split_at_mut-front.result.1.now back core c.split_at_mut-front.ensures.value c.in-Some.ensures.cases.0 c.requires.together in
    of₁ c.args.cache.now front back core t c.meet_all.new.core c.meet_all.ensures.core

pub meet_all-requires-2-clause-peers : goal.meet_all-requires-2-clause-peers
meet_all-requires-2-clause-peers g c =
    let front = c.split_at_mut-front.result.0.now in
    let core = c.in-Some.core.now in
    let back = c.in-Some.back.now in
    let t = together_at c.args.cache.now c.args.cores.now front c.split_at_mut-front.result.1.now back core c.split_at_mut-front.ensures.value c.in-Some.ensures.cases.0 c.requires.together in
    back_here c.args.cache.now front back core t c.meet_all.new.core c.meet_all.ensures.core

pub answer_act-form-requires-clause-of : goal.answer_act-form-requires-clause-of
answer_act-form-requires-clause-of g c =
    let front = c.split_at_mut-front.result.0.now in
    let core = c.in-Some.core.now in
    let back = c.in-Some.back.now in
    let t = together_at c.args.cache.now c.args.cores.now front c.split_at_mut-front.result.1.now back core c.split_at_mut-front.ensures.value c.in-Some.ensures.cases.0 c.requires.together in
    of₂ c.args.cache.now front back core t c.meet_all.new.core c.meet_all.ensures.core c.meet_all-2.new.core c.meet_all-2.ensures.core

pub answer_act-form-requires-clause-known : goal.answer_act-form-requires-clause-known
answer_act-form-requires-clause-known g c =
    let front = c.split_at_mut-front.result.0.now in
    let core = c.in-Some.core.now in
    let back = c.in-Some.back.now in
    let t = together_at c.args.cache.now c.args.cores.now front c.split_at_mut-front.result.1.now back core c.split_at_mut-front.ensures.value c.in-Some.ensures.cases.0 c.requires.together in
    has₂ c.args.cache.now front back core t c.meet_all.new.core c.meet_all.ensures.core c.meet_all-2.new.core c.meet_all-2.ensures.core

pub answer_act-form-requires-clause-left : goal.answer_act-form-requires-clause-left
answer_act-form-requires-clause-left g c =
    let front = c.split_at_mut-front.result.0.now in
    let core = c.in-Some.core.now in
    let back = c.in-Some.back.now in
    let t = together_at c.args.cache.now c.args.cores.now front c.split_at_mut-front.result.1.now back core c.split_at_mut-front.ensures.value c.in-Some.ensures.cases.0 c.requires.together in
    left₂ c.args.cache.now front back core t c.meet_all.new.core c.meet_all.ensures.core c.meet_all-2.new.core c.meet_all-2.ensures.core
    (c.requires.left core (place_get c.args.cores.now front c.split_at_mut-front.result.1.now back core c.args.at c.split_at_mut-front.ensures.value c.in-Some.ensures.cases.0 c.split_at_mut-front.ensures.front_len))

pub part_all-requires-clause-of : goal.part_all-requires-clause-of
part_all-requires-clause-of g c =
    let front = c.split_at_mut-front.result.0.now in
    let core = c.in-Some.core.now in
    let back = c.in-Some.back.now in
    let t = together_at c.args.cache.now c.args.cores.now front c.split_at_mut-front.result.1.now back core c.split_at_mut-front.ensures.value c.in-Some.ensures.cases.0 c.requires.together in
    of₃ c.args.cache.now front back core t c.meet_all.new.core c.meet_all.ensures.core c.meet_all-2.new.core c.meet_all-2.ensures.core c.answer_act-form.new.core c.answer_act-form.ensures.only

pub part_all-requires-clause-peers : goal.part_all-requires-clause-peers
part_all-requires-clause-peers g c =
    let front = c.split_at_mut-front.result.0.now in
    let core = c.in-Some.core.now in
    let back = c.in-Some.back.now in
    let t = together_at c.args.cache.now c.args.cores.now front c.split_at_mut-front.result.1.now back core c.split_at_mut-front.ensures.value c.in-Some.ensures.cases.0 c.requires.together in
    front_away c.args.cache.now front back core t c.meet_all.new.core c.meet_all.ensures.core c.meet_all-2.new.core c.meet_all-2.ensures.core c.answer_act-form.new.core c.answer_act-form.ensures.only c.meet_all.new.others c.meet_all.ensures.others c.meet_all.ensures.peers

pub part_all-requires-2-clause-of : goal.part_all-requires-2-clause-of
part_all-requires-2-clause-of g c =
    let front = c.split_at_mut-front.result.0.now in
    let core = c.in-Some.core.now in
    let back = c.in-Some.back.now in
    let t = together_at c.args.cache.now c.args.cores.now front c.split_at_mut-front.result.1.now back core c.split_at_mut-front.ensures.value c.in-Some.ensures.cases.0 c.requires.together in
    of₄ c.args.cache.now front back core t c.meet_all.new.core c.meet_all.ensures.core c.meet_all-2.new.core c.meet_all-2.ensures.core c.answer_act-form.new.core c.answer_act-form.ensures.only c.meet_all.new.others c.meet_all.ensures.others c.part_all.new.core c.part_all.ensures.core

pub part_all-requires-2-clause-peers : goal.part_all-requires-2-clause-peers
part_all-requires-2-clause-peers g c =
    let front = c.split_at_mut-front.result.0.now in
    let core = c.in-Some.core.now in
    let back = c.in-Some.back.now in
    let t = together_at c.args.cache.now c.args.cores.now front c.split_at_mut-front.result.1.now back core c.split_at_mut-front.ensures.value c.in-Some.ensures.cases.0 c.requires.together in
    back_away c.args.cache.now front back core t c.meet_all.new.core c.meet_all.ensures.core c.meet_all-2.new.core c.meet_all-2.ensures.core c.answer_act-form.new.core c.answer_act-form.ensures.only c.meet_all.new.others c.meet_all.ensures.others c.part_all.new.core c.part_all.ensures.core c.meet_all-2.new.others c.meet_all-2.ensures.others c.meet_all-2.ensures.peers

pub returns-clause-answered : goal.returns-clause-answered
returns-clause-answered g c =
    let front = c.split_at_mut-front.result.0.now in
    let core = c.in-Some.core.now in
    let back = c.in-Some.back.now in
    let t = together_at c.args.cache.now c.args.cores.now front c.split_at_mut-front.result.1.now back core c.split_at_mut-front.ensures.value c.in-Some.ensures.cases.0 c.requires.together in
    let split = split_is c.args.cores.now front c.split_at_mut-front.result.1.now back core c.split_at_mut-front.ensures.value c.in-Some.ensures.cases.0 in
    let met = met_is c.args.cache.now front back core t c.meet_all.new.core c.meet_all.ensures.core c.meet_all-2.new.core c.meet_all-2.ensures.core in
    let parted = parted_is c.args.cache.now front back core t c.meet_all.new.core c.meet_all.ensures.core c.meet_all-2.new.core c.meet_all-2.ensures.core c.answer_act-form.new.core c.answer_act-form.ensures.only c.meet_all.new.others c.meet_all.ensures.others c.part_all.new.core c.part_all.ensures.core c.meet_all-2.new.others c.meet_all-2.ensures.others c.part_all-2.new.core c.part_all-2.ensures.core in
    let front_is = front_home c.args.cache.now front back core t c.meet_all.new.others c.part_all.new.others c.meet_all.ensures.others c.part_all.ensures.others in
    let back_is = back_home c.args.cache.now front back core t c.meet_all-2.new.others c.part_all-2.new.others c.meet_all-2.ensures.others c.part_all-2.ensures.others in
    if_ok (Does g.D.Disk.view c.args.cache.now c.meet_all-2.new.core c.answer_act-form.new.core c.meet_all-2.new.core.begun c.args.act.now) _ c.answer_act-form.result
    (λ form does. answered c.args.cache.now c.args.cores.now front back core c.args.at split c.split_at_mut-front.ensures.front_len c.meet_all-2.new.core c.answer_act-form.new.core c.part_all-2.new.core c.part_all.new.others c.part_all-2.new.others met parted front_is back_is g.D.Disk.view c.args.act.now form does) c.answer_act-form.ensures.does

pub returns-clause-steady : goal.returns-clause-steady
returns-clause-steady g c =
    let front = c.split_at_mut-front.result.0.now in
    let core = c.in-Some.core.now in
    let back = c.in-Some.back.now in
    let t = together_at c.args.cache.now c.args.cores.now front c.split_at_mut-front.result.1.now back core c.split_at_mut-front.ensures.value c.in-Some.ensures.cases.0 c.requires.together in
    let front_is = front_home c.args.cache.now front back core t c.meet_all.new.others c.part_all.new.others c.meet_all.ensures.others c.part_all.ensures.others in
    λ found here. steady_at front c.part_all.new.others c.part_all-2.new.others c.part_all-2.new.core found c.args.at front_is c.split_at_mut-front.ensures.front_len c.open_handle-open.ensures.steady here

pub returns-clause-journals : goal.returns-clause-journals
returns-clause-journals g c =
    let front = c.split_at_mut-front.result.0.now in
    let core = c.in-Some.core.now in
    let back = c.in-Some.back.now in
    let t = together_at c.args.cache.now c.args.cores.now front c.split_at_mut-front.result.1.now back core c.split_at_mut-front.ensures.value c.in-Some.ensures.cases.0 c.requires.together in
    let split = split_is c.args.cores.now front c.split_at_mut-front.result.1.now back core c.split_at_mut-front.ensures.value c.in-Some.ensures.cases.0 in
    let met = met_is c.args.cache.now front back core t c.meet_all.new.core c.meet_all.ensures.core c.meet_all-2.new.core c.meet_all-2.ensures.core in
    let parted = parted_is c.args.cache.now front back core t c.meet_all.new.core c.meet_all.ensures.core c.meet_all-2.new.core c.meet_all-2.ensures.core c.answer_act-form.new.core c.answer_act-form.ensures.only c.meet_all.new.others c.meet_all.ensures.others c.part_all.new.core c.part_all.ensures.core c.meet_all-2.new.others c.meet_all-2.ensures.others c.part_all-2.new.core c.part_all-2.ensures.core in
    let front_is = front_home c.args.cache.now front back core t c.meet_all.new.others c.part_all.new.others c.meet_all.ensures.others c.part_all.ensures.others in
    let back_is = back_home c.args.cache.now front back core t c.meet_all-2.new.others c.part_all-2.new.others c.meet_all-2.ensures.others c.part_all-2.ensures.others in
    journals_on c.args.cache.now c.args.cores.now front back core c.args.at split c.split_at_mut-front.ensures.front_len c.meet_all-2.new.core c.answer_act-form.new.core c.part_all-2.new.core c.part_all.new.others c.part_all-2.new.others met parted front_is back_is g.D.Disk.view c.answer_act-form.ensures.only c.answer_act-form.ensures.device

pub returns-clause-err : goal.returns-clause-err
returns-clause-err g c =
    let front = c.split_at_mut-front.result.0.now in
    let core = c.in-Some.core.now in
    let back = c.in-Some.back.now in
    let t = together_at c.args.cache.now c.args.cores.now front c.split_at_mut-front.result.1.now back core c.split_at_mut-front.ensures.value c.in-Some.ensures.cases.0 c.requires.together in
    let split = split_is c.args.cores.now front c.split_at_mut-front.result.1.now back core c.split_at_mut-front.ensures.value c.in-Some.ensures.cases.0 in
    let met = met_is c.args.cache.now front back core t c.meet_all.new.core c.meet_all.ensures.core c.meet_all-2.new.core c.meet_all-2.ensures.core in
    let parted = parted_is c.args.cache.now front back core t c.meet_all.new.core c.meet_all.ensures.core c.meet_all-2.new.core c.meet_all-2.ensures.core c.answer_act-form.new.core c.answer_act-form.ensures.only c.meet_all.new.others c.meet_all.ensures.others c.part_all.new.core c.part_all.ensures.core c.meet_all-2.new.others c.meet_all-2.ensures.others c.part_all-2.new.core c.part_all-2.ensures.core in
    let front_is = front_home c.args.cache.now front back core t c.meet_all.new.others c.part_all.new.others c.meet_all.ensures.others c.part_all.ensures.others in
    let back_is = back_home c.args.cache.now front back core t c.meet_all-2.new.others c.part_all-2.new.others c.meet_all-2.ensures.others c.part_all-2.ensures.others in
    on_err _ _ c.answer_act-form.result
    (λ how. left_off c.args.cache.now c.args.cores.now front back core c.args.at split c.split_at_mut-front.ensures.front_len c.meet_all-2.new.core c.answer_act-form.new.core c.part_all-2.new.core c.part_all.new.others c.part_all-2.new.others met parted front_is back_is (has_core c.args.cache.now front back core t) (mine₂ c.args.cache.now front back core t c.meet_all.new.core c.meet_all.ensures.core c.meet_all-2.new.core c.meet_all-2.ensures.core) how) c.answer_act-form.ensures.err
