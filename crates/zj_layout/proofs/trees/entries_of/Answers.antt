use Rattle.std.proofs.Common.{◌≡◌, ◌<◌, ◌+◌, [], ◌∷◌, ◌++◌, length, map, take, refl, sym, ap, ◌∙◌, arith, subst}
use Rattle.std.proofs.lemmas.Grind.{common_steps}
use Rattle.std.proofs.lemmas.List.{get_or_default, length-append}
use Rattle.std.proofs.lemmas.Iterator.Adapters.{YieldsList-from_vec}
use Rattle.std.proofs.lemmas.Iterator.Consumers.{YieldsList-turn, YieldsList-end}
use Rattle.zj_layout.specs.Image.{image_of, graph_of}
use Rattle.zj_layout.specs.Linked.{no_found, shown_entry}
use Rattle.zj_layout.specs.declared.links.Found.{Found}
use Rattle.zj_layout.proofs.Gathered.{entries_more, entries_all}
use Rattle.zj_layout.proofs.Planted.{found_live}
use Rattle.zj_layout.proofs.trees.entries_of.Goals as goal

pub content_of-requires-clause-live : goal.content_of-requires-clause-live
content_of-requires-clause-live c =
    let gives = c.into_iter-one-iterator.ensures.into_iter_gives in
    let t = YieldsList-turn (YieldsList-from_vec {s = c.into_iter-one-iterator.result} c.args.found.items gives.0 (gives.1 ∙ c.args.found.ok.0)) c.loop-one.yielded c.loop-one.one-iterator c.loop-one.yielded_by c.next.result c.next.new.self c.in-Some.one c.in-Some.is c.next.ensures.steps in
    found_live c.args.sizes.now c.args.blocks.now c.nodes-nodes.ensures.limits c.requires.sound c.args.found.items c.requires.found c.requires.all (length c.loop-one.yielded) c.in-Some.one.node t.0
    (ap (λ (f : Found). f.node) (t.1 ∙ get_or_default c.args.found.items (length c.loop-one.yielded) c.in-Some.one no_found t.0))

pub content_of-requires-clause-within : goal.content_of-requires-clause-within
content_of-requires-clause-within c =
    let gives = c.into_iter-one-iterator.ensures.into_iter_gives in
    let t = YieldsList-turn (YieldsList-from_vec {s = c.into_iter-one-iterator.result} c.args.found.items gives.0 (gives.1 ∙ c.args.found.ok.0)) c.loop-one.yielded c.loop-one.one-iterator c.loop-one.yielded_by c.next.result c.next.new.self c.in-Some.one c.in-Some.is c.next.ensures.steps in
    subst (λ (f : Found). f.node < c.args.sizes.now.nodes) (sym (t.1 ∙ get_or_default c.args.found.items (length c.loop-one.yielded) c.in-Some.one no_found t.0)) (c.requires.found.within (length c.loop-one.yielded) t.0)

pub loop-one-preserved : goal.loop-one-preserved
loop-one-preserved c =
    let g = graph_of (image_of c.args.sizes.now c.args.blocks.now) in
    let gives = c.into_iter-one-iterator.ensures.into_iter_gives in
    let t = YieldsList-turn (YieldsList-from_vec {s = c.into_iter-one-iterator.result} c.args.found.items gives.0 (gives.1 ∙ c.args.found.ok.0)) c.loop-one.yielded c.loop-one.one-iterator c.loop-one.yielded_by c.next.result c.next.new.self c.in-Some.one c.in-Some.is c.next.ensures.steps in
    let more : length (c.loop-one.yielded ++ c.in-Some.one ∷ []) ≡ length c.loop-one.yielded + 1 = length-append c.loop-one.yielded (c.in-Some.one ∷ []) in
    entries_more g c.args.found.items (length c.loop-one.yielded) c.in-Some.one c.in_ok-content.content c.in-Some.one.path c.loop-one.entries.items c.push.new.self.items
    t.0 (t.1 ∙ get_or_default c.args.found.items (length c.loop-one.yielded) c.in-Some.one no_found t.0) refl c.in_ok-content.ensures c.loop-one.invariant (grind (arith, common_steps))
    ∙ ap (λ n. map (shown_entry g) (take n c.args.found.items)) (sym more)

pub returns : goal.returns
returns c =
    let gives = c.into_iter-one-iterator.ensures.into_iter_gives in
    let t = YieldsList-end (YieldsList-from_vec {s = c.into_iter-one-iterator.result} c.args.found.items gives.0 (gives.1 ∙ c.args.found.ok.0)) c.loop-one.yielded c.loop-one.one-iterator c.loop-one.yielded_by c.next.result c.next.new.self c.in-None.is c.next.ensures.steps in
    entries_all (graph_of (image_of c.args.sizes.now c.args.blocks.now)) c.args.found.items (length c.loop-one.yielded) c.loop-one.entries.items t.1 c.loop-one.invariant
