use Rattle.std.proofs.Common.{◌≡◌, ◌∙◌, ◌<◌, sym, ap, arith, length}
use Rattle.zj_turns.specs.Passes.{PassState}
use Rattle.zj_session.proofs.Cores.{dealt_out, fresh_more, idle_fresh, journals_more, none_fresh, own_journal}
use Rattle.zj_session.proofs.starting.make_cores.Goals as goal

pub new-requires-clause-idle : goal.new-requires-clause-idle
new-requires-clause-idle g c =
    let low : c.loop-core._core < c.args.cache.now.cores = omega arith in
    let out = dealt_out c.args.cache.now c.args.cache.now.cores c.loop-core._core low c.loop-core.passes c.next.new.self c.in-Some.pass c.loop-core.invariant.passes c.in-Some.ensures.some in
    idle_fresh c.args.cache.now c.loop-core._core c.in-Some.pass out.1

pub new-requires-clause-none : goal.new-requires-clause-none
new-requires-clause-none g c =
    let low : c.loop-core._core < c.args.cache.now.cores = omega arith in
    let out = dealt_out c.args.cache.now c.args.cache.now.cores c.loop-core._core low c.loop-core.passes c.next.new.self c.in-Some.pass c.loop-core.invariant.passes c.in-Some.ensures.some in
    none_fresh c.args.cache.now c.loop-core._core c.in-Some.pass out.1

pub new-requires-clause-core : goal.new-requires-clause-core
new-requires-clause-core g c =
    let low : c.loop-core._core < c.args.cache.now.cores = omega arith in
    let out = dealt_out c.args.cache.now c.args.cache.now.cores c.loop-core._core low c.loop-core.passes c.next.new.self c.in-Some.pass c.loop-core.invariant.passes c.in-Some.ensures.some in
    let many : length c.loop-core.cores.items ≡ c.loop-core._core = sym c.loop-core.cores.ok.0 ∙ c.loop-core.invariant.made in
    let own = own_journal c.loop-core.cores.items c.pop.new.self.items c.loop-core.waiting.items _ c.in-Some-pop.area c.loop-core.invariant.journals c.in-Some-pop.ensures.items c.args.sizes.now c.loop-core._core many c.requires.journals in
    own.0 ∙ sym (ap (λ (p : PassState). p.core) out.1)

pub new-requires-clause-sizes : goal.new-requires-clause-sizes
new-requires-clause-sizes g c =
    let many : length c.loop-core.cores.items ≡ c.loop-core._core = sym c.loop-core.cores.ok.0 ∙ c.loop-core.invariant.made in
    let own = own_journal c.loop-core.cores.items c.pop.new.self.items c.loop-core.waiting.items _ c.in-Some-pop.area c.loop-core.invariant.journals c.in-Some-pop.ensures.items c.args.sizes.now c.loop-core._core many c.requires.journals in
    own.1

pub new-requires-clause-ready : goal.new-requires-clause-ready
new-requires-clause-ready g c =
    let many : length c.loop-core.cores.items ≡ c.loop-core._core = sym c.loop-core.cores.ok.0 ∙ c.loop-core.invariant.made in
    let own = own_journal c.loop-core.cores.items c.pop.new.self.items c.loop-core.waiting.items _ c.in-Some-pop.area c.loop-core.invariant.journals c.in-Some-pop.ensures.items c.args.sizes.now c.loop-core._core many c.requires.journals in
    own.2

pub loop-core-preserved : goal.loop-core-preserved
loop-core-preserved g c =
    let inv = c.loop-core.invariant in
    let low : c.loop-core._core < c.args.cache.now.cores = omega arith in
    let out = dealt_out c.args.cache.now c.args.cache.now.cores c.loop-core._core low c.loop-core.passes c.next.new.self c.in-Some.pass inv.passes c.in-Some.ensures.some in
    let many : length c.loop-core.cores.items ≡ c.loop-core._core = sym c.loop-core.cores.ok.0 ∙ inv.made in
    let made = rw c.unwrap-core.ensures at c.new.ensures.ok in
    record {
      passes = out.0;
      made = omega (arith, c.push_reserved.ensures.len);
      left = omega (arith, c.in-Some-pop.ensures.cases);
      room = c.push_reserved.ensures.capacity ∙ inv.room;
      fresh = fresh_more c.args.cache.now c.args.sizes.now c.loop-core.cores.items c.loop-core._core many c.unwrap-core.result c.in-Some.pass c.in-Some-pop.area made out.1 c.push_reserved.new.self.items c.push_reserved.ensures.items inv.fresh;
      journals = journals_more c.loop-core.cores.items c.pop.new.self.items c.loop-core.waiting.items _ c.in-Some-pop.area inv.journals c.in-Some-pop.ensures.items c.unwrap-core.result c.in-Some.pass c.args.sizes.now made c.push_reserved.new.self.items c.push_reserved.ensures.items;
    }
