use Rattle.std.proofs.Common.{◌≡◌, ℕ, ◌<◌, Some, length, ap, sym, subst, ◌∙◌, refl, arith}
use Rattle.std.specs.Prelude.{◌↔◌, IsSome, slice_set}
use Rattle.std.proofs.lemmas.Option.{slice_get-get_or}
use Rattle.zj_block.specs.Numbers.{zero_tail}
use Rattle.zj_block.specs.Sizes.{Numbers}
use Rattle.zj_closure.proofs.NewestLemmas.{at_some}
use Rattle.zj_home.specs.Super.{IsTail}
use Rattle.zj_mount.proofs.InspectLemmas.{copied_none, copied_more, put_is}
use Rattle.zj_mount.proofs.gathering.tails_of.Goals as goal

pub loop-core-init : goal.loop-core-init
loop-core-init g c = rw c.zero-tails.ensures.zero (copied_none c.args.home.now.told.tails)

pub unwrap-tail-requires : goal.unwrap-tail-requires
unwrap-tail-requires g c =
    let same = ap (λ (n : Numbers). n.cores) c.sizes.ensures in
    let below : c.loop-core.core < length c.args.home.now.told.tails = omega (arith, c.loop-core-test.true, c.cores-core-end.ensures.value, same, c.tail.ensures.tail_count) in
    let some = c.tail.ensures.tail ∙ slice_get-get_or c.args.home.now.told.tails c.loop-core.core zero_tail below in
    rw some refl

pub loop-core-preserved : goal.loop-core-preserved
loop-core-preserved g c =
    let same = ap (λ (n : Numbers). n.cores) c.sizes.ensures in
    let few = c.cores-core-end.ensures.limits.most_cores in
    let many = c.loop-core.invariant.many in
    let is : c.tail.result ≡ Some c.unwrap-tail.result = c.unwrap-tail.ensures in
    let low = at_some c.tail.result (IsTail c.args.home.now.told.sizes) c.unwrap-tail.result is c.tail.ensures.tail_sound in
    let put : c.put-put.new.self ≡ slice_set c.loop-core.tails c.loop-core.core c.unwrap-tail.result =
    put_is c.put-put.result c.loop-core.tails c.put-put.new.self c.loop-core.core c.unwrap-tail.result (subst (λ (n : ℕ). IsSome c.put-put.result ↔ (c.loop-core.core < n)) (sym many) c.put-put.ensures.some) c.put-put.ensures.put c.put-put.ensures.none in
    rw put
    (copied_more c.args.home.now.told.tails c.loop-core.tails c.loop-core.core c.unwrap-tail.result (omega (arith, c.loop-core-test.true, c.cores-core-end.ensures.value, same, few)) (sym c.tail.ensures.tail ∙ is) low.1 c.loop-core.invariant)
