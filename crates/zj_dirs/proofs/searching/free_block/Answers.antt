-- The bytes of a block of the map that are seen are those of every made state.
use Rattle.std.proofs.Common.{sym, arith}
use Rattle.zj_dirs.proofs.Searched.{lowest_here, none_here}
use Rattle.zj_dirs.proofs.searching.free_block.Goals as goal

pub returns-in-Some-free_byte-clause-ok : goal.returns-in-Some-free_byte-clause-ok
returns-in-Some-free_byte-clause-ok c = λ state tree p.
    lowest_here c.args.sizes.now c.args.taken.now c.args.written.now state tree p c.loop-k.k c.min-count.result c.in-Some.content.now (sym c.in-Some.ensures.content)
    (omega (arith, c.min-count.ensures))
    c.in-Some-free_byte.place
    (omega (arith, c.min-count.ensures, c.blocks-in-loop-k.ensures.value, c.loop-k-test.true, c.map_blocks-k-end.ensures.value))
    c.in-Some-free_byte.ensures
    (λ lower lt below. c.loop-k.invariant lower lt below state tree p)

pub loop-k-preserved : goal.loop-k-preserved
loop-k-preserved c = λ lower lt below state tree p.
    none_here c.args.sizes.now c.args.taken.now c.args.written.now state tree p c.loop-k.k c.min-count.result c.in-Some.content.now (sym c.in-Some.ensures.content)
    (omega (arith, c.min-count.ensures))
    c.in-None.ensures
    (λ j less inside. omega (arith, c.min-count.ensures, c.blocks-in-loop-k.ensures.value))
    (λ lower lt below. c.loop-k.invariant lower lt below state tree p)
    lower lt below
