use Rattle.std.proofs.Common.{◌++◌, ◌∙◌, take, arith}
use Rattle.zj_cli.proofs.StreamLemmas.{took_more, all_behind}
use Rattle.zj_cli.proofs.stream.write_whole.Goals as goal

pub loop-rest-preserved : goal.loop-rest-preserved
loop-rest-preserved g c = record {
  written = c.loop-rest.invariant.written ++ take c.in_ok-count.count c.loop-rest.rest.now;
  whole = all_behind c.loop-rest.invariant.written c.loop-rest.rest.now c.args.bytes.now c.in_ok-count.count c.loop-rest.invariant.whole;
  took = took_more _ _ _ _ _ c.loop-rest.invariant.took c.in_ok-count.ensures.added;
  quiet = c.in_ok-count.ensures.quiet ∙ c.loop-rest.invariant.quiet;
  no_fewer = omega (arith, c.loop-rest.invariant.no_fewer, c.write.ensures.no_fewer);
}
