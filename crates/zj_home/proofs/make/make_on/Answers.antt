use Rattle.std.proofs.Common.{ap, length, arith}
use Rattle.zj_home.proofs.LaidOut.{first_spelled, first_told, made_from, zeros_sound}
use Rattle.zj_home.proofs.MadeMoments.{makes_only}
use Rattle.zj_home.proofs.make.make_on.Goals as goal

pub write_image-requires-clause-few : goal.write_image-requires-clause-few
write_image-requires-clause-few g c = omega (arith, c.requires.many, c.home_len.ensures.limits.most_blocks)

pub write_image-requires-clause-short : goal.write_image-requires-clause-short
write_image-requires-clause-short g c = omega (arith, ap length c.as_slice.ensures, c.spell.ensures.len, c.home_len.ensures.limits.most_cores)

pub returns-clause-told : goal.returns-clause-told
returns-clause-told g c = first_told c.args.sizes.now c.zero.result c.zero.ensures.zero c.home_len.ensures.limits.most_cores

pub returns-clause-made : goal.returns-clause-made
returns-clause-made g c =
    made_from (g.D.Disk.view c.write_image.new.d) c.args.sizes.now c.args.blocks.now c.as_slice.result.now (g.D.Disk.view c.args.d.now).size (first_spelled c.args.sizes.now c.zero.result c.as_slice.result.now c.spell.result c.as_slice.ensures c.spell.ensures.spelled c.zero.ensures.zero c.home_len.ensures.limits.most_cores) c.requires.size c.home_len.ensures.limits
    c.in_ok-write_image.ensures.ok c.in_ok-write_image.ensures.only

pub returns-in_err-write_image-clause-moments : goal.returns-in_err-write_image-clause-moments
returns-in_err-write_image-clause-moments g c =
    let first = g.D.Disk.view c.args.d.now in
    makes_only first (g.D.Disk.view c.write_image.new.d) c.args.sizes.now c.args.blocks.now c.as_slice.result.now first.size (first_spelled c.args.sizes.now c.zero.result c.as_slice.result.now c.spell.result c.as_slice.ensures c.spell.ensures.spelled c.zero.ensures.zero c.home_len.ensures.limits.most_cores) c.requires.size c.home_len.ensures.limits
    c.write_image.ensures.moments

pub returns-clause-moments : goal.returns-clause-moments
returns-clause-moments g c =
    let first = g.D.Disk.view c.args.d.now in
    makes_only first (g.D.Disk.view c.write_image.new.d) c.args.sizes.now c.args.blocks.now c.as_slice.result.now first.size (first_spelled c.args.sizes.now c.zero.result c.as_slice.result.now c.spell.result c.as_slice.ensures c.spell.ensures.spelled c.zero.ensures.zero c.home_len.ensures.limits.most_cores) c.requires.size c.home_len.ensures.limits
    c.write_image.ensures.moments

pub returns-clause-tails : goal.returns-clause-tails
returns-clause-tails g c = zeros_sound c.args.sizes.now c.zero.result c.zero.ensures.zero c.home_len.ensures.limits
