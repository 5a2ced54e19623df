use Rattle.std.proofs.Common.{◌≡◌, Some, sym, ap, ◌∙◌, arith}
use Rattle.std.specs.List.{slice_get}
use Rattle.std.specs.Option.{option_copied}
use Rattle.zj_home.proofs.BlockLemmas.{block_more, found_at, some_at}
use Rattle.zj_home.proofs.ImageLemmas.{if_some_all}
use Rattle.zj_home.proofs.MadeMoments.{letters_more}
use Rattle.zj_dev.proofs.DiskLaws.{leads_refl}
use Rattle.zj_home.proofs.Further.{further_refl, further_trans}
use Rattle.zj_home.proofs.make.write_blocks.Goals as goal

pub loop-b-preserved : goal.loop-b-preserved
loop-b-preserved g c =
    let first = g.D.Disk.view c.args.d.now in
    let old = g.D.Disk.view c.loop-b.d in
    let new = g.D.Disk.view c.write_block.new.d in
    let was = c.loop-b.invariant in
    let now = c.in_ok-write_block.ensures in
    let found : Some c.unwrap.result.now ≡ slice_get c.args.blocks.now c.loop-b.b = ap option_copied (sym c.unwrap.ensures) ∙ c.at.ensures.block in
    record {
      kept = further_trans first old new was.kept now.kept;
      holds = block_more old new.bytes c.args.blocks.now c.loop-b.b c.unwrap.result.now was.kept.is_disk
          (omega (arith, was.kept.continues.size, c.requires.size)) now.many (found_at c.args.blocks.now c.loop-b.b c.unwrap.result.now (sym found)) now.ok was.holds;
      letters = letters_more first old new c.loop-b.b was.kept now.kept was.letters now.torn;
    }

pub loop-b-init : goal.loop-b-init
loop-b-init g c =
    let first = g.D.Disk.view c.args.d.now in
    record {
      kept = further_refl first c.requires.is_disk;
      holds = if_some_all first.bytes (λ image told b below. absurd (omega arith));
      letters = leads_refl first;
    }

pub unwrap-requires : goal.unwrap-requires
unwrap-requires g c = some_at c.at.result c.args.blocks.now c.loop-b.b c.at.ensures.block (omega arith)

pub returns-in_err-write_block-clause-moments : goal.returns-in_err-write_block-clause-moments
returns-in_err-write_block-clause-moments g c = letters_more (g.D.Disk.view c.args.d.now) (g.D.Disk.view c.loop-b.d) (g.D.Disk.view c.write_block.new.d) c.loop-b.b c.loop-b.invariant.kept c.write_block.ensures.kept c.loop-b.invariant.letters c.write_block.ensures.torn
