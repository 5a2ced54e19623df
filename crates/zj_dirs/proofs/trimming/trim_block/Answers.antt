-- A content that counts is put.
use Rattle.std.proofs.Common.{sym}
use Rattle.zj_dirs.proofs.Trimmed.{trimmed_put}
use Rattle.zj_dirs.proofs.trimming.trim_block.Goals as goal

pub returns-then-counts : goal.returns-then-counts
returns-then-counts c =
    trimmed_put c.args.taken.now c.args.built.now c.args.written.now c.put.new.self c.args.block.0 c.in-Some.content.now c.in_ok-put.ensures.ok (sym c.in-Some.ensures.new)
    (c.counts.ensures.0 c.if-counts.true)
