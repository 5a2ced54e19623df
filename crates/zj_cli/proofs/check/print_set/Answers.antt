use Rattle.std.proofs.Common.{map}
use Rattle.zj_area.specs.Journal.{journal_of}
use Rattle.zj_cli.specs.Check.{IsTold, spelling_of}
use Rattle.zj_cli.proofs.Ends.{part_written}
use Rattle.zj_cli.proofs.check.print_set.Goals as goal

pub returns-clause-cause : goal.returns-clause-cause
returns-clause-cause g c =
    part_written _ (IsTold (spelling_of c.args.telling) c.args.home.now.told (g.D.Disk.view c.args.home.now.device) (map (journal_of g.D.Disk.view) c.args.areas.now.areas)) c.write_whole.result _ _ _ _ c.in_ok-text.text c.in_ok-text.ensures.text
    (rw c.as_slice.ensures at c.write_whole.ensures.err) c.write_whole.ensures.cause
