use Rattle.std.proofs.Common.{◌≡◌, map}
use Rattle.zj_area.specs.Journal.{journal_of}
use Rattle.zj_cli.proofs.CheckLemmas.{told}
use Rattle.zj_cli.proofs.check.read_set.Goals as goal

pub returns-clause-text : goal.returns-clause-text
returns-clause-text g c =
    told c.args.telling c.args.home.now.told (g.D.Disk.view c.args.home.now.device) (map (journal_of g.D.Disk.view) c.args.areas.now.areas) c.in_ok-recovered.recovered _ c.in_ok-recovered.ensures.inspects c.in_ok-spell.ensures
