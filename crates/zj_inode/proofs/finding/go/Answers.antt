-- A walk that finds nothing stops.
use Rattle.zj_layout.specs.Image.{image_of}
use Rattle.zj_inode.proofs.Steps.{lacking_stops, meeting_stops}
use Rattle.zj_inode.proofs.finding.go.Goals as goal

pub returns-in-NotFound-clause-stop : goal.returns-in-NotFound-clause-stop
returns-in-NotFound-clause-stop c = λ state tree p. lacking_stops (image_of c.args.sizes.now state) c.args.names.now (c.in-NotFound.ensures.says state tree p)

pub returns-in-NotDir-clause-stop : goal.returns-in-NotDir-clause-stop
returns-in-NotDir-clause-stop c = λ state tree p. meeting_stops (image_of c.args.sizes.now state) c.args.names.now (c.in-NotDir.ensures.says state tree p)
