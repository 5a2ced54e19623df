use Rattle.std.proofs.Common.{◌≡◌, ◌+◌, drop, length, ◌∙◌, arith}
use Rattle.zj_home.proofs.ImageLemmas.{TellsImage, tells_image, short_disk, told_from_head, cause_from_head, written_front}
use Rattle.zj_home.proofs.home.read_told.Given as given
use Rattle.zj_home.proofs.home.read_told.Goals as goal

pub returns-then-len-clause-cause : goal.returns-then-len-clause-cause
returns-then-len-clause-cause g c = short_disk (g.D.Disk.view c.args.d.now) c.len-len.result c.len-len.ensures.is_disk c.len-len.ensures.len c.if-len.true

-- the head that was read is that of the device
tells : (g : given.Over) (c : goal.After-drop-head-2 g) → TellsImage (g.D.Disk.view c.args.d.now) c.deref.result.now c.len-len.result
tells g c =
    let many : length c.deref_mut.result.now ≡ 8192 = c.deref_mut.ensures.len ∙ c.in_ok-head.ensures in
    let whole : length c.read.new.into ≡ c.in_ok-head.head.len = c.read.auto.into ∙ c.deref_mut.ensures.len in
    let same = written_front c.read.new.into (drop (length c.read.new.into) c.in_ok-head.head.items) c.deref.result.now c.in_ok-head.head.len whole c.deref.ensures.value in
    rw same (tells_image (g.D.Disk.view c.args.d.now) c.read.new.into c.len-len.result (0 + length c.deref_mut.result.now) c.len-len.ensures.is_disk c.len-len.ensures.len (omega arith) (omega (arith, many)) c.in_ok-read.ensures.given)

pub returns-clause-opens : goal.returns-clause-opens
returns-clause-opens g c = told_from_head c.read_super.result (g.D.Disk.view c.args.d.now) c.deref.result.now c.len-len.result (tells g c) c.read_super.ensures.none c.read_super.ensures.told

pub returns-clause-cause : goal.returns-clause-cause
returns-clause-cause g c = cause_from_head c.read_super.result (g.D.Disk.view c.args.d.now) (g.D.Disk.view c.read.new.self) c.deref.result.now c.len-len.result (tells g c) c.read_super.ensures.err c.read_super.ensures.of_bytes
