use Rattle.std.proofs.Common.{length, arith, ◌∙◌}
use Rattle.zj_area.proofs.Found.{fits_behind, refused, stands}
use Rattle.zj_area.proofs.Parts.{if_some}
use Rattle.zj_area.proofs.reading.read_record.Goals as goal

pub placed-requires : goal.placed-requires
placed-requires g c = fits_behind c.args.due.place (length c.read_bytes.new.buffer) c.in-Err.fault c.in-Err.ensures.fault (omega (arith, c.read_bytes.auto.buffer, c.requires.limits))

pub returns-in-Ok-clause-found : goal.returns-in-Ok-clause-found
returns-in-Ok-clause-found g c =
    let read = rw c.in-Some.is at c.in_ok-read_bytes.ensures in
    let ok = c.in-Ok.ensures.ok in
    if_some (g.D.Disk.view c.args.d.now).bytes
    (λ image part. stands c.spelling_length.ensures c.args.sizes.now c.args.core c.args.due c.read_bytes.new.buffer c.in-Some.field-0 read.most.0 read.len c.in-Ok.sealed ok.1.0 c.in-Ok.ensures.record ok.0 ok.1.1 image part)
    read.bytes

pub returns-in-Err-clause-refused : goal.returns-in-Err-clause-refused
returns-in-Err-clause-refused g c =
    let read = rw c.in-Some.is at c.in_ok-read_bytes.ensures in
    rw c.placed.ensures
    (refused c.spelling_length.ensures c.args.sizes.now c.args.core c.args.due c.read_bytes.new.buffer c.in-Some.field-0 read.most.0 read.len
    (g.D.Disk.view c.args.d.now) (g.D.Disk.view c.read_bytes.new.d) c.in-Err.fault (c.read_bytes.auto.buffer ∙ c.requires.room) c.in-Err.ensures.fault c.in-Err.ensures.bad read.open read.bytes)
