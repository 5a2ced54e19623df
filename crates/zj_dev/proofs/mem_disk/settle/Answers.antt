use Rattle.std.proofs.Common.{◌+◌, ◌-◌, ◌≤◌, length, get_or, sym, ◌∙◌, refl, arith}
use Rattle.std.proofs.lemmas.List.{drop_all}
use Rattle.zj_dev.proofs.Images.{is_image, nothing_pending, settled_more}
use Rattle.zj_dev.proofs.mem_disk.settle.Goals as goal

pub loop-extent-init : goal.loop-extent-init
loop-extent-init c = (c.requires.image, sym (is_image c.args.pending.now c.args.settled.now c.args.bytes.now c.requires.image).size)

pub loop-extent-preserved : goal.loop-extent-preserved
loop-extent-preserved c =
    let i = c.loop-extent.extent-index in
    let e = get_or c.args.pending.now i (record { at = 0; count = 0 }) in
    let size = c.loop-extent.invariant.1 in
    let first = (is_image c.args.pending.now c.args.settled.now c.args.bytes.now c.requires.image).size in
    let fits : e.at + e.count ≤ length c.args.settled.now = c.requires.within i (record { at = 0; count = 0 }) (omega arith) in
    let more = settled_more c.args.pending.now i (record { at = 0; count = 0 }) e c.loop-extent.settled c.args.bytes.now c.copy_from_slice.new.self (e.at + e.count - e.at) refl
    c.loop-extent.invariant.0 (omega arith) (omega arith) (omega arith) c.copy_from_slice.ensures.after in
    (more.0, more.1 ∙ size)

pub returns : goal.returns
returns c =
    let e = drop_all c.loop-extent.extent-index c.args.pending.now (omega arith) in
    sym (nothing_pending c.loop-extent.settled c.args.bytes.now (is_image _ c.loop-extent.settled c.args.bytes.now (rw e at c.loop-extent.invariant.0)))
