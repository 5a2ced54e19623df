use Rattle.zj_dirs.proofs.Named.{is_some_long, last_read, length_read}
use Rattle.zj_dirs.proofs.looking.may_have_name.Goals as goal

pub returns-then-eq : goal.returns-then-eq
returns-then-eq c = λ link at same.
    let name = c.as_slice.ensures.value in
    last_read c.args.content.now c.args.place c.args.name.now link c.byte.ensures.content c.requires at same c.in-Some.last.now (is_some_long _ (rw name at c.in-Some.ensures.item.0)) (rw name at c.in-Some.ensures.value) c.byte-then-eq.result c.eq-then-eq.result (rw c.as_slice-len.ensures.value at c.byte-then-eq.ensures.byte)
    c.eq-then-eq.ensures

pub returns-else-eq : goal.returns-else-eq
returns-else-eq c = λ link at same.
    length_read c.args.content.now c.args.place c.args.name.now link c.byte.ensures.content c.requires at same c.byte.result c.eq.result c.byte.ensures.byte (rw c.as_slice-len.ensures.value at c.eq.ensures)
