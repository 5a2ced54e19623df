-- An entry that is seen, or passed over, is that of every made state.
use Rattle.std.proofs.Common.{◌≡◌, None, Some, sym, ◌∙◌}
use Rattle.std.specs.Option.{option_copied}
use Rattle.zj_dirs.specs.Possible.{or_nothing}
use Rattle.std.proofs.lemmas.Result.{err_from_is_err_and}
use Rattle.zj_layout.specs.Image.{item_block}
use Rattle.zj_dirs.proofs.Stops.{odd_stops, told_apart}
use Rattle.zj_dirs.proofs.Looks.{number_data, entry_odd, entry_seen, names_differ, names_equal, other_stands, slot_16}
use Rattle.zj_dirs.proofs.looking.read_named.Goals as goal

pub returns-then-not-may_have_name-clause-none : goal.returns-then-not-may_have_name-clause-none
returns-then-not-may_have_name-clause-none c = λ state tree p.
    other_stands c.args.sizes.now c.args.taken.now (or_nothing (option_copied c.args.written)) state tree p (c.requires.stored state tree p) c.args.dir c.args.node.now (c.requires.node state tree p) c.requires.directory c.args.name.now c.args.place c.in-Some.content.now c.requires.place (sym c.in-Some.ensures.content)
    c.may_have_name.result c.may_have_name.ensures c.if-not-may_have_name.true

pub returns-then-eq-clause-some : goal.returns-then-eq-clause-some
returns-then-eq-clause-some c = (
  names_equal c.in-Some-link_at.link.name c.args.name.now c.eq.result c.eq.ensures c.if-eq.true,
  λ state tree p.
      entry_seen c.args.sizes.now c.args.taken.now (or_nothing (option_copied c.args.written)) state tree p (c.requires.stored state tree p) c.args.dir c.args.node.now (c.requires.node state tree p) c.requires.directory c.args.place c.in-Some.content.now c.requires.place (sym c.in-Some.ensures.content)
      ∙ slot_16 c.args.place _ (Some c.in-Some-link_at.link) c.in-Some-link_at.ensures,
)

pub returns-else-eq-clause-none : goal.returns-else-eq-clause-none
returns-else-eq-clause-none c = λ state tree p. record {
  link = c.in-Some-link_at.link;
  stands =
      entry_seen c.args.sizes.now c.args.taken.now (or_nothing (option_copied c.args.written)) state tree p (c.requires.stored state tree p) c.args.dir c.args.node.now (c.requires.node state tree p) c.requires.directory c.args.place c.in-Some.content.now c.requires.place (sym c.in-Some.ensures.content)
      ∙ slot_16 c.args.place _ (Some c.in-Some-link_at.link) c.in-Some-link_at.ensures;
  other = names_differ c.in-Some-link_at.link.name c.args.name.now c.eq.result c.eq.ensures c.if-eq.false;
}

pub returns-in_default-link_at-clause-stop : goal.returns-in_default-link_at-clause-stop
returns-in_default-link_at-clause-stop c = λ state tree p.
    entry_odd c.args.sizes.now c.args.taken.now (or_nothing (option_copied c.args.written)) state tree p (c.requires.stored state tree p) c.args.dir c.args.node.now (c.requires.node state tree p) c.requires.directory c.args.place c.requires.place
    (entry_seen c.args.sizes.now c.args.taken.now (or_nothing (option_copied c.args.written)) state tree p (c.requires.stored state tree p) c.args.dir c.args.node.now (c.requires.node state tree p) c.requires.directory c.args.place c.in-Some.content.now c.requires.place (sym c.in-Some.ensures.content)
    ∙ slot_16 c.args.place _ None c.in_default-link_at.ensures)

pub returns-in_err-named_data-clause-stop : goal.returns-in_err-named_data-clause-stop
returns-in_err-named_data-clause-stop c =
    let q = err_from_is_err_and c.from_residual.result c.from_residual.ensures.1 in
    let s = c.in_err-named_data.ensures.stop in
    rw (q.1, q.2)
    (odd_stops c.args.sizes.now c.args.taken.now (or_nothing (option_copied c.args.written)) (λ image block. block ≡ item_block image c.args.dir c.args.place) c.in_err-named_data.field-0.0 s.0
    (λ state tree p. told_apart _ (number_data c.args.sizes.now c.args.taken.now (or_nothing (option_copied c.args.written)) state tree p (c.requires.stored state tree p) c.args.dir c.args.node.now (c.requires.node state tree p) c.requires.directory c.args.place c.requires.place) s.1))
