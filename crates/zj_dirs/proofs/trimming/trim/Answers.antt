-- Each block that was taken is looked at.
use Rattle.std.proofs.Common.{IsSome, refl, sym, ap, ◌∙◌, subst, arith}
use Rattle.std.specs.Option.{option_map}
use Rattle.std.proofs.lemmas.Option.{slice_get_within}
use Rattle.zj_dirs.specs.Trimming.{IsTrimmed}
use Rattle.zj_dirs.proofs.Trimmed.{found_place, same_made, trims_none, trims_more, trims_past}
use Rattle.zj_dirs.proofs.trimming.trim.Goals.{in-Some+in_ok-trim_block, in_default}
use Rattle.zj_dirs.proofs.trimming.trim.Goals as goal

pub loop-i-init : goal.loop-i-init
loop-i-init c = trims_none c.args.taken.now c.args.built.now c.new-written.result c.new-written.ensures

pub loop-i-preserved : goal.loop-i-preserved
loop-i-preserved c = elim c.match-at.branch [
  | in-Some+in_ok-trim_block w ↦ rw w.written-is
      (trims_more c.args.taken.now c.args.built.now c.loop-i.written w.trim_block.new.written c.loop-i.i w.in-Some.block.0 w.in-Some._found.now c.loop-i.invariant
      (sym c.at.ensures.entry ∙ ap (option_map (λ e. (e.0.0, e.1.now))) w.in-Some.is) w.in_ok-trim_block.ensures)
  | in_default w ↦ rw w.written-is
      (trims_past c.args.taken.now c.args.built.now c.loop-i.written c.loop-i.i c.loop-i.invariant (sym c.at.ensures.entry ∙ ap (option_map (λ e. (e.0.0, e.1.now))) w.in_default.is))
]

trimmed : (c : goal.After-loop-i) → IsTrimmed c.args.taken.now c.args.built.now c.loop-i.written
trimmed c = record {
  only = c.loop-i.invariant.only;
  all = λ b x new counts.
      let at = found_place c.args.taken.now b (c.requires b (subst IsSome (sym new) refl)) in
      c.loop-i.invariant.all at.0 b at.1 x (omega (arith, slice_get_within c.args.taken.now at.0 (b, at.1) at.2, c.loop-i-test.false, c.len-i-end.ensures.len)) at.2 new counts;
}

pub returns-clause-trimmed : goal.returns-clause-trimmed
returns-clause-trimmed c = trimmed c

pub returns-clause-same : goal.returns-clause-same
returns-clause-same c = λ sizes. same_made sizes c.args.taken.now c.args.built.now c.loop-i.written (trimmed c)
