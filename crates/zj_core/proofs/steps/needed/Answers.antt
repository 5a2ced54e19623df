-- What the outcome says.
use Rattle.std.proofs.Common.{Option, Result, sym, subst}
use Rattle.std.specs.Prelude.{IfOk}
use Rattle.std.specs.Option.{IfSome, IfNone}
use Rattle.std.specs.declared.alloc.AllocError.{AllocError}
use Rattle.zj_block.specs.declared.numbers.BlockNo.{BlockNo}
use Rattle.zj_core.specs.Handle.{IsDue, IsPerformed}
use Rattle.zj_core.proofs.Needing.{is_due, is_performed, never_odd, root_taken}
use Rattle.zj_core.proofs.steps.needed.Goals as goal
use Rattle.zj_core.proofs.steps.needed.Goals.{in-Need, in-Done}

pub returns-clause-some : goal.returns-clause-some
returns-clause-some c =
    let says : Result (Option BlockNo) AllocError → Type 0 = λ r. IfOk r (λ next. IfSome next (λ block. IsDue c.args.sizes.now c.args.taken.now c.args.call.now block.0)) in
    elim c.match-branch-2.branch [
      | in-Need w ↦ subst says (sym w.result-is) (is_due c.args.sizes.now c.args.taken.now c.args.call.now c.in_ok-block.field-0 w.in-Need.block w.in-Need.is c.in_ok-block.ensures.says c.in_ok-block.ensures.root c.in_ok-block.ensures.within)
      | in-Done w ↦ subst says (sym w.result-is) tt
    ]

pub returns-clause-none : goal.returns-clause-none
returns-clause-none c =
    let says : Result (Option BlockNo) AllocError → Type 0 = λ r. IfOk r (λ next. IfNone next (IsPerformed c.args.sizes.now c.args.taken.now c.args.call.now)) in
    elim c.match-branch-2.branch [
      | in-Need w ↦ subst says (sym w.result-is) tt
      | in-Done w ↦ subst says (sym w.result-is)
          (record {
            root = root_taken c.args.sizes.now c.args.taken.now c.args.call.now c.in_ok-block.field-0 w.in-Done.reply w.in-Done.written w.in-Done.is c.in_ok-block.ensures.root;
            reply = w.in-Done.reply;
            written = w.in-Done.written;
            performs = is_performed c.args.sizes.now c.args.taken.now c.args.call.now c.in_ok-block.field-0 w.in-Done.reply w.in-Done.written w.in-Done.is c.in_ok-block.ensures.says;
          })
    ]

pub unreachable-requires : goal.unreachable-requires
unreachable-requires c = never_odd c.args.sizes.now c.args.taken.now c.args.call.now c.requires c.in_ok-block.field-0 c.in-Odd.is c.in_ok-block.ensures.says c.in_ok-block.ensures.root
