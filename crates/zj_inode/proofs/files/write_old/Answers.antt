-- The block has the bytes in every made state.
use Rattle.std.proofs.Common.{subst, sym, ◌∙◌}
use Rattle.zj_layout.proofs.Follow.{none_some}
use Rattle.zj_changes.specs.Resized.{PutsBytes}
use Rattle.zj_dirs.proofs.Seen.{data_below, made_content}
use Rattle.zj_inode.proofs.files.write_old.Goals as goal

pub returns-clause-done : goal.returns-clause-done
returns-clause-done c = λ state tree p is_data.
    let sizes = c.args.sizes.now in
    record {
      content = c.with_range-content.result;
      puts = subst (λ was. PutsBytes was c.with_range-content.result c.args.first c.args.at c.args.bytes.now)
          (sym (made_content sizes c.args.taken.now c.args.built.now state tree p c.args.block c.in-Some.found.now is_data (data_below sizes c.args.block is_data) (sym c.in-Some.ensures.content)))
          c.with_range-content.ensures;
      sets = c.in_ok-set_content.ensures.done state tree p is_data;
    }

pub returns-clause-seen : goal.returns-clause-seen
returns-clause-seen c = λ e. none_some (sym e ∙ sym c.in-Some.ensures.content)
