use Rattle.std.proofs.Common.{◌≡◌, arith}
use Rattle.std.specs.FinMap as map_of
use Rattle.std.specs.Result.{result_err}
use Rattle.zj_tree.specs.Apply.{first_refusal, new_entry_reasons}
use Rattle.zj_tree.proofs.KeptLemmas.{Shows, shown_within}
use Rattle.zj_tree.proofs.RefusalLemmas.{fits}
use Rattle.zj_tree.proofs.tree.Tree.check_new_entry.Goals as goal

pub returns-clause-fits : goal.returns-clause-fits
returns-clause-fits c =
    let t = c.args.self.now in
    let a = c.self.inside in
    let s : Shows t a.entries.items a.blocks a.nodes a.room a.version = record { is = c.self.view_is; kept = c.self.invariant } in
    let grown = map_of.insert t.tree c.args.path.now c.args.content.now in
    let reason : result_err c.check_room.result ≡ first_refusal (new_entry_reasons t.limits t.tree c.args.path.now grown) = grind arith in
    fits t.limits t.tree c.args.path.now c.args.content.now c.check_room.result (shown_within s) reason
