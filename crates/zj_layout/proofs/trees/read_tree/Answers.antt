-- The first rule that fails is the one of the check that failed.
use Rattle.std.proofs.Common.{arith}
use Rattle.std.proofs.lemmas.Result.{err_from_is_err_and}
use Rattle.zj_layout.specs.Image.{image_of}
use Rattle.zj_layout.proofs.Faulted.{hold_none, hold_more, rule_1, rule_3, first_fault}
use Rattle.zj_layout.proofs.trees.read_tree.Goals as goal

pub returns-in_err-check_nodes-clause-fault : goal.returns-in_err-check_nodes-clause-fault
returns-in_err-check_nodes-clause-fault c =
    let sizes = c.args.sizes.now in
    let s = c.args.blocks.now in
    let im = image_of sizes s in
    let h1 = hold_none sizes im in
    let first = first_fault sizes im 1 c.in_err-check_nodes.field-0.0 (omega arith) (omega arith) h1 c.in_err-check_nodes.ensures.fault in
    let p = err_from_is_err_and c.from_residual.result c.from_residual.ensures.1 in
    rw (p.1, p.2) first

pub returns-in_err-named-clause-fault : goal.returns-in_err-named-clause-fault
returns-in_err-named-clause-fault c =
    let sizes = c.args.sizes.now in
    let s = c.args.blocks.now in
    let im = image_of sizes s in
    let h1 = hold_none sizes im in
    let h2 = hold_more sizes im 1 h1 (rule_1 sizes s c.in_ok-check_nodes.ensures.ok) in
    let first = first_fault sizes im 2 c.in_err-named.field-0.0 (omega arith) (omega arith) h2 c.in_err-named.ensures.fault in
    let p = err_from_is_err_and c.from_residual-in_err-named.result c.from_residual-in_err-named.ensures.1 in
    rw (p.1, p.2) first

pub returns-in_err-check_entries-clause-fault : goal.returns-in_err-check_entries-clause-fault
returns-in_err-check_entries-clause-fault c =
    let sizes = c.args.sizes.now in
    let s = c.args.blocks.now in
    let im = image_of sizes s in
    let h1 = hold_none sizes im in
    let h2 = hold_more sizes im 1 h1 (rule_1 sizes s c.in_ok-check_nodes.ensures.ok) in
    let h3 = hold_more sizes im 2 h2 c.in_ok-named.ensures.once in
    let first = first_fault sizes im 3 c.in_err-check_entries.field-0.0 (omega arith) (omega arith) h3 c.in_err-check_entries.ensures.fault in
    let p = err_from_is_err_and c.from_residual-in_err-check_entries.result c.from_residual-in_err-check_entries.ensures.1 in
    rw (p.1, p.2) first

pub returns-in_err-check_names-clause-fault : goal.returns-in_err-check_names-clause-fault
returns-in_err-check_names-clause-fault c =
    let sizes = c.args.sizes.now in
    let s = c.args.blocks.now in
    let im = image_of sizes s in
    let h1 = hold_none sizes im in
    let h2 = hold_more sizes im 1 h1 (rule_1 sizes s c.in_ok-check_nodes.ensures.ok) in
    let h3 = hold_more sizes im 2 h2 c.in_ok-named.ensures.once in
    let h4 = hold_more sizes im 3 h3 (rule_3 sizes s c.in_ok-check_entries.ensures.ok) in
    let first = first_fault sizes im 4 c.in_err-check_names.field-0.0 (omega arith) (omega arith) h4 c.in_err-check_names.ensures.fault in
    let p = err_from_is_err_and c.from_residual-in_err-check_names.result c.from_residual-in_err-check_names.ensures.1 in
    rw (p.1, p.2) first

pub returns-in_err-found-clause-fault : goal.returns-in_err-found-clause-fault
returns-in_err-found-clause-fault c =
    let sizes = c.args.sizes.now in
    let s = c.args.blocks.now in
    let im = image_of sizes s in
    let h1 = hold_none sizes im in
    let h2 = hold_more sizes im 1 h1 (rule_1 sizes s c.in_ok-check_nodes.ensures.ok) in
    let h3 = hold_more sizes im 2 h2 c.in_ok-named.ensures.once in
    let h4 = hold_more sizes im 3 h3 (rule_3 sizes s c.in_ok-check_entries.ensures.ok) in
    let h5 = hold_more sizes im 4 h4 c.in_ok-check_names.ensures.ok in
    let first = first_fault sizes im 5 c.in_err-found.field-0.0 (omega arith) (omega arith) h5 c.in_err-found.ensures.fault in
    let p = err_from_is_err_and c.from_residual-in_err-found.result c.from_residual-in_err-found.ensures.1 in
    rw (p.1, p.2) first

pub returns-in_err-check_map-clause-fault : goal.returns-in_err-check_map-clause-fault
returns-in_err-check_map-clause-fault c =
    let sizes = c.args.sizes.now in
    let s = c.args.blocks.now in
    let im = image_of sizes s in
    let h1 = hold_none sizes im in
    let h2 = hold_more sizes im 1 h1 (rule_1 sizes s c.in_ok-check_nodes.ensures.ok) in
    let h3 = hold_more sizes im 2 h2 c.in_ok-named.ensures.once in
    let h4 = hold_more sizes im 3 h3 (rule_3 sizes s c.in_ok-check_entries.ensures.ok) in
    let h5 = hold_more sizes im 4 h4 c.in_ok-check_names.ensures.ok in
    let h6 = hold_more sizes im 5 h5 c.in_ok-found.ensures.linked in
    let first = first_fault sizes im 6 c.in_err-check_map.field-0.0 (omega arith) (omega arith) h6 c.in_err-check_map.ensures.fault in
    let p = err_from_is_err_and c.from_residual-in_err-check_map.result c.from_residual-in_err-check_map.ensures.1 in
    rw (p.1, p.2) first
