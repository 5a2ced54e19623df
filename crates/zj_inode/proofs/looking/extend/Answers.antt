-- The bytes behind the earlier ones are the block's.
use Rattle.std.proofs.Common.{ℕ, ◌+◌, ◌-◌, List, length, take, drop, ap, ◌∙◌, slice_index}
use Rattle.std.proofs.lemmas.Result.{on_ok_weaker}
use Rattle.std.proofs.lemmas.List.{get_or-append-add, get_or-drop, get_or-take}
use Rattle.zj_layout.specs.Node.{byte_in}
use Rattle.zj_inode.proofs.looking.extend.Goals as goal

pub returns-clause-added : goal.returns-clause-added
unfolding byte_in
returns-clause-added c = on_ok_weaker c.extend.result (λ e k lt.
    let out : List ℕ = c.to_bytes.new.out in
    ap (λ (x : List ℕ). slice_index x (length c.args.bytes.now + k)) e
    ∙ get_or-append-add c.args.bytes.now (take (c.args.high - c.args.low) (drop c.args.low out)) k 0
    ∙ get_or-take (c.args.high - c.args.low) (drop c.args.low out) k 0 lt
    ∙ get_or-drop c.args.low out k 0
    ∙ ap (λ (x : List ℕ). slice_index x (c.args.low + k)) c.to_bytes.ensures.bytes)
    c.extend.ensures.ok
