-- The root's block is due for each call; nothing is built before the call, and write has been performed.
use Rattle.std.proofs.Common.{◌≡◌, ℕ, ◌<◌, List, refl, ap, ◌∙◌, subst, arith}
use Rattle.std.specs.FinMap as map_of
use Rattle.std.specs.FinMap.{len-empty}
use Rattle.std.specs.Ordering.{nat_cmp}
use Rattle.std.proofs.lemmas.Result.{IfOk-weaker}
use Rattle.zj_tree.specs.declared.call.Call.{Call}
use Rattle.zj_tree.specs.declared.call.Call.TheVariants as calls
use Rattle.zj_inode.specs.declared.outcome.Outcome.TheVariants as outcomes
use Rattle.zj_inode.specs.Answering.{IsAnswered}
use Rattle.zj_inode.specs.Footprint.{the_root}
use Rattle.zj_inode.proofs.Around.{no_write, undone_write}
use Rattle.zj_inode.proofs.Trims.{none_taken}
use Rattle.zj_inode.proofs.performing.perform.Goals as goal

answered : (call : Call) → ((path : List (List ℕ)) (at : ℕ) (bytes : List ℕ) → call ≡ calls.Write path at bytes → ⊥) → IsAnswered call
answered (calls.Write path at bytes) h = absurd (h path at bytes refl)
answered (calls.Mkdir path) h = tt
answered (calls.Create path) h = tt
answered (calls.Read path at count) h = tt
answered (calls.Truncate path size) h = tt
answered (calls.Unlink path) h = tt
answered (calls.Rmdir path) h = tt
answered (calls.Rename from to) h = tt
answered (calls.List path) h = tt
answered (calls.Stat path) h = tt
answered (calls.Fsync path) h = tt

pub answer-answered-requires-clause-known : goal.answer-answered-requires-clause-known
answer-answered-requires-clause-known c = answered c.args.call.now c.in_default-call.not-Write

pub finish-requires : goal.finish-requires
finish-requires c = c.answer-answered.ensures.taken (none_taken c.args.taken.now c.new-built.result c.new-built.ensures)

pub returns-clause-few : goal.returns-clause-few
returns-clause-few c =
    let none : map_of.len c.new-built.result ≡ 0 = ap map_of.len c.new-built.ensures ∙ len-empty nat_cmp (List ℕ) in
    IfOk-weaker c.finish.result _ _ (λ outcome few. omega (arith, few, none, c.answer-answered.ensures.few)) c.finish.ensures.few

pub returns-in-Some-clause-says : goal.returns-in-Some-clause-says
returns-in-Some-clause-says c = let root = c.in-Some.ensures.some in (root.1, λ state tree p. the_root root.0)

pub returns-in-Some-clause-root : goal.returns-in-Some-clause-root
returns-in-Some-clause-root c = λ none. c.in-Some.ensures.some.0

pub returns-in-Some-clause-within : goal.returns-in-Some-clause-within
returns-in-Some-clause-within c = λ b e. subst (λ n. n < c.args.sizes.now.blocks) e c.in-Some.ensures.some.2

pub returns-in-Some-clause-whole : goal.returns-in-Some-clause-whole
returns-in-Some-clause-whole c = undone_write c.args.sizes.now c.args.taken.now c.args.call.now (outcomes.Need c.in-Some.block) tt

pub returns-clause-whole : goal.returns-clause-whole
returns-clause-whole c = IfOk-weaker c.finish.result _ _ (λ outcome few. no_write c.args.sizes.now c.args.taken.now c.args.call.now outcome (answered c.args.call.now c.in_default-call.not-Write)) c.finish.ensures.few
