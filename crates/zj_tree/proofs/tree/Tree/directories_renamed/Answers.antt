use Rattle.std.proofs.Common.{◌≡◌, ◌+◌, ◌-◌, cond, is_some, sym, ap, ◌∙◌, arith}
use Rattle.std.proofs.lemmas.Grind.{common_steps}
use Rattle.zj_tree.specs.Path.{parent, same_path}
use Rattle.zj_tree.specs.Tree.{content_at, entry_count, directory_blocks, used}
use Rattle.zj_tree.specs.Changed.{renamed}
use Rattle.zj_tree.proofs.EntryLemmas.{paths_same}
use Rattle.zj_tree.proofs.RemoveLemmas.{the_content}
use Rattle.zj_tree.proofs.BeginLemmas.{no_both}
use Rattle.zj_tree.proofs.MovedSums.{counted, within_one, between_two}
use Rattle.zj_tree.proofs.tree.Tree.directories_renamed.Goals as goal

pub overflow_sub-gained : goal.overflow_sub-gained
overflow_sub-gained c =
    let tree = c.args.self.now.tree in
    let from = c.args.from.now in
    let to = c.args.to.now in
    let got = the_content (content_at tree from) c.requires.there in
    let there : c.from-there.result ≡ cond (is_some (content_at tree to)) 1 0 = grind (arith, common_steps) in
    let gained : c.entry_count-gained.result ≡ entry_count tree (parent to) = c.entry_count-gained.ensures.value ∙ ap (entry_count tree) c.parent_of-2.ensures in
    omega (arith, there, gained, (counted tree from to c.requires got.0 got.1).1)

pub overflow_sub-left : goal.overflow_sub-left
overflow_sub-left c =
    let tree = c.args.self.now.tree in
    let from = c.args.from.now in
    let to = c.args.to.now in
    let got = the_content (content_at tree from) c.requires.there in
    let left : c.entry_count-left.result ≡ entry_count tree (parent from) = c.entry_count-left.ensures.value ∙ ap (entry_count tree) c.parent_of.ensures in
    omega (arith, left, (counted tree from to c.requires got.0 got.1).0)

pub returns-then-are_beside-clause-sum : goal.returns-then-are_beside-clause-sum
returns-then-are_beside-clause-sum c freed is_freed =
    let tree = c.args.self.now.tree in
    let from = c.args.from.now in
    let to = c.args.to.now in
    let got = the_content (content_at tree from) c.requires.there in
    let there : c.from-there.result ≡ cond (is_some (content_at tree to)) 1 0 = grind (arith, common_steps) in
    let gained : c.entry_count-gained.result ≡ entry_count tree (parent to) = c.entry_count-gained.ensures.value ∙ ap (entry_count tree) c.parent_of-2.ensures in
    let same = (paths_same (parent from) (parent to)).0 (sym c.are_beside.ensures ∙ c.if-are_beside.true) in
    let less : c.directory_blocks.result ≡ directory_blocks (entry_count tree (parent to)) = c.directory_blocks.ensures ∙ ap directory_blocks gained in
    let more : c.directory_blocks-then-are_beside.result ≡ directory_blocks (entry_count tree (parent to) - cond (is_some (content_at tree to)) 1 0) = c.directory_blocks-then-are_beside.ensures ∙ (λ i. directory_blocks (gained i - there i)) in
    (λ i. used (renamed tree from to) + less i + freed) ∙ within_one tree from to c.requires got.0 got.1 freed is_freed same ∙ sym (λ i. used tree + more i)

pub returns-clause-sum : goal.returns-clause-sum
returns-clause-sum c freed is_freed =
    let tree = c.args.self.now.tree in
    let from = c.args.from.now in
    let to = c.args.to.now in
    let got = the_content (content_at tree from) c.requires.there in
    let there : c.from-there.result ≡ cond (is_some (content_at tree to)) 1 0 = grind (arith, common_steps) in
    let gained : c.entry_count-gained.result ≡ entry_count tree (parent to) = c.entry_count-gained.ensures.value ∙ ap (entry_count tree) c.parent_of-2.ensures in
    let left : c.entry_count-left.result ≡ entry_count tree (parent from) = c.entry_count-left.ensures.value ∙ ap (entry_count tree) c.parent_of.ensures in
    let apart = λ (e : parent from ≡ parent to). no_both (same_path (parent from) (parent to)) ((paths_same (parent from) (parent to)).1 e) (sym c.are_beside.ensures ∙ c.if-are_beside.false) in
    let less : c.directory_blocks-2.result + c.directory_blocks-3.result ≡ directory_blocks (entry_count tree (parent from)) + directory_blocks (entry_count tree (parent to)) =
    (λ i. c.directory_blocks-2.ensures i + c.directory_blocks-3.ensures i) ∙ (λ i. directory_blocks (left i) + directory_blocks (gained i)) in
    let more : c.directory_blocks-4.result + c.directory_blocks-5.result ≡ directory_blocks (entry_count tree (parent from) - 1) + directory_blocks (entry_count tree (parent to) + 1 - cond (is_some (content_at tree to)) 1 0) =
    (λ i. c.directory_blocks-4.ensures i + c.directory_blocks-5.ensures i) ∙ (λ i. directory_blocks (left i - 1) + directory_blocks (gained i + 1 - there i)) in
    (λ i. used (renamed tree from to) + less i + freed) ∙ between_two tree from to c.requires got.0 got.1 freed is_freed apart ∙ sym (λ i. used tree + more i)
