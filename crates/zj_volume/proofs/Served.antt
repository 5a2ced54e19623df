-- What performing a call answers, over blocks that were taken as a state has them.
use Rattle.std.proofs.Common.{◌≡◌, ◌<◌, [], length, sym, ap, ◌∙◌, subst, arith}
use Rattle.zj_block.specs.Lists.{Entries}
use Rattle.zj_block.specs.Sizes.{Numbers}
use Rattle.zj_block.specs.declared.numbers.BlockNo.{BlockNo}
use Rattle.zj_tree.specs.declared.call.Call.{Call}
use Rattle.zj_tree.specs.declared.call.Reply.{Reply}
use Rattle.zj_tree.specs.Apply.{apply}
use Rattle.zj_tree.specs.Tree.{FileTree}
use Rattle.zj_layout.specs.Image.{State}
use Rattle.zj_layout.specs.Shows.{Changes, Shows, ShowsSome, limits_of, put_blocks}
use Rattle.zj_dirs.specs.Possible.{IsPossible}
use Rattle.zj_inode.specs.declared.outcome.Outcome.{Outcome}
use Rattle.zj_inode.specs.declared.outcome.Outcome.TheVariants as outcomes
use Rattle.std.specs.FinMap as map_of
use Rattle.zj_dirs.specs.Laws.{NothingIsPut}
use Rattle.zj_inode.specs.Laws.{FootprintIsWithin}
use Rattle.zj_inode.specs.Performs.{OutcomeSays, Performs}
use Rattle.zj_volume.specs.Volume.{Agrees, Serves}

-- nothing was taken yet
pub agrees_none : (found : Entries) (state : State) → found ≡ [] → Agrees found state
agrees_none found state none = subst (λ f. Agrees f state) (sym none) (record { each = λ block content h. absurd cc })

module _ (sizes : Numbers) (state : State) (found : Entries) (call : Call) (agrees : Agrees found state) where
  possible : (tree : FileTree) → Shows sizes state tree → IsPossible sizes found state tree
  possible tree shows = record { shows = shows; agrees = agrees.each }

  pub need_within : FootprintIsWithin → ShowsSome sizes state → (o : Outcome) (block : BlockNo) → o ≡ outcomes.Need block → OutcomeSays sizes found call o → block.0 < length state
  need_within law (tree, shows) o block is says =
      let need : OutcomeSays sizes found call (outcomes.Need block) = subst (OutcomeSays sizes found call) is says in
      let lt = law sizes state tree call block.0 shows (need.1 state tree (possible tree shows)) in
      omega (arith, lt, shows.shape.many)

  pub never_odd : ShowsSome sizes state → (o : Outcome) → o ≡ outcomes.Odd → OutcomeSays sizes found call o → ⊥
  never_odd (tree, shows) o is says =
      let odd : OutcomeSays sizes found call outcomes.Odd = subst (OutcomeSays sizes found call) is says in
      odd state tree (possible tree shows)

  pub done_serves : (o : Outcome) (reply : Reply) (written : Changes) → o ≡ outcomes.Done reply written → OutcomeSays sizes found call o → Serves sizes state call reply written
  done_serves o reply written is says =
      let done : Performs sizes found written call reply = subst (OutcomeSays sizes found call) is says in
      record {
        reply_is = λ tree shows. sym (done.each state tree (possible tree shows)).replies;
        leaves = λ tree shows. (done.each state tree (possible tree shows)).leaves;
        quiet = done.quiet;
      }

pub still_shows : (sizes : Numbers) (state : State) (call : Call) (reply : Reply) (written : Changes) → Serves sizes state call reply written → ShowsSome sizes state → ShowsSome sizes (put_blocks state written)
still_shows sizes state call reply written serves (tree, shows) = ((apply (limits_of sizes) call tree).1, serves.leaves tree shows)

-- where nothing is written all stays
pub stays : NothingIsPut → (sizes : Numbers) (old new : State) (written : Changes) → new ≡ put_blocks old written → written ≡ map_of.empty → new ≡ old
stays law sizes old new written put none = put ∙ ap (put_blocks old) none ∙ law old
