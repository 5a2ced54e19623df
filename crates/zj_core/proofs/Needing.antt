-- What performing a call over the blocks that were taken says of a pass that holds them.
use Rattle.std.proofs.Common.{◌≡◌, ◌≢◌, ◌⊎◌, inl, inr, ⊎_elim, ℕ, ◌==◌, Bool, true, false, true≢false, cond, eqb, eq-eqb, ne_eqb, is_some, List, [], ◌∷◌, map, take, Option, Some, None, IsSome, refl, sym, ap, ◌∙◌, subst}
use Rattle.std.specs.Option.{option_map}
use Rattle.std.specs.Prelude.{find}
use Rattle.std.specs.Ordering.{nat_cmp, eq_by_cmp}
use Rattle.std.specs.FinMap as finmap
use mathlib.Core.Logic.{dite}
use native.Mathlib.Decide.{ℕ_discrete}
use Rattle.zj_block.specs.Lists.{Entries, content_under}
use Rattle.zj_block.specs.Sizes.{Numbers}
use Rattle.zj_block.specs.declared.numbers.BlockNo.{BlockNo}
use Rattle.zj_tree.specs.declared.call.Call.{Call}
use Rattle.zj_tree.specs.declared.call.Reply.{Reply}
use Rattle.zj_tree.specs.Tree.{FileTree}
use Rattle.zj_layout.specs.Image.{Image, State}
use Rattle.zj_layout.specs.Shows.{Changes}
use Rattle.zj_dirs.specs.Possible.{Always, IsPossible}
use Rattle.zj_inode.specs.declared.outcome.Outcome.{Outcome}
use Rattle.zj_inode.specs.declared.outcome.Outcome.TheVariants as outcomes
use Rattle.zj_inode.specs.Footprint.{Foot}
use Rattle.zj_inode.specs.Performs.{IsRootFirst, NeedsWithin, OutcomeSays, Performs}
use Rattle.zj_turns.specs.Views.{Hold, Known}
use Rattle.zj_turns.specs.Passes.{CacheParameters, PassState, holds, mine, now_knowing}
use Rattle.zj_turns.proofs.Maps.{get_else, tied, untied}
use Rattle.zj_turns.proofs.Seats.{known_of}
use Rattle.zj_core.specs.declared.fault.TakeFault.{TakeFault}
use Rattle.zj_core.specs.declared.fault.TakeFault.TheVariants as faults
use Rattle.zj_core.specs.Core.{IsTakeCause, NeedsNoMore}
use Rattle.zj_core.specs.Handle.{HasTaken, IsBegun, IsDue, IsPartOfSome, IsPerformed, NeedsNext, TakesFor, content_held, entries_held, root_block}
use Rattle.zj_core.specs.Steps.{HoldsMore, IsFree, IsMissed, Knows, TakesMore}
use Rattle.zj_core.proofs.Knowing.{knowing_again, knowing_same}
use Rattle.zj_core.proofs.Taking.{not_held}

-- ---- the blocks that are held, as entries

same_test : (a b : ℕ) → eqb a b ≡ eq_by_cmp nat_cmp b a
same_test a b = dite (ℕ_discrete a b) (λ same. eq-eqb a b same ∙ sym (tied b a (sym same))) (λ apart. ne_eqb a b apart ∙ sym (untied b a (λ same. apart (sym same))))

held_find : (es : List (ℕ × Hold)) (b : ℕ) → content_under (map (λ e. (e.0, take 64 e.1.loaded)) es) b ≡ option_map (λ (h : Hold). take 64 h.loaded) (finmap.find nat_cmp b es)
held_find [] b = refl
held_find (e ∷ es) b = ap (λ t. option_map (λ (x : ℕ × List ℕ). x.1) (cond t (Some (e.0, take 64 e.1.loaded)) (find (λ (x : ℕ × List ℕ). x.0 == b) (map (λ (x : ℕ × Hold). (x.0, take 64 x.1.loaded)) es)))) (same_test e.0 b) ∙ by (eq_by_cmp nat_cmp b e.0) (held_find es b)
  where
    by : (t : Bool) → content_under (map (λ e. (e.0, take 64 e.1.loaded)) es) b ≡ option_map (λ (h : Hold). take 64 h.loaded) (finmap.find nat_cmp b es)
        → option_map (λ (x : ℕ × List ℕ). x.1) (cond t (Some (e.0, take 64 e.1.loaded)) (find (λ (x : ℕ × List ℕ). x.0 == b) (map (λ (x : ℕ × Hold). (x.0, take 64 x.1.loaded)) es))) ≡ option_map (λ (h : Hold). take 64 h.loaded) (cond t (Some e.1) (finmap.find nat_cmp b es))
    by true rest = refl
    by false rest = rest

pub held_under : (k : Known) (b : ℕ) → content_under (entries_held k) b ≡ content_held k b
held_under k b = held_find (finmap.entries k.held) b ∙ ap (option_map (λ (h : Hold). take 64 h.loaded)) (sym (finmap.get-entries k.held b))

-- ---- lists that have the same contents

module _ (sizes : Numbers) (found other : Entries) (same : (b : ℕ) → content_under other b ≡ content_under found b) where
  possible_same : (state : State) (tree : FileTree) → IsPossible sizes other state tree → IsPossible sizes found state tree
  possible_same state tree p = record { shows = p.shows; agrees = λ b c e. p.agrees b c (same b ∙ e) }

  pub part_same : IsPartOfSome sizes other → IsPartOfSome sizes found
  part_same some = record { state = some.state; tree = some.tree; possible = possible_same some.state some.tree some.possible }

  pub always_same : (P : Image → Type 0) → Always sizes found P → Always sizes other P
  always_same P always state tree p = always state tree (possible_same state tree p)

  pub performs_same : (written : Changes) (call : Call) (reply : Reply) → Performs sizes found written call reply → Performs sizes other written call reply
  performs_same written call reply done = record {
    taken = λ b some. subst IsSome (sym (same b)) (done.taken b some);
    each = λ state tree p. let one = done.each state tree (possible_same state tree p) in record {
      replies = one.replies;
      leaves = one.leaves;
      changed = λ b content e. ⊎_elim (λ differs. inl (λ is. differs (sym (same b) ∙ is))) (λ rest. inr rest) (one.changed b content e);
    };
    quiet = done.quiet;
  }

-- ---- outcomes

module _ (sizes : Numbers) (p : PassState) (found : Entries) (call : Call) {follows : List ℕ} (has : HasTaken sizes p found follows) where
  same_held : (b : ℕ) → content_under (entries_held (mine p)) b ≡ content_under found b
  same_held b = held_under (mine p) b ∙ sym (has.same b)

  -- what isn't held was not taken
  pub not_taken : (b : ℕ) → holds p b ≡ false → content_under found b ≡ None
  not_taken b free = has.same b ∙ by (finmap.get (mine p).held b) free
    where
      by : (o : Option Hold) → is_some o ≡ false → option_map (λ (h : Hold). take 64 h.loaded) o ≡ None
      by None e = refl
      by (Some h) e = absurd (true≢false e)

  pub free_of : (b : ℕ) → content_under found b ≡ None → holds p b ≡ false
  free_of b none = ap is_some (not_held sizes p found has b none)

  pub needs_next : (block : ℕ) → IsDue sizes found call block → NeedsNext sizes p call block
  needs_next block due = record {
    fresh = same_held block ∙ due.fresh;
    foot = always_same sizes found (entries_held (mine p)) same_held (λ image. Foot sizes image call block) due.foot;
    first = λ none. due.first (sym (same_held (root_block sizes)) ∙ none);
    within = due.within;
  }

  pub needs_no_more : IsPerformed sizes found call → NeedsNoMore sizes p call
  needs_no_more done = record {
    root = subst IsSome (sym (same_held (root_block sizes))) done.root;
    reply = done.reply;
    written = done.written;
    performs = performs_same sizes found (entries_held (mine p)) same_held done.written call done.reply done.performs;
  }

-- a block that is due and wasn't taken
pub missed_next : (cache : CacheParameters) (sizes : Numbers) (p : PassState) (found : Entries) (call : Call) {follows : List ℕ} → HasTaken sizes p found follows → (block : ℕ) → IsDue sizes found call block → (fault : TakeFault) → IsMissed cache p block fault → IsTakeCause cache sizes p call fault
missed_next cache sizes p found call has block due (faults.Busy number holder) missed = (
  needs_next sizes p found call has number (subst (IsDue sizes found call) (sym missed.0) due),
  (refl, missed.1, missed.2, subst (λ b. (k : Known) → finmap.get p.view.known holder ≡ Some k → finmap.contains_key k.held b ≡ true) (sym missed.0) missed.3),
)
missed_next cache sizes p found call has block due faults.NoMemory missed = tt

module _ (sizes : Numbers) (found : Entries) (call : Call) where
  pub is_due : (o : Outcome) (block : BlockNo) → o ≡ outcomes.Need block → OutcomeSays sizes found call o → IsRootFirst sizes found o → NeedsWithin sizes o → IsDue sizes found call block.0
  is_due o block is says first within = record {
    fresh = (subst (OutcomeSays sizes found call) is says).0;
    foot = (subst (OutcomeSays sizes found call) is says).1;
    first = subst (IsRootFirst sizes found) is first;
    within = subst (NeedsWithin sizes) is within block.0 refl;
  }

  pub is_performed : (o : Outcome) (reply : Reply) (written : Changes) → o ≡ outcomes.Done reply written → OutcomeSays sizes found call o → Performs sizes found written call reply
  is_performed o reply written is says = subst (OutcomeSays sizes found call) is says

  pub done_root : (o : Outcome) (reply : Reply) (written : Changes) → o ≡ outcomes.Done reply written → IsRootFirst sizes found o → content_under found (root_block sizes) ≢ None
  done_root o reply written is first none = subst (IsRootFirst sizes found) is first none

  pub root_some : content_under found (root_block sizes) ≢ None → IsSome (content_under found (root_block sizes))
  root_some there = by (content_under found (root_block sizes)) refl
    where
      by : (x : Option (List ℕ)) → content_under found (root_block sizes) ≡ x → IsSome x
      by None e = absurd (there e)
      by (Some c) e = refl

  pub root_taken : (o : Outcome) (reply : Reply) (written : Changes) → o ≡ outcomes.Done reply written → IsRootFirst sizes found o → IsSome (content_under found (root_block sizes))
  root_taken o reply written is first = root_some (done_root o reply written is first)

  pub never_odd : IsBegun sizes found → (o : Outcome) → o ≡ outcomes.Odd → OutcomeSays sizes found call o → IsRootFirst sizes found o → ⊥
  never_odd begun o is says first = ⊎_elim
      (λ none. subst (IsRootFirst sizes found) is first (ap (λ f. content_under f (root_block sizes)) none))
      (λ (some : IsSome (content_under found (root_block sizes)) × IsPartOfSome sizes found). part some.1)
      begun
    where
      part : IsPartOfSome sizes found → ⊥
      part some = subst (OutcomeSays sizes found call) is says some.state some.tree some.possible

-- ---- more and more is taken

-- a block is held with the content that it was held with before
pub held_more : (k l : Known) → HoldsMore k l → (b : ℕ) (c : List ℕ) → content_held k b ≡ Some c → content_held l b ≡ Some c
held_more k l more b c = by (finmap.get k.held b) refl
  where
    by : (o : Option Hold) → finmap.get k.held b ≡ o → option_map (λ (h : Hold). take 64 h.loaded) o ≡ Some c → content_held l b ≡ Some c
    by None is e = absurd cc
    by (Some h) is e = ap (option_map (λ (h : Hold). take 64 h.loaded)) (more.kept b h is) ∙ e

-- what is always so of states that have some blocks is so of those that have more
pub always_more : (sizes : Numbers) (p q : PassState) (found : Entries) → ((b : ℕ) → content_under found b ≡ content_held (mine p) b) → HoldsMore (mine p) (mine q) → (P : Image → Type 0) → Always sizes found P → Always sizes (entries_held (mine q)) P
always_more sizes p q found same more P always state tree possible = always state tree (record { shows = possible.shows; agrees = λ b c e. possible.agrees b c (held_under (mine q) b ∙ held_more (mine p) (mine q) more b c (sym (same b) ∙ e)) })

module _ (cache : CacheParameters) (sizes : Numbers) (p q r : PassState) (call : Call) (then : TakesMore cache q r) where
  -- blocks taken before and one block more
  pub for_call : (found : Entries) (block : ℕ) {follows : List ℕ} → HasTaken sizes q found follows → IsDue sizes found call block → ((b : ℕ) → holds r b ≡ true → (b ≡ block) ⊎ (holds q b ≡ true)) → TakesFor sizes p q call → TakesFor sizes p r call
  for_call found block has due only before b here was = ⊎_elim
      (λ same. subst (λ c. Always sizes (entries_held (mine r)) (λ image. Foot sizes image call c)) (sym same) (always_more sizes q r found has.same then.more (λ image. Foot sizes image call block) due.foot))
      (λ there. always_more sizes q r (entries_held (mine q)) (held_under (mine q)) then.more (λ image. Foot sizes image call b) (before b there was))
      (only b here)

pub takes_none : (cache : CacheParameters) (sizes : Numbers) (p : PassState) (found : Entries) {follows : List ℕ} → HasTaken sizes p found follows → TakesMore cache p p
takes_none cache sizes p found has = record {
  more = record { operations = refl; drawn = refl; ticket = refl; number = refl; kept = λ b h e. e };
  only = sym (knowing_same p has.known);
  free = λ b here before. absurd (true≢false (sym here ∙ before));
  knows = inl refl;
}

module _ (cache : CacheParameters) (p q r : PassState) (first : TakesMore cache p q) (then : TakesMore cache q r) where
  others : (b c : ℕ) (k : Known) → IsFree q b → finmap.get p.view.known c ≡ Some k → c ≢ p.core → finmap.contains_key k.held b ≡ false
  others b c k free e apart = free c k (ap (λ (x : PassState). finmap.get x.view.known c) first.only ∙ get_else p.view.known p.core c (mine q) apart ∙ e)

  own : (b c : ℕ) (k : Known) → holds p b ≡ false → finmap.get p.view.known c ≡ Some k → c ≡ p.core → finmap.contains_key k.held b ≡ false
  own b c k before e same = subst (λ (x : Known). finmap.contains_key x.held b ≡ false) (known_of p.view p.core k (ap (finmap.get p.view.known) (sym same) ∙ e)) before

  free_before : (b : ℕ) → holds r b ≡ true → holds p b ≡ false → (t : Bool) → holds q b ≡ t → IsFree p b
  free_before b here before true there = first.free b there before
  free_before b here before false gone = λ c k e. dite (ℕ_discrete c p.core) (own b c k before e) (others b c k (then.free b here gone) e)

  pub takes_then : TakesMore cache p r
  takes_then = record {
    more = record {
      operations = then.more.operations ∙ first.more.operations;
      drawn = then.more.drawn ∙ first.more.drawn;
      ticket = then.more.ticket ∙ first.more.ticket;
      number = then.more.number ∙ first.more.number;
      kept = λ b h e. then.more.kept b h (first.more.kept b h e);
    };
    only = then.only ∙ ap (λ (x : PassState). now_knowing x (mine r)) first.only ∙ knowing_again p (mine q) (mine r);
    free = λ b here before. free_before b here before (holds q b) refl;
    knows = ⊎_elim (λ same. ⊎_elim (λ as_first. inl (same ∙ as_first)) (λ knows. inr (subst (Knows cache) (sym same) knows)) first.knows) (λ knows. inr knows) then.knows;
  }
