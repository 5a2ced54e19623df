-- A history that serves calls is the plain service's run of them, and so is a consistent cut of it.
use Rattle.std.proofs.Common.{◌≡◌, ℕ, zero, suc, ◌+◌, ◌-◌, ◌<◌, Bool, true, false, cond, eqb, eqb-true, List, [], ◌∷◌, ◌++◌, length, map, Option, Some, None, refl, sym, ap, ◌∙◌, subst, arith, get_or}
use Rattle.std.specs.Prelude.{slice_get, find}
use Rattle.std.specs.List.{All}
use Rattle.std.specs.FinMap as map_of
use Rattle.std.specs.Option.{option_map, option_or, unwrap_or}
use Rattle.std.proofs.lemmas.List.{length-append}
use Rattle.std.proofs.lemmas.List.FromFn.{fill_by_all}
use Rattle.std.proofs.lemmas.List.Sums.{fold-append}
use Rattle.std.proofs.lemmas.Option.{get_or_from_slice_get, same_Some, slice_get-get_or}
use Rattle.std.proofs.Math.Seq.{get_or-append_seam}
use Rattle.zj_block.specs.Block.{zero_content}
use Rattle.zj_block.specs.Lists.{content_under}
use Rattle.zj_block.specs.Sizes.{Numbers}
use Rattle.zj_history.specs.Cut.{cut, is_within}
use Rattle.zj_history.specs.Laws.{CutIsHistory, LegalIsHistory}
use Rattle.zj_history.specs.Legal.{FindsAfter, IsFoundAfter, IsHistory}
use Rattle.zj_history.specs.Operation.{FoundBlock, Operation}
use Rattle.zj_history.specs.State.{after, put}
use Rattle.zj_history.specs.Transactions.{Bounds}
use Rattle.zj_history.proofs.Pushes.{by_push, each-front, each-last}
use Rattle.zj_history.proofs.Writes.{after-push, get-put, length-put}
use Rattle.zj_tree.specs.declared.call.Call.{Call}
use Rattle.zj_tree.specs.declared.call.Reply.{Reply}
use Rattle.zj_tree.specs.Apply.{Limits, apply}
use Rattle.zj_tree.specs.Tree.{FileTree}
use Rattle.zj_layout.specs.Image.{State, block_at}
use Rattle.zj_layout.specs.Shows.{Shows, limits_of, put_blocks}
use Rattle.zj_layout.proofs.Live.{at_old}
use Rattle.zj_dirs.specs.Possible.{IsPossible}
use Rattle.zj_inode.specs.Laws.{CutIsRun, HistoryIsRun, PutsAreOne}
use Rattle.zj_inode.specs.Performs.{Performs}
use Rattle.zj_inode.specs.Run.{IsServed, chosen, contents_found, replies_from, tree_after}

-- ---- putting contents in is one by both definitions

pub puts_are_one : PutsAreOne
unfolding put_blocks
puts_are_one state changes =
    fill_by_all (λ b. unwrap_or (map_of.get changes b) (block_at state b)) (put state changes) (length state) zero_content (length-put state changes) (λ k lt. each k lt)
  where
    some : (k : ℕ) (o : Option (List ℕ)) → option_or o (Some (block_at state k)) ≡ Some (unwrap_or o (block_at state k))
    some k None = refl
    some k (Some c) = refl

    each : (k : ℕ) → k < length state → get_or (put state changes) k zero_content ≡ unwrap_or (map_of.get changes k) (block_at state k)
    each k lt = get_or_from_slice_get (put state changes) k (unwrap_or (map_of.get changes k) (block_at state k)) zero_content
        (get-put state changes k lt ∙ ap (option_or (map_of.get changes k)) (slice_get-get_or state k zero_content lt) ∙ some k (map_of.get changes k))

-- ---- the last of a list

pub record EndsWith {A : Type 0} (xs : List A) (n : ℕ) : Type 0 where
  pub front : List A
  pub last : A
  pub is : xs ≡ front ++ last ∷ []
  pub long : length front ≡ n

ends_with : {A : Type 0} (xs : List A) (n : ℕ) → length xs ≡ n + 1 → EndsWith xs n
ends_with [] n e = absurd (omega arith)
ends_with (x ∷ []) n e = record { front = []; last = x; is = refl; long = omega arith }
ends_with {A} (x ∷ y ∷ xs) n e = more (ends_with (y ∷ xs) (n - 1) (omega arith))
  where
    more : EndsWith (y ∷ xs) (n - 1) → EndsWith (x ∷ y ∷ xs) n
    more r = record { front = x ∷ r.front; last = r.last; is = ap (λ (ys : List A). x ∷ ys) r.is; long = omega (arith, r.long) }

at_last : {A : Type 0} (xs : List A) (x : A) → slice_get (xs ++ x ∷ []) (length xs) ≡ Some x
at_last {A} xs x =
    slice_get-get_or (xs ++ x ∷ []) (length xs) x (omega (arith, length-append xs (x ∷ [])))
    ∙ ap (λ (y : A). Some y) (get_or-append_seam xs x [] x)

-- ---- one call more

replies-push : (limits : Limits) (tree : FileTree) (calls : List Call) (call : Call) → replies_from limits tree (calls ++ call ∷ []) ≡ replies_from limits tree calls ++ (apply limits call (tree_after limits tree calls)).0 ∷ []
replies-push limits tree [] call = refl
replies-push limits tree (c ∷ calls) call = ap (λ rest. (apply limits c tree).0 ∷ rest) (replies-push limits (apply limits c tree).1 calls call)

tree-push : (limits : Limits) (tree : FileTree) (calls : List Call) (call : Call) → tree_after limits tree (calls ++ call ∷ []) ≡ (apply limits call (tree_after limits tree calls)).1
tree-push limits tree calls call = fold-append (λ tree call. (apply limits call tree).1) tree calls (call ∷ [])

-- what an operation found is what the state before it has
found_agrees : (start : State) (before : List Operation) (blocks : List FoundBlock) → All (IsFoundAfter start before) blocks
    → (block : ℕ) (content : List ℕ) → content_under (map (λ f. (f.block, f.content)) blocks) block ≡ Some content → slice_get (after start before) block ≡ Some content
found_agrees start before [] all block content h = absurd cc
found_agrees start before (f ∷ blocks) all block content h = by (found_agrees start before blocks (λ k d lt. all (suc k) d (omega arith)) block content) (eqb f.block block) refl h
  where
    by : (content_under (map (λ f. (f.block, f.content)) blocks) block ≡ Some content → slice_get (after start before) block ≡ Some content) → (t : Bool) → eqb f.block block ≡ t
        → option_map (λ (e : ℕ × List ℕ). e.1) (cond t (Some (f.block, f.content)) (find (λ e. eqb e.0 block) (map (λ f. (f.block, f.content)) blocks))) ≡ Some content → slice_get (after start before) block ≡ Some content
    by rest true e h = ap (slice_get (after start before)) (sym (eqb-true f.block block e)) ∙ (all 0 f (omega arith)).content ∙ h
    by rest false e h = rest h

-- ---- the run

-- what the laws say of one history
Holds : Numbers → State → FileTree → List Operation → Type 0
Holds sizes start tree history = (calls : List Call) (replies : List Reply) → IsHistory start history → IsServed sizes history calls replies
    → (replies ≡ replies_from (limits_of sizes) tree calls) × Shows sizes (after start history) (tree_after (limits_of sizes) tree calls)

module _ (sizes : Numbers) (start : State) (tree : FileTree) (shows : Shows sizes start tree) where
  abbrev limits : Limits
  limits = limits_of sizes

  no_list : {A : Type 0} (xs : List A) → length xs ≡ 0 → xs ≡ []
  no_list [] e = refl
  no_list (x ∷ xs) e = absurd (omega arith)

  none : Holds sizes start tree []
  unfolding Holds
  none calls replies whole served =
      let no_calls : calls ≡ [] = no_list calls served.all_called in
      let no_replies : replies ≡ [] = no_list replies served.all_replied in (
        no_replies ∙ sym (ap (replies_from limits tree) no_calls),
        subst (λ cs. Shows sizes start (tree_after limits tree cs)) (sym no_calls) shows,
      )

  module _ (history : List Operation) (o : Operation) (holds : Holds sizes start tree history) (whole : IsHistory start (history ++ o ∷ [])) where
    -- the calls and the replies, each with its last one apart
    module _ (calls : List Call) (call : Call) (replies : List Reply) (reply : Reply) (long : length calls ≡ length history) (same : length replies ≡ length history)
        (served : IsServed sizes (history ++ o ∷ []) (calls ++ call ∷ []) (replies ++ reply ∷ [])) where
      front : IsServed sizes history calls replies
      front = record {
        all_called = long;
        all_replied = same;
        each = λ k p c r at_o at_c at_r. served.each k p c r (at_old history o p k at_o) (at_old calls call c k at_c) (at_old replies reply r k at_r);
      }

      performs : Performs sizes (contents_found o) o.written call reply
      performs = served.each (length history) o call reply (at_last history o)
          (ap (slice_get (calls ++ call ∷ [])) (sym long) ∙ at_last calls call) (ap (slice_get (replies ++ reply ∷ [])) (sym same) ∙ at_last replies reply)

      before : (replies ≡ replies_from limits tree calls) × Shows sizes (after start history) (tree_after limits tree calls)
      unfolding Holds
      before = holds calls replies (record { each = each-front (FindsAfter start) history (o ∷ []) whole.each }) front

      possible : IsPossible sizes (contents_found o) (after start history) (tree_after limits tree calls)
      possible = record { shows = before.1; agrees = found_agrees start history o.found (each-last (FindsAfter start) history o whole.each).found }

      one_more : (replies ++ reply ∷ [] ≡ replies_from limits tree (calls ++ call ∷ [])) × Shows sizes (after start (history ++ o ∷ [])) (tree_after limits tree (calls ++ call ∷ []))
      one_more =
          let done = performs.each (after start history) (tree_after limits tree calls) possible in (
            ap (λ rs. rs ++ reply ∷ []) before.0 ∙ ap (λ r. replies_from limits tree calls ++ r ∷ []) (sym done.replies) ∙ sym (replies-push limits tree calls call),
            subst (λ s. Shows sizes s (tree_after limits tree (calls ++ call ∷ []))) (sym (after-push start history o ∙ puts_are_one (after start history) o.written))
                (subst (Shows sizes (put_blocks (after start history) o.written)) (sym (tree-push limits tree calls call)) done.leaves),
          )

  step : (history : List Operation) (o : Operation) → Holds sizes start tree history → Holds sizes start tree (history ++ o ∷ [])
  unfolding Holds
  step history o holds calls replies whole served =
      let long : length (history ++ o ∷ []) ≡ length history + 1 = length-append history (o ∷ []) in
      let cs = ends_with calls (length history) (served.all_called ∙ long) in
      let rs = ends_with replies (length history) (served.all_replied ∙ long) in
      split cs rs (one_more history o holds whole cs.front cs.last rs.front rs.last cs.long rs.long
      (subst (λ r. IsServed sizes (history ++ o ∷ []) (cs.front ++ cs.last ∷ []) r) rs.is (subst (λ c. IsServed sizes (history ++ o ∷ []) c replies) cs.is served)))
    where
      split : (cs : EndsWith calls (length history)) (rs : EndsWith replies (length history))
          → (rs.front ++ rs.last ∷ [] ≡ replies_from limits tree (cs.front ++ cs.last ∷ [])) × Shows sizes (after start (history ++ o ∷ [])) (tree_after limits tree (cs.front ++ cs.last ∷ []))
          → (replies ≡ replies_from limits tree calls) × Shows sizes (after start (history ++ o ∷ [])) (tree_after limits tree calls)
      split cs rs r = (
        rs.is ∙ r.0 ∙ ap (replies_from limits tree) (sym cs.is),
        subst (λ c. Shows sizes (after start (history ++ o ∷ [])) (tree_after limits tree c)) (sym cs.is) r.1,
      )

  run : (history : List Operation) → Holds sizes start tree history
  run = by_push (Holds sizes start tree) none step

pub history_is_run : LegalIsHistory → HistoryIsRun
unfolding Holds
history_is_run is_history sizes start tree history calls replies shows legal served =
    run sizes start tree shows history calls replies (is_history start history legal) served

-- ---- the calls in a cut

-- a cut serves the calls in it
module _ (sizes : Numbers) where
  none_served : IsServed sizes [] [] []
  none_served = record { all_called = refl; all_replied = refl; each = λ k o call reply at_o at_c at_r. absurd cc }

  module _ (o : Operation) (history : List Operation) (call : Call) (calls : List Call) (reply : Reply) (replies : List Reply) where
    more_served : Performs sizes (contents_found o) o.written call reply → IsServed sizes history calls replies → IsServed sizes (o ∷ history) (call ∷ calls) (reply ∷ replies)
    more_served performs served = record { all_called = ap suc served.all_called; all_replied = ap suc served.all_replied; each = each }
      where
        each : (k : ℕ) (p : Operation) (c : Call) (r : Reply) → slice_get (o ∷ history) k ≡ Some p → slice_get (call ∷ calls) k ≡ Some c → slice_get (reply ∷ replies) k ≡ Some r
            → Performs sizes (contents_found p) p.written c r
        each zero p c r at_o at_c at_r =
            subst (Performs sizes (contents_found p) p.written c) (same_Some reply r at_r)
            (subst (λ d. Performs sizes (contents_found p) p.written d reply) (same_Some call c at_c)
            (subst (λ q. Performs sizes (contents_found q) q.written call reply) (same_Some o p at_o) performs))
        each (suc k) p c r at_o at_c at_r = served.each k p c r at_o at_c at_r

    rest_served : IsServed sizes (o ∷ history) (call ∷ calls) (reply ∷ replies) → IsServed sizes history calls replies
    rest_served served = record {
      all_called = let long = served.all_called in omega (arith, long);
      all_replied = let long = served.all_replied in omega (arith, long);
      each = λ k. served.each (suc k);
    }

  cut_served : (bounds : Bounds) (history : List Operation) (calls : List Call) (replies : List Reply) → IsServed sizes history calls replies
      → IsServed sizes (cut history bounds) (chosen history bounds calls) (chosen history bounds replies)
  cut_served bounds [] calls replies served = none_served
  cut_served bounds (o ∷ history) [] replies served = absurd (let long = served.all_called in omega (arith, long))
  cut_served bounds (o ∷ history) (call ∷ calls) [] served = absurd (let long = served.all_replied in omega (arith, long))
  cut_served bounds (o ∷ history) (call ∷ calls) (reply ∷ replies) served =
      by (is_within bounds o) (cut_served bounds history calls replies (rest_served o history call calls reply replies served))
    where
      by : (kept : Bool) → IsServed sizes (cut history bounds) (chosen history bounds calls) (chosen history bounds replies)
          → IsServed sizes (cond kept (o ∷ cut history bounds) (cut history bounds)) (cond kept (call ∷ chosen history bounds calls) (chosen history bounds calls)) (cond kept (reply ∷ chosen history bounds replies) (chosen history bounds replies))
      by true rest = more_served o (cut history bounds) call (chosen history bounds calls) reply (chosen history bounds replies) (served.each 0 o call reply refl refl refl) rest
      by false rest = rest

pub cut_is_run : CutIsHistory → CutIsRun
unfolding Holds
cut_is_run is_history sizes start tree first history bounds calls replies shows legal numbered consistent served =
    run sizes start tree shows (cut history bounds) (chosen history bounds calls) (chosen history bounds replies)
    (is_history start first history bounds legal numbered consistent) (cut_served sizes bounds history calls replies served)
