-- New contents with those of a range, and what they perform.
use Rattle.std.proofs.Common.{◌≡◌, ◌≢◌, ◌⊎◌, inl, inr, ℕ, ◌+◌, ◌*◌, ◌/◌, ◌<◌, ◌≤◌, max, cond, List, [], ◌∷◌, length, Option, Some, None, IsSome, refl, sym, ap, ◌∙◌, subst, arith, slice_index}
use Rattle.std.specs.FinMap as map_of
use Rattle.std.specs.FinMap.{get-empty, get-insert}
use Rattle.std.specs.Cmp.{nat_cmp_total}
use Rattle.std.specs.Ordering.{eq_by_cmp, nat_cmp}
use Rattle.std.specs.Option.{option_and_then, option_or, unwrap_or}
use native.Mathlib.Decide.{ℕ_discrete, dec_lt}
use Rattle.zj_block.specs.Lists.{Entries, content_under}
use Rattle.zj_block.specs.Sizes.{Numbers}
use Rattle.zj_tree.specs.Apply.{apply}
use Rattle.zj_tree.specs.Tree.{FileTree}
use Rattle.zj_tree.specs.declared.call.Call.{Call}
use Rattle.zj_tree.specs.declared.call.Call.TheVariants as calls
use Rattle.zj_tree.specs.declared.call.Call.TheVariants.{Write}
use Rattle.zj_tree.specs.declared.call.Reply.TheVariants.{Done}
use Rattle.zj_layout.specs.declared.fields.Kind.TheVariants.{File}
use Rattle.zj_layout.specs.declared.fields.Node.{Node}
use Rattle.zj_layout.specs.Graph.{Graph, follow, links_of, named, step}
use Rattle.zj_layout.specs.Node.{byte_in, per_block}
use Rattle.zj_layout.specs.Image.{State, Image, image_of, block_at, graph_of, free_node, node_of, count_of, number_of, item_block}
use Rattle.zj_layout.specs.Shows.{Shows, Changes, put_blocks, limits_of}
use Rattle.zj_layout.proofs.Changed.{map_agree}
use Rattle.zj_layout.proofs.Follow.{none_some, some_is}
use Rattle.zj_changes.proofs.Freed.{file_holds}
use Rattle.zj_changes.proofs.LawLemmas.{resized_keeps_others}
use Rattle.zj_changes.proofs.Resized.{named_used}
use Rattle.zj_changes.proofs.WriteReplies.{write_done}
use Rattle.zj_dirs.specs.Possible.{AllTaken, IsPossible, overlaid}
use Rattle.zj_dirs.specs.Trimming.{Counts, IsTrimmed, MakeTheSame}
use Rattle.zj_dirs.proofs.Put.{block_put, same_key, other_key}
use Rattle.zj_dirs.proofs.Seen.{seen_block, some_differs}
use Rattle.zj_dirs.proofs.Walks.{possible_stored}
use Rattle.zj_tree.specs.declared.call.Reply.TheVariants as replies
use Rattle.zj_inode.specs.declared.outcome.Outcome.{Outcome}
use Rattle.zj_inode.specs.declared.outcome.Outcome.TheVariants as outcomes
use Rattle.zj_inode.specs.Answering.{IsAnswered}
use Rattle.zj_inode.specs.Files.{IsAmong, IsUndone, Overwrites, OverwritesIn, PutsSeen, TrimsAround, blocks_up_to}
use Rattle.zj_inode.specs.Performs.{IsRefused, IsWhole, IsWholeWrite, IsWritten, IsWrittenOver, Looks, Performs}
use Rattle.zj_inode.proofs.Fewer.{fewer_trimmed}
use Rattle.zj_inode.proofs.Trims.{found_free}
use Rattle.zj_inode.proofs.Writes.{reached, up_to_some}

some_not : {A : Type 0} (o : Option A) → o ≢ None → IsSome o
some_not None ne = absurd (ne refl)
some_not (Some x) ne = refl

-- nothing is taken without need
pub none_written : (found : Entries) (w : Changes) → w ≡ map_of.empty → AllTaken found w
none_written found w e b some = absurd (some_differs some (ap (λ x. map_of.get x b) e ∙ get-empty nat_cmp b))

-- a content that is put over what was built or found
pub puts_seen : (found : Entries) (built before after : Changes) (block : ℕ) (content : List ℕ) → after ≡ map_of.insert before block content → overlaid found built block ≡ Some content → PutsSeen found built before after block
puts_seen found built before after block content is seen = record {
  others = λ other ne. at other ∙ ap (λ x. cond x (Some content) (map_of.get before other)) (other_key other block ne);
  here = λ c e. here ∙ sym seen ∙ e;
  only = λ e. absurd (none_some (sym e ∙ seen));
}
  where
    at : (k : ℕ) → map_of.get after k ≡ cond (eq_by_cmp nat_cmp k block) (Some content) (map_of.get before k)
    at k = ap (λ w. map_of.get w k) is ∙ get-insert nat_cmp_total before block content k

    here : map_of.get after block ≡ Some content
    here = at block ∙ ap (λ x. cond x (Some content) (map_of.get before block)) (same_key block block refl)

pub puts_unseen : (found : Entries) (built written : Changes) (block : ℕ) → overlaid found built block ≡ None → PutsSeen found built written written block
puts_unseen found built written block none = record {
  others = λ other ne. refl;
  here = λ c e. absurd (none_some (sym none ∙ e));
  only = λ e. refl;
}

-- the contents of some blocks, one after another
pub record AddsBlocks (found : Entries) (built : Changes) (blocks : List ℕ) (low high : ℕ) (after : Changes) : Type 0 where
  pub same : (sizes : Numbers) (state : State) (tree : FileTree) → IsPossible sizes found state tree → (b : ℕ) → b < length state → unwrap_or (map_of.get after b) (block_at state b) ≡ unwrap_or (map_of.get built b) (block_at state b)
  pub only : (block : ℕ) (content : List ℕ) → map_of.get after block ≡ Some content → Counts found block content ⊎ IsAmong blocks low high block
  pub taken : AllTaken found built → AllTaken found after
  pub range : (k : ℕ) → low ≤ k → k < high → overlaid found built (slice_index blocks k) ≢ None → IsSome (map_of.get after (slice_index blocks k))
  pub few : map_of.len after ≤ map_of.len built + high

pub adds_none : (found : Entries) (built after : Changes) (blocks : List ℕ) (low : ℕ) → IsTrimmed found built after → MakeTheSame found built after → AddsBlocks found built blocks low low after
adds_none found built after blocks low t same = record {
  same = λ sizes state tree p b lt. sym (block_put state after b lt) ∙ ap (λ s. block_at s b) (same sizes state tree p) ∙ block_put state built b lt;
  only = λ b c h. inl (t.only b c h).1;
  taken = λ all b some. by all b some (map_of.get after b) refl;
  range = λ k le lt. absurd (omega (arith, le, lt));
  few = omega (arith, fewer_trimmed found built after t);
}
  where
    by : AllTaken found built → (b : ℕ) → IsSome (map_of.get after b) → (o : Option (List ℕ)) → map_of.get after b ≡ o → IsSome (content_under found b)
    by all b some None e = absurd (some_differs some e)
    by all b some (Some c) e = all b (subst IsSome (sym (t.only b c e).0) refl)

module _ (found : Entries) (built before after : Changes) (blocks : List ℕ) (low j : ℕ) (a : AddsBlocks found built blocks low j before) (p : PutsSeen found built before after (slice_index blocks j)) (le : low ≤ j) (more : map_of.len after ≤ map_of.len before + 1) where
  abbrev turn : ℕ
  turn = slice_index blocks j

  among_more : (b : ℕ) → IsAmong blocks low j b → IsAmong blocks low (j + 1) b
  among_more b (k, from, lt, e) = (k, from, omega (arith, lt), e)

  only_more : (b : ℕ) (c : List ℕ) → Counts found b c ⊎ IsAmong blocks low j b → Counts found b c ⊎ IsAmong blocks low (j + 1) b
  only_more b c (inl h) = inl h
  only_more b c (inr h) = inr (among_more b h)

  pub adds_more : AddsBlocks found built blocks low (j + 1) after
  adds_more = record {
    same = λ sizes state tree q b lt. same sizes state tree q b lt (ℕ_discrete b turn);
    only = λ b c h. only b c h (ℕ_discrete b turn);
    taken = λ all b some. taken all b some (ℕ_discrete b turn);
    range = λ k from lt seen. range k from lt seen (ℕ_discrete (slice_index blocks k) turn);
    few = omega (arith, more, a.few);
  }
    where
      -- what was built is what is seen
      built_seen : (sizes : Numbers) (state : State) (tree : FileTree) → IsPossible sizes found state tree → (c : List ℕ) → overlaid found built turn ≡ Some c → (o : Option (List ℕ)) → map_of.get built turn ≡ o → unwrap_or (map_of.get built turn) (block_at state turn) ≡ c
      built_seen sizes state tree q c seen (Some d) e = ap (λ o. unwrap_or o (block_at state turn)) e ∙ some_is (ap (λ o. option_or o (content_under found turn)) (sym e) ∙ seen)
      built_seen sizes state tree q c seen None e = ap (λ o. unwrap_or o (block_at state turn)) e ∙ seen_block sizes found state tree q turn c (ap (λ o. option_or o (content_under found turn)) (sym e) ∙ seen)

      here : (sizes : Numbers) (state : State) (tree : FileTree) → IsPossible sizes found state tree → turn < length state → (o : Option (List ℕ)) → overlaid found built turn ≡ o → unwrap_or (map_of.get after turn) (block_at state turn) ≡ unwrap_or (map_of.get built turn) (block_at state turn)
      here sizes state tree q lt None e = ap (λ o. unwrap_or o (block_at state turn)) (p.only e) ∙ a.same sizes state tree q turn lt
      here sizes state tree q lt (Some c) e = ap (λ o. unwrap_or o (block_at state turn)) (p.here c e) ∙ sym (built_seen sizes state tree q c e (map_of.get built turn) refl)

      same : (sizes : Numbers) (state : State) (tree : FileTree) → IsPossible sizes found state tree → (b : ℕ) → b < length state → Dec (b ≡ turn) → unwrap_or (map_of.get after b) (block_at state b) ≡ unwrap_or (map_of.get built b) (block_at state b)
      same sizes state tree q b lt (yes e) =
          subst (λ x. unwrap_or (map_of.get after x) (block_at state x) ≡ unwrap_or (map_of.get built x) (block_at state x)) (sym e)
          (here sizes state tree q (subst (λ x. x < length state) e lt) (overlaid found built turn) refl)
      same sizes state tree q b lt (no ne) = ap (λ o. unwrap_or o (block_at state b)) (p.others b ne) ∙ a.same sizes state tree q b lt

      only : (b : ℕ) (c : List ℕ) → map_of.get after b ≡ Some c → Dec (b ≡ turn) → Counts found b c ⊎ IsAmong blocks low (j + 1) b
      only b c h (yes e) = inr (j, le, omega arith, sym e)
      only b c h (no ne) = only_more b c (a.only b c (sym (p.others b ne) ∙ h))

      found_one : AllTaken found built → (c : List ℕ) → overlaid found built turn ≡ Some c → (o : Option (List ℕ)) → map_of.get built turn ≡ o → IsSome (content_under found turn)
      found_one all c seen None e = subst IsSome (sym (ap (λ o. option_or o (content_under found turn)) (sym e) ∙ seen)) refl
      found_one all c seen (Some d) e = all turn (subst IsSome (sym e) refl)

      taken_here : AllTaken found built → IsSome (map_of.get after turn) → (o : Option (List ℕ)) → overlaid found built turn ≡ o → IsSome (content_under found turn)
      taken_here all some None e = a.taken all turn (subst IsSome (p.only e) some)
      taken_here all some (Some c) e = found_one all c e (map_of.get built turn) refl

      taken : AllTaken found built → (b : ℕ) → IsSome (map_of.get after b) → Dec (b ≡ turn) → IsSome (content_under found b)
      taken all b some (yes e) = subst (λ x. IsSome (content_under found x)) (sym e) (taken_here all (subst (λ x. IsSome (map_of.get after x)) e some) (overlaid found built turn) refl)
      taken all b some (no ne) = a.taken all b (subst IsSome (p.others b ne) some)

      seen_here : overlaid found built turn ≢ None → (o : Option (List ℕ)) → overlaid found built turn ≡ o → IsSome (map_of.get after turn)
      seen_here ne None e = absurd (ne e)
      seen_here ne (Some c) e = subst IsSome (sym (p.here c e)) refl

      range : (k : ℕ) → low ≤ k → k < j + 1 → overlaid found built (slice_index blocks k) ≢ None → Dec (slice_index blocks k ≡ turn) → IsSome (map_of.get after (slice_index blocks k))
      range k from lt seen (yes e) = subst (λ x. IsSome (map_of.get after x)) (sym e) (seen_here (λ z. seen (ap (overlaid found built) e ∙ z)) (overlaid found built turn) refl)
      range k from lt seen (no ne) = subst IsSome (sym (p.others (slice_index blocks k) ne)) (a.range k from (earlier k lt ne (ℕ_discrete k j)) seen)
        where
          earlier : (k : ℕ) → k < j + 1 → slice_index blocks k ≢ turn → Dec (k ≡ j) → k < j
          earlier k lt ne (yes e) = absurd (ne (ap (slice_index blocks) e))
          earlier k lt ne (no other) = omega (arith, lt, other)

pub adds_all : (found : Entries) (built after : Changes) (blocks : List ℕ) (low high : ℕ) → AddsBlocks found built blocks low high after → TrimsAround found built blocks low high after
unfolding put_blocks
adds_all found built after blocks low high a = record {
  same = λ sizes state tree p. map_agree (λ b. unwrap_or (map_of.get after b) (block_at state b)) (λ b. unwrap_or (map_of.get built b) (block_at state b)) 0 (length state) (λ b le lt. a.same sizes state tree p b (omega (arith, lt)));
  only = a.only;
  taken = a.taken;
  range = a.range;
}

-- ---- what they perform

follow_same : (g h : Graph) → ((dir : ℕ) (name : List ℕ) → step h dir name ≡ step g dir name) → (path : List (List ℕ)) (dir : ℕ) → follow h dir path ≡ follow g dir path
follow_same g h same [] dir = refl
follow_same g h same (name ∷ path) dir = λ i. option_and_then (λ next. follow_same g h same path next i) (same dir name i)

module _ (sizes : Numbers) (found : Entries) (path : List (List ℕ)) (at : ℕ) (bytes : List ℕ) (built : Changes) (blocks : List ℕ) (o : Overwrites sizes found built path at bytes blocks) (after : Changes)
    (t : TrimsAround found built blocks (at / 512) (blocks_up_to at (length bytes)) after) where
  module _ (state : State) (tree : FileTree) (p : IsPossible sizes found state tree) where
    abbrev old : Image
    old = image_of sizes state

    abbrev new : Image
    new = image_of sizes (put_blocks state built)

    one : OverwritesIn sizes state (put_blocks state built) path at bytes blocks
    one = o.each state tree p

    new_node : node_of new one.file ≡ record { kind = File; size = max (node_of old one.file).size (at + length bytes); blocks = blocks }
    new_node = ap (λ n. unwrap_or n free_node) one.writes.resizes.here

    new_kind : (node_of new one.file).kind ≡ File
    new_kind = ap (λ (n : Node). n.kind) new_node

    same_step : (dir : ℕ) (name : List ℕ) → Dec (dir ≡ one.file) → step (graph_of new) dir name ≡ step (graph_of old) dir name
    same_step dir name (no ne) = ap (λ h. named name (links_of h)) ((resized_keeps_others sizes old new one.file _ (possible_stored sizes state tree p.shows) one.writes.resizes).1 dir ne)
    same_step dir name (yes e) =
        ap (λ d. named name (links_of (graph_of new d))) e ∙ ap (λ h. named name (links_of h)) (file_holds new one.file new_kind)
        ∙ sym (ap (λ h. named name (links_of h)) (file_holds old one.file one.writes.was_file)) ∙ ap (λ d. named name (links_of (graph_of old d))) (sym e)

    new_leads : follow (graph_of new) 0 path ≡ Some one.file
    new_leads = follow_same (graph_of old) (graph_of new) (λ dir name. same_step dir name (ℕ_discrete dir one.file)) path 0 ∙ one.leads

    new_block : (k : ℕ) → item_block new one.file k ≡ slice_index blocks (k / 512)
    new_block k = ap (λ t. number_of new one.file (k / per_block t)) new_kind ∙ ap (λ (n : Node). slice_index n.blocks (k / 512)) new_node

    same_new : image_of sizes (put_blocks state after) ≡ new
    same_new = ap (image_of sizes) (t.same sizes state tree p)

    written_over : (block : ℕ) → IsAmong blocks (at / 512) (blocks_up_to at (length bytes)) block → IsWrittenOver new (Write path at bytes) block
    written_over block (j, le, lt, e) =
        let some = up_to_some at (length bytes) j le lt in
        let k : ℕ = max at (512 * j) in
        let place : k / 512 ≡ j = omega (arith, le) in
        (one.file, k, new_leads, omega arith, omega (arith, some.0, some.1), new_block k ∙ ap (slice_index blocks) place ∙ e)

    counted : (block : ℕ) (content : List ℕ) → Counts found block content ⊎ IsAmong blocks (at / 512) (blocks_up_to at (length bytes)) block
        → (content_under found block ≢ Some content) ⊎ (old.map block ≡ 0) ⊎ IsWrittenOver (image_of sizes (put_blocks state after)) (Write path at bytes) block
    counted block content (inl (inl differs)) = inl differs
    counted block content (inl (inr free)) = inr (inl (found_free sizes found state tree p block free))
    counted block content (inr among) = inr (inr (subst (λ i. IsWrittenOver i (Write path at bytes) block) (sym same_new) (written_over block among)))

    -- the block with a byte of the range
    pub whole_in : (file k : ℕ) → follow (graph_of old) 0 path ≡ Some file → at ≤ k → k < at + length bytes → IsWritten old (image_of sizes (put_blocks state after)) after file (at + length bytes) k
    whole_in file k leads le lt =
        let same : file ≡ one.file = some_is (sym leads ∙ one.leads) in
        subst (λ i. IsWritten old i after file (at + length bytes) k) (sym same_new) (subst (λ f. IsWritten old new after f (at + length bytes) k) (sym same) (record {
          whole = subst (λ b. IsSome (map_of.get after b)) (sym (new_block k)) (t.range (k / 512) (omega (arith, le)) up (o.seen (k / 512) (omega (arith, le)) up));
          zeros = λ free i less behind. ap (λ b. byte_in (new.content b) i) (new_block k) ∙ one.zeros (k / 512) i (past free (dec_lt (k / 512) (count_of old one.file))) up less behind;
        }))
      where
        up : k / 512 < blocks_up_to at (length bytes)
        up = reached at (length bytes) k le lt

        not_zero : ◌≡◌ {A = ℕ} 1 0 → ⊥
        not_zero e = omega arith

        past : old.map (item_block new one.file k) ≡ 0 → Dec (k / 512 < count_of old one.file) → count_of old one.file ≤ k / 512
        past free (no h) = omega arith
        past free (yes h) = absurd (not_zero (
            sym (named_used sizes old (possible_stored sizes state tree p.shows) one.file (k / 512) one.writes.resizes.within h)
            ∙ ap old.map (sym (one.writes.resizes.kept (k / 512) (omega (arith, h)) h)) ∙ ap old.map (sym (new_block k)) ∙ free))

  pub write_performs : AllTaken found built → Performs sizes found after (Write path at bytes) Done
  write_performs all = record {
    taken = t.taken all;
    each = λ state tree p.
        let w = o.each state tree p in
        let a = write_done sizes state tree p.shows path at bytes w.file blocks (put_blocks state built) w.leads w.shape w.writes in
        record {
          replies = a.replies;
          leaves = subst (λ s. Shows sizes s (apply (limits_of sizes) (Write path at bytes) tree).1) (sym (t.same sizes state tree p)) a.leaves;
          changed = λ block content h. counted state tree p block content (t.only block content h);
        };
    quiet = loud;
  }
    where
      loud : IsRefused Done ⊎ Looks (Write path at bytes) → after ≡ map_of.empty
      loud (inl no_) = absurd no_
      loud (inr no_) = absurd no_

-- what isn't done isn't whole
pub undone_whole : (sizes : Numbers) (found : Entries) (path : List (List ℕ)) (at count : ℕ) (o : Outcome) → IsUndone o → IsWhole sizes found path at count o
undone_whole sizes found path at count (outcomes.Need block) h = h
undone_whole sizes found path at count outcomes.Odd h = h
undone_whole sizes found path at count (outcomes.Done Done written) h = absurd h
undone_whole sizes found path at count (outcomes.Done (replies.Data x) written) h = h
undone_whole sizes found path at count (outcomes.Done (replies.Listed x) written) h = h
undone_whole sizes found path at count (outcomes.Done (replies.Dir x) written) h = h
undone_whole sizes found path at count (outcomes.Done (replies.File x) written) h = h
undone_whole sizes found path at count (outcomes.Done (replies.Refused x) written) h = h

-- and so of a call that isn't done, or that is no write
pub undone_write : (sizes : Numbers) (found : Entries) (call : Call) (o : Outcome) → IsUndone o → IsWholeWrite sizes found call o
undone_write sizes found (Write path at bytes) o h = undone_whole sizes found path at (length bytes) o h
undone_write sizes found (calls.Mkdir path) o h = tt
undone_write sizes found (calls.Create path) o h = tt
undone_write sizes found (calls.Read path at count) o h = tt
undone_write sizes found (calls.Truncate path size) o h = tt
undone_write sizes found (calls.Unlink path) o h = tt
undone_write sizes found (calls.Rmdir path) o h = tt
undone_write sizes found (calls.Rename from to) o h = tt
undone_write sizes found (calls.List path) o h = tt
undone_write sizes found (calls.Stat path) o h = tt
undone_write sizes found (calls.Fsync path) o h = tt

pub no_write : (sizes : Numbers) (found : Entries) (call : Call) (o : Outcome) → IsAnswered call → IsWholeWrite sizes found call o
no_write sizes found (Write path at bytes) o h = absurd h
no_write sizes found (calls.Mkdir path) o h = tt
no_write sizes found (calls.Create path) o h = tt
no_write sizes found (calls.Read path at count) o h = tt
no_write sizes found (calls.Truncate path size) o h = tt
no_write sizes found (calls.Unlink path) o h = tt
no_write sizes found (calls.Rmdir path) o h = tt
no_write sizes found (calls.Rename from to) o h = tt
no_write sizes found (calls.List path) o h = tt
no_write sizes found (calls.Stat path) o h = tt
no_write sizes found (calls.Fsync path) o h = tt
