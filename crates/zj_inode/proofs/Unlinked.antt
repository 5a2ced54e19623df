-- Where unlink and rmdir go no further, and what they leave, in every possible state.
use Rattle.std.proofs.Common.{◌≡◌, ◌⊎◌, inl, inr, ℕ, ◌+◌, ◌-◌, ◌/◌, ◌<◌, [], ◌∷◌, ◌++◌, refl, sym, ap, ◌∙◌, subst, arith}
use Rattle.zj_block.specs.Lists.{Entries}
use Rattle.zj_block.specs.Sizes.{Numbers}
use Rattle.zj_tree.specs.declared.call.Call.{Call}
use Rattle.zj_tree.specs.declared.call.Call.TheVariants.{Unlink, Rmdir}
use Rattle.zj_tree.specs.declared.call.Refusal.TheVariants.{Inside, IsDir, NotDir, NotEmpty}
use Rattle.zj_tree.specs.declared.call.Reply.{Reply}
use Rattle.zj_tree.specs.declared.call.Reply.TheVariants as replies
use Rattle.zj_tree.specs.Tree.{FileTree}
use Rattle.zj_layout.specs.declared.fields.Kind.TheVariants.{File, Dir}
use Rattle.zj_layout.specs.declared.fields.Node.{Node}
use Rattle.zj_layout.specs.Node.{per_block}
use Rattle.zj_layout.specs.Image.{State, image_of, node_of, count_of}
use Rattle.zj_layout.specs.Shows.{Changes, put_blocks}
use Rattle.zj_layout.proofs.Follow.{Path', Name'}
use Rattle.zj_changes.specs.Holds.{Answers}
use Rattle.zj_changes.specs.Walk.{Stops, at_file, at_directory, no_way_to_directory, no_way_to_file}
use Rattle.zj_changes.proofs.RemoveReplies.{rmdir_done, rmdir_no_directory, rmdir_not_empty, rmdir_root, unlink_done, unlink_no_file}
use Rattle.zj_dirs.specs.Possible.{IsPossible, Always}
use Rattle.zj_inode.specs.declared.finding.Target.{Target}
use Rattle.zj_inode.specs.declared.stopped.Stopped.{Stopped}
use Rattle.zj_inode.specs.Answering.{Builds, CallStops}
use Rattle.zj_inode.specs.Finding.{IsTarget, IsWayBlock, NodeStops}
use Rattle.zj_inode.specs.Footprint.{Foot}
use Rattle.zj_inode.specs.Removing.{DetachStops, Detaches}
use Rattle.zj_inode.proofs.Detached.{detach_stops, link_of}
use Rattle.zj_inode.proofs.Foots.{some_names, way_foot}
use Rattle.zj_inode.proofs.Makes.{shape_after}
use Rattle.zj_inode.proofs.Steps.{always_stored, stops_more}
use Rattle.zj_inode.proofs.Targets.{target_kind, target_leads, target_node}

-- ---- the root

pub unlink_root_refused : (sizes : Numbers) (found : Entries) (path : Path') → path ≡ [] → (state : State) (tree : FileTree) → IsPossible sizes found state tree → Answers sizes (Unlink path) (replies.Refused IsDir) tree state
unlink_root_refused sizes found path root state tree p = subst (λ q. Answers sizes (Unlink q) (replies.Refused IsDir) tree state) (sym root)
    (unlink_no_file sizes state tree p.shows [] IsDir (at_directory 0 refl (((always_stored sizes found state tree p).placed 0 (omega (arith, p.shows.shape.limits.least_nodes))).root refl) refl))

pub rmdir_root_refused : (sizes : Numbers) (found : Entries) (path : Path') → path ≡ [] → (state : State) (tree : FileTree) → IsPossible sizes found state tree → Answers sizes (Rmdir path) (replies.Refused Inside) tree state
rmdir_root_refused sizes found path root state tree p = subst (λ q. Answers sizes (Rmdir q) (replies.Refused Inside) tree state) (sym root) (rmdir_root sizes state tree p.shows)

module _ (sizes : Numbers) (found : Entries) (path front : Path') (name : Name') (is : path ≡ front ++ name ∷ []) where
  abbrev joined : Path'
  joined = front ++ name ∷ []

  -- what is said of a call of the path in its two parts is said of one of the path
  stops_whole : (call : Path' → Call) (s : Stopped) → CallStops sizes found (call joined) s → CallStops sizes found (call path) s
  stops_whole call s h = subst (λ q. CallStops sizes found (call q) s) (sym is) h

  answers_whole : (call : Path' → Call) (reply : Reply) (tree : FileTree) (state : State) → Answers sizes (call joined) reply tree state → Answers sizes (call path) reply tree state
  answers_whole call reply tree state h = subst (λ q. Answers sizes (call q) reply tree state) (sym is) h

  pub unlink_way : (s : Stopped) → NodeStops sizes found joined s → CallStops sizes found (Unlink path) s
  unlink_way s h = stops_whole (λ q. Unlink q) s (stops_more sizes found (λ image b. IsWayBlock sizes image joined b) (λ image b. Foot sizes image (Unlink joined) b)
      (λ state tree r. Stops (image_of sizes state) joined r) (λ state tree r. Answers sizes (Unlink joined) (replies.Refused r) tree state)
      (λ state tree p b w. way_foot sizes (image_of sizes state) (Unlink joined) joined (0, refl) b w) (λ state tree p r why. unlink_no_file sizes state tree p.shows joined r (no_way_to_file why)) s h)

  pub rmdir_way : (s : Stopped) → NodeStops sizes found joined s → CallStops sizes found (Rmdir path) s
  rmdir_way s h = stops_whole (λ q. Rmdir q) s (stops_more sizes found (λ image b. IsWayBlock sizes image joined b) (λ image b. Foot sizes image (Rmdir joined) b)
      (λ state tree r. Stops (image_of sizes state) joined r) (λ state tree r. Answers sizes (Rmdir joined) (replies.Refused r) tree state)
      (λ state tree p b w. way_foot sizes (image_of sizes state) (Rmdir joined) joined (0, refl) b w) (λ state tree p r why. rmdir_no_directory sizes state tree p.shows joined r (no_way_to_directory why)) s h)

  module _ (target : Target) (at : Always sizes found (λ image. IsTarget image front name target)) where
    pub unlink_directory : target.node.kind ≡ Dir → (state : State) (tree : FileTree) → IsPossible sizes found state tree → Answers sizes (Unlink path) (replies.Refused IsDir) tree state
    unlink_directory kind state tree p =
        let image = image_of sizes state in
        answers_whole (λ q. Unlink q) (replies.Refused IsDir) tree state
        (unlink_no_file sizes state tree p.shows joined IsDir (at_directory target.number (target_leads image front name target (at state tree p)) (target_kind image front name target (at state tree p) Dir kind) refl))

    pub rmdir_file : target.node.kind ≡ File → (state : State) (tree : FileTree) → IsPossible sizes found state tree → Answers sizes (Rmdir path) (replies.Refused NotDir) tree state
    rmdir_file kind state tree p =
        let image = image_of sizes state in
        answers_whole (λ q. Rmdir q) (replies.Refused NotDir) tree state
        (rmdir_no_directory sizes state tree p.shows joined NotDir (at_file target.number (target_leads image front name target (at state tree p)) (target_kind image front name target (at state tree p) File kind) refl))

    size_is : (state : State) (tree : FileTree) (p : IsPossible sizes found state tree) → (node_of (image_of sizes state) target.number).size ≡ target.node.size
    size_is state tree p = ap (λ (n : Node). n.size) (target_node (image_of sizes state) front name target (at state tree p))

    pub rmdir_entries : target.node.kind ≡ Dir → 0 < target.node.size → (state : State) (tree : FileTree) → IsPossible sizes found state tree → Answers sizes (Rmdir path) (replies.Refused NotEmpty) tree state
    rmdir_entries kind some state tree p =
        let image = image_of sizes state in
        answers_whole (λ q. Rmdir q) (replies.Refused NotEmpty) tree state
        (rmdir_not_empty sizes state tree p.shows joined target.number (target_leads image front name target (at state tree p)) (target_kind image front name target (at state tree p) Dir kind) (some_names front name) (omega (arith, size_is state tree p, some)))

    pub unlink_stops : target.node.kind ≡ File → (s : Stopped) → DetachStops sizes found target s → CallStops sizes found (Unlink path) s
    unlink_stops kind s h = stops_whole (λ q. Unlink q) s (detach_stops sizes found front name target (Unlink joined) at (0, refl) refl file
        (λ state tree p j lt. (target.number, j, record { leads = target_leads (image_of sizes state) front name target (at state tree p); is_file = file state tree p }, lt, refl)) s h)
      where
        file : Always sizes found (λ image. (node_of image target.number).kind ≡ File)
        file state tree p = target_kind (image_of sizes state) front name target (at state tree p) File kind

    pub rmdir_stops : target.node.kind ≡ Dir → target.node.size ≡ 0 → (s : Stopped) → DetachStops sizes found target s → CallStops sizes found (Rmdir path) s
    rmdir_stops kind empty s h = stops_whole (λ q. Rmdir q) s (detach_stops sizes found front name target (Rmdir joined) at (0, refl) refl
        (λ state tree p. (target_kind (image_of sizes state) front name target (at state tree p) Dir kind, size_is state tree p ∙ empty)) (λ state tree p j lt. none state tree p j lt) s h)
      where
        none : (state : State) (tree : FileTree) → IsPossible sizes found state tree → (j : ℕ) → j < count_of (image_of sizes state) target.number → ⊥
        none state tree p j lt =
            let image = image_of sizes state in
            let count : count_of image target.number ≡ ((node_of image target.number).size + 15) / 16 = ap (λ k. ((node_of image target.number).size + (per_block k - 1)) / per_block k) (target_kind image front name target (at state tree p) Dir kind) in
            omega (arith, count, size_is state tree p, lt, empty)

    pub unlinked : target.node.kind ≡ File → (built : Changes) (reply : Reply) → Detaches sizes found built target reply → Builds sizes found built (Unlink path) reply
    unlinked kind built reply d = subst (Builds sizes found built (Unlink path)) (sym d.done) (record {
      each = λ state tree p. answers_whole (λ q. Unlink q) replies.Done tree (put_blocks state built)
          (unlink_done sizes state tree p.shows front target.dir target.place (link_of name target) (put_blocks state built) (at state tree p).leads (at state tree p).entry.stands
          (target_kind (image_of sizes state) front name target (at state tree p) File kind) (shape_after sizes state built p.shows.shape d.contents) (d.each state tree p));
      quiet = λ q. absurd (loud q);
    })
      where
        loud : ⊥ ⊎ ⊥ → ⊥
        loud (inl h) = h
        loud (inr h) = h

    pub directory_removed : target.node.kind ≡ Dir → target.node.size ≡ 0 → (built : Changes) (reply : Reply) → Detaches sizes found built target reply → Builds sizes found built (Rmdir path) reply
    directory_removed kind empty built reply d = subst (Builds sizes found built (Rmdir path)) (sym d.done) (record {
      each = λ state tree p. answers_whole (λ q. Rmdir q) replies.Done tree (put_blocks state built)
          (rmdir_done sizes state tree p.shows front target.dir target.place (link_of name target) (put_blocks state built) (at state tree p).leads (at state tree p).entry.stands
          (target_kind (image_of sizes state) front name target (at state tree p) Dir kind) (size_is state tree p ∙ empty) (shape_after sizes state built p.shows.shape d.contents) (d.each state tree p));
      quiet = λ q. absurd (loud q);
    })
      where
        loud : ⊥ ⊎ ⊥ → ⊥
        loud (inl h) = h
        loud (inr h) = h
