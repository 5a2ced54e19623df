-- Where mkdir and create go no further, and what they leave, in every possible state.
use Rattle.std.proofs.Common.{◌≡◌, ◌≢◌, ◌⊎◌, inl, inr, ℕ, ◌<◌, [], ◌∷◌, ◌++◌, Option, Some, None, sym, ap, ◌∙◌, subst, arith}
use Rattle.std.specs.FinMap as map_of
use Rattle.zj_block.specs.Lists.{Entries, AreContents}
use Rattle.zj_block.specs.Sizes.{Numbers}
use Rattle.zj_tree.specs.declared.call.Refusal.{Refusal}
use Rattle.zj_tree.specs.declared.call.Refusal.TheVariants.{DirFull, Exists, NoNodes}
use Rattle.zj_tree.specs.declared.call.Reply.TheVariants as replies
use Rattle.zj_tree.specs.Tree.{FileTree}
use Rattle.zj_layout.specs.declared.fields.Kind.{Kind}
use Rattle.zj_layout.specs.declared.fields.Kind.TheVariants.{Free, File, Dir}
use Rattle.zj_layout.specs.declared.fields.Node.{Node}
use Rattle.zj_layout.specs.Graph.{step}
use Rattle.zj_layout.specs.Image.{State, image_of, graph_of, node_of}
use Rattle.zj_layout.specs.Stored.{IsStored}
use Rattle.zj_layout.specs.Shows.{Changes, put_blocks}
use Rattle.zj_layout.proofs.Follow.{Path', Name'}
use Rattle.zj_changes.specs.Holds.{Answers, making}
use Rattle.zj_changes.specs.Walk.{LeadsToNoDirectory, NoNodeFree}
use Rattle.zj_changes.proofs.MakeReplies.{make_no_directory, make_exists, make_dir_full, make_no_nodes, make_no_space, make_done}
use Rattle.zj_dirs.specs.Changing.{IsPlaceBlock, Places}
use Rattle.zj_dirs.specs.Looking.{IsNodeSearch}
use Rattle.zj_dirs.specs.Possible.{IsPossible, Always, Made, Turns}
use Rattle.zj_dirs.specs.Walking.{IsStepBlock}
use Rattle.zj_inode.specs.declared.finding.Entry.{Entry}
use Rattle.zj_inode.specs.declared.finding.Located.{Located}
use Rattle.zj_inode.specs.declared.stopped.Stopped.{Stopped}
use Rattle.zj_inode.specs.Answering.{Builds, CallStops}
use Rattle.zj_inode.specs.Finding.{DirStops, IsAt, IsEntryOf, IsWayBlock, SearchStops}
use Rattle.zj_inode.specs.Footprint.{Foot}
use Rattle.zj_inode.specs.Making.{AddStops, IsFull, TakeStops, TakesNode}
use Rattle.zj_inode.specs.Performs.{IsRefused, Looks}
use Rattle.zj_inode.proofs.Foots.{make_front_foot, make_node_foot, make_place_foot, make_step_foot}
use Rattle.zj_inode.proofs.Makes.{dir_same, dir_still, filled_same, lowest_same, makes_entry, place_same, shape_after, taken_stored}
use Rattle.zj_inode.proofs.Steps.{KeepsFound, always_stored, fresh_always, fresh_kept, kind_at, same_image, size_at, stops_after, stops_more}

-- a call that makes a node doesn't only look
no_look : (kind : Kind) (path : Path') → Looks (making kind path) → ⊥
no_look Free path h = h
no_look File path h = h
no_look Dir path h = h

module _ (sizes : Numbers) (found : Entries) (kind : Kind) (path front : Path') (name : Name') (is : path ≡ front ++ name ∷ []) where
  abbrev joined : Path'
  joined = front ++ name ∷ []

  whole : (s : Stopped) → CallStops sizes found (making kind joined) s → CallStops sizes found (making kind path) s
  whole s h = subst (λ q. CallStops sizes found (making kind q) s) (sym is) h

  refuses : (state : State) (tree : FileTree) (r : Refusal) → Answers sizes (making kind joined) (replies.Refused r) tree state → Answers sizes (making kind path) (replies.Refused r) tree state
  refuses state tree r a = subst (λ q. Answers sizes (making kind q) (replies.Refused r) tree state) (sym is) a

  pub dir_stops : (s : Stopped) → DirStops sizes found front s → CallStops sizes found (making kind path) s
  dir_stops s h = whole s (stops_more sizes found (λ image b. IsWayBlock sizes image front b) (λ image b. Foot sizes image (making kind joined) b)
      (λ state tree r. LeadsToNoDirectory (image_of sizes state) front r) (λ state tree r. Answers sizes (making kind joined) (replies.Refused r) tree state)
      (λ state tree p b w. make_front_foot sizes (image_of sizes state) kind front name b w) (λ state tree p r why. make_no_directory sizes state tree p.shows kind front name r why) s h)

  module _ (dir : Located) (at : Always sizes found (λ image. IsAt image front dir)) (directory : dir.node.kind ≡ Dir) where
    pub dir_is : Always sizes found (λ image. (node_of image dir.number).kind ≡ Dir)
    dir_is state tree p = kind_at (image_of sizes state) front dir (at state tree p) Dir directory

    size_is : (state : State) (tree : FileTree) → IsPossible sizes found state tree → (node_of (image_of sizes state) dir.number).size ≡ dir.node.size
    size_is state tree p = size_at (image_of sizes state) front dir (at state tree p)

    module _ (built : Changes) (fresh : built ≡ map_of.empty) where
      pub search_stops : (s : Stopped) → SearchStops sizes found built dir.number name s → CallStops sizes found (making kind path) s
      search_stops s h = whole s (stops_after sizes found built (λ image b. IsStepBlock sizes image dir.number name b) (λ image b. Foot sizes image (making kind joined) b)
          (λ state tree r. ⊥) (λ state tree r. Answers sizes (making kind joined) (replies.Refused r) tree state) (fresh_kept sizes found built fresh)
          (λ state tree p b w. make_step_foot sizes (image_of sizes state) kind front name dir.number b (at state tree p).leads (subst (λ image. IsStepBlock sizes image dir.number name b) (same_image sizes found built fresh state) w))
          (λ state tree p r no_. absurd no_) s h)

      pub exists_refused : (o : Option Entry) (entry : Entry) → o ≡ Some entry → Made sizes found built (λ image. IsEntryOf image dir.number name o) → (state : State) (tree : FileTree) → IsPossible sizes found state tree
          → Answers sizes (making kind path) (replies.Refused Exists) tree state
      exists_refused o entry some h state tree p =
          let image = image_of sizes state in
          let stands = subst (IsEntryOf image dir.number name) some (fresh_always sizes found built fresh (λ i. IsEntryOf i dir.number name o) h state tree p) in
          refuses state tree Exists (make_exists sizes state tree p.shows kind front dir.number name (at state tree p).leads (dir_is state tree p) entry.node stands.leads)

      pub lacking : (o : Option Entry) → o ≡ None → Made sizes found built (λ image. IsEntryOf image dir.number name o) → Always sizes found (λ image. step (graph_of image) dir.number name ≡ None)
      lacking o none h state tree p = subst (IsEntryOf (image_of sizes state) dir.number name) none (fresh_always sizes found built fresh (λ i. IsEntryOf i dir.number name o) h state tree p)

    module _ (absent : Always sizes found (λ image. step (graph_of image) dir.number name ≡ None)) where
      pub full_refused : dir.node.size ≡ 192 → (state : State) (tree : FileTree) → IsPossible sizes found state tree → Answers sizes (making kind path) (replies.Refused DirFull) tree state
      full_refused full state tree p =
          refuses state tree DirFull (make_dir_full sizes state tree p.shows kind front dir.number name (at state tree p).leads (dir_is state tree p) (absent state tree p) (size_is state tree p ∙ full))

      module _ (few : dir.node.size < 192) where
        few_there : (state : State) (tree : FileTree) → IsPossible sizes found state tree → (node_of (image_of sizes state) dir.number).size < 192
        few_there state tree p = omega (arith, size_is state tree p)

        not_full : (state : State) (tree : FileTree) → IsPossible sizes found state tree → (node_of (image_of sizes state) dir.number).size ≢ 192
        not_full state tree p e = omega (arith, size_is state tree p, e)

        pub take_stops : (s : Stopped) → TakeStops sizes found s → CallStops sizes found (making kind path) s
        take_stops s h = whole s (stops_more sizes found (IsNodeSearch sizes) (λ image b. Foot sizes image (making kind joined) b)
            (λ state tree r. (r ≡ NoNodes) × NoNodeFree sizes (image_of sizes state)) (λ state tree r. Answers sizes (making kind joined) (replies.Refused r) tree state)
            (λ state tree p b w. make_node_foot sizes (image_of sizes state) kind front name dir.number (at state tree p).leads (dir_is state tree p) (absent state tree p) b (few_there state tree p) w)
            (λ state tree p r why. subst (λ x. Answers sizes (making kind joined) (replies.Refused x) tree state) (sym why.0)
            (make_no_nodes sizes state tree p.shows kind front dir.number name (at state tree p).leads (dir_is state tree p) (absent state tree p) (not_full state tree p) why.1)) s h)

        module _ (new : kind ≢ Free) (mid : Changes) (number : ℕ) (t : (state : State) (tree : FileTree) → IsPossible sizes found state tree → TakesNode sizes (image_of sizes state) (image_of sizes (put_blocks state mid)) kind number) where
          some_nodes : (state : State) (tree : FileTree) → IsPossible sizes found state tree → 0 < sizes.nodes
          some_nodes state tree p = omega (arith, p.shows.shape.limits.least_nodes)

          pub stored_before : Made sizes found mid (IsStored sizes)
          stored_before state tree p = taken_stored sizes (image_of sizes state) (image_of sizes (put_blocks state mid)) (always_stored sizes found state tree p) kind number (some_nodes state tree p) (t state tree p)

          pub dir_before : Made sizes found mid (λ image. (node_of image dir.number).kind ≡ Dir)
          dir_before state tree p = dir_still sizes (image_of sizes state) (image_of sizes (put_blocks state mid)) (always_stored sizes found state tree p) kind number (some_nodes state tree p) (t state tree p) dir.number (dir_is state tree p)

          no_room : (state : State) (tree : FileTree) → IsPossible sizes found state tree → (r : Refusal) → IsFull sizes (image_of sizes (put_blocks state mid)) dir.number r → Answers sizes (making kind joined) (replies.Refused r) tree state
          no_room state tree p r (inl (e, full)) =
              absurd (not_full state tree p (ap (λ (n : Node). n.size) (sym (dir_same sizes (image_of sizes state) (image_of sizes (put_blocks state mid)) (always_stored sizes found state tree p) kind number (some_nodes state tree p) (t state tree p) dir.number (dir_is state tree p))) ∙ full))
          no_room state tree p r (inr (e, filled, none)) =
              let old = image_of sizes state in
              let made_ = image_of sizes (put_blocks state mid) in
              let s = always_stored sizes found state tree p in
              let is_filled = filled_same sizes old made_ s kind number (some_nodes state tree p) (t state tree p) dir.number (dir_is state tree p) filled in
              let none_free = lowest_same sizes old made_ s kind number (some_nodes state tree p) (t state tree p) dir.number (dir_is state tree p) None none in
              subst (λ x. Answers sizes (making kind joined) (replies.Refused x) tree state) (sym e)
              (make_no_space sizes state tree p.shows kind front dir.number name (at state tree p).leads (dir_is state tree p) (absent state tree p) new (not_full state tree p) number (t state tree p).lowest.0 (t state tree p).lowest.1 is_filled.1 (λ b above below. none_free b below))

          pub add_stops : KeepsFound found mid → (s : Stopped) → AddStops sizes found mid dir.number s → CallStops sizes found (making kind path) s
          add_stops kept s h = whole s (stops_after sizes found mid (λ image b. IsPlaceBlock sizes image dir.number b) (λ image b. Foot sizes image (making kind joined) b)
              (λ state tree r. IsFull sizes (image_of sizes state) dir.number r) (λ state tree r. Answers sizes (making kind joined) (replies.Refused r) tree state) kept
              (λ state tree p b w. make_place_foot sizes (image_of sizes state) kind front name dir.number (at state tree p).leads (dir_is state tree p) (absent state tree p) b
              (place_same sizes (image_of sizes state) (image_of sizes (put_blocks state mid)) (always_stored sizes found state tree p) kind number (some_nodes state tree p) (t state tree p) dir.number (dir_is state tree p) b w))
              no_room s h)

          pub made : (built : Changes) → AreContents (map_of.entries built) → Turns sizes found mid built (λ old after. Places sizes old after dir.number (record { node = number; name = name })) → Builds sizes found built (making kind path) replies.Done
          made built contents placed = record {
            each = λ state tree p. subst (λ q. Answers sizes (making kind q) replies.Done tree (put_blocks state built)) (sym is)
                (make_done sizes state tree p.shows kind front dir.number (record { node = number; name = name }) (put_blocks state built) new (at state tree p).leads (absent state tree p)
                (shape_after sizes state built p.shows.shape contents)
                (makes_entry sizes (image_of sizes state) (image_of sizes (put_blocks state mid)) (always_stored sizes found state tree p) kind number (some_nodes state tree p) (t state tree p) (image_of sizes (put_blocks state built)) dir.number name (placed state tree p).appends));
            quiet = λ q. absurd (loud q);
          }
            where
              loud : IsRefused replies.Done ⊎ Looks (making kind path) → ⊥
              loud (inl h) = h
              loud (inr h) = no_look kind path h
