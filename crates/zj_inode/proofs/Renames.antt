-- A rename from its paths.
use Rattle.std.proofs.Common.{◌≡◌, ◌≢◌, ◌⊎◌, inl, inr, ℕ, ◌<◌, [], ◌∷◌, ◌++◌, length, Some, None, refl, sym, ap, ◌∙◌, subst, arith}
use Rattle.std.specs.FinMap as map_of
use Rattle.zj_block.specs.Lists.{Entries, AreContents}
use Rattle.zj_block.specs.Sizes.{Numbers}
use Rattle.zj_tree.specs.Tree.{FileTree}
use Rattle.zj_tree.specs.declared.call.Call.{Call}
use Rattle.zj_tree.specs.declared.call.Call.TheVariants.{Rename}
use Rattle.zj_tree.specs.declared.call.Refusal.TheVariants.{Inside, IsDir, NotEmpty}
use Rattle.zj_tree.specs.declared.call.Reply.TheVariants.{Done, Refused}
use Rattle.zj_layout.specs.declared.fields.Kind.{Kind}
use Rattle.zj_layout.specs.declared.fields.Kind.TheVariants.{Free, File, Dir}
use Rattle.zj_layout.specs.declared.fields.Link.{Link}
use Rattle.zj_layout.specs.declared.fields.Node.{Node}
use Rattle.zj_layout.specs.Graph.{follow, step}
use Rattle.zj_layout.specs.Image.{State, image_of, graph_of, node_of}
use Rattle.zj_layout.specs.Shows.{Changes, put_blocks}
use Rattle.zj_layout.proofs.Follow.{Path', Name'}
use Rattle.zj_changes.specs.Holds.{Answers, Matches, MayMove, Renames, RenamesOver}
use Rattle.zj_changes.specs.Moved.{Begins}
use Rattle.zj_changes.specs.Walk.{LeadsToNoDirectory, Stops}
use Rattle.zj_changes.proofs.Begins.{nil_right}
use Rattle.zj_changes.proofs.RenameReplies.{rename_root, rename_stops, rename_same, rename_inside, rename_file_onto_directory, rename_directory_onto_root, rename_no_directory, rename_done, rename_over_done}
use Rattle.zj_dirs.specs.Looking.{StandsAt}
use Rattle.zj_dirs.specs.Possible.{Always, IsPossible, Turns}
use Rattle.zj_dirs.specs.Walking.{IsOnTheWay, IsStepBlock}
use Rattle.zj_dirs.proofs.Walks.{possible_stored, put_nothing}
use Rattle.zj_inode.specs.declared.finding.Entry.{Entry}
use Rattle.zj_inode.specs.declared.finding.Located.{Located}
use Rattle.zj_inode.specs.declared.finding.Target.{Target}
use Rattle.zj_inode.specs.declared.stopped.Stopped.{Stopped}
use Rattle.zj_inode.specs.declared.stopped.Stopped.TheVariants as stopped
use Rattle.zj_inode.specs.Answering.{Builds, CallStops}
use Rattle.zj_inode.specs.Finding.{DirStops, IsAt, IsTarget, IsWayBlock, NodeStops, SearchStops}
use Rattle.zj_inode.specs.Footprint.{Foot, on_the_way}
use Rattle.zj_inode.specs.Performs.{IsRefused, Looks}
use Rattle.zj_inode.specs.Renaming.{Moves}
use Rattle.zj_inode.proofs.Detached.{link_of}
use Rattle.zj_inode.proofs.Foots.{front_way, some_names, step_way, way_foot}
use Rattle.zj_inode.proofs.Makes.{shape_after}
use Rattle.zj_inode.proofs.Steps.{fresh_kept, fresh_turns, kind_at, same_image, stops_after, stops_more}
use Rattle.zj_inode.proofs.Targets.{free_target, target_kind, target_leads, target_node}

pub root_refused : (sizes : Numbers) (found : Entries) (from to : Path') → from ≡ [] → CallStops sizes found (Rename from to) (stopped.Refused Inside)
root_refused sizes found from to root state tree p = subst (λ q. Answers sizes (Rename q to) (Refused Inside) tree state) (sym root) (rename_root sizes state tree p.shows to)

module _ (sizes : Numbers) (found : Entries) (from to front : Path') (name : Name') (is : from ≡ front ++ name ∷ []) where
  abbrev call : Call
  call = Rename from to

  abbrev joined : Path'
  joined = front ++ name ∷ []

  pub way_stops : (s : Stopped) → NodeStops sizes found joined s → CallStops sizes found call s
  way_stops s h = subst (λ q. CallStops sizes found (Rename q to) s) (sym is) (stops_more sizes found (λ image b. IsWayBlock sizes image joined b) (λ image b. Foot sizes image (Rename joined to) b)
      (λ state tree r. Stops (image_of sizes state) joined r) (λ state tree r. Answers sizes (Rename joined to) (Refused r) tree state)
      (λ state tree p b w. way_foot sizes (image_of sizes state) (Rename joined to) joined (0, refl) b w) (λ state tree p r why. rename_stops sizes state tree p.shows joined to r why) s h)

  module _ (old : Target) (at : Always sizes found (λ image. IsTarget image front name old)) where
    leads_from : (state : State) (tree : FileTree) → IsPossible sizes found state tree → follow (graph_of (image_of sizes state)) 0 from ≡ Some old.number
    leads_from state tree p = ap (follow (graph_of (image_of sizes state)) 0) is ∙ target_leads (image_of sizes state) front name old (at state tree p)

    below_root : 0 < length from
    below_root = subst (λ q. 0 < length q) (sym is) (some_names front name)

    kind_is : (state : State) (tree : FileTree) → IsPossible sizes found state tree → (kind : Kind) → old.node.kind ≡ kind → (node_of (image_of sizes state) old.number).kind ≡ kind
    kind_is state tree p kind e = target_kind (image_of sizes state) front name old (at state tree p) kind e

    kind_back : (state : State) (tree : FileTree) → IsPossible sizes found state tree → (kind : Kind) → (node_of (image_of sizes state) old.number).kind ≡ kind → old.node.kind ≡ kind
    kind_back state tree p kind e = ap (λ (n : Node). n.kind) (sym (target_node (image_of sizes state) front name old (at state tree p))) ∙ e

    pub same_path_done : (built : Changes) → built ≡ map_of.empty → from ≡ to → Builds sizes found built call Done
    same_path_done built fresh same = record {
      each = λ state tree p. subst (λ s. Answers sizes call Done tree s) (sym (ap (put_blocks state) fresh ∙ put_nothing state))
          (subst (λ q. Answers sizes (Rename from q) Done tree state) same (rename_same sizes state tree p.shows from old.number (leads_from state tree p) below_root));
      quiet = λ q. fresh;
    }

    module _ (apart : from ≢ to) where
      pub inside_refused : old.node.kind ≡ Dir → Begins to from → CallStops sizes found call (stopped.Refused Inside)
      inside_refused dir (rest, e) state tree p = by rest e
        where
          by : (rest : Path') → to ≡ from ++ rest → Answers sizes call (Refused Inside) tree state
          by [] e = absurd (apart (sym (e ∙ nil_right from)))
          by (n ∷ more) e = subst (λ q. Answers sizes (Rename from q) (Refused Inside) tree state) (sym e) (rename_inside sizes state tree p.shows from n more old.number (leads_from state tree p) below_root (kind_is state tree p Dir dir))

      module _ (outside : old.node.kind ≡ Dir → Begins to from → ⊥) where
        may_move : (state : State) (tree : FileTree) → IsPossible sizes found state tree → MayMove (image_of sizes state) old.number from to
        may_move state tree p = record { leads = leads_from state tree p; below_root = below_root; apart = apart; outside = λ k b. outside (kind_back state tree p Dir k) b }

        -- the path of the root is no path to move to
        pub root_stops : to ≡ [] → (s : Stopped) → (old.node.kind ≡ File → s ≡ stopped.Refused IsDir) → (old.node.kind ≡ Dir → s ≡ stopped.Refused NotEmpty) → (old.node.kind ≡ Free → s ≡ stopped.Odd) → CallStops sizes found call s
        root_stops root s file dir free = by old.node.kind refl
          where
            by : (k : Kind) → old.node.kind ≡ k → CallStops sizes found call s
            by File e = subst (CallStops sizes found call) (sym (file e)) (λ state tree p.
                rename_file_onto_directory sizes state tree p.shows from to old.number (may_move state tree p) 0 (kind_is state tree p File e) (ap (follow (graph_of (image_of sizes state)) 0) root)
                (((possible_stored sizes state tree p.shows).placed 0 (omega (arith, p.shows.shape.limits.least_nodes))).root refl))
            by Dir e = subst (CallStops sizes found call) (sym (dir e)) (λ state tree p. rename_directory_onto_root sizes state tree p.shows from to old.number (may_move state tree p) (kind_is state tree p Dir e) root)
            by Free e = subst (CallStops sizes found call) (sym (free e)) (free_target sizes found front name old at e)

        module _ (to_front : Path') (to_name : Name') (to_is : to ≡ to_front ++ to_name ∷ []) where
          on_way : (state : State) (block : ℕ) → IsOnTheWay sizes (image_of sizes state) (to_front ++ to_name ∷ []) block → Foot sizes (image_of sizes state) call block
          on_way state block w = on_the_way to (1, refl) (subst (λ q. IsOnTheWay sizes (image_of sizes state) q block) (sym to_is) w)

          pub dir_stops : (s : Stopped) → DirStops sizes found to_front s → CallStops sizes found call s
          dir_stops = stops_more sizes found (λ image b. IsWayBlock sizes image to_front b) (λ image b. Foot sizes image call b) (λ state tree r. LeadsToNoDirectory (image_of sizes state) to_front r) (λ state tree r. Answers sizes call (Refused r) tree state)
              (λ state tree p b w. on_way state b (front_way sizes (image_of sizes state) to_front to_name b w))
              (λ state tree p r why. rename_no_directory sizes state tree p.shows from to old.number (may_move state tree p) to_front to_name r to_is why)

          module _ (to_dir : Located) (to_at : Always sizes found (λ image. IsAt image to_front to_dir)) (directory : to_dir.node.kind ≡ Dir) where
            pub to_directory : Always sizes found (λ image. (node_of image to_dir.number).kind ≡ Dir)
            to_directory state tree p = kind_at (image_of sizes state) to_front to_dir (to_at state tree p) Dir directory

            pub search_stops : (built : Changes) → built ≡ map_of.empty → (s : Stopped) → SearchStops sizes found built to_dir.number to_name s → CallStops sizes found call s
            search_stops built fresh = stops_after sizes found built (λ image b. IsStepBlock sizes image to_dir.number to_name b) (λ image b. Foot sizes image call b) (λ state tree r. ⊥) (λ state tree r. Answers sizes call (Refused r) tree state) (fresh_kept sizes found built fresh)
                (λ state tree p b w. on_way state b (step_way sizes (image_of sizes state) to_front to_name to_dir.number b (to_at state tree p).leads (subst (λ i. IsStepBlock sizes i to_dir.number to_name b) (same_image sizes found built fresh state) w)))
                (λ state tree p r no_. absurd no_)

            pub moves : Moves sizes found from to old to_dir.number (record { node = old.number; name = to_name })
            moves = record {
              front = front;
              name = name;
              from_is = is;
              at = at;
              to_front = to_front;
              to_is = to_is;
              leads = λ state tree p. record { leads = (to_at state tree p).leads; directory = to_directory state tree p };
              node = refl;
              apart = apart;
              outside = outside;
            }

-- ---- what is done

module _ (sizes : Numbers) (found : Entries) (from to : Path') (old : Target) (to_dir : ℕ) (link : Link) (m : Moves sizes found from to old to_dir link) (built : Changes) (fresh : built ≡ map_of.empty) (after : Changes) (contents : AreContents (map_of.entries after)) where
  abbrev whole_call : Call
  whole_call = Rename from to

  answers_whole : (tree : FileTree) (s : State) → Answers sizes (Rename (m.front ++ m.name ∷ []) (m.to_front ++ link.name ∷ [])) Done tree s → Answers sizes whole_call Done tree s
  answers_whole tree s h = subst (λ q. Answers sizes (Rename q to) Done tree s) (sym m.from_is) (subst (λ q. Answers sizes (Rename (m.front ++ m.name ∷ []) q) Done tree s) (sym m.to_is) h)

  outside_joined : (state : State) (tree : FileTree) → IsPossible sizes found state tree → (node_of (image_of sizes state) old.number).kind ≡ Dir → Begins (m.to_front ++ link.name ∷ []) (m.front ++ m.name ∷ []) → ⊥
  outside_joined state tree p k b = m.outside (ap (λ (n : Node). n.kind) (sym (target_node (image_of sizes state) m.front m.name old (m.at state tree p))) ∙ k)
      (subst (λ q. Begins to q) (sym m.from_is) (subst (λ q. Begins q (m.front ++ m.name ∷ [])) (sym m.to_is) b))

  loud : IsRefused Done ⊎ Looks whole_call → after ≡ map_of.empty
  loud (inl no_) = absurd no_
  loud (inr no_) = absurd no_

  pub moved_to : Always sizes found (λ image. step (graph_of image) to_dir link.name ≡ None) → Turns sizes found built after (λ b a. Renames sizes b a old.dir old.place to_dir link) → Builds sizes found after whole_call Done
  moved_to absent turns = record {
    each = λ state tree p.
        let t = m.leads state tree p in
        let a = m.at state tree p in
        let r = fresh_turns sizes found built fresh after (λ b a. Renames sizes b a old.dir old.place to_dir link) turns state tree p in
        answers_whole tree (put_blocks state after) (rename_done sizes state tree p.shows m.front old.dir old.place (link_of m.name old) m.to_front to_dir link.name a.leads a.entry.stands t.leads t.directory (outside_joined state tree p) (put_blocks state after) (absent state tree p)
        (shape_after sizes state after p.shows.shape contents) (subst (λ n. Renames sizes (image_of sizes state) (image_of sizes (put_blocks state after)) old.dir old.place to_dir (record { node = n; name = link.name })) m.node r));
    quiet = loud;
  }

  pub moved_over : (onto : Entry) → Always sizes found (λ image. StandsAt image to_dir link.name onto.place onto.node) → Always sizes found (λ image. Matches image old.number onto.node)
      → Turns sizes found built after (λ b a. RenamesOver sizes b a old.dir old.place to_dir onto.place link onto.node) → Builds sizes found after whole_call Done
  moved_over onto stands matches turns = record {
    each = λ state tree p.
        let t = m.leads state tree p in
        let a = m.at state tree p in
        let r = fresh_turns sizes found built fresh after (λ b a. RenamesOver sizes b a old.dir old.place to_dir onto.place link onto.node) turns state tree p in
        answers_whole tree (put_blocks state after) (rename_over_done sizes state tree p.shows m.front old.dir old.place (link_of m.name old) m.to_front to_dir link.name a.leads a.entry.stands t.leads t.directory (outside_joined state tree p)
        onto.place (record { node = onto.node; name = link.name }) (put_blocks state after) (stands state tree p).stands refl (λ e. m.apart (m.from_is ∙ e ∙ sym m.to_is)) (matches state tree p)
        (shape_after sizes state after p.shows.shape contents) (subst (λ n. RenamesOver sizes (image_of sizes state) (image_of sizes (put_blocks state after)) old.dir old.place to_dir onto.place (record { node = n; name = link.name }) onto.node) m.node r));
    quiet = loud;
  }
