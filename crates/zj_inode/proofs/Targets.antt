-- The entry that a path leads to, in every possible state.
use Rattle.std.proofs.Common.{◌≡◌, inl, inr, ℕ, ◌<◌, [], ◌∷◌, ◌++◌, Option, Some, None, refl, ap, ◌∙◌, subst}
use Rattle.std.specs.FinMap as map_of
use Rattle.std.specs.Option.{option_and_then, unwrap_or}
use Rattle.zj_block.specs.Lists.{Entries}
use Rattle.zj_block.specs.Sizes.{Numbers}
use Rattle.zj_tree.specs.declared.call.Refusal.{Refusal}
use Rattle.zj_tree.specs.declared.call.Refusal.TheVariants.{NotFound}
use Rattle.zj_tree.specs.Tree.{FileTree}
use Rattle.zj_layout.specs.declared.fields.Kind.{Kind}
use Rattle.zj_layout.specs.declared.fields.Kind.TheVariants.{Free, Dir}
use Rattle.zj_layout.specs.declared.fields.Node.{Node}
use Rattle.zj_layout.specs.Graph.{follow, step}
use Rattle.zj_layout.specs.Image.{State, Image, image_of, graph_of, free_node, node_of, node_block}
use Rattle.zj_layout.specs.Shows.{Changes}
use Rattle.zj_layout.proofs.Follow.{Path', Name', follow_more}
use Rattle.zj_layout.proofs.Sound.{live_kind}
use Rattle.zj_changes.specs.Walk.{LeadsToNoDirectory, Stops, no_entry}
use Rattle.zj_dirs.specs.declared.answers.Stop.{Stop}
use Rattle.zj_dirs.specs.Possible as dirs
use Rattle.zj_dirs.specs.Possible.{IsPossible, Always, Made}
use Rattle.zj_dirs.specs.Walking.{IsStepBlock}
use Rattle.zj_dirs.proofs.Walks.{leads_live, live_within}
use Rattle.zj_inode.specs.declared.finding.Entry.{Entry}
use Rattle.zj_inode.specs.declared.finding.Located.{Located}
use Rattle.zj_inode.specs.declared.finding.Target.{Target}
use Rattle.zj_inode.specs.declared.stopped.Stopped.{Stopped}
use Rattle.zj_inode.specs.Answering.{stopped_by}
use Rattle.zj_inode.specs.Finding.{DirStops, IsAt, IsEntryOf, IsTarget, IsWayBlock, NodeStops, SearchStops}
use Rattle.zj_inode.proofs.Foots.{front_way, step_way}
use Rattle.zj_inode.proofs.Steps.{behind_no_directory, fresh_always, fresh_kept, kind_at, same_image, stops_after, stops_looking, stops_more}

module _ (image : Image) (front : Path') (name : Name') (target : Target) (at : IsTarget image front name target) where
  -- the whole path leads to the node
  pub target_leads : follow (graph_of image) 0 (front ++ name ∷ []) ≡ Some target.number
  target_leads = follow_more (graph_of image) 0 front name ∙ ap (option_and_then (λ d. step (graph_of image) d name)) at.leads ∙ at.entry.leads

  pub target_node : node_of image target.number ≡ target.node
  target_node = ap (λ o. unwrap_or o free_node) at.is

  pub target_kind : (kind : Kind) → target.node.kind ≡ kind → (node_of image target.number).kind ≡ kind
  target_kind kind e = ap (λ (n : Node). n.kind) target_node ∙ e

module _ (sizes : Numbers) (found : Entries) (front : Path') (name : Name') where
  abbrev joined : Path'
  joined = front ++ name ∷ []

  abbrev Due : Image → ℕ → Type 0
  Due = λ image b. IsWayBlock sizes image joined b

  abbrev Cause : State → FileTree → Refusal → Type 0
  Cause = λ state tree r. Stops (image_of sizes state) joined r

  pub front_stops : (s : Stopped) → DirStops sizes found front s → NodeStops sizes found joined s
  front_stops s h = stops_more sizes found (λ image b. IsWayBlock sizes image front b) Due (λ state tree r. LeadsToNoDirectory (image_of sizes state) front r) Cause
      (λ state tree p b w. inl (front_way sizes (image_of sizes state) front name b w)) (λ state tree p r why. behind_no_directory (image_of sizes state) front name r why) s h

  pub free_target : (target : Target) → Always sizes found (λ image. IsTarget image front name target) → target.node.kind ≡ Free → (state : State) (tree : FileTree) → IsPossible sizes found state tree → ⊥
  free_target target at free state tree p =
      let image = image_of sizes state in
      live_kind image target.number (leads_live sizes found state tree p joined target.number (target_leads image front name target (at state tree p))) (target_kind image front name target (at state tree p) Free free)

  module _ (dir : Located) (at : Always sizes found (λ image. IsAt image front dir)) (directory : dir.node.kind ≡ Dir) (built : Changes) (fresh : built ≡ map_of.empty) where
    pub found_dir : Always sizes found (λ image. (node_of image dir.number).kind ≡ Dir)
    found_dir state tree p = kind_at (image_of sizes state) front dir (at state tree p) Dir directory

    pub entry_stops : (s : Stopped) → SearchStops sizes found built dir.number name s → NodeStops sizes found joined s
    entry_stops s h = stops_after sizes found built (λ image b. IsStepBlock sizes image dir.number name b) Due (λ state tree r. ⊥) Cause (fresh_kept sizes found built fresh)
        (λ state tree p b w. inl (step_way sizes (image_of sizes state) front name dir.number b (at state tree p).leads (subst (λ image. IsStepBlock sizes image dir.number name b) (same_image sizes found built fresh state) w)))
        (λ state tree p r no_. absurd no_) s h

    module _ (o : Option Entry) (h : Made sizes found built (λ image. IsEntryOf image dir.number name o)) where
      entry_is : Always sizes found (λ image. IsEntryOf image dir.number name o)
      entry_is = fresh_always sizes found built fresh (λ i. IsEntryOf i dir.number name o) h

      pub not_found : o ≡ None → (state : State) (tree : FileTree) → IsPossible sizes found state tree → Stops (image_of sizes state) joined NotFound
      not_found none state tree p = no_entry front name [] dir.number refl (at state tree p).leads (found_dir state tree p) (subst (IsEntryOf (image_of sizes state) dir.number name) none (entry_is state tree p)) refl

      module _ (entry : Entry) (some : o ≡ Some entry) where
        leads_on : Always sizes found (λ image. follow (graph_of image) 0 joined ≡ Some entry.node)
        leads_on state tree p =
            let image = image_of sizes state in
            let stands = subst (IsEntryOf image dir.number name) some (entry_is state tree p) in
            follow_more (graph_of image) 0 front name ∙ ap (option_and_then (λ d. step (graph_of image) d name)) (at state tree p).leads ∙ stands.leads

        pub entry_within : Always sizes found (λ image. entry.node < sizes.nodes)
        entry_within state tree p = live_within sizes found state tree p entry.node (leads_live sizes found state tree p joined entry.node (leads_on state tree p))

        pub node_stops : (s : Stop) → dirs.Stops sizes found map_of.empty (λ image b. b ≡ node_block sizes entry.node) s → NodeStops sizes found joined (stopped_by s)
        node_stops s h = stops_looking sizes found (λ image b. b ≡ node_block sizes entry.node) Due Cause (λ state tree p b e. inr (entry.node, leads_on state tree p, e)) s h

        pub is_target : (node : Node) → Always sizes found (λ image. image.node entry.node ≡ Some node) → Always sizes found (λ image. IsTarget image front name (record { dir = dir.number; place = entry.place; number = entry.node; node = node }))
        is_target node is state tree p = record {
          leads = (at state tree p).leads;
          directory = found_dir state tree p;
          entry = subst (IsEntryOf (image_of sizes state) dir.number name) some (entry_is state tree p);
          is = is state tree p;
        }
