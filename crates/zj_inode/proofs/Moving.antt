-- An entry that moves to a name that a directory lacks.
use Rattle.std.proofs.Common.{◌≡◌, ◌≢◌, inl, inr, ℕ, ◌+◌, ◌-◌, ◌*◌, ◌/◌, ◌%◌, ◌<◌, ◌≤◌, Bool, true, false, cond, eq-eqb, [], ◌∷◌, ◌++◌, length, Some, None, refl, sym, ap, ◌∙◌, subst, arith, slice_index}
use Rattle.std.specs.FinMap as map_of
use Rattle.std.specs.Option.{unwrap_or}
use Rattle.std.proofs.lemmas.Slice.Eq.{bytes_eq-Decides, slice_eq-Decides}
use native.Mathlib.Decide.{ℕ_discrete}
use Rattle.zj_block.specs.Lists.{Entries}
use Rattle.zj_block.specs.Sizes.{Numbers}
use Rattle.zj_tree.specs.Path.{parent, last_name, same_path}
use Rattle.zj_tree.specs.Tree.{FileTree}
use Rattle.zj_tree.specs.declared.call.Call.{Call}
use Rattle.zj_tree.specs.declared.call.Call.TheVariants.{Rename}
use Rattle.zj_tree.specs.declared.call.Refusal.{Refusal}
use Rattle.zj_tree.specs.declared.call.Refusal.TheVariants.{NoSpace, DirFull}
use Rattle.zj_tree.specs.declared.call.Reply.TheVariants.{Refused}
use Rattle.zj_layout.specs.declared.fields.Kind.TheVariants.{Dir}
use Rattle.zj_layout.specs.declared.fields.Link.{Link}
use Rattle.zj_layout.specs.declared.fields.Node.{Node}
use Rattle.zj_layout.specs.Graph.{follow, step}
use Rattle.zj_layout.specs.Node.{most_items, per_block}
use Rattle.zj_layout.specs.Image.{State, Image, image_of, graph_of, free_node, node_of, number_of, item_block}
use Rattle.zj_layout.specs.Shows.{Changes, put_blocks}
use Rattle.zj_layout.specs.Stored.{IsStored}
use Rattle.zj_layout.proofs.Changed.{still_stored}
use Rattle.zj_layout.proofs.Counted.{parent_more}
use Rattle.zj_layout.proofs.Follow.{Path', one_path, some_is}
use Rattle.zj_changes.specs.Holds.{Answers, GoesInto, MayMove}
use Rattle.zj_changes.proofs.RenameReplies.{rename_dir_full, rename_no_space}
use Rattle.zj_changes.proofs.Removed.{removal}
use Rattle.zj_changes.proofs.Resized.{resized}
use Rattle.zj_dirs.specs.Changing.{IsPlaceBlock, of_node, of_last, of_map, of_new, map_of_new as map_of_placed, IsRemoveBlock, of_last as last_removed, NeedsBlock, Removes, entries_of}
use Rattle.zj_dirs.specs.Possible.{Always, IsPossible}
use Rattle.zj_dirs.specs.Walking.{IsOnTheWay}
use Rattle.zj_dirs.proofs.Walks.{possible_rooted, possible_stored}
use Rattle.zj_inode.specs.declared.finding.Target.{Target}
use Rattle.zj_inode.specs.declared.stopped.Stopped.{Stopped}
use Rattle.zj_inode.specs.Answering.{CallStops}
use Rattle.zj_inode.specs.Finding.{IsTarget}
use Rattle.zj_inode.specs.Footprint.{Foot, AddsEntry, HasRoom, LeadsToDir, NeedsBlocks, last_of_parent, map_of_new, new, on_the_way, size_before, size_of}
use Rattle.zj_inode.specs.Making.{AddStops, IsFull}
use Rattle.zj_inode.specs.Removing.{RemoveStops}
use Rattle.zj_inode.specs.Renaming.{Moves}
use Rattle.zj_inode.proofs.Detached.{remove_foot}
use Rattle.zj_inode.proofs.Foots.{last_more, none_below, some_names, step_way}
use Rattle.zj_inode.proofs.Steps.{KeepsFound, fresh_kept, same_image, stops_after}
use Rattle.zj_inode.proofs.Targets.{target_leads, target_node}

module _ (sizes : Numbers) (found : Entries) (from to : Path') (old : Target) (to_dir : ℕ) (link : Link) (m : Moves sizes found from to old to_dir link) where
  abbrev call : Call
  call = Rename from to

  module _ (state : State) (tree : FileTree) (p : IsPossible sizes found state tree) where
    abbrev im : Image
    im = image_of sizes state

    at : IsTarget im m.front m.name old
    at = m.at state tree p

    pub stored_is : IsStored sizes im
    stored_is = possible_stored sizes state tree p.shows

    pub from_leads : follow (graph_of im) 0 from ≡ Some old.number
    from_leads = ap (follow (graph_of im) 0) m.from_is ∙ target_leads im m.front m.name old at

    pub may_move : MayMove im old.number from to
    may_move = record {
      leads = from_leads;
      below_root = subst (λ q. 0 < length q) (sym m.from_is) (some_names m.front m.name);
      apart = m.apart;
      outside = λ k b. m.outside (ap (λ (n : Node). n.kind) (sym (target_node im m.front m.name old at)) ∙ k) b;
    }

    -- a block that is needed to remove the entry
    pub removal_foot : (block : ℕ) → IsRemoveBlock sizes im old.dir old.place block → Foot sizes im call block
    removal_foot block h = subst (λ q. Foot sizes im (Rename q to) block) (sym m.from_is) (remove_foot sizes im m.front m.name old at (Rename (m.front ++ m.name ∷ []) to) (0, refl) refl tt block h)

    -- ---- once the entry is removed

    module _ (mid : Image) (r : Removes sizes im mid old.dir old.place) where
      size_was : (node_of im old.dir).size ≡ r.size + 1
      size_was = r.is.size_is

      abbrev freed : ℕ
      freed = number_of im old.dir (r.size / 16)

      freed_is : item_block im old.dir r.size ≡ freed
      freed_is = ap (λ k. number_of im old.dir (r.size / per_block k)) at.directory

      pub mid_stored : IsStored sizes mid
      mid_stored = still_stored sizes im mid stored_is old.dir (resized sizes im mid stored_is old.dir (record { kind = Dir; size = r.size; blocks = r.blocks }) (removal sizes im mid stored_is old.dir r.size old.place r.blocks r.is))

      node_same : node_of mid old.dir ≡ record { kind = Dir; size = r.size; blocks = r.blocks }
      node_same = ap (λ o. unwrap_or o free_node) r.is.node

      node_other : (d : ℕ) → d ≢ old.dir → node_of mid d ≡ node_of im d
      node_other d ne = ap (λ o. unwrap_or o free_node) (r.is.others d ne)

      pub mid_directory : (d : ℕ) → (node_of im d).kind ≡ Dir → Dec (d ≡ old.dir) → (node_of mid d).kind ≡ Dir
      mid_directory d is (yes e) = ap (λ x. (node_of mid x).kind) e ∙ ap (λ (n : Node). n.kind) node_same
      mid_directory d is (no ne) = ap (λ (n : Node). n.kind) (node_other d ne) ∙ is

      -- a block that is in use then was in use
      used_before : (b : ℕ) → mid.map b ≢ 0 → im.map b ≢ 0
      used_before b used z = by (ℕ_discrete (r.size % 16) 0) (ℕ_discrete b freed)
        where
          by : Dec (r.size % 16 ≡ 0) → Dec (b ≡ freed) → ⊥
          by (yes alone) (yes e) = used (ap mid.map e ∙ r.is.freed alone)
          by (yes alone) (no ne) = used (r.is.map b (λ a e. ne e) ∙ z)
          by (no more) d = used (r.is.map b (λ a e. more a) ∙ z)

      module _ (t : LeadsToDir im m.to_front to_dir) (absent : step (graph_of im) to_dir link.name ≡ None) where
        adds : AddsEntry im to to_dir
        adds = record {
          below = subst (λ q. 0 < length q) (sym m.to_is) (some_names m.to_front link.name);
          leads = subst (λ q. LeadsToDir im q to_dir) (sym (ap parent m.to_is ∙ parent_more m.to_front link.name)) t;
          absent = ap (step (graph_of im) to_dir) (ap last_name m.to_is ∙ last_more m.to_front link.name) ∙ absent;
        }

        from_parent : parent from ≡ m.front
        from_parent = ap parent m.from_is ∙ parent_more m.front m.name

        to_parent : parent to ≡ m.to_front
        to_parent = ap parent m.to_is ∙ parent_more m.to_front link.name

        parents_same : to_dir ≡ old.dir → parent from ≡ parent to
        parents_same e = from_parent ∙ one_path sizes.nodes (graph_of im) (possible_rooted sizes state tree p.shows) m.front m.to_front old.dir at.leads (t.leads ∙ ap (λ (k : ℕ). Some k) e) ∙ sym to_parent

        parents_apart : to_dir ≢ old.dir → parent from ≢ parent to
        parents_apart ne e = ne (some_is (sym t.leads ∙ ap (follow (graph_of im) 0) (sym to_parent ∙ sym e ∙ from_parent) ∙ at.leads))

        entries_now : Dec (to_dir ≡ old.dir) → entries_of mid to_dir ≡ size_before im call to_dir
        entries_now (yes e) =
            ap (λ d. (node_of mid d).size) e ∙ ap (λ (n : Node). n.size) node_same ∙ omega (arith, size_was, ap (λ d. (node_of im d).size) e)
            ∙ sym (ap (λ b. cond b (size_of im to_dir - 1) (size_of im to_dir)) ((slice_eq-Decides bytes_eq-Decides (parent from) (parent to) (same_path (parent from) (parent to)) refl).1 (parents_same e)))
        entries_now (no ne) = ap (λ (n : Node). n.size) (node_other to_dir ne) ∙ by (same_path (parent from) (parent to)) refl
          where
            by : (b : Bool) → same_path (parent from) (parent to) ≡ b → size_of im to_dir ≡ cond (same_path (parent from) (parent to)) (size_of im to_dir - 1) (size_of im to_dir)
            by true e = absurd (parents_apart ne ((slice_eq-Decides bytes_eq-Decides (parent from) (parent to) (same_path (parent from) (parent to)) refl).0 e))
            by false e = sym (ap (λ b. cond b (size_of im to_dir - 1) (size_of im to_dir)) e)

        room : entries_of mid to_dir < 192 → Dec (to_dir ≡ old.dir) → HasRoom im call to_dir
        room few (yes e) = inl (parents_same e)
        room few (no ne) = inr (omega (arith, few, ap (λ (n : Node). n.size) (node_other to_dir ne)))

        needs_one : NeedsBlock mid to_dir → NeedsBlocks im call 1
        needs_one (few, whole) =
            let now = entries_now (ℕ_discrete to_dir old.dir) in
            (to, to_dir, refl, adds, room few (ℕ_discrete to_dir old.dir), sym (ap (λ b. cond b 1 0) (eq-eqb (size_before im call to_dir % 16) 0 (ap (λ n. n % 16) (sym now) ∙ whole))))

        -- the last block with room is the one that it was
        last_was : entries_of mid to_dir % 16 ≢ 0 → Dec (to_dir ≡ old.dir) → (0 < size_of im to_dir) × (number_of mid to_dir (entries_of mid to_dir / 16) ≡ number_of im to_dir ((size_of im to_dir - 1) / 16))
        last_was some (yes e) =
            let now : entries_of mid to_dir ≡ r.size = ap (λ d. (node_of mid d).size) e ∙ ap (λ (n : Node). n.size) node_same in
            let was : size_of im to_dir ≡ r.size + 1 = ap (λ d. (node_of im d).size) e ∙ size_was in
            let place : r.size / 16 ≡ (size_of im to_dir - 1) / 16 = omega (arith, was) in (
              omega (arith, was),
              ap (λ n. number_of mid to_dir (n / 16)) now ∙ ap (λ d. number_of mid d (r.size / 16)) e ∙ ap (λ (n : Node). slice_index n.blocks (r.size / 16)) node_same
                  ∙ r.is.same_blocks (r.size / 16) (omega (arith, some, now)) ∙ ap (λ d. number_of im d (r.size / 16)) (sym e) ∙ ap (number_of im to_dir) place,
            )
        last_was some (no ne) =
            let now : entries_of mid to_dir ≡ size_of im to_dir = ap (λ (n : Node). n.size) (node_other to_dir ne) in
            let place : entries_of mid to_dir / 16 ≡ (size_of im to_dir - 1) / 16 = omega (arith, now, some) in
            (omega (arith, now, some), ap (λ (n : Node). slice_index n.blocks (entries_of mid to_dir / 16)) (node_other to_dir ne) ∙ ap (number_of im to_dir) place)

        -- a block that the entry needs in its new place
        pub place_foot : (block : ℕ) → IsPlaceBlock sizes mid to_dir block → Foot sizes im call block
        place_foot block (of_node e) = on_the_way to (1, refl) (subst (λ q. IsOnTheWay sizes im q block) (sym m.to_is) (step_way sizes im m.to_front link.name to_dir block t.leads (inl e)))
        place_foot block (of_last (few, some) e) =
            let last = last_was some (ℕ_discrete to_dir old.dir) in
            last_of_parent to to_dir refl adds (room few (ℕ_discrete to_dir old.dir)) last.0 (e ∙ last.1 ∙ sym (ap (λ k. number_of im to_dir ((size_of im to_dir - 1) / per_block k)) t.directory))
        place_foot block (of_map filled (lt, none)) = map_of_new 1 (needs_one filled) lt (none_below im (512 * block) (λ lower less. used_before lower (none lower less)))
        place_foot block (of_new filled (lt, free, none)) = by (ℕ_discrete (im.map block) 0)
          where
            by : Dec (im.map block ≡ 0) → Foot sizes im call block
            by (yes z) = new 1 (needs_one filled) z lt (none_below im block (λ lower less. used_before lower (none lower less)))
            by (no used) = removal_foot block (last_removed r.size (sym size_was) (was_freed (ℕ_discrete (r.size % 16) 0) (ℕ_discrete block freed) ∙ sym freed_is))
              where
                was_freed : Dec (r.size % 16 ≡ 0) → Dec (block ≡ freed) → block ≡ freed
                was_freed d (yes e) = e
                was_freed (yes alone) (no ne) = absurd (used (sym (r.is.map block (λ a e. ne e)) ∙ free))
                was_freed (no more) (no ne) = absurd (used (sym (r.is.map block (λ a e. more a)) ∙ free))
        place_foot block (map_of_placed x filled (lt, free, none) e) = map_of_new 1 (needs_one filled) (omega (arith, e, lt)) (none_below im (512 * block) (λ lower less. used_before lower (none lower (omega (arith, e, less)))))

        goes : to_dir ≢ old.dir → GoesInto im from to old.dir to_dir
        goes ne = record {
          front = m.front;
          name = m.name;
          from_is = m.from_is;
          leads = at.leads;
          to_front = m.to_front;
          to_name = link.name;
          to_is = m.to_is;
          to_leads = t.leads;
          directory = t.directory;
          absent = absent;
          apart = λ e. ne (sym e);
        }

        freed_below : freed < sizes.blocks
        freed_below = ((stored_is.placed old.dir r.is.within).in_data (r.size / 16) (omega (arith, ap (λ k. ((node_of im old.dir).size + (per_block k - 1)) / per_block k) at.directory, size_was))).1

        -- why the directory can't have the entry
        pub full_why : (refusal : Refusal) → IsFull sizes mid to_dir refusal → Answers sizes call (Refused refusal) tree state
        full_why refusal (inl (e, full)) = subst (λ x. Answers sizes call (Refused x) tree state) (sym e) (by (ℕ_discrete to_dir old.dir))
          where
            few : (node_of im old.dir).size ≤ 192
            few = subst (λ k. (node_of im old.dir).size ≤ most_items k) at.directory (stored_is.placed old.dir r.is.within).few

            by : Dec (to_dir ≡ old.dir) → Answers sizes call (Refused DirFull) tree state
            by (yes same) = absurd (omega (arith, few, size_was, full, ap (λ d. (node_of mid d).size) same ∙ ap (λ (n : Node). n.size) node_same))
            by (no ne) = rename_dir_full sizes state tree p.shows from to old.number may_move old.dir to_dir (goes ne) (ap (λ (n : Node). n.size) (sym (node_other to_dir ne)) ∙ full)
        full_why refusal (inr (e, (few, whole), none)) = subst (λ x. Answers sizes call (Refused x) tree state) (sym e) (by (ℕ_discrete to_dir old.dir))
          where
            by : Dec (to_dir ≡ old.dir) → Answers sizes call (Refused NoSpace) tree state
            by (yes same) = absurd (none freed freed_below (r.is.freed (ap (λ n. n % 16) (sym (ap (λ d. (node_of mid d).size) same ∙ ap (λ (n : Node). n.size) node_same)) ∙ whole)))
            by (no ne) =
                let same = ap (λ (n : Node). n.size) (node_other to_dir ne) in
                rename_no_space sizes state tree p.shows from to old.number may_move old.dir to_dir (goes ne) (λ z. omega (arith, z, same, few)) (ap (λ n. n % 16) (sym same) ∙ whole)
                (λ z. none freed freed_below (r.is.freed (omega (arith, z, size_was)))) (λ b above below. used_before b (none b below))

  -- ---- where the steps stop

  module _ (built : Changes) (fresh : built ≡ map_of.empty) where
    pub removal_stops : (s : Stopped) → RemoveStops sizes found built old.dir old.place s → CallStops sizes found call s
    removal_stops = stops_after sizes found built (λ image b. IsRemoveBlock sizes image old.dir old.place b) (λ image b. Foot sizes image call b) (λ state tree r. ⊥) (λ state tree r. Answers sizes call (Refused r) tree state)
        (fresh_kept sizes found built fresh)
        (λ state tree p b h. removal_foot state tree p b (subst (λ i. IsRemoveBlock sizes i old.dir old.place b) (same_image sizes found built fresh state) h)) (λ state tree p r no_. absurd no_)

    pub place_stops : (mid : Changes) → KeepsFound found mid → ((state : State) (tree : FileTree) → IsPossible sizes found state tree → Removes sizes (image_of sizes state) (image_of sizes (put_blocks state mid)) old.dir old.place)
        → Always sizes found (λ image. step (graph_of image) to_dir link.name ≡ None) → (s : Stopped) → AddStops sizes found mid to_dir s → CallStops sizes found call s
    place_stops mid kept removes absent = stops_after sizes found mid (λ image b. IsPlaceBlock sizes image to_dir b) (λ image b. Foot sizes image call b) (λ state tree r. IsFull sizes (image_of sizes state) to_dir r) (λ state tree r. Answers sizes call (Refused r) tree state)
        kept
        (λ state tree p b h. place_foot state tree p (image_of sizes (put_blocks state mid)) (removes state tree p) (m.leads state tree p) (absent state tree p) b h)
        (λ state tree p r h. full_why state tree p (image_of sizes (put_blocks state mid)) (removes state tree p) (m.leads state tree p) (absent state tree p) r h)
