-- An entry that moves onto another one.
use Rattle.std.proofs.Common.{◌≡◌, ◌≢◌, ◌⊎◌, inl, inr, ℕ, ◌+◌, ◌-◌, ◌/◌, ◌<◌, Some, refl, sym, ap, ◌∙◌, subst, arith, slice_index}
use Rattle.std.specs.FinMap as map_of
use Rattle.std.specs.Option.{option_and_then, unwrap_or}
use Rattle.zj_block.specs.Lists.{Entries}
use Rattle.zj_block.specs.Sizes.{Numbers}
use Rattle.zj_tree.specs.Tree.{FileTree}
use Rattle.zj_tree.specs.declared.call.Call.{Call}
use Rattle.zj_tree.specs.declared.call.Call.TheVariants.{Rename}
use Rattle.zj_tree.specs.declared.call.Refusal.TheVariants as refusals
use Rattle.zj_tree.specs.declared.call.Reply.TheVariants.{Refused}
use Rattle.zj_layout.specs.declared.fields.Kind.{Kind}
use Rattle.zj_layout.specs.declared.fields.Kind.TheVariants.{Free, File, Dir}
use Rattle.zj_layout.specs.declared.fields.Link.{Link}
use Rattle.zj_layout.specs.declared.fields.Node.{Node}
use Rattle.zj_layout.specs.Graph.{follow, step}
use Rattle.zj_layout.specs.Node.{blocks_needed, per_block}
use Rattle.zj_layout.specs.Image.{State, Image, image_of, graph_of, free_node, node_of, node_block, map_block, count_of, number_of, item_block}
use Rattle.zj_layout.specs.Rules.{HasPlace}
use Rattle.zj_layout.specs.Shows.{Changes, put_blocks}
use Rattle.zj_layout.specs.Stored.{IsStored}
use Rattle.zj_layout.proofs.Changed.{still_stored}
use Rattle.zj_layout.proofs.Follow.{Path', follow_more}
use Rattle.zj_layout.proofs.Sound.{link_place, live_kind}
use Rattle.zj_changes.specs.Holds.{Answers, Matches, files, directories}
use Rattle.zj_changes.specs.Resized.{ReplacesEntry}
use Rattle.zj_changes.proofs.RenameReplies.{rename_file_onto_directory, rename_directory_onto_file, rename_onto_full}
use Rattle.zj_changes.proofs.Removed.{removal, replacement}
use Rattle.zj_changes.proofs.Resized.{resized}
use Rattle.zj_dirs.specs.declared.answers.Halt.{Halt}
use Rattle.zj_dirs.specs.declared.answers.Stop.{Stop}
use Rattle.zj_dirs.specs.Changing.{IsRemoveBlock, of_node, of_entry, of_last, map_of_last, Removes}
use Rattle.zj_dirs.specs.Looking.{StandsAt}
use Rattle.zj_dirs.specs.Possible as dirs
use Rattle.zj_dirs.specs.Possible.{Always, Halts, IsPossible}
use Rattle.zj_dirs.specs.Walking.{IsOnTheWay, IsSearched}
use Rattle.zj_dirs.proofs.Walks.{leads_live, live_within, possible_rooted, possible_stored}
use Rattle.zj_inode.specs.declared.finding.Entry.{Entry}
use Rattle.zj_inode.specs.declared.finding.Target.{Target}
use Rattle.zj_inode.specs.declared.stopped.Stopped.{Stopped}
use Rattle.zj_inode.specs.declared.stopped.Stopped.TheVariants as stopped
use Rattle.zj_inode.specs.Answering.{CallStops, stopped_at, stopped_by}
use Rattle.zj_inode.specs.Footprint.{Foot, map_of_freed, on_the_way, found as found_node}
use Rattle.zj_inode.specs.Removing.{IsReleaseBlock, ReleaseStops, RemoveStops}
use Rattle.zj_inode.specs.Renaming.{FitsOver, Moves, StandsInTheWay}
use Rattle.zj_inode.proofs.Detached.{place_within}
use Rattle.zj_inode.proofs.Foots.{step_way}
use Rattle.zj_inode.proofs.Moving.{may_move, removal_foot, from_leads}
use Rattle.zj_inode.proofs.Steps.{KeepsFound, fresh_kept, same_image, stops_after, stops_at, stops_looking}
use Rattle.zj_inode.proofs.Targets.{target_kind}

-- an entry that is replaced, and one that is removed, leave the tables fitting each other
pub replaced_stored : (sizes : Numbers) (old new : Image) → IsStored sizes old → (dir place : ℕ) (link : Link) → ReplacesEntry sizes old new dir place link → IsStored sizes new
replaced_stored sizes old new s dir place link a = still_stored sizes old new s dir (resized sizes old new s dir (node_of old dir) (replacement sizes old new s dir place link a))

pub removed_stored : (sizes : Numbers) (old new : Image) → IsStored sizes old → (dir place : ℕ) → Removes sizes old new dir place → IsStored sizes new
removed_stored sizes old new s dir place r = still_stored sizes old new s dir (resized sizes old new s dir (record { kind = Dir; size = r.size; blocks = r.blocks }) (removal sizes old new s dir r.size place r.blocks r.is))

-- what is needed to remove an entry, and to free a node, is so by the nodes alone
remove_same : (sizes : Numbers) (old new : Image) (dir place : ℕ) → node_of new dir ≡ node_of old dir → (block : ℕ) → IsRemoveBlock sizes new dir place block → IsRemoveBlock sizes old dir place block
remove_same sizes old new dir place e block (of_node h) = of_node h
remove_same sizes old new dir place e block (of_entry h) = of_entry (h ∙ ap (λ (n : Node). slice_index n.blocks (place / per_block n.kind)) e)
remove_same sizes old new dir place e block (of_last last is h) = of_last last (is ∙ ap (λ (n : Node). n.size) e) (h ∙ ap (λ (n : Node). slice_index n.blocks (last / per_block n.kind)) e)
remove_same sizes old new dir place e block (map_of_last last is alone h) = map_of_last last (is ∙ ap (λ (n : Node). n.size) e) alone (h ∙ ap (λ (n : Node). map_block (slice_index n.blocks (last / per_block n.kind))) e)

release_same : (sizes : Numbers) (old new : Image) (number : ℕ) → node_of new number ≡ node_of old number → (block : ℕ) → IsReleaseBlock sizes new number block → IsReleaseBlock sizes old number block
release_same sizes old new number e block h = subst (λ (n : Node). ((j : ℕ) × (j < blocks_needed n) × (block ≡ map_block (slice_index n.blocks j))) ⊎ (block ≡ node_block sizes number)) e h

module _ (sizes : Numbers) (found : Entries) (from to : Path') (old : Target) (to_dir : ℕ) (link : Link) (m : Moves sizes found from to old to_dir link) (onto : Entry) (stands : Always sizes found (λ image. StandsAt image to_dir link.name onto.place onto.node)) where
  abbrev call : Call
  call = Rename from to

  module _ (state : State) (tree : FileTree) (p : IsPossible sizes found state tree) where
    abbrev im : Image
    im = image_of sizes state

    pub onto_leads : follow (graph_of im) 0 to ≡ Some onto.node
    onto_leads = ap (follow (graph_of im) 0) m.to_is ∙ follow_more (graph_of im) 0 m.to_front link.name ∙ ap (option_and_then (λ d. step (graph_of im) d link.name)) (m.leads state tree p).leads ∙ (stands state tree p).leads

    pub onto_within : onto.node < sizes.nodes
    onto_within = live_within sizes found state tree p onto.node (leads_live sizes found state tree p to onto.node onto_leads)

    pub onto_place : HasPlace im to_dir onto.place
    onto_place = (link_place im to_dir onto.place (record { node = onto.node; name = link.name }) (stands state tree p).stands).0

    -- the block of the entry that is replaced was searched
    entry_foot : (block : ℕ) → block ≡ item_block im to_dir onto.place → Foot sizes im call block
    entry_foot block e = on_the_way to (1, refl) (subst (λ q. IsOnTheWay sizes im q block) (sym m.to_is) (step_way sizes im m.to_front link.name to_dir block (m.leads state tree p).leads (inr searched)))
      where
        searched : IsSearched im to_dir link.name block
        searched = record {
          place = onto.place;
          has = onto_place;
          is = sym e;
          before = λ earlier l lt h same.
              let one = ((possible_rooted sizes state tree p.shows).names.each to_dir).each earlier onto.place l (record { node = onto.node; name = link.name }) h (stands state tree p).stands same in
              absurd (omega (arith, lt, one));
        }

  pub node_stops : (s : Stop) → dirs.Stops sizes found map_of.empty (λ image b. b ≡ node_block sizes onto.node) s → CallStops sizes found call (stopped_by s)
  node_stops = stops_looking sizes found (λ image b. b ≡ node_block sizes onto.node) (λ image b. Foot sizes image call b) (λ state tree r. Answers sizes call (Refused r) tree state) (λ state tree p b e. found_node to onto.node (1, refl) (onto_leads state tree p) e)

  module _ (node : Node) (is : Always sizes found (λ image. image.node onto.node ≡ Some node)) where
    onto_is : (state : State) (tree : FileTree) → IsPossible sizes found state tree → node_of (image_of sizes state) onto.node ≡ node
    onto_is state tree p = ap (λ o. unwrap_or o free_node) (is state tree p)

    onto_kind : (state : State) (tree : FileTree) → IsPossible sizes found state tree → (kind : Kind) → node.kind ≡ kind → (node_of (image_of sizes state) onto.node).kind ≡ kind
    onto_kind state tree p kind e = ap (λ (n : Node). n.kind) (onto_is state tree p) ∙ e

    old_kind : (state : State) (tree : FileTree) → IsPossible sizes found state tree → (kind : Kind) → old.node.kind ≡ kind → (node_of (image_of sizes state) old.number).kind ≡ kind
    old_kind state tree p kind e = target_kind (image_of sizes state) m.front m.name old (m.at state tree p) kind e

    pub way_stops : (s : Stopped) → StandsInTheWay old.node node s → CallStops sizes found call s
    way_stops (stopped.Refused refusals.IsDir) (a, b) = λ state tree p. rename_file_onto_directory sizes state tree p.shows from to old.number (may_move sizes found from to old to_dir link m state tree p) onto.node (old_kind state tree p File a) (onto_leads state tree p) (onto_kind state tree p Dir b)
    way_stops (stopped.Refused refusals.NotDir) (a, b) = λ state tree p. rename_directory_onto_file sizes state tree p.shows from to old.number (may_move sizes found from to old to_dir link m state tree p) onto.node (old_kind state tree p Dir a) (onto_leads state tree p) (onto_kind state tree p File b)
    way_stops (stopped.Refused refusals.NotEmpty) (a, b, some) = λ state tree p.
        rename_onto_full sizes state tree p.shows from to old.number (may_move sizes found from to old to_dir link m state tree p) onto.node (old_kind state tree p Dir a) (onto_leads state tree p) (onto_kind state tree p Dir b)
        (subst (λ (n : Node). 0 < n.size) (sym (onto_is state tree p)) some)
    way_stops stopped.Odd (inl free) = λ state tree p. live_kind (image_of sizes state) old.number (leads_live sizes found state tree p from old.number (from_leads sizes found from to old to_dir link m state tree p)) (old_kind state tree p Free free)
    way_stops stopped.Odd (inr free) = λ state tree p. live_kind (image_of sizes state) onto.node (leads_live sizes found state tree p to onto.node (onto_leads state tree p)) (onto_kind state tree p Free free)
    way_stops (stopped.Refused refusals.NotFound) h = absurd h
    way_stops (stopped.Refused refusals.Exists) h = absurd h
    way_stops (stopped.Refused refusals.Inside) h = absurd h
    way_stops (stopped.Refused refusals.TooBig) h = absurd h
    way_stops (stopped.Refused refusals.NoNodes) h = absurd h
    way_stops (stopped.Refused refusals.NoSpace) h = absurd h
    way_stops (stopped.Refused refusals.DirFull) h = absurd h
    way_stops (stopped.Refused refusals.PastEnd) h = absurd h
    way_stops (stopped.Need block) h = absurd h
    way_stops stopped.NoMemory h = absurd h

    pub may_replace : FitsOver old.node node → Always sizes found (λ image. Matches image old.number onto.node)
    may_replace (inl (a, b)) state tree p = files (old_kind state tree p File a) (onto_kind state tree p File b)
    may_replace (inr (a, b, none)) state tree p = directories (old_kind state tree p Dir a) (onto_kind state tree p Dir b) (ap (λ (n : Node). n.size) (onto_is state tree p) ∙ none)

    -- the node that is replaced isn't the directory that loses an entry
    apart : FitsOver old.node node → (state : State) (tree : FileTree) → IsPossible sizes found state tree → onto.node ≢ old.dir
    apart (inl (a, b)) state tree p e = clash (sym (onto_kind state tree p File b) ∙ ap (λ d. (node_of (image_of sizes state) d).kind) e ∙ (m.at state tree p).directory)
      where
        clash : File ≡ Dir → ⊥
        clash z = cc
    apart (inr (a, b, none)) state tree p e =
        let empty = ap (λ d. (node_of (image_of sizes state) d).size) (sym e) ∙ ap (λ (n : Node). n.size) (onto_is state tree p) ∙ none in
        absurd (omega (arith, empty, place_within (image_of sizes state) m.front m.name old (m.at state tree p)))

    pub second_node : FitsOver old.node node → (state : State) (tree : FileTree) → IsPossible sizes found state tree → (first second : Image) → ReplacesEntry sizes (image_of sizes state) first to_dir onto.place link → Removes sizes first second old.dir old.place
        → second.node onto.node ≡ Some node
    second_node fits state tree p first second a r = r.is.others onto.node (apart fits state tree p) ∙ a.node onto.node ∙ is state tree p

    -- a node that may be replaced and names a block is a file
    release_foot : FitsOver old.node node → (state : State) (tree : FileTree) → IsPossible sizes found state tree → (block : ℕ) → IsReleaseBlock sizes (image_of sizes state) onto.node block → Foot sizes (image_of sizes state) call block
    release_foot fits state tree p block (inr e) = found_node to onto.node (1, refl) (onto_leads state tree p) e
    release_foot (inl (a, b)) state tree p block (inl (j, lt, e)) = map_of_freed (number_of (image_of sizes state) onto.node j) (inl (onto.node, j, record { leads = onto_leads state tree p; is_file = onto_kind state tree p File b }, lt, refl)) e
    release_foot (inr (a, b, none)) state tree p block (inl (j, lt, e)) =
        let image = image_of sizes state in
        let count : count_of image onto.node ≡ ((node_of image onto.node).size + 15) / 16 = ap (λ k. ((node_of image onto.node).size + (per_block k - 1)) / per_block k) (onto_kind state tree p Dir b) in
        absurd (omega (arith, count, ap (λ (n : Node). n.size) (onto_is state tree p), none, lt))

    -- ---- where the steps stop

    module _ (built : Changes) (fresh : built ≡ map_of.empty) where
      pub replace_stops : (h : Halt) → Halts sizes found built (λ image b. b ≡ item_block image to_dir onto.place) h → CallStops sizes found call (stopped_at h)
      replace_stops = stops_at sizes found built (λ image b. b ≡ item_block image to_dir onto.place) (λ image b. Foot sizes image call b) (λ state tree r. Answers sizes call (Refused r) tree state) (fresh_kept sizes found built fresh)
          (λ state tree p b e. entry_foot state tree p b (subst (λ i. b ≡ item_block i to_dir onto.place) (same_image sizes found built fresh state) e))

    module _ (first : Changes) (kept : KeepsFound found first) (replaces : (state : State) (tree : FileTree) → IsPossible sizes found state tree → ReplacesEntry sizes (image_of sizes state) (image_of sizes (put_blocks state first)) to_dir onto.place link) where
      same_node : (state : State) (tree : FileTree) → IsPossible sizes found state tree → (d : ℕ) → node_of (image_of sizes (put_blocks state first)) d ≡ node_of (image_of sizes state) d
      same_node state tree p d = ap (λ o. unwrap_or o free_node) ((replaces state tree p).node d)

      pub first_stored : (state : State) (tree : FileTree) → IsPossible sizes found state tree → IsStored sizes (image_of sizes (put_blocks state first))
      first_stored state tree p = replaced_stored sizes (image_of sizes state) (image_of sizes (put_blocks state first)) (possible_stored sizes state tree p.shows) to_dir onto.place link (replaces state tree p)

      pub first_directory : (state : State) (tree : FileTree) → IsPossible sizes found state tree → (node_of (image_of sizes (put_blocks state first)) old.dir).kind ≡ Dir
      first_directory state tree p = ap (λ (n : Node). n.kind) (same_node state tree p old.dir) ∙ (m.at state tree p).directory

      pub first_place : (state : State) (tree : FileTree) → IsPossible sizes found state tree → old.place < (node_of (image_of sizes (put_blocks state first)) old.dir).size
      first_place state tree p = subst (λ (n : Node). old.place < n.size) (sym (same_node state tree p old.dir)) (place_within (image_of sizes state) m.front m.name old (m.at state tree p))

      pub remove_stops : (s : Stopped) → RemoveStops sizes found first old.dir old.place s → CallStops sizes found call s
      remove_stops = stops_after sizes found first (λ image b. IsRemoveBlock sizes image old.dir old.place b) (λ image b. Foot sizes image call b) (λ state tree r. ⊥) (λ state tree r. Answers sizes call (Refused r) tree state) kept
          (λ state tree p b h. removal_foot sizes found from to old to_dir link m state tree p b (remove_same sizes (image_of sizes state) (image_of sizes (put_blocks state first)) old.dir old.place (same_node state tree p old.dir) b h)) (λ state tree p r no_. absurd no_)

      module _ (second : Changes) (kept' : KeepsFound found second) (fits : FitsOver old.node node) (removes : (state : State) (tree : FileTree) → IsPossible sizes found state tree → Removes sizes (image_of sizes (put_blocks state first)) (image_of sizes (put_blocks state second)) old.dir old.place) where
        pub release_stops : (s : Stopped) → ReleaseStops sizes found second onto.node s → CallStops sizes found call s
        release_stops = stops_after sizes found second (λ image b. IsReleaseBlock sizes image onto.node b) (λ image b. Foot sizes image call b) (λ state tree r. ⊥) (λ state tree r. Answers sizes call (Refused r) tree state) kept'
            (λ state tree p b h. release_foot fits state tree p b (release_same sizes (image_of sizes state) (image_of sizes (put_blocks state second)) onto.node (same state tree p) b h)) (λ state tree p r no_. absurd no_)
          where
            same : (state : State) (tree : FileTree) → IsPossible sizes found state tree → node_of (image_of sizes (put_blocks state second)) onto.node ≡ node_of (image_of sizes state) onto.node
            same state tree p = ap (λ o. unwrap_or o free_node) ((removes state tree p).is.others onto.node (apart fits state tree p)) ∙ same_node state tree p onto.node
