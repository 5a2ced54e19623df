-- What rename answers, by what the blocks say.
use Rattle.std.proofs.Common.{◌≡◌, ◌≢◌, ◌⊎◌, inl, inr, ℕ, ◌+◌, ◌-◌, ◌%◌, ◌<◌, ◌≤◌, Bool, true, false, cond, ◌&&◌, not, eqb, lt-ltb, eq-eqb, List, [], ◌∷◌, ◌++◌, length, Option, Some, None, IsSome, is_some, MatchOption, refl, sym, ap, ◌∙◌, subst, arith, append_assoc}
use Rattle.std.specs.Option.{option_and_then, unwrap_or}
use Rattle.std.proofs.lemmas.List.{length-append, nil_from_length}
use Rattle.std.proofs.lemmas.Slice.Eq.{bytes_eq-Decides, slice_eq-Decides}
use native.Mathlib.Decide.{ℕ_discrete}
use Rattle.zj_block.specs.Sizes.{Numbers, room}
use Rattle.zj_tree.specs.declared.content.Content.{Content}
use Rattle.zj_tree.specs.declared.content.Content.TheVariants as contents
use Rattle.zj_tree.specs.declared.call.Call.TheVariants.{Rename}
use Rattle.zj_tree.specs.declared.call.Refusal.{Refusal}
use Rattle.zj_tree.specs.declared.call.Refusal.TheVariants.{Inside, IsDir, NotDir, NotEmpty, DirFull, NoSpace}
use Rattle.zj_tree.specs.declared.call.Reply.TheVariants.{Done, Refused}
use Rattle.zj_tree.specs.Path.{parent, same_path, begins_with}
use Rattle.zj_tree.specs.Tree.{FileTree, content_at, entry_count, directory_blocks, content_blocks, used}
use Rattle.zj_tree.specs.Changed.{renamed, changed}
use Rattle.zj_tree.specs.Moved.{CanMove}
use Rattle.zj_tree.specs.Apply.{refuse_if, first_refusal, reasons, move_reasons, no_directory, no_replacing, no_room, is_directory, adds_entry, resolve}
use Rattle.zj_tree.proofs.EntryLemmas.{no_children}
use Rattle.zj_tree.proofs.MovedSums.{between_two}
use Rattle.zj_layout.specs.declared.fields.Kind.{Kind}
use Rattle.zj_layout.specs.declared.fields.Kind.TheVariants.{Free, File, Dir}
use Rattle.zj_layout.specs.declared.fields.Link.{Link}
use Rattle.zj_layout.specs.Graph.{Graph, links_of, content_of, link_at, named, step, follow}
use Rattle.zj_layout.specs.Image.{State, Image, image_of, node_of, free_node, byte_at_place, link_or_none, held, graph_of}
use Rattle.zj_layout.specs.Shows.{Shows, IsState, limits_of}
use Rattle.zj_layout.proofs.Follow.{Path', Name', some_is, none_some, ends, Ends, follow_more, last_step, one_path}
use Rattle.zj_layout.proofs.Live.{led_live}
use Rattle.zj_layout.proofs.Sound.{live_kind}
use Rattle.zj_layout.proofs.Counted.{parent_more}
use Rattle.zj_changes.specs.Moved.{Begins}
use Rattle.zj_changes.specs.Walk.{Stops, LeadsToNoDirectory, NoBlockFree}
use Rattle.zj_changes.specs.Holds.{HoldsTree, Renames, RenamesOver, Matches, files, directories, MayMove, GoesInto, Answers}
use Rattle.zj_changes.proofs.Begins.{nil_right, past_leaf, past_none}
use Rattle.zj_changes.proofs.Renamed.{begins_false, begins_true}
use Rattle.zj_changes.proofs.Trees.{is_tree, holds_links}
use Rattle.zj_changes.proofs.Freed.{file_holds}
use Rattle.zj_changes.proofs.Grown.{few_free}
use Rattle.zj_changes.proofs.Calls.{holds_shows, entry_step, entry_moved, entry_moved_over}
use Rattle.zj_changes.proofs.Walk.{node_at, nothing_at, directory_at, file_at, resolve_node, resolve_directory, nothing_is, no_directory_is}
use Rattle.zj_changes.proofs.Answering.{skip, tell, passes, counts, no_lt, differ, dir_length, holds, found, refused, served, count_at, fits, blocks_split}

and_false : (a : Bool) → (a && false) ≡ false
and_false true = refl
and_false false = refl

-- the tests of two paths
same_true : (p q : Path') → p ≡ q → same_path p q ≡ true
same_true p q e = (slice_eq-Decides bytes_eq-Decides p q (same_path p q) refl).1 e

same_false : (p q : Path') → p ≢ q → same_path p q ≡ false
same_false p q ne = by (same_path p q) refl
  where
    by : (b : Bool) → same_path p q ≡ b → b ≡ false
    by true e = absurd (ne ((slice_eq-Decides bytes_eq-Decides p q (same_path p q) refl).0 e))
    by false e = refl

-- nothing is in the way where nothing stands
over_nothing : (o : Option Content) (entries : ℕ) → no_replacing o None entries ≡ None
over_nothing None entries = refl
over_nothing (Some contents.Dir) entries = refl
over_nothing (Some (contents.File bytes)) entries = refl

-- what shows a directory is the node of one
dir_kind : (image : Image) (node : ℕ) → content_of (graph_of image node) ≡ Some contents.Dir → (node_of image node).kind ≡ Dir
dir_kind image node is = by (node_of image node).kind refl
  where
    by : (k : Kind) → (node_of image node).kind ≡ k → (node_of image node).kind ≡ Dir
    by Dir e = e
    by File e = let wrong : content_of (held File (node_of image node).size (byte_at_place image node) (link_or_none image node)) ≡ Some contents.Dir = ap (λ k. content_of (held k (node_of image node).size (byte_at_place image node) (link_or_none image node))) (sym e) ∙ is in absurd cc
    by Free e = let wrong : content_of (held Free (node_of image node).size (byte_at_place image node) (link_or_none image node)) ≡ Some contents.Dir = ap (λ k. content_of (held k (node_of image node).size (byte_at_place image node) (link_or_none image node))) (sym e) ∙ is in absurd cc

-- what goes into a directory doesn't go below itself
beyond : (sizes : Numbers) (image : Image) (t : FileTree) → HoldsTree sizes image t → (from to front : Path') (name : Name') (node dir : ℕ) → MayMove image node from to → to ≡ front ++ name ∷ [] → follow (graph_of image) 0 front ≡ Some dir → (node_of image dir).kind ≡ Dir
    → Begins to from → ⊥
beyond sizes image t h from to front name node dir m to_is leads is_dir b = by (node_of image node).kind refl
  where
    below_file : (node_of image node).kind ≡ File → (b.0 ≡ []) ⊎ Ends b.0 → ⊥
    below_file is (inl e) = m.apart (sym (b.1 ∙ ap (λ y. from ++ y) e ∙ nil_right from))
    below_file is (inr e) = cases (past_leaf (graph_of image) from e.front node m.leads (ap links_of (file_holds image node is)))
      where
        front_is : front ≡ from ++ e.front
        front_is = sym (parent_more front name) ∙ ap parent (sym to_is ∙ b.1 ∙ ap (λ y. from ++ y) e.is ∙ sym (append_assoc from e.front (e.name ∷ []))) ∙ parent_more (from ++ e.front) e.name

        differ_kinds : File ≡ Dir → ⊥
        differ_kinds z = cc

        cases : (e.front ≡ []) ⊎ (follow (graph_of image) 0 (from ++ e.front) ≡ None) → ⊥
        cases (inl z) = differ_kinds (sym is ∙ ap (λ k. (node_of image k).kind) (some_is (sym m.leads ∙ ap (follow (graph_of image) 0) (sym (front_is ∙ ap (λ y. from ++ y) z ∙ nil_right from)) ∙ leads)) ∙ is_dir)
        cases (inr z) = none_some (sym z ∙ ap (follow (graph_of image) 0) (sym front_is) ∙ leads)

    by : (k : Kind) → (node_of image node).kind ≡ k → ⊥
    by Dir e = m.outside e b
    by File e = below_file e (ends b.0)
    by Free e = live_kind image node (led_live sizes.nodes (graph_of image) h.rooted from node m.leads) e

module _ (sizes : Numbers) (s : State) (t : FileTree) (shows : Shows sizes s t) where
  abbrev old : Image
  old = image_of sizes s

  abbrev g : Graph
  g = graph_of old

  h : HoldsTree sizes old t
  h = holds sizes s t shows

  pub rename_stops : (from to : Path') (refusal : Refusal) → Stops old from refusal → Answers sizes (Rename from to) (Refused refusal) t s
  rename_stops from to refusal why = refused sizes s t shows (Rename from to) refusal (tell _ _ refusal (nothing_is old t h.describes from refusal why))

  pub rename_root : (to : Path') → Answers sizes (Rename [] to) (Refused Inside) t s
  rename_root to = refused sizes s t shows (Rename [] to) Inside (skip _ _ (found sizes s t shows [] 0 refl) ∙ refl)

  pub rename_same : (path : Path') (node : ℕ) → follow g 0 path ≡ Some node → 0 < length path → Answers sizes (Rename path path) Done t s
  rename_same path node leads below = served sizes s t shows s (Rename path path) Done (
      skip _ _ (found sizes s t shows path node leads)
      ∙ skip _ _ (passes _ Inside (differ (length path) 0 (λ e. omega arith)))
      ∙ ap (λ b. first_refusal (cond b [] (move_reasons (limits_of sizes) t path path))) (same_true path path refl)
      ) refl (subst (Shows sizes s) (sym (ap (λ b. cond b t (renamed t path path)) (same_true path path refl))) shows)

  -- a rename to another path is refused for the reasons of a move
  moves_on : (from to : Path') (node : ℕ) → follow g 0 from ≡ Some node → 0 < length from → from ≢ to → first_refusal (reasons (limits_of sizes) (Rename from to) t) ≡ first_refusal (move_reasons (limits_of sizes) t from to)
  moves_on from to node leads below other =
      skip _ _ (found sizes s t shows from node leads)
      ∙ skip _ _ (passes _ Inside (differ (length from) 0 (λ e. omega arith)))
      ∙ ap (λ b. first_refusal (cond b [] (move_reasons (limits_of sizes) t from to))) (same_false from to other)

  pub rename_inside : (from : Path') (name : Name') (rest : Path') (node : ℕ) → follow g 0 from ≡ Some node → 0 < length from → (node_of old node).kind ≡ Dir → Answers sizes (Rename from (from ++ name ∷ rest)) (Refused Inside) t s
  rename_inside from name rest node leads below is = refused sizes s t shows (Rename from (from ++ name ∷ rest)) Inside (
      moves_on from (from ++ name ∷ rest) node leads below (λ e. omega (arith, ap length e, length-append from (name ∷ rest)))
      ∙ tell _ _ Inside (counts _ Inside (λ i. is_directory (directory_at old t h.describes from node leads is i) && begins_true (from ++ name ∷ rest) from (name ∷ rest, refl) i)))

  module _ (from to : Path') (node : ℕ) (m : MayMove old node from to) where
    -- what moves isn't put into itself
    not_inside : (is_directory (content_at t from) && begins_with to from) ≡ false
    not_inside = by (node_of old node).kind refl
      where
        by : (k : Kind) → (node_of old node).kind ≡ k → (is_directory (content_at t from) && begins_with to from) ≡ false
        by Dir e = ap (λ b. is_directory (content_at t from) && b) (begins_false to from (m.outside e)) ∙ and_false (is_directory (content_at t from))
        by File e = ap (λ o. is_directory o && begins_with to from) (file_at old t h.describes from node m.leads e)
        by Free e = ap (λ o. is_directory o && begins_with to from) (node_at old t h.describes from node m.leads ∙ ap (λ k. content_of (held k (node_of old node).size (byte_at_place old node) (link_or_none old node))) e)

    moving : first_refusal (reasons (limits_of sizes) (Rename from to) t) ≡ first_refusal (
        cond (eqb (length to) 0) None (no_directory (resolve t (parent to))) ∷
        no_replacing (content_at t from) (content_at t to) (entry_count t to) ∷
        refuse_if (adds_entry t from to && eqb (entry_count t (parent to)) 192) DirFull ∷
        no_room (limits_of sizes) (renamed t from to) ∷ [])
    moving = moves_on from to node m.leads m.below_root m.apart ∙ skip _ _ (passes _ Inside not_inside)

    parent_of : (front : Path') (name : Name') → to ≡ front ++ name ∷ [] → cond (eqb (length to) 0) None (no_directory (resolve t (parent to))) ≡ no_directory (resolve t front)
    parent_of front name e =
        ap (λ q. cond (eqb (length q) 0) None (no_directory (resolve t (parent q)))) e
        ∙ ap (λ b. cond b None (no_directory (resolve t (parent (front ++ name ∷ []))))) (differ (length (front ++ name ∷ [])) 0 (λ z. omega (arith, length-append front (name ∷ []))))
        ∙ ap (λ q. no_directory (resolve t q)) (parent_more front name)

    pub rename_no_directory : (front : Path') (name : Name') (refusal : Refusal) → to ≡ front ++ name ∷ [] → LeadsToNoDirectory old front refusal → Answers sizes (Rename from to) (Refused refusal) t s
    rename_no_directory front name refusal e why = refused sizes s t shows (Rename from to) refusal (moving ∙ tell _ _ refusal (parent_of front name e ∙ no_directory_is old t h.describes front refusal why))

    -- what leads somewhere lies in a directory
    parent_leads : (onto : ℕ) → follow g 0 to ≡ Some onto → cond (eqb (length to) 0) None (no_directory (resolve t (parent to))) ≡ None
    parent_leads onto leads = by (ends to)
      where
        by : (to ≡ []) ⊎ Ends to → cond (eqb (length to) 0) None (no_directory (resolve t (parent to))) ≡ None
        by (inl e) = ap (λ q. cond (eqb (length q) 0) None (no_directory (resolve t (parent q)))) e
        by (inr e) =
            let last = last_step g e.front e.name onto (ap (follow g 0) (sym e.is) ∙ leads) in
            parent_of e.front e.name e.is ∙ ap no_directory (resolve_node old t h.describes e.front last.dir contents.Dir last.to_dir (holds_links (g last.dir) e.name onto last.last))

    pub rename_file_onto_directory : (onto : ℕ) → (node_of old node).kind ≡ File → follow g 0 to ≡ Some onto → (node_of old onto).kind ≡ Dir → Answers sizes (Rename from to) (Refused IsDir) t s
    rename_file_onto_directory onto is leads onto_is = refused sizes s t shows (Rename from to) IsDir (
        moving
        ∙ skip _ _ (parent_leads onto leads)
        ∙ tell _ _ IsDir (λ i. no_replacing (file_at old t h.describes from node m.leads is i) (directory_at old t h.describes to onto leads onto_is i) (entry_count t to)))

    pub rename_directory_onto_file : (onto : ℕ) → (node_of old node).kind ≡ Dir → follow g 0 to ≡ Some onto → (node_of old onto).kind ≡ File → Answers sizes (Rename from to) (Refused NotDir) t s
    rename_directory_onto_file onto is leads onto_is = refused sizes s t shows (Rename from to) NotDir (
        moving
        ∙ skip _ _ (parent_leads onto leads)
        ∙ tell _ _ NotDir (λ i. no_replacing (directory_at old t h.describes from node m.leads is i) (file_at old t h.describes to onto leads onto_is i) (entry_count t to)))

    pub rename_onto_full : (onto : ℕ) → (node_of old node).kind ≡ Dir → follow g 0 to ≡ Some onto → (node_of old onto).kind ≡ Dir → 0 < (node_of old onto).size → Answers sizes (Rename from to) (Refused NotEmpty) t s
    rename_onto_full onto is leads onto_is some = refused sizes s t shows (Rename from to) NotEmpty (
        moving
        ∙ skip _ _ (parent_leads onto leads)
        ∙ tell _ _ NotEmpty ((λ i. no_replacing (directory_at old t h.describes from node m.leads is i) (directory_at old t h.describes to onto leads onto_is i) (entry_count t to))
        ∙ counts _ NotEmpty (lt-ltb 0 (entry_count t to) (omega (arith, count_at sizes s t shows to onto leads onto_is)))))

    pub rename_directory_onto_root : (node_of old node).kind ≡ Dir → to ≡ [] → Answers sizes (Rename from to) (Refused NotEmpty) t s
    rename_directory_onto_root is e = rename_onto_full 0 is (ap (follow g 0) e) root_is (by from m.leads m.below_root)
      where
        root_is : (node_of old 0).kind ≡ Dir
        root_is = (h.stored.placed 0 (omega (arith, shows.shape.limits.least_nodes))).root refl

        some : (xs : List Link) (name : Name') (next : ℕ) → named name xs ≡ Some next → 0 < length xs
        some [] name next e = absurd (none_some e)
        some (x ∷ xs) name next e = omega arith

        by : (path : Path') → follow g 0 path ≡ Some node → 0 < length path → 0 < (node_of old 0).size
        by [] leads below = absurd (omega arith)
        by (name ∷ rest) leads below = first (step g 0 name) refl leads
          where
            first : (o : Option ℕ) → step g 0 name ≡ o → option_and_then (λ next. follow g next rest) o ≡ Some node → 0 < (node_of old 0).size
            first None z w = absurd (none_some w)
            first (Some next) z w = omega (arith, dir_length old 0 root_is, some (links_of (g 0)) name next z)

    -- ---- into another directory

    module _ (dir to_dir : ℕ) (i : GoesInto old from to dir to_dir) where
      to_nothing : follow g 0 to ≡ None
      to_nothing = ap (follow g 0) i.to_is ∙ follow_more g 0 i.to_front i.to_name ∙ ap (option_and_then (λ d. step g d i.to_name)) i.to_leads ∙ i.absent

      none_there : content_at t to ≡ None
      none_there = nothing_at old t h.describes to to_nothing

      from_parent : parent from ≡ i.front
      from_parent = ap parent i.from_is ∙ parent_more i.front i.name

      to_parent : parent to ≡ i.to_front
      to_parent = ap parent i.to_is ∙ parent_more i.to_front i.to_name

      parents_apart : parent from ≢ parent to
      parents_apart e = i.apart (some_is (sym i.leads ∙ ap (follow g 0) (sym from_parent ∙ e ∙ to_parent) ∙ i.to_leads))

      to_count : entry_count t (parent to) ≡ (node_of old to_dir).size
      to_count = ap (entry_count t) to_parent ∙ count_at sizes s t shows i.to_front to_dir i.to_leads i.directory

      from_dir : content_of (g dir) ≡ Some contents.Dir
      from_dir =
          let last = last_step g i.front i.name node (ap (follow g 0) (sym i.from_is) ∙ m.leads) in
          ap (λ d. content_of (g d)) (some_is (sym i.leads ∙ last.to_dir)) ∙ holds_links (g last.dir) i.name node last.last

      -- nothing is replaced, and the directory of the new path is there
      into : first_refusal (reasons (limits_of sizes) (Rename from to) t) ≡ first_refusal (refuse_if (adds_entry t from to && eqb (entry_count t (parent to)) 192) DirFull ∷ no_room (limits_of sizes) (renamed t from to) ∷ [])
      into =
          moving
          ∙ skip _ _ (parent_of i.to_front i.to_name i.to_is ∙ ap no_directory (resolve_directory old t h.describes i.to_front to_dir i.to_leads i.directory))
          ∙ skip _ _ (ap (λ o. no_replacing (content_at t from) o (entry_count t to)) none_there ∙ over_nothing (content_at t from) (entry_count t to))

      pub rename_dir_full : (node_of old to_dir).size ≡ 192 → Answers sizes (Rename from to) (Refused DirFull) t s
      rename_dir_full full = refused sizes s t shows (Rename from to) DirFull (
          into ∙ tell _ _ DirFull (counts _ DirFull (λ k. (not (is_some (none_there k)) && not (same_false (parent from) (parent to) parents_apart k)) && eq-eqb (entry_count t (parent to)) 192 (to_count ∙ full) k)))

      can_move : CanMove t from to
      can_move = record {
        is_tree = is_tree sizes old t h;
        there = subst IsSome (sym (node_at old t h.describes from node m.leads)) (led_live sizes.nodes g h.rooted from node m.leads);
        outside = begins_false to from outside;
        not_above = begins_false from to (λ b. none_some (sym (past_none g to b.0 to_nothing) ∙ ap (follow g 0) (sym b.1) ∙ m.leads));
        directory = ap (content_at t) to_parent ∙ directory_at old t h.describes i.to_front to_dir i.to_leads i.directory;
        empty = no_children t to (is_tree sizes old t h) (λ e. none_dir (sym none_there ∙ e));
      }
        where
          none_dir : ◌≡◌ {A = Option Content} None (Some contents.Dir) → ⊥
          none_dir e = cc

          outside : Begins to from → ⊥
          outside b = beyond sizes old t h from to i.to_front i.to_name node to_dir m i.to_is i.to_leads i.directory b

      pub rename_no_space : (node_of old to_dir).size ≢ 192 → (node_of old to_dir).size % 16 ≡ 0 → (node_of old dir).size % 16 ≢ 1 → NoBlockFree sizes old → Answers sizes (Rename from to) (Refused NoSpace) t s
      rename_no_space few whole kept none = refused sizes s t shows (Rename from to) NoSpace (
          into
          ∙ skip _ _ (passes _ DirFull (ap (λ b. adds_entry t from to && b) (differ (entry_count t (parent to)) 192 (λ e. few (sym to_count ∙ e))) ∙ and_false (adds_entry t from to)))
          ∙ tell _ _ NoSpace (counts _ NoSpace (lt-ltb (room sizes) (used (renamed t from to)) (by (content_at t from) refl can_move.there))))
        where
          from_count : entry_count t (parent from) ≡ (node_of old dir).size
          from_count = ap (entry_count t) from_parent ∙ count_at sizes s t shows i.front dir i.leads (dir_kind old dir from_dir)

          nothing_freed : MatchOption (content_at t to) (◌≡◌ {A = ℕ} 0 0) (λ c. 0 ≡ content_blocks c)
          nothing_freed = subst (λ o. MatchOption o (◌≡◌ {A = ℕ} 0 0) (λ c. 0 ≡ content_blocks c)) (sym none_there) refl

          there_none : ◌≡◌ {A = ℕ} (cond (is_some (content_at t to)) 1 0) 0
          there_none = ap (λ o. cond (is_some o) 1 0) none_there

          by : (o : Option Content) → content_at t from ≡ o → IsSome o → room sizes < used (renamed t from to)
          by None e some = absurd cc
          by (Some c) e some = add_up _ _ _ _ _ _ _ _ _ (between_two t from to can_move c e 0 nothing_freed parents_apart) from_count to_count there_none kept whole (blocks_split sizes s t shows.shape h) (few_free sizes old h.stored [] (λ b above below z. absurd (none b above below z)))
            where
              add_up : (new u p q there free room m n : ℕ) → new + (directory_blocks p + directory_blocks q) + 0 ≡ u + (directory_blocks (p - 1) + directory_blocks (q + 1 - there)) → p ≡ m → q ≡ n → there ≡ 0 → m % 16 ≢ 1 → n % 16 ≡ 0 → u + free ≡ room → free ≤ 0 → room < new
              add_up new u p q there free room m n law from_is to_is none kept whole split few =
                  let lost : directory_blocks (p - 1) ≡ directory_blocks p = omega arith in
                  let won : directory_blocks (q + 1 - there) ≡ directory_blocks q + 1 = omega arith in
                  omega (arith, law, lost, won, split, few)

  -- ---- renames that are done

  module _ (path : Path') (dir place : ℕ) (link : Link) (to_path : Path') (to_dir : ℕ) (name : Name')
      (leads : follow g 0 path ≡ Some dir) (there : link_at g dir place ≡ Some link) (to_leads : follow g 0 to_path ≡ Some to_dir) (is_dir : (node_of old to_dir).kind ≡ Dir)
      (outside : (node_of old link.node).kind ≡ Dir → Begins (to_path ++ name ∷ []) (path ++ link.name ∷ []) → ⊥) where
    abbrev from : Path'
    from = path ++ link.name ∷ []

    abbrev to : Path'
    to = to_path ++ name ∷ []

    from_leads : follow g 0 from ≡ Some link.node
    from_leads = follow_more g 0 path link.name ∙ ap (option_and_then (λ d. step g d link.name)) leads ∙ entry_step sizes old old t h dir place link there

    to_step : follow g 0 to ≡ step g to_dir name
    to_step = follow_more g 0 to_path name ∙ ap (option_and_then (λ d. step g d name)) to_leads

    may_move : from ≢ to → MayMove old link.node from to
    may_move other = record { leads = from_leads; below_root = omega (arith, length-append path (link.name ∷ [])); apart = other; outside = outside }

    away : from ≢ to → Begins to from → ⊥
    away other = beyond sizes old t h from to to_path name link.node to_dir (may_move other) refl to_leads is_dir

    -- the tree that the rename leaves
    leaves : from ≢ to → (s' : State) → Shows sizes s' (renamed t from to) → Shows sizes s' (changed (Rename from to) t)
    leaves other s' after = subst (Shows sizes s') (sym (ap (λ b. cond b t (renamed t from to)) (same_false from to other))) after

    parent_there : from ≢ to → cond (eqb (length to) 0) None (no_directory (resolve t (parent to))) ≡ None
    parent_there other = parent_of from to link.node (may_move other) to_path name refl ∙ ap no_directory (resolve_directory old t h.describes to_path to_dir to_leads is_dir)

    pub rename_done : (s' : State) → step g to_dir name ≡ None → IsState sizes s' → Renames sizes old (image_of sizes s') dir place to_dir (record { node = link.node; name = name }) → Answers sizes (Rename from to) Done t s'
    rename_done s' absent shape a =
        served sizes s t shows s' (Rename from to) Done (
        moving from to link.node (may_move other)
        ∙ skip _ _ (parent_there other)
        ∙ skip _ _ (ap (λ o. no_replacing (content_at t from) o (entry_count t to)) (nothing_at old t h.describes to (to_step ∙ absent)) ∙ over_nothing (content_at t from) (entry_count t to))
        ∙ skip _ _ (passes _ DirFull (not_full (ℕ_discrete to_dir dir)))
        ∙ skip _ _ (passes _ NoSpace (no_lt (room sizes) (used (renamed t from to)) (fits sizes s' _ after)))
        ) refl (leaves other s' after)
      where
        other : from ≢ to
        other e = none_some (sym absent ∙ sym to_step ∙ ap (follow g 0) (sym e) ∙ from_leads)

        after : Shows sizes s' (renamed t from to)
        after = holds_shows sizes s' _ shape (entry_moved sizes old (image_of sizes s') t h path dir place link to_path to_dir name leads there to_leads absent (away other) a)

        not_full : Dec (to_dir ≡ dir) → (adds_entry t from to && eqb (entry_count t (parent to)) 192) ≡ false
        not_full (no ne) = ap (λ b. adds_entry t from to && b) (differ (entry_count t (parent to)) 192 (λ full. omega (
          arith,
          full,
          ap (entry_count t) (parent_more to_path name) ∙ count_at sizes s t shows to_path to_dir to_leads is_dir,
          ap (λ o. (unwrap_or o free_node).size) (a.removes.others to_dir ne),
          a.appends.is.size_is,
          a.appends.is.fits,
        ))) ∙ and_false (adds_entry t from to)
        not_full (yes e) =
            ap (λ b. (not (is_some (content_at t to)) && not b) && eqb (entry_count t (parent to)) 192) (same_true (parent from) (parent to) same_parent)
            ∙ ap (λ b. b && eqb (entry_count t (parent to)) 192) (and_false (not (is_some (content_at t to))))
          where
            same_parent : parent from ≡ parent to
            same_parent = parent_more path link.name ∙ one_path sizes.nodes g h.rooted path to_path dir leads (to_leads ∙ ap (λ (k : ℕ). Some k) e) ∙ sym (parent_more to_path name)

    pub rename_over_done : (to_place : ℕ) (over : Link) (s' : State) → link_at g to_dir to_place ≡ Some over → over.name ≡ name → from ≢ to → Matches old link.node over.node → IsState sizes s'
        → RenamesOver sizes old (image_of sizes s') dir place to_dir to_place (record { node = link.node; name = name }) over.node → Answers sizes (Rename from to) Done t s'
    rename_over_done to_place over s' onto named_so other matches shape a =
        served sizes s t shows s' (Rename from to) Done (
        moving from to link.node (may_move other)
        ∙ skip _ _ (parent_there other)
        ∙ skip _ _ (replaces matches)
        ∙ skip _ _ (passes _ DirFull (ap (λ b. (not b && not (same_path (parent from) (parent to))) && eqb (entry_count t (parent to)) 192) something))
        ∙ skip _ _ (passes _ NoSpace (no_lt (room sizes) (used (renamed t from to)) (fits sizes s' _ after)))
        ) refl (leaves other s' after)
      where
        over_leads : follow g 0 to ≡ Some over.node
        over_leads = to_step ∙ ap (step g to_dir) (sym named_so) ∙ entry_step sizes old old t h to_dir to_place over onto

        something : is_some (content_at t to) ≡ true
        something = ap is_some (node_at old t h.describes to over.node over_leads) ∙ led_live sizes.nodes g h.rooted to over.node over_leads

        replaces : Matches old link.node over.node → no_replacing (content_at t from) (content_at t to) (entry_count t to) ≡ None
        replaces (files is onto_is) = λ i. no_replacing (file_at old t h.describes from link.node from_leads is i) (file_at old t h.describes to over.node over_leads onto_is i) (entry_count t to)
        replaces (directories is onto_is none) = λ i. no_replacing (directory_at old t h.describes from link.node from_leads is i) (directory_at old t h.describes to over.node over_leads onto_is i) ((count_at sizes s t shows to over.node over_leads onto_is ∙ none) i)

        empty : Matches old link.node over.node → links_of (g over.node) ≡ []
        empty (files is onto_is) = ap links_of (file_holds old over.node onto_is)
        empty (directories is onto_is none) = nil_from_length _ (dir_length old over.node onto_is ∙ none)

        after : Shows sizes s' (renamed t from to)
        after = holds_shows sizes s' _ shape (subst (λ n. HoldsTree sizes (image_of sizes s') (renamed t from (to_path ++ n ∷ []))) named_so
            (entry_moved_over sizes old (image_of sizes s') t h path dir place link to_path to_dir to_place over leads there to_leads onto (empty matches)
            (λ b. away other (subst (λ n. Begins (to_path ++ n ∷ []) from) named_so b))
            (subst (λ n. RenamesOver sizes old (image_of sizes s') dir place to_dir to_place (record { node = link.node; name = n }) over.node) (sym named_so) a)))
