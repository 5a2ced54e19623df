-- What mkdir and create answer, by what the blocks say.
use Rattle.std.proofs.Common.{◌≡◌, ◌≢◌, ℕ, ◌+◌, ◌%◌, ◌<◌, true, false, cond, zero, suc, eqb, lt-ltb, eq-eqb, List, [], ◌∷◌, ◌++◌, length, Some, None, is_some, refl, sym, ap, ◌∙◌, subst, arith}
use Rattle.std.specs.FinMap as map_of
use Rattle.std.specs.Option.{option_and_then, unwrap_or}
use Rattle.std.proofs.lemmas.List.{length-append}
use Rattle.zj_block.specs.Sizes.{Numbers, room}
use Rattle.zj_tree.specs.declared.content.Content.{Content}
use Rattle.zj_tree.specs.declared.content.Content.TheVariants as contents
use Rattle.zj_tree.specs.declared.call.Refusal.{Refusal}
use Rattle.zj_tree.specs.declared.call.Refusal.TheVariants.{Exists, DirFull, NoNodes, NoSpace}
use Rattle.zj_tree.specs.declared.call.Reply.TheVariants.{Done, Refused}
use Rattle.zj_tree.specs.Path.{parent}
use Rattle.zj_tree.specs.Tree.{FileTree, content_at, entry_count, node_count, used}
use Rattle.zj_tree.specs.Changed.{changed}
use Rattle.zj_tree.specs.Apply.{Limits, refuse_if, no_directory, no_room, resolve, new_entry_reasons, first_refusal, reasons, answer}
use Rattle.zj_layout.specs.declared.fields.Kind.{Kind}
use Rattle.zj_layout.specs.declared.fields.Kind.TheVariants.{Free, File, Dir}
use Rattle.zj_layout.specs.declared.fields.Link.{Link}
use Rattle.zj_layout.specs.Graph.{Graph, Nothing, Links, links_of, content_of, step, follow}
use Rattle.zj_layout.specs.Image.{State, Image, image_of, node_of, free_node, byte_at_place, link_or_none, held, graph_of}
use Rattle.zj_layout.specs.Shows.{Shows, IsState, limits_of}
use Rattle.zj_layout.proofs.Follow.{Path', Name', follow_more}
use Rattle.zj_layout.proofs.Sound.{kind_live}
use Rattle.zj_layout.proofs.Total.{total, total_agree, one_if}
use Rattle.zj_layout.proofs.Counted.{parent_more, nodes_left, nodes_counted, is_live, blocks_held}
use Rattle.zj_layout.proofs.Fresh.{empty_of}
use Rattle.zj_changes.specs.Walk.{LeadsToNoDirectory, NoNodeFree, NoBlockFree}
use Rattle.zj_changes.specs.Holds.{HoldsTree, empty_content, MakesEntry, making, Answers}
use Rattle.zj_changes.proofs.Made.{empty_leaf, content_is, entry_made, apart}
use Rattle.zj_changes.proofs.Grown.{used_more, few_free}
use Rattle.zj_changes.proofs.Calls.{holds_shows}
use Rattle.zj_changes.proofs.Walk.{nothing_at, node_at, resolve_directory, no_directory_is}
use Rattle.zj_changes.proofs.Answering.{skip, tell, passes, counts, no_lt, differ, dir_length, holds, refused, served, count_at, fits, blocks_split}

-- both calls are refused for the reasons of a new entry, and answer alike
make_reasons : (limits : Limits) (kind : Kind) (path : Path') (t : FileTree) → reasons limits (making kind path) t ≡ new_entry_reasons limits t path (changed (making kind path) t)
make_reasons limits Free path t = refl
make_reasons limits File path t = refl
make_reasons limits Dir path t = refl

make_answer : (kind : Kind) (path : Path') (t : FileTree) → answer (making kind path) t ≡ Done
make_answer Free path t = refl
make_answer File path t = refl
make_answer Dir path t = refl

-- what they put into the tree
abbrev content_made : (kind : Kind) → kind ≢ Free → Content
content_made Free ne = absurd (ne refl)
content_made File ne = contents.File []
content_made Dir ne = contents.Dir

made_content : (kind : Kind) (ne : kind ≢ Free) → empty_content kind ≡ Some (content_made kind ne)
made_content Free ne = absurd (ne refl)
made_content File ne = refl
made_content Dir ne = refl

made_tree : (kind : Kind) (ne : kind ≢ Free) (path : Path') (t : FileTree) → changed (making kind path) t ≡ map_of.insert t path (content_made kind ne)
made_tree Free ne path t = absurd (ne refl)
made_tree File ne path t = refl
made_tree Dir ne path t = refl

no_blocks_held : (kind : Kind) → blocks_held (empty_of kind) ≡ 0
no_blocks_held Free = refl
no_blocks_held File = refl
no_blocks_held Dir = refl

ones : (n : ℕ) → total (λ i. 1) n ≡ n
ones zero = refl
ones (suc n) = omega (arith, ones n)

module _ (sizes : Numbers) (s : State) (t : FileTree) (shows : Shows sizes s t) where
  abbrev old : Image
  old = image_of sizes s

  abbrev g : Graph
  g = graph_of old

  h : HoldsTree sizes old t
  h = holds sizes s t shows

  new_reasons : (kind : Kind) (path : Path') → first_refusal (reasons (limits_of sizes) (making kind path) t) ≡ first_refusal (new_entry_reasons (limits_of sizes) t path (changed (making kind path) t))
  new_reasons kind path = ap first_refusal (make_reasons (limits_of sizes) kind path t)

  not_root : (path : Path') (name : Name') → eqb (length (path ++ name ∷ [])) 0 ≡ false
  not_root path name = differ (length (path ++ name ∷ [])) 0 (λ e. omega (arith, length-append path (name ∷ [])))

  -- no node is free: the tree has as many as there may be
  nodes_full : NoNodeFree sizes old → node_count t ≡ sizes.nodes
  nodes_full all =
      nodes_counted sizes.nodes g t h.rooted h.describes
      ∙ total_agree (λ i. one_if (is_live g i)) (λ i. 1) sizes.nodes (λ i lt. ap one_if (kind_live old i (all i lt))) ∙ ones sizes.nodes

  nodes_free : (node : ℕ) → node < sizes.nodes → (node_of old node).kind ≡ Free → node_count t < sizes.nodes
  nodes_free node lt free = nodes_left sizes.nodes g t h.rooted h.describes node lt (ap (λ k. content_of (held k (node_of old node).size (byte_at_place old node) (link_or_none old node))) free)

  pub make_root : (kind : Kind) → Answers sizes (making kind []) (Refused Exists) t s
  make_root kind = refused sizes s t shows (making kind []) Exists (new_reasons kind [])

  pub make_no_directory : (kind : Kind) (path : Path') (name : Name') (refusal : Refusal) → LeadsToNoDirectory old path refusal → Answers sizes (making kind (path ++ name ∷ [])) (Refused refusal) t s
  make_no_directory kind path name refusal why = refused sizes s t shows (making kind (path ++ name ∷ [])) refusal (
      new_reasons kind (path ++ name ∷ [])
      ∙ skip _ _ (passes _ Exists (not_root path name))
      ∙ tell _ _ refusal (ap (λ q. no_directory (resolve t q)) (parent_more path name) ∙ no_directory_is old t h.describes path refusal why))

  module _ (kind : Kind) (path : Path') (dir : ℕ) (name : Name') (leads : follow g 0 path ≡ Some dir) (is_dir : (node_of old dir).kind ≡ Dir) where
    abbrev new_path : Path'
    new_path = path ++ name ∷ []

    follow_new : follow g 0 new_path ≡ step g dir name
    follow_new = follow_more g 0 path name ∙ ap (option_and_then (λ d. step g d name)) leads

    parent_is_dir : no_directory (resolve t (parent new_path)) ≡ None
    parent_is_dir = ap (λ q. no_directory (resolve t q)) (parent_more path name) ∙ ap no_directory (resolve_directory old t h.describes path dir leads is_dir)

    abbrev grown : FileTree
    grown = changed (making kind new_path) t

    -- the first two reasons don't count
    in_directory : first_refusal (reasons (limits_of sizes) (making kind new_path) t)
        ≡ first_refusal (refuse_if (is_some (content_at t new_path)) Exists ∷ refuse_if (eqb (entry_count t (parent new_path)) 192) DirFull ∷ refuse_if (eqb (node_count t) sizes.nodes) NoNodes ∷ no_room (limits_of sizes) grown ∷ [])
    in_directory = new_reasons kind new_path ∙ skip _ _ (passes _ Exists (not_root path name)) ∙ skip _ _ parent_is_dir

    pub make_exists : (node : ℕ) → step g dir name ≡ Some node → Answers sizes (making kind new_path) (Refused Exists) t s
    make_exists node there = refused sizes s t shows (making kind new_path) Exists (in_directory ∙ tell _ _ Exists (counts _ Exists taken))
      where
        taken : is_some (content_at t new_path) ≡ true
        taken = ap is_some (node_at old t h.describes new_path node (follow_new ∙ there)) ∙ (h.rooted.target dir node name there).1

    module _ (absent : step g dir name ≡ None) where
      untaken : is_some (content_at t new_path) ≡ false
      untaken = ap is_some (nothing_at old t h.describes new_path (follow_new ∙ absent))

      count_is : entry_count t (parent new_path) ≡ (node_of old dir).size
      count_is = ap (entry_count t) (parent_more path name) ∙ count_at sizes s t shows path dir leads is_dir

      pub make_dir_full : (node_of old dir).size ≡ 192 → Answers sizes (making kind new_path) (Refused DirFull) t s
      make_dir_full full = refused sizes s t shows (making kind new_path) DirFull (
          in_directory ∙ skip _ _ (passes _ Exists untaken) ∙ tell _ _ DirFull (counts _ DirFull (eq-eqb (entry_count t (parent new_path)) 192 (count_is ∙ full))))

      past_full : (node_of old dir).size ≢ 192 → first_refusal (reasons (limits_of sizes) (making kind new_path) t) ≡ first_refusal (refuse_if (eqb (node_count t) sizes.nodes) NoNodes ∷ no_room (limits_of sizes) grown ∷ [])
      past_full few = in_directory ∙ skip _ _ (passes _ Exists untaken) ∙ skip _ _ (passes _ DirFull (differ (entry_count t (parent new_path)) 192 (λ e. few (sym count_is ∙ e))))

      pub make_no_nodes : (node_of old dir).size ≢ 192 → NoNodeFree sizes old → Answers sizes (making kind new_path) (Refused NoNodes) t s
      make_no_nodes few all = refused sizes s t shows (making kind new_path) NoNodes (past_full few ∙ tell _ _ NoNodes (counts _ NoNodes (eq-eqb (node_count t) sizes.nodes (nodes_full all))))

      past_nodes : (node_of old dir).size ≢ 192 → (node : ℕ) → node < sizes.nodes → (node_of old node).kind ≡ Free → first_refusal (reasons (limits_of sizes) (making kind new_path) t) ≡ first_refusal (no_room (limits_of sizes) grown ∷ [])
      past_nodes few node lt free = past_full few ∙ skip _ _ (passes _ NoNodes (differ (node_count t) sizes.nodes (λ e. omega (arith, nodes_free node lt free))))

      pub make_no_space : kind ≢ Free → (node_of old dir).size ≢ 192 → (node : ℕ) → node < sizes.nodes → (node_of old node).kind ≡ Free → (node_of old dir).size % 16 ≡ 0 → NoBlockFree sizes old
          → Answers sizes (making kind new_path) (Refused NoSpace) t s
      make_no_space new few node lt free whole none = refused sizes s t shows (making kind new_path) NoSpace (
          past_nodes few node lt free ∙ tell _ _ NoSpace (counts _ NoSpace (lt-ltb (room sizes) (used grown) more)))
        where
          c : Content
          c = content_made kind new

          es : List Link
          es = links_of (g dir)

          held_dir : g dir ≡ Links es
          held_dir = ap (λ k. held k (node_of old dir).size (byte_at_place old dir) (link_or_none old dir)) is_dir ∙ ap (λ (x : List Link). Links x) (sym (ap (λ k. links_of (held k (node_of old dir).size (byte_at_place old dir) (link_or_none old dir))) is_dir))

          free_holds : g node ≡ Nothing
          free_holds = ap (λ k. held k (node_of old node).size (byte_at_place old node) (link_or_none old node)) free

          block_more : used (map_of.insert t new_path c) ≡ used t + cond (eqb (length es % 16) 0) 1 0
          block_more = used_more sizes.nodes g h.rooted t h.describes path dir es held_dir leads name node c (empty_of kind) lt free_holds (empty_leaf kind new) (content_is kind ∙ made_content kind new) (no_blocks_held kind) absent

          one_more : ◌≡◌ {A = ℕ} (cond (eqb (length es % 16) 0) 1 0) 1
          one_more = ap (λ b. cond b 1 0) (eq-eqb (length es % 16) 0 (ap (λ n. n % 16) (dir_length old dir is_dir) ∙ whole))

          more : room sizes < used grown
          more = omega (arith, ap used (made_tree kind new new_path t), block_more, one_more, blocks_split sizes s t shows.shape h, few_free sizes old h.stored [] (λ b above below z. absurd (none b above below z)))

  pub make_done : (kind : Kind) (path : Path') (dir : ℕ) (link : Link) (s' : State) → kind ≢ Free → follow g 0 path ≡ Some dir → step g dir link.name ≡ None → IsState sizes s' → MakesEntry sizes old (image_of sizes s') dir link kind
      → Answers sizes (making kind (path ++ link.name ∷ [])) Done t s'
  make_done kind path dir link s' new leads absent shape m =
      served sizes s t shows s' (making kind (path ++ link.name ∷ [])) Done (
      past_nodes kind path dir link.name leads is_dir absent few link.node m.within m.was_free
      ∙ skip _ _ (passes _ NoSpace (no_lt (room sizes) (used (changed (making kind (path ++ link.name ∷ [])) t)) (fits sizes s' _ after)))
      ) (make_answer kind (path ++ link.name ∷ []) t) after
    where
      away : dir ≢ link.node
      away = apart sizes old (image_of sizes s') t h path dir link kind (content_made kind new) leads absent (made_content kind new) m

      same_dir : node_of m.between dir ≡ node_of old dir
      same_dir = ap (λ o. unwrap_or o free_node) (m.takes.others dir away)

      is_dir : (node_of old dir).kind ≡ Dir
      is_dir = ap (λ n. n.kind) (sym same_dir) ∙ m.appends.is.directory

      few : (node_of old dir).size ≢ 192
      few e = omega (arith, ap (λ n. n.size) same_dir, m.appends.is.size_is, m.appends.is.fits, e)

      after : Shows sizes s' (changed (making kind (path ++ link.name ∷ [])) t)
      after = subst (Shows sizes s') (sym (made_tree kind new (path ++ link.name ∷ []) t))
          (holds_shows sizes s' _ shape (entry_made sizes old (image_of sizes s') t h path dir link kind (content_made kind new) leads absent (made_content kind new) m))
