-- What unlink and rmdir answer, by what the blocks say.
use Rattle.std.proofs.Common.{◌≡◌, ℕ, ◌<◌, ltb, lt-ltb, [], ◌∷◌, ◌++◌, length, Some, refl, ap, ◌∙◌, arith}
use Rattle.std.specs.Option.{option_and_then}
use Rattle.std.proofs.lemmas.List.{length-append, nil_from_length}
use Rattle.zj_block.specs.Sizes.{Numbers}
use Rattle.zj_tree.specs.declared.call.Call.TheVariants.{Unlink, Rmdir}
use Rattle.zj_tree.specs.declared.call.Refusal.{Refusal}
use Rattle.zj_tree.specs.declared.call.Refusal.TheVariants.{Inside, NotEmpty}
use Rattle.zj_tree.specs.declared.call.Reply.TheVariants.{Done, Refused}
use Rattle.zj_tree.specs.Tree.{FileTree, entry_count}
use Rattle.zj_tree.specs.Apply.{no_directory, no_file}
use Rattle.zj_layout.specs.declared.fields.Kind.TheVariants.{File, Dir}
use Rattle.zj_layout.specs.declared.fields.Link.{Link}
use Rattle.zj_layout.specs.Graph.{Graph, links_of, link_at, step, follow}
use Rattle.zj_layout.specs.Image.{State, Image, image_of, node_of, graph_of}
use Rattle.zj_layout.specs.Shows.{Shows, IsState}
use Rattle.zj_layout.proofs.Follow.{Path', follow_more}
use Rattle.zj_changes.specs.Walk.{LeadsToNoDirectory, LeadsToNoFile}
use Rattle.zj_changes.specs.Holds.{HoldsTree, Unlinks, Answers}
use Rattle.zj_changes.proofs.Freed.{file_holds}
use Rattle.zj_changes.proofs.Calls.{holds_shows, entry_step, entry_removed}
use Rattle.zj_changes.proofs.Walk.{resolve_directory, resolve_file, no_directory_is, no_file_is}
use Rattle.zj_changes.proofs.Answering.{skip, tell, passes, counts, differ, dir_length, holds, refused, served, count_at}

module _ (sizes : Numbers) (s : State) (t : FileTree) (shows : Shows sizes s t) where
  abbrev old : Image
  old = image_of sizes s

  abbrev g : Graph
  g = graph_of old

  h : HoldsTree sizes old t
  h = holds sizes s t shows

  -- where an entry leads, by its path
  entry_leads : (path : Path') (dir place : ℕ) (link : Link) → follow g 0 path ≡ Some dir → link_at g dir place ≡ Some link → follow g 0 (path ++ link.name ∷ []) ≡ Some link.node
  entry_leads path dir place link leads there = follow_more g 0 path link.name ∙ ap (option_and_then (λ d. step g d link.name)) leads ∙ entry_step sizes old old t h dir place link there

  pub unlink_no_file : (path : Path') (refusal : Refusal) → LeadsToNoFile old path refusal → Answers sizes (Unlink path) (Refused refusal) t s
  unlink_no_file path refusal why = refused sizes s t shows (Unlink path) refusal (tell _ _ refusal (no_file_is old t h.describes path refusal why))

  pub unlink_done : (path : Path') (dir place : ℕ) (link : Link) (s' : State) → follow g 0 path ≡ Some dir → link_at g dir place ≡ Some link → (node_of old link.node).kind ≡ File
      → IsState sizes s' → Unlinks sizes old (image_of sizes s') dir place link.node → Answers sizes (Unlink (path ++ link.name ∷ [])) Done t s'
  unlink_done path dir place link s' leads there is shape a =
      served sizes s t shows s' (Unlink (path ++ link.name ∷ [])) Done
      (skip _ _ (ap no_file (resolve_file old t h.describes (path ++ link.name ∷ []) link.node (entry_leads path dir place link leads there) is)))
      refl
      (holds_shows sizes s' _ shape (entry_removed sizes old (image_of sizes s') t h path dir place link leads there (ap links_of (file_holds old link.node is)) a))

  pub rmdir_no_directory : (path : Path') (refusal : Refusal) → LeadsToNoDirectory old path refusal → Answers sizes (Rmdir path) (Refused refusal) t s
  rmdir_no_directory path refusal why = refused sizes s t shows (Rmdir path) refusal (tell _ _ refusal (no_directory_is old t h.describes path refusal why))

  pub rmdir_root : Answers sizes (Rmdir []) (Refused Inside) t s
  rmdir_root = refused sizes s t shows (Rmdir []) Inside (skip _ _ (ap no_directory (resolve_directory old t h.describes [] 0 refl root_dir)) ∙ refl)
    where
      root_dir : (node_of old 0).kind ≡ Dir
      root_dir = (h.stored.placed 0 (omega (arith, shows.shape.limits.least_nodes))).root refl

  pub rmdir_not_empty : (path : Path') (dir : ℕ) → follow g 0 path ≡ Some dir → (node_of old dir).kind ≡ Dir → 0 < length path → 0 < (node_of old dir).size → Answers sizes (Rmdir path) (Refused NotEmpty) t s
  rmdir_not_empty path dir leads is some entries = refused sizes s t shows (Rmdir path) NotEmpty (
      skip _ _ (ap no_directory (resolve_directory old t h.describes path dir leads is))
      ∙ skip _ _ (passes _ Inside (differ (length path) 0 (λ e. omega arith)))
      ∙ tell _ _ NotEmpty (counts _ NotEmpty (lt-ltb 0 (entry_count t path) (omega (arith, count_at sizes s t shows path dir leads is)))))

  pub rmdir_done : (path : Path') (dir place : ℕ) (link : Link) (s' : State) → follow g 0 path ≡ Some dir → link_at g dir place ≡ Some link → (node_of old link.node).kind ≡ Dir → (node_of old link.node).size ≡ 0
      → IsState sizes s' → Unlinks sizes old (image_of sizes s') dir place link.node → Answers sizes (Rmdir (path ++ link.name ∷ [])) Done t s'
  rmdir_done path dir place link s' leads there is none shape a =
      let to_node = entry_leads path dir place link leads there in
      served sizes s t shows s' (Rmdir (path ++ link.name ∷ [])) Done (
      skip _ _ (ap no_directory (resolve_directory old t h.describes (path ++ link.name ∷ []) link.node to_node is))
      ∙ skip _ _ (passes _ Inside (differ (length (path ++ link.name ∷ [])) 0 (λ e. omega (arith, length-append path (link.name ∷ [])))))
      ∙ skip _ _ (passes _ NotEmpty (ap (λ n. ltb 0 n) (count_at sizes s t shows (path ++ link.name ∷ []) link.node to_node is ∙ none)))
      ) refl
      (holds_shows sizes s' _ shape (entry_removed sizes old (image_of sizes s') t h path dir place link leads there (nil_from_length _ (dir_length old link.node is ∙ none)) a))
