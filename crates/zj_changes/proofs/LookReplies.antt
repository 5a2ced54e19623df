-- What stat, list, fsync and read answer, by what the blocks say. None of them changes the tree.
use Rattle.std.proofs.Common.{◌≡◌, ℕ, ◌+◌, ◌-◌, ◌<◌, ◌≤◌, min, ltb, lt-ltb, List, [], ◌∷◌, ◌++◌, length, take, drop, Option, Some, None, IsSome, refl, sym, ap, ◌∙◌, subst, arith, slice_index, map, IsPermutation, IsSorted}
use Rattle.std.specs.Option.{option_and_then}
use Rattle.std.specs.Ordering.{nat_cmp}
use Rattle.std.specs.Cmp.Lexicographic.{slice_cmp}
use Rattle.std.proofs.lemmas.Grind.{same_number_lists}
use Rattle.std.proofs.lemmas.List.{length-drop, length-take, get_or-drop, get_or-take}
use Rattle.zj_block.specs.Sizes.{Numbers}
use Rattle.zj_tree.specs.declared.content.Content.{Content}
use Rattle.zj_tree.specs.declared.call.Call.TheVariants as calls
use Rattle.zj_tree.specs.declared.call.Refusal.{Refusal}
use Rattle.zj_tree.specs.declared.call.Refusal.TheVariants.{PastEnd, TooBig}
use Rattle.zj_tree.specs.declared.call.Reply.TheVariants as replies
use Rattle.zj_tree.specs.Tree.{FileTree, content_at, entry_count, names_in}
use Rattle.zj_tree.specs.Changed.{bytes_of, bytes_at}
use Rattle.zj_tree.specs.Laws.{IsListing}
use Rattle.zj_tree.specs.Apply.{refuse_if, first_refusal, reasons, no_directory, no_file, nothing, most_bytes, size_of}
use Rattle.zj_tree.proofs.ListingLemmas.{lists_names}
use Rattle.zj_layout.specs.declared.fields.Kind.TheVariants.{File, Dir}
use Rattle.zj_layout.specs.declared.fields.Link.{Link}
use Rattle.zj_layout.specs.Graph.{Graph, links_of, step, follow}
use Rattle.zj_layout.specs.Image.{State, Image, image_of, node_of, byte_at_place, graph_of}
use Rattle.zj_layout.specs.Shows.{Shows, limits_of}
use Rattle.zj_layout.proofs.Follow.{Path', Name', follow_more}
use Rattle.zj_changes.specs.Walk.{Stops, LeadsToNoDirectory, LeadsToNoFile, ListsEntries}
use Rattle.zj_changes.specs.Holds.{HoldsTree, Answers}
use Rattle.zj_changes.proofs.Freed.{bytes_in}
use Rattle.zj_changes.proofs.Ranges.{byte_of, size_is}
use Rattle.zj_changes.proofs.Listed.{same_ascending}
use Rattle.zj_changes.proofs.Sorted.{sorted_lists}
use Rattle.zj_changes.proofs.Walk.{node_at, nothing_at, directory_at, file_at, resolve_directory, resolve_file, nothing_is, no_directory_is, no_file_is}
use Rattle.zj_changes.proofs.Answering.{skip, tell, passes, counts, no_lt, holds, found, refused, served, count_at}

module _ (sizes : Numbers) (s : State) (t : FileTree) (shows : Shows sizes s t) where
  abbrev old : Image
  old = image_of sizes s

  abbrev g : Graph
  g = graph_of old

  h : HoldsTree sizes old t
  h = holds sizes s t shows

  -- ---- stat

  pub stat_stops : (path : Path') (refusal : Refusal) → Stops old path refusal → Answers sizes (calls.Stat path) (replies.Refused refusal) t s
  stat_stops path refusal why = refused sizes s t shows (calls.Stat path) refusal (tell _ _ refusal (nothing_is old t h.describes path refusal why))

  pub stat_file : (path : Path') (file : ℕ) → follow g 0 path ≡ Some file → (node_of old file).kind ≡ File → Answers sizes (calls.Stat path) (replies.File (node_of old file).size) t s
  stat_file path file leads is = served sizes s t shows s (calls.Stat path) (replies.File (node_of old file).size)
      (skip _ _ (ap nothing (resolve_file old t h.describes path file leads is)))
      (ap (λ o. size_of o (entry_count t path)) (file_at old t h.describes path file leads is) ∙ ap (λ n. replies.File n) (size_is old file))
      shows

  pub stat_directory : (path : Path') (dir : ℕ) → follow g 0 path ≡ Some dir → (node_of old dir).kind ≡ Dir → Answers sizes (calls.Stat path) (replies.Dir (node_of old dir).size) t s
  stat_directory path dir leads is = served sizes s t shows s (calls.Stat path) (replies.Dir (node_of old dir).size)
      (skip _ _ (ap nothing (resolve_directory old t h.describes path dir leads is)))
      (ap (λ o. size_of o (entry_count t path)) (directory_at old t h.describes path dir leads is) ∙ ap (λ n. replies.Dir n) (count_at sizes s t shows path dir leads is))
      shows

  -- ---- fsync

  pub fsync_stops : (path : Path') (refusal : Refusal) → Stops old path refusal → Answers sizes (calls.Fsync path) (replies.Refused refusal) t s
  fsync_stops path refusal why = refused sizes s t shows (calls.Fsync path) refusal (tell _ _ refusal (nothing_is old t h.describes path refusal why))

  pub fsync_done : (path : Path') (node : ℕ) → follow g 0 path ≡ Some node → Answers sizes (calls.Fsync path) replies.Done t s
  fsync_done path node leads = served sizes s t shows s (calls.Fsync path) replies.Done (skip _ _ (found sizes s t shows path node leads)) refl shows

  -- ---- list

  pub list_no_directory : (path : Path') (refusal : Refusal) → LeadsToNoDirectory old path refusal → Answers sizes (calls.List path) (replies.Refused refusal) t s
  list_no_directory path refusal why = refused sizes s t shows (calls.List path) refusal (tell _ _ refusal (no_directory_is old t h.describes path refusal why))

  -- what stands below a directory, by its names
  stands_below : (path : Path') (dir : ℕ) (name : Name') → follow g 0 path ≡ Some dir → (IsSome (step g dir name) → IsSome (content_at t (path ++ name ∷ []))) × (IsSome (content_at t (path ++ name ∷ [])) → IsSome (step g dir name))
  stands_below path dir name leads = by (step g dir name) refl
    where
      way : follow g 0 (path ++ name ∷ []) ≡ step g dir name
      way = follow_more g 0 path name ∙ ap (option_and_then (λ d. step g d name)) leads

      by : (o : Option ℕ) → step g dir name ≡ o → (IsSome o → IsSome (content_at t (path ++ name ∷ []))) × (IsSome (content_at t (path ++ name ∷ [])) → IsSome o)
      by None e = (λ some. absurd cc, λ some. absurd (none (content_at t (path ++ name ∷ [])) (nothing_at old t h.describes (path ++ name ∷ []) (way ∙ e)) some))
        where
          none : (c : Option Content) → c ≡ None → IsSome c → ⊥
          none c is some = cc
      by (Some node) e = (λ some. subst IsSome (sym (node_at old t h.describes (path ++ name ∷ []) node (way ∙ e))) (h.rooted.target dir node name e).1, λ some. refl)

  pub list_done : (path : Path') (dir : ℕ) (listed : List Name') → follow g 0 path ≡ Some dir → (node_of old dir).kind ≡ Dir → ListsEntries g dir listed → Answers sizes (calls.List path) (replies.Listed listed) t s
  list_done path dir listed leads is lists = served sizes s t shows s (calls.List path) (replies.Listed listed)
      (skip _ _ (ap no_directory (resolve_directory old t h.describes path dir leads is)))
      (ap (λ (names : List Name'). replies.Listed names) (same_ascending (names_in t path) listed all.ascending lists.ascending
      (λ name c. (lists.names name).1 ((stands_below path dir name leads).1 ((all.names name).0 c)))
      (λ name c. (all.names name).1 ((stands_below path dir name leads).0 ((lists.names name).0 c)))))
      shows
    where
      all : IsListing t path (names_in t path)
      all = lists_names t path

  -- where the names of its entries are sorted
  pub list_sorted : (path : Path') (dir : ℕ) (listed : List Name') → follow g 0 path ≡ Some dir → (node_of old dir).kind ≡ Dir → IsPermutation (map (λ (l : Link). l.name) (links_of (g dir))) listed → IsSorted (slice_cmp nat_cmp) listed
      → Answers sizes (calls.List path) (replies.Listed listed) t s
  list_sorted path dir listed leads is same sorted = list_done path dir listed leads is (sorted_lists g dir listed (h.rooted.names.each dir) same sorted)

  -- ---- read

  pub read_no_file : (path : Path') (at count : ℕ) (refusal : Refusal) → LeadsToNoFile old path refusal → Answers sizes (calls.Read path at count) (replies.Refused refusal) t s
  read_no_file path at count refusal why = refused sizes s t shows (calls.Read path at count) refusal (tell _ _ refusal (no_file_is old t h.describes path refusal why))

  -- the bytes of a file
  bytes_there : (path : Path') (file : ℕ) → follow g 0 path ≡ Some file → (node_of old file).kind ≡ File → bytes_at t path ≡ bytes_in old file
  bytes_there path file leads is = ap bytes_of (file_at old t h.describes path file leads is)

  length_there : (path : Path') (file : ℕ) → follow g 0 path ≡ Some file → (node_of old file).kind ≡ File → length (bytes_at t path) ≡ (node_of old file).size
  length_there path file leads is = ap length (bytes_there path file leads is) ∙ size_is old file

  pub read_past_end : (path : Path') (at count file : ℕ) → follow g 0 path ≡ Some file → (node_of old file).kind ≡ File → (node_of old file).size < at → Answers sizes (calls.Read path at count) (replies.Refused PastEnd) t s
  read_past_end path at count file leads is past = refused sizes s t shows (calls.Read path at count) PastEnd (
      skip _ _ (ap no_file (resolve_file old t h.describes path file leads is))
      ∙ tell _ _ PastEnd (counts _ PastEnd (lt-ltb (length (bytes_at t path)) at (omega (arith, length_there path file leads is)))))

  in_file : (path : Path') (at count file : ℕ) → follow g 0 path ≡ Some file → (node_of old file).kind ≡ File → at ≤ (node_of old file).size
      → first_refusal (reasons (limits_of sizes) (calls.Read path at count) t) ≡ first_refusal (refuse_if (ltb most_bytes count) TooBig ∷ [])
  in_file path at count file leads is within =
      skip _ _ (ap no_file (resolve_file old t h.describes path file leads is))
      ∙ skip _ _ (passes _ PastEnd (no_lt (length (bytes_at t path)) at (omega (arith, length_there path file leads is))))

  pub read_too_big : (path : Path') (at count file : ℕ) → follow g 0 path ≡ Some file → (node_of old file).kind ≡ File → at ≤ (node_of old file).size → most_bytes < count → Answers sizes (calls.Read path at count) (replies.Refused TooBig) t s
  read_too_big path at count file leads is within big = refused sizes s t shows (calls.Read path at count) TooBig (in_file path at count file leads is within ∙ tell _ _ TooBig (counts _ TooBig (lt-ltb most_bytes count big)))

  pub read_done : (path : Path') (at count file : ℕ) (bytes : List ℕ) → follow g 0 path ≡ Some file → (node_of old file).kind ≡ File → at ≤ (node_of old file).size → count ≤ most_bytes
      → length bytes ≡ min count ((node_of old file).size - at) → ((k : ℕ) → k < length bytes → slice_index bytes k ≡ byte_at_place old file (at + k)) → Answers sizes (calls.Read path at count) (replies.Data bytes) t s
  read_done path at count file bytes leads is within few long each = served sizes s t shows s (calls.Read path at count) (replies.Data bytes)
      (in_file path at count file leads is within ∙ skip _ _ (passes _ TooBig (no_lt most_bytes count few)))
      (ap (λ (x : List ℕ). replies.Data (take count (drop at x))) (bytes_there path file leads is) ∙ ap (λ (x : List ℕ). replies.Data x) read)
      shows
    where
      read_long : length (take count (drop at (bytes_in old file))) ≡ length bytes
      read_long = omega (arith, length-take count (drop at (bytes_in old file)), length-drop at (bytes_in old file), size_is old file, long)

      read : take count (drop at (bytes_in old file)) ≡ bytes
      read = same_number_lists (take count (drop at (bytes_in old file))) bytes read_long (λ k lt.
          get_or-take count (drop at (bytes_in old file)) k 0 (omega (arith, read_long, long))
          ∙ get_or-drop at (bytes_in old file) k 0
          ∙ byte_of old file (at + k) (omega (arith, read_long, long))
          ∙ sym (each k (omega (arith, read_long))))
