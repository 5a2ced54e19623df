-- The entries of the nodes that were found, and the tree that they make.
use Rattle.std.proofs.Common.{◌≡◌, ℕ, zero, suc, ◌+◌, ◌-◌, ◌*◌, ◌<◌, ◌≤◌, List, [], ◌∷◌, ◌++◌, length, map, take, Option, Some, None, IsSome, IsTrue, refl, sym, ap, ◌∙◌, subst, arith}
use Rattle.std.specs.List.{All}
use Rattle.std.specs.Option.{option_and_then, unwrap_or}
use Rattle.std.specs.FinMap as map_of
use Rattle.std.specs.FinMap.{get-from_entries, from_entries_push, find}
use Rattle.std.proofs.Math.Seq.{take-suc, take-length}
use Rattle.std.proofs.lemmas.List.{map-append, length-map, length-take-le}
use Rattle.zj_block.specs.Block.{IsContent}
use Rattle.zj_block.specs.Sizes.{Numbers, IsInLimits}
use Rattle.zj_tree.specs.declared.content.Content.{Content}
use Rattle.zj_tree.specs.declared.content.Content.TheVariants as contents
use Rattle.zj_tree.specs.Path.{has_names}
use Rattle.zj_tree.specs.Tree.{FileTree, IsTree, content_at, path_cmp, node_count, used}
use Rattle.zj_tree.specs.Apply.{longest_file}
use Rattle.zj_tree.specs.Laws.{IsWithin}
use Rattle.zj_layout.specs.declared.links.Found.{Found}
use Rattle.zj_layout.specs.Graph.{Graph, content_of, follow, Describes, IsRooted}
use Rattle.zj_layout.specs.Linked.{found_at, no_found, AreFound, FindsAll, shown_entry}
use Rattle.zj_layout.specs.Image.{State, Image, image_of, graph_of, count_of, free_node}
use Rattle.zj_layout.specs.declared.fields.Node.{Node}
use Rattle.zj_layout.specs.Node.{blocks_needed}
use Rattle.zj_layout.specs.Read.{HasNodes}
use Rattle.zj_layout.specs.Rules.{IsSound}
use Rattle.zj_layout.specs.Shows.{Shows, limits_of}
use Rattle.zj_layout.proofs.Follow.{Path', none_some}
use Rattle.zj_layout.proofs.Live.{paths_total, paths_exact}
use Rattle.zj_layout.proofs.Filed.{shows_short}
use Rattle.zj_layout.proofs.Found.{found_few}
use Rattle.zj_layout.proofs.Fresh.{past_node}
use Rattle.zj_layout.proofs.Ruled.{read_long, read_count}
use Rattle.zj_layout.proofs.Room.{used_named}
use Rattle.zj_layout.proofs.Sound.{stored, rooted}
use Rattle.zj_layout.proofs.Total.{total}
use Rattle.zj_layout.proofs.Planted.{planted, planted_none, planted_more, shown_by, next_absent, is_tree, counted, rt, st, spelled, used_room, describes_last}

abbrev pub Entry' : Type 0
Entry' = Path' × Content

-- one more
pub entries_more : (g : Graph) (found : List Found) (k : ℕ) (f : Found) (c : Content) (path : Path') (old new : List Entry') → k < length found → f ≡ found_at found k → path ≡ f.path → content_of (g f.node) ≡ Some c
    → old ≡ map (shown_entry g) (take k found) → new ≡ old ++ (path, c) ∷ [] → new ≡ map (shown_entry g) (take (k + 1) found)
entries_more g found k f c path old new lt f_is path_is c_is old_is new_is =
    let e : k + 1 ≡ suc k = omega arith in
    let x : ◌≡◌ {A = Entry'} (path, c) (shown_entry g (found_at found k)) = (λ i. (path_is i, ap (λ o. unwrap_or o contents.Dir) (sym c_is) i)) ∙ ap (shown_entry g) f_is in
    new_is ∙ (λ i. old_is i ++ x i ∷ [])
    ∙ sym (map-append (shown_entry g) (take k found) (found_at found k ∷ []))
    ∙ ap (map (shown_entry g)) (sym (take-suc found k no_found lt))
    ∙ ap (λ n. map (shown_entry g) (take n found)) (sym e)

-- all of them
pub entries_all : (g : Graph) (found : List Found) (k : ℕ) (es : List Entry') → k ≡ length found → es ≡ map (shown_entry g) (take k found) → es ≡ map (shown_entry g) found
entries_all g found k es end is = is ∙ ap (λ n. map (shown_entry g) (take n found)) end ∙ ap (map (shown_entry g)) (take-length found)

module _ (nodes : ℕ) (g : Graph) (r : IsRooted nodes g) (spelled : (q : Path') (i : ℕ) → follow g 0 q ≡ Some i → IsTrue (has_names q)) (found : List Found) (a : AreFound nodes g found) where
  first : ℕ → List Entry'
  first k = map (shown_entry g) (take k found)

  first_more : (k : ℕ) → k < length found → map (shown_entry g) (take (suc k) found) ≡ map (shown_entry g) (take k found) ++ shown_entry g (found_at found k) ∷ []
  first_more k lt = ap (map (shown_entry g)) (take-suc found k no_found lt) ∙ map-append (shown_entry g) (take k found) (found_at found k ∷ [])

  root_entry : shown_entry g (found_at found 0) ≡ ([], contents.Dir)
  root_entry = ap (shown_entry g) a.root ∙ ap (λ o. ([], unwrap_or o contents.Dir)) r.root

  -- the entries of the first nodes are those of the tree of these nodes
  pub gathered_planted : (k : ℕ) → k < length found → map_of.from_entries {R = path_cmp} (map (shown_entry g) (take (suc k) found)) ≡ planted g found k
  gathered_planted zero lt = ap (map_of.from_entries {R = path_cmp}) (first_more 0 lt ∙ ap (λ (x : Entry'). x ∷ []) root_entry) ∙ sym (planted_none g found)
  gathered_planted (suc k) lt =
      let e : k + 1 ≡ suc k = omega arith in
      let rest = gathered_planted k (omega arith) in
      let x = shown_entry g (found_at found (suc k)) in
      let none : find path_cmp x.0 (map (shown_entry g) (take (suc k) found)) ≡ None =
      sym (get-from_entries paths_total (map (shown_entry g) (take (suc k) found)) x.0) ∙ ap (λ t. content_at t x.0) rest
      ∙ subst (λ i. content_at (planted g found k) (found_at found i).path ≡ None) e (next_absent nodes g r spelled found a k (omega arith)) in
      ap (map_of.from_entries {R = path_cmp}) (first_more (suc k) lt)
      ∙ from_entries_push paths_total paths_exact (map (shown_entry g) (take (suc k) found)) x.0 x.1 none
      ∙ ap (λ t. map_of.insert t x.0 x.1) rest
      ∙ ap (λ i. map_of.insert (planted g found k) (found_at found i).path (shown_by g (found_at found i).node)) (sym e)
      ∙ sym (planted_more g found k)
      ∙ ap (planted g found) e

-- ---- all entries

-- ---- the blocks that nodes name

pub named_more : (sizes : Numbers) (s : State) (n : ℕ) (node : Node) → n < sizes.nodes → Some node ≡ (image_of sizes s).node n → (used : ℕ) (numbers : List ℕ) → numbers ≡ take (blocks_needed node) node.blocks
    → used ≡ total (count_of (image_of sizes s)) n → used ≤ 12 * n → (used + length numbers ≡ total (count_of (image_of sizes s)) (n + 1)) × (used + length numbers ≤ 12 * (n + 1))
named_more sizes s n node lt is used numbers numbers_are used_is few =
    let im = image_of sizes s in
    let count : count_of im n ≡ blocks_needed node = ap (λ (o : Option Node). blocks_needed (unwrap_or o free_node)) (sym is) in
    let most = read_count sizes s n node lt is in
    let long : length (take (blocks_needed node) node.blocks) ≡ blocks_needed node = length-take-le (blocks_needed node) node.blocks (omega (arith, most, read_long sizes s n node lt is)) in
    let many : length numbers ≡ blocks_needed node = ap length numbers_are ∙ long in
    let e : suc n ≡ n + 1 = omega arith in
    let more : total (count_of im) n + count_of im n ≡ total (count_of im) (n + 1) = ap (total (count_of im)) e in
    (omega (arith, more, many, count, used_is), omega (arith, many, most, few))

-- the blocks that a tree takes up are those that the nodes name
pub used_total : (sizes : Numbers) (s : State) → IsInLimits sizes → IsSound sizes (image_of sizes s) → (t : FileTree) → Describes (graph_of (image_of sizes s)) t → (u n : ℕ) → n ≡ sizes.nodes → u ≡ total (count_of (image_of sizes s)) n → u ≡ used t
used_total sizes s limits sound t d u n end u_is =
    let im = image_of sizes s in
    let past : (k : ℕ) → sizes.nodes ≤ k → im.node k ≡ None = λ k le. past_node sizes s k le in
    u_is ∙ ap (total (count_of im)) end ∙ sym (used_named sizes im (stored sizes im past sound.laid_out) t (rooted sizes im past (omega (arith, limits.least_nodes)) sound) d)

module _ (sizes : Numbers) (s : State) (limits : IsInLimits sizes) (sound : IsSound sizes (image_of sizes s)) (found : List Found) (a : AreFound sizes.nodes (graph_of (image_of sizes s)) found) (all : FindsAll (graph_of (image_of sizes s)) found) (es : List Entry') (is : es ≡ map (shown_entry (graph_of (image_of sizes s))) found) where
  abbrev im : Image
  im = image_of sizes s

  roots : IsRooted sizes.nodes (graph_of im)
  roots = rt sizes s limits sound found a all

  last : ℕ
  last = length found - 1

  last_is : last + 1 ≡ length found
  unfolding last
  last_is = omega (arith, a.some)

  within : last < length found
  within = omega (arith, last_is)

  names : (q : Path') (i : ℕ) → follow (graph_of im) 0 q ≡ Some i → IsTrue (has_names q)
  names = spelled sizes im (st sizes s limits sound found a all) roots limits found a all

  whole : map_of.from_entries {R = path_cmp} es ≡ planted (graph_of im) found last
  whole =
      let end : suc last ≡ length found = omega (arith, last_is) in
      ap (map_of.from_entries {R = path_cmp}) (is ∙ ap (map (shown_entry (graph_of im))) (sym (ap (λ n. take n found) end ∙ take-length found)))
      ∙ gathered_planted sizes.nodes (graph_of im) roots names found a last within

  count : node_count (planted (graph_of im) found last) ≡ length found
  count = counted sizes.nodes (graph_of im) roots names found a last within ∙ last_is

  describes : Describes (graph_of im) (planted (graph_of im) found last)
  describes = describes_last sizes im (st sizes s limits sound found a all) roots limits found a all last last_is

  pub shown_describes : Describes (graph_of im) (map_of.from_entries {R = path_cmp} es)
  shown_describes = subst (λ t. Describes (graph_of im) t) (sym whole) describes

  pub shown_once : node_count (map_of.from_entries {R = path_cmp} es) ≡ length es
  shown_once = ap node_count whole ∙ count ∙ sym (ap length is ∙ length-map found (shown_entry (graph_of im)))

  pub shown_is_tree : IsTree (map_of.from_entries {R = path_cmp} es)
  shown_is_tree = subst IsTree (sym whole) (is_tree sizes.nodes (graph_of im) roots names found a last within)

  files : HasNodes sizes s → (path : Path') (bytes : List ℕ) (o : Option ℕ) → follow (graph_of im) 0 path ≡ o → option_and_then (λ node. content_of (graph_of im node)) o ≡ Some (contents.File bytes) → length bytes ≤ longest_file sizes.version
  files nodes path bytes None e h = absurd (none_some h)
  files nodes path bytes (Some i) e h = shows_short sizes s nodes i (roots.within i (live h)) (contents.File bytes) h (limits_of sizes) refl
    where
      live : {o : Option Content} {c : Content} → o ≡ Some c → IsSome o
      live h = cc

  pub shown_within : HasNodes sizes s → IsWithin (limits_of sizes) (map_of.from_entries {R = path_cmp} es)
  shown_within nodes = subst (λ t. IsWithin (limits_of sizes) t) (sym whole) (record {
    nodes = omega (arith, count, found_few sizes.nodes (graph_of im) found a);
    blocks = used_room sizes im (st sizes s limits sound found a all) roots limits found a all last within;
    files = λ path bytes h. files nodes path bytes (follow (graph_of im) 0 path) refl (sym (describes.each path) ∙ h);
  })

  pub shown_shows : length s ≡ sizes.blocks → All IsContent s → Shows sizes s (map_of.from_entries {R = path_cmp} es)
  shown_shows many contents = record {
    shape = record { limits = limits; many = many; contents = contents };
    sound = sound;
    describes = shown_describes;
  }
