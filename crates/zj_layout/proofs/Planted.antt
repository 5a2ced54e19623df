-- The tree of the nodes that were found, one after another.
use Rattle.std.proofs.Common.{◌≡◌, ◌≢◌, ◌⊎◌, inl, inr, ℕ, zero, suc, ◌+◌, ◌-◌, ◌<◌, ◌≤◌, Bool, true, false, cond, List, [], length, take, Option, Some, None, IsSome, IsTrue, refl, sym, ap, ◌∙◌, subst, arith, sum_by}
use Rattle.std.specs.Option.{option_and_then, unwrap_or}
use Rattle.std.specs.Ordering.{eq_by_cmp}
use Rattle.std.specs.FinMap as map_of
use Rattle.std.specs.FinMap.{get-insert, get-empty, get-entries, entries-insert, entries, len-entries, len-empty}
use Rattle.std.proofs.lemmas.Bool.{cases_lt}
use native.Mathlib.Decide.{ℕ_discrete}
use Rattle.zj_block.specs.Sizes.{Numbers, room, IsInLimits}
use Rattle.zj_tree.specs.declared.content.Content.{Content}
use Rattle.zj_tree.specs.declared.content.Content.TheVariants as contents
use Rattle.zj_tree.specs.Tree.{FileTree, IsTree, content_at, path_cmp, node_count, used, root_alone}
use Rattle.zj_tree.specs.Path.{parent, has_names}
use Rattle.zj_tree.proofs.EntryLemmas.{inserted_is_tree, entry_takes_blocks}
use Rattle.zj_tree.proofs.SumLemmas.{sum_put}
use Rattle.zj_layout.specs.declared.links.Found.{Found}
use Rattle.zj_layout.specs.Graph.{Holding, Nothing, Bytes, Links, Graph, links_of, content_of, named, step, follow, shown_at, Describes, IsLive, IsRooted}
use Rattle.zj_layout.specs.Linked.{found_at, AreFound, FindsAll}
use Rattle.zj_layout.proofs.Follow.{Path', some_is, none_some, follow_more, one_path}
use Rattle.zj_layout.proofs.Live.{paths_total, tie, no_tie, led_live}
use Rattle.zj_layout.proofs.Counted.{length_sum, parent_more}
use Rattle.zj_layout.proofs.Room.{used_and_free}
use Rattle.zj_layout.specs.Image.{State, Image, image_of, graph_of}
use Rattle.zj_layout.specs.Rules.{IsSound}
use Rattle.zj_layout.proofs.Fresh.{past_node}
use Rattle.zj_layout.proofs.Spelled.{path_named}
use Rattle.zj_layout.proofs.Sound.{stored, rooted}
use Rattle.zj_layout.specs.Stored.{IsStored}

-- what a node's path shows
abbrev pub shown_by : Graph → ℕ → Content
shown_by g node = unwrap_or (content_of (g node)) contents.Dir

-- the tree of the root and of so many nodes behind it
pub planted : Graph → List Found → ℕ → FileTree
planted g found zero = root_alone
planted g found (suc k) = map_of.insert (planted g found k) (found_at found (suc k)).path (shown_by g (found_at found (suc k)).node)

pub planted_none : (g : Graph) (found : List Found) → planted g found 0 ≡ root_alone
unfolding planted
planted_none g found = refl

pub planted_more : (g : Graph) (found : List Found) (k : ℕ) → planted g found (k + 1) ≡ map_of.insert (planted g found k) (found_at found (k + 1)).path (shown_by g (found_at found (k + 1)).node)
unfolding planted
planted_more g found k =
    let e : k + 1 ≡ suc k = omega arith in
    ap (planted g found) e ∙ sym (ap (λ j. map_of.insert (planted g found k) (found_at found j).path (shown_by g (found_at found j).node)) e)

module _ (nodes : ℕ) (g : Graph) (r : IsRooted nodes g) (spelled : (q : Path') (i : ℕ) → follow g 0 q ≡ Some i → IsTrue (has_names q)) (found : List Found) (a : AreFound nodes g found) where
  abbrev path : ℕ → Path'
  path k = (found_at found k).path

  abbrev node : ℕ → ℕ
  node k = (found_at found k).node

  live : (k : ℕ) → k < length found → IsLive (g (node k))
  live k lt = led_live nodes g r (path k) (node k) (a.leads k lt)

  pub shows_node : (k : ℕ) → k < length found → content_of (g (node k)) ≡ Some (shown_by g (node k))
  shows_node k lt = by (content_of (g (node k))) (live k lt)
    where
      by : (o : Option Content) → IsSome o → o ≡ Some (unwrap_or o contents.Dir)
      by None h = absurd cc
      by (Some c) h = refl

  -- each has its own path
  own_path : (j k : ℕ) → j < length found → k < length found → path j ≡ path k → j ≡ k
  own_path j k hj hk e = by (ℕ_discrete j k)
    where
      same : node j ≡ node k
      same = some_is (sym (a.leads j hj) ∙ ap (follow g 0) e ∙ a.leads k hk)

      by : Dec (j ≡ k) → j ≡ k
      by (yes is) = is
      by (no other) = cases (cases_lt j k)
        where
          cases : (j < k) ⊎ (k ≤ j) → j ≡ k
          cases (inl less) = absurd (a.apart j k less hk same)
          cases (inr le) = absurd (a.apart k j (omega arith) hj (sym same))

  root_path : path 0 ≡ []
  root_path = ap (λ (f : Found). f.path) a.root

  root_shown : shown_by g (node 0) ≡ contents.Dir
  root_shown = ap (λ (f : Found). shown_by g f.node) a.root ∙ ap (λ o. unwrap_or o contents.Dir) r.root

  root_at : (q : Path') → content_at root_alone q ≡ cond (eq_by_cmp path_cmp q []) (Some contents.Dir) None
  root_at q = get-insert paths_total map_of.empty [] contents.Dir q ∙ ap (cond (eq_by_cmp path_cmp q []) (Some contents.Dir)) (get-empty path_cmp q)

  at_more : (k : ℕ) (q : Path') → content_at (planted g found (suc k)) q ≡ cond (eq_by_cmp path_cmp q (path (suc k))) (Some (shown_by g (node (suc k)))) (content_at (planted g found k) q)
  unfolding planted
  at_more k q = get-insert paths_total (planted g found k) (path (suc k)) (shown_by g (node (suc k))) q

  -- the tree has the nodes so far
  there : (k j : ℕ) → k < length found → j ≤ k → content_at (planted g found k) (path j) ≡ Some (shown_by g (node j))
  unfolding planted
  there zero j lt le =
      let z : j ≡ 0 = omega arith in
      ap (λ i. content_at root_alone (path i)) z ∙ root_at (path 0) ∙ by (eq_by_cmp path_cmp (path 0) []) refl ∙ ap (λ c. Some c) (sym root_shown) ∙ ap (λ i. Some (shown_by g (node i))) (sym z)
    where
      by : (b : Bool) → eq_by_cmp path_cmp (path 0) [] ≡ b → cond b (Some contents.Dir) None ≡ Some contents.Dir
      by true e = refl
      by false e = absurd (no_tie (path 0) [] e root_path)
  there (suc k) j lt le = at_more k (path j) ∙ by (λ l. there k j (omega arith) l) (eq_by_cmp path_cmp (path j) (path (suc k))) refl
    where
      by : (j ≤ k → content_at (planted g found k) (path j) ≡ Some (shown_by g (node j))) → (b : Bool) → eq_by_cmp path_cmp (path j) (path (suc k)) ≡ b → cond b (Some (shown_by g (node (suc k)))) (content_at (planted g found k) (path j)) ≡ Some (shown_by g (node j))
      by rest true e = ap (λ i. Some (shown_by g (node i))) (own_path (suc k) j lt (omega arith) (sym (tie (path j) (path (suc k)) e)))
      by rest false e = rest (omega (arith, other))
        where
          other : j ≢ suc k
          other same = no_tie (path j) (path (suc k)) e (ap path same)

  -- and no others
  absent : (k : ℕ) (q : Path') → ((j : ℕ) → j ≤ k → path j ≢ q) → content_at (planted g found k) q ≡ None
  unfolding planted
  absent zero q none = root_at q ∙ by (eq_by_cmp path_cmp q []) refl
    where
      by : (b : Bool) → eq_by_cmp path_cmp q [] ≡ b → cond b (Some contents.Dir) None ≡ None
      by true e = absurd (none 0 (omega arith) (root_path ∙ sym (tie q [] e)))
      by false e = refl
  absent (suc k) q none = at_more k q ∙ by (absent k q (λ j le. none j (omega arith))) (eq_by_cmp path_cmp q (path (suc k))) refl
    where
      by : content_at (planted g found k) q ≡ None → (b : Bool) → eq_by_cmp path_cmp q (path (suc k)) ≡ b → cond b (Some (shown_by g (node (suc k)))) (content_at (planted g found k) q) ≡ None
      by rest true e = absurd (none (suc k) (omega arith) (sym (tie q (path (suc k)) e)))
      by rest false e = rest

  -- the next node goes where nothing is, into a directory
  pub next_absent : (k : ℕ) → k + 1 < length found → content_at (planted g found k) (path (k + 1)) ≡ None
  next_absent k lt = absent k (path (k + 1)) (λ j le e. omega (arith, own_path j (k + 1) (omega arith) lt e))

  pub next_parent : (k : ℕ) → k + 1 < length found → content_at (planted g found k) (parent (path (k + 1))) ≡ Some contents.Dir
  next_parent k lt =
      let c = a.comes (k + 1) (omega arith) lt in
      let up : parent (path (k + 1)) ≡ path c.from = ap parent c.path_is ∙ parent_more (path c.from) c.name in
      let below : c.from < length found = omega (arith, c.earlier) in
      let leads : step g (node c.from) c.name ≡ Some (node (k + 1)) =
      ap (option_and_then (λ d. step g d c.name)) (sym (a.leads c.from below)) ∙ sym (follow_more g 0 (path c.from) c.name) ∙ ap (follow g 0) (sym c.path_is) ∙ a.leads (k + 1) lt in
      ap (content_at (planted g found k)) up ∙ there k c.from (omega arith) (omega (arith, c.earlier)) ∙ ap (λ o. Some (unwrap_or o contents.Dir)) (is_dir (g (node c.from)) c.name (node (k + 1)) leads)
    where
      is_dir : (h : Holding) (name : List ℕ) (i : ℕ) → named name (links_of h) ≡ Some i → content_of h ≡ Some contents.Dir
      is_dir Nothing name i e = absurd (none_some e)
      is_dir (Bytes bytes) name i e = absurd (none_some e)
      is_dir (Links links) name i e = refl

  root_tree : IsTree root_alone
  root_tree = record {
    root = root_at [];
    prefixes = λ q n some lt. by q n some lt (eq_by_cmp path_cmp q []) refl;
    names = λ q some. named q (eq_by_cmp path_cmp q []) refl some;
  }
    where
      by : (q : Path') (n : ℕ) → IsSome (content_at root_alone q) → n < length q → (b : Bool) → eq_by_cmp path_cmp q [] ≡ b → content_at root_alone (take n q) ≡ Some contents.Dir
      by q n some lt true e = absurd (omega (arith, ap length (tie q [] e)))
      by q n some lt false e = absurd (dead (root_at q ∙ ap (λ b. cond b (Some contents.Dir) None) e) some)
        where
          dead : {o : Option Content} → o ≡ None → IsSome o → ⊥
          dead e s = cc

      named : (q : Path') (b : Bool) → eq_by_cmp path_cmp q [] ≡ b → IsSome (content_at root_alone q) → IsTrue (has_names q)
      named q true e some = subst (λ x. IsTrue (has_names x)) (sym (tie q [] e)) cc
      named q false e some = absurd (dead (root_at q ∙ ap (λ b. cond b (Some contents.Dir) None) e) some)
        where
          dead : {o : Option Content} → o ≡ None → IsSome o → ⊥
          dead e s = cc

  pub is_tree : (k : ℕ) → k < length found → IsTree (planted g found k)
  unfolding planted
  is_tree zero lt = root_tree
  is_tree (suc k) lt =
      let e : k + 1 ≡ suc k = omega arith in
      inserted_is_tree (planted g found k) (path (suc k)) (shown_by g (node (suc k))) (is_tree k (omega arith))
      (spelled (path (suc k)) (node (suc k)) (a.leads (suc k) lt))
      (subst (λ i. content_at (planted g found k) (path i) ≡ None) e (next_absent k (omega arith)))
      (subst (λ i. content_at (planted g found k) (parent (path i)) ≡ Some contents.Dir) e (next_parent k (omega arith)))

  -- how many there are so far
  pub counted : (k : ℕ) → k < length found → node_count (planted g found k) ≡ k + 1
  unfolding planted
  counted zero lt = one root_alone
    where
      one : (t : FileTree) → node_count root_alone ≡ 1
      one t = len-entries root_alone ∙ length_sum (entries root_alone) ∙ ap (sum_by (λ (x : Path' × Content). 1)) (entries-insert paths_total map_of.empty [] contents.Dir) ∙ sum_put path_cmp (λ (x : Path' × Content). 1) [] contents.Dir (entries map_of.empty) (sym (get-entries map_of.empty []) ∙ get-empty path_cmp []) ∙ ap (λ n. n + 1) (sym (length_sum (entries (map_of.empty {X = Content} {R = path_cmp})))) ∙ ap (λ n. n + 1) (sym (len-entries (map_of.empty {X = Content} {R = path_cmp}))) ∙ ap (λ n. n + 1) (len-empty path_cmp Content)
  counted (suc k) lt =
      let e : k + 1 ≡ suc k = omega arith in
      let t = planted g found k in
      let q = path (suc k) in
      let c = shown_by g (node (suc k)) in
      let none : content_at t q ≡ None = subst (λ i. content_at (planted g found k) (path i) ≡ None) e (next_absent k (omega arith)) in
      let more : node_count (map_of.insert t q c) ≡ node_count t + 1 =
      len-entries (map_of.insert t q c) ∙ length_sum (entries (map_of.insert t q c)) ∙ ap (sum_by (λ (x : Path' × Content). 1)) (entries-insert paths_total t q c) ∙ sum_put path_cmp (λ (x : Path' × Content). 1) q c (entries t) (sym (get-entries t q) ∙ none) ∙ ap (λ n. n + 1) (sym (length_sum (entries t)) ∙ sym (len-entries t)) in
      omega (arith, more, counted k (omega arith))

  -- blocks only become more
  used_more : (k : ℕ) → suc k < length found → used (planted g found k) ≤ used (planted g found (suc k))
  unfolding planted
  used_more k lt =
      let e : k + 1 ≡ suc k = omega arith in
      let dir = subst (λ i. content_at (planted g found k) (parent (path i)) ≡ Some contents.Dir) e (next_parent k (omega arith)) in
      let none = subst (λ i. content_at (planted g found k) (path i) ≡ None) e (next_absent k (omega arith)) in
      let more = entry_takes_blocks (planted g found k) (path (suc k)) (shown_by g (node (suc k))) (is_tree k (omega arith)) none dir in
      omega (arith, more)

  pub used_most : (k d : ℕ) → k + d < length found → used (planted g found k) ≤ used (planted g found (k + d))
  used_most k zero lt = let e : k + 0 ≡ k = omega arith in omega (arith, ap (λ i. used (planted g found i)) e)
  used_most k (suc d) lt =
      let e : k + suc d ≡ suc (k + d) = omega arith in
      omega (arith, used_most k d (omega arith), used_more (k + d) (omega arith), ap (λ i. used (planted g found i)) e)

  -- all of them are the tree that the graph describes
  pub describes_all : FindsAll g found → (last : ℕ) → last + 1 ≡ length found → Describes g (planted g found last)
  describes_all all last is = record { each = λ q. by q (follow g 0 q) refl }
    where
      by : (q : Path') (o : Option ℕ) → follow g 0 q ≡ o → content_at (planted g found last) q ≡ shown_at g q
      by q None e =
          absent last q (λ j le same. none_some (sym e ∙ ap (follow g 0) (sym same) ∙ a.leads j (omega arith)))
          ∙ sym (ap (option_and_then (λ i. content_of (g i))) e)
      by q (Some i) e =
          let k = all q i e in
          let same : q ≡ path k.0 = one_path nodes g r q (path k.0) i e (a.leads k.0 k.1 ∙ ap (λ (x : ℕ). Some x) k.2) in
          ap (content_at (planted g found last)) same ∙ there last k.0 (omega arith) (omega (arith, k.1)) ∙ sym (shows_node k.0 k.1) ∙ ap (λ x. content_of (g x)) k.2 ∙ sym (ap (option_and_then (λ x. content_of (g x))) e)

-- ---- all of them are what blocks show

module _ (sizes : Numbers) (im : Image) (st : IsStored sizes im) (r : IsRooted sizes.nodes (graph_of im)) (limits : IsInLimits sizes) (found : List Found) (a : AreFound sizes.nodes (graph_of im) found) (all : FindsAll (graph_of im) found) where
  abbrev g : Graph
  g = graph_of im

  pub spelled : (q : Path') (i : ℕ) → follow (graph_of im) 0 q ≡ Some i → IsTrue (has_names q)
  spelled q i h = path_named sizes im st q 0 i h

  pub describes_last : (last : ℕ) → last + 1 ≡ length found → Describes g (planted g found last)
  describes_last last is = describes_all sizes.nodes g r spelled found a all last is

  pub used_room : (k : ℕ) → k < length found → used (planted g found k) ≤ room sizes
  used_room k lt =
      let last = length found - 1 in
      let is : last + 1 ≡ length found = omega arith in
      let e : k + (last - k) ≡ last = omega arith in
      let whole = used_and_free sizes im st (planted g found last) r (describes_last last is) (omega (arith, limits.some_data)) in
      let most = used_most sizes.nodes g r spelled found a k (last - k) (omega arith) in
      omega (arith, whole, most, ap (λ i. used (planted g found i)) e)

-- ---- the same of blocks

module _ (sizes : Numbers) (s : State) (limits : IsInLimits sizes) (sound : IsSound sizes (image_of sizes s)) (found : List Found) (a : AreFound sizes.nodes (graph_of (image_of sizes s)) found) (all : FindsAll (graph_of (image_of sizes s)) found) where
  abbrev im : Image
  im = image_of sizes s

  past : (n : ℕ) → sizes.nodes ≤ n → im.node n ≡ None
  past n le = past_node sizes s n le

  pub st : IsStored sizes im
  st = stored sizes im past sound.laid_out

  pub rt : IsRooted sizes.nodes (graph_of im)
  rt = rooted sizes im past (omega (arith, limits.least_nodes)) sound

  pub found_live : (k : ℕ) (n : ℕ) → k < length found → n ≡ (found_at found k).node → IsLive (graph_of im n)
  found_live k n lt is = subst (λ x. IsLive (graph_of im x)) (sym is) (led_live sizes.nodes (graph_of im) rt (found_at found k).path (found_at found k).node (a.leads k lt))
