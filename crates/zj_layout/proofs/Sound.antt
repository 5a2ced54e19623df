-- The six rules, and the facts on nodes, blocks and entries that they come to.
use Rattle.std.proofs.Common.{◌≡◌, ◌≢◌, ◌⊎◌, inl, inr, ℕ, ◌<◌, ◌≤◌, List, [], map, Option, Some, None, IsSome, refl, sym, ap, ◌∙◌, subst, arith, slice_get}
use Rattle.std.specs.List.{range_with_len}
use Rattle.std.specs.Option.{unwrap_or}
use Rattle.std.proofs.lemmas.Option.{slice_get-get_or, slice_get_within}
use Rattle.std.proofs.lemmas.List.FromFn.{length-map-range_with_len, get_or-map-range_with_len}
use native.Mathlib.Decide.{ℕ_discrete}
use Rattle.zj_block.specs.Sizes.{Numbers}
use Rattle.zj_tree.specs.declared.content.Content.TheVariants as contents
use Rattle.zj_layout.specs.declared.fields.Kind.{Kind}
use Rattle.zj_layout.specs.declared.fields.Kind.TheVariants.{Free, File, Dir}
use Rattle.zj_layout.specs.declared.fields.Node.{Node}
use Rattle.zj_layout.specs.declared.fields.Link.{Link}
use Rattle.zj_layout.specs.Graph.{links_of, content_of, step, follow, IsLive, link_at, IsRooted}
use Rattle.zj_layout.specs.Node.{blocks_needed}
use Rattle.zj_layout.specs.Image.{Image, node_block, map_block, free_node, node_of, count_of, number_of, item_block, entry_at, no_link, link_or_none, byte_at_place, held, graph_of}
use Rattle.zj_layout.specs.Rules.{HasPlace, HasOneEntry, IsLaidOut, IsSound}
use Rattle.zj_layout.specs.Stored.{IsStored}
use Rattle.zj_layout.proofs.Follow.{Path', some_is, none_some, Ends, ends, named_stands, last_step, link_target, link_once}
use Rattle.zj_layout.proofs.Live.{not_live}

-- ---- lists made of a function

pub in_range : {A : Type 0} (f : ℕ → A) (n k : ℕ) → k < n → slice_get (map f (range_with_len 0 n)) k ≡ Some (f k)
in_range f n k lt =
    let len = length-map-range_with_len f 0 n in
    slice_get-get_or (map f (range_with_len 0 n)) k (f k) (omega (arith, len)) ∙ ap (λ x. Some x) (get_or-map-range_with_len f 0 n k k (f k) lt (omega arith))

pub range_within : {A : Type 0} (f : ℕ → A) (n k : ℕ) (x : A) → slice_get (map f (range_with_len 0 n)) k ≡ Some x → (k < n) × (x ≡ f k)
range_within f n k x h =
    let lt : k < n = omega (arith, length-map-range_with_len f 0 n, slice_get_within (map f (range_with_len 0 n)) k x h) in
    (lt, some_is (sym h ∙ in_range f n k lt))

-- ---- what is held

held_links : (kind : Kind) (size : ℕ) (byte : ℕ → ℕ) (link : ℕ → Link) (k : ℕ) (l : Link) → slice_get (links_of (held kind size byte link)) k ≡ Some l → (kind ≡ Dir) × (k < size) × (l ≡ link k)
held_links Free size byte link k l h = absurd (none_some h)
held_links File size byte link k l h = absurd (none_some h)
held_links Dir size byte link k l h = let r = range_within link size k l h in (refl, r.0, r.1)

-- an entry of the graph stands at a place of a directory
pub link_place : (image : Image) (dir place : ℕ) (l : Link) → link_at (graph_of image) dir place ≡ Some l → HasPlace image dir place × (l ≡ link_or_none image dir place)
link_place image dir place l h =
    let r = held_links (node_of image dir).kind (node_of image dir).size (byte_at_place image dir) (link_or_none image dir) place l h in
    (record { directory = r.0; within = r.1 }, r.2)

-- and at each place stands an entry
pub place_link : (image : Image) (dir place : ℕ) → HasPlace image dir place → link_at (graph_of image) dir place ≡ Some (link_or_none image dir place)
place_link image dir place h =
    ap (λ kind. slice_get (links_of (held kind (node_of image dir).size (byte_at_place image dir) (link_or_none image dir))) place) h.directory
    ∙ in_range (link_or_none image dir) (node_of image dir).size place h.within

-- a node that holds something isn't free
held_live : (kind : Kind) (size : ℕ) (byte : ℕ → ℕ) (link : ℕ → Link) → IsLive (held kind size byte link) → kind ≢ Free
held_live Free size byte link h e = not_live h
held_live File size byte link h e = cc
held_live Dir size byte link h e = cc

live_held : (kind : Kind) (size : ℕ) (byte : ℕ → ℕ) (link : ℕ → Link) → kind ≢ Free → IsLive (held kind size byte link)
live_held Free size byte link h = absurd (h refl)
live_held File size byte link h = refl
live_held Dir size byte link h = refl

pub live_kind : (image : Image) (node : ℕ) → IsLive (graph_of image node) → (node_of image node).kind ≢ Free
live_kind image node h = held_live (node_of image node).kind (node_of image node).size (byte_at_place image node) (link_or_none image node) h

pub kind_live : (image : Image) (node : ℕ) → (node_of image node).kind ≢ Free → IsLive (graph_of image node)
kind_live image node h = live_held (node_of image node).kind (node_of image node).size (byte_at_place image node) (link_or_none image node) h

-- no node stands past the last
pub none_node : (image : Image) (node : ℕ) → image.node node ≡ None → node_of image node ≡ free_node
none_node image node e = ap (λ o. unwrap_or o free_node) e

pub none_count : (image : Image) (node : ℕ) → image.node node ≡ None → count_of image node ≡ 0
none_count image node e = ap blocks_needed (none_node image node e)

three : (a b : ℕ) → (a < b) ⊎ ((a ≡ b) ⊎ (b < a))
three a b = grind arith

-- ---- from the rules to the facts

module _ (sizes : Numbers) (image : Image) (none : (node : ℕ) → sizes.nodes ≤ node → image.node node ≡ None) where
  in_nodes : (node j : ℕ) → j < count_of image node → node < sizes.nodes
  in_nodes node j lt = by (three node sizes.nodes)
    where
      past : sizes.nodes ≤ node → ⊥
      past le = omega (arith, none_count image node (none node le))

      by : (node < sizes.nodes) ⊎ ((node ≡ sizes.nodes) ⊎ (sizes.nodes < node)) → node < sizes.nodes
      by (inl h) = h
      by (inr (inl h)) = absurd (past (omega arith))
      by (inr (inr h)) = absurd (past (omega arith))

  live_in_nodes : (node : ℕ) → IsLive (graph_of image node) → node < sizes.nodes
  live_in_nodes node live = by (three node sizes.nodes)
    where
      past : sizes.nodes ≤ node → ⊥
      past le = live_kind image node live (ap (λ (x : Node). x.kind) (none_node image node (none node le)))

      by : (node < sizes.nodes) ⊎ ((node ≡ sizes.nodes) ⊎ (sizes.nodes < node)) → node < sizes.nodes
      by (inl h) = h
      by (inr (inl h)) = absurd (past (omega arith))
      by (inr (inr h)) = absurd (past (omega arith))

  pub stored : IsLaidOut sizes image → IsStored sizes image
  stored laid = record {
    none = none;
    placed = λ node lt. laid.nodes (node_block sizes node) node lt refl;
    apart = λ node j other k hj hk e. apart node j other k hj hk e (three node other) (three j k);
    entry = λ dir place h. let r = laid.entries (item_block image dir place) dir place h refl in subst IsSome (sym r.1) refl;
    map = λ b lt. laid.mapped (map_block b) b lt refl;
  }
    where
      apart : (node j other k : ℕ) → j < count_of image node → k < count_of image other → number_of image node j ≡ number_of image other k → (node < other) ⊎ ((node ≡ other) ⊎ (other < node)) → (j < k) ⊎ ((j ≡ k) ⊎ (k < j)) → (node ≡ other) × (j ≡ k)
      apart node j other k hj hk e (inl lt) p = absurd (laid.named_once (node_block sizes other) other k node j (in_nodes other k hk) refl hk hj (inl lt) (sym e))
      apart node j other k hj hk e (inr (inr lt)) p = absurd (laid.named_once (node_block sizes node) node j other k (in_nodes node j hj) refl hj hk (inl lt) e)
      apart node j other k hj hk e (inr (inl same)) (inl lt) = absurd (laid.named_once (node_block sizes other) other k node j (in_nodes other k hk) refl hk hj (inr (same, lt)) (sym e))
      apart node j other k hj hk e (inr (inl same)) (inr (inl is)) = (same, is)
      apart node j other k hj hk e (inr (inl same)) (inr (inr lt)) = absurd (laid.named_once (node_block sizes node) node j other k (in_nodes node j hj) refl hj hk (inr (sym same, lt)) e)

  -- the entry that a place has, by the third rule
  target : IsLaidOut sizes image → (dir place : ℕ) (l : Link) → link_at (graph_of image) dir place ≡ Some l → (l.node < sizes.nodes) × (l.node ≢ 0) × IsLive (graph_of image l.node)
  target laid dir place l h =
      let r = link_place image dir place l h in
      let x = laid.entries (item_block image dir place) dir place r.0 refl in
      let same : l ≡ x.0 = r.1 ∙ ap (λ o. unwrap_or o no_link) x.1 in
      subst (λ (m : Link). (m.node < sizes.nodes) × (m.node ≢ 0) × IsLive (graph_of image m.node)) (sym same) (x.2, x.3, x.4)

  pub rooted : 0 < sizes.nodes → IsSound sizes image → IsRooted sizes.nodes (graph_of image)
  rooted some sound = record {
    root = root;
    within = live_in_nodes;
    names = record { each = λ dir. record { each = λ place other l m hl hm e. names dir place other l m hl hm e (three place other) } };
    target = λ dir node name h. target' dir node name h;
    once = λ dir other node name another h k. once' dir other node name another h k;
    reached = λ node live. reached node live (ℕ_discrete node 0);
  }
    where
      root : content_of (graph_of image 0) ≡ Some contents.Dir
      root =
          let placed = sound.laid_out.nodes (node_block sizes 0) 0 some refl in
          ap (λ kind. content_of (held kind (node_of image 0).size (byte_at_place image 0) (link_or_none image 0))) (placed.root refl)

      names : (dir place other : ℕ) (l m : Link) → link_at (graph_of image) dir place ≡ Some l → link_at (graph_of image) dir other ≡ Some m → l.name ≡ m.name → (place < other) ⊎ ((place ≡ other) ⊎ (other < place)) → place ≡ other
      names dir place other l m hl hm e (inl lt) = absurd (sound.laid_out.names (item_block image dir other) dir other place m l hm refl lt hl (sym e))
      names dir place other l m hl hm e (inr (inl same)) = same
      names dir place other l m hl hm e (inr (inr lt)) = absurd (sound.laid_out.names (item_block image dir place) dir place other l m hl refl lt hm e)

      linked : (node : ℕ) → node ≢ 0 → IsLive (graph_of image node) → HasOneEntry image node × ((path : Path') × (follow (graph_of image) 0 path ≡ Some node))
      linked node ne live = sound.linked (node_block sizes node) node (live_in_nodes node live) refl ne live

      once : (dir place dir' place' : ℕ) (l m : Link) → link_at (graph_of image) dir place ≡ Some l → link_at (graph_of image) dir' place' ≡ Some m → l.node ≡ m.node → (dir ≡ dir') × (place ≡ place')
      once dir place dir' place' l m hl hm e =
          let t = target sound.laid_out dir place l hl in
          let one = (linked l.node t.1 t.2).0 in
          let a = one.alone dir place l hl refl in
          let b = one.alone dir' place' m hm (sym e) in
          (a.0 ∙ sym b.0, a.1 ∙ sym b.1)

      target' : (dir node : ℕ) (name : List ℕ) → step (graph_of image) dir name ≡ Some node → (node ≢ 0) × IsLive (graph_of image node)
      target' dir node name h =
          let s = named_stands (links_of (graph_of image dir)) name node h in
          let t = target sound.laid_out dir s.place s.link s.at in
          subst (λ x. (x ≢ 0) × IsLive (graph_of image x)) s.node_is (t.1, t.2)

      once' : (dir other node : ℕ) (name another : List ℕ) → step (graph_of image) dir name ≡ Some node → step (graph_of image) other another ≡ Some node → (dir ≡ other) × (name ≡ another)
      once' dir other node name another h k =
          let s = named_stands (links_of (graph_of image dir)) name node h in
          let t = named_stands (links_of (graph_of image other)) another node k in
          let o = once dir s.place other t.place s.link t.link s.at t.at (s.node_is ∙ sym t.node_is) in
          let same : s.link ≡ t.link = some_is (sym s.at ∙ ap (λ p. slice_get (links_of (graph_of image dir)) p) o.1 ∙ ap (λ x. slice_get (links_of (graph_of image x)) t.place) o.0 ∙ t.at) in
          (o.0, sym s.name_is ∙ ap (λ (l : Link). l.name) same ∙ t.name_is)

      reached : (node : ℕ) → IsLive (graph_of image node) → Dec (node ≡ 0) → (path : Path') × (follow (graph_of image) 0 path ≡ Some node)
      reached node live (yes e) = ([], ap (λ (x : ℕ). Some x) (sym e))
      reached node live (no ne) = (linked node ne live).1

  -- ---- and back

  pub laid_out : IsStored sizes image → IsRooted sizes.nodes (graph_of image) → IsLaidOut sizes image
  laid_out s r = record {
    nodes = λ block node lt e. s.placed node lt;
    named_once = λ block node j earlier k lt e hj hk before same. not_before node j earlier k (s.apart node j earlier k hj hk same) before;
    entries = λ block dir place h e. entry dir place h (entry_at image dir place) refl (s.entry dir place h);
    names = λ block dir place earlier l m hl e lt hm same. omega (arith, (r.names.each dir).each place earlier l m hl hm same);
    mapped = λ block b lt e. s.map b lt;
  }
    where
      not_before : (node j earlier k : ℕ) → (node ≡ earlier) × (j ≡ k) → (earlier < node) ⊎ ((earlier ≡ node) × (k < j)) → ⊥
      not_before node j earlier k same (inl lt) = omega (arith, same.0)
      not_before node j earlier k same (inr both) = omega (arith, same.1, both.1)

      entry : (dir place : ℕ) → HasPlace image dir place → (o : Option Link) → entry_at image dir place ≡ o → IsSome o → (l : Link) × (entry_at image dir place ≡ Some l) × (l.node < sizes.nodes) × (l.node ≢ 0) × IsLive (graph_of image l.node)
      entry dir place h None e some = absurd cc
      entry dir place h (Some l) e some =
          let t = link_target sizes.nodes (graph_of image) r dir place l (place_link image dir place h ∙ ap (λ o. Some (unwrap_or o no_link)) e) in
          (l, e, r.within l.node t.1, t.0, t.1)

  pub sound_from : IsStored sizes image → IsRooted sizes.nodes (graph_of image) → IsSound sizes image
  sound_from s r = record { laid_out = laid_out s r; linked = λ block node lt e ne live. linked node ne live }
    where
      one : (node : ℕ) → node ≢ 0 → (path : Path') → follow (graph_of image) 0 path ≡ Some node → HasOneEntry image node
      one node ne path h = by (ends path)
        where
          by : (path ≡ []) ⊎ Ends path → HasOneEntry image node
          by (inl e) = absurd (ne (some_is (sym h ∙ ap (follow (graph_of image) 0) e)))
          by (inr e) =
              let last = last_step (graph_of image) e.front e.name node (sym (ap (follow (graph_of image) 0) e.is) ∙ h) in
              let stands = named_stands (links_of (graph_of image last.dir)) e.name node last.last in
              record {
                dir = last.dir;
                place = stands.place;
                link = stands.link;
                stands = stands.at;
                leads = stands.node_is;
                alone = λ other at l there is. link_once sizes.nodes (graph_of image) r other at last.dir stands.place l stands.link there stands.at (is ∙ sym stands.node_is);
              }

      linked : (node : ℕ) → node ≢ 0 → IsLive (graph_of image node) → HasOneEntry image node × ((path : Path') × (follow (graph_of image) 0 path ≡ Some node))
      linked node ne live = let path = r.reached node live in (one node ne path.0 path.1, path)
