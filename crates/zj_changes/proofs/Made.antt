-- A new node with an entry: the blocks with both show the tree with the new directory or file.
use Rattle.std.proofs.Common.{◌≡◌, ◌≢◌, ℕ, ◌+◌, ◌-◌, ◌/◌, ◌<◌, ◌≤◌, false, cond, List, [], ◌∷◌, ◌++◌, Some, None, IsSome, refl, sym, ap, ◌∙◌, subst, arith}
use Rattle.std.specs.FinMap as map_of
use Rattle.std.specs.Option.{unwrap_or}
use Rattle.zj_block.specs.Sizes.{Numbers}
use Rattle.zj_tree.specs.declared.content.Content.{Content}
use Rattle.zj_tree.specs.Tree.{FileTree}
use Rattle.zj_layout.specs.declared.fields.Kind.{Kind}
use Rattle.zj_layout.specs.declared.fields.Kind.TheVariants.{Free, File, Dir}
use Rattle.zj_layout.specs.declared.fields.Node.{Node}
use Rattle.zj_layout.specs.declared.fields.Link.{Link}
use Rattle.zj_layout.specs.Graph.{Nothing, Links, links_of, content_of, step, follow}
use Rattle.zj_changes.specs.Leaf.{IsLeaf, AddsLeaf}
use Rattle.zj_layout.specs.Node.{per_block, blocks_needed, most_items}
use Rattle.zj_layout.specs.Image.{Image, free_node, node_of, count_of, byte_at_place, link_or_none, held, holding_at, graph_of, names_block}
use Rattle.zj_layout.specs.Stored.{IsStored}
use Rattle.zj_layout.specs.Changed.{ChangesNode}
use Rattle.zj_changes.specs.Tables.{SetsNode}
use Rattle.zj_changes.specs.Holds.{empty_node, empty_content, MakesEntry, HoldsTree}
use Rattle.zj_layout.proofs.Follow.{Path', none_some}
use Rattle.zj_layout.proofs.Live.{led_live}
use Rattle.zj_changes.proofs.Leaf.{still_rooted, describes_leaf}
use Rattle.zj_layout.proofs.Sound.{live_kind}
use Rattle.zj_layout.proofs.Changed.{names_from, not_true, others_hold, still_stored}
use Rattle.zj_changes.proofs.Entry.{holds_more, changes}
use Rattle.zj_layout.proofs.Fresh.{empty_of, empty_held}

-- ---- a node that is taken

pub empty_leaf : (kind : Kind) → kind ≢ Free → IsLeaf (empty_of kind)
empty_leaf Free ne = absurd (ne refl)
empty_leaf File ne = record { live = refl; empty = refl }
empty_leaf Dir ne = record { live = refl; empty = refl }

no_blocks : (kind : Kind) → blocks_needed (empty_node kind) ≡ 0
no_blocks Free = refl
no_blocks File = refl
no_blocks Dir = refl

module _ (sizes : Numbers) (old mid : Image) (s : IsStored sizes old) (n : ℕ) (kind : Kind) (lt : n < sizes.nodes) (not_root : n ≢ 0) (free : (node_of old n).kind ≡ Free) (m : SetsNode sizes old mid n (empty_node kind)) where
  mid_node : node_of mid n ≡ empty_node kind
  mid_node = ap (λ o. unwrap_or o free_node) m.here

  mid_count : count_of mid n ≡ 0
  mid_count = ap blocks_needed mid_node ∙ no_blocks kind

  old_count : count_of old n ≡ 0
  old_count =
      let few : (node_of old n).size ≤ most_items Free = subst (λ k. (node_of old n).size ≤ most_items k) free (s.placed n lt).few in
      ap (λ k. ((node_of old n).size + (per_block k - 1)) / per_block k) free ∙ omega (arith, few)

  names_none : (image : Image) (b : ℕ) → count_of image n ≡ 0 → names_block image b n ≡ false
  names_none image b e = not_true (names_block image b n) (λ h. let j = names_from image b n h in omega (arith, j.within))

  pub took : ChangesNode sizes old mid n
  took = record {
    within = lt;
    others = m.others;
    placed = record {
      some = subst IsSome (sym m.here) refl;
      few = subst (λ (x : Node). x.size ≤ most_items x.kind) (sym mid_node) (omega arith);
      in_data = λ j h. absurd (omega (arith, mid_count));
      root = λ z. absurd (not_root z);
    };
    entries = λ place h. absurd (omega (arith, h.within, ap (λ (x : Node). x.size) mid_node));
    once = λ j k hj hk e. absurd (omega (arith, mid_count));
    own = λ j h. absurd (omega (arith, mid_count));
    content = λ b used ne. m.content b;
    map = λ b l. m.map b ∙ sym (ap (λ x. cond x 1 (cond (names_block old b n) 0 (old.map b))) (names_none mid b mid_count) ∙ ap (λ x. cond x 0 (old.map b)) (names_none old b old_count));
  }

  pub holds_nothing : holding_at mid n ≡ empty_of kind
  holds_nothing = ap (λ (x : Node). held x.kind x.size (byte_at_place mid n) (link_or_none mid n)) mid_node ∙ empty_held kind (byte_at_place mid n) (link_or_none mid n)

  pub held_nothing : holding_at old n ≡ Nothing
  held_nothing = ap (λ k. held k (node_of old n).size (byte_at_place old n) (link_or_none old n)) free

-- ---- the node and its entry

-- what a path shows that leads to the node
pub content_is : (kind : Kind) → content_of (empty_of kind) ≡ empty_content kind
content_is Free = refl
content_is File = refl
content_is Dir = refl

not_free : (kind : Kind) (c : Content) → empty_content kind ≡ Some c → kind ≢ Free
not_free Free c is e = none_some is
not_free File c is e = cc
not_free Dir c is e = cc

module _ (sizes : Numbers) (old new : Image) (t : FileTree) (h : HoldsTree sizes old t) (p : Path') (dir : ℕ) (link : Link) (kind : Kind) (c : Content)
    (to_dir : follow (graph_of old) 0 p ≡ Some dir) (absent : step (graph_of old) dir link.name ≡ None) (is : empty_content kind ≡ Some c) (m : MakesEntry sizes old new dir link kind) where
  abbrev mid : Image
  mid = m.between

  some_nodes : 0 < sizes.nodes
  some_nodes = h.rooted.within 0 (subst IsSome (sym h.rooted.root) refl)

  not_root : link.node ≢ 0
  not_root z =
      let is_dir = (h.stored.placed 0 some_nodes).root refl in
      let is_free : (node_of old 0).kind ≡ Free = ap (λ i. (node_of old i).kind) (sym z) ∙ m.was_free in
      differ (sym is_dir ∙ is_free)
    where
      differ : Dir ≡ Free → ⊥
      differ e = cc

  first : ChangesNode sizes old mid link.node
  first = took sizes old mid h.stored link.node kind m.within not_root m.was_free m.takes

  st_mid : IsStored sizes mid
  st_mid = still_stored sizes old mid h.stored link.node first

  second : ChangesNode sizes mid new dir
  second = changes sizes mid new st_mid dir m.appends.size m.appends.blocks m.appends.block link m.appends.is

  pub apart : dir ≢ link.node
  apart e = live_kind old dir (led_live sizes.nodes (graph_of old) h.rooted p dir to_dir) (ap (λ i. (node_of old i).kind) e ∙ m.was_free)

  is_links : (kind : Kind) (size : ℕ) (byte : ℕ → ℕ) (entry : ℕ → Link) → kind ≡ Dir → held kind size byte entry ≡ Links (links_of (held kind size byte entry))
  is_links Free size byte entry e = absurd cc
  is_links File size byte entry e = absurd cc
  is_links Dir size byte entry e = refl

  abbrev es : List Link
  es = links_of (holding_at old dir)

  mid_dir : holding_at mid dir ≡ holding_at old dir
  mid_dir = others_hold sizes old mid h.stored link.node first dir apart

  was : holding_at old dir ≡ Links es
  was =
      let at_mid = is_links (node_of mid dir).kind (node_of mid dir).size (byte_at_place mid dir) (link_or_none mid dir) m.appends.is.directory in
      sym mid_dir ∙ at_mid ∙ ap (λ x. Links (links_of x)) mid_dir

  adds : AddsLeaf (graph_of old) (graph_of new) dir es link (empty_of kind)
  adds = record {
    is_leaf = empty_leaf kind (not_free kind c is);
    was_free = held_nothing sizes old mid h.stored link.node kind m.within not_root m.was_free m.takes;
    was = was;
    now = holds_more sizes mid new st_mid dir m.appends.size m.appends.blocks m.appends.block link m.appends.is ∙ ap (λ x. Links (links_of x ++ link ∷ [])) mid_dir;
    added = others_hold sizes mid new st_mid dir second link.node (λ e. apart (sym e)) ∙ holds_nothing sizes old mid h.stored link.node kind m.within not_root m.was_free m.takes;
    others = λ i ne nf. others_hold sizes mid new st_mid dir second i ne ∙ others_hold sizes old mid h.stored link.node first i nf;
  }

  -- The tables with the new node and its entry hold the tree with the path.
  pub entry_made : HoldsTree sizes new (map_of.insert t (p ++ link.name ∷ []) c)
  entry_made = record {
    stored = still_stored sizes mid new st_mid dir second;
    rooted = still_rooted sizes.nodes (graph_of old) (graph_of new) h.rooted dir es link (empty_of kind) adds p to_dir absent m.within;
    describes = describes_leaf sizes.nodes (graph_of old) (graph_of new) h.rooted dir es link (empty_of kind) adds p to_dir absent t c h.describes (content_is kind ∙ is);
  }
