-- What the blocks of a directory say of every made state.
use Rattle.std.proofs.Common.{◌≡◌, ◌≢◌, IsSome, IsTrue, ℕ, ◌/◌, ◌%◌, ◌<◌, ◌≤◌, Bool, true, false, cond, ◌&&◌, ltb, leb, lt-ltb, List, Option, Some, None, refl, sym, ap, ◌∙◌, subst, arith, get_or}
use Rattle.std.specs.FinMap as map_of
use Rattle.std.specs.FinMap.{get-empty}
use Rattle.std.specs.Ordering.{nat_cmp}
use Rattle.std.specs.Option.{option_or, unwrap_or}
use Rattle.std.specs.Str.{bytes_eq}
use Rattle.std.proofs.lemmas.Slice.Eq.{bytes_eq-Decides}
use Rattle.zj_block.specs.Lists.{Entries, content_under}
use Rattle.zj_block.specs.Sizes.{Numbers, first_data}
use Rattle.zj_tree.specs.Tree.{FileTree}
use Rattle.zj_layout.specs.declared.fields.Kind.TheVariants.{Dir}
use Rattle.zj_layout.specs.declared.fields.Node.{Node}
use Rattle.zj_layout.specs.declared.fields.Link.{Link}
use Rattle.zj_layout.specs.Graph.{links_of, link_at, named}
use Rattle.zj_layout.specs.Node.{link_in, per_block}
use Rattle.zj_layout.specs.Image.{State, Image, image_of, is_data, free_node, node_of, item_block, entry_at, no_link, graph_of}
use Rattle.zj_layout.specs.Rules.{HasPlace}
use Rattle.zj_layout.specs.Stored.{IsStored}
use Rattle.zj_layout.specs.Shows.{Changes, put_blocks}
use Rattle.zj_layout.proofs.Named.{named_first, named_nowhere}
use Rattle.zj_layout.proofs.Sound.{link_place, place_link, none_node}
use Rattle.zj_layout.proofs.Changed.{item_within}
use Rattle.zj_dirs.specs.Possible.{IsPossible, overlaid}
use Rattle.zj_dirs.specs.Looking.{HasOther}
use Rattle.zj_dirs.specs.Walking.{IsSearched}
use Rattle.zj_dirs.proofs.Seen.{some_differs, made_content, data_below}

-- with nothing written, a block is as it was found
pub overlaid_nothing : (found : Entries) (block : ℕ) → overlaid found map_of.empty block ≡ content_under found block
overlaid_nothing found block = ap (λ o. option_or o (content_under found block)) (get-empty nat_cmp block)

-- a node that is a directory is one of the image's
pub dir_within : (sizes : Numbers) (image : Image) → IsStored sizes image → (dir : ℕ) → (node_of image dir).kind ≡ Dir → dir < sizes.nodes
dir_within sizes image s dir is = by (ltb dir sizes.nodes) refl
  where
    cases : (a b : ℕ) → ltb a b ≡ true → a < b
    cases a b h = grind arith

    past : (a b : ℕ) → ltb a b ≡ false → b ≤ a
    past a b h = grind arith

    by : (b : Bool) → ltb dir sizes.nodes ≡ b → dir < sizes.nodes
    by true e = cases dir sizes.nodes e
    by false e =
        let none = ap (λ (n : Node). n.kind) (none_node image dir (s.none dir (past dir sizes.nodes e))) in
        absurd cc

module _ (sizes : Numbers) (found : Entries) (written : Changes) (state : State) (tree : FileTree) (p : IsPossible sizes found state tree)
    (s : IsStored sizes (image_of sizes (put_blocks state written))) (dir : ℕ) (node : Node) (is : (image_of sizes (put_blocks state written)).node dir ≡ Some node) (directory : node.kind ≡ Dir) where
  abbrev im : Image
  im = image_of sizes (put_blocks state written)

  pub the_node : node_of im dir ≡ node
  the_node = ap (λ o. unwrap_or o free_node) is

  pub is_dir : (node_of im dir).kind ≡ Dir
  is_dir = ap (λ (n : Node). n.kind) the_node ∙ directory

  pub has_place : (place : ℕ) → place < node.size → HasPlace im dir place
  has_place place lt = record { directory = is_dir; within = subst (λ (n : Node). place < n.size) (sym the_node) lt }

  pub block_is : (place : ℕ) → item_block im dir place ≡ get_or node.blocks (place / 16) 0
  block_is place = ap (λ (n : Node). get_or n.blocks (place / per_block n.kind) 0) the_node ∙ ap (λ k. get_or node.blocks (place / per_block k) 0) directory

  pub for_data : (place : ℕ) → place < node.size → is_data sizes (item_block im dir place) ≡ true
  for_data place lt =
      let h = has_place place lt in
      let range = (s.placed dir (dir_within sizes im s dir is_dir)).in_data (place / per_block (node_of im dir).kind) (item_within im dir place h.within) in
      both (first_data sizes) (item_block im dir place) sizes.blocks range.0 range.1
    where
      both : (a b c : ℕ) → a ≤ b → b < c → (leb a b && ltb b c) ≡ true
      both a b c h k = grind arith

  -- so is the number that the node names it by
  pub number_data : (place : ℕ) → place < node.size → is_data sizes (get_or node.blocks (place / 16) 0) ≡ true
  number_data place lt = ap (is_data sizes) (sym (block_is place)) ∙ for_data place lt

  -- the entry in a block that is seen is the made state's
  pub entry_seen : (place : ℕ) (content : List ℕ) → place < node.size → overlaid found written (get_or node.blocks (place / 16) 0) ≡ Some content → entry_at im dir place ≡ link_in content (place % 16)
  entry_seen place content lt h =
      let kept = for_data place lt in
      ap (λ c. link_in c (place % 16)) (made_content sizes found written state tree p (item_block im dir place) content kept (data_below sizes (item_block im dir place) kept) (ap (overlaid found written) (block_is place) ∙ h))

  -- an entry that is passed over for its name
  pub other_stands : (name : List ℕ) (place : ℕ) (content : List ℕ) → place < node.size → overlaid found written (get_or node.blocks (place / 16) 0) ≡ Some content
      → (may : Bool) → ((link : Link) → link_in content (place % 16) ≡ Some link → link.name ≡ name → IsTrue may) → may ≡ false → HasOther im dir place name
  other_stands name place content lt h may tells is_not = by (entry_at im dir place) refl (s.entry dir place (has_place place lt))
    where
      by : (o : Option Link) → entry_at im dir place ≡ o → IsSome o → HasOther im dir place name
      by None e some = absurd cc
      by (Some l) e some = record { link = l; stands = e; other = λ same. no (sym is_not ∙ tells l (sym (entry_seen place content lt h) ∙ e) same) }
        where
          no : false ≡ true → ⊥
          no f = cc

  pub entry_odd : (place : ℕ) → place < node.size → entry_at im dir place ≡ None → ⊥
  entry_odd place lt none = some_differs (s.entry dir place (has_place place lt)) none

  pub links_are : (place : ℕ) (l : Link) → place < node.size → entry_at im dir place ≡ Some l → link_at (graph_of im) dir place ≡ Some l
  links_are place l lt e = place_link im dir place (has_place place lt) ∙ ap (λ o. Some (unwrap_or o no_link)) e

  other_link : (name : List ℕ) (place : ℕ) (l : Link) → HasOther im dir place name → link_at (graph_of im) dir place ≡ Some l → l.name ≢ name
  other_link name place l o h =
      let r = link_place im dir place l h in
      let same : l ≡ o.link = r.1 ∙ ap (λ x. unwrap_or x no_link) o.stands in
      λ e. o.other (ap (λ (x : Link). x.name) (sym same) ∙ e)

  pub found_first : (name : List ℕ) (place : ℕ) (l : Link) → place < node.size → ((k : ℕ) → k < place → HasOther im dir k name) → entry_at im dir place ≡ Some l → l.name ≡ name → named name (links_of (graph_of im dir)) ≡ Some l.node
  found_first name place l lt others e same = named_first (links_of (graph_of im dir)) place l name (λ k m less h. other_link name k m (others k less) h) (links_are place l lt e) same

  pub found_nowhere : (name : List ℕ) → ((k : ℕ) → k < node.size → HasOther im dir k name) → named name (links_of (graph_of im dir)) ≡ None
  found_nowhere name others = named_nowhere (links_of (graph_of im dir)) name (λ k m h.
      let r = link_place im dir k m h in
      other_link name k m (others k (subst (λ (n : Node). k < n.size) the_node r.0.within)) h)

  pub searched : (name : List ℕ) (place block : ℕ) → place < node.size → block ≡ item_block im dir place → ((k : ℕ) → k < place → HasOther im dir k name) → IsSearched im dir name block
  searched name place block lt e others = record {
    place = place;
    has = has_place place lt;
    is = sym e;
    before = λ earlier l less h. other_link name earlier l (others earlier (omega arith)) h;
  }

-- a place within a block
pub slot_8 : {A : Type 0} (k : ℕ) (x : Option A) (o : Option A) → o ≡ cond (ltb (k % 8) 8) x None → x ≡ o
slot_8 k x o h = sym (h ∙ ap (λ b. cond b x None) (lt-ltb (k % 8) 8 (omega arith)))

pub slot_16 : {A : Type 0} (k : ℕ) (x : Option A) (o : Option A) → o ≡ cond (ltb (k % 16) 16) x None → x ≡ o
slot_16 k x o h = sym (h ∙ ap (λ b. cond b x None) (lt-ltb (k % 16) 16 (omega arith)))

-- names that a test tells apart
pub names_equal : (a b : List ℕ) (t : Bool) → t ≡ bytes_eq a b → t ≡ true → a ≡ b
names_equal a b t h e = (bytes_eq-Decides a b).0 (sym h ∙ e)

pub names_differ : (a b : List ℕ) (t : Bool) → t ≡ bytes_eq a b → t ≡ false → a ≢ b
names_differ a b t h e same = let yes_ : bytes_eq a b ≡ true = (bytes_eq-Decides a b).1 same in cc
