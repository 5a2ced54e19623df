-- The rules on entries, as they are read.
use Rattle.std.proofs.Common.{◌≡◌, ◌≢◌, ◌⊎◌, inl, inr, ℕ, suc, ◌+◌, ◌/◌, ◌%◌, ◌<◌, ◌≤◌, min, Bool, true, false, ◌&&◌, cond, ltb, lt-ltb, List, [], ◌∷◌, ◌++◌, length, map, take, Option, Some, None, refl, sym, ap, ◌∙◌, subst, arith, slice_get, slice_index, get_or}
use Rattle.std.specs.List.{list_any, range_with_len}
use Rattle.std.specs.Option.{unwrap_or}
use Rattle.std.specs.Str.{bytes_eq}
use Rattle.std.proofs.lemmas.Bool.{cases_lt, le-leb}
use Rattle.std.proofs.lemmas.Option.{slice_get-get_or, slice_get_within, get_or_from_slice_get}
use Rattle.std.proofs.lemmas.List.{get_or-take, length-take-le}
use Rattle.std.proofs.lemmas.List.FromFn.{map-range_with_len_more}
use Rattle.std.proofs.lemmas.List.Folds.{list_any_at}
use Rattle.zj_layout.proofs.Total.{or_cases}
use Rattle.std.proofs.lemmas.Slice.Eq.{bytes_eq-Decides}
use native.Mathlib.Decide.{ℕ_discrete}
use Rattle.zj_block.specs.Sizes.{Numbers, first_data}
use Rattle.zj_layout.specs.declared.fields.Kind.{Kind}
use Rattle.zj_layout.specs.declared.fields.Kind.TheVariants.{Free, File, Dir}
use Rattle.zj_layout.specs.declared.fields.Node.{Node}
use Rattle.zj_layout.specs.declared.fields.Link.{Link}
use Rattle.zj_layout.specs.Graph.{Graph, links_of, IsLive, link_at, step}
use Rattle.zj_layout.proofs.Named.{named_first}
use Rattle.zj_layout.specs.Node.{link_in, most_items, per_block}
use Rattle.zj_layout.specs.Image.{State, block_at, Image, is_data, image_of, free_node, node_of, number_of, item_block, entry_at, no_link, link_or_none, byte_at_place, held, graph_of}
use Rattle.zj_layout.specs.Rules.{HasPlace, Rule4}
use Rattle.zj_layout.specs.Faults.{FailsAt}
use Rattle.zj_layout.specs.Read.{HasNodes, HasEntries, HasNames, IsNewName, Lowers}
use Rattle.zj_layout.proofs.Follow.{none_some}
use Rattle.zj_layout.proofs.Changed.{item_within}
use Rattle.zj_layout.proofs.Sound.{link_place, place_link, live_kind, kind_live}
use Rattle.zj_layout.proofs.Fresh.{past_node}
use Rattle.zj_layout.proofs.Ruled.{block_read}

-- ---- an entry's block

module _ (sizes : Numbers) (s : State) (nodes : HasNodes sizes s) (dir place : ℕ) (within : dir < sizes.nodes) (has : HasPlace (image_of sizes s) dir place) where
  abbrev im : Image
  im = image_of sizes s

  abbrev block : ℕ
  block = item_block im dir place

  pub place_few : place < 192
  place_few =
      let few : (node_of im dir).size ≤ 192 = subst (λ k. (node_of im dir).size ≤ most_items k) has.directory (nodes.each dir within).few in
      omega (arith, has.within)

  block_is : block ≡ number_of im dir (place / 16)
  block_is = ap (λ k. number_of im dir (place / per_block k)) has.directory

  in_data : (first_data sizes ≤ block) × (block < sizes.blocks)
  in_data = (nodes.each dir within).in_data (place / per_block (node_of im dir).kind) (item_within im dir place has.within)

  pub block_data : is_data sizes block ≡ true
  block_data = (λ i. le-leb (first_data sizes) block in_data.0 i && lt-ltb block sizes.blocks in_data.1 i)

  pub block_within : block < length s
  block_within = subst (λ n. block < n) (sym nodes.many) in_data.1

  pub block_node : (node : Node) → im.node dir ≡ Some node → slice_index node.blocks (place / 16) ≡ block
  block_node node is = ap (λ o. slice_index (unwrap_or o free_node).blocks (place / 16)) (sym is) ∙ sym block_is

  pub entry_read : (b : ℕ) (c : List ℕ) (o : Option Link) → b ≡ block → Some c ≡ slice_get s b → o ≡ cond (ltb (place % 16) 16) (link_in c (place % 16)) None → o ≡ entry_at im dir place
  entry_read b c o is h e =
      e ∙ ap (λ x. cond x (link_in c (place % 16)) None) (lt-ltb (place % 16) 16 (omega arith))
      ∙ ap (λ x. link_in x (place % 16)) (block_read s block c block_within (h ∙ ap (slice_get s) is) ∙ sym (ap (λ x. cond x (block_at s block) []) block_data))

-- a node past the last has no entry
pub no_place_past : (sizes : Numbers) (s : State) (dir place : ℕ) → HasPlace (image_of sizes s) dir place → dir < sizes.nodes
no_place_past sizes s dir place h = by (cases_lt dir sizes.nodes)
  where
    by : (dir < sizes.nodes) ⊎ (sizes.nodes ≤ dir) → dir < sizes.nodes
    by (inl lt) = lt
    by (inr le) = absurd (omega (arith, h.within, ap (λ o. (unwrap_or o free_node).size) (past_node sizes s dir le)))

pub place_of : (im : Image) (dir place : ℕ) (node : Node) → im.node dir ≡ Some node → node.kind ≡ Dir → place < node.size → HasPlace im dir place
place_of im dir place node is kind lt =
    let same : node_of im dir ≡ node = ap (λ o. unwrap_or o free_node) is in
    record { directory = ap (λ (n : Node). n.kind) same ∙ kind; within = subst (λ (n : Node). place < n.size) (sym same) lt }

pub place_within : (im : Image) (dir place : ℕ) (node : Node) → im.node dir ≡ Some node → HasPlace im dir place → (node.kind ≡ Dir) × (place < node.size)
place_within im dir place node is h =
    let same : node_of im dir ≡ node = ap (λ o. unwrap_or o free_node) is in
    (ap (λ (n : Node). n.kind) (sym same) ∙ h.directory, subst (λ (n : Node). place < n.size) same h.within)

-- ---- a search for the lowest block

pub lowers_none : (Good : ℕ → Type 0) (block : ℕ → ℕ) (bound : ℕ) → Lowers (λ k. k < 0) Good block bound bound
lowers_none Good block bound = record { clear = λ k lt. absurd (omega arith); lower = omega arith; caught = inl refl }

pub lowers_good : (Good : ℕ → Type 0) (block : ℕ → ℕ) (bound lowest count : ℕ) → Lowers (λ k. k < count) Good block bound lowest → Good count → Lowers (λ k. k < count + 1) Good block bound lowest
lowers_good Good block bound lowest count l good = record {
  clear = λ k lt. clear k lt (ℕ_discrete k count);
  lower = l.lower;
  caught = caught l.caught;
}
  where
    clear : (k : ℕ) → k < count + 1 → Dec (k ≡ count) → Good k ⊎ (lowest ≤ block k)
    clear k lt (yes same) = inl (subst Good (sym same) good)
    clear k lt (no other) = l.clear k (omega arith)

    caught : (lowest ≡ bound) ⊎ ((item : ℕ) × (item < count) × (block item ≡ lowest) × (¬ (Good item))) → (lowest ≡ bound) ⊎ ((item : ℕ) × (item < count + 1) × (block item ≡ lowest) × (¬ (Good item)))
    caught (inl e) = inl e
    caught (inr c) = inr (c.0, omega (arith, c.1), c.2, c.3)

pub lowers_bad : (Good : ℕ → Type 0) (block : ℕ → ℕ) (bound lowest count : ℕ) → Lowers (λ k. k < count) Good block bound lowest → ¬ (Good count) → Lowers (λ k. k < count + 1) Good block bound (min lowest (block count))
lowers_bad Good block bound lowest count l bad = record {
  clear = λ k lt. clear k lt (ℕ_discrete k count);
  lower = omega (arith, l.lower);
  caught = caught (cases_lt (block count) lowest) l.caught;
}
  where
    clear : (k : ℕ) → k < count + 1 → Dec (k ≡ count) → Good k ⊎ (min lowest (block count) ≤ block k)
    clear k lt (yes same) = inr (omega (arith, ap block same))
    clear k lt (no other) = less (l.clear k (omega arith))
      where
        less : Good k ⊎ (lowest ≤ block k) → Good k ⊎ (min lowest (block count) ≤ block k)
        less (inl g) = inl g
        less (inr le) = inr (omega arith)

    caught : (block count < lowest) ⊎ (lowest ≤ block count) → (lowest ≡ bound) ⊎ ((item : ℕ) × (item < count) × (block item ≡ lowest) × (¬ (Good item))) → (min lowest (block count) ≡ bound) ⊎ ((item : ℕ) × (item < count + 1) × (block item ≡ min lowest (block count)) × (¬ (Good item)))
    caught (inl lt) c = inr (count, omega arith, omega arith, bad)
    caught (inr le) (inl e) = inl (omega arith)
    caught (inr le) (inr c) = inr (c.0, omega (arith, c.1), omega (arith, c.2), c.3)

pub lowers_has : (Has Has' Good : ℕ → Type 0) (block : ℕ → ℕ) (bound lowest : ℕ) → ((k : ℕ) → Has k → Has' k) → ((k : ℕ) → Has' k → Has k) → Lowers Has Good block bound lowest → Lowers Has' Good block bound lowest
lowers_has Has Has' Good block bound lowest to from l = record { clear = λ k h. l.clear k (from k h); lower = l.lower; caught = by l.caught }
  where
    by : (lowest ≡ bound) ⊎ ((item : ℕ) × Has item × (block item ≡ lowest) × (¬ (Good item))) → (lowest ≡ bound) ⊎ ((item : ℕ) × Has' item × (block item ≡ lowest) × (¬ (Good item)))
    by (inl e) = inl e
    by (inr c) = inr (c.0, to c.0 c.1, c.2, c.3)

-- The lowest block of an entry that is not good, of the first nodes.
pub record LowestOf (im : Image) (Good : ℕ → ℕ → Type 0) (none nodes lowest : ℕ) : Type 0 where
  pub clear : (dir place : ℕ) → dir < nodes → HasPlace im dir place → Good dir place ⊎ (lowest ≤ item_block im dir place)
  pub lower : lowest ≤ none
  pub caught : (lowest ≡ none) ⊎ ((dir place : ℕ) × HasPlace im dir place × (item_block im dir place ≡ lowest) × (¬ (Good dir place)))

pub lowest_none : (im : Image) (Good : ℕ → ℕ → Type 0) (none : ℕ) → LowestOf im Good none 0 none
lowest_none im Good none = record { clear = λ d p lt. absurd (omega arith); lower = omega arith; caught = inl refl }

pub lowest_more : (im : Image) (Good : ℕ → ℕ → Type 0) (none dir old new : ℕ) → LowestOf im Good none dir old → Lowers (HasPlace im dir) (Good dir) (item_block im dir) old new → LowestOf im Good none (dir + 1) new
lowest_more im Good none dir old new before here = record {
  clear = λ d p lt h. clear d p lt h (ℕ_discrete d dir);
  lower = omega (arith, before.lower, here.lower);
  caught = caught here.caught before.caught;
}
  where
    clear : (d p : ℕ) → d < dir + 1 → HasPlace im d p → Dec (d ≡ dir) → Good d p ⊎ (new ≤ item_block im d p)
    clear d p lt h (yes same) = subst (λ x. HasPlace im x p → Good x p ⊎ (new ≤ item_block im x p)) (sym same) (here.clear p) h
    clear d p lt h (no other) = by (before.clear d p (omega arith) h)
      where
        by : Good d p ⊎ (old ≤ item_block im d p) → Good d p ⊎ (new ≤ item_block im d p)
        by (inl g) = inl g
        by (inr le) = inr (omega (arith, here.lower))

    caught : (new ≡ old) ⊎ ((p : ℕ) × HasPlace im dir p × (item_block im dir p ≡ new) × (¬ (Good dir p))) → (old ≡ none) ⊎ ((d p : ℕ) × HasPlace im d p × (item_block im d p ≡ old) × (¬ (Good d p))) → (new ≡ none) ⊎ ((d p : ℕ) × HasPlace im d p × (item_block im d p ≡ new) × (¬ (Good d p)))
    caught (inl e) (inl z) = inl (e ∙ z)
    caught (inl e) (inr c) = inr (c.0, c.1, c.2, c.3 ∙ sym e, c.4)
    caught (inr c) z = inr (dir, c.0, c.1, c.2, c.3)

-- where none is lower, all are good
pub all_good : (sizes : Numbers) (s : State) → HasNodes sizes s → (Good : ℕ → ℕ → Type 0) (lowest : ℕ) → LowestOf (image_of sizes s) Good sizes.blocks sizes.nodes lowest → sizes.blocks ≤ lowest → (dir place : ℕ) → HasPlace (image_of sizes s) dir place → Good dir place
all_good sizes s nodes Good lowest l le dir place has = by (l.clear dir place within has)
  where
    within : dir < sizes.nodes
    within = no_place_past sizes s dir place has

    by : Good dir place ⊎ (lowest ≤ item_block (image_of sizes s) dir place) → Good dir place
    by (inl g) = g
    by (inr up) = absurd (omega (arith, block_within sizes s nodes dir place within has, nodes.many))

pub fails_at : (sizes : Numbers) (s : State) (Good : ℕ → ℕ → Type 0) (Holds : ℕ → Type 0) (lowest : ℕ)
    → ((block : ℕ) → Holds block → (dir place : ℕ) → HasPlace (image_of sizes s) dir place → item_block (image_of sizes s) dir place ≡ block → Good dir place)
    → ((block : ℕ) → ((dir place : ℕ) → HasPlace (image_of sizes s) dir place → item_block (image_of sizes s) dir place ≡ block → Good dir place) → Holds block)
    → LowestOf (image_of sizes s) Good sizes.blocks sizes.nodes lowest → lowest < sizes.blocks → FailsAt Holds lowest
fails_at sizes s Good Holds lowest from to l less = record {
  fails = λ h. by h l.caught;
  lowest = λ b below. to b (λ dir place has is. good b below dir place has is (l.clear dir place (no_place_past sizes s dir place has) has));
}
  where
    by : Holds lowest → (lowest ≡ sizes.blocks) ⊎ ((dir place : ℕ) × HasPlace (image_of sizes s) dir place × (item_block (image_of sizes s) dir place ≡ lowest) × (¬ (Good dir place))) → ⊥
    by h (inl e) = omega arith
    by h (inr c) = c.4 (from lowest h c.0 c.1 c.2 c.3)

    good : (b : ℕ) → b < lowest → (dir place : ℕ) → HasPlace (image_of sizes s) dir place → item_block (image_of sizes s) dir place ≡ b → Good dir place ⊎ (lowest ≤ item_block (image_of sizes s) dir place) → Good dir place
    good b below dir place has is (inl g) = g
    good b below dir place has is (inr le) = absurd (omega (arith, is))

-- ---- rule 4 by names

module _ (im : Image) (dir : ℕ) where
  abbrev ls : List Link
  ls = links_of (graph_of im dir)

  pub has_link : (place : ℕ) → HasPlace im dir place → place < length ls
  has_link place h = slice_get_within ls place (link_or_none im dir place) (place_link im dir place h)

  pub link_has : (place : ℕ) → place < length ls → HasPlace im dir place
  link_has place lt = (link_place im dir place (get_or ls place no_link) (slice_get-get_or ls place no_link lt)).0

pub names_from : (im : Image) (block : ℕ) → Rule4 im block → (dir place : ℕ) → HasPlace im dir place → item_block im dir place ≡ block → IsNewName (links_of (graph_of im dir)) place
names_from im block rule dir place has is earlier less e =
    let lt = has_link im dir place has in
    rule dir place earlier (get_or (ls im dir) place no_link) (get_or (ls im dir) earlier no_link) (slice_get-get_or (ls im dir) place no_link lt) is less (slice_get-get_or (ls im dir) earlier no_link (omega arith)) (sym e)

pub names_to : (im : Image) (block : ℕ) → ((dir place : ℕ) → HasPlace im dir place → item_block im dir place ≡ block → IsNewName (links_of (graph_of im dir)) place) → Rule4 im block
names_to im block good dir place earlier l m hl is less hm e =
    good dir place (link_place im dir place l hl).0 is earlier less
    (ap (λ (x : Link). x.name) (get_or_from_slice_get (ls im dir) earlier m no_link hm) ∙ sym e ∙ ap (λ (x : Link). x.name) (sym (get_or_from_slice_get (ls im dir) place l no_link hl)))

-- whether an earlier entry has the name
module _ (links : List Link) (place : ℕ) (link : Link) (lt : place < length links) (is : link ≡ get_or links place no_link) where
  few : length (take place links) ≡ place
  few = length-take-le place links (omega arith)

  pub no_name : list_any (λ l. bytes_eq l.name link.name) (take place links) ≡ false → IsNewName links place
  no_name none earlier less same =
      let e : get_or (take place links) earlier no_link ≡ get_or links earlier no_link = get_or-take place links earlier no_link less in
      let equal : bytes_eq (get_or (take place links) earlier no_link).name link.name ≡ true = (bytes_eq-Decides _ _).1 (ap (λ (l : Link). l.name) e ∙ same ∙ ap (λ (l : Link). l.name) (sym is)) in
      let any : list_any (λ l. bytes_eq l.name link.name) (take place links) ≡ true = list_any_at (λ l. bytes_eq l.name link.name) (take place links) earlier no_link (omega (arith, few)) equal in
      cc

  pub some_name : list_any (λ l. bytes_eq l.name link.name) (take place links) ≡ true → ¬ (IsNewName links place)
  some_name some new =
      let a = any_link (λ l. bytes_eq l.name link.name) (take place links) some in
      let less : a.0 < place = omega (arith, a.1, few) in
      let equal = (bytes_eq-Decides (get_or (take place links) a.0 no_link).name link.name).0 a.2 in
      new a.0 less (ap (λ (l : Link). l.name) (sym (get_or-take place links a.0 no_link less)) ∙ equal ∙ ap (λ (l : Link). l.name) is)
    where
      any_link : (p : Link → Bool) (xs : List Link) → list_any p xs ≡ true → (j : ℕ) × (j < length xs) × (p (get_or xs j no_link) ≡ true)
      any_link p [] h = absurd cc
      any_link p (x ∷ xs) h = by (λ e. any_link p xs e) (or_cases (p x) (list_any p xs) h)
        where
          by : (list_any p xs ≡ true → (j : ℕ) × (j < length xs) × (p (get_or xs j no_link) ≡ true)) → (p x ≡ true) ⊎ (list_any p xs ≡ true) → (j : ℕ) × (j < length (x ∷ xs)) × (p (get_or (x ∷ xs) j no_link) ≡ true)
          by rest (inl e) = (0, omega arith, e)
          by rest (inr e) = let r = rest e in (suc r.0, omega (arith, r.1), r.2)

pub no_entry : (sizes : Numbers) (s : State) → HasEntries sizes s → (dir place : ℕ) → HasPlace (image_of sizes s) dir place → ◌≡◌ {A = Option Link} None (entry_at (image_of sizes s) dir place) → ⊥
no_entry sizes s h dir place has none = none_some (none ∙ (h.each dir place has).1)

pub map_more : {A : Type 0} (f : ℕ → A) (n : ℕ) → map f (range_with_len 0 (n + 1)) ≡ map f (range_with_len 0 n) ++ f n ∷ []
map_more f n = map-range_with_len_more f 0 n n (omega arith)

-- a directory's entries, and none of another node
pub dir_links : (im : Image) (dir : ℕ) (node : Node) → im.node dir ≡ Some node → node.kind ≡ Dir → map (link_or_none im dir) (range_with_len 0 node.size) ≡ links_of (graph_of im dir)
dir_links im dir node is kind = sym (ap (λ o. links_of (held (unwrap_or o free_node).kind (unwrap_or o free_node).size (byte_at_place im dir) (link_or_none im dir))) is ∙ ap (λ k. links_of (held k node.size (byte_at_place im dir) (link_or_none im dir))) kind)

pub no_links : (im : Image) (dir : ℕ) (node : Node) → im.node dir ≡ Some node → node.kind ≢ Dir → links_of (graph_of im dir) ≡ []
no_links im dir node is other = ap (λ o. links_of (held (unwrap_or o free_node).kind (unwrap_or o free_node).size (byte_at_place im dir) (link_or_none im dir))) is ∙ by node.kind other
  where
    by : (k : Kind) → k ≢ Dir → links_of (held k node.size (byte_at_place im dir) (link_or_none im dir)) ≡ []
    by Free ne = refl
    by File ne = refl
    by Dir ne = absurd (ne refl)

-- an entry that is read from a directory's list
pub record IsEntry (sizes : Numbers) (im : Image) (dir place : ℕ) (l : Link) : Type 0 where
  pub stands : link_at (graph_of im) dir place ≡ Some l
  pub within : l.node < sizes.nodes
  pub not_root : l.node ≢ 0
  pub live : IsLive (graph_of im l.node)

pub link_item : (sizes : Numbers) (s : State) → HasEntries sizes s → (dir place : ℕ) (l : Link) (links : List Link) → links ≡ links_of (graph_of (image_of sizes s) dir) → place < length links → l ≡ get_or links place l → IsEntry sizes (image_of sizes s) dir place l
link_item sizes s h dir place l links are lt is =
    let im = image_of sizes s in
    let there : slice_get links place ≡ Some l = slice_get-get_or links place l lt ∙ ap (λ (x : Link). Some x) (sym is) in
    let stands : link_at (graph_of im) dir place ≡ Some l = ap (λ (xs : List Link). slice_get xs place) (sym are) ∙ there in
    let r = link_place im dir place l stands in
    let x = h.each dir place r.0 in
    let same : l ≡ x.0 = r.1 ∙ ap (λ o. unwrap_or o no_link) x.1 in
    record {
      stands = stands;
      within = subst (λ (m : Link). m.node < sizes.nodes) (sym same) x.2;
      not_root = subst (λ (m : Link). m.node ≢ 0) (sym same) x.3;
      live = subst (λ (m : Link). IsLive (graph_of im m.node)) (sym same) x.4;
    }

-- the name of an entry leads to its node, where no earlier one has it
pub name_leads : (g : Graph) (dir place : ℕ) (l : Link) → link_at g dir place ≡ Some l → ((earlier : ℕ) (m : Link) → earlier < place → link_at g dir earlier ≡ Some m → m.name ≢ l.name) → step g dir l.name ≡ Some l.node
name_leads g dir place l stands new = named_first (links_of (g dir)) place l l.name (λ k m lt h. new k m lt h) stands refl

pub entry_leads : (sizes : Numbers) (s : State) → HasNames sizes s → (dir place : ℕ) (l : Link) → link_at (graph_of (image_of sizes s)) dir place ≡ Some l → step (graph_of (image_of sizes s)) dir l.name ≡ Some l.node
entry_leads sizes s h dir place l stands = name_leads (graph_of (image_of sizes s)) dir place l stands (λ earlier m less at e. h.each (item_block (image_of sizes s) dir place) dir place earlier l m stands refl less at (sym e))

-- an entry stands in one of the nodes
pub link_dir : (sizes : Numbers) (s : State) (dir place : ℕ) (l : Link) → link_at (graph_of (image_of sizes s)) dir place ≡ Some l → dir < sizes.nodes
link_dir sizes s dir place l h = no_place_past sizes s dir place (link_place (image_of sizes s) dir place l h).0

pub node_live : (im : Image) (n : ℕ) (node : Node) → im.node n ≡ Some node → node.kind ≢ Free → IsLive (graph_of im n)
node_live im n node is ne = kind_live im n (λ e. ne (ap (λ o. (unwrap_or o free_node).kind) (sym is) ∙ e))

pub node_free : (im : Image) (n : ℕ) (node : Node) → im.node n ≡ Some node → node.kind ≡ Free → IsLive (graph_of im n) → ⊥
node_free im n node is e live = live_kind im n live (ap (λ o. (unwrap_or o free_node).kind) is ∙ e)
