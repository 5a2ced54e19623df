-- A directory with one entry less, or with another entry in a place: its node's change, and where its names lead.
use Rattle.std.proofs.Common.{◌≡◌, ◌≢◌, ◌⊎◌, inl, inr, ℕ, ◌+◌, ◌-◌, ◌/◌, ◌%◌, ◌<◌, ◌≤◌, Bool, true, false, cond, eqb, eq-eqb, List, Option, Some, None, IsSome, refl, sym, ap, ◌∙◌, subst, arith, slice_index, slice_get}
use Rattle.std.specs.Option.{unwrap_or}
use native.Mathlib.Decide.{ℕ_discrete}
use Rattle.zj_block.specs.Sizes.{Numbers}
use Rattle.zj_tree.specs.declared.content.Content.TheVariants as contents
use Rattle.zj_layout.specs.declared.fields.Kind.TheVariants.{Dir}
use Rattle.zj_layout.specs.declared.fields.Node.{Node}
use Rattle.zj_layout.specs.declared.fields.Link.{Link}
use Rattle.zj_layout.specs.Graph.{content_of, links_of, link_at, HasNames}
use Rattle.zj_layout.specs.Node.{link_in, per_block, most_items}
use Rattle.zj_layout.specs.Image.{Image, free_node, node_of, count_of, number_of, item_block, entry_at, no_link, link_or_none, byte_at_place, held, graph_of, names_block}
use Rattle.zj_layout.specs.Rules.{HasPlace}
use Rattle.zj_layout.specs.Stored.{IsStored}
use Rattle.zj_changes.specs.Resized.{Resizes, RemovesEntry, ReplacesEntry}
use Rattle.zj_changes.specs.Steps.{SetsStep}
use Rattle.zj_layout.proofs.Follow.{some_is, none_some}
use Rattle.zj_layout.proofs.Changed.{names_at, item_within, others_hold}
use Rattle.zj_layout.proofs.Sound.{link_place, place_link}
use Rattle.zj_layout.proofs.Total.{no_eqb}
use Rattle.zj_changes.proofs.Resized.{resized}
use Rattle.zj_changes.proofs.Edits.{EditsLinks, edits_step}

clash : (b : Bool) → b ≡ true → b ≡ false → ⊥
clash b t f = cc

-- what stands at a place, by the entry there
pub stands_at : (image : Image) (dir place : ℕ) (l : Link) → (node_of image dir).kind ≡ Dir → place < (node_of image dir).size → entry_at image dir place ≡ Some l → link_at (graph_of image) dir place ≡ Some l
stands_at image dir place l is lt e = place_link image dir place (record { directory = is; within = lt }) ∙ ap (λ o. Some (unwrap_or o no_link)) e

-- and the entry there, by what stands
pub entry_of : (sizes : Numbers) (image : Image) → IsStored sizes image → (dir place : ℕ) (l : Link) → link_at (graph_of image) dir place ≡ Some l → HasPlace image dir place × (entry_at image dir place ≡ Some l)
entry_of sizes image s dir place l h =
    let r = link_place image dir place l h in
    (r.0, by (entry_at image dir place) (s.entry dir place r.0) r.1)
  where
    by : (o : Option Link) → IsSome o → l ≡ unwrap_or o no_link → o ≡ Some l
    by None some e = absurd cc
    by (Some m) some e = ap (λ (x : Link). Some x) (sym e)

pub dir_content : (image : Image) (dir : ℕ) → (node_of image dir).kind ≡ Dir → content_of (graph_of image dir) ≡ Some contents.Dir
dir_content image dir is = ap (λ k. content_of (held k (node_of image dir).size (byte_at_place image dir) (link_or_none image dir))) is

module _ (sizes : Numbers) (old new : Image) (s : IsStored sizes old) (dir size place : ℕ) (blocks : List ℕ) (a : RemovesEntry sizes old new dir size place blocks) where
  abbrev node' : Node
  node' = record { kind = Dir; size = size; blocks = blocks }

  old_count : count_of old dir ≡ (size + 16) / 16
  old_count = ap (λ k. ((node_of old dir).size + (per_block k - 1)) / per_block k) a.directory ∙ ap (λ n. (n + 15) / 16) a.size_is ∙ ap (λ n. n / 16) (omega arith)

  new_is : node_of new dir ≡ node'
  new_is = ap (λ o. unwrap_or o free_node) a.node

  -- the place that an entry stood at
  abbrev from : ℕ → ℕ
  from k = cond (eqb k place) size k

  from_place : from place ≡ size
  from_place = ap (λ b. cond b size place) (eq-eqb place place refl)

  from_other : (k : ℕ) → k ≢ place → from k ≡ k
  from_other k ne = ap (λ b. cond b size k) (no_eqb k place ne)

  hole_block : item_block old dir place ≡ number_of old dir (place / 16)
  hole_block = ap (λ k. number_of old dir (place / per_block k)) a.directory

  old_entry : (k : ℕ) → entry_at old dir k ≡ link_in (old.content (number_of old dir (k / 16))) (k % 16)
  old_entry k = ap (λ t. link_in (old.content (number_of old dir (k / per_block t))) (k % 16)) a.directory

  -- each entry of the new directory was one
  moved_entry : (k : ℕ) → k < size → link_in (new.content (slice_index blocks (k / 16))) (k % 16) ≡ entry_at old dir (from k)
  moved_entry k lt = ap (λ b. link_in (new.content b) (k % 16)) (a.same_blocks (k / 16) (omega arith)) ∙ by (ℕ_discrete (number_of old dir (k / 16)) (item_block old dir place)) (ℕ_discrete k place)
    where
      by : Dec (number_of old dir (k / 16) ≡ item_block old dir place) → Dec (k ≡ place) → link_in (new.content (number_of old dir (k / 16))) (k % 16) ≡ entry_at old dir (from k)
      by (yes e) (yes at) =
          ap (λ b. link_in (new.content b) (k % 16)) e ∙ ap (λ p. link_in (new.content (item_block old dir place)) (p % 16)) at ∙ a.filled (omega (arith, at))
          ∙ ap (entry_at old dir) (sym (ap from at ∙ from_place))
      by (yes e) (no ne) =
          let same : k / 16 ≡ place / 16 = (s.apart dir (k / 16) dir (place / 16) (omega (arith, old_count)) (omega (arith, old_count, a.hole)) (e ∙ hole_block)).1 in
          ap (λ b. link_in (new.content b) (k % 16)) e ∙ a.rest (k % 16) (omega arith) (λ f. ne (omega (arith, f, same)))
          ∙ ap (λ b. link_in (old.content b) (k % 16)) (sym e) ∙ sym (old_entry k) ∙ ap (entry_at old dir) (sym (from_other k ne))
      by (no ne) (yes at) = absurd (ne (ap (λ p. number_of old dir (p / 16)) at ∙ sym hole_block))
      by (no ne) (no off) = ap (λ c. link_in c (k % 16)) (a.content (number_of old dir (k / 16)) ne) ∙ sym (old_entry k) ∙ ap (entry_at old dir) (sym (from_other k off))

  from_within : (k : ℕ) → k < size → from k < size + 1
  from_within k lt = by (ℕ_discrete k place)
    where
      by : Dec (k ≡ place) → from k < size + 1
      by (yes e) = omega (arith, ap from e ∙ from_place)
      by (no ne) = omega (arith, from_other k ne)

  new_entry : (k : ℕ) → k < size → entry_at new dir k ≡ entry_at old dir (from k)
  new_entry k lt = ap (λ n. link_in (new.content (slice_index n.blocks (k / per_block n.kind))) (k % 16)) new_is ∙ moved_entry k lt

  old_some : (k : ℕ) → k < size + 1 → IsSome (entry_at old dir k)
  old_some k lt = s.entry dir k (record { directory = a.directory; within = subst (λ n. k < n) (sym a.size_is) lt })

  pub removal : Resizes sizes old new dir node'
  removal = record {
    within = a.within;
    here = a.node;
    others = a.others;
    few = few;
    root = λ z. refl;
    kept = λ j lt less. a.same_blocks j lt;
    grown = λ j lt le. absurd (omega (arith, old_count));
    grown_apart = λ j k hj hk le le' e. absurd (omega (arith, old_count));
    entries = λ is k lt. subst IsSome (sym (moved_entry k lt)) (old_some (from k) (from_within k lt));
    content = λ b m ne. a.content b (λ e. clash (names_block old b dir) (names_at old b dir (place / 16) (omega (arith, old_count, a.hole)) (sym hole_block ∙ sym e)) ne);
    taken = λ j lt le. absurd (omega (arith, old_count));
    freed = λ j le lt.
        let last : j ≡ size / 16 = omega (arith, old_count) in
        ap (λ k. new.map (number_of old dir k)) last ∙ a.freed (omega (arith, old_count));
    map = λ b new_ones old_ones. a.map b (λ z e. old_ones (size / 16) (omega arith) (omega (arith, old_count)) (sym e));
  }
    where
      few : size ≤ 192
      few = omega (arith, a.size_is, subst (λ k. (node_of old dir).size ≤ most_items k) a.directory (s.placed dir a.within).few)

  new_place : (k : ℕ) (l : Link) → link_at (graph_of new) dir k ≡ Some l → (k < size) × (entry_at old dir (from k) ≡ Some l)
  new_place k l h =
      let r = link_place new dir k l h in
      let lt : k < size = subst (λ n. k < n.size) new_is r.0.within in
      (lt, by (entry_at old dir (from k)) (old_some (from k) (from_within k lt)) (r.1 ∙ ap (λ o. unwrap_or o no_link) (new_entry k lt)))
    where
      by : (o : Option Link) → IsSome o → l ≡ unwrap_or o no_link → o ≡ Some l
      by None some e = absurd cc
      by (Some m) some e = ap (λ (x : Link). Some x) (sym e)

  -- the entry's name leads nowhere now
  pub removal_step : HasNames (graph_of old) → (link : Link) → link_at (graph_of old) dir place ≡ Some link → SetsStep (graph_of old) (graph_of new) dir link.name None
  removal_step names link there = edits_step (graph_of old) (graph_of new) dir link.name None names edits same (others_hold sizes old new s dir (resized sizes old new s dir node' removal))
    where
      same : content_of (graph_of new dir) ≡ content_of (graph_of old dir)
      same = dir_content new dir (ap (λ (n : Node). n.kind) new_is) ∙ sym (dir_content old dir a.directory)

      from_not : (k : ℕ) → k < size → from k ≢ place
      from_not k lt e = by (ℕ_discrete k place)
        where
          by : Dec (k ≡ place) → ⊥
          by (yes at) = omega (arith, ap from at ∙ from_place, e, at)
          by (no ne) = ne (sym (from_other k ne) ∙ e)

      once : (j k : ℕ) → j < size → k < size → from j ≡ from k → j ≡ k
      once j k hj hk e = by (ℕ_discrete j place) (ℕ_discrete k place)
        where
          by : Dec (j ≡ place) → Dec (k ≡ place) → j ≡ k
          by (yes p) (yes q) = p ∙ sym q
          by (yes p) (no q) = absurd (omega (arith, ap from p ∙ from_place, from_other k q, e))
          by (no p) (yes q) = absurd (omega (arith, ap from q ∙ from_place, from_other j p, e))
          by (no p) (no q) = sym (from_other j p) ∙ e ∙ from_other k q

      stands : (k : ℕ) (l : Link) → k < size → entry_at old dir (from k) ≡ Some l → link_at (graph_of new) dir k ≡ Some l
      stands k l lt e = stands_at new dir k l (ap (λ (n : Node). n.kind) new_is) (subst (λ n. k < n.size) (sym new_is) lt) (new_entry k lt ∙ e)

      goes : (j : ℕ) (l : Link) → link_at (graph_of old) dir j ≡ Some l → j ≢ place → (k : ℕ) × (link_at (graph_of new) dir k ≡ Some l)
      goes j l h ne = by (ℕ_discrete j size)
        where
          is : HasPlace old dir j × (entry_at old dir j ≡ Some l)
          is = entry_of sizes old s dir j l h

          by : Dec (j ≡ size) → (k : ℕ) × (link_at (graph_of new) dir k ≡ Some l)
          by (yes e) = (place, stands place l (omega (arith, a.hole)) (ap (entry_at old dir) (from_place ∙ sym e) ∙ is.1))
          by (no off) = (j, stands j l (omega (arith, is.0.within, a.size_is)) (ap (entry_at old dir) (from_other j ne) ∙ is.1))

      edits : EditsLinks (links_of (graph_of old dir)) (links_of (graph_of new dir)) link.name None
      edits = record {
        hole = place;
        place = 0;
        from = from;
        only = λ j l h is. (names.each dir).each j place l link h there is;
        hole_name = λ l h. ap (λ (x : Link). x.name) (some_is (sym h ∙ there));
        link_name = λ l e. absurd (none_some e);
        comes = λ k l h. let p = new_place k l h in
            inl (stands_at old dir (from k) l a.directory (subst (λ n. from k < n) (sym a.size_is) (from_within k p.0)) p.1, from_not k p.0);
        once = λ j k l m hj hk e. once j k (new_place j l hj).0 (new_place k m hk).0 e;
        goes = goes;
        stands = λ l e. absurd (none_some e);
      }

-- ---- another entry in a place

module _ (sizes : Numbers) (old new : Image) (s : IsStored sizes old) (dir place : ℕ) (link : Link) (a : ReplacesEntry sizes old new dir place link) where
  same_node : node_of new dir ≡ node_of old dir
  same_node = ap (λ o. unwrap_or o free_node) (a.node dir)

  hole_within : place / per_block (node_of old dir).kind < count_of old dir
  hole_within = item_within old dir place a.hole

  entry_here : entry_at new dir place ≡ Some link
  entry_here = ap (λ n. link_in (new.content (slice_index n.blocks (place / per_block n.kind))) (place % 16)) same_node ∙ a.stands

  entry_there : (k : ℕ) → k < (node_of old dir).size → k ≢ place → entry_at new dir k ≡ entry_at old dir k
  entry_there k lt ne = ap (λ n. link_in (new.content (slice_index n.blocks (k / per_block n.kind))) (k % 16)) same_node ∙ by (ℕ_discrete (item_block old dir k) (item_block old dir place))
    where
      by : Dec (item_block old dir k ≡ item_block old dir place) → link_in (new.content (item_block old dir k)) (k % 16) ≡ link_in (old.content (item_block old dir k)) (k % 16)
      by (no away) = ap (λ c. link_in c (k % 16)) (a.content (item_block old dir k) away)
      by (yes e) =
          let same = (s.apart dir (k / per_block (node_of old dir).kind) dir (place / per_block (node_of old dir).kind) (item_within old dir k lt) hole_within e).1 in
          let same' : k / 16 ≡ place / 16 = sym (ap (λ t. k / per_block t) a.directory) ∙ same ∙ ap (λ t. place / per_block t) a.directory in
          ap (λ b. link_in (new.content b) (k % 16)) e ∙ a.rest (k % 16) (omega arith) (λ f. ne (omega (arith, f, same'))) ∙ ap (λ b. link_in (old.content b) (k % 16)) (sym e)

  entry_some : (k : ℕ) → k < (node_of old dir).size → IsSome (entry_at new dir k)
  entry_some k lt = by (ℕ_discrete k place)
    where
      by : Dec (k ≡ place) → IsSome (entry_at new dir k)
      by (yes e) = subst IsSome (sym (ap (entry_at new dir) e ∙ entry_here)) refl
      by (no ne) = subst IsSome (sym (entry_there k lt ne)) (s.entry dir k (record { directory = a.directory; within = lt }))

  pub replacement : Resizes sizes old new dir (node_of old dir)
  replacement = record {
    within = a.within;
    here = a.node dir ∙ some (old.node dir) (s.placed dir a.within).some;
    others = λ other ne. a.node other;
    few = (s.placed dir a.within).few;
    root = (s.placed dir a.within).root;
    kept = λ j lt less. refl;
    grown = λ j lt le. absurd (omega arith);
    grown_apart = λ j k hj hk le le' e. absurd (omega arith);
    entries = λ is k lt. subst IsSome (ap (λ n. link_in (new.content (slice_index n.blocks (k / per_block n.kind))) (k % 16)) same_node ∙ ap (λ t. link_in (new.content (slice_index (node_of old dir).blocks (k / per_block t))) (k % 16)) is) (entry_some k lt);
    content = λ b m ne. a.content b (λ e. clash (names_block old b dir) (names_at old b dir (place / per_block (node_of old dir).kind) hole_within (sym e)) ne);
    taken = λ j lt le. absurd (omega arith);
    freed = λ j le lt. absurd (omega arith);
    map = λ b new_ones old_ones. a.map b;
  }
    where
      some : (o : Option Node) → IsSome o → o ≡ Some (unwrap_or o free_node)
      some None h = absurd cc
      some (Some x) h = refl

  -- the entry's name leads to another node now
  pub replacement_step : HasNames (graph_of old) → (was : Link) → link_at (graph_of old) dir place ≡ Some was → was.name ≡ link.name → SetsStep (graph_of old) (graph_of new) dir link.name (Some link.node)
  replacement_step names was there same = edits_step (graph_of old) (graph_of new) dir link.name (Some link) names edits shows (others_hold sizes old new s dir (resized sizes old new s dir (node_of old dir) replacement))
    where
      new_dir : (node_of new dir).kind ≡ Dir
      new_dir = ap (λ (n : Node). n.kind) same_node ∙ a.directory

      shows : content_of (graph_of new dir) ≡ content_of (graph_of old dir)
      shows = dir_content new dir new_dir ∙ sym (dir_content old dir a.directory)

      new_at : link_at (graph_of new) dir place ≡ Some link
      new_at = stands_at new dir place link new_dir (subst (λ n. place < n.size) (sym same_node) a.hole) entry_here

      comes : (k : ℕ) (l : Link) → link_at (graph_of new) dir k ≡ Some l → ((link_at (graph_of old) dir k ≡ Some l) × (k ≢ place)) ⊎ ((k ≡ place) × (◌≡◌ {A = Option Link} (Some link) (Some l)))
      comes k l h = by (ℕ_discrete k place)
        where
          by : Dec (k ≡ place) → ((link_at (graph_of old) dir k ≡ Some l) × (k ≢ place)) ⊎ ((k ≡ place) × (◌≡◌ {A = Option Link} (Some link) (Some l)))
          by (yes e) = inr (e, sym new_at ∙ ap (link_at (graph_of new) dir) (sym e) ∙ h)
          by (no ne) =
              let r = link_place new dir k l h in
              let lt = subst (λ n. k < n.size) same_node r.0.within in
              inl (place_link old dir k (record { directory = a.directory; within = lt }) ∙ ap (λ o. Some (unwrap_or o no_link)) (sym (entry_there k lt ne)) ∙ ap (λ (x : Link). Some x) (sym r.1), ne)

      goes : (j : ℕ) (l : Link) → link_at (graph_of old) dir j ≡ Some l → j ≢ place → (k : ℕ) × (link_at (graph_of new) dir k ≡ Some l)
      goes j l h ne =
          let r = entry_of sizes old s dir j l h in
          (j, stands_at new dir j l new_dir (subst (λ n. j < n.size) (sym same_node) r.0.within) (entry_there j r.0.within ne ∙ r.1))

      edits : EditsLinks (links_of (graph_of old dir)) (links_of (graph_of new dir)) link.name (Some link)
      edits = record {
        hole = place;
        place = place;
        from = λ k. k;
        only = λ j l h is. (names.each dir).each j place l was h there (is ∙ sym same);
        hole_name = λ l h. ap (λ (x : Link). x.name) (some_is (sym h ∙ there)) ∙ same;
        link_name = λ l e. ap (λ (x : Link). x.name) (sym (some_is e));
        comes = comes;
        once = λ j k l m hj hk e. e;
        goes = goes;
        stands = λ l e. new_at ∙ e;
      }

  -- every other entry stands where it stood
  pub replacement_other : (d k : ℕ) (l : Link) → link_at (graph_of old) d k ≡ Some l → (d ≡ dir → k ≢ place) → link_at (graph_of new) d k ≡ Some l
  replacement_other d k l h off = by (ℕ_discrete d dir)
    where
      here : d ≡ dir → link_at (graph_of old) dir k ≡ Some l → link_at (graph_of new) dir k ≡ Some l
      here e at =
          let r = entry_of sizes old s dir k l at in
          stands_at new dir k l (ap (λ (n : Node). n.kind) same_node ∙ a.directory) (subst (λ n. k < n.size) (sym same_node) r.0.within) (entry_there k r.0.within (off e) ∙ r.1)

      by : Dec (d ≡ dir) → link_at (graph_of new) d k ≡ Some l
      by (yes e) = ap (λ x. link_at (graph_of new) x k) e ∙ here e (ap (λ x. link_at (graph_of old) x k) (sym e) ∙ h)
      by (no ne) = ap (λ x. slice_get (links_of x) k) (others_hold sizes old new s dir (resized sizes old new s dir (node_of old dir) replacement) d ne) ∙ h
