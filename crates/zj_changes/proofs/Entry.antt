-- A directory with one entry more: what it holds, and that its change is one of a single node.
use Rattle.std.proofs.Common.{◌≡◌, ◌≢◌, ◌⊎◌, inl, inr, ℕ, ◌+◌, ◌-◌, ◌/◌, ◌%◌, ◌<◌, ◌≤◌, Bool, true, false, cond, ◌||◌, ltb, List, [], ◌∷◌, ◌++◌, map, Some, IsSome, refl, sym, ap, ◌∙◌, subst, arith, slice_index}
use Rattle.std.specs.List.{range_with_len}
use Rattle.std.specs.Option.{unwrap_or}
use Rattle.std.proofs.lemmas.List.FromFn.{map-range_with_len_more}
use native.Mathlib.Decide.{ℕ_discrete, dec_lt}
use Rattle.zj_block.specs.Sizes.{Numbers, first_data}
use Rattle.zj_layout.specs.declared.fields.Kind.TheVariants.{Dir}
use Rattle.zj_layout.specs.declared.fields.Node.{Node}
use Rattle.zj_layout.specs.declared.fields.Link.{Link}
use Rattle.zj_layout.specs.Graph.{Links, links_of}
use Rattle.zj_layout.specs.Node.{link_in, per_block, blocks_needed, most_items}
use Rattle.zj_layout.specs.Image.{Image, free_node, node_of, count_of, number_of, entry_at, no_link, link_or_none, byte_at_place, held, holding_at, names_block}
use Rattle.zj_layout.specs.Stored.{IsStored}
use Rattle.zj_layout.specs.Changed.{ChangesNode}
use Rattle.zj_changes.specs.Entry.{WasFree, AppendsEntry}
use Rattle.zj_layout.proofs.Changed.{names_from, names_at, named_at, map_agree, or_right}
use Rattle.zj_layout.proofs.Total.{same_bool}

module _ (sizes : Numbers) (old new : Image) (s : IsStored sizes old) (dir size : ℕ) (blocks : List ℕ) (x : ℕ) (link : Link) (a : AppendsEntry sizes old new dir size blocks x link) where
  abbrev node' : Node
  node' = record { kind = Dir; size = size + 1; blocks = blocks }

  new_node : node_of new dir ≡ node'
  new_node = ap (λ o. unwrap_or o free_node) a.node

  old_count : count_of old dir ≡ (size + 15) / 16
  old_count = ap (λ k. ((node_of old dir).size + (per_block k - 1)) / per_block k) a.directory ∙ ap (λ n. (n + 15) / 16) a.size_is

  new_count : count_of new dir ≡ (size + 16) / 16
  new_count = ap blocks_needed new_node ∙ ap (λ n. n / 16) (omega arith)

  new_number : (j : ℕ) → number_of new dir j ≡ slice_index blocks j
  new_number j = ap (λ n. slice_index n.blocks j) new_node

  one_zero : ◌≡◌ {A = ℕ} 1 0 → ⊥
  one_zero e = omega arith

  clash : (b : Bool) → b ≡ true → b ≡ false → ⊥
  clash b t f = cc

  -- a block that the directory named is in use
  used : (j : ℕ) → j < count_of old dir → old.map (number_of old dir j) ≡ 1
  used j lt =
      let range = (s.placed dir a.within).in_data j lt in
      let named = named_at sizes.nodes old (number_of old dir j) dir a.within (names_at old (number_of old dir j) dir j lt refl) in
      s.map (number_of old dir j) range.1 ∙ ap (λ b. cond (ltb (number_of old dir j) (first_data sizes) || b) 1 0) named ∙ ap (λ b. cond b 1 0) (or_right (ltb (number_of old dir j) (first_data sizes)))

  -- the entry's block is the last one that was named, or a new one
  data Where (j : ℕ) : Type 0 where
    before_it : j < count_of old dir → number_of new dir j ≡ number_of old dir j → Where j
    new_one : count_of old dir ≤ j → j ≡ size / 16 → WasFree sizes old x → number_of new dir j ≡ x → Where j

  which : (j : ℕ) → j < count_of new dir → Where j
  which j lt = by (dec_lt j (count_of old dir)) a.status
    where
      by : Dec (j < count_of old dir) → (size % 16 ≢ 0) ⊎ ((size % 16 ≡ 0) × WasFree sizes old x) → Where j
      by (yes h) st = before_it h (new_number j ∙ a.same_blocks j h)
      by (no h) (inl ne) = absurd (omega (arith, old_count, new_count))
      by (no h) (inr f) =
          let at : j ≡ size / 16 = omega (arith, old_count, new_count, f.0) in
          new_one (omega arith) at f.1 (new_number j ∙ ap (slice_index blocks) at ∙ a.block_is)

  -- a block that was free wasn't named
  not_free : (j : ℕ) → j < count_of old dir → WasFree sizes old x → number_of old dir j ≢ x
  not_free j lt f e = one_zero (sym (used j lt) ∙ ap old.map e ∙ f.free)

  last_old : size % 16 ≢ 0 → (size / 16 < count_of old dir) × (number_of old dir (size / 16) ≡ x)
  last_old ne =
      let lt : size / 16 < count_of old dir = omega (arith, old_count) in
      (lt, sym (a.same_blocks (size / 16) lt) ∙ a.block_is)

  -- an entry that was there is there
  old_entry : (place : ℕ) → place < size → entry_at new dir place ≡ entry_at old dir place
  old_entry place lt =
      ap (λ n. link_in (new.content (slice_index n.blocks (place / per_block n.kind))) (place % 16)) new_node
      ∙ ap (λ b. link_in (new.content b) (place % 16)) (a.same_blocks (place / 16) within)
      ∙ by (ℕ_discrete (number_of old dir (place / 16)) x) a.status
      ∙ ap (λ k. link_in (old.content (number_of old dir (place / per_block k))) (place % 16)) (sym a.directory)
    where
      within : place / 16 < count_of old dir
      within = omega (arith, old_count)

      by : Dec (number_of old dir (place / 16) ≡ x) → (size % 16 ≢ 0) ⊎ ((size % 16 ≡ 0) × WasFree sizes old x) → link_in (new.content (number_of old dir (place / 16))) (place % 16) ≡ link_in (old.content (number_of old dir (place / 16))) (place % 16)
      by (no ne) st = ap (λ c. link_in c (place % 16)) (a.content (number_of old dir (place / 16)) ne)
      by (yes e) (inr f) = absurd (not_free (place / 16) within f.1 e)
      by (yes e) (inl ne) =
          let last = last_old ne in
          let same : place / 16 ≡ size / 16 = (s.apart dir (place / 16) dir (size / 16) within last.0 (e ∙ sym last.1)).1 in
          ap (λ b. link_in (new.content b) (place % 16)) e ∙ a.before (place % 16) (omega arith) ∙ ap (λ b. link_in (old.content b) (place % 16)) (sym e)

  new_entry : entry_at new dir size ≡ Some link
  new_entry =
      ap (λ n. link_in (new.content (slice_index n.blocks (size / per_block n.kind))) (size % 16)) new_node
      ∙ ap (λ b. link_in (new.content b) (size % 16)) a.block_is ∙ a.stands

  old_links : holding_at old dir ≡ Links (map (link_or_none old dir) (range_with_len 0 size))
  old_links =
      ap (λ k. held k (node_of old dir).size (byte_at_place old dir) (link_or_none old dir)) a.directory
      ∙ ap (λ n. Links (map (link_or_none old dir) (range_with_len 0 n))) a.size_is

  -- the directory holds the entries that it held, and then the new one
  pub holds_more : holding_at new dir ≡ Links (links_of (holding_at old dir) ++ link ∷ [])
  holds_more =
      ap (λ n. held n.kind n.size (byte_at_place new dir) (link_or_none new dir)) new_node
      ∙ ap Links (map-range_with_len_more (link_or_none new dir) 0 size size (omega arith))
      ∙ ap (λ e. Links (map (link_or_none new dir) (range_with_len 0 size) ++ unwrap_or e no_link ∷ [])) new_entry
      ∙ ap (λ xs. Links (xs ++ link ∷ [])) (map_agree (link_or_none new dir) (link_or_none old dir) 0 size (λ k le lt. ap (λ e. unwrap_or e no_link) (old_entry k (omega arith))))
      ∙ sym (ap (λ h. Links (links_of h ++ link ∷ [])) old_links)

  names_same : (b : ℕ) → b ≢ x → names_block new b dir ≡ names_block old b dir
  names_same b ne = same_bool (names_block new b dir) (names_block old b dir) down up
    where
      down : names_block new b dir ≡ true → names_block old b dir ≡ true
      down h = let n = names_from new b dir h in by n.j n.is (which n.j n.within)
        where
          by : (j : ℕ) → number_of new dir j ≡ b → Where j → names_block old b dir ≡ true
          by j is (before_it lt e) = names_at old b dir j lt (sym e ∙ is)
          by j is (new_one le at f e) = absurd (ne (sym is ∙ e))

      up : names_block old b dir ≡ true → names_block new b dir ≡ true
      up h =
          let n = names_from old b dir h in
          names_at new b dir n.j (omega (arith, n.within, old_count, new_count)) (new_number n.j ∙ a.same_blocks n.j n.within ∙ n.is)

  new_named : names_block new x dir ≡ true
  new_named = names_at new x dir (size / 16) (omega (arith, new_count)) (new_number (size / 16) ∙ a.block_is)

  pub changes : ChangesNode sizes old new dir
  changes = record {
    within = a.within;
    others = a.others;
    placed = record {
      some = subst IsSome (sym a.node) refl;
      few = subst (λ n. n.size ≤ most_items n.kind) (sym new_node) few;
      in_data = λ j lt. in_data j (which j lt);
      root = λ z. ap (λ (n : Node). n.kind) new_node;
    };
    entries = λ place h. entry place (subst (λ n. place < n.size) new_node h.within) (ℕ_discrete place size);
    once = λ j k hj hk e. once j k e (which j hj) (which k hk);
    own = λ j lt. own j (which j lt);
    content = λ b m ne. a.content b (other b m ne);
    map = λ b lt. mapped b lt (ℕ_discrete b x);
  }
    where
      few : size + 1 ≤ 192
      few = omega (arith, a.fits)

      in_data : (j : ℕ) → Where j → (first_data sizes ≤ number_of new dir j) × (number_of new dir j < sizes.blocks)
      in_data j (before_it lt e) = subst (λ b. (first_data sizes ≤ b) × (b < sizes.blocks)) (sym e) ((s.placed dir a.within).in_data j lt)
      in_data j (new_one le at f e) = subst (λ b. (first_data sizes ≤ b) × (b < sizes.blocks)) (sym e) (f.above, f.below)

      entry : (place : ℕ) → place < size + 1 → Dec (place ≡ size) → IsSome (entry_at new dir place)
      entry place lt (yes e) = subst (λ p. IsSome (entry_at new dir p)) (sym e) (subst IsSome (sym new_entry) refl)
      entry place lt (no ne) =
          let less : place < size = omega arith in
          subst IsSome (sym (old_entry place less)) (s.entry dir place (record { directory = a.directory; within = subst (λ n. place < n) (sym a.size_is) less }))

      once : (j k : ℕ) → number_of new dir j ≡ number_of new dir k → Where j → Where k → j ≡ k
      once j k e (before_it lj ej) (before_it lk ek) = (s.apart dir j dir k lj lk (sym ej ∙ e ∙ ek)).1
      once j k e (before_it lj ej) (new_one lk at f ek) = absurd (not_free j lj f (sym ej ∙ e ∙ ek))
      once j k e (new_one lj at f ej) (before_it lk ek) = absurd (not_free k lk f (sym ek ∙ sym e ∙ ej))
      once j k e (new_one lj at f ej) (new_one lk at' f' ek) = at ∙ sym at'

      own : (j : ℕ) → Where j → (names_block old (number_of new dir j) dir ≡ true) ⊎ (old.map (number_of new dir j) ≡ 0)
      own j (before_it lt e) = inl (names_at old (number_of new dir j) dir j lt (sym e))
      own j (new_one le at f e) = inr (ap old.map e ∙ f.free)

      other : (b : ℕ) → old.map b ≡ 1 → names_block old b dir ≡ false → b ≢ x
      other b m ne e = by a.status
        where
          by : (size % 16 ≢ 0) ⊎ ((size % 16 ≡ 0) × WasFree sizes old x) → ⊥
          by (inl h) = let last = last_old h in clash _ (names_at old b dir (size / 16) last.0 (last.1 ∙ sym e)) ne
          by (inr f) = one_zero (sym m ∙ ap old.map e ∙ f.1.free)

      mapped : (b : ℕ) → b < sizes.blocks → Dec (b ≡ x) → new.map b ≡ cond (names_block new b dir) 1 (cond (names_block old b dir) 0 (old.map b))
      mapped b lt (yes e) = ap new.map e ∙ a.marked ∙ sym (ap (λ t. cond t 1 (cond (names_block old b dir) 0 (old.map b))) (ap (λ z. names_block new z dir) e ∙ new_named))
      mapped b lt (no ne) = a.map b ne ∙ by (names_block old b dir) refl ∙ sym (ap (λ t. cond t 1 (cond (names_block old b dir) 0 (old.map b))) (names_same b ne))
        where
          by : (y : Bool) → names_block old b dir ≡ y → old.map b ≡ cond y 1 (cond y 0 (old.map b))
          by true h = let n = names_from old b dir h in ap old.map (sym n.is) ∙ used n.j n.within
          by false h = refl
