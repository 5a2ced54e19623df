-- A node with more or fewer blocks changes by the general rule.
use Rattle.std.proofs.Common.{◌≡◌, ◌≢◌, ◌⊎◌, inl, inr, ℕ, ◌/◌, ◌%◌, ◌<◌, ◌≤◌, Bool, true, false, cond, ◌||◌, ltb, IsSome, refl, sym, ap, ◌∙◌, subst, arith, slice_index}
use Rattle.std.specs.Option.{unwrap_or}
use native.Mathlib.Decide.{dec_lt}
use Rattle.zj_block.specs.Sizes.{Numbers, first_data}
use Rattle.zj_layout.specs.declared.fields.Kind.TheVariants.{Dir}
use Rattle.zj_layout.specs.declared.fields.Node.{Node}
use Rattle.zj_layout.specs.Node.{link_in, per_block, blocks_needed, most_items}
use Rattle.zj_layout.specs.Image.{Image, free_node, node_of, count_of, number_of, entry_at, names_block}
use Rattle.zj_layout.specs.Stored.{IsStored}
use Rattle.zj_layout.specs.Changed.{ChangesNode}
use Rattle.zj_changes.specs.Entry.{WasFree}
use Rattle.zj_changes.specs.Resized.{Resizes}
use Rattle.zj_layout.proofs.Changed.{names_from, names_at, named_at, or_right}

one_zero : ◌≡◌ {A = ℕ} 1 0 → ⊥
one_zero e = omega arith

-- a block that a node names is in use
pub named_used : (sizes : Numbers) (old : Image) → IsStored sizes old → (i j : ℕ) → i < sizes.nodes → j < count_of old i → old.map (number_of old i j) ≡ 1
named_used sizes old s i j below lt =
    let range = (s.placed i below).in_data j lt in
    let named = named_at sizes.nodes old (number_of old i j) i below (names_at old (number_of old i j) i j lt refl) in
    s.map (number_of old i j) range.1 ∙ ap (λ b. cond (ltb (number_of old i j) (first_data sizes) || b) 1 0) named ∙ ap (λ b. cond b 1 0) (or_right (ltb (number_of old i j) (first_data sizes)))

module _ (sizes : Numbers) (old new : Image) (s : IsStored sizes old) (d : ℕ) (node : Node) (r : Resizes sizes old new d node) where
  pub new_node : node_of new d ≡ node
  new_node = ap (λ o. unwrap_or o free_node) r.here

  new_number : (j : ℕ) → number_of new d j ≡ slice_index node.blocks j
  new_number j = ap (λ n. slice_index n.blocks j) new_node

  new_count : count_of new d ≡ blocks_needed node
  new_count = ap blocks_needed new_node

  used : (j : ℕ) → j < count_of old d → old.map (number_of old d j) ≡ 1
  used j lt = named_used sizes old s d j r.within lt

  not_free : (j : ℕ) (x : ℕ) → j < count_of old d → WasFree sizes old x → number_of old d j ≢ x
  not_free j x lt f e = one_zero (sym (used j lt) ∙ ap old.map e ∙ f.free)

  data Which (j : ℕ) : Type 0 where
    kept : j < count_of old d → number_of new d j ≡ number_of old d j → Which j
    grown : count_of old d ≤ j → WasFree sizes old (number_of new d j) → Which j

  which : (j : ℕ) → j < count_of new d → Which j
  which j lt = by (dec_lt j (count_of old d))
    where
      below : j < blocks_needed node
      below = omega (arith, new_count)

      by : Dec (j < count_of old d) → Which j
      by (yes h) = kept h (new_number j ∙ r.kept j below h)
      by (no h) = grown (omega arith) (subst (WasFree sizes old) (sym (new_number j)) (r.grown j below (omega arith)))

  pub resized : ChangesNode sizes old new d
  resized = record {
    within = r.within;
    others = r.others;
    placed = record {
      some = subst IsSome (sym r.here) refl;
      few = subst (λ n. n.size ≤ most_items n.kind) (sym new_node) r.few;
      in_data = λ j lt. in_data j (which j lt);
      root = λ z. ap (λ (n : Node). n.kind) new_node ∙ r.root z;
    };
    entries = λ place h. entry place (ap (λ (n : Node). n.kind) (sym new_node) ∙ h.directory) (subst (λ n. place < n.size) new_node h.within);
    once = λ j k hj hk e. once j k hj hk e (which j hj) (which k hk);
    own = λ j lt. own j (which j lt);
    content = r.content;
    map = λ b lt. mapped b (names_block new b d) refl (names_block old b d) refl;
  }
    where
      in_data : (j : ℕ) → Which j → (first_data sizes ≤ number_of new d j) × (number_of new d j < sizes.blocks)
      in_data j (kept lt e) = subst (λ b. (first_data sizes ≤ b) × (b < sizes.blocks)) (sym e) ((s.placed d r.within).in_data j lt)
      in_data j (grown le f) = (f.above, f.below)

      entry : (place : ℕ) → node.kind ≡ Dir → place < node.size → IsSome (entry_at new d place)
      entry place is lt =
          subst IsSome (sym (ap (λ n. link_in (new.content (slice_index n.blocks (place / per_block n.kind))) (place % 16)) new_node ∙ ap (λ k. link_in (new.content (slice_index node.blocks (place / per_block k))) (place % 16)) is))
          (r.entries is place lt)

      once : (j k : ℕ) → j < count_of new d → k < count_of new d → number_of new d j ≡ number_of new d k → Which j → Which k → j ≡ k
      once j k hj hk e (kept lj ej) (kept lk ek) = (s.apart d j d k lj lk (sym ej ∙ e ∙ ek)).1
      once j k hj hk e (kept lj ej) (grown lk f) = absurd (not_free j (number_of new d k) lj f (sym ej ∙ e))
      once j k hj hk e (grown lj f) (kept lk ek) = absurd (not_free k (number_of new d j) lk f (sym ek ∙ sym e))
      once j k hj hk e (grown lj f) (grown lk f') = r.grown_apart j k (omega (arith, new_count)) (omega (arith, new_count)) lj lk (sym (new_number j) ∙ e ∙ new_number k)

      own : (j : ℕ) → Which j → (names_block old (number_of new d j) d ≡ true) ⊎ (old.map (number_of new d j) ≡ 0)
      own j (kept lt e) = inl (names_at old (number_of new d j) d j lt (sym e))
      own j (grown le f) = inr f.free

      mapped : (b : ℕ) (x : Bool) → names_block new b d ≡ x → (y : Bool) → names_block old b d ≡ y → new.map b ≡ cond x 1 (cond y 0 (old.map b))
      mapped b true hx y hy = let n = names_from new b d hx in by n.j n.within n.is (which n.j n.within)
        where
          by : (j : ℕ) → j < count_of new d → number_of new d j ≡ b → Which j → new.map b ≡ 1
          by j lt is (grown le f) = ap new.map (sym (sym (new_number j) ∙ is)) ∙ r.taken j (omega (arith, new_count)) le
          by j lt is (kept less e) =
              let at : number_of old d j ≡ b = sym e ∙ is in
              r.map b
              (λ k hk le same. not_free j b less (subst (WasFree sizes old) same (r.grown k hk le)) at)
              (λ k le hk same. let j_is = (s.apart d j d k less hk (at ∙ sym same)).1 in omega (arith, j_is, new_count))
              ∙ ap old.map (sym at) ∙ used j less
      mapped b false hx true hy =
          let n = names_from old b d hy in
          ap new.map (sym n.is) ∙ r.freed n.j (past n.j n.within n.is (dec_lt n.j (blocks_needed node))) n.within
        where
          past : (j : ℕ) → j < count_of old d → number_of old d j ≡ b → Dec (j < blocks_needed node) → blocks_needed node ≤ j
          past j lt is (no h) = omega arith
          past j lt is (yes h) =
              let named : names_block new b d ≡ true = names_at new b d j (omega (arith, new_count)) (new_number j ∙ r.kept j h lt ∙ is) in
              absurd (clash (names_block new b d) named hx)
            where
              clash : (t : Bool) → t ≡ true → t ≡ false → ⊥
              clash t p q = cc
      mapped b false hx false hy = r.map b
          (λ k hk le same. clash _ (names_at new b d k (omega (arith, new_count)) (new_number k ∙ same)) hx)
          (λ k le hk same. clash _ (names_at old b d k hk same) hy)
        where
          clash : (t : Bool) → t ≡ true → t ≡ false → ⊥
          clash t p q = cc
