-- A directory's node with an entry more or less is a node.
use Rattle.std.proofs.Common.{◌≡◌, ◌≢◌, ℕ, zero, suc, ◌+◌, ◌-◌, ◌*◌, ◌/◌, ◌%◌, ◌<◌, ◌≤◌, Bool, true, false, cond, ◌&&◌, not, eqb, leb, eqb-true, eq-eqb, List, [], ◌∷◌, length, take, drop, set, Option, Some, None, refl, sym, ap, ◌∙◌, subst, arith, slice_index}
use Rattle.std.specs.List.{list_all}
use Rattle.std.proofs.lemmas.List.{length-take, length-drop, length-set, get_or-take, get_or-drop, get_or-set_same, get_or-set_other, get_or_past}
use Rattle.std.proofs.lemmas.List.FromFn.{length-map-range_with_len}
use native.Mathlib.Decide.{ℕ_discrete, dec_lt}
use Rattle.zj_block.specs.Block.{u32_at}
use Rattle.zj_layout.specs.declared.fields.Kind.{Kind}
use Rattle.zj_layout.specs.declared.fields.Kind.TheVariants.{Dir}
use Rattle.zj_layout.specs.declared.fields.Node.{Node}
use Rattle.zj_layout.specs.Node.{node_in, checked_node, kind_of, numbers_at, is_node, blocks_needed, most_items, per_block}
use Rattle.zj_layout.proofs.Follow.{some_is, none_some}
use Rattle.zj_layout.proofs.Changed.{not_true}

-- ---- the numbers of a node, one by one

all_at : (p : ℕ → Bool) (xs : List ℕ) (k : ℕ) → list_all p xs ≡ true → k < length xs → p (slice_index xs k) ≡ true
all_at p [] k h lt = absurd (omega arith)
all_at p (x ∷ xs) zero h lt = both_l (p x) _ h
  where
    both_l : (a b : Bool) → (a && b) ≡ true → a ≡ true
    both_l true b h = refl
    both_l false b h = absurd cc
all_at p (x ∷ xs) (suc k) h lt = all_at p xs k (both_r (p x) _ h) (omega arith)
  where
    both_r : (a b : Bool) → (a && b) ≡ true → b ≡ true
    both_r true b h = h
    both_r false b h = absurd cc

at_all : (p : ℕ → Bool) (xs : List ℕ) → ((k : ℕ) → k < length xs → p (slice_index xs k) ≡ true) → list_all p xs ≡ true
at_all p [] h = refl
at_all p (x ∷ xs) h =
    let here = h 0 (omega arith) in
    let rest = at_all p xs (λ k lt. h (suc k) (omega arith)) in
    λ i. here i && rest i

split : (a b c : Bool) → (a && b && c) ≡ true → (a ≡ true) × (b ≡ true) × (c ≡ true)
split true true c h = (refl, refl, h)
split true false c h = absurd cc
split false b c h = absurd cc

not_zero : (n : ℕ) → not (eqb n 0) ≡ true → n ≢ 0
not_zero n h e = clash (not (eqb n 0)) h (ap not (eq-eqb n 0 e))
  where
    clash : (b : Bool) → b ≡ true → b ≡ false → ⊥
    clash b t f = cc

some_number : (n : ℕ) → n ≢ 0 → not (eqb n 0) ≡ true
some_number n ne = ap not (not_true (eqb n 0) (λ h. ne (eqb-true n 0 h)))

le-leb : (a b : ℕ) → a ≤ b → leb a b ≡ true
le-leb a b h = grind arith

module _ (node : Node) (many : length node.blocks ≡ 12) (few : blocks_needed node ≤ 12) where
  pub named_number : is_node node ≡ true → (j : ℕ) → j < blocks_needed node → slice_index node.blocks j ≢ 0
  named_number h j lt =
      let s = split (leb node.size (most_items node.kind)) _ _ h in
      not_zero (slice_index node.blocks j) (ap (λ n. not (eqb n 0)) (sym (get_or-take (blocks_needed node) node.blocks j 0 lt)) ∙ all_at (λ n. not (eqb n 0)) (take (blocks_needed node) node.blocks) j s.1 (omega (arith, length-take (blocks_needed node) node.blocks)))

  pub rest_number : is_node node ≡ true → (j : ℕ) → blocks_needed node ≤ j → slice_index node.blocks j ≡ 0
  rest_number h j le = by (dec_lt j 12)
    where
      by : Dec (j < 12) → slice_index node.blocks j ≡ 0
      by (no past) = get_or_past node.blocks j 0 (omega (arith, many))
      by (yes lt) =
          let s = split (leb node.size (most_items node.kind)) _ _ h in
          let place : blocks_needed node + (j - blocks_needed node) ≡ j = omega arith in
          ap (slice_index node.blocks) (sym place) ∙ sym (get_or-drop (blocks_needed node) node.blocks (j - blocks_needed node) 0)
          ∙ eqb-true _ 0 (all_at (λ n. eqb n 0) (drop (blocks_needed node) node.blocks) (j - blocks_needed node) s.2 (omega (arith, length-drop (blocks_needed node) node.blocks, many)))

  pub node_from : node.size ≤ most_items node.kind → ((j : ℕ) → j < blocks_needed node → slice_index node.blocks j ≢ 0) → ((j : ℕ) → blocks_needed node ≤ j → slice_index node.blocks j ≡ 0) → is_node node ≡ true
  node_from size named rest =
      let a = le-leb node.size (most_items node.kind) size in
      let b = at_all (λ n. not (eqb n 0)) (take (blocks_needed node) node.blocks) (λ k lt.
      let within : k < blocks_needed node = omega (arith, length-take (blocks_needed node) node.blocks) in
      ap (λ n. not (eqb n 0)) (get_or-take (blocks_needed node) node.blocks k 0 within) ∙ some_number (slice_index node.blocks k) (named k within)) in
      let c = at_all (λ n. eqb n 0) (drop (blocks_needed node) node.blocks) (λ k lt. eq-eqb _ 0 (get_or-drop (blocks_needed node) node.blocks k 0 ∙ rest (blocks_needed node + k) (omega arith))) in
      λ i. a i && b i && c i

-- the node of an image is one
pub record IsNode (node : Node) : Type 0 where
  pub is : is_node node ≡ true
  pub many : length node.blocks ≡ 12

checked : (node : Node) (ko : Option Kind) (size : ℕ) (blocks : List ℕ) (z : Bool) → length blocks ≡ 12 → checked_node ko size blocks z ≡ Some node → IsNode node
checked node None size blocks z len e = absurd (none_some e)
checked node (Some kind) size blocks false len e = absurd (none_some e)
checked node (Some kind) size blocks true len e = cases (is_node (record { kind = kind; size = size; blocks = blocks })) refl e
  where
    cases : (b : Bool) → is_node (record { kind = kind; size = size; blocks = blocks }) ≡ b → cond b (Some (record { kind = kind; size = size; blocks = blocks })) None ≡ Some node → IsNode node
    cases true q e = subst IsNode (some_is e) (record { is = q; many = len })
    cases false q e = absurd (none_some e)

pub in_block : (content : List ℕ) (place : ℕ) (node : Node) → node_in content place ≡ Some node → IsNode node
unfolding node_in
in_block content place node e =
    checked node (kind_of (u32_at content (64 * place))) (u32_at content (64 * place + 4)) (numbers_at content place) (eqb (u32_at content (64 * place + 56)) 0 && eqb (u32_at content (64 * place + 60)) 0)
    (length-map-range_with_len (λ j. u32_at content (64 * place + 8 + 4 * j)) 0 12) e

-- the items of a node are few
pub few_items : (node : Node) → is_node node ≡ true → node.size ≤ most_items node.kind
few_items node h = leb-le node.size (most_items node.kind) (split (leb node.size (most_items node.kind)) _ _ h).0
  where
    leb-le : (a b : ℕ) → leb a b ≡ true → a ≤ b
    leb-le a b h = grind arith

pub few_entries : (node : Node) → is_node node ≡ true → node.kind ≡ Dir → node.size ≤ 192
few_entries node h dir = subst (λ k. node.size ≤ most_items k) dir (few_items node h)

module _ (node : Node) (many : length node.blocks ≡ 12) (is : is_node node ≡ true) (dir : node.kind ≡ Dir) (few : node.size ≤ 192) where
  count : blocks_needed node ≡ (node.size + 15) / 16
  count = ap (λ k. (node.size + (per_block k - 1)) / per_block k) dir

  pub grown_in_last : node.size < 192 → node.size % 16 ≢ 0 → is_node (record { kind = Dir; size = node.size + 1; blocks = node.blocks }) ≡ true
  grown_in_last more room = node_from (record { kind = Dir; size = node.size + 1; blocks = node.blocks }) many (omega arith) (omega arith)
      (λ j lt. named_number node many (omega (arith, count)) is j (omega (arith, count)))
      (λ j le. rest_number node many (omega (arith, count)) is j (omega (arith, count)))

  pub grown_in_new : (x : ℕ) → node.size < 192 → x ≢ 0 → node.size % 16 ≡ 0 → is_node (record { kind = Dir; size = node.size + 1; blocks = set node.blocks (node.size / 16) x }) ≡ true
  grown_in_new x more some full = node_from (record { kind = Dir; size = node.size + 1; blocks = set node.blocks (node.size / 16) x }) (length-set node.blocks (node.size / 16) x ∙ many) (omega arith) (omega arith)
      (λ j lt. named j (omega arith) (ℕ_discrete j (node.size / 16)))
      (λ j le. get_or-set_other node.blocks (node.size / 16) j x 0 (λ e. omega arith) ∙ rest_number node many (omega (arith, count)) is j (omega (arith, count)))
    where
      named : (j : ℕ) → j < (node.size + 16) / 16 → Dec (j ≡ node.size / 16) → slice_index (set node.blocks (node.size / 16) x) j ≢ 0
      named j lt (yes e) z = some (sym (get_or-set_same node.blocks (node.size / 16) x 0 (omega (arith, many))) ∙ ap (slice_index (set node.blocks (node.size / 16) x)) (sym e) ∙ z)
      named j lt (no ne) z = named_number node many (omega (arith, count)) is j (omega (arith, count)) (sym (get_or-set_other node.blocks (node.size / 16) j x 0 ne) ∙ z)

  -- with an entry less, whose block is still needed
  pub shrunk : (last : ℕ) → last + 1 ≡ node.size → last % 16 ≢ 0 → is_node (record { kind = Dir; size = last; blocks = node.blocks }) ≡ true
  shrunk last is_last rest = node_from (record { kind = Dir; size = last; blocks = node.blocks }) many (omega (arith, few)) (omega (arith, few))
      (λ j lt. named_number node many (omega (arith, count)) is j (omega (arith, count)))
      (λ j le. rest_number node many (omega (arith, count)) is j (omega (arith, count)))

  -- with an entry less, whose block is named no longer
  pub shrunk_block : (last : ℕ) → last + 1 ≡ node.size → last % 16 ≡ 0 → is_node (record { kind = Dir; size = last; blocks = set node.blocks (last / 16) 0 }) ≡ true
  shrunk_block last is_last alone = node_from (record { kind = Dir; size = last; blocks = set node.blocks (last / 16) 0 }) (length-set node.blocks (last / 16) 0 ∙ many) (omega (arith, few)) (omega (arith, few))
      (λ j lt z. named_number node many (omega (arith, count)) is j (omega (arith, count)) (sym (get_or-set_other node.blocks (last / 16) j 0 0 (λ e. omega arith)) ∙ z))
      (λ j le. rest j le (ℕ_discrete j (last / 16)))
    where
      rest : (j : ℕ) → (last + 15) / 16 ≤ j → Dec (j ≡ last / 16) → slice_index (set node.blocks (last / 16) 0) j ≡ 0
      rest j le (yes e) = ap (slice_index (set node.blocks (last / 16) 0)) e ∙ get_or-set_same node.blocks (last / 16) 0 0 (omega (arith, many, few))
      rest j le (no ne) = get_or-set_other node.blocks (last / 16) j 0 0 ne ∙ rest_number node many (omega (arith, count)) is j (omega (arith, count))
