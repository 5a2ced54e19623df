-- Bytes that stay, and the nodes and entries that stay with them.
use Rattle.std.proofs.Common.{◌≡◌, ◌≢◌, ◌⊎◌, inl, inr, ℕ, zero, suc, ◌+◌, ◌-◌, ◌*◌, ◌<◌, ◌≤◌, true, ◌&&◌, cond, eqb, leb, List, [], ◌∷◌, ◌++◌, length, map, take, drop, replicate, Some, None, IsTrue, refl, sym, ap, ◌∙◌, subst, arith, slice_index, get_or, below_more}
use Rattle.std.specs.List.{list_all, range_with_len}
use Rattle.std.proofs.lemmas.Bool.{cases_lt, le-leb}
use Rattle.std.proofs.lemmas.List.{length-append, length-replicate, get_or_append_left, get_or-append_right, get_or_past}
use Rattle.std.proofs.Math.Seq.{take-append_seam, drop-append_seam}
use Rattle.std.proofs.lemmas.List.FromFn.{fill_by_all}
use Rattle.zj_block.specs.Block.{IsContent, bytes_of, overwritten, u32_at}
use Rattle.zj_block.proofs.Bytes.{length-bytes_of, overwritten_below, overwritten_within, overwritten_above}
use Rattle.zj_block.proofs.Views.{u32_at_unchanged}
use Rattle.zj_tree.specs.Name.{is_name}
use Rattle.zj_layout.specs.declared.fields.Kind.{Kind}
use Rattle.zj_layout.specs.declared.fields.Kind.TheVariants.{Free, File, Dir}
use Rattle.zj_layout.specs.declared.fields.Node.{Node}
use Rattle.zj_layout.specs.declared.fields.Link.{Link}
use Rattle.zj_layout.specs.Node.{kind_of, is_node, checked_node, checked_link, numbers_at, field_at, node_in, link_in, byte_in}
use Rattle.zj_layout.specs.Kept.{KeepsBytesOff, kind_number}

-- ---- bytes

pub kept_put : (old new : List ℕ) (at : ℕ) (bytes : List ℕ) → IsContent old → at + length bytes ≤ 512 → bytes_of new ≡ overwritten (bytes_of old) at bytes → KeepsBytesOff old new at (length bytes)
kept_put old new at bytes is within h =
    let inside : at + length bytes ≤ length (bytes_of old) = omega (arith, length-bytes_of old, is.many) in
    record { each = λ m off. ap (λ xs. slice_index xs m) h ∙ by m inside off }
  where
    by : (m : ℕ) → at + length bytes ≤ length (bytes_of old) → (m < at) ⊎ (at + length bytes ≤ m) → slice_index (overwritten (bytes_of old) at bytes) m ≡ slice_index (bytes_of old) m
    by m inside (inl below) = overwritten_below (bytes_of old) at bytes inside m below
    by m inside (inr above) = overwritten_above (bytes_of old) at bytes inside m above

pub byte_put : (old new : List ℕ) (at byte : ℕ) → IsContent old → at < 512 → bytes_of new ≡ overwritten (bytes_of old) at (byte ∷ []) → slice_index (bytes_of new) at ≡ byte
byte_put old new at byte is within h =
    let inside : at + length (byte ∷ []) ≤ length (bytes_of old) = omega (arith, length-bytes_of old, is.many) in
    let none : at - at ≡ 0 = omega arith in
    ap (λ xs. slice_index xs at) h ∙ overwritten_within (bytes_of old) at (byte ∷ []) inside at (omega arith) (omega arith) ∙ ap (λ j. slice_index (byte ∷ []) j) none

pub kept_none : (c : List ℕ) (at count : ℕ) → KeepsBytesOff c c at count
kept_none c at count = record { each = λ m off. refl }

-- what two puts keep
pub kept_two : (old mid new : List ℕ) (a m b n at count : ℕ) → KeepsBytesOff old mid a m → KeepsBytesOff mid new b n → at ≤ a → a + m ≤ at + count → at ≤ b → b + n ≤ at + count → KeepsBytesOff old new at count
kept_two old mid new a m b n at count first second la ra lb rb = record { each = λ k off. second.each k (b_off k off) ∙ first.each k (a_off k off) }
  where
    a_off : (k : ℕ) → (k < at) ⊎ (at + count ≤ k) → (k < a) ⊎ (a + m ≤ k)
    a_off k (inl h) = inl (omega arith)
    a_off k (inr h) = inr (omega arith)

    b_off : (k : ℕ) → (k < at) ⊎ (at + count ≤ k) → (k < b) ⊎ (b + n ≤ k)
    b_off k (inl h) = inl (omega arith)
    b_off k (inr h) = inr (omega arith)

-- a number that lies off the bytes that were put
pub number_kept : (old new : List ℕ) (at count other : ℕ) → KeepsBytesOff old new at count → (other + 4 ≤ at) ⊎ (at + count ≤ other) → u32_at new other ≡ u32_at old other
number_kept old new at count other h off = u32_at_unchanged old new other (λ i lt. h.each (other + i) (by i lt off))
  where
    by : (i : ℕ) → i < 4 → (other + 4 ≤ at) ⊎ (at + count ≤ other) → (other + i < at) ⊎ (at + count ≤ other + i)
    by i lt (inl le) = inl (omega arith)
    by i lt (inr le) = inr (omega arith)

-- ---- lists made of a function

pub same_map : {A : Type 0} (f g : ℕ → A) (n : ℕ) → ((j : ℕ) → j < n → f j ≡ g j) → map f (range_with_len 0 n) ≡ map g (range_with_len 0 n)
same_map f g n h = from f g 0 n (λ j lt. h j (omega arith))
  where
    from : {A : Type 0} (f g : ℕ → A) (a n : ℕ) → ((j : ℕ) → j < a + n → f j ≡ g j) → map f (range_with_len a n) ≡ map g (range_with_len a n)
    from f g a zero h = refl
    from f g a (suc n) h = let rest = from f g (a + 1) n (λ j lt. h j (omega arith)) in let here = h a (omega arith) in λ i. here i ∷ rest i

-- ---- slots that stay

module _ (old new : List ℕ) (i j : ℕ) (ne : j ≢ i) (h : KeepsBytesOff old new (64 * i) 64) where
  off_64 : (d : ℕ) → d + 4 ≤ 64 → (64 * j + d + 4 ≤ 64 * i) ⊎ (64 * i + 64 ≤ 64 * j + d)
  off_64 d le = by (cases_lt j i)
    where
      by : (j < i) ⊎ (i ≤ j) → (64 * j + d + 4 ≤ 64 * i) ⊎ (64 * i + 64 ≤ 64 * j + d)
      by (inl lt) = inl (omega arith)
      by (inr ge) = inr (omega arith)

  there : (d : ℕ) → d + 4 ≤ 64 → u32_at new (64 * j + d) ≡ u32_at old (64 * j + d)
  there d le = number_kept old new (64 * i) 64 (64 * j + d) h (off_64 d le)

  there_first : u32_at new (64 * j) ≡ u32_at old (64 * j)
  there_first =
      let e : 64 * j + 0 ≡ 64 * j = omega arith in
      subst (λ k. u32_at new k ≡ u32_at old k) e (there 0 (omega arith))

  there_numbers : numbers_at new j ≡ numbers_at old j
  there_numbers = same_map (λ k. u32_at new (64 * j + 8 + 4 * k)) (λ k. u32_at old (64 * j + 8 + 4 * k)) 12 (λ k lt.
      let e : 64 * j + (8 + 4 * k) ≡ 64 * j + 8 + 4 * k = omega arith in
      subst (λ x. u32_at new x ≡ u32_at old x) e (there (8 + 4 * k) (omega arith)))

  pub node_kept : node_in new j ≡ node_in old j
  unfolding node_in
  node_kept =
      let a = there_first in
      let b = there 4 (omega arith) in
      let c = there_numbers in
      let d = there 56 (omega arith) in
      let e = there 60 (omega arith) in
      λ t. checked_node (kind_of (a t)) (b t) (c t) (eqb (d t) 0 && eqb (e t) 0)

module _ (old new : List ℕ) (i j : ℕ) (ne : j ≢ i) (h : KeepsBytesOff old new (32 * i) 32) where
  off_32 : (d n : ℕ) → d + n ≤ 32 → (32 * j + d + n ≤ 32 * i) ⊎ (32 * i + 32 ≤ 32 * j + d)
  off_32 d n le = by (cases_lt j i)
    where
      by : (j < i) ⊎ (i ≤ j) → (32 * j + d + n ≤ 32 * i) ⊎ (32 * i + 32 ≤ 32 * j + d)
      by (inl lt) = inl (omega arith)
      by (inr ge) = inr (omega arith)

  byte_there : (d : ℕ) → d < 32 → slice_index (bytes_of new) (32 * j + d) ≡ slice_index (bytes_of old) (32 * j + d)
  byte_there d lt = h.each (32 * j + d) (by (off_32 d 1 (omega arith)))
    where
      by : (32 * j + d + 1 ≤ 32 * i) ⊎ (32 * i + 32 ≤ 32 * j + d) → (32 * j + d < 32 * i) ⊎ (32 * i + 32 ≤ 32 * j + d)
      by (inl le) = inl (omega arith)
      by (inr ge) = inr ge

  node_there : u32_at new (32 * j) ≡ u32_at old (32 * j)
  node_there =
      let e : 32 * j + 0 ≡ 32 * j = omega arith in
      subst (λ k. u32_at new k ≡ u32_at old k) e (number_kept old new (32 * i) 32 (32 * j + 0) h (off_32 0 4 (omega arith)))

  field_there : field_at new (32 * j + 6) ≡ field_at old (32 * j + 6)
  field_there = same_map (λ k. slice_index (bytes_of new) (32 * j + 6 + k)) (λ k. slice_index (bytes_of old) (32 * j + 6 + k)) 26 (λ k lt.
      let e : 32 * j + (6 + k) ≡ 32 * j + 6 + k = omega arith in
      subst (λ x. slice_index (bytes_of new) x ≡ slice_index (bytes_of old) x) e (byte_there (6 + k) (omega arith)))

  pub link_kept : link_in new j ≡ link_in old j
  unfolding link_in
  link_kept =
      let a = node_there in
      let b = byte_there 4 (omega arith) in
      let c = byte_there 5 (omega arith) in
      let d = field_there in
      λ t. checked_link (a t) (b t) (c t) (d t)

pub byte_kept : (old new : List ℕ) (i j : ℕ) → j ≢ i → KeepsBytesOff old new i 1 → byte_in new j ≡ byte_in old j
unfolding byte_in
byte_kept old new i j ne h = h.each j (by (cases_lt j i))
  where
    by : (j < i) ⊎ (i ≤ j) → (j < i) ⊎ (i + 1 ≤ j)
    by (inl lt) = inl lt
    by (inr ge) = inr (omega arith)

-- ---- slots that were put

kind_back : (kind : Kind) → kind_of (kind_number kind) ≡ Some kind
kind_back Free = refl
kind_back File = refl
kind_back Dir = refl

pub node_here : (c : List ℕ) (i : ℕ) (node : Node) → IsTrue (is_node node) → u32_at c (64 * i) ≡ kind_number node.kind → u32_at c (64 * i + 4) ≡ node.size → numbers_at c i ≡ node.blocks → u32_at c (64 * i + 56) ≡ 0 → u32_at c (64 * i + 60) ≡ 0 → node_in c i ≡ Some node
unfolding node_in
node_here c i node is a b d e f =
    (λ t. checked_node (((λ s. kind_of (a s)) ∙ kind_back node.kind) t) (b t) (d t) (eqb (e t) 0 && eqb (f t) 0))
    ∙ ap (λ x. cond x (Some node) None) is

zeros_pass : (n : ℕ) → list_all (λ b. eqb b 0) (replicate n 0) ≡ true
zeros_pass zero = refl
zeros_pass (suc n) = zeros_pass n

pub link_here : (c : List ℕ) (i : ℕ) (link : Link) → IsTrue (is_name link.name) → length link.name ≤ 26 → u32_at c (32 * i) ≡ link.node → slice_index (bytes_of c) (32 * i + 4) ≡ length link.name → slice_index (bytes_of c) (32 * i + 5) ≡ 0 → field_at c (32 * i + 6) ≡ link.name ++ replicate (26 - length link.name) 0 → link_in c i ≡ Some link
unfolding link_in
link_here c i link is few a b d e =
    let zeros = replicate (26 - length link.name) 0 in
    let front : take (length link.name) (link.name ++ zeros) ≡ link.name = take-append_seam link.name zeros in
    let rest : drop (length link.name) (link.name ++ zeros) ≡ zeros = drop-append_seam link.name zeros in
    (λ t. checked_link (a t) (b t) (d t) (e t))
    ∙ (λ t. cond (le_true t && true && list_all (λ x. eqb x 0) (rest t) && is_name (front t)) (Some (record { node = link.node; name = front t })) None)
    ∙ (λ t. cond (zeros_pass (26 - length link.name) t && is t) (Some link) None)
  where
    le_true : leb (length link.name) 26 ≡ true
    le_true = le-leb (length link.name) 26 few

-- the bytes of a name, and then zeros
pub field_is : (c name : List ℕ) (at : ℕ) → length name ≤ 26 → ((k : ℕ) → k < 26 → slice_index (bytes_of c) (at + k) ≡ slice_index name k) → field_at c at ≡ name ++ replicate (26 - length name) 0
field_is c name at few h = sym (fill_by_all (λ k. slice_index (bytes_of c) (at + k)) (name ++ replicate (26 - length name) 0) 26 0 (omega (arith, length-append name (replicate (26 - length name) 0), length-replicate {A = ℕ} (26 - length name) 0)) (λ k lt. by k lt (cases_lt k (length name))))
  where
    by : (k : ℕ) → k < 26 → (k < length name) ⊎ (length name ≤ k) → get_or (name ++ replicate (26 - length name) 0) k 0 ≡ slice_index (bytes_of c) (at + k)
    by k lt (inl below) = get_or_append_left name (replicate (26 - length name) 0) 0 k below ∙ sym (h k lt)
    by k lt (inr above) =
        get_or-append_right name (replicate (26 - length name) 0) (length name) k 0 refl above
        ∙ zero_there (26 - length name) (k - length name)
        ∙ sym (h k lt ∙ past name k above)
      where
        zero_there : (n j : ℕ) → ◌≡◌ {A = ℕ} (get_or (replicate n 0) j 0) 0
        zero_there zero j = refl
        zero_there (suc n) zero = refl
        zero_there (suc n) (suc j) = zero_there n j

        past : (xs : List ℕ) (j : ℕ) → length xs ≤ j → get_or xs j 0 ≡ 0
        past xs j le = get_or_past xs j 0 le

-- one more of a row of numbers
pub numbers_more : (old new : List ℕ) (at j : ℕ) (numbers : List ℕ) → ((k : ℕ) → k < j → u32_at old (at + 4 * k) ≡ get_or numbers k 0) → KeepsBytesOff old new (at + 4 * j) 4 → u32_at new (at + 4 * j) ≡ get_or numbers j 0 → (k : ℕ) → k < j + 1 → u32_at new (at + 4 * k) ≡ get_or numbers k 0
numbers_more old new at j numbers before kept here =
    below_more (λ k. u32_at new (at + 4 * k) ≡ get_or numbers k 0) j
    (λ k lt. number_kept old new (at + 4 * j) 4 (at + 4 * k) kept (inl (omega arith)) ∙ before k lt)
    here

pub bytes_more : (old new : List ℕ) (at j : ℕ) (name : List ℕ) → ((k : ℕ) → k < j → get_or (bytes_of old) (at + k) 0 ≡ get_or name k 0) → KeepsBytesOff old new (at + j) 1 → slice_index (bytes_of new) (at + j) ≡ get_or name j 0 → (k : ℕ) → k < j + 1 → get_or (bytes_of new) (at + k) 0 ≡ get_or name k 0
bytes_more old new at j name before kept here =
    below_more (λ k. get_or (bytes_of new) (at + k) 0 ≡ get_or name k 0) j
    (λ k lt. kept.each (at + k) (inl (omega arith)) ∙ before k lt)
    here
