-- The length and the bytes of an entry's name, and the number of a node's kind, where they stand.
use Rattle.std.proofs.Common.{◌≡◌, ℕ, zero, suc, ◌+◌, ◌*◌, ◌-◌, ◌<◌, ◌≤◌, leb, ltb, eqb, cond, drop, take, slice_index, Bool, true, false, ◌&&◌, List, length, Option, Some, None, IsSome, IsTrue, refl, sym, ap, ◌∙◌, subst, arith}
use Rattle.std.specs.List.{list_all}
use Rattle.std.specs.Prelude.{IfSome, slice_get}
use Rattle.std.specs.Option.{option_eq}
use Rattle.std.proofs.lemmas.Option.{get_or_from_slice_get, slice_get-get_or}
use Rattle.std.proofs.lemmas.Bool.{leb-true}
use Rattle.std.proofs.lemmas.List.{get_or-take, length-take-le}
use Rattle.std.proofs.lemmas.List.FromFn.{get_or-map-range_with_len, length-map-range_with_len}
use Rattle.zj_block.specs.Block.{IsContent, bytes_of, u32_at}
use Rattle.zj_block.proofs.Bytes.{length-bytes_of}
use Rattle.zj_tree.specs.Name.{is_name}
use Rattle.zj_layout.specs.declared.fields.Kind.{Kind}
use Rattle.zj_layout.specs.declared.fields.Kind.TheVariants as kinds
use Rattle.zj_layout.specs.declared.fields.Link.{Link}
use Rattle.zj_layout.specs.declared.fields.Node.{Node}
use Rattle.zj_layout.specs.Node.{checked_link, checked_node, field_at, is_node, kind_of, link_in, node_in, numbers_at}
use Rattle.zj_layout.proofs.Follow.{some_is, none_some}

-- what is read as an entry has its name's length and bytes at their places
pub record NameStands (content : List ℕ) (place : ℕ) (name : List ℕ) : Type 0 where
  pub few : length name ≤ 26
  pub length_is : slice_index (bytes_of content) (32 * place + 4) ≡ length name
  pub byte_is : (j : ℕ) → j < length name → slice_index (bytes_of content) (32 * place + 6 + j) ≡ slice_index name j

pub name_stands : (content : List ℕ) (place : ℕ) (l : Link) → link_in content place ≡ Some l → NameStands content place l.name
unfolding link_in
name_stands content place l h = by (slice_index (bytes_of content) (32 * place + 4)) refl (u32_at content (32 * place)) (slice_index (bytes_of content) (32 * place + 5)) h
  where
    field : List ℕ
    field = field_at content (32 * place + 6)

    by : (len : ℕ) → slice_index (bytes_of content) (32 * place + 4) ≡ len → (node zero_byte : ℕ) → checked_link node len zero_byte field ≡ Some l → NameStands content place l.name
    by len at node zero_byte h = test (leb len 26) (eqb zero_byte 0) (list_all (λ b. eqb b 0) (drop len field)) (is_name (take len field)) refl h
      where
        test : (a b c d : Bool) → leb len 26 ≡ a → cond (((a && b) && c) && d) (Some (record { node = node; name = take len field })) None ≡ Some l → NameStands content place l.name
        test true true true true e h =
            let name : take len field ≡ l.name = ap (λ (x : Link). x.name) (some_is h) in
            let long : length (take len field) ≡ len = length-take-le len field (subst (λ (n : ℕ). len ≤ n) (sym (length-map-range_with_len (λ k. slice_index (bytes_of content) (32 * place + 6 + k)) 0 26)) (leb-true len 26 e)) in
            subst (NameStands content place) name (record {
              few = omega (arith, long, leb-true len 26 e);
              length_is = at ∙ sym long;
              byte_is = λ j lt. sym (get_or-take len field j 0 (omega (arith, lt, long)) ∙ get_or-map-range_with_len (λ k. slice_index (bytes_of content) (32 * place + 6 + k)) 0 26 j j 0 (omega (arith, lt, long, leb-true len 26 e)) (omega arith));
            })
        test true true true false e h = absurd (none_some h)
        test true true false d e h = absurd (none_some h)
        test true false c d e h = absurd (none_some h)
        test false b c d e h = absurd (none_some h)

-- what is read as a node is free exactly where the number of its kind is 0
pub kind_stands : (content : List ℕ) (place : ℕ) (n : Node) → node_in content place ≡ Some n → kind_of (u32_at content (64 * place)) ≡ Some n.kind
unfolding node_in
kind_stands content place n h = by (kind_of (u32_at content (64 * place))) (u32_at content (64 * place + 4)) (numbers_at content place) (eqb (u32_at content (64 * place + 56)) 0 && eqb (u32_at content (64 * place + 60)) 0) h
  where
    by : (kind : Option Kind) (size : ℕ) (blocks : List ℕ) (zeros : Bool) → checked_node kind size blocks zeros ≡ Some n → kind ≡ Some n.kind
    by None size blocks zeros h = absurd (none_some h)
    by (Some k) size blocks zeros h = test (zeros && is_node (record { kind = k; size = size; blocks = blocks })) h
      where
        test : (b : Bool) → cond b (Some (record { kind = k; size = size; blocks = blocks })) None ≡ Some n → Some k ≡ Some n.kind
        test true h = ap (λ (x : Node). Some x.kind) (some_is h)
        test false h = absurd (none_some h)

pub free_is_0 : (number : ℕ) (kind : Kind) → kind_of number ≡ Some kind → kind ≡ kinds.Free → number ≡ 0
free_is_0 zero kind h free = refl
free_is_0 (suc zero) kind h free = absurd (cc (h, free))
free_is_0 (suc (suc zero)) kind h free = absurd (cc (h, free))
free_is_0 (suc (suc (suc n))) kind h free = absurd (none_some h)

pub kind_of_0 : (kind : Kind) → kind_of 0 ≡ Some kind → kind ≡ kinds.Free
kind_of_0 kind h = sym (some_is h)

eqb_zero : (v : ℕ) → eqb v 0 ≡ true → v ≡ 0
eqb_zero v e = grind arith

-- a number that was read and is 0 is the kind of a free node, and no other is
pub zero_is_free : (o : Option ℕ) (number : ℕ) (b : Bool) (kind : Kind) → IsSome o → IfSome o (λ v. v ≡ number) → b ≡ option_eq eqb o (Some 0) → kind_of number ≡ Some kind → (IsTrue b → kind ≡ kinds.Free) × (kind ≡ kinds.Free → IsTrue b)
zero_is_free None number b kind some is tested h = absurd cc
zero_is_free (Some v) number b kind some is tested h = (
  λ true_. kind_of_0 kind (ap kind_of (sym (eqb_zero v (sym tested ∙ true_)) ∙ is) ∙ h),
  λ free. tested ∙ ap (λ (n : ℕ). eqb n 0) (is ∙ free_is_0 number kind h free),
)

-- a byte that was read is the one that is looked for
same : (value : ℕ) → eqb value value ≡ true
same value = grind arith

pub byte_read : (bytes : List ℕ) (at value : ℕ) (o : Option ℕ) (b : Bool) → o ≡ slice_get bytes at → at < length bytes → slice_index bytes at ≡ value → b ≡ option_eq eqb o (Some value) → IsTrue b
byte_read bytes at value o b read within is tested =
    tested ∙ ap (λ (p : Option ℕ). option_eq eqb p (Some value)) (read ∙ slice_get-get_or bytes at 0 within ∙ ap Some is) ∙ same value

pub is_some_long : (n : ℕ) → true ≡ ltb 0 n → 0 < n
is_some_long n e = grind arith

module _ (content : List ℕ) (place : ℕ) (name : List ℕ) (link : Link) (is : IsContent content) (within : place < 16) (at : link_in content place ≡ Some link) (named : link.name ≡ name) where
  stands : NameStands content place name
  stands = subst (NameStands content place) named (name_stands content place link at)

  many : length (bytes_of content) ≡ 512
  many = length-bytes_of content ∙ ap (λ (n : ℕ). 8 * n) is.many

  -- an entry with the name has its length
  pub length_read : (o : Option ℕ) (b : Bool) → o ≡ slice_get (bytes_of content) (32 * place + 4) → b ≡ option_eq eqb o (Some (length name)) → IsTrue b
  length_read o b read tested = byte_read (bytes_of content) (32 * place + 4) (length name) o b read (omega (arith, many, within)) stands.length_is tested

  -- and its last byte
  pub last_read : (last : ℕ) → 0 < length name → Some last ≡ slice_get name (length name - 1) → (o : Option ℕ) (b : Bool) → o ≡ slice_get (bytes_of content) (32 * place + 5 + length name) → b ≡ option_eq eqb o (Some last) → IsTrue b
  last_read last some last_is o b read tested =
      let where_ : 32 * place + 6 + (length name - 1) ≡ 32 * place + 5 + length name = omega (arith, some) in
      let here : slice_index (bytes_of content) (32 * place + 5 + length name) ≡ slice_index name (length name - 1) =
      ap (λ (k : ℕ). slice_index (bytes_of content) k) (sym where_) ∙ stands.byte_is (length name - 1) (omega (arith, some)) in
      byte_read (bytes_of content) (32 * place + 5 + length name) last o b read (omega (arith, many, within, stands.few)) (here ∙ get_or_from_slice_get name (length name - 1) last 0 (sym last_is)) tested
