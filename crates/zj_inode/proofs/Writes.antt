-- Bytes that are written into the blocks of a file.
use Rattle.std.proofs.Common.{◌≡◌, ◌≢◌, ◌⊎◌, inl, inr, ℕ, zero, suc, ◌+◌, ◌-◌, ◌*◌, ◌/◌, ◌<◌, ◌≤◌, max, Bool, true, false, cond, ◌&&◌, ◌||◌, eqb, leb, ltb, lt-ltb, List, [], ◌∷◌, length, take, drop, set, Contains, Some, None, refl, sym, ap, ◌∙◌, subst, arith, slice_index}
use Rattle.std.specs.List.{count_by, range_with_len}
use Rattle.std.proofs.lemmas.List.{length-take, length-drop, get_or-take, get_or-drop, get_or-set_same, get_or-set_other}
use Rattle.std.proofs.lemmas.List.Sums.{sum_by-cons}
use native.Mathlib.Decide.{ℕ_discrete, dec_lt}
use Rattle.zj_block.proofs.Views.{byte-zero}
use Rattle.zj_block.specs.Block.{zero_content}
use Rattle.zj_block.specs.Lists.{Entries}
use Rattle.zj_block.specs.Sizes.{Numbers, first_data}
use Rattle.zj_tree.specs.Tree.{FileTree, blocks_for}
use Rattle.zj_tree.specs.declared.call.Refusal.{Refusal}
use Rattle.zj_tree.specs.declared.call.Refusal.TheVariants.{NoSpace}
use Rattle.zj_layout.specs.declared.fields.Kind.TheVariants.{File}
use Rattle.zj_layout.specs.declared.fields.Node.{Node}
use Rattle.zj_layout.specs.Node.{byte_in, per_block}
use Rattle.zj_layout.specs.Image.{State, Image, image_of, is_data, is_named, map_block, node_of, count_of, number_of, item_block}
use Rattle.zj_layout.specs.Shows.{Changes, put_blocks}
use Rattle.zj_layout.specs.Stored.{IsStored}
use Rattle.zj_changes.specs.Entry.{WasFree}
use Rattle.zj_changes.specs.Resized.{WritesBlocks}
use Rattle.zj_changes.proofs.Written.{none_written, old_block_written, new_block_written}
use Rattle.zj_dirs.specs.declared.answers.Halt.{Halt}
use Rattle.zj_dirs.specs.declared.answers.Halt.TheVariants as halt
use Rattle.zj_dirs.specs.declared.answers.Stop.{Stop}
use Rattle.zj_dirs.specs.declared.answers.Stop.TheVariants as stop
use Rattle.zj_dirs.specs.Looking.{IsLowestBlock, IsMapSearch}
use Rattle.zj_dirs.specs.Possible as dirs
use Rattle.zj_dirs.specs.Possible.{Halts, overlaid, Turns, IsPossible, KeepsContents, Made}
use Rattle.zj_dirs.proofs.Placed.{free_data}
use Rattle.zj_inode.specs.declared.stopped.Stopped.{Stopped}
use Rattle.zj_inode.specs.declared.stopped.Stopped.TheVariants as stopped
use Rattle.zj_inode.specs.Answering.{AfterSays, stopped_at, stopped_by}
use Rattle.zj_inode.specs.Files.{IsTakeBlock, searched, lowest, map_of_lowest, TakeBlockStops, PutsInto, TakesBlock, HasWritten, LacksSpace, IsWriteBlock, WritesFirst, of_range, of_map, of_new, blocks_more, blocks_up_to}
use Rattle.zj_inode.specs.Footprint.{HasBlockFor, free_below}
use Rattle.zj_inode.proofs.Cuts.{file_count, node_is, node_within}
use Rattle.zj_inode.proofs.Foots.{none_below}
use Rattle.zj_inode.proofs.Steps.{Causes}

-- ---- why a step goes no further that follows changes

abbrev pub IsDueFrom : Numbers → Entries → Changes → Changes → (Image → ℕ → Type 0) → (Image → ℕ → Type 0) → Type 0
IsDueFrom sizes found before after Part Whole = (state : State) (tree : FileTree) → IsPossible sizes found state tree → (b : ℕ) → Part (image_of sizes (put_blocks state after)) b → Whole (image_of sizes (put_blocks state before)) b

pub after_by : (sizes : Numbers) (found : Entries) (written : Changes) (Part Whole : Image → ℕ → Type 0) (All : Causes) → IsDueFrom sizes found written written Part Whole → (s : Stop) → dirs.Stops sizes found written Part s → AfterSays sizes found written Whole All (stopped_by s)
after_by sizes found written Part Whole All due (stop.Need block) h = (h.0, λ state tree p. due state tree p block.0 (h.1 state tree p))
after_by sizes found written Part Whole All due stop.Odd h = h

pub after_at : (sizes : Numbers) (found : Entries) (before after : Changes) (Part Whole : Image → ℕ → Type 0) (All : Causes) → KeepsContents found before after → IsDueFrom sizes found before after Part Whole → (h : Halt) → Halts sizes found after Part h → AfterSays sizes found before Whole All (stopped_at h)
after_at sizes found before after Part Whole All kept due (halt.Need block) h = (kept block.0 h.0, λ state tree p. due state tree p block.0 (h.1 state tree p))
after_at sizes found before after Part Whole All kept due halt.Odd h = h
after_at sizes found before after Part Whole All kept due halt.NoMemory h = h

pub after_more : (sizes : Numbers) (found : Entries) (before after : Changes) (Part Whole : Image → ℕ → Type 0) (Cause All : Causes) → KeepsContents found before after → IsDueFrom sizes found before after Part Whole
    → ((state : State) (tree : FileTree) → IsPossible sizes found state tree → (r : Refusal) → Cause (put_blocks state after) tree r → All (put_blocks state before) tree r)
    → (s : Stopped) → AfterSays sizes found after Part Cause s → AfterSays sizes found before Whole All s
after_more sizes found before after Part Whole Cause All kept due cause (stopped.Need block) h = (kept block.0 h.0, λ state tree p. due state tree p block.0 (h.1 state tree p))
after_more sizes found before after Part Whole Cause All kept due cause (stopped.Refused r) h = λ state tree p. cause state tree p r (h state tree p)
after_more sizes found before after Part Whole Cause All kept due cause stopped.Odd h = h
after_more sizes found before after Part Whole Cause All kept due cause stopped.NoMemory h = h

-- ---- the lowest free block

module _ (sizes : Numbers) (found : Entries) (written : Changes) where
  abbrev Cause : Causes
  Cause = λ state tree refusal. (refusal ≡ NoSpace) × IsLowestBlock sizes (image_of sizes state) None

  pub search_stops : (s : Stop) → dirs.Stops sizes found written (IsMapSearch sizes) s → TakeBlockStops sizes found written (stopped_by s)
  search_stops = after_by sizes found written (IsMapSearch sizes) (IsTakeBlock sizes) Cause (λ state tree p b h. searched h)

  module _ (block : ℕ) (is : Made sizes found written (λ image. IsLowestBlock sizes image (Some block))) where
    pub map_stops : (h : Halt) → Halts sizes found written (λ image b. b ≡ map_block block) h → TakeBlockStops sizes found written (stopped_at h)
    map_stops = after_at sizes found written written (λ image b. b ≡ map_block block) (IsTakeBlock sizes) Cause (λ b e. e) (λ state tree p b e. map_of_lowest block (is state tree p) e)

    pub content_stops : (after : Changes) → KeepsContents found written after → (h : Halt) → Halts sizes found after (λ image b. b ≡ block) h → TakeBlockStops sizes found written (stopped_at h)
    content_stops after kept = after_at sizes found written after (λ image b. b ≡ block) (IsTakeBlock sizes) Cause kept (λ state tree p b e. lowest (subst (λ x. IsLowestBlock sizes (image_of sizes (put_blocks state written)) (Some x)) (sym e) (is state tree p)))

-- ---- how many blocks are free

count_cons : (p : ℕ → Bool) (a n : ℕ) → count_by p (range_with_len a (suc n)) ≡ cond (p a) 1 0 + count_by p (range_with_len (a + 1) n)
count_cons p a n = sum_by-cons (λ (k : ℕ). cond (p k) 1 0) a (range_with_len (a + 1) n)

count_same : (p q : ℕ → Bool) (a n : ℕ) → ((k : ℕ) → a ≤ k → q k ≡ p k) → count_by q (range_with_len a n) ≡ count_by p (range_with_len a n)
count_same p q a zero same = refl
count_same p q a (suc n) same =
    let tail = count_same p q (a + 1) n (λ k le. same k (omega arith)) in
    omega (arith, count_cons p a n, count_cons q a n, ap {B = ℕ} (λ b. cond b 1 0) (same a (omega arith)), tail)

-- one block in use more is at most one free block less
count_step : (p q : ℕ → Bool) (x a n : ℕ) → ((k : ℕ) → k ≢ x → q k ≡ p k) → count_by p (range_with_len (a + 1) n) ≤ count_by q (range_with_len (a + 1) n) + 1 → Dec (a ≡ x)
    → count_by p (range_with_len a (suc n)) ≤ count_by q (range_with_len a (suc n)) + 1
count_step p q x a n same rest (yes e) = omega (arith, count_cons p a n, count_cons q a n, count_same p q (a + 1) n (λ k le. same k (λ z. omega (arith, z, e, le))), one (p a))
  where
    one : (b : Bool) → cond b 1 0 ≤ 1
    one true = omega arith
    one false = omega arith
count_step p q x a n same rest (no other) = omega (arith, count_cons p a n, count_cons q a n, rest, ap {B = ℕ} (λ b. cond b 1 0) (same a other))

count_less : (p q : ℕ → Bool) (x a n : ℕ) → ((k : ℕ) → k ≢ x → q k ≡ p k) → count_by p (range_with_len a n) ≤ count_by q (range_with_len a n) + 1
count_less p q x a zero same = omega arith
count_less p q x a (suc n) same = count_step p q x a n same (count_less p q x (a + 1) n same) (ℕ_discrete a x)

pub free_less : (old new : Image) (x n : ℕ) → ((b : ℕ) → b ≢ x → new.map b ≡ old.map b) → free_below old n ≤ free_below new n + 1
free_less old new x n same = count_less (λ b. eqb (old.map b) 0) (λ b. eqb (new.map b) 0) x 0 n (λ k ne. ap (λ m. eqb m 0) (same k ne))

pub free_same : (old new : Image) (n : ℕ) → ((b : ℕ) → new.map b ≡ old.map b) → free_below new n ≡ free_below old n
free_same old new n same = count_same (λ b. eqb (old.map b) 0) (λ b. eqb (new.map b) 0) 0 n (λ k le. ap (λ m. eqb m 0) (same k))

-- a number stands in a list, or at no place of it
stands_in : (xs : List ℕ) (x : ℕ) → Contains xs x ⊎ ((k : ℕ) → k < length xs → slice_index xs k ≢ x)
stands_in [] x = inr (λ k lt. absurd (omega arith))
stands_in (y ∷ ys) x = by (ℕ_discrete y x) (stands_in ys x)
  where
    by : Dec (y ≡ x) → Contains ys x ⊎ ((k : ℕ) → k < length ys → slice_index ys k ≢ x) → Contains (y ∷ ys) x ⊎ ((k : ℕ) → k < length (y ∷ ys) → slice_index (y ∷ ys) k ≢ x)
    by (yes e) d = inl (0, omega arith, e)
    by (no ne) (inl (k, lt, e)) = inl (suc k, omega arith, e)
    by (no ne) (inr none) = inr at
      where
        at : (k : ℕ) → k < length (y ∷ ys) → slice_index (y ∷ ys) k ≢ x
        at zero lt = ne
        at (suc k) lt = none k (omega arith)

zero_byte : (i : ℕ) → byte_in zero_content i ≡ 0
unfolding byte_in
zero_byte i = byte-zero i

-- ---- one block of a file after another

module _ (sizes : Numbers) (old : Image) (s : IsStored sizes old) (some_blocks : 0 < sizes.blocks) (number : ℕ) (node : Node) (is : old.node number ≡ Some node) (kind : node.kind ≡ File) (at : ℕ) (bytes : List ℕ) (at_most : at ≤ node.size) where
  had : ℕ
  had = count_of old number

  pub had_is : count_of old number ≡ (node.size + 511) / 512
  had_is = file_count sizes old s number node is kind

  old_kind : (node_of old number).kind ≡ File
  old_kind = ap (λ (n : Node). n.kind) (node_is sizes old s number node is) ∙ kind

  old_size : (node_of old number).size ≡ node.size
  old_size = ap (λ (n : Node). n.size) (node_is sizes old s number node is)

  within : number < sizes.nodes
  within = node_within sizes old s number node is

  at_most' : at ≤ (node_of old number).size
  at_most' = omega (arith, old_size, at_most)

  pub nothing_has : HasWritten sizes old old number at bytes node.blocks (at / 512)
  nothing_has = record {
    writes = subst (λ (n : Node). WritesBlocks sizes old old number at bytes n.blocks (at / 512)) (node_is sizes old s number node is) (none_written sizes old s number at bytes within old_kind at_most');
    fewer = λ n. omega arith;
    zeros = λ j i le lt. absurd (omega (arith, had_is, at_most));
  }

  one_used : ◌≡◌ {A = ℕ} 1 0 → ⊥
  one_used e = omega arith

  -- a block that was free is behind the map and the nodes
  free_above : (x : ℕ) → x < sizes.blocks → old.map x ≡ 0 → first_data sizes ≤ x
  free_above x lt free = by (dec_lt x (first_data sizes))
    where
      by : Dec (x < first_data sizes) → first_data sizes ≤ x
      by (no past) = omega arith
      by (yes below) = absurd (one_used (sym (s.map x lt ∙ ap (λ b. cond (b || is_named sizes.nodes old x) 1 0) (lt-ltb x (first_data sizes) below)) ∙ free))

  module _ (mid : Image) (blocks : List ℕ) (count : ℕ) (a : HasWritten sizes old mid number at bytes blocks count) where
    pub old_data : count < (node.size + 511) / 512 → is_data sizes (slice_index blocks count) ≡ true
    old_data lt =
        let range = (s.placed number within).in_data count (omega (arith, had_is, lt)) in
        let same = a.writes.kept count (omega (arith, had_is, lt)) in
        both (first_data sizes) (slice_index blocks count) sizes.blocks (omega (arith, same, range.0)) (omega (arith, same, range.1))
      where
        both : (a b c : ℕ) → a ≤ b → b < c → (leb a b && ltb b c) ≡ true
        both a b c h k = grind arith

    pub old_has : (new : Image) → count < (node.size + 511) / 512 → at / 512 ≤ count → PutsInto sizes mid new (slice_index blocks count) (512 * count) at bytes → HasWritten sizes old new number at bytes blocks (count + 1)
    old_has new less from puts = record {
      writes = old_block_written sizes old s number at bytes within old_kind at_most' mid blocks count a.writes new moved.content lt from moved.puts moved.sets;
      fewer = λ n. omega (arith, a.fewer n, free_same mid new n puts.sets.map, lt);
      zeros = λ j i le up. absurd (omega (arith, lt));
    }
      where
        lt : count < count_of old number
        lt = omega (arith, had_is, less)

        moved : PutsInto sizes mid new (number_of old number count) (512 * count) at bytes
        moved = subst (λ b. PutsInto sizes mid new b (512 * count) at bytes) (a.writes.kept count lt) puts

    pub used_first : mid.map 0 ≢ 0
    used_first e = absurd (omega (arith, free_above 0 some_blocks (a.writes.free 0 e), some_blocks))

    module _ (block : ℕ) (low : IsLowestBlock sizes mid (Some block)) where
      was_free : WasFree sizes mid block
      was_free = record { free = low.1; above = free_above block low.0 (a.writes.free block low.1); below = low.0 }

      pub new_data : is_data sizes block ≡ true
      new_data = free_data sizes mid block was_free

      pub new_has : (new : Image) → (node.size + 511) / 512 ≤ count → count < length blocks → TakesBlock sizes mid new block (512 * count) at bytes → HasWritten sizes old new number at bytes (set blocks count block) (count + 1)
      new_has new past room takes = record {
        writes = new_block_written sizes old s number at bytes within old_kind at_most' mid blocks count a.writes takes.marked new block zero_content takes.content (omega (arith, had_is, past)) room was_free takes.puts takes.marks takes.sets;
        fewer = λ n. omega (arith, a.fewer n, free_less mid new block n (λ b ne. takes.sets.map b ∙ takes.marks.others b ne), had_is, past);
        zeros = λ j i le lt less behind. zeros j i le lt less behind (ℕ_discrete j count);
      }
        where
          not_zero : ◌≡◌ {A = ℕ} 1 0 → ⊥
          not_zero e = omega arith

          zeros : (j i : ℕ) → count_of old number ≤ j → j < count + 1 → i < 512 → at + length bytes ≤ 512 * j + i → Dec (j ≡ count) → byte_in (new.content (slice_index (set blocks count block) j)) i ≡ 0
          zeros j i le lt less behind (yes e) =
              ap (λ b. byte_in (new.content b) i) (ap (slice_index (set blocks count block)) e ∙ get_or-set_same blocks count block 0 room)
              ∙ ap (λ c. byte_in c i) takes.sets.here ∙ takes.puts.outside i less (inr (omega (arith, behind, e))) ∙ zero_byte i
          zeros j i le lt less behind (no ne) =
              let away : slice_index blocks j ≢ block = λ e. not_zero (sym (a.writes.taken j le (omega arith)) ∙ ap mid.map e ∙ low.1) in
              ap (λ b. byte_in (new.content b) i) (get_or-set_other blocks count j block 0 ne)
              ∙ ap (λ c. byte_in c i) (takes.sets.others _ away ∙ takes.marks.content _) ∙ a.zeros j i le (omega arith) less behind

    module _ (past : (node.size + 511) / 512 ≤ count) (short : count < blocks_for (max node.size (at + length bytes)) 512) where
      more : count - count_of old number < blocks_more old number (at + length bytes)
      more = omega (arith, had_is, past, short, old_size)

      pub take_due : (block : ℕ) → IsTakeBlock sizes mid block → IsWriteBlock sizes old number at (at + length bytes) block
      take_due block (searched (lt, none)) = of_map lt (omega (arith, a.fewer (512 * block), none_below mid (512 * block) none, more))
      take_due block (lowest (lt, free, none)) = of_new (a.writes.free block free) lt (omega (arith, a.fewer block, none_below mid block none, more))
      take_due block (map_of_lowest x (lt, free, none) e) = of_map (omega (arith, e, lt)) (omega (arith, a.fewer (512 * block), none_below mid (512 * block) (λ lower less. none lower (omega (arith, e, less))), more))

      pub lacks : IsLowestBlock sizes mid None → count ≤ length blocks → LacksSpace sizes old number (at + length bytes)
      lacks none room = record {
        free = taken;
        among = λ block above below free. by block below free (stands_in taken block);
        few = omega (arith, long, past, had_is, short, old_size);
      }
        where
          taken : List ℕ
          taken = take (count - count_of old number) (drop (count_of old number) blocks)

          long : length taken ≡ count - count_of old number
          long = length-take (count - count_of old number) (drop (count_of old number) blocks) ∙ (omega (arith, length-drop (count_of old number) blocks, room))

          by : (block : ℕ) → block < sizes.blocks → old.map block ≡ 0 → Contains taken block ⊎ ((k : ℕ) → k < length taken → slice_index taken k ≢ block) → Contains taken block
          by block below free (inl h) = h
          by block below free (inr away) = absurd (none block below (a.writes.map block (λ j le lt e. away (j - count_of old number) (omega (arith, long)) (
              get_or-take (count - count_of old number) (drop (count_of old number) blocks) (j - count_of old number) 0 (omega arith) ∙ get_or-drop (count_of old number) blocks (j - count_of old number) 0
              ∙ ap (slice_index blocks) (omega arith) ∙ e)) ∙ free))

    -- a block of the file's that the range touches
    pub old_due : (block : ℕ) → count < (node.size + 511) / 512 → at / 512 ≤ count → 512 * count < at + length bytes → 0 < length bytes → block ≡ slice_index blocks count → IsWriteBlock sizes old number at (at + length bytes) block
    old_due block less from up some e = of_range k (omega arith) (omega (arith, up, some)) there (e ∙ a.writes.kept count (omega (arith, had_is, less)) ∙ sym place)
      where
        k : ℕ
        k = max at (512 * count)

        at_block : k / 512 ≡ count
        at_block = omega (arith, from)

        there : HasBlockFor old number k
        there = subst (λ t. k / per_block t < count_of old number) (sym old_kind) (omega (arith, at_block, had_is, less))

        place : item_block old number k ≡ number_of old number count
        place = ap (λ t. number_of old number (k / per_block t)) old_kind ∙ ap (number_of old number) at_block

-- which blocks are written
pub up_to_some : (at count j : ℕ) → at / 512 ≤ j → j < blocks_up_to at count → (0 < count) × (512 * j < at + count)
up_to_some at count j from lt = by (eqb count 0) refl
  where
    by : (b : Bool) → eqb count 0 ≡ b → (0 < count) × (512 * j < at + count)
    by true e = absurd (omega (arith, from, lt, ap (λ b. cond b (at / 512) ((at + count + 511) / 512)) e))
    by false e = let some : count ≢ 0 = eqb_false count 0 e in let up : j < (at + count + 511) / 512 = omega (arith, lt, ap (λ b. cond b (at / 512) ((at + count + 511) / 512)) e) in (omega (arith, some), omega (arith, up))
      where
        eqb_false : (a b : ℕ) → eqb a b ≡ false → a ≢ b
        eqb_false a b e same = grind arith

-- the block with a byte of the range is written
pub reached : (at count k : ℕ) → at ≤ k → k < at + count → k / 512 < blocks_up_to at count
reached at count k le lt = by (eqb count 0) refl
  where
    by : (b : Bool) → eqb count 0 ≡ b → k / 512 < blocks_up_to at count
    by true e = absurd (omega (arith, le, lt, zero_is count 0 e))
      where
        zero_is : (a b : ℕ) → eqb a b ≡ true → a ≡ b
        zero_is a b h = grind arith
    by false e = let q = ap {B = ℕ} (λ b. cond b (at / 512) ((at + count + 511) / 512)) e in omega (arith, q, lt)

pub up_to_most : (at count : ℕ) → (at / 512 ≤ blocks_up_to at count) × (blocks_up_to at count ≤ (at + count + 511) / 512)
up_to_most at count = by (eqb count 0) refl
  where
    by : (b : Bool) → eqb count 0 ≡ b → (at / 512 ≤ blocks_up_to at count) × (blocks_up_to at count ≤ (at + count + 511) / 512)
    by true e = let q = ap (λ b. cond b (at / 512) ((at + count + 511) / 512)) e in (omega (arith, q), omega (arith, q))
    by false e = let q = ap (λ b. cond b (at / 512) ((at + count + 511) / 512)) e in (omega (arith, q), omega (arith, q))

-- ---- the same of code

module _ (sizes : Numbers) (found : Entries) (before mid after : Changes) (file at had : ℕ) (bytes blocks : List ℕ) (j : ℕ) (w : WritesFirst sizes found before mid file at had bytes blocks j) (kept : KeepsContents found mid after) where
  pub first_old : j < had → overlaid found mid (slice_index blocks j) ≢ None → Turns sizes found before after (λ old new. HasWritten sizes old new file at bytes blocks (j + 1)) → WritesFirst sizes found before after file at had bytes blocks (j + 1)
  first_old less here turns = record {
    turns = turns;
    named = λ k lt. w.named k (omega arith);
    rest = λ k le. w.rest k (omega arith);
    seen = λ k le lt e. seen k le lt (kept _ e) (ℕ_discrete k j);
  }
    where
      seen : (k : ℕ) → at / 512 ≤ k → k < j + 1 → overlaid found mid (slice_index blocks k) ≡ None → Dec (k ≡ j) → ⊥
      seen k le lt e (yes same) = here (ap (λ i. overlaid found mid (slice_index blocks i)) (sym same) ∙ e)
      seen k le lt e (no ne) = w.seen k le (omega (arith, ne)) e

  pub first_new : (block : ℕ) → had ≤ j → j < length blocks → block ≢ 0 → overlaid found mid block ≢ None → Turns sizes found before after (λ old new. HasWritten sizes old new file at bytes (set blocks j block) (j + 1)) → WritesFirst sizes found before after file at had bytes (set blocks j block) (j + 1)
  first_new block past room some here turns = record {
    turns = turns;
    named = λ k lt z. named k lt z (ℕ_discrete k j);
    rest = λ k le. get_or-set_other blocks j k block 0 (λ e. omega (arith, e, le)) ∙ w.rest k (omega arith);
    seen = λ k le lt e. seen k le lt (kept _ e) (ℕ_discrete k j);
  }
    where
      same : (k : ℕ) → k ≡ j → slice_index (set blocks j block) k ≡ block
      same k e = ap (slice_index (set blocks j block)) e ∙ get_or-set_same blocks j block 0 room

      named : (k : ℕ) → k < max had (j + 1) → slice_index (set blocks j block) k ≡ 0 → Dec (k ≡ j) → ⊥
      named k lt z (yes e) = some (sym (same k e) ∙ z)
      named k lt z (no ne) = w.named k (omega (arith, ne)) (sym (get_or-set_other blocks j k block 0 ne) ∙ z)

      seen : (k : ℕ) → at / 512 ≤ k → k < j + 1 → overlaid found mid (slice_index (set blocks j block) k) ≡ None → Dec (k ≡ j) → ⊥
      seen k le lt e (yes z) = here (ap (overlaid found mid) (sym (same k z)) ∙ e)
      seen k le lt e (no ne) = w.seen k le (omega (arith, ne)) (ap (overlaid found mid) (sym (get_or-set_other blocks j k block 0 ne)) ∙ e)
