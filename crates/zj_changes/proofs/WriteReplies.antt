-- What write and truncate answer, by what the blocks say.
use Rattle.std.proofs.Common.{◌≡◌, ◌⊎◌, inl, inr, ℕ, ◌+◌, ◌<◌, ◌≤◌, max, Bool, true, false, ◌||◌, ltb, lt-ltb, List, [], ◌∷◌, length, Some, refl, ap, ◌∙◌, arith}
use Rattle.std.specs.FinMap as map_of
use Rattle.zj_block.specs.Sizes.{Numbers, room}
use Rattle.zj_tree.specs.Bytes.{overwritten}
use Rattle.zj_tree.specs.declared.content.Content.TheVariants as contents
use Rattle.zj_tree.specs.declared.call.Call.TheVariants.{Write, Truncate}
use Rattle.zj_tree.specs.declared.call.Refusal.{Refusal}
use Rattle.zj_tree.specs.declared.call.Refusal.TheVariants.{PastEnd, TooBig, NoSpace}
use Rattle.zj_tree.specs.declared.call.Reply.TheVariants.{Done, Refused}
use Rattle.zj_tree.specs.Tree.{FileTree, used, blocks_for}
use Rattle.zj_tree.specs.Changed.{bytes_of, bytes_at, changed}
use Rattle.zj_tree.specs.Apply.{refuse_if, first_refusal, reasons, no_file, no_room, longest_file, most_bytes}
use Rattle.zj_layout.specs.declared.fields.Kind.TheVariants.{File}
use Rattle.zj_layout.specs.Node.{per_block}
use Rattle.zj_layout.specs.Graph.{Graph, follow}
use Rattle.zj_layout.specs.Image.{State, Image, image_of, node_of, count_of, graph_of}
use Rattle.zj_layout.specs.Shows.{Shows, IsState, limits_of}
use Rattle.zj_layout.proofs.Follow.{Path'}
use Rattle.zj_changes.specs.Walk.{LeadsToNoFile, FreeAreAmong}
use Rattle.zj_changes.specs.Resized.{WritesRange, CutsFile}
use Rattle.zj_changes.specs.Holds.{HoldsTree, Answers}
use Rattle.zj_changes.proofs.Freed.{bytes_in, file_holds}
use Rattle.zj_changes.proofs.Ranges.{length_over, size_is}
use Rattle.zj_changes.proofs.Grown.{used_rewritten, few_free}
use Rattle.zj_changes.proofs.Calls.{holds_shows, range_overwritten, file_truncated}
use Rattle.zj_changes.proofs.Walk.{file_at, resolve_file, no_file_is}
use Rattle.zj_changes.proofs.Answering.{skip, tell, passes, counts, no_lt, holds, refused, served, fits, blocks_split}

-- one of two tests holds, or neither
one_holds : (a b c d : ℕ) → (a < b) ⊎ (c < d) → (ltb a b || ltb c d) ≡ true
one_holds a b c d (inl lt) = ap (λ x. x || ltb c d) (lt-ltb a b lt)
one_holds a b c d (inr lt) = ap (λ x. ltb a b || x) (lt-ltb c d lt) ∙ by (ltb a b)
  where
    by : (x : Bool) → (x || true) ≡ true
    by true = refl
    by false = refl

none_holds : (a b c d : ℕ) → b ≤ a → d ≤ c → (ltb a b || ltb c d) ≡ false
none_holds a b c d le le' = ap (λ x. x || ltb c d) (no_lt a b le) ∙ no_lt c d le'

module _ (sizes : Numbers) (s : State) (t : FileTree) (shows : Shows sizes s t) where
  abbrev old : Image
  old = image_of sizes s

  abbrev g : Graph
  g = graph_of old

  h : HoldsTree sizes old t
  h = holds sizes s t shows

  -- ---- write

  pub write_no_file : (path : Path') (at : ℕ) (bytes : List ℕ) (refusal : Refusal) → LeadsToNoFile old path refusal → Answers sizes (Write path at bytes) (Refused refusal) t s
  write_no_file path at bytes refusal why = refused sizes s t shows (Write path at bytes) refusal (tell _ _ refusal (no_file_is old t h.describes path refusal why))

  bytes_there : (path : Path') (file : ℕ) → follow g 0 path ≡ Some file → (node_of old file).kind ≡ File → bytes_at t path ≡ bytes_in old file
  bytes_there path file leads is = ap bytes_of (file_at old t h.describes path file leads is)

  length_there : (path : Path') (file : ℕ) → follow g 0 path ≡ Some file → (node_of old file).kind ≡ File → length (bytes_at t path) ≡ (node_of old file).size
  length_there path file leads is = ap length (bytes_there path file leads is) ∙ size_is old file

  module _ (path : Path') (at : ℕ) (bytes : List ℕ) (file : ℕ) (leads : follow g 0 path ≡ Some file) (is : (node_of old file).kind ≡ File) where
    pub write_past_end : (node_of old file).size < at → Answers sizes (Write path at bytes) (Refused PastEnd) t s
    write_past_end past = refused sizes s t shows (Write path at bytes) PastEnd (
        skip _ _ (ap no_file (resolve_file old t h.describes path file leads is))
        ∙ tell _ _ PastEnd (counts _ PastEnd (lt-ltb (length (bytes_at t path)) at (omega (arith, length_there path file leads is)))))

    module _ (within : at ≤ (node_of old file).size) where
      abbrev grown : FileTree
      grown = changed (Write path at bytes) t

      in_file : first_refusal (reasons (limits_of sizes) (Write path at bytes) t) ≡ first_refusal (refuse_if (ltb most_bytes (length bytes) || ltb (longest_file sizes.version) (at + length bytes)) TooBig ∷ no_room (limits_of sizes) grown ∷ [])
      in_file = skip _ _ (ap no_file (resolve_file old t h.describes path file leads is)) ∙ skip _ _ (passes _ PastEnd (no_lt (length (bytes_at t path)) at (omega (arith, length_there path file leads is))))

      pub write_too_big : (most_bytes < length bytes) ⊎ (longest_file sizes.version < at + length bytes) → Answers sizes (Write path at bytes) (Refused TooBig) t s
      write_too_big big = refused sizes s t shows (Write path at bytes) TooBig (in_file ∙ tell _ _ TooBig (counts _ TooBig (one_holds most_bytes (length bytes) (longest_file sizes.version) (at + length bytes) big)))

      past_big : length bytes ≤ most_bytes → at + length bytes ≤ longest_file sizes.version → first_refusal (reasons (limits_of sizes) (Write path at bytes) t) ≡ first_refusal (no_room (limits_of sizes) grown ∷ [])
      past_big few short = in_file ∙ skip _ _ (passes _ TooBig (none_holds most_bytes (length bytes) (longest_file sizes.version) (at + length bytes) few short))

      pub write_no_space : length bytes ≤ most_bytes → at + length bytes ≤ longest_file sizes.version → (free : List ℕ) → FreeAreAmong sizes old free
          → count_of old file + length free < blocks_for (max (node_of old file).size (at + length bytes)) 512 → Answers sizes (Write path at bytes) (Refused NoSpace) t s
      write_no_space few short free among lacking = refused sizes s t shows (Write path at bytes) NoSpace (past_big few short ∙ tell _ _ NoSpace (counts _ NoSpace (lt-ltb (room sizes) (used grown) more)))
        where
          count : count_of old file ≡ blocks_for (node_of old file).size 512
          count = ap (λ k. blocks_for (node_of old file).size (per_block k)) is

          grown_is : used grown ≡ used (map_of.insert t path (contents.File (overwritten (bytes_in old file) at bytes)))
          grown_is = ap (λ (x : List ℕ). used (map_of.insert t path (contents.File (overwritten x at bytes)))) (bytes_there path file leads is)

          long : length (overwritten (bytes_in old file) at bytes) ≡ max (node_of old file).size (at + length bytes)
          long = length_over (bytes_in old file) at bytes (omega (arith, size_is old file, within)) ∙ ap (λ n. max n (at + length bytes)) (size_is old file)

          more : room sizes < used grown
          more =
              let law = used_rewritten sizes.nodes g h.rooted t h.describes path file (bytes_in old file) (overwritten (bytes_in old file) at bytes) leads (file_holds old file is) in
              let before : blocks_for (length (bytes_in old file)) 512 ≡ blocks_for (node_of old file).size 512 = ap (λ n. blocks_for n 512) (size_is old file) in
              let after : blocks_for (length (overwritten (bytes_in old file) at bytes)) 512 ≡ blocks_for (max (node_of old file).size (at + length bytes)) 512 = ap (λ n. blocks_for n 512) long in
              add_up _ _ _ _ _ _ _ _ _ grown_is law before after count (blocks_split sizes s t shows.shape h) (few_free sizes old h.stored free among) lacking
            where
              add_up : (grown new t b a old_blocks new_blocks room free : ℕ) {n m : ℕ} → grown ≡ new → new + b ≡ t + a → b ≡ old_blocks → a ≡ new_blocks → n ≡ old_blocks → t + free ≡ room → free ≤ m → n + m < new_blocks → room < grown
              add_up grown new t b a old_blocks new_blocks room free is law before after count split few lack = omega arith

  pub write_done : (path : Path') (at : ℕ) (bytes : List ℕ) (file : ℕ) (blocks : List ℕ) (s' : State) → follow g 0 path ≡ Some file → IsState sizes s' → WritesRange sizes old (image_of sizes s') file at bytes blocks → Answers sizes (Write path at bytes) Done t s'
  write_done path at bytes file blocks s' leads shape a =
      served sizes s t shows s' (Write path at bytes) Done (
      past_big path at bytes file leads a.was_file a.at_most (omega (arith, a.resizes.few)) (omega (arith, a.resizes.few, ap longest_file shows.shape.limits.one_version))
      ∙ skip _ _ (passes _ NoSpace (no_lt (room sizes) (used (changed (Write path at bytes) t)) (fits sizes s' _ after)))
      ) refl after
    where
      after : Shows sizes s' (changed (Write path at bytes) t)
      after = holds_shows sizes s' _ shape (range_overwritten sizes old (image_of sizes s') t h path file at bytes blocks leads a)

  -- ---- truncate

  pub truncate_no_file : (path : Path') (size : ℕ) (refusal : Refusal) → LeadsToNoFile old path refusal → Answers sizes (Truncate path size) (Refused refusal) t s
  truncate_no_file path size refusal why = refused sizes s t shows (Truncate path size) refusal (tell _ _ refusal (no_file_is old t h.describes path refusal why))

  pub truncate_past_end : (path : Path') (size file : ℕ) → follow g 0 path ≡ Some file → (node_of old file).kind ≡ File → (node_of old file).size < size → Answers sizes (Truncate path size) (Refused PastEnd) t s
  truncate_past_end path size file leads is past = refused sizes s t shows (Truncate path size) PastEnd (
      skip _ _ (ap no_file (resolve_file old t h.describes path file leads is))
      ∙ tell _ _ PastEnd (counts _ PastEnd (lt-ltb (length (bytes_at t path)) size (omega (arith, length_there path file leads is)))))

  pub truncate_done : (path : Path') (size file : ℕ) (blocks : List ℕ) (s' : State) → follow g 0 path ≡ Some file → IsState sizes s' → CutsFile sizes old (image_of sizes s') file size blocks → Answers sizes (Truncate path size) Done t s'
  truncate_done path size file blocks s' leads shape a =
      served sizes s t shows s' (Truncate path size) Done (
      skip _ _ (ap no_file (resolve_file old t h.describes path file leads a.was_file))
      ∙ skip _ _ (passes _ PastEnd (no_lt (length (bytes_at t path)) size (omega (arith, length_there path file leads a.was_file, a.fewer))))
      ) refl
      (holds_shows sizes s' _ shape (file_truncated sizes old (image_of sizes s') t h path file size blocks leads a))
