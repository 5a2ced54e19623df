-- The words of a command line.
use Rattle.std.proofs.Common.{◌≡◌, ◌≢◌, inl, inr, ◌∙◌, length, ℕ, ◌^◌, ◌<◌, List, [], ◌∷◌, Option, Some, None, IsSome, refl, sym, ap, subst, arith, slice_index_or}
use Rattle.std.specs.Prelude.{IfNone, codes, decimal}
use Rattle.std.proofs.lemmas.Fmt.{decimal_injective}
use Rattle.zj_block.specs.Sizes.{Numbers, IsInLimits, numbers_of}
use Rattle.zj_block.specs.declared.sizes.TheConstants.{VERSION}
use Rattle.zj_cli.specs.Tool as commands
use Rattle.zj_cli.specs.Tool.{Asks, size_words}

-- words that spell numbers which no image may have are those of no sizes
pub no_sizes : (o : Option Numbers) (blocks nodes cores area : ℕ) → blocks < 2 ^ 32 → nodes < 2 ^ 32 → cores < 2 ^ 32 → area < 2 ^ 32 → (IsInLimits (numbers_of VERSION blocks nodes cores area) → IsSome o)
    → IfNone o ((sizes : Numbers) → IsInLimits sizes → decimal blocks ∷ decimal nodes ∷ decimal cores ∷ decimal area ∷ [] ≢ size_words sizes)
no_sizes (Some sizes) blocks nodes cores area b n c a limits = tt
no_sizes None blocks nodes cores area b n c a limits = λ sizes is same.
    let at : (k : ℕ) → slice_index_or (decimal blocks ∷ decimal nodes ∷ decimal cores ∷ decimal area ∷ []) k [] ≡ slice_index_or (size_words sizes) k [] = λ k. ap (λ (ws : List (List ℕ)). slice_index_or ws k []) same in
    let same_blocks : blocks ≡ sizes.blocks = decimal_injective blocks sizes.blocks (omega (arith, b)) (omega (arith, is.most_blocks)) (at 0) in
    let same_nodes : nodes ≡ sizes.nodes = decimal_injective nodes sizes.nodes (omega (arith, n)) (omega (arith, is.most_nodes)) (at 1) in
    let same_cores : cores ≡ sizes.cores = decimal_injective cores sizes.cores (omega (arith, c)) (omega (arith, is.most_cores)) (at 2) in
    let same_area : area ≡ sizes.area = decimal_injective area sizes.area (omega (arith, a)) (omega (arith, is.most_area)) (at 3) in
    let all : sizes ≡ numbers_of VERSION blocks nodes cores area = (λ i. record { version = is.one_version i; blocks = sym same_blocks i; nodes = sym same_nodes i; cores = sym same_cores i; area = sym same_area i }) in
    dead refl (limits (subst IsInLimits all is))
  where
    dead : {o : Option Numbers} → o ≡ None → IsSome o → ⊥
    dead e some = cc

-- Words ask for one image.
pub one_make : (words : List (List ℕ)) (a b : Numbers) → Asks words (commands.Make a) → Asks words (commands.Make b) → a ≡ b
one_make words a b (is, inl x) (is', inl y) =
    let same : codes "make" ∷ size_words a ≡ codes "make" ∷ size_words b = sym x ∙ y in
    let at : (k : ℕ) → slice_index_or (codes "make" ∷ size_words a) k [] ≡ slice_index_or (codes "make" ∷ size_words b) k [] = λ k. ap (λ (ws : List (List ℕ)). slice_index_or ws k []) same in
    let blocks : a.blocks ≡ b.blocks = decimal_injective a.blocks b.blocks (omega (arith, is.most_blocks)) (omega (arith, is'.most_blocks)) (at 1) in
    let nodes : a.nodes ≡ b.nodes = decimal_injective a.nodes b.nodes (omega (arith, is.most_nodes)) (omega (arith, is'.most_nodes)) (at 2) in
    let cores : a.cores ≡ b.cores = decimal_injective a.cores b.cores (omega (arith, is.most_cores)) (omega (arith, is'.most_cores)) (at 3) in
    let area : a.area ≡ b.area = decimal_injective a.area b.area (omega (arith, is.most_area)) (omega (arith, is'.most_area)) (at 4) in
    let version : a.version ≡ b.version = is.one_version ∙ sym is'.one_version in
    (λ i. record { version = version i; blocks = blocks i; nodes = nodes i; cores = cores i; area = area i })
one_make words a b (is, inr x) (is', inr y) = x.1 ∙ sym y.1
one_make words a b (is, inl x) (is', inr y) = absurd (longer (sym x ∙ y.0))
  where
    longer : codes "make" ∷ size_words a ≡ codes "make" ∷ [] → ⊥
    longer e = omega (arith, ap (λ (ws : List (List ℕ)). length ws) e)
one_make words a b (is, inr x) (is', inl y) = absurd (longer (sym y ∙ x.0))
  where
    longer : codes "make" ∷ size_words b ≡ codes "make" ∷ [] → ⊥
    longer e = omega (arith, ap (λ (ws : List (List ℕ)). length ws) e)

-- `make` is neither of the other commands
make_first : (words : List (List ℕ)) (sizes : Numbers) → Asks words (commands.Make sizes) → slice_index_or words 0 [] ≡ codes "make"
make_first words sizes (is, inl x) = ap (λ (ws : List (List ℕ)). slice_index_or ws 0 []) x
make_first words sizes (is, inr x) = ap (λ (ws : List (List ℕ)). slice_index_or ws 0 []) x.0

pub make_is_no_play : (words : List (List ℕ)) (sizes : Numbers) → Asks words (commands.Make sizes) → Asks words commands.Play → ⊥
make_is_no_play words sizes makes plays = letters (sym (make_first words sizes makes) ∙ ap (λ (ws : List (List ℕ)). slice_index_or ws 0 []) plays)
  where
    letters : codes "make" ≡ codes "play" → ⊥
    letters e = omega (arith, ap (λ (l : List ℕ). slice_index_or l 0 0) e)

pub make_is_no_check : (words : List (List ℕ)) (sizes : Numbers) → Asks words (commands.Make sizes) → Asks words commands.Check → ⊥
make_is_no_check words sizes makes checks = letters (sym (make_first words sizes makes) ∙ ap (λ (ws : List (List ℕ)). slice_index_or ws 0 []) checks)
  where
    letters : codes "make" ≡ codes "check" → ⊥
    letters e = omega (arith, ap (λ (l : List ℕ). slice_index_or l 0 0) e)
