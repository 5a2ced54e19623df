-- What a mount recovers.
use Rattle.std.specs.Prelude.{ℕ, List, refl}
use Rattle.std.specs.Coded.{Coded, code_by, coded×, coded_ℕ, coded_list}
use Rattle.zj_block.specs.Sizes.{Numbers}
use Rattle.zj_block.specs.declared.numbers.Tail.{Tail}
use Rattle.zj_layout.specs.Image.{State}
use Rattle.zj_tree.specs.StoredTree.{LimitedTree, coded_tree}
use Rattle.zj_mount.specs.declared.recovered.Tally.{Tally}

-- the sizes of the image, what each journal held, the blocks, and the tree that they show
pub record Restored : Type 0 where
  pub sizes : Numbers
  pub journals : List Tally
  pub blocks : State
  pub tree : LimitedTree

-- a journal that begins at a tail, and holds no record
abbrev pub empty_from : Tail → Tally
empty_from tail = record { from = tail.number; found = 0; kept = 0 }

-- how sizes are coded
abbrev pub coded_sizes : Coded Numbers
coded_sizes =
    code_by (ℕ × (ℕ × (ℕ × (ℕ × ℕ)))) (coded× coded_ℕ (coded× coded_ℕ (coded× coded_ℕ (coded× coded_ℕ coded_ℕ))))
    (λ n. (n.version, (n.blocks, (n.nodes, (n.cores, n.area)))))
    (λ p. record { version = p.0; blocks = p.1.0; nodes = p.1.1.0; cores = p.1.1.1.0; area = p.1.1.1.1 }) (λ _. refl)

-- and what a journal held
abbrev pub coded_tally : Coded Tally
coded_tally = code_by (ℕ × (ℕ × ℕ)) (coded× coded_ℕ (coded× coded_ℕ coded_ℕ)) (λ t. (t.from, (t.found, t.kept))) (λ p. record { from = p.0; found = p.1.0; kept = p.1.1 }) (λ _. refl)

-- and all of it
abbrev pub coded_restored : Coded Restored
coded_restored =
    code_by (Numbers × (List Tally × (State × LimitedTree))) (coded× coded_sizes (coded× (coded_list coded_tally) (coded× (coded_list (coded_list coded_ℕ)) coded_tree)))
    (λ r. (r.sizes, (r.journals, (r.blocks, r.tree))))
    (λ p. record { sizes = p.0; journals = p.1.0; blocks = p.1.1.0; tree = p.1.1.1 }) (λ _. refl)
