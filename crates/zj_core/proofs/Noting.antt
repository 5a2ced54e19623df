-- What is noted of the writers of blocks that are held: one block more, and what an operation of them found.
use Rattle.std.proofs.Common.{◌≡◌, ℕ, ◌+◌, ◌==◌, max, cond, List, [], ◌∷◌, map, Option, Some, None, IfSome, refl, sym, ap, ◌∙◌, arith}
use Rattle.std.specs.Prelude.{IfNone, slice_index}
use Rattle.std.specs.List.{filter_map}
use Rattle.std.specs.Ordering.{nat_cmp, is_eq}
use Rattle.std.specs.declared.cmp.Ordering.{Ordering}
use Rattle.std.specs.declared.cmp.Ordering.TheVariants.{Less, Equal, Greater}
use Rattle.std.specs.Cmp.{nat_cmp_total}
use Rattle.std.specs.FinMap as finmap
use Rattle.std.specs.FinMap.Entries.{by_order, put}
use Rattle.zj_block.specs.declared.numbers.Writer.{Writer}
use Rattle.zj_history.specs.Operation.{FoundBlock}
use Rattle.zj_history.specs.Transactions.{bound_on}
use Rattle.zj_layout.proofs.Follow.{none_some}
use Rattle.zj_tx.specs.Running.{HasNoted, IsNoted}
use Rattle.zj_turns.specs.Views.{Hold, Known, found_of, holding, loaded_as, writer_in}
use Rattle.zj_core.specs.Handle.{writers_held}

-- how far a core is followed by a block with this last writer
abbrev bound_of : ℕ → Option Writer → ℕ
bound_of core None = 0
bound_of core (Some w) = cond (w.core == core) (w.number + 1) 0

abbrev writers_in : List (ℕ × Hold) → List Writer
writers_in es = filter_map (λ (f : FoundBlock). f.writer) (map (λ (e : ℕ × Hold). found_of e.0 e.1) es)

bound_first : (core : ℕ) (e : ℕ × Hold) (es : List (ℕ × Hold)) → bound_on core (writers_in (e ∷ es)) ≡ max (bound_of core (writer_in e.1.loaded)) (bound_on core (writers_in es))
bound_first core e es = by (writer_in e.1.loaded) (writers_in es)
  where
    by : (w : Option Writer) (ws : List Writer) → bound_on core (Rattle.std.specs.List.cons_option w ws) ≡ max (bound_of core w) (bound_on core ws)
    by None ws = omega arith
    by (Some w) ws = refl

-- a block that is put among others, where it was not yet
bound_put : (core b : ℕ) (h : Hold) (es : List (ℕ × Hold)) → finmap.find nat_cmp b es ≡ None → bound_on core (writers_in (put nat_cmp b h es)) ≡ max (bound_of core (writer_in h.loaded)) (bound_on core (writers_in es))
bound_put core b h [] none = bound_first core (b, h) []
bound_put core b h (e ∷ es) none = by (nat_cmp b e.0) none (bound_put core b h es)
  where
    by : (o : Ordering) → cond (is_eq o) (Some e.1) (finmap.find nat_cmp b es) ≡ None
        → (finmap.find nat_cmp b es ≡ None → bound_on core (writers_in (put nat_cmp b h es)) ≡ max (bound_of core (writer_in h.loaded)) (bound_on core (writers_in es)))
        → bound_on core (writers_in (by_order o ((b, h) ∷ e ∷ es) ((e.0, h) ∷ es) (e ∷ put nat_cmp b h es))) ≡ max (bound_of core (writer_in h.loaded)) (bound_on core (writers_in (e ∷ es)))
    by Less none rest = bound_first core (b, h) (e ∷ es)
    by Equal none rest = absurd (none_some (sym none))
    by Greater none rest =
        let before = bound_first core e (put nat_cmp b h es) in
        let after = bound_first core e es in
        let more = rest none in
        omega (arith, before, after, more)

-- one block more is held, and its last writer was noted
pub noted_more : (old new : List ℕ) (k : Known) (b : ℕ) (words : List ℕ) (writer : Option Writer) → HasNoted old (writers_held k) → finmap.get k.held b ≡ None → writer_in words ≡ writer
    → IfSome writer (IsNoted old new) → IfNone writer (new ≡ old) → HasNoted new (writers_held (holding k b (loaded_as words)))
noted_more old new k b words writer noted free is some none = record { each = λ core. by core writer some none ∙ sym (bound_now core) }
  where
    bound_now : (core : ℕ) → bound_on core (writers_held (holding k b (loaded_as words))) ≡ max (bound_of core writer) (bound_on core (writers_held k))
    bound_now core =
        ap (λ (es : List (ℕ × Hold)). bound_on core (writers_in es)) (finmap.entries-insert nat_cmp_total k.held b (loaded_as words))
        ∙ bound_put core b (loaded_as words) (finmap.entries k.held) (sym (finmap.get-entries k.held b) ∙ free)
        ∙ ap (λ (w : Option Writer). max (bound_of core w) (bound_on core (writers_held k))) is

    by : (core : ℕ) (w : Option Writer) → IfSome w (IsNoted old new) → IfNone w (new ≡ old) → slice_index new core ≡ max (bound_of core w) (bound_on core (writers_held k))
    by core None some none = ap (λ (xs : List ℕ). slice_index xs core) none ∙ noted.each core ∙ sym (least (bound_on core (writers_held k)))
      where
        least : (n : ℕ) → max 0 n ≡ n
        least n = omega arith
    by core (Some w) some none = some.each core ∙ ap (λ n. max (cond (w.core == core) (w.number + 1) 0) n) (noted.each core)
