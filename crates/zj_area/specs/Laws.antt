-- What the bytes of a journal say of what it holds.
use Rattle.std.specs.Prelude.{◌≡◌, ℕ, List}
use Rattle.zj_block.specs.Sizes.{Numbers}
use Rattle.zj_block.specs.declared.numbers.Tail.{Tail}
use Rattle.zj_tx.specs.Record.{Record}
use Rattle.zj_area.specs.Ring.{Holds, IsDamaged}

-- A journal holds one list of records, with one end.
abbrev pub OneReading : Type 0
OneReading = (n : Numbers) (core : ℕ) (image : List ℕ) (tail : Tail) (records others : List Record) (end other : Tail)
    → Holds n core image tail records end → Holds n core image tail others other → (records ≡ others) × (end ≡ other)

-- A journal that holds records isn't damaged.
abbrev pub WholeOrDamaged : Type 0
WholeOrDamaged = (n : Numbers) (core : ℕ) (image : List ℕ) (tail : Tail) (records : List Record) (end : Tail) (at found expected : ℕ)
    → Holds n core image tail records end → IsDamaged n core image tail at found expected → ⊥
