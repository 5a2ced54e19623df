-- Contents under the numbers of their blocks.
use Rattle.std.specs.Prelude.{◌≢◌, ◌==◌, ℕ, ◌<◌, ◌≤◌, IsTrue, List, Option, length, find, is_some, not}
use Rattle.std.specs.List.{All, AllPairs, count_by, range_with_len, slice_index_or}
use Rattle.std.specs.FinMap.{is_sorted}
use Rattle.std.specs.Option.{option_map}
use Rattle.std.specs.Ordering.{nat_cmp}
use Rattle.zj_block.specs.Block.{IsContent}

-- contents, each under a number
abbrev pub Entries : Type 0
Entries = List (ℕ × List ℕ)

-- the content of the entry with a number
abbrev pub content_under : Entries → ℕ → Option (List ℕ)
content_under entries number = option_map (λ e. e.1) (find (λ e. e.0 == number) entries)

-- how many of the first blocks, so many, have no entry
abbrev pub count_left : Entries → ℕ → ℕ
count_left entries blocks = count_by (λ block. not (is_some (content_under entries block))) (range_with_len 0 blocks)

-- no two entries have one number
abbrev pub AreApart : Entries → Type 0
AreApart entries = AllPairs (λ a b. a.0 ≢ b.0) entries

-- what each entry has is the content of a block
abbrev pub AreContents : Entries → Type 0
AreContents entries = All (λ e. IsContent e.1) entries

-- blocks that were taken: each once
pub record IsTaken (entries : Entries) : Type 0 where
  pub apart : AreApart entries
  pub contents : AreContents entries

-- new contents in the order of their numbers
pub record IsWritten (entries : Entries) : Type 0 where
  pub sorted : IsTrue (is_sorted nat_cmp entries)
  pub contents : AreContents entries

-- the entries before this place have smaller numbers, and the one there has not
pub record IsInsertionPoint (entries : Entries) (number at : ℕ) : Type 0 where
  pub within : at ≤ length entries
  pub smaller : (k : ℕ) (d : ℕ × List ℕ) → k < at → (slice_index_or entries k d).0 < number
  pub not_smaller : (d : ℕ × List ℕ) → at < length entries → number ≤ (slice_index_or entries at d).0
