-- What reading from a source and writing to a sink do to the bytes that they tell, if they tell them.
use Rattle.std.specs.Prelude.{◌≡◌, ℕ, List, ◌++◌, Option, option_map}

-- A source that had the bytes `old` left has `new` left, and gave `given`.
abbrev pub Gave : Option (List ℕ) → Option (List ℕ) → List ℕ → Type 0
Gave old new given = old ≡ option_map (λ rest. given ++ rest) new

-- A sink that held the bytes `old` holds `new`, and took `taken`.
abbrev pub Took : Option (List ℕ) → Option (List ℕ) → List ℕ → Type 0
Took old new taken = new ≡ option_map (λ held. held ++ taken) old
