-- The parts of a text round a separator.
use Rattle.std.specs.Prelude.{ℕ, List, [], Option, Some, None, ◌==◌}
use Rattle.std.specs.List.{slice_split}

-- the parts of a text, one more than it has separators
abbrev pub parts_of : ℕ → List ℕ → List (List ℕ)
parts_of separator text = slice_split (λ b. b == separator) text

-- the parts of a text, none where there is no text
abbrev pub parts_of_any : ℕ → Option (List ℕ) → List (List ℕ)
parts_of_any separator None = []
parts_of_any separator (Some text) = parts_of separator text
