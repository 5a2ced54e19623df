-- Where a step of a path's text ends.
use Rattle.std.specs.Prelude.{ℕ, Bool, List, [], ◌∷◌, true, not, ◌==◌}
use Rattle.std.specs.Str.{byte}

-- what parts the names of a path
abbrev pub is_slash : ℕ → Bool
is_slash c = c == byte "/"

-- what names are made of
abbrev pub is_no_slash : ℕ → Bool
is_no_slash c = not (is_slash c)

-- what may stand behind a name: nothing, or the slash of the next step
abbrev pub is_step_end : List ℕ → Bool
is_step_end [] = true
is_step_end (c ∷ bytes) = is_slash c
