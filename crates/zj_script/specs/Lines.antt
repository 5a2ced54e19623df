-- The lines that a reader of an input has left.
use Rattle.std.specs.Prelude.{ℕ, List, option_copied, if◌then◌else◌}
use Rattle.std.specs.Str.{byte}
use Rattle.zj_script.specs.declared.lines.Lines.{Lines}
use Rattle.zj_script.specs.Parts.{parts_of_any}
use Rattle.zj_script.specs.Script.{but_empty_last}

-- the lines from the next one on: where the input was cut, an empty last one is among them
abbrev pub lines_left : Lines → List (List ℕ)
lines_left lines =
    let parts : List (List ℕ) = parts_of_any (byte "\n") (option_copied lines.rest) in
    if lines.cut then parts else but_empty_last parts
