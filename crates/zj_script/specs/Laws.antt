-- What the definitions of lines and inputs promise.
use Rattle.std.specs.Prelude.{◌≡◌, ℕ, ◌^◌, ◌≤◌, List}
use Rattle.zj_script.specs.declared.line.Line.{Line}
use Rattle.zj_script.specs.declared.verb.Acts.{Acts}
use Rattle.zj_script.specs.Script.{IsFirstFault, IsInput, IsLine}

-- A text spells one line at most. Cores are numbers of 32 bits, so there are no more than those.
abbrev pub OneLine : Type 0
OneLine = (set : Acts) (cores number : ℕ) (text : List ℕ) (line other : Line) → cores ≤ 2 ^ 32 → IsLine set cores number text line → IsLine set cores number text other → line ≡ other

-- An input is one list of lines at most.
abbrev pub OneInput : Type 0
OneInput = (set : Acts) (cores : ℕ) (input : List ℕ) (lines others : List Line) → cores ≤ 2 ^ 32 → IsInput set cores input lines → IsInput set cores input others → lines ≡ others

-- An input is refused at one place at most.
abbrev pub OneFault : Type 0
OneFault = (set : Acts) (cores : ℕ) (input : List ℕ) (kind line column other_kind other_line other_column : ℕ) → cores ≤ 2 ^ 32 → IsFirstFault set cores input kind line column → IsFirstFault set cores input other_kind other_line other_column
    → (kind ≡ other_kind) × (line ≡ other_line) × (column ≡ other_column)

-- An input that is refused is no list of lines.
abbrev pub FaultOrLines : Type 0
FaultOrLines = (set : Acts) (cores : ℕ) (input : List ℕ) (kind line column : ℕ) (lines : List Line) → cores ≤ 2 ^ 32 → IsFirstFault set cores input kind line column → IsInput set cores input lines → ⊥
