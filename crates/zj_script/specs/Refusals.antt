-- Where words leave a grammar, and what was due there. A grammar is told by the lists of parts of its lines.
use Rattle.std.specs.Prelude.{◌≡◌, ◌⊎◌, ℕ, List, [], ◌∷◌, ◌++◌}
use Rattle.zj_script.specs.declared.kind.Kind.{Kind}
use Rattle.zj_script.specs.declared.kind.Kind.TheVariants as kinds
use Rattle.zj_script.specs.Grammar.{AreOfLine, Part, words_of}
use Rattle.zj_script.specs.declared.verb.Acts.{Acts}

-- the number of a kind
abbrev pub kind_number : Kind → ℕ
kind_number kinds.BadCore = 1
kind_number kinds.BadCall = 2
kind_number kinds.BadPath = 3
kind_number kinds.BadNumber = 4
kind_number kinds.BadText = 5
kind_number kinds.TooLong = 6

-- the kind of word that is due where these parts of a line are left; behind a whole line no word is, and one there is a bad call
abbrev pub kind_due : List Part → Kind
kind_due [] = kinds.BadCall
kind_due (part ∷ parts) = part.0

-- No line has the words in front and then the next one; where none is next, no line has the words in front alone.
abbrev pub NoneGoesOn : (List Part → Type 0) → List (List ℕ) → List (List ℕ) → Type 0
NoneGoesOn Grammar front [] = (line : List Part) → Grammar line → words_of line ≡ front → ⊥
NoneGoesOn Grammar front (word ∷ rest) = (line : List Part) (more : List (List ℕ)) → Grammar line → words_of line ≡ front ++ word ∷ more → ⊥

-- The words leave the grammar where `rest` begins: those in front are the longest list that some line begins with, and
-- `kind` is due behind them.
pub record Leaves (Grammar : List Part → Type 0) (words : List (List ℕ)) (kind : Kind) (rest : List (List ℕ)) : Type 0 where
  pub front : List Part
  pub more : List Part
  pub begins : Grammar (front ++ more)
  pub words_are : words ≡ words_of front ++ rest
  pub longest : NoneGoesOn Grammar (words_of front) rest
  pub kind_is : kind ≡ kind_due more

-- The words of a line leave the grammar. Where no line can stand, as in a script for no core, the first word does: a core is due.
abbrev pub LineLeaves : Acts → ℕ → List (List ℕ) → Kind → List (List ℕ) → Type 0
LineLeaves set cores words kind rest = Leaves (AreOfLine set cores) words kind rest ⊎ (((line : List Part) → AreOfLine set cores line → ⊥) × (kind ≡ kinds.BadCore) × (rest ≡ words))
