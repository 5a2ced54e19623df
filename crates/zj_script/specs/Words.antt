-- Words parted by single spaces.
use Rattle.std.specs.Prelude.{ℕ, List, ◌∷◌, option_copied}
use Rattle.std.specs.List.{join_with_byte}
use Rattle.std.specs.Str.{byte}
use Rattle.zj_script.specs.declared.words.Words.{Words}
use Rattle.zj_script.specs.Parts.{parts_of_any}

-- the text of words
abbrev pub spelled : List (List ℕ) → List ℕ
spelled words = join_with_byte (byte " ") words

-- a word behind a space
abbrev pub spaced : List ℕ → List ℕ
spaced word = byte " " ∷ word

-- the words that a reader has left
abbrev pub words_left : Words → List (List ℕ)
words_left words = parts_of_any (byte " ") (option_copied words.rest)
