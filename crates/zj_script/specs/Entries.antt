-- Entries of a tree, and their one spelling.
use Rattle.std.specs.Prelude.{ℕ, List, [], ◌∷◌, ◌++◌, codes, decimal, length}
use Rattle.std.specs.Str.{byte}
use Rattle.zj_tree.specs.declared.content.Content.{Content}
use Rattle.zj_tree.specs.declared.content.Content.TheVariants as contents
use Rattle.zj_tree.specs.Path.{path_text}
use Rattle.zj_script.specs.Answers.{data_words}
use Rattle.zj_script.specs.Words.{spelled}

-- the words of what stands at a path: a directory of so many entries, or a file of so many bytes and these
abbrev pub content_words : Content → ℕ → List (List ℕ)
content_words contents.Dir entries = codes "dir" ∷ decimal entries ∷ []
content_words (contents.File bytes) entries = codes "file" ∷ decimal (length bytes) ∷ data_words bytes

-- the line of an entry: its path and those words, and the line feed that ends it
abbrev pub entry_text : List (List ℕ) → Content → ℕ → List ℕ
entry_text path content entries = spelled (path_text path ∷ content_words content entries) ++ byte "\n" ∷ []
