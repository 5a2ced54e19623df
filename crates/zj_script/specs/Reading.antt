-- What the readers of words meet, and how they stop.
use Rattle.std.specs.Prelude.{◌≡◌, ◌≢◌, ℕ, ◌<◌, ◌^◌, List, ◌∷◌, length, IsTrue, Option, Some, None, decimal, codes}
use Rattle.zj_tree.specs.declared.call.Call.{Call}
use Rattle.zj_tree.specs.Path.{path_text, is_path}
use Rattle.zj_script.specs.declared.fault.Stop.{Stop}
use Rattle.zj_script.specs.declared.fault.Stop.TheVariants as stops
use Rattle.zj_script.specs.declared.kind.Kind.{Kind}
use Rattle.zj_script.specs.declared.line.Act.{Act}
use Rattle.zj_script.specs.declared.line.Act.TheVariants as acts
use Rattle.zj_script.specs.declared.verb.Acts.{Acts}
use Rattle.zj_script.specs.declared.verb.Acts.TheVariants as sets
use Rattle.zj_script.specs.declared.verb.Opening.{Opening}
use Rattle.zj_script.specs.declared.verb.Opening.TheVariants as openings
use Rattle.zj_script.specs.declared.verb.Verb.{Verb}
use Rattle.zj_script.specs.Grammar.{Part, act_parts, argument_parts, can_begin, core_word, has_spelling, is_act, verb_of, verb_word}
use Rattle.zj_script.specs.Refusals.{Leaves, LineLeaves}
use Rattle.zj_script.specs.Text.{bytes_text, has_text}
use Rattle.zj_script.specs.Words.{spelled}

-- The next word is none of these. The bytes from it on are counted.
abbrev pub Lacks : (List ℕ → Type 0) → Kind → List (List ℕ) → Stop → Type 0
Lacks IsDue kind words (stops.Refused found left) = (found ≡ kind) × (left ≡ length (spelled words)) × ((word : List ℕ) (more : List (List ℕ)) → IsDue word → words ≡ word ∷ more → ⊥)
Lacks IsDue kind words stops.NoMemory = Unit {0}

-- The words leave the grammar. The bytes from the first wrong word on are counted.
abbrev pub Stops : (List Part → Type 0) → List (List ℕ) → Stop → Type 0
Stops Grammar words (stops.Refused kind left) = (rest : List (List ℕ)) × Leaves Grammar words kind rest × (left ≡ length (spelled rest))
Stops Grammar words stops.NoMemory = Unit {0}

-- The same of the words of a line.
abbrev pub LineStops : Acts → ℕ → List (List ℕ) → Stop → Type 0
LineStops set cores words (stops.Refused kind left) = (rest : List (List ℕ)) × LineLeaves set cores words kind rest × (left ≡ length (spelled rest))
LineStops set cores words stops.NoMemory = Unit {0}

-- the word of a number
abbrev pub IsNumber : List ℕ → Type 0
IsNumber word = (n : ℕ) × (n < 2 ^ 32) × (word ≡ decimal n)

-- the word of a path
abbrev pub IsPath : List ℕ → Type 0
IsPath word = (path : List (List ℕ)) × IsTrue (is_path path) × (word ≡ path_text path)

-- the word of a file's bytes
abbrev pub IsText : List ℕ → Type 0
IsText word = (bytes : List ℕ) × IsTrue (has_text bytes) × (word ≡ bytes_text bytes)

-- the word that opens an act
abbrev pub opening_word : Opening → List ℕ
opening_word (openings.Call verb) = verb_word verb
opening_word openings.Begin = codes "begin"
opening_word openings.Take = codes "take"
opening_word openings.Look = codes "look"
opening_word openings.Stop = codes "stop"
opening_word openings.Drop = codes "drop"
opening_word openings.Commit = codes "commit"
opening_word openings.Sync = codes "sync"

-- an opening but for a call's
abbrev pub IsStep : Opening → Type 0
IsStep (openings.Call verb) = ⊥
IsStep opening = Unit {0}

-- what opens the acts of a script, and of a schedule
abbrev pub Opens : Acts → Opening → Type 0
Opens sets.Script (openings.Call verb) = Unit {0}
Opens sets.Script opening = ⊥
Opens sets.Schedule opening = Unit {0}

-- a word that opens an act of a script, or of a schedule
abbrev pub IsOpening : Acts → List ℕ → Type 0
IsOpening set word = (opening : Opening) × Opens set opening × (word ≡ opening_word opening)

-- the verb of a call that can be begun
abbrev pub IsBeginnable : List ℕ → Type 0
IsBeginnable word = (verb : Verb) × IsTrue (can_begin verb) × (word ≡ verb_word verb)

-- a core below the count of cores, or none where a checkpoint can stand
abbrev pub IsCore : Acts → ℕ → Option ℕ → Type 0
IsCore set cores (Some core) = core < cores
IsCore sets.Schedule cores None = Unit {0}
IsCore sets.Script cores None = ⊥

-- the word of a core below the count of cores, or `checkpoint` where it can stand
abbrev pub IsCoreWord : Acts → ℕ → List ℕ → Type 0
IsCoreWord set cores word = (core : Option ℕ) × IsCore set cores core × (word ≡ core_word core)

-- What stands behind a verb.
pub record AreArguments (verb : Verb) (parts : List Part) : Type 0 where
  pub call : Call
  pub good : IsTrue (has_spelling call)
  pub verb_is : verb_of call ≡ verb
  pub parts_are : argument_parts call ≡ parts

-- The parts of an act that has a core.
pub record AreOfAct (set : Acts) (parts : List Part) : Type 0 where
  pub act : Act
  pub good : IsTrue (is_act set act)
  pub cored : act ≢ acts.Checkpoint
  pub parts_are : act_parts act ≡ parts

-- the act of a core, or of none, which is a checkpoint
abbrev pub IsActOf : Acts → Option ℕ → Act → Type 0
IsActOf set None act = act ≡ acts.Checkpoint
IsActOf set (Some core) act = IsTrue (is_act set act) × (act ≢ acts.Checkpoint)

-- the words behind a core are of no act; behind none no act is read
abbrev pub StopsActOf : Acts → Option ℕ → List (List ℕ) → Stop → Type 0
StopsActOf set None words stop = ⊥
StopsActOf set (Some core) words stop = Stops (AreOfAct set) words stop
