-- The grammar: the words of each act and each line, and the kind of word that each is.
use Rattle.std.specs.Prelude.{◌≡◌, ℕ, ◌^◌, Bool, true, false, ◌&&◌, List, [], ◌∷◌, Option, Some, None, nat_lt, codes, decimal, map, IsTrue}
use Rattle.zj_tree.specs.declared.call.Call.{Call}
use Rattle.zj_tree.specs.declared.call.Call.TheVariants as calls
use Rattle.zj_tree.specs.Path.{path_text, is_path}
use Rattle.zj_script.specs.Text.{bytes_text, has_text}
use Rattle.zj_script.specs.declared.kind.Kind.{Kind}
use Rattle.zj_script.specs.declared.kind.Kind.TheVariants as kinds
use Rattle.zj_script.specs.declared.line.Act.{Act}
use Rattle.zj_script.specs.declared.line.Act.TheVariants as acts
use Rattle.zj_script.specs.declared.verb.Acts.{Acts}
use Rattle.zj_script.specs.declared.verb.Acts.TheVariants as sets
use Rattle.zj_script.specs.declared.verb.Verb.{Verb}
use Rattle.zj_script.specs.declared.verb.Verb.TheVariants as verbs

-- the word of a verb
abbrev pub verb_word : Verb → List ℕ
verb_word verbs.Mkdir = codes "mkdir"
verb_word verbs.Create = codes "create"
verb_word verbs.Unlink = codes "unlink"
verb_word verbs.Rmdir = codes "rmdir"
verb_word verbs.Rename = codes "rename"
verb_word verbs.List = codes "list"
verb_word verbs.Stat = codes "stat"
verb_word verbs.Write = codes "write"
verb_word verbs.Read = codes "read"
verb_word verbs.Truncate = codes "truncate"
verb_word verbs.Fsync = codes "fsync"

-- the verb of a call
abbrev pub verb_of : Call → Verb
verb_of (calls.Mkdir path) = verbs.Mkdir
verb_of (calls.Create path) = verbs.Create
verb_of (calls.Unlink path) = verbs.Unlink
verb_of (calls.Rmdir path) = verbs.Rmdir
verb_of (calls.Rename from to) = verbs.Rename
verb_of (calls.List path) = verbs.List
verb_of (calls.Stat path) = verbs.Stat
verb_of (calls.Write path at bytes) = verbs.Write
verb_of (calls.Read path at count) = verbs.Read
verb_of (calls.Truncate path size) = verbs.Truncate
verb_of (calls.Fsync path) = verbs.Fsync

-- A word of a line, behind the kind of refusal that another word in its place has.
abbrev pub Part : Type 0
Part = Kind × List ℕ

-- the word of a path
abbrev pub path_part : List (List ℕ) → Part
path_part path = (kinds.BadPath, path_text path)

-- the word of a number
abbrev pub number_part : ℕ → Part
number_part number = (kinds.BadNumber, decimal number)

-- the word of a file's bytes
abbrev pub text_part : List ℕ → Part
text_part bytes = (kinds.BadText, bytes_text bytes)

-- the words of a call behind its verb
abbrev pub argument_parts : Call → List Part
argument_parts (calls.Mkdir path) = path_part path ∷ []
argument_parts (calls.Create path) = path_part path ∷ []
argument_parts (calls.Unlink path) = path_part path ∷ []
argument_parts (calls.Rmdir path) = path_part path ∷ []
argument_parts (calls.Rename from to) = path_part from ∷ path_part to ∷ []
argument_parts (calls.List path) = path_part path ∷ []
argument_parts (calls.Stat path) = path_part path ∷ []
argument_parts (calls.Write path at bytes) = path_part path ∷ number_part at ∷ text_part bytes ∷ []
argument_parts (calls.Read path at count) = path_part path ∷ number_part at ∷ number_part count ∷ []
argument_parts (calls.Truncate path size) = path_part path ∷ number_part size ∷ []
argument_parts (calls.Fsync path) = path_part path ∷ []

-- the words of a call
abbrev pub call_parts : Call → List Part
call_parts call = (kinds.BadCall, verb_word (verb_of call)) ∷ argument_parts call

-- the words of an act; none of a checkpoint, whose word stands in the place of a core
abbrev pub act_parts : Act → List Part
act_parts (acts.Call call) = call_parts call
act_parts (acts.Begin call) = (kinds.BadCall, codes "begin") ∷ call_parts call
act_parts acts.Take = (kinds.BadCall, codes "take") ∷ []
act_parts acts.Look = (kinds.BadCall, codes "look") ∷ []
act_parts acts.Stop = (kinds.BadCall, codes "stop") ∷ []
act_parts acts.Drop = (kinds.BadCall, codes "drop") ∷ []
act_parts acts.Commit = (kinds.BadCall, codes "commit") ∷ []
act_parts acts.Sync = (kinds.BadCall, codes "sync") ∷ []
act_parts acts.Checkpoint = []

-- the first word of a line: its core, or the word of a checkpoint, which has none
abbrev pub core_word : Option ℕ → List ℕ
core_word None = codes "checkpoint"
core_word (Some core) = decimal core

-- the words of a line
abbrev pub line_parts : Option ℕ → Act → List Part
line_parts core act = (kinds.BadCore, core_word core) ∷ act_parts act

-- the words alone
abbrev pub words_of : List Part → List (List ℕ)
words_of parts = map (λ part. part.1) parts

-- a number of 32 bits
abbrev pub is_number : ℕ → Bool
is_number n = nat_lt n (2 ^ 32)

-- whether the paths, numbers and bytes of a call can be spelled
abbrev pub has_spelling : Call → Bool
has_spelling (calls.Mkdir path) = is_path path
has_spelling (calls.Create path) = is_path path
has_spelling (calls.Unlink path) = is_path path
has_spelling (calls.Rmdir path) = is_path path
has_spelling (calls.Rename from to) = is_path from && is_path to
has_spelling (calls.List path) = is_path path
has_spelling (calls.Stat path) = is_path path
has_spelling (calls.Write path at bytes) = is_path path && is_number at && has_text bytes
has_spelling (calls.Read path at count) = is_path path && is_number at && is_number count
has_spelling (calls.Truncate path size) = is_path path && is_number size
has_spelling (calls.Fsync path) = is_path path

-- whether a call can be begun: each can but an fsync
abbrev pub can_begin : Verb → Bool
can_begin verbs.Fsync = false
can_begin verb = true

-- whether an act stands in a script, where all are calls, or in a schedule
abbrev pub is_act : Acts → Act → Bool
is_act set (acts.Call call) = has_spelling call
is_act sets.Schedule (acts.Begin call) = has_spelling call && can_begin (verb_of call)
is_act sets.Schedule act = true
is_act sets.Script act = false

-- whether a core is named as the act asks for: one below the count of cores, and none for a checkpoint
abbrev pub has_core : ℕ → Option ℕ → Act → Bool
has_core cores None acts.Checkpoint = true
has_core cores None act = false
has_core cores (Some core) acts.Checkpoint = false
has_core cores (Some core) act = nat_lt core cores

-- The words of a line that can stand in a script or a schedule for so many cores.
pub record AreOfLine (set : Acts) (cores : ℕ) (parts : List Part) : Type 0 where
  pub core : Option ℕ
  pub act : Act
  pub has_core : IsTrue (has_core cores core act)
  pub is_act : IsTrue (is_act set act)
  pub parts_are : line_parts core act ≡ parts
