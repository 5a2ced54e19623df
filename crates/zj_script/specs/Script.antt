-- What a script and a schedule are, and where an input is none.
use Rattle.std.specs.Prelude.{◌≡◌, ℕ, ◌+◌, ◌≤◌, Bool, true, false, ◌&&◌, not, List, [], ◌∷◌, ◌++◌, length, map, filter, take, All, IsTrue, Option, Some, None, nat_lt, ◌==◌, if◌then◌else◌}
use Rattle.std.specs.List.{enumerate_from}
use Rattle.std.specs.Str.{byte}
use Rattle.zj_script.specs.declared.fault.ScriptFault.{ScriptFault}
use Rattle.zj_script.specs.declared.fault.ScriptFault.TheVariants as faults
use Rattle.zj_script.specs.declared.kind.Kind.{Kind}
use Rattle.zj_script.specs.declared.kind.Kind.TheVariants as kinds
use Rattle.zj_script.specs.declared.line.Line.{Line}
use Rattle.zj_script.specs.declared.script.TheConstants.{MAX_BYTES, MAX_LINE, MAX_LINES}
use Rattle.zj_script.specs.declared.verb.Acts.{Acts}
use Rattle.zj_script.specs.declared.verb.Acts.TheVariants as sets
use Rattle.zj_script.specs.Grammar.{has_core, is_act, line_parts, words_of}
use Rattle.zj_script.specs.Parts.{parts_of}
use Rattle.zj_script.specs.Refusals.{LineLeaves, kind_number}
use Rattle.zj_script.specs.Words.{spelled}

-- the text of a line
abbrev pub line_text : Line → List ℕ
line_text line = spelled (words_of (line_parts line.core line.act))

-- A line that can stand in a script or a schedule for so many cores.
pub record CanStand (set : Acts) (cores : ℕ) (line : Line) : Type 0 where
  pub core : IsTrue (has_core cores line.core line.act)
  pub act : IsTrue (is_act set line.act)

-- A text spells a line with a number.
pub record IsLine (set : Acts) (cores number : ℕ) (text : List ℕ) (line : Line) : Type 0 where
  pub number_is : line.number ≡ number
  pub text_is : line_text line ≡ text
  pub can_stand : CanStand set cores line

-- whether a line has an act: it has a byte, and its first one is no `#`
abbrev pub has_act : List ℕ → Bool
has_act [] = false
has_act (b ∷ bytes) = not (b == byte "#")

-- a part, unless it is empty
abbrev pub if_any : List ℕ → List (List ℕ)
if_any [] = []
if_any (b ∷ bytes) = (b ∷ bytes) ∷ []

-- the parts but for a last one that is empty
abbrev pub but_empty_last : List (List ℕ) → List (List ℕ)
but_empty_last [] = []
but_empty_last (part ∷ []) = if_any part
but_empty_last (part ∷ next ∷ parts) = part ∷ but_empty_last (next ∷ parts)

-- The lines of an input: the parts round its line feeds. A last line feed begins no line.
abbrev pub lines_of : List ℕ → List (List ℕ)
lines_of input = but_empty_last (parts_of (byte "\n") input)

-- a line's number and its text
abbrev pub numbered_text : Line → ℕ × List ℕ
numbered_text line = (line.number, line_text line)

-- The input is these lines: at most 16,777,216 bytes and 65,536 lines of at most 20,000 bytes. Those that have an act spell
-- the lines, with their numbers among all, from 1.
pub record IsInput (set : Acts) (cores : ℕ) (input : List ℕ) (lines : List Line) : Type 0 where
  pub bytes_at_most : length input ≤ MAX_BYTES
  pub lines_at_most : length (lines_of input) ≤ MAX_LINES
  pub line_at_most : All (λ text. length text ≤ MAX_LINE) (lines_of input)
  pub texts : map numbered_text lines ≡ filter (λ numbered. has_act numbered.1) (enumerate_from 1 (lines_of input))
  pub can_stand : All (CanStand set cores) lines

-- whether an input has more bytes than it may have
abbrev pub is_cut : List ℕ → Bool
is_cut input = nat_lt MAX_BYTES (length input)

-- The lines that are read, of an input with too many bytes up to the first of these. That one is in the last line, or behind it.
abbrev pub lines_read : List ℕ → List (List ℕ)
lines_read input = if is_cut input then parts_of (byte "\n") (take MAX_BYTES input) else lines_of input

-- the column of the first byte of a line that is past a limit: of the count of lines, of a line's length, or of the input
abbrev pub past_limit : ℕ → List ℕ → Bool → Option ℕ
past_limit number text cut =
    if nat_lt MAX_LINES number then Some 1
    else (if nat_lt MAX_LINE (length text) then Some (MAX_LINE + 1)
    else (if cut then Some (length text + 1) else None))

-- A text with an act leaves the grammar: the kind that is due, and the column where the first wrong word begins, or, where
-- a word is missing, the column behind the text.
pub record LeavesAt (set : Acts) (cores : ℕ) (text : List ℕ) (kind column : ℕ) : Type 0 where
  pub has_act : IsTrue (has_act text)
  pub due : Kind
  pub rest : List (List ℕ)
  pub leaves : LineLeaves set cores (parts_of (byte " ") text) due rest
  pub kind_is : kind ≡ kind_number due
  pub column_is : column + length (spelled rest) ≡ length text + 1

-- what refuses a line: a byte past a limit, or else a word
abbrev pub RefusedAt : Acts → ℕ → List ℕ → Option ℕ → ℕ → ℕ → Type 0
RefusedAt set cores text (Some first) kind column = (kind ≡ kind_number kinds.TooLong) × (column ≡ first)
RefusedAt set cores text None kind column = LeavesAt set cores text kind column

-- A line that is short enough, and without an act or in the grammar.
pub record IsAccepted (set : Acts) (cores : ℕ) (text : List ℕ) : Type 0 where
  pub short : length text ≤ MAX_LINE
  pub spelled : IsTrue (has_act text) → (number : ℕ) → (line : Line) × IsLine set cores number text line

-- whether no line is left
abbrev pub none_left : List (List ℕ) → Bool
none_left [] = true
none_left (text ∷ texts) = false

-- The first line that is refused: those before it aren't, and there are no more of them than lines may be.
pub record IsFirstFault (set : Acts) (cores : ℕ) (input : List ℕ) (kind line column : ℕ) : Type 0 where
  pub before : List (List ℕ)
  pub text : List ℕ
  pub after : List (List ℕ)
  pub lines : lines_read input ≡ before ++ text ∷ after
  pub line_is : line ≡ length before + 1
  pub few : length before ≤ MAX_LINES
  pub accepted : All (IsAccepted set cores) before
  pub refused : RefusedAt set cores text (past_limit line text (is_cut input && none_left after)) kind column

-- a fault of a line in the grammar's words, or want of memory
abbrev pub LineFault : Acts → ℕ → ℕ → List ℕ → ScriptFault → Type 0
LineFault set cores number text (faults.Refused kind line column) = (line ≡ number) × LeavesAt set cores text kind column
LineFault set cores number text faults.NoMemory = Unit {0}

-- a fault that tells where the input is refused, or that tells of want of memory
abbrev pub IsFault : Acts → ℕ → List ℕ → ScriptFault → Type 0
IsFault set cores input (faults.Refused kind line column) = IsFirstFault set cores input kind line column
IsFault set cores input faults.NoMemory = Unit {0}

-- The first lines of an input, none of which is refused: there are no more of them than lines may be, each is short enough and in the
-- grammar, and the input isn't cut in the last of them. Those that have an act spell these.
pub record IsFront (set : Acts) (cores : ℕ) (input : List ℕ) (front : List (List ℕ)) (lines : List Line) : Type 0 where
  pub after : List (List ℕ)
  pub whole : lines_read input ≡ front ++ after
  pub few : length front ≤ MAX_LINES
  pub uncut : is_cut input && none_left after ≡ false
  pub accepted : All (IsAccepted set cores) front
  pub texts : map numbered_text lines ≡ filter (λ numbered. has_act numbered.1) (enumerate_from 1 front)
  pub can_stand : All (CanStand set cores) lines

-- The refusal, if there is one, is of the line behind so many.
abbrev pub IsBehind : ℕ → Option ScriptFault → Type 0
IsBehind count (Some (faults.Refused kind line column)) = line ≡ count + 1
IsBehind count fault = Unit {0}

-- The lines are those of the input up to the one that is refused, if one is.
pub record EndsFront (set : Acts) (cores : ℕ) (input : List ℕ) (lines : List Line) (fault : Option ScriptFault) : Type 0 where
  pub front : List (List ℕ)
  pub is_front : IsFront set cores input front lines
  pub behind : IsBehind (length front) fault

-- scripts have calls alone
abbrev pub IsScript : ℕ → List ℕ → List Line → Type 0
IsScript cores input lines = IsInput sets.Script cores input lines

-- schedules have all acts
abbrev pub IsSchedule : ℕ → List ℕ → List Line → Type 0
IsSchedule cores input lines = IsInput sets.Schedule cores input lines

-- where an input is no script
abbrev pub IsNoScript : ℕ → List ℕ → ScriptFault → Type 0
IsNoScript cores input fault = IsFault sets.Script cores input fault

-- where an input is no schedule
abbrev pub IsNoSchedule : ℕ → List ℕ → ScriptFault → Type 0
IsNoSchedule cores input fault = IsFault sets.Schedule cores input fault

-- the first lines of a schedule
abbrev pub IsFrontOfSchedule : ℕ → List ℕ → List (List ℕ) → List Line → Type 0
IsFrontOfSchedule cores input front lines = IsFront sets.Schedule cores input front lines

-- the lines of a schedule up to the one that is refused, if one is
abbrev pub EndsFrontOfSchedule : ℕ → List ℕ → List Line → Option ScriptFault → Type 0
EndsFrontOfSchedule cores input lines fault = EndsFront sets.Schedule cores input lines fault
