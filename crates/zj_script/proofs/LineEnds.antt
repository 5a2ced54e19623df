-- The words of lines.
use Rattle.std.proofs.Common.{◌≡◌, ◌≢◌, ℕ, zero, suc, ◌<◌, ◌≤◌, ◌^◌, true, nat_lt, List, [], ◌∷◌, ◌++◌, length, slice_index, codes, Option, Some, None, inl, inr, IsTrue, decimal, refl, sym, ap, ◌∙◌, subst, arith, append-nil, length-append}
use Rattle.std.proofs.lemmas.Bool.Decides.{nat_tests}
use Rattle.std.proofs.lemmas.List.Splits.{join_with_byte-slice_split}
use Rattle.zj_script.specs.declared.fault.Stop.{Stop}
use Rattle.zj_script.specs.declared.fault.Stop.TheVariants as stops
use Rattle.zj_script.specs.declared.kind.Kind.TheVariants as kinds
use Rattle.zj_script.specs.declared.line.Act.{Act}
use Rattle.zj_script.specs.declared.line.Act.TheVariants as acts
use Rattle.zj_script.specs.declared.verb.Acts.{Acts}
use Rattle.zj_script.specs.declared.verb.Acts.TheVariants as sets
use Rattle.zj_script.specs.Grammar.{AreOfLine, Part, act_parts, core_word, has_core, is_act, line_parts, path_part, words_of}
use Rattle.zj_script.specs.Number.{BeginsNumber}
use Rattle.zj_script.specs.Parts.{parts_of}
use Rattle.zj_script.specs.Reading.{AreOfAct, IsActOf, IsCore, IsCoreWord, Lacks, LineStops, Stops, StopsActOf}
use Rattle.zj_script.specs.Refusals.{LineLeaves, NoneGoesOn}
use Rattle.zj_script.specs.declared.kind.Kind.{Kind}
use Rattle.zj_script.specs.Words.{spelled}
use Rattle.zj_script.proofs.Leaving.{Begins, lacks_first, stops_alike, stops_behind}
use Rattle.zj_script.proofs.Numbers.{begins}
use Rattle.zj_script.proofs.Openings.{act_ends, heads, some_act}

-- ---- cores

-- no number is the word of a checkpoint
pub no_checkpoint : (core : ℕ) → core < 2 ^ 32 → decimal core ≢ codes "checkpoint"
no_checkpoint core low e = by (begins core (omega (arith, low)))
  where
    by : BeginsNumber (decimal core) → ⊥
    by (inl alone) = absurd (omega (arith, ap (λ (word : List ℕ). length word) (sym alone ∙ e)))
    by (inr first) = absurd (omega (arith, first.1, ap (λ (word : List ℕ). slice_index word 0) e))

below : (core cores : ℕ) → nat_lt core cores ≡ true → core < cores
below core cores e = grind (arith, nat_tests)

is_below : (core cores : ℕ) → core < cores → nat_lt core cores ≡ true
is_below core cores e = grind (arith, nat_tests)

-- where an act has a core
pub some_core : (cores core : ℕ) (act : Act) → IsTrue (has_core cores (Some core) act) → (core < cores) × (act ≢ acts.Checkpoint)
some_core cores core (acts.Call call) good = (below core cores good, λ e. cc (e))
some_core cores core (acts.Begin call) good = (below core cores good, λ e. cc (e))
some_core cores core acts.Take good = (below core cores good, λ e. cc (e))
some_core cores core acts.Look good = (below core cores good, λ e. cc (e))
some_core cores core acts.Stop good = (below core cores good, λ e. cc (e))
some_core cores core acts.Drop good = (below core cores good, λ e. cc (e))
some_core cores core acts.Commit good = (below core cores good, λ e. cc (e))
some_core cores core acts.Sync good = (below core cores good, λ e. cc (e))
some_core cores core acts.Checkpoint good = absurd (cc)

pub core_of : (cores core : ℕ) (act : Act) → core < cores → act ≢ acts.Checkpoint → IsTrue (has_core cores (Some core) act)
core_of cores core (acts.Call call) low cored = is_below core cores low
core_of cores core (acts.Begin call) low cored = is_below core cores low
core_of cores core acts.Take low cored = is_below core cores low
core_of cores core acts.Look low cored = is_below core cores low
core_of cores core acts.Stop low cored = is_below core cores low
core_of cores core acts.Drop low cored = is_below core cores low
core_of cores core acts.Commit low cored = is_below core cores low
core_of cores core acts.Sync low cored = is_below core cores low
core_of cores core acts.Checkpoint low cored = absurd (cored refl)

-- where it has none
pub no_core : (cores : ℕ) (act : Act) → IsTrue (has_core cores None act) → act ≡ acts.Checkpoint
no_core cores (acts.Call call) good = absurd (cc)
no_core cores (acts.Begin call) good = absurd (cc)
no_core cores acts.Take good = absurd (cc)
no_core cores acts.Look good = absurd (cc)
no_core cores acts.Stop good = absurd (cc)
no_core cores acts.Drop good = absurd (cc)
no_core cores acts.Commit good = absurd (cc)
no_core cores acts.Sync good = absurd (cc)
no_core cores acts.Checkpoint good = refl

-- the core of a line is one that may stand first
line_core : (set : Acts) (cores : ℕ) (core : Option ℕ) (act : Act) → IsTrue (has_core cores core act) → IsTrue (is_act set act) → IsCore set cores core
line_core set cores (Some core) act good is = (some_core cores core act good).0
line_core sets.Schedule cores None act good is = tt
line_core sets.Script cores None act good is = absurd (subst (λ (a : Act). IsTrue (is_act sets.Script a) → ⊥) (sym (no_core cores act good)) (λ t. cc (t)) is)

begins_line : (set : Acts) (cores : ℕ) → Begins (AreOfLine set cores) kinds.BadCore (IsCoreWord set cores)
begins_line set cores line a = (core_word a.core, act_parts a.act, sym a.parts_are, (a.core, line_core set cores a.core a.act a.has_core a.is_act, refl))

-- ---- where the words of a line leave the grammar

-- the parts of an act that has a core are those behind the core of a line
line_of_act : (set : Acts) (cores core : ℕ) → core < cores → (parts : List Part) → AreOfAct set parts → AreOfLine set cores ((kinds.BadCore, decimal core) ∷ parts)
line_of_act set cores core low parts a =
    record { core = Some core; act = a.act; has_core = core_of cores core a.act low a.cored; is_act = a.good; parts_are = ap (λ (ps : List Part). (kinds.BadCore, decimal core) ∷ ps) a.parts_are }

act_of_line : (set : Acts) (cores core : ℕ) → core < 2 ^ 32 → (parts : List Part) → AreOfLine set cores ((kinds.BadCore, decimal core) ∷ parts) → AreOfAct set parts
act_of_line set cores core low parts a = by a.core a.act a.has_core a.is_act a.parts_are
  where
    by : (c : Option ℕ) (act : Act) → IsTrue (has_core cores c act) → IsTrue (is_act set act) → line_parts c act ≡ (kinds.BadCore, decimal core) ∷ parts → AreOfAct set parts
    by None act has is e = absurd (no_checkpoint core low (sym (heads _ _ _ _ e).0))
    by (Some c) act has is e = record { act = act; good = is; cored = (some_core cores c act has).1; parts_are = (heads _ _ _ _ e).1 }

-- words that leave the lines' grammar do so in a line
pub line_stops : (set : Acts) (cores : ℕ) (words : List (List ℕ)) (stop : Stop) → Stops (AreOfLine set cores) words stop → LineStops set cores words stop
line_stops set cores words (stops.Refused kind left) s = (s.0, inl s.1, s.2)
line_stops set cores words stops.NoMemory s = tt

-- a script for no core has no line
no_line : (line : List Part) → AreOfLine sets.Script 0 line → ⊥
no_line line a = by a.core (line_core sets.Script 0 a.core a.act a.has_core a.is_act)
  where
    by : (core : Option ℕ) → IsCore sets.Script 0 core → ⊥
    by None is = is
    by (Some core) is = absurd (omega (arith, is))

checkpoint_line : (cores : ℕ) → AreOfLine sets.Schedule cores ((kinds.BadCore, codes "checkpoint") ∷ [])
checkpoint_line cores = record { core = None; act = acts.Checkpoint; has_core = refl; is_act = refl; parts_are = refl }

pub lacks_core : (set : Acts) (cores : ℕ) (words : List (List ℕ)) (stop : Stop) → Lacks (IsCoreWord set cores) kinds.BadCore words stop → LineStops set cores words stop
lacks_core sets.Schedule cores words stop lacks =
    line_stops sets.Schedule cores words stop (lacks_first (AreOfLine sets.Schedule cores) kinds.BadCore (IsCoreWord sets.Schedule cores) words stop (codes "checkpoint") [] (checkpoint_line cores) (begins_line sets.Schedule cores) lacks)
lacks_core sets.Script zero words (stops.Refused kind left) lacks = (words, inr (no_line, lacks.0, refl), lacks.1)
lacks_core sets.Script zero words stops.NoMemory lacks = tt
lacks_core sets.Script (suc cores) words stop lacks =
    line_stops sets.Script (suc cores) words stop (lacks_first (AreOfLine sets.Script (suc cores)) kinds.BadCore (IsCoreWord sets.Script (suc cores)) words stop (decimal 0) ((kinds.BadCall, codes "mkdir") ∷ path_part [] ∷ [])
    (line_of_act sets.Script (suc cores) 0 (omega arith) _ (some_act sets.Script)) (begins_line sets.Script (suc cores)) lacks)

pub stops_act : (set : Acts) (cores core : ℕ) → core < cores → core < 2 ^ 32 → (old words : List (List ℕ)) (stop : Stop) → old ≡ decimal core ∷ words → Stops (AreOfAct set) words stop → Stops (AreOfLine set cores) old stop
stops_act set cores core low small old words stop next s =
    subst (λ (ws : List (List ℕ)). Stops (AreOfLine set cores) ws stop) (sym next)
    (stops_behind (AreOfLine set cores) kinds.BadCore (IsCoreWord set cores) (decimal core) words stop (begins_line set cores)
    (stops_alike (AreOfAct set) (λ parts. AreOfLine set cores ((kinds.BadCore, decimal core) ∷ parts)) words stop (line_of_act set cores core low) (act_of_line set cores core small) s))

pub stops_act_of : (set : Acts) (cores : ℕ) → cores ≤ 2 ^ 32 → (core : Option ℕ) (old words : List (List ℕ)) (stop : Stop) → IsCore set cores core → old ≡ core_word core ∷ words → StopsActOf set core words stop → Stops (AreOfLine set cores) old stop
stops_act_of set cores few None old words stop is next s = absurd s
stops_act_of set cores few (Some core) old words stop is next s = stops_act set cores core is (omega (arith, is, few)) old words stop next s

-- a core and its act are those of a line
pub of_line : (set : Acts) (cores : ℕ) (core : Option ℕ) (act : Act) → IsCore set cores core → IsActOf set core act → IsTrue (has_core cores core act) × IsTrue (is_act set act)
of_line set cores (Some core) act low is = (core_of cores core act low is.1, is.0)
of_line sets.Schedule cores None act low is = (subst (λ (a : Act). IsTrue (has_core cores None a)) (sym is) refl, subst (λ (a : Act). IsTrue (is_act sets.Schedule a)) (sym is) refl)
of_line sets.Script cores None act low is = absurd low

-- the words of no line go on as those of another
line_ends : (set : Acts) (cores : ℕ) → cores ≤ 2 ^ 32 → (core : Option ℕ) (act : Act) (line : List Part) (word : List ℕ) (more : List (List ℕ)) → IsTrue (has_core cores core act) → IsTrue (is_act set act) → AreOfLine set cores line
    → words_of line ≡ words_of (line_parts core act) ++ word ∷ more → ⊥
line_ends set cores few core act line word more has is a e = by core a.core a.act has a.has_core a.is_act (ap (λ (ps : List Part). words_of ps) a.parts_are ∙ e)
  where
    by : (c d : Option ℕ) (other : Act) → IsTrue (has_core cores c act) → IsTrue (has_core cores d other) → IsTrue (is_act set other) → words_of (line_parts d other) ≡ words_of (line_parts c act) ++ word ∷ more → ⊥
    by None None other h k good w =
        let words : codes "checkpoint" ∷ [] ≡ codes "checkpoint" ∷ (words_of (act_parts act) ++ word ∷ more) = sym (ap (λ (a : Act). codes "checkpoint" ∷ words_of (act_parts a)) (no_core cores other k)) ∙ w in
        absurd (omega (arith, ap (λ (ws : List (List ℕ)). length ws) words, length-append (words_of (act_parts act)) (word ∷ more)))
    by None (Some d) other h k good w =
        let first : decimal d ≡ codes "checkpoint" = cc (w) in
        no_checkpoint d (omega (arith, (some_core cores d other k).0, few)) first
    by (Some c) None other h k good w =
        let first : codes "checkpoint" ≡ decimal c = cc (w) in
        no_checkpoint c (omega (arith, (some_core cores c act h).0, few)) (sym first)
    by (Some c) (Some d) other h k good w =
        let rest : words_of (act_parts other) ≡ words_of (act_parts act) ++ word ∷ more = cc (w) in
        act_ends set (act_parts act) (act_parts other) word more
        (record { act = act; good = is; cored = (some_core cores c act h).1; parts_are = refl }) (record { act = other; good = good; cored = (some_core cores d other k).1; parts_are = refl }) rest

-- where words are left behind a whole line
pub stops_at_end : (set : Acts) (cores : ℕ) → cores ≤ 2 ^ 32 → (core : Option ℕ) (act : Act) → IsTrue (has_core cores core act) → IsTrue (is_act set act) → (old left : List (List ℕ)) (stop : Stop)
    → old ≡ words_of (line_parts core act) ++ left → left ≢ [] → Lacks (λ _. ⊥) kinds.BadCall left stop → Stops (AreOfLine set cores) old stop
stops_at_end set cores few core act has is old left (stops.Refused found count) words some lacks =
    (left, record { front = line_parts core act; more = []; begins = begins_here; words_are = words; longest = none left some; kind_is = lacks.0 }, lacks.1)
  where
    begins_here : AreOfLine set cores (line_parts core act ++ [])
    begins_here = subst (AreOfLine set cores) (sym (append-nil (line_parts core act))) (record { core = core; act = act; has_core = has; is_act = is; parts_are = refl })

    none : (rest : List (List ℕ)) → rest ≢ [] → NoneGoesOn (AreOfLine set cores) (words_of (line_parts core act)) rest
    none [] some = absurd (some refl)
    none (word ∷ rest) some = λ line more a e. line_ends set cores few core act line word more has is a e
stops_at_end set cores few core act has is old left stops.NoMemory words some lacks = tt

-- ---- texts

-- what the last words of a text spell is no longer than the text
pub shorter : (front rest : List (List ℕ)) → length (spelled rest) ≤ length (spelled (front ++ rest))
shorter [] rest = omega arith
shorter (word ∷ []) [] = omega arith
shorter (word ∷ []) (next ∷ rest) = omega (arith, length-append word (32 ∷ spelled (next ∷ rest)))
shorter (word ∷ next ∷ front) rest = omega (arith, length-append word (32 ∷ spelled (next ∷ (front ++ rest))), shorter (next ∷ front) rest)

pub left_at_most : (text : List ℕ) (front rest : List (List ℕ)) → parts_of 32 text ≡ front ++ rest → length (spelled rest) ≤ length text
left_at_most text front rest e =
    let whole : spelled (front ++ rest) ≡ text = ap (λ (ws : List (List ℕ)). spelled ws) (sym e) ∙ join_with_byte-slice_split 32 text in
    omega (arith, shorter front rest, ap (λ (t : List ℕ). length t) whole)

-- a text spells the words that are its own
pub text_is : (text : List ℕ) (words : List (List ℕ)) → parts_of 32 text ≡ words → spelled words ≡ text
text_is text words e = ap (λ (ws : List (List ℕ)). spelled ws) (sym e) ∙ join_with_byte-slice_split 32 text

-- what is left where the words of a line leave the grammar is no longer than the line
pub line_left : (set : Acts) (cores : ℕ) (text : List ℕ) (kind : Kind) (rest : List (List ℕ)) → LineLeaves set cores (parts_of 32 text) kind rest → length (spelled rest) ≤ length text
line_left set cores text kind rest (inl l) = left_at_most text (words_of l.front) rest l.words_are
line_left set cores text kind rest (inr l) = left_at_most text [] rest (sym l.2)
