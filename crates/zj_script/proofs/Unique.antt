-- A text is of one line, and an input of one list of lines.
use Rattle.std.proofs.Common.{◌≡◌, ◌≢◌, ℕ, suc, ◌<◌, ◌≤◌, ◌^◌, true, List, [], ◌∷◌, map, Option, Some, None, IsTrue, codes, decimal, refl, sym, ap, ◌∙◌, subst, arith}
use Rattle.std.specs.List.{All}
use Rattle.std.proofs.lemmas.Bool.Decides.{nat_tests}
use Rattle.std.proofs.lemmas.Fmt.{decimal_injective}
use Rattle.zj_tree.specs.declared.call.Call.{Call}
use Rattle.zj_tree.specs.declared.call.Call.TheVariants as calls
use Rattle.zj_tree.specs.Laws.{OneSpelling}
use Rattle.zj_tree.specs.Path.{is_path, path_text}
use Rattle.zj_script.specs.declared.line.Act.{Act}
use Rattle.zj_script.specs.declared.line.Act.TheVariants as acts
use Rattle.zj_script.specs.declared.line.Line.{Line}
use Rattle.zj_script.specs.declared.verb.Acts.{Acts}
use Rattle.zj_script.specs.declared.verb.Acts.TheVariants as sets
use Rattle.zj_script.specs.declared.verb.Opening.{Opening}
use Rattle.zj_script.specs.declared.verb.Opening.TheVariants as openings
use Rattle.zj_script.specs.declared.verb.Verb.{Verb}
use Rattle.zj_script.specs.declared.verb.Verb.TheVariants as verbs
use Rattle.zj_script.specs.Grammar.{Part, act_parts, argument_parts, call_parts, core_word, has_core, has_spelling, is_act, is_number, line_parts, number_part, path_part, text_part, verb_of, verb_word, words_of}
use Rattle.zj_script.specs.Laws.{OneInput, OneLine}
use Rattle.zj_script.specs.Parts.{parts_of}
use Rattle.zj_script.specs.Reading.{opening_word}
use Rattle.zj_script.specs.Script.{CanStand, line_text, numbered_text}
use Rattle.zj_script.specs.Text.{bytes_text, has_text}
use Rattle.zj_script.proofs.LineEnds.{no_checkpoint, no_core, some_core}
use Rattle.zj_script.proofs.Openings.{one_opening, one_verb}
use Rattle.zj_script.proofs.Spelling.{AreWords, IsWord, decimal_is_word, first, path_is_word, second, words_back}
use Rattle.zj_script.proofs.Texts.{one_text, text_is_word}

-- ---- calls

-- What the words behind a verb and a path say.
abbrev EndsAs : Verb → List (List ℕ) → List Part → Call → Type 0
EndsAs verbs.Rename path last call = (to : List (List ℕ)) × IsTrue (is_path to) × (last ≡ path_part to ∷ []) × (call ≡ calls.Rename path to)
EndsAs verbs.Write path last call = (at : ℕ) × (bytes : List ℕ) × (at < 2 ^ 32) × IsTrue (has_text bytes) × (last ≡ number_part at ∷ text_part bytes ∷ []) × (call ≡ calls.Write path at bytes)
EndsAs verbs.Read path last call = (at count : ℕ) × (at < 2 ^ 32) × (count < 2 ^ 32) × (last ≡ number_part at ∷ number_part count ∷ []) × (call ≡ calls.Read path at count)
EndsAs verbs.Truncate path last call = (size : ℕ) × (size < 2 ^ 32) × (last ≡ number_part size ∷ []) × (call ≡ calls.Truncate path size)
EndsAs verbs.Mkdir path last call = (last ≡ []) × (call ≡ calls.Mkdir path)
EndsAs verbs.Create path last call = (last ≡ []) × (call ≡ calls.Create path)
EndsAs verbs.Unlink path last call = (last ≡ []) × (call ≡ calls.Unlink path)
EndsAs verbs.Rmdir path last call = (last ≡ []) × (call ≡ calls.Rmdir path)
EndsAs verbs.List path last call = (last ≡ []) × (call ≡ calls.List path)
EndsAs verbs.Stat path last call = (last ≡ []) × (call ≡ calls.Stat path)
EndsAs verbs.Fsync path last call = (last ≡ []) × (call ≡ calls.Fsync path)

-- A call that has a line, taken apart.
record HasParts (verb : Verb) (call : Call) : Type 0 where
  pub path : List (List ℕ)
  pub last : List Part
  pub parts : argument_parts call ≡ path_part path ∷ last
  pub good : IsTrue (is_path path)
  pub ends : EndsAs verb path last call

small : (n : ℕ) → is_number n ≡ true → n < 2 ^ 32
small n e = grind (arith, nat_tests)

has_parts : (call : Call) → IsTrue (has_spelling call) → HasParts (verb_of call) call
has_parts (calls.Mkdir path) good = record { path = path; last = []; parts = refl; good = good; ends = (refl, refl) }
has_parts (calls.Create path) good = record { path = path; last = []; parts = refl; good = good; ends = (refl, refl) }
has_parts (calls.Unlink path) good = record { path = path; last = []; parts = refl; good = good; ends = (refl, refl) }
has_parts (calls.Rmdir path) good = record { path = path; last = []; parts = refl; good = good; ends = (refl, refl) }
has_parts (calls.List path) good = record { path = path; last = []; parts = refl; good = good; ends = (refl, refl) }
has_parts (calls.Stat path) good = record { path = path; last = []; parts = refl; good = good; ends = (refl, refl) }
has_parts (calls.Fsync path) good = record { path = path; last = []; parts = refl; good = good; ends = (refl, refl) }
has_parts (calls.Rename from to) good = record { path = from; last = path_part to ∷ []; parts = refl; good = first _ _ good; ends = (to, second _ _ good, refl, refl) }
has_parts (calls.Write path at bytes) good = record { path = path; last = number_part at ∷ text_part bytes ∷ []; parts = refl; good = first _ _ (first _ _ good); ends = (at, bytes, small at (second _ _ (first _ _ good)), second _ _ good, refl, refl) }
has_parts (calls.Read path at count) good = record { path = path; last = number_part at ∷ number_part count ∷ []; parts = refl; good = first _ _ (first _ _ good); ends = (at, count, small at (second _ _ (first _ _ good)), small count (second _ _ good), refl, refl) }
has_parts (calls.Truncate path size) good = record { path = path; last = number_part size ∷ []; parts = refl; good = first _ _ good; ends = (size, small size (second _ _ good), refl, refl) }

same_number : (a b : ℕ) → a < 2 ^ 32 → b < 2 ^ 32 → decimal a ≡ decimal b → a ≡ b
same_number a b low others_low = decimal_injective a b (omega (arith, low)) (omega (arith, others_low))

-- the last words of one verb and path tell the call
last_told : OneSpelling → (verb : Verb) (path : List (List ℕ)) (last others : List Part) (call other : Call) → EndsAs verb path last call → EndsAs verb path others other → words_of last ≡ words_of others → call ≡ other
last_told one verbs.Rename path last others call other p q e =
    let words : path_text p.0 ∷ [] ≡ path_text q.0 ∷ [] = ap (λ (ps : List Part). words_of ps) (sym p.2) ∙ e ∙ ap (λ (ps : List Part). words_of ps) q.2 in
    let texts : path_text p.0 ≡ path_text q.0 = cc (words) in
    p.3 ∙ ap (λ (to : List (List ℕ)). calls.Rename path to) (one p.0 q.0 p.1 q.1 texts) ∙ sym q.3
last_told one verbs.Write path last others call other p q e =
    let words : decimal p.0 ∷ bytes_text p.1 ∷ [] ≡ decimal q.0 ∷ bytes_text q.1 ∷ [] = ap (λ (ps : List Part). words_of ps) (sym p.4) ∙ e ∙ ap (λ (ps : List Part). words_of ps) q.4 in
    let numbers : decimal p.0 ≡ decimal q.0 = cc (words) in
    let texts : bytes_text p.1 ≡ bytes_text q.1 = cc (words) in
    p.5 ∙ ap (λ (at : ℕ). calls.Write path at p.1) (same_number p.0 q.0 p.2 q.2 numbers) ∙ ap (λ (bytes : List ℕ). calls.Write path q.0 bytes) (one_text p.1 q.1 (second _ _ p.3) (second _ _ q.3) texts) ∙ sym q.5
last_told one verbs.Read path last others call other p q e =
    let words : decimal p.0 ∷ decimal p.1 ∷ [] ≡ decimal q.0 ∷ decimal q.1 ∷ [] = ap (λ (ps : List Part). words_of ps) (sym p.4) ∙ e ∙ ap (λ (ps : List Part). words_of ps) q.4 in
    let numbers : decimal p.0 ≡ decimal q.0 = cc (words) in
    let counts : decimal p.1 ≡ decimal q.1 = cc (words) in
    p.5 ∙ ap (λ (at : ℕ). calls.Read path at p.1) (same_number p.0 q.0 p.2 q.2 numbers) ∙ ap (λ (count : ℕ). calls.Read path q.0 count) (same_number p.1 q.1 p.3 q.3 counts) ∙ sym q.5
last_told one verbs.Truncate path last others call other p q e =
    let words : decimal p.0 ∷ [] ≡ decimal q.0 ∷ [] = ap (λ (ps : List Part). words_of ps) (sym p.2) ∙ e ∙ ap (λ (ps : List Part). words_of ps) q.2 in
    let numbers : decimal p.0 ≡ decimal q.0 = cc (words) in
    p.3 ∙ ap (λ (size : ℕ). calls.Truncate path size) (same_number p.0 q.0 p.1 q.1 numbers) ∙ sym q.3
last_told one verbs.Mkdir path last others call other p q e = p.1 ∙ sym q.1
last_told one verbs.Create path last others call other p q e = p.1 ∙ sym q.1
last_told one verbs.Unlink path last others call other p q e = p.1 ∙ sym q.1
last_told one verbs.Rmdir path last others call other p q e = p.1 ∙ sym q.1
last_told one verbs.List path last others call other p q e = p.1 ∙ sym q.1
last_told one verbs.Stat path last others call other p q e = p.1 ∙ sym q.1
last_told one verbs.Fsync path last others call other p q e = p.1 ∙ sym q.1

one_call : OneSpelling → (call other : Call) → IsTrue (has_spelling call) → IsTrue (has_spelling other) → words_of (call_parts call) ≡ words_of (call_parts other) → call ≡ other
one_call one call other good others_good e =
    let p = has_parts call good in
    let q = has_parts other others_good in
    let verb_words : verb_word (verb_of other) ≡ verb_word (verb_of call) = cc (e) in
    let arguments : words_of (argument_parts call) ≡ words_of (argument_parts other) = cc (e) in
    let words : path_text p.path ∷ words_of p.last ≡ path_text q.path ∷ words_of q.last =
    ap (λ (ps : List Part). words_of ps) (sym p.parts) ∙ arguments ∙ ap (λ (ps : List Part). words_of ps) q.parts in
    let texts : path_text q.path ≡ path_text p.path = cc (words) in
    let lasts : words_of p.last ≡ words_of q.last = cc (words) in
    let verbs_same = one_verb (verb_of other) (verb_of call) verb_words in
    let paths_same = one q.path p.path q.good p.good texts in
    last_told one (verb_of call) p.path p.last q.last call other p.ends
    (subst (λ (path : List (List ℕ)). EndsAs (verb_of call) path q.last other) paths_same (subst (λ (verb : Verb). EndsAs verb q.path q.last other) verbs_same q.ends)) lasts

-- ---- acts

-- What an act with an opening is.
abbrev ActIs : Opening → Act → Type 0
ActIs (openings.Call verb) act = (call : Call) × IsTrue (has_spelling call) × (act ≡ acts.Call call)
ActIs openings.Begin act = (call : Call) × IsTrue (has_spelling call) × (act ≡ acts.Begin call)
ActIs openings.Take act = act ≡ acts.Take
ActIs openings.Look act = act ≡ acts.Look
ActIs openings.Stop act = act ≡ acts.Stop
ActIs openings.Drop act = act ≡ acts.Drop
ActIs openings.Commit act = act ≡ acts.Commit
ActIs openings.Sync act = act ≡ acts.Sync

record HasOpening (act : Act) : Type 0 where
  pub opening : Opening
  pub more : List (List ℕ)
  pub words : words_of (act_parts act) ≡ opening_word opening ∷ more
  pub act_is : ActIs opening act

spelled_call : (set : Acts) (call : Call) → IsTrue (is_act set (acts.Call call)) → IsTrue (has_spelling call)
spelled_call sets.Script call good = good
spelled_call sets.Schedule call good = good

spelled_begin : (set : Acts) (call : Call) → IsTrue (is_act set (acts.Begin call)) → IsTrue (has_spelling call)
spelled_begin sets.Script call good = absurd (cc)
spelled_begin sets.Schedule call good = first _ _ good

has_opening : (set : Acts) (act : Act) → IsTrue (is_act set act) → act ≢ acts.Checkpoint → HasOpening act
has_opening set (acts.Call call) good cored = record { opening = openings.Call (verb_of call); more = words_of (argument_parts call); words = refl; act_is = (call, spelled_call set call good, refl) }
has_opening set (acts.Begin call) good cored = record { opening = openings.Begin; more = words_of (call_parts call); words = refl; act_is = (call, spelled_begin set call good, refl) }
has_opening set acts.Take good cored = record { opening = openings.Take; more = []; words = refl; act_is = refl }
has_opening set acts.Look good cored = record { opening = openings.Look; more = []; words = refl; act_is = refl }
has_opening set acts.Stop good cored = record { opening = openings.Stop; more = []; words = refl; act_is = refl }
has_opening set acts.Drop good cored = record { opening = openings.Drop; more = []; words = refl; act_is = refl }
has_opening set acts.Commit good cored = record { opening = openings.Commit; more = []; words = refl; act_is = refl }
has_opening set acts.Sync good cored = record { opening = openings.Sync; more = []; words = refl; act_is = refl }
has_opening set acts.Checkpoint good cored = absurd (cored refl)

act_told : OneSpelling → (opening : Opening) (act other : Act) → ActIs opening act → ActIs opening other → words_of (act_parts act) ≡ words_of (act_parts other) → act ≡ other
act_told one (openings.Call verb) act other p q e =
    p.2 ∙ ap (λ (call : Call). acts.Call call) (one_call one p.0 q.0 p.1 q.1 (ap (λ (a : Act). words_of (act_parts a)) (sym p.2) ∙ e ∙ ap (λ (a : Act). words_of (act_parts a)) q.2)) ∙ sym q.2
act_told one openings.Begin act other p q e =
    let words : codes "begin" ∷ words_of (call_parts p.0) ≡ codes "begin" ∷ words_of (call_parts q.0) = ap (λ (a : Act). words_of (act_parts a)) (sym p.2) ∙ e ∙ ap (λ (a : Act). words_of (act_parts a)) q.2 in
    let both : words_of (call_parts p.0) ≡ words_of (call_parts q.0) = cc (words) in
    p.2 ∙ ap (λ (call : Call). acts.Begin call) (one_call one p.0 q.0 p.1 q.1 both) ∙ sym q.2
act_told one openings.Take act other p q e = p ∙ sym q
act_told one openings.Look act other p q e = p ∙ sym q
act_told one openings.Stop act other p q e = p ∙ sym q
act_told one openings.Drop act other p q e = p ∙ sym q
act_told one openings.Commit act other p q e = p ∙ sym q
act_told one openings.Sync act other p q e = p ∙ sym q

one_act : OneSpelling → (set : Acts) (act other : Act) → IsTrue (is_act set act) → IsTrue (is_act set other) → act ≢ acts.Checkpoint → other ≢ acts.Checkpoint → words_of (act_parts act) ≡ words_of (act_parts other) → act ≡ other
one_act one set act other good others_good cored others_cored e =
    let p = has_opening set act good cored in
    let q = has_opening set other others_good others_cored in
    let words : opening_word q.opening ∷ q.more ≡ opening_word p.opening ∷ p.more = sym q.words ∙ sym e ∙ p.words in
    let heads : opening_word q.opening ≡ opening_word p.opening = cc (words) in
    act_told one p.opening act other p.act_is (subst (λ (opening : Opening). ActIs opening other) (one_opening q.opening p.opening heads) q.act_is) e

-- ---- words

opening_is_word : (opening : Opening) → IsWord (opening_word opening)
opening_is_word (openings.Call verbs.Mkdir) = refl
opening_is_word (openings.Call verbs.Create) = refl
opening_is_word (openings.Call verbs.Unlink) = refl
opening_is_word (openings.Call verbs.Rmdir) = refl
opening_is_word (openings.Call verbs.Rename) = refl
opening_is_word (openings.Call verbs.List) = refl
opening_is_word (openings.Call verbs.Stat) = refl
opening_is_word (openings.Call verbs.Write) = refl
opening_is_word (openings.Call verbs.Read) = refl
opening_is_word (openings.Call verbs.Truncate) = refl
opening_is_word (openings.Call verbs.Fsync) = refl
opening_is_word openings.Begin = refl
opening_is_word openings.Take = refl
opening_is_word openings.Look = refl
opening_is_word openings.Stop = refl
opening_is_word openings.Drop = refl
opening_is_word openings.Commit = refl
opening_is_word openings.Sync = refl

number_is_word : (n : ℕ) → n < 2 ^ 32 → IsWord (decimal n)
number_is_word n low = decimal_is_word n (omega (arith, low))

last_are_words : (verb : Verb) (path : List (List ℕ)) (last : List Part) (call : Call) → EndsAs verb path last call → AreWords (words_of last)
last_are_words verbs.Rename path last call ends = rw ends.2 (path_is_word ends.0 ends.1, tt)
last_are_words verbs.Write path last call ends = rw ends.4 (number_is_word ends.0 ends.2, (text_is_word ends.1 (second _ _ ends.3), tt))
last_are_words verbs.Read path last call ends = rw ends.4 (number_is_word ends.0 ends.2, (number_is_word ends.1 ends.3, tt))
last_are_words verbs.Truncate path last call ends = rw ends.2 (number_is_word ends.0 ends.1, tt)
last_are_words verbs.Mkdir path last call ends = rw ends.0 tt
last_are_words verbs.Create path last call ends = rw ends.0 tt
last_are_words verbs.Unlink path last call ends = rw ends.0 tt
last_are_words verbs.Rmdir path last call ends = rw ends.0 tt
last_are_words verbs.List path last call ends = rw ends.0 tt
last_are_words verbs.Stat path last call ends = rw ends.0 tt
last_are_words verbs.Fsync path last call ends = rw ends.0 tt

call_is_words : (call : Call) → IsTrue (has_spelling call) → AreWords (words_of (call_parts call))
call_is_words call good =
    let p = has_parts call good in
    (opening_is_word (openings.Call (verb_of call)), subst (λ (parts : List Part). AreWords (words_of parts)) (sym p.parts) (path_is_word p.path p.good, last_are_words (verb_of call) p.path p.last call p.ends))

act_is_words : (set : Acts) (act : Act) → IsTrue (is_act set act) → AreWords (words_of (act_parts act))
act_is_words set (acts.Call call) good = call_is_words call (spelled_call set call good)
act_is_words set (acts.Begin call) good = (refl, call_is_words call (spelled_begin set call good))
act_is_words set acts.Take good = (refl, tt)
act_is_words set acts.Look good = (refl, tt)
act_is_words set acts.Stop good = (refl, tt)
act_is_words set acts.Drop good = (refl, tt)
act_is_words set acts.Commit good = (refl, tt)
act_is_words set acts.Sync good = (refl, tt)
act_is_words set acts.Checkpoint good = tt

core_is_word : (cores : ℕ) → cores ≤ 2 ^ 32 → (core : Option ℕ) (act : Act) → IsTrue (has_core cores core act) → IsWord (core_word core)
core_is_word cores few None act good = refl
core_is_word cores few (Some core) act good = number_is_word core (omega (arith, few, (some_core cores core act good).0))

-- the words of a line's text
pub line_back : (set : Acts) (cores : ℕ) → cores ≤ 2 ^ 32 → (line : Line) → CanStand set cores line → parts_of 32 (line_text line) ≡ words_of (line_parts line.core line.act)
line_back set cores few line can = words_back (core_word line.core) (words_of (act_parts line.act)) (core_is_word cores few line.core line.act can.core, act_is_words set line.act can.act)

-- ---- lines

core_told : OneSpelling → (set : Acts) (cores : ℕ) → cores ≤ 2 ^ 32 → (core other : Option ℕ) (act act2 : Act) → IsTrue (has_core cores core act) → IsTrue (has_core cores other act2) → IsTrue (is_act set act) → IsTrue (is_act set act2)
    → words_of (line_parts core act) ≡ words_of (line_parts other act2) → (core ≡ other) × (act ≡ act2)
core_told one set cores few None None act act2 h k good others_good e = (refl, no_core cores act h ∙ sym (no_core cores act2 k))
core_told one set cores few None (Some d) act act2 h k good others_good e =
    let heads : decimal d ≡ codes "checkpoint" = cc (e) in
    absurd (no_checkpoint d (omega (arith, few, (some_core cores d act2 k).0)) heads)
core_told one set cores few (Some c) None act act2 h k good others_good e =
    let heads : decimal c ≡ codes "checkpoint" = cc (e) in
    absurd (no_checkpoint c (omega (arith, few, (some_core cores c act h).0)) heads)
core_told one set cores few (Some c) (Some d) act act2 h k good others_good e =
    let p = some_core cores c act h in
    let q = some_core cores d act2 k in
    let heads : decimal c ≡ decimal d = cc (e) in
    let rest : words_of (act_parts act) ≡ words_of (act_parts act2) = cc (e) in
    (ap (λ (n : ℕ). Some n) (same_number c d (omega (arith, few, p.0)) (omega (arith, few, q.0)) heads), one_act one set act act2 good others_good p.1 q.1 rest)

pub one_line : OneSpelling → OneLine
one_line one set cores number text line other few h k =
    let words : words_of (line_parts line.core line.act) ≡ words_of (line_parts other.core other.act) =
    sym (line_back set cores few line h.can_stand) ∙ ap (λ (t : List ℕ). parts_of 32 t) (h.text_is ∙ sym k.text_is) ∙ line_back set cores few other k.can_stand in
    let both = core_told one set cores few line.core other.core line.act other.act h.can_stand.core k.can_stand.core h.can_stand.act k.can_stand.act words in
    let numbers : line.number ≡ other.number = h.number_is ∙ sym k.number_is in
    λ i. record { number = numbers i; core = both.0 i; act = both.1 i }

-- ---- inputs

-- the first line, and those behind it
pub all_first : {X : Type 0} (P : X → Type 0) → (x : X) (xs : List X) → All P (x ∷ xs) → P x
all_first P x xs all = all 0 x (omega arith)

pub all_rest : {X : Type 0} (P : X → Type 0) → (x : X) (xs : List X) → All P (x ∷ xs) → All P xs
all_rest P x xs all k d below = all (suc k) d (omega (arith, below))

one_list : OneLine → (set : Acts) (cores : ℕ) (lines others : List Line) → cores ≤ 2 ^ 32 → All (CanStand set cores) lines → All (CanStand set cores) others → map numbered_text lines ≡ map numbered_text others → lines ≡ others
one_list one set cores [] [] few all others_all e = refl
one_list one set cores [] (o ∷ others) few all others_all e = absurd (cc)
one_list one set cores (l ∷ lines) [] few all others_all e = absurd (cc)
one_list one set cores (l ∷ lines) (o ∷ others) few all others_all e =
    let pair : numbered_text l ≡ numbered_text o = cc in
    let rest : map numbered_text lines ≡ map numbered_text others = cc in
    let heads : l ≡ o = one set cores l.number (line_text l) l o few
    (record { number_is = refl; text_is = refl; can_stand = all_first (CanStand set cores) l lines all })
    (record { number_is = sym (ap (λ (p : ℕ × List ℕ). p.0) pair); text_is = sym (ap (λ (p : ℕ × List ℕ). p.1) pair); can_stand = all_first (CanStand set cores) o others others_all }) in
    let tails : lines ≡ others = one_list one set cores lines others few (all_rest (CanStand set cores) l lines all) (all_rest (CanStand set cores) o others others_all) rest in
    λ i. heads i ∷ tails i

pub one_input : OneLine → OneInput
one_input one set cores input lines others few h k = one_list one set cores lines others few h.can_stand k.can_stand (h.texts ∙ sym k.texts)
