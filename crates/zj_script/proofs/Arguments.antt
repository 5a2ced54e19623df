-- What stands behind a verb.
use Rattle.std.proofs.Common.{◌≡◌, ℕ, ◌+◌, ◌<◌, ◌^◌, true, List, [], ◌∷◌, ◌++◌, length, IsTrue, decimal, refl, sym, ap, ◌∙◌, subst, arith, length-append}
use Rattle.std.proofs.lemmas.Bool.Decides.{nat_tests}
use Rattle.std.proofs.lemmas.List.{length-map}
use Rattle.zj_tree.specs.declared.call.Call.{Call}
use Rattle.zj_tree.specs.declared.call.Call.TheVariants as calls
use Rattle.zj_tree.specs.Path.{is_path, path_text}
use Rattle.zj_script.specs.declared.fault.Stop.{Stop}
use Rattle.zj_script.specs.declared.kind.Kind.TheVariants as kinds
use Rattle.zj_script.specs.declared.verb.Verb.{Verb}
use Rattle.zj_script.specs.declared.verb.Verb.TheVariants as verbs
use Rattle.zj_script.specs.Grammar.{Part, argument_parts, has_spelling, is_number, number_part, path_part, text_part, verb_of, words_of}
use Rattle.zj_script.specs.Reading.{AreArguments, IsNumber, IsPath, IsText, Lacks, Stops}
use Rattle.zj_script.specs.Text.{bytes_text, has_text}
use Rattle.zj_script.proofs.Leaving.{Begins, lacks_first, stops_behind}
use Rattle.zj_script.proofs.Spelling.{both, first, second}

-- What the words behind a verb and a path are.
abbrev pub Ends : Verb → List Part → Type 0
Ends verbs.Rename last = (to : List (List ℕ)) × IsTrue (is_path to) × (last ≡ path_part to ∷ [])
Ends verbs.Write last = (at : ℕ) × (bytes : List ℕ) × (at < 2 ^ 32) × IsTrue (has_text bytes) × (last ≡ number_part at ∷ text_part bytes ∷ [])
Ends verbs.Read last = (at count : ℕ) × (at < 2 ^ 32) × (count < 2 ^ 32) × (last ≡ number_part at ∷ number_part count ∷ [])
Ends verbs.Truncate last = (size : ℕ) × (size < 2 ^ 32) × (last ≡ number_part size ∷ [])
Ends verb last = last ≡ []

-- The words behind a verb, taken apart.
pub record HasPath (verb : Verb) (parts : List Part) : Type 0 where
  pub path : List (List ℕ)
  pub last : List Part
  pub good : IsTrue (is_path path)
  pub parts_are : parts ≡ path_part path ∷ last
  pub ends : Ends verb last

small : (n : ℕ) → is_number n ≡ true → n < 2 ^ 32
small n e = grind (arith, nat_tests)

number : (n : ℕ) → n < 2 ^ 32 → is_number n ≡ true
number n e = grind (arith, nat_tests)

apart_call : (call : Call) → IsTrue (has_spelling call) → HasPath (verb_of call) (argument_parts call)
apart_call (calls.Mkdir path) good = record { path = path; last = []; good = good; parts_are = refl; ends = refl }
apart_call (calls.Create path) good = record { path = path; last = []; good = good; parts_are = refl; ends = refl }
apart_call (calls.Unlink path) good = record { path = path; last = []; good = good; parts_are = refl; ends = refl }
apart_call (calls.Rmdir path) good = record { path = path; last = []; good = good; parts_are = refl; ends = refl }
apart_call (calls.List path) good = record { path = path; last = []; good = good; parts_are = refl; ends = refl }
apart_call (calls.Stat path) good = record { path = path; last = []; good = good; parts_are = refl; ends = refl }
apart_call (calls.Fsync path) good = record { path = path; last = []; good = good; parts_are = refl; ends = refl }
apart_call (calls.Rename from to) good = record { path = from; last = path_part to ∷ []; good = first _ _ good; parts_are = refl; ends = (to, second _ _ good, refl) }
apart_call (calls.Write path at bytes) good = record { path = path; last = number_part at ∷ text_part bytes ∷ []; good = first _ _ (first _ _ good); parts_are = refl; ends = (at, bytes, small at (second _ _ (first _ _ good)), second _ _ good, refl) }
apart_call (calls.Read path at count) good = record { path = path; last = number_part at ∷ number_part count ∷ []; good = first _ _ (first _ _ good); parts_are = refl; ends = (at, count, small at (second _ _ (first _ _ good)), small count (second _ _ good), refl) }
apart_call (calls.Truncate path size) good = record { path = path; last = number_part size ∷ []; good = first _ _ good; parts_are = refl; ends = (size, small size (second _ _ good), refl) }

pub apart : (verb : Verb) (parts : List Part) → AreArguments verb parts → HasPath verb parts
apart verb parts a = subst (λ (v : Verb). HasPath v parts) a.verb_is (subst (λ (ps : List Part). HasPath (verb_of a.call) ps) a.parts_are (apart_call a.call a.good))

pub together : (verb : Verb) (path : List (List ℕ)) (last : List Part) → IsTrue (is_path path) → Ends verb last → AreArguments verb (path_part path ∷ last)
together verbs.Mkdir path last good ends = record { call = calls.Mkdir path; good = good; verb_is = refl; parts_are = ap (λ (ps : List Part). path_part path ∷ ps) (sym ends) }
together verbs.Create path last good ends = record { call = calls.Create path; good = good; verb_is = refl; parts_are = ap (λ (ps : List Part). path_part path ∷ ps) (sym ends) }
together verbs.Unlink path last good ends = record { call = calls.Unlink path; good = good; verb_is = refl; parts_are = ap (λ (ps : List Part). path_part path ∷ ps) (sym ends) }
together verbs.Rmdir path last good ends = record { call = calls.Rmdir path; good = good; verb_is = refl; parts_are = ap (λ (ps : List Part). path_part path ∷ ps) (sym ends) }
together verbs.List path last good ends = record { call = calls.List path; good = good; verb_is = refl; parts_are = ap (λ (ps : List Part). path_part path ∷ ps) (sym ends) }
together verbs.Stat path last good ends = record { call = calls.Stat path; good = good; verb_is = refl; parts_are = ap (λ (ps : List Part). path_part path ∷ ps) (sym ends) }
together verbs.Fsync path last good ends = record { call = calls.Fsync path; good = good; verb_is = refl; parts_are = ap (λ (ps : List Part). path_part path ∷ ps) (sym ends) }
together verbs.Rename path last good ends = record { call = calls.Rename path ends.0; good = both _ _ good ends.1; verb_is = refl; parts_are = ap (λ (ps : List Part). path_part path ∷ ps) (sym ends.2) }
together verbs.Write path last good ends = record { call = calls.Write path ends.0 ends.1; good = both _ _ (both _ _ good (number ends.0 ends.2)) ends.3; verb_is = refl; parts_are = ap (λ (ps : List Part). path_part path ∷ ps) (sym ends.4) }
together verbs.Read path last good ends = record { call = calls.Read path ends.0 ends.1; good = both _ _ (both _ _ good (number ends.0 ends.2)) (number ends.1 ends.3); verb_is = refl; parts_are = ap (λ (ps : List Part). path_part path ∷ ps) (sym ends.4) }
together verbs.Truncate path last good ends = record { call = calls.Truncate path ends.0; good = both _ _ good (number ends.0 ends.1); verb_is = refl; parts_are = ap (λ (ps : List Part). path_part path ∷ ps) (sym ends.2) }

-- what stands behind a path
pub behind_path : (verb : Verb) (path : List (List ℕ)) (parts : List Part) → AreArguments verb (path_part path ∷ parts) → Ends verb parts
behind_path verb path parts a =
    let h = apart verb (path_part path ∷ parts) a in
    let last : h.last ≡ parts = cc (h.parts_are) in
    subst (Ends verb) last h.ends

-- ---- where the words behind a verb leave the grammar

one_zero : 0 < 2 ^ 32
one_zero = omega arith

-- the words of some call with a verb
pub some_end : (verb : Verb) → (last : List Part) × Ends verb last
some_end verbs.Mkdir = ([], refl)
some_end verbs.Create = ([], refl)
some_end verbs.Unlink = ([], refl)
some_end verbs.Rmdir = ([], refl)
some_end verbs.List = ([], refl)
some_end verbs.Stat = ([], refl)
some_end verbs.Fsync = ([], refl)
some_end verbs.Rename = (path_part [] ∷ [], ([], refl, refl))
some_end verbs.Write = (number_part 0 ∷ text_part (0 ∷ []) ∷ [], (0, 0 ∷ [], one_zero, refl, refl))
some_end verbs.Read = (number_part 0 ∷ number_part 0 ∷ [], (0, 0, one_zero, one_zero, refl))
some_end verbs.Truncate = (number_part 0 ∷ [], (0, one_zero, refl))

begins_path : (verb : Verb) → Begins (AreArguments verb) kinds.BadPath IsPath
begins_path verb line a = let h = apart verb line a in (path_text h.path, h.last, h.parts_are, (h.path, h.good, refl))

pub lacks_path : (verb : Verb) (words : List (List ℕ)) (stop : Stop) → Lacks IsPath kinds.BadPath words stop → Stops (AreArguments verb) words stop
lacks_path verb words stop lacks =
    let e = some_end verb in
    lacks_first (AreArguments verb) kinds.BadPath IsPath words stop (path_text []) e.0 (together verb [] e.0 refl e.1) (begins_path verb) lacks

pub stops_path : (verb : Verb) (path : List (List ℕ)) (words : List (List ℕ)) (stop : Stop) → Stops (λ parts. AreArguments verb (path_part path ∷ parts)) words stop → Stops (AreArguments verb) (path_text path ∷ words) stop
stops_path verb path words stop s = stops_behind (AreArguments verb) kinds.BadPath IsPath (path_text path) words stop (begins_path verb) s

pub lacks_to : (path : List (List ℕ)) → IsTrue (is_path path) → (words : List (List ℕ)) (stop : Stop) → Lacks IsPath kinds.BadPath words stop → Stops (λ parts. AreArguments verbs.Rename (path_part path ∷ parts)) words stop
lacks_to path good words stop lacks =
    lacks_first (λ parts. AreArguments verbs.Rename (path_part path ∷ parts)) kinds.BadPath IsPath words stop (path_text []) [] (together verbs.Rename path (path_part [] ∷ []) good ([], refl, refl)) begins lacks
  where
    begins : Begins (λ parts. AreArguments verbs.Rename (path_part path ∷ parts)) kinds.BadPath IsPath
    begins line a = let e = behind_path verbs.Rename path line a in (path_text e.0, [], e.2, (e.0, e.1, refl))

pub lacks_size : (path : List (List ℕ)) → IsTrue (is_path path) → (words : List (List ℕ)) (stop : Stop) → Lacks IsNumber kinds.BadNumber words stop → Stops (λ parts. AreArguments verbs.Truncate (path_part path ∷ parts)) words stop
lacks_size path good words stop lacks =
    lacks_first (λ parts. AreArguments verbs.Truncate (path_part path ∷ parts)) kinds.BadNumber IsNumber words stop (decimal 0) [] (together verbs.Truncate path (number_part 0 ∷ []) good (0, one_zero, refl)) begins lacks
  where
    begins : Begins (λ parts. AreArguments verbs.Truncate (path_part path ∷ parts)) kinds.BadNumber IsNumber
    begins line a = let e = behind_path verbs.Truncate path line a in (decimal e.0, [], e.2, (e.0, e.1, refl))

begins_read : (path : List (List ℕ)) → Begins (λ parts. AreArguments verbs.Read (path_part path ∷ parts)) kinds.BadNumber IsNumber
begins_read path line a = let e = behind_path verbs.Read path line a in (decimal e.0, number_part e.1 ∷ [], e.4, (e.0, e.2, refl))

pub lacks_read_place : (path : List (List ℕ)) → IsTrue (is_path path) → (words : List (List ℕ)) (stop : Stop) → Lacks IsNumber kinds.BadNumber words stop → Stops (λ parts. AreArguments verbs.Read (path_part path ∷ parts)) words stop
lacks_read_place path good words stop lacks =
    lacks_first (λ parts. AreArguments verbs.Read (path_part path ∷ parts)) kinds.BadNumber IsNumber words stop (decimal 0) (number_part 0 ∷ [])
    (together verbs.Read path (number_part 0 ∷ number_part 0 ∷ []) good (0, 0, one_zero, one_zero, refl)) (begins_read path) lacks

pub lacks_read_count : (path : List (List ℕ)) → IsTrue (is_path path) → (at : ℕ) → at < 2 ^ 32 → (old words : List (List ℕ)) (stop : Stop) → old ≡ decimal at ∷ words → Lacks IsNumber kinds.BadNumber words stop
    → Stops (λ parts. AreArguments verbs.Read (path_part path ∷ parts)) old stop
lacks_read_count path good at low old words stop next lacks =
    subst (λ (ws : List (List ℕ)). Stops (λ parts. AreArguments verbs.Read (path_part path ∷ parts)) ws stop) (sym next)
    (stops_behind (λ parts. AreArguments verbs.Read (path_part path ∷ parts)) kinds.BadNumber IsNumber (decimal at) words stop (begins_read path)
    (lacks_first (λ parts. AreArguments verbs.Read (path_part path ∷ number_part at ∷ parts)) kinds.BadNumber IsNumber words stop (decimal 0) []
    (together verbs.Read path (number_part at ∷ number_part 0 ∷ []) good (at, 0, low, one_zero, refl)) begins lacks))
  where
    begins : Begins (λ parts. AreArguments verbs.Read (path_part path ∷ number_part at ∷ parts)) kinds.BadNumber IsNumber
    begins line a =
        let e = behind_path verbs.Read path (number_part at ∷ line) a in
        let last : line ≡ number_part e.1 ∷ [] = cc (e.4) in
        (decimal e.1, [], last, (e.1, e.3, refl))

begins_write : (path : List (List ℕ)) → Begins (λ parts. AreArguments verbs.Write (path_part path ∷ parts)) kinds.BadNumber IsNumber
begins_write path line a = let e = behind_path verbs.Write path line a in (decimal e.0, text_part e.1 ∷ [], e.4, (e.0, e.2, refl))

pub lacks_write_place : (path : List (List ℕ)) → IsTrue (is_path path) → (words : List (List ℕ)) (stop : Stop) → Lacks IsNumber kinds.BadNumber words stop → Stops (λ parts. AreArguments verbs.Write (path_part path ∷ parts)) words stop
lacks_write_place path good words stop lacks =
    lacks_first (λ parts. AreArguments verbs.Write (path_part path ∷ parts)) kinds.BadNumber IsNumber words stop (decimal 0) (text_part (0 ∷ []) ∷ [])
    (together verbs.Write path (number_part 0 ∷ text_part (0 ∷ []) ∷ []) good (0, 0 ∷ [], one_zero, refl, refl)) (begins_write path) lacks

pub lacks_written_text : (path : List (List ℕ)) → IsTrue (is_path path) → (at : ℕ) → at < 2 ^ 32 → (old words : List (List ℕ)) (stop : Stop) → old ≡ decimal at ∷ words → Lacks IsText kinds.BadText words stop
    → Stops (λ parts. AreArguments verbs.Write (path_part path ∷ parts)) old stop
lacks_written_text path good at low old words stop next lacks =
    subst (λ (ws : List (List ℕ)). Stops (λ parts. AreArguments verbs.Write (path_part path ∷ parts)) ws stop) (sym next)
    (stops_behind (λ parts. AreArguments verbs.Write (path_part path ∷ parts)) kinds.BadNumber IsNumber (decimal at) words stop (begins_write path)
    (lacks_first (λ parts. AreArguments verbs.Write (path_part path ∷ number_part at ∷ parts)) kinds.BadText IsText words stop (bytes_text (0 ∷ [])) []
    (together verbs.Write path (number_part at ∷ text_part (0 ∷ []) ∷ []) good (at, 0 ∷ [], low, refl, refl)) begins lacks))
  where
    begins : Begins (λ parts. AreArguments verbs.Write (path_part path ∷ number_part at ∷ parts)) kinds.BadText IsText
    begins line a =
        let e = behind_path verbs.Write path (number_part at ∷ line) a in
        let last : line ≡ text_part e.1 ∷ [] = cc (e.4) in
        (bytes_text e.1, [], last, (e.1, e.3, refl))

-- ---- how many words stand behind a verb

pub count : Verb → ℕ
count verbs.Rename = 2
count verbs.Write = 3
count verbs.Read = 3
count verbs.Truncate = 2
count verb = 1

length-ends : (verb : Verb) (last : List Part) → Ends verb last → length last + 1 ≡ count verb
unfolding count
length-ends verbs.Rename last ends = omega (arith, ap (λ (ps : List Part). length ps) ends.2)
length-ends verbs.Write last ends = omega (arith, ap (λ (ps : List Part). length ps) ends.4)
length-ends verbs.Read last ends = omega (arith, ap (λ (ps : List Part). length ps) ends.4)
length-ends verbs.Truncate last ends = omega (arith, ap (λ (ps : List Part). length ps) ends.2)
length-ends verbs.Mkdir last ends = omega (arith, ap (λ (ps : List Part). length ps) ends)
length-ends verbs.Create last ends = omega (arith, ap (λ (ps : List Part). length ps) ends)
length-ends verbs.Unlink last ends = omega (arith, ap (λ (ps : List Part). length ps) ends)
length-ends verbs.Rmdir last ends = omega (arith, ap (λ (ps : List Part). length ps) ends)
length-ends verbs.List last ends = omega (arith, ap (λ (ps : List Part). length ps) ends)
length-ends verbs.Stat last ends = omega (arith, ap (λ (ps : List Part). length ps) ends)
length-ends verbs.Fsync last ends = omega (arith, ap (λ (ps : List Part). length ps) ends)

length-arguments : (verb : Verb) (parts : List Part) → AreArguments verb parts → length (words_of parts) ≡ count verb
length-arguments verb parts a =
    let h = apart verb parts a in
    length-map parts (λ (part : Part). part.1) ∙ omega (arith, length-ends verb h.last h.ends, ap (λ (ps : List Part). length ps) h.parts_are)

-- the words of no call go on as those of another
pub arguments_end : (verb : Verb) (parts others : List Part) (word : List ℕ) (more : List (List ℕ)) → AreArguments verb parts → AreArguments verb others → words_of others ≡ words_of parts ++ word ∷ more → ⊥
arguments_end verb parts others word more a b e =
    absurd (omega (arith, length-arguments verb parts a, length-arguments verb others b, ap (λ (ws : List (List ℕ)). length ws) e, length-append (words_of parts) (word ∷ more)))

-- the grammar behind a path, by the verb's name
pub of_verb : (verb named : Verb) (path : List (List ℕ)) (words : List (List ℕ)) (stop : Stop) → verb ≡ named
    → Stops (λ parts. AreArguments named (path_part path ∷ parts)) words stop → Stops (λ parts. AreArguments verb (path_part path ∷ parts)) words stop
of_verb verb named path words stop is s = subst (λ (v : Verb). Stops (λ parts. AreArguments v (path_part path ∷ parts)) words stop) (sym is) s
