-- The words of acts.
use Rattle.std.proofs.Common.{◌≡◌, ◌≢◌, ℕ, ◌+◌, ◌*◌, ◌==◌, if◌then◌else◌, slice_index, List, [], ◌∷◌, ◌++◌, codes, IsTrue, refl, sym, ap, ◌∙◌, subst}
use Rattle.zj_tree.specs.declared.call.Call.{Call}
use Rattle.zj_script.specs.declared.fault.Stop.{Stop}
use Rattle.zj_script.specs.declared.kind.Kind.TheVariants as kinds
use Rattle.zj_script.specs.declared.line.Act.{Act}
use Rattle.zj_script.specs.declared.line.Act.TheVariants as acts
use Rattle.zj_script.specs.declared.verb.Acts.{Acts}
use Rattle.zj_script.specs.declared.verb.Acts.TheVariants as sets
use Rattle.zj_script.specs.declared.verb.Opening.{Opening}
use Rattle.zj_script.specs.declared.verb.Opening.TheVariants as openings
use Rattle.zj_script.specs.declared.verb.Verb.{Verb}
use Rattle.zj_script.specs.declared.verb.Verb.TheVariants as verbs
use Rattle.zj_script.specs.Grammar.{Part, act_parts, argument_parts, can_begin, has_spelling, is_act, path_part, verb_of, verb_word, words_of}
use Rattle.zj_script.specs.Reading.{AreArguments, AreOfAct, IsBeginnable, IsOpening, Lacks, Opens, Stops, opening_word}
use Rattle.zj_script.proofs.Arguments.{arguments_end, together}
use Rattle.zj_script.proofs.Leaving.{Begins, lacks_first, stops_alike, stops_behind}
use Rattle.zj_script.proofs.Spelling.{both, first, second}

-- ---- an opening by its first and third letter

abbrev opening_at : ℕ → Opening
opening_at key =
    if key == 25709 then openings.Call verbs.Mkdir else (if key == 25955 then openings.Call verbs.Create else (if key == 27765 then openings.Call verbs.Unlink
    else (if key == 25714 then openings.Call verbs.Rmdir else (if key == 28274 then openings.Call verbs.Rename else (if key == 29548 then openings.Call verbs.List
    else (if key == 24947 then openings.Call verbs.Stat else (if key == 26999 then openings.Call verbs.Write else (if key == 24946 then openings.Call verbs.Read
    else (if key == 30068 then openings.Call verbs.Truncate else (if key == 31078 then openings.Call verbs.Fsync else (if key == 26466 then openings.Begin
    else (if key == 27508 then openings.Take else (if key == 28524 then openings.Look else (if key == 28531 then openings.Stop else (if key == 28516 then openings.Drop
    else (if key == 28003 then openings.Commit else openings.Sync))))))))))))))))

abbrev key_of : List ℕ → ℕ
key_of word = slice_index word 0 + 256 * slice_index word 2

opening_back : (opening : Opening) → opening_at (key_of (opening_word opening)) ≡ opening
opening_back (openings.Call verbs.Mkdir) = refl
opening_back (openings.Call verbs.Create) = refl
opening_back (openings.Call verbs.Unlink) = refl
opening_back (openings.Call verbs.Rmdir) = refl
opening_back (openings.Call verbs.Rename) = refl
opening_back (openings.Call verbs.List) = refl
opening_back (openings.Call verbs.Stat) = refl
opening_back (openings.Call verbs.Write) = refl
opening_back (openings.Call verbs.Read) = refl
opening_back (openings.Call verbs.Truncate) = refl
opening_back (openings.Call verbs.Fsync) = refl
opening_back openings.Begin = refl
opening_back openings.Take = refl
opening_back openings.Look = refl
opening_back openings.Stop = refl
opening_back openings.Drop = refl
opening_back openings.Commit = refl
opening_back openings.Sync = refl

pub one_opening : (opening other : Opening) → opening_word opening ≡ opening_word other → opening ≡ other
one_opening opening other e = sym (opening_back opening) ∙ ap (λ (word : List ℕ). opening_at (key_of word)) e ∙ opening_back other

pub one_verb : (verb other : Verb) → verb_word verb ≡ verb_word other → verb ≡ other
one_verb verb other e =
    let same = one_opening (openings.Call verb) (openings.Call other) e in
    let found : verb ≡ other = cc (same) in
    found

-- ---- an act, taken apart

-- The words of a call that can be begun.
pub record AreBegun (parts : List Part) : Type 0 where
  pub verb : Verb
  pub more : List Part
  pub can : IsTrue (can_begin verb)
  pub parts_are : parts ≡ (kinds.BadCall, verb_word verb) ∷ more
  pub are : AreArguments verb more

-- What stands behind an opening.
abbrev pub Follows : Opening → List Part → Type 0
Follows (openings.Call verb) parts = AreArguments verb parts
Follows openings.Begin parts = AreBegun parts
Follows opening parts = parts ≡ []

-- The words of an act, taken apart.
pub record IsOpened (set : Acts) (parts : List Part) : Type 0 where
  pub opening : Opening
  pub rest : List Part
  pub opens : Opens set opening
  pub parts_are : parts ≡ (kinds.BadCall, opening_word opening) ∷ rest
  pub follows : Follows opening rest

arguments_of : (call : Call) → IsTrue (has_spelling call) → AreArguments (verb_of call) (argument_parts call)
arguments_of call good = record { call = call; good = good; verb_is = refl; parts_are = refl }

apart_act : (set : Acts) (act : Act) → IsTrue (is_act set act) → act ≢ acts.Checkpoint → IsOpened set (act_parts act)
apart_act sets.Script (acts.Call call) good cored = record { opening = openings.Call (verb_of call); rest = argument_parts call; opens = tt; parts_are = refl; follows = arguments_of call good }
apart_act sets.Script (acts.Begin call) good cored = absurd (cc)
apart_act sets.Script acts.Take good cored = absurd (cc)
apart_act sets.Script acts.Look good cored = absurd (cc)
apart_act sets.Script acts.Stop good cored = absurd (cc)
apart_act sets.Script acts.Drop good cored = absurd (cc)
apart_act sets.Script acts.Commit good cored = absurd (cc)
apart_act sets.Script acts.Sync good cored = absurd (cc)
apart_act sets.Script acts.Checkpoint good cored = absurd (cc)
apart_act sets.Schedule (acts.Call call) good cored = record { opening = openings.Call (verb_of call); rest = argument_parts call; opens = tt; parts_are = refl; follows = arguments_of call good }
apart_act sets.Schedule (acts.Begin call) good cored =
    record {
      opening = openings.Begin;
      rest = (kinds.BadCall, verb_word (verb_of call)) ∷ argument_parts call;
      opens = tt;
      parts_are = refl;
      follows = record { verb = verb_of call; more = argument_parts call; can = second _ _ good; parts_are = refl; are = arguments_of call (first _ _ good) };
    }
apart_act sets.Schedule acts.Take good cored = record { opening = openings.Take; rest = []; opens = tt; parts_are = refl; follows = refl }
apart_act sets.Schedule acts.Look good cored = record { opening = openings.Look; rest = []; opens = tt; parts_are = refl; follows = refl }
apart_act sets.Schedule acts.Stop good cored = record { opening = openings.Stop; rest = []; opens = tt; parts_are = refl; follows = refl }
apart_act sets.Schedule acts.Drop good cored = record { opening = openings.Drop; rest = []; opens = tt; parts_are = refl; follows = refl }
apart_act sets.Schedule acts.Commit good cored = record { opening = openings.Commit; rest = []; opens = tt; parts_are = refl; follows = refl }
apart_act sets.Schedule acts.Sync good cored = record { opening = openings.Sync; rest = []; opens = tt; parts_are = refl; follows = refl }
apart_act sets.Schedule acts.Checkpoint good cored = absurd (cored refl)

pub opened : (set : Acts) (parts : List Part) → AreOfAct set parts → IsOpened set parts
opened set parts a = subst (IsOpened set) a.parts_are (apart_act set a.act a.good a.cored)

-- ---- and put together

call_act : (set : Acts) (verb : Verb) (rest : List Part) → AreArguments verb rest → AreOfAct set ((kinds.BadCall, verb_word verb) ∷ rest)
call_act set verb rest a =
    record { act = acts.Call a.call; good = good set; cored = λ e. cc (e); parts_are = λ i. (kinds.BadCall, verb_word (a.verb_is i)) ∷ a.parts_are i }
  where
    good : (s : Acts) → IsTrue (is_act s (acts.Call a.call))
    good sets.Script = a.good
    good sets.Schedule = a.good

begun_act : (rest : List Part) → AreBegun rest → AreOfAct sets.Schedule ((kinds.BadCall, codes "begin") ∷ rest)
begun_act rest b =
    let a = b.are in
    record {
      act = acts.Begin a.call;
      good = both _ _ a.good (subst (λ (v : Verb). IsTrue (can_begin v)) (sym a.verb_is) b.can);
      cored = λ e. cc (e);
      parts_are = (λ i. (kinds.BadCall, codes "begin") ∷ (kinds.BadCall, verb_word (a.verb_is i)) ∷ a.parts_are i) ∙ ap (λ (ps : List Part). (kinds.BadCall, codes "begin") ∷ ps) (sym b.parts_are);
    }

alone : (act : Act) (word : List ℕ) (rest : List Part) → IsTrue (is_act sets.Schedule act) → act ≢ acts.Checkpoint → act_parts act ≡ (kinds.BadCall, word) ∷ [] → rest ≡ [] → AreOfAct sets.Schedule ((kinds.BadCall, word) ∷ rest)
alone act word rest good cored e none = record { act = act; good = good; cored = cored; parts_are = e ∙ ap (λ (ps : List Part). (kinds.BadCall, word) ∷ ps) (sym none) }

pub act_opened : (set : Acts) (opening : Opening) (rest : List Part) → Opens set opening → Follows opening rest → AreOfAct set ((kinds.BadCall, opening_word opening) ∷ rest)
act_opened set (openings.Call verb) rest opens follows = call_act set verb rest follows
act_opened sets.Schedule openings.Begin rest opens follows = begun_act rest follows
act_opened sets.Schedule openings.Take rest opens follows = alone acts.Take _ rest refl (λ e. cc (e)) refl follows
act_opened sets.Schedule openings.Look rest opens follows = alone acts.Look _ rest refl (λ e. cc (e)) refl follows
act_opened sets.Schedule openings.Stop rest opens follows = alone acts.Stop _ rest refl (λ e. cc (e)) refl follows
act_opened sets.Schedule openings.Drop rest opens follows = alone acts.Drop _ rest refl (λ e. cc (e)) refl follows
act_opened sets.Schedule openings.Commit rest opens follows = alone acts.Commit _ rest refl (λ e. cc (e)) refl follows
act_opened sets.Schedule openings.Sync rest opens follows = alone acts.Sync _ rest refl (λ e. cc (e)) refl follows
act_opened sets.Script openings.Begin rest opens follows = absurd opens
act_opened sets.Script openings.Take rest opens follows = absurd opens
act_opened sets.Script openings.Look rest opens follows = absurd opens
act_opened sets.Script openings.Stop rest opens follows = absurd opens
act_opened sets.Script openings.Drop rest opens follows = absurd opens
act_opened sets.Script openings.Commit rest opens follows = absurd opens
act_opened sets.Script openings.Sync rest opens follows = absurd opens

-- the first words of two lists of parts, and those behind
pub heads : (part other : Part) (parts others : List Part) → part ∷ parts ≡ other ∷ others → (part.1 ≡ other.1) × (parts ≡ others)
heads part other parts others e =
    let words : part.1 ∷ words_of parts ≡ other.1 ∷ words_of others = ap (λ (ps : List Part). words_of ps) e in
    let one : part.1 ≡ other.1 = cc in
    let rest : parts ≡ others = cc (e) in
    (one, rest)

-- what follows the opening of an act
pub follows_opening : (set : Acts) (opening : Opening) (rest : List Part) → AreOfAct set ((kinds.BadCall, opening_word opening) ∷ rest) → Follows opening rest
follows_opening set opening rest a =
    let o = opened set _ a in
    let h = heads (kinds.BadCall, opening_word opening) (kinds.BadCall, opening_word o.opening) rest o.rest o.parts_are in
    let same : o.opening ≡ opening = one_opening o.opening opening (sym h.0) in
    subst (Follows opening) (sym h.1) (subst (λ (op : Opening). Follows op o.rest) same o.follows)

-- what follows the verb of a call that is begun
begun_arguments : (verb : Verb) (more : List Part) → AreBegun ((kinds.BadCall, verb_word verb) ∷ more) → AreArguments verb more
begun_arguments verb more b =
    let h = heads (kinds.BadCall, verb_word verb) (kinds.BadCall, verb_word b.verb) more b.more b.parts_are in
    subst (AreArguments verb) (sym h.1) (subst (λ (v : Verb). AreArguments v b.more) (one_verb b.verb verb (sym h.0)) b.are)

-- ---- where the words of an act leave the grammar

begins_act : (set : Acts) → Begins (AreOfAct set) kinds.BadCall (IsOpening set)
begins_act set line a = let o = opened set line a in (opening_word o.opening, o.rest, o.parts_are, (o.opening, o.opens, refl))

some_call : AreArguments verbs.Mkdir (path_part [] ∷ [])
some_call = together verbs.Mkdir [] [] refl refl

pub some_act : (set : Acts) → AreOfAct set ((kinds.BadCall, codes "mkdir") ∷ path_part [] ∷ [])
some_act set = call_act set verbs.Mkdir (path_part [] ∷ []) some_call

pub lacks_opening : (set : Acts) (words : List (List ℕ)) (stop : Stop) → Lacks (IsOpening set) kinds.BadCall words stop → Stops (AreOfAct set) words stop
lacks_opening set words stop lacks = lacks_first (AreOfAct set) kinds.BadCall (IsOpening set) words stop (codes "mkdir") (path_part [] ∷ []) (some_act set) (begins_act set) lacks

stops_opened : (set : Acts) (opening : Opening) (words : List (List ℕ)) (stop : Stop) → Opens set opening → Stops (Follows opening) words stop → Stops (AreOfAct set) (opening_word opening ∷ words) stop
stops_opened set opening words stop opens s =
    stops_behind (AreOfAct set) kinds.BadCall (IsOpening set) (opening_word opening) words stop (begins_act set)
    (stops_alike (Follows opening) (λ parts. AreOfAct set ((kinds.BadCall, opening_word opening) ∷ parts)) words stop
    (λ parts follows. act_opened set opening parts opens follows) (λ parts a. follows_opening set opening parts a) s)

-- where what stands behind the opening of a call does
pub stops_call : (set : Acts) (opening : Opening) (verb : Verb) (old words : List (List ℕ)) (stop : Stop) → opening ≡ openings.Call verb → Opens set opening → old ≡ opening_word opening ∷ words
    → Stops (AreArguments verb) words stop → Stops (AreOfAct set) old stop
stops_call set opening verb old words stop is opens next s =
    subst (λ (ws : List (List ℕ)). Stops (AreOfAct set) ws stop) (sym next)
    (stops_opened set opening words stop opens (subst (λ (op : Opening). Stops (Follows op) words stop) (sym is) s))

begins_begun : Begins AreBegun kinds.BadCall IsBeginnable
begins_begun line b = (verb_word b.verb, b.more, b.parts_are, (b.verb, b.can, refl))

pub lacks_begun : (set : Acts) (opening : Opening) (old words : List (List ℕ)) (stop : Stop) → opening ≡ openings.Begin → Opens set opening → old ≡ opening_word opening ∷ words
    → Lacks IsBeginnable kinds.BadCall words stop → Stops (AreOfAct set) old stop
lacks_begun set opening old words stop is opens next lacks =
    subst (λ (ws : List (List ℕ)). Stops (AreOfAct set) ws stop) (sym next)
    (stops_opened set opening words stop opens (subst (λ (op : Opening). Stops (Follows op) words stop) (sym is)
    (lacks_first AreBegun kinds.BadCall IsBeginnable words stop (codes "mkdir") (path_part [] ∷ []) (record { verb = verbs.Mkdir; more = path_part [] ∷ []; can = refl; parts_are = refl; are = some_call }) begins_begun lacks)))

pub stops_begun : (set : Acts) (opening : Opening) (verb : Verb) (old words more : List (List ℕ)) (stop : Stop) → opening ≡ openings.Begin → Opens set opening → old ≡ opening_word opening ∷ words
    → IsTrue (can_begin verb) → words ≡ verb_word verb ∷ more → Stops (AreArguments verb) more stop → Stops (AreOfAct set) old stop
stops_begun set opening verb old words more stop is opens next can after s =
    subst (λ (ws : List (List ℕ)). Stops (AreOfAct set) ws stop) (sym next)
    (stops_opened set opening words stop opens (subst (λ (op : Opening). Stops (Follows op) words stop) (sym is)
    (subst (λ (ws : List (List ℕ)). Stops AreBegun ws stop) (sym after)
    (stops_behind AreBegun kinds.BadCall IsBeginnable (verb_word verb) more stop begins_begun
    (stops_alike (AreArguments verb) (λ parts. AreBegun ((kinds.BadCall, verb_word verb) ∷ parts)) more stop
    (λ parts a. record { verb = verb; more = parts; can = can; parts_are = refl; are = a }) (λ parts b. begun_arguments verb parts b) s)))))

-- ---- the words of no act go on as those of another

none_follow : (parts others : List Part) (word : List ℕ) (more : List (List ℕ)) → parts ≡ [] → others ≡ [] → words_of others ≡ words_of parts ++ word ∷ more → ⊥
none_follow parts others word more p q e =
    let words : [] ≡ word ∷ more = sym (ap (λ (ps : List Part). words_of ps) q) ∙ e ∙ ap (λ (ps : List Part). words_of ps ++ word ∷ more) p in
    absurd (cc (words))

end_follows : (opening : Opening) (parts others : List Part) (word : List ℕ) (more : List (List ℕ)) → Follows opening parts → Follows opening others → words_of others ≡ words_of parts ++ word ∷ more → ⊥
end_follows (openings.Call verb) parts others word more a b e = arguments_end verb parts others word more a b e
end_follows openings.Begin parts others word more a b e = begun_ends
  where
    words : verb_word b.verb ∷ words_of b.more ≡ verb_word a.verb ∷ (words_of a.more ++ word ∷ more)
    words = sym (ap (λ (ps : List Part). words_of ps) b.parts_are) ∙ e ∙ ap (λ (ps : List Part). words_of ps ++ word ∷ more) a.parts_are

    one : verb_word b.verb ≡ verb_word a.verb
    one = cc (words)

    rest : words_of b.more ≡ words_of a.more ++ word ∷ more
    rest = cc (words)

    begun_ends : ⊥
    begun_ends = arguments_end a.verb a.more b.more word more a.are (subst (λ (v : Verb). AreArguments v b.more) (one_verb b.verb a.verb one) b.are) rest
end_follows openings.Take parts others word more a b e = none_follow parts others word more a b e
end_follows openings.Look parts others word more a b e = none_follow parts others word more a b e
end_follows openings.Stop parts others word more a b e = none_follow parts others word more a b e
end_follows openings.Drop parts others word more a b e = none_follow parts others word more a b e
end_follows openings.Commit parts others word more a b e = none_follow parts others word more a b e
end_follows openings.Sync parts others word more a b e = none_follow parts others word more a b e

pub act_ends : (set : Acts) (parts others : List Part) (word : List ℕ) (more : List (List ℕ)) → AreOfAct set parts → AreOfAct set others → words_of others ≡ words_of parts ++ word ∷ more → ⊥
act_ends set parts others word more a b e =
    let o = opened set parts a in
    let p = opened set others b in
    let words : opening_word p.opening ∷ words_of p.rest ≡ opening_word o.opening ∷ (words_of o.rest ++ word ∷ more) =
    sym (ap (λ (ps : List Part). words_of ps) p.parts_are) ∙ e ∙ ap (λ (ps : List Part). words_of ps ++ word ∷ more) o.parts_are in
    let one : opening_word p.opening ≡ opening_word o.opening = cc (words) in
    let rest : words_of p.rest ≡ words_of o.rest ++ word ∷ more = cc (words) in
    end_follows o.opening o.rest p.rest word more o.follows (subst (λ (op : Opening). Follows op p.rest) (one_opening p.opening o.opening one) p.follows) rest
