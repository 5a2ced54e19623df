-- An input is refused at one place, or is a list of lines.
use Rattle.std.proofs.Common.{◌≡◌, ℕ, ◌+◌, ◌≤◌, ◌^◌, ◌⊎◌, inl, inr, Bool, true, false, ◌&&◌, cond, nat_lt, List, [], ◌∷◌, ◌++◌, length, map, filter, take, Option, Some, None, IsTrue, refl, sym, ap, ◌∙◌, subst, arith, append-nil, append_assoc, length-append}
use Rattle.std.specs.List.{All, enumerate_from}
use Rattle.std.proofs.lemmas.Bool.Decides.{nat_tests}
use Rattle.std.proofs.lemmas.List.{map-append}
use Rattle.zj_script.specs.declared.kind.Kind.{Kind}
use Rattle.zj_script.specs.declared.kind.Kind.TheVariants as kinds
use Rattle.zj_script.specs.declared.line.Act.{Act}
use Rattle.zj_script.specs.declared.line.Line.{Line}
use Rattle.zj_script.specs.declared.verb.Acts.{Acts}
use Rattle.zj_script.specs.declared.verb.Opening.{Opening}
use Rattle.zj_script.specs.declared.verb.Opening.TheVariants as openings
use Rattle.zj_script.specs.declared.verb.Verb.{Verb}
use Rattle.zj_script.specs.declared.verb.Verb.TheVariants as verbs
use Rattle.zj_script.specs.Grammar.{AreOfLine, Part, act_parts, core_word, has_core, is_act, line_parts, verb_word, words_of}
use Rattle.zj_script.specs.Laws.{FaultOrLines, OneFault}
use Rattle.zj_script.specs.Parts.{parts_of}
use Rattle.zj_script.specs.Reading.{AreArguments, AreOfAct, opening_word}
use Rattle.zj_script.specs.Refusals.{Leaves, LineLeaves, NoneGoesOn, kind_due, kind_number}
use Rattle.zj_script.specs.Script.{CanStand, IsAccepted, IsFirstFault, IsLine, LeavesAt, RefusedAt, has_act, is_cut, line_text, lines_of, none_left, numbered_text, past_limit}
use Rattle.zj_script.specs.Words.{spelled}
use Rattle.zj_script.proofs.Arguments.{Ends, apart}
use Rattle.zj_script.proofs.LineEnds.{no_checkpoint, no_core, some_core}
use Rattle.zj_script.proofs.Openings.{Follows, one_opening, one_verb, opened}
use Rattle.zj_script.proofs.Unique.{all_first, all_rest, line_back}

-- ---- where the words of two lines are the same, the same kind is due behind them

abbrev Alike : List Part → List Part → Type 0
Alike line other = (front more others rest : List Part) → line ≡ front ++ more → other ≡ others ++ rest → words_of front ≡ words_of others → kind_due more ≡ kind_due rest

alike_none : (line other : List Part) → line ≡ [] → other ≡ [] → Alike line other
alike_none line other p q [] more [] rest e f w = ap (λ (ps : List Part). kind_due ps) (sym e ∙ p ∙ sym q ∙ f)
alike_none line other p q [] more (y ∷ others) rest e f w = absurd (cc (w))
alike_none line other p q (x ∷ front) more others rest e f w = absurd (cc (e, p))

alike_behind : (kind : Kind) (word next : List ℕ) (line other : List Part) → (word ≡ next → Alike line other) → Alike ((kind, word) ∷ line) ((kind, next) ∷ other)
alike_behind kind word next line other same [] more [] rest e f w = ap (λ (ps : List Part). kind_due ps) (sym e) ∙ ap (λ (ps : List Part). kind_due ps) f
alike_behind kind word next line other same [] more (y ∷ others) rest e f w = absurd (cc (w))
alike_behind kind word next line other same (x ∷ front) more [] rest e f w = absurd (cc (w))
alike_behind kind word next line other same (x ∷ front) more (y ∷ others) rest e f w =
    let words : word ∷ words_of line ≡ x.1 ∷ words_of (front ++ more) = ap (λ (ps : List Part). words_of ps) e in
    let others_words : next ∷ words_of other ≡ y.1 ∷ words_of (others ++ rest) = ap (λ (ps : List Part). words_of ps) f in
    let one : word ≡ x.1 = cc (words) in
    let two : next ≡ y.1 = cc (others_words) in
    let heads : x.1 ≡ y.1 = cc (w) in
    let tails : words_of front ≡ words_of others = cc (w) in
    let left : line ≡ front ++ more = cc (e) in
    let right : other ≡ others ++ rest = cc (f) in
    same (one ∙ heads ∙ sym two) front more others rest left right tails

alike_one : (kind : Kind) (word next : List ℕ) (line other : List Part) → line ≡ (kind, word) ∷ [] → other ≡ (kind, next) ∷ [] → Alike line other
alike_one kind word next line other p q = subst (λ (ps : List Part). Alike ps other) (sym p) (subst (λ (ps : List Part). Alike ((kind, word) ∷ []) ps) (sym q) (alike_behind kind word next [] [] (λ _. alike_none [] [] refl refl)))

alike_two : (kind second : Kind) (a b c d : List ℕ) (line other : List Part) → line ≡ (kind, a) ∷ (second, b) ∷ [] → other ≡ (kind, c) ∷ (second, d) ∷ [] → Alike line other
alike_two kind second a b c d line other p q =
    subst (λ (ps : List Part). Alike ps other) (sym p) (subst (λ (ps : List Part). Alike ((kind, a) ∷ (second, b) ∷ []) ps) (sym q)
    (alike_behind kind a c ((second, b) ∷ []) ((second, d) ∷ []) (λ _. alike_one second b d _ _ refl refl)))

alike_ends : (verb : Verb) (last others : List Part) → Ends verb last → Ends verb others → Alike last others
alike_ends verbs.Rename last others p q = alike_one kinds.BadPath _ _ last others p.2 q.2
alike_ends verbs.Write last others p q = alike_two kinds.BadNumber kinds.BadText _ _ _ _ last others p.4 q.4
alike_ends verbs.Read last others p q = alike_two kinds.BadNumber kinds.BadNumber _ _ _ _ last others p.4 q.4
alike_ends verbs.Truncate last others p q = alike_one kinds.BadNumber _ _ last others p.2 q.2
alike_ends verbs.Mkdir last others p q = alike_none last others p q
alike_ends verbs.Create last others p q = alike_none last others p q
alike_ends verbs.Unlink last others p q = alike_none last others p q
alike_ends verbs.Rmdir last others p q = alike_none last others p q
alike_ends verbs.List last others p q = alike_none last others p q
alike_ends verbs.Stat last others p q = alike_none last others p q
alike_ends verbs.Fsync last others p q = alike_none last others p q

-- two lines with these first parts
alike_first : (kind : Kind) (word next : List ℕ) (line other : List Part) (whole another : List Part) → whole ≡ (kind, word) ∷ line → another ≡ (kind, next) ∷ other → (word ≡ next → Alike line other) → Alike whole another
alike_first kind word next line other whole another p q same =
    subst (λ (ps : List Part). Alike ps another) (sym p) (subst (λ (ps : List Part). Alike ((kind, word) ∷ line) ps) (sym q) (alike_behind kind word next line other same))

alike_arguments : (verb : Verb) (parts others : List Part) → AreArguments verb parts → AreArguments verb others → Alike parts others
alike_arguments verb parts others a b =
    let p = apart verb parts a in
    let q = apart verb others b in
    alike_first kinds.BadPath _ _ p.last q.last parts others p.parts_are q.parts_are (λ _. alike_ends verb p.last q.last p.ends q.ends)

alike_follows : (opening : Opening) (parts others : List Part) → Follows opening parts → Follows opening others → Alike parts others
alike_follows (openings.Call verb) parts others a b = alike_arguments verb parts others a b
alike_follows openings.Begin parts others a b =
    alike_first kinds.BadCall (verb_word a.verb) (verb_word b.verb) a.more b.more parts others a.parts_are b.parts_are
    (λ e. alike_arguments a.verb a.more b.more a.are (subst (λ (v : Verb). AreArguments v b.more) (one_verb b.verb a.verb (sym e)) b.are))
alike_follows openings.Take parts others a b = alike_none parts others a b
alike_follows openings.Look parts others a b = alike_none parts others a b
alike_follows openings.Stop parts others a b = alike_none parts others a b
alike_follows openings.Drop parts others a b = alike_none parts others a b
alike_follows openings.Commit parts others a b = alike_none parts others a b
alike_follows openings.Sync parts others a b = alike_none parts others a b

alike_acts : (set : Acts) (parts others : List Part) → AreOfAct set parts → AreOfAct set others → Alike parts others
alike_acts set parts others a b =
    let p = opened set parts a in
    let q = opened set others b in
    alike_first kinds.BadCall (opening_word p.opening) (opening_word q.opening) p.rest q.rest parts others p.parts_are q.parts_are
    (λ e. alike_follows p.opening p.rest q.rest p.follows (subst (λ (op : Opening). Follows op q.rest) (one_opening q.opening p.opening (sym e)) q.follows))

alike_lines : (set : Acts) (cores : ℕ) → cores ≤ 2 ^ 32 → (line other : List Part) → AreOfLine set cores line → AreOfLine set cores other → Alike line other
alike_lines set cores few line other a b =
    alike_first kinds.BadCore (core_word a.core) (core_word b.core) (act_parts a.act) (act_parts b.act) line other (sym a.parts_are) (sym b.parts_are)
    (by a.core b.core a.act b.act a.has_core b.has_core a.is_act b.is_act)
  where
    by : (c d : Option ℕ) (act act2 : Act) → IsTrue (has_core cores c act) → IsTrue (has_core cores d act2) → IsTrue (is_act set act) → IsTrue (is_act set act2) → core_word c ≡ core_word d → Alike (act_parts act) (act_parts act2)
    by None None act act2 h k p q e = alike_none (act_parts act) (act_parts act2) (ap (λ (x : Act). act_parts x) (no_core cores act h)) (ap (λ (x : Act). act_parts x) (no_core cores act2 k))
    by None (Some d) act act2 h k p q e = absurd (no_checkpoint d (omega (arith, few, (some_core cores d act2 k).0)) (sym e))
    by (Some c) None act act2 h k p q e = absurd (no_checkpoint c (omega (arith, few, (some_core cores c act h).0)) e)
    by (Some c) (Some d) act act2 h k p q e =
        alike_acts set (act_parts act) (act_parts act2) (record { act = act; good = p; cored = (some_core cores c act h).1; parts_are = refl }) (record { act = act2; good = q; cored = (some_core cores d act2 k).1; parts_are = refl })

-- ---- one list, cut twice

-- Two cuts of one list are the same, or one lies behind the other.
abbrev Cuts : {X : Type 0} → List X → List X → List X → List X → Type 0
Cuts {X} a c b d = ((a ≡ b) × (c ≡ d)) ⊎ ((x : X) × (k : List X) × (b ≡ a ++ x ∷ k) × (c ≡ x ∷ (k ++ d))) ⊎ ((x : X) × (k : List X) × (a ≡ b ++ x ∷ k) × (d ≡ x ∷ (k ++ c)))

cuts : {X : Type 0} → (a c b d : List X) → a ++ c ≡ b ++ d → Cuts a c b d
cuts [] c [] d e = inl (refl, e)
cuts [] c (y ∷ b) d e = inr (inl (y, b, refl, e))
cuts (x ∷ a) c [] d e = inr (inr (x, a, refl, sym e))
cuts {X} (x ∷ a) c (y ∷ b) d e = by (cuts a c b d tails)
  where
    heads : x ≡ y
    heads = cc (e)

    tails : a ++ c ≡ b ++ d
    tails = cc (e)

    by : Cuts a c b d → Cuts (x ∷ a) c (y ∷ b) d
    by (inl p) = inl (λ i. heads i ∷ p.0 i, p.1)
    by (inr (inl p)) = inr (inl (p.0, p.1, λ i. sym heads i ∷ p.2 i, p.3))
    by (inr (inr p)) = inr (inr (p.0, p.1, λ i. heads i ∷ p.2 i, p.3))

-- ---- words that leave the grammar

-- no line goes on behind the longest list of words
no_further : (Grammar : List Part → Type 0) (front rest : List (List ℕ)) → NoneGoesOn Grammar front rest → (word : List ℕ) (behind : List (List ℕ)) → rest ≡ word ∷ behind
    → (line : List Part) (more : List (List ℕ)) → Grammar line → words_of line ≡ front ++ word ∷ more → ⊥
no_further Grammar front [] none word behind next line more good e = absurd (cc (next))
no_further Grammar front (w ∷ rest) none word behind next line more good e =
    let one : word ≡ w = cc (next) in
    none line more good (e ∙ ap (λ (text : List ℕ). front ++ text ∷ more) one)

-- no line has the words
unspelled : (Grammar : List Part → Type 0) (words : List (List ℕ)) (kind : Kind) (rest : List (List ℕ)) → Leaves Grammar words kind rest → (line : List Part) → Grammar line → words_of line ≡ words → ⊥
unspelled Grammar words kind rest l line good e = by rest l.longest (e ∙ l.words_are)
  where
    by : (left : List (List ℕ)) → NoneGoesOn Grammar (words_of l.front) left → words_of line ≡ words_of l.front ++ left → ⊥
    by [] none w = none line good (w ∙ append-nil (words_of l.front))
    by (word ∷ left) none w = none line left good w

-- words of a whole line
words_both : (front more : List Part) → words_of (front ++ more) ≡ words_of front ++ words_of more
words_both front more = map-append (λ (part : Part). part.1) front more

-- another line can't go further
behind_longest : (Grammar : List Part → Type 0) (words : List (List ℕ)) (kind other : Kind) (rest left : List (List ℕ)) (l : Leaves Grammar words kind rest) (m : Leaves Grammar words other left)
    → (word : List ℕ) (k : List (List ℕ)) → words_of m.front ≡ words_of l.front ++ word ∷ k → rest ≡ word ∷ (k ++ left) → ⊥
behind_longest Grammar words kind other rest left l m word k e next =
    no_further Grammar (words_of l.front) rest l.longest word (k ++ left) next (m.front ++ m.more) (k ++ words_of m.more) m.begins
    (words_both m.front m.more ∙ ap (λ (ws : List (List ℕ)). ws ++ words_of m.more) e ∙ append_assoc (words_of l.front) (word ∷ k) (words_of m.more))

one_leaving : (set : Acts) (cores : ℕ) → cores ≤ 2 ^ 32 → (words : List (List ℕ)) (kind other : Kind) (rest left : List (List ℕ)) → Leaves (AreOfLine set cores) words kind rest → Leaves (AreOfLine set cores) words other left → (kind ≡ other) × (rest ≡ left)
one_leaving set cores few words kind other rest left l m = by (cuts (words_of l.front) rest (words_of m.front) left (sym l.words_are ∙ m.words_are))
  where
    by : Cuts (words_of l.front) rest (words_of m.front) left → (kind ≡ other) × (rest ≡ left)
    by (inl p) = (l.kind_is ∙ alike_lines set cores few (l.front ++ l.more) (m.front ++ m.more) l.begins m.begins l.front l.more m.front m.more refl refl p.0 ∙ sym m.kind_is, p.1)
    by (inr (inl p)) = absurd (behind_longest (AreOfLine set cores) words kind other rest left l m p.0 p.1 p.2 p.3)
    by (inr (inr p)) = absurd (behind_longest (AreOfLine set cores) words other kind left rest m l p.0 p.1 p.2 p.3)

one_line_leaving : (set : Acts) (cores : ℕ) → cores ≤ 2 ^ 32 → (words : List (List ℕ)) (kind other : Kind) (rest left : List (List ℕ)) → LineLeaves set cores words kind rest → LineLeaves set cores words other left → (kind ≡ other) × (rest ≡ left)
one_line_leaving set cores few words kind other rest left (inl l) (inl m) = one_leaving set cores few words kind other rest left l m
one_line_leaving set cores few words kind other rest left (inl l) (inr m) = absurd (m.0 (l.front ++ l.more) l.begins)
one_line_leaving set cores few words kind other rest left (inr l) (inl m) = absurd (l.0 (m.front ++ m.more) m.begins)
one_line_leaving set cores few words kind other rest left (inr l) (inr m) = (l.1 ∙ sym m.1, l.2 ∙ sym m.2)

line_unspelled : (set : Acts) (cores : ℕ) (words : List (List ℕ)) (kind : Kind) (rest : List (List ℕ)) → LineLeaves set cores words kind rest → (line : List Part) → AreOfLine set cores line → words_of line ≡ words → ⊥
line_unspelled set cores words kind rest (inl l) line good e = unspelled (AreOfLine set cores) words kind rest l line good e
line_unspelled set cores words kind rest (inr l) line good e = l.0 line good

-- ---- lines that are refused

-- a line that is spelled doesn't leave the grammar
spelled_stays : (set : Acts) (cores : ℕ) → cores ≤ 2 ^ 32 → (number : ℕ) (text : List ℕ) (line : Line) (kind column : ℕ) → IsLine set cores number text line → LeavesAt set cores text kind column → ⊥
spelled_stays set cores few number text line kind column is at =
    line_unspelled set cores (parts_of 32 text) at.due at.rest at.leaves (line_parts line.core line.act)
    (record { core = line.core; act = line.act; has_core = is.can_stand.core; is_act = is.can_stand.act; parts_are = refl })
    (sym (line_back set cores few line is.can_stand) ∙ ap (λ (t : List ℕ). parts_of 32 t) is.text_is)

accepted_stays : (set : Acts) (cores : ℕ) → cores ≤ 2 ^ 32 → (text : List ℕ) (kind column : ℕ) → IsAccepted set cores text → LeavesAt set cores text kind column → ⊥
accepted_stays set cores few text kind column a at =
    let s = a.spelled at.has_act 1 in
    spelled_stays set cores few 1 text s.0 kind column s.1 at

not_below : (a n : ℕ) → n ≤ a → nat_lt a n ≡ true → ⊥
not_below a n small e = grind (arith, nat_tests)

past_none : (number : ℕ) (text : List ℕ) (cut : Bool) → number ≤ 65536 → length text ≤ 20000 → cut ≡ false → past_limit number text cut ≡ None
past_none number text cut few short whole = by (nat_lt 65536 number) (nat_lt 20000 (length text)) cut refl refl whole
  where
    by : (a b d : Bool) → nat_lt 65536 number ≡ a → nat_lt 20000 (length text) ≡ b → d ≡ false → cond a (Some 1) (cond b (Some (20000 + 1)) (cond d (Some (length text + 1)) None)) ≡ None
    by false false false p q r = refl
    by false false true p q r = absurd (cc (r))
    by false true d p q r = absurd (not_below 20000 (length text) short q)
    by true b d p q r = absurd (not_below 65536 number few p)

-- what holds of all holds of the one in the middle
all_at : {X : Type 0} (P : X → Type 0) → (front : List X) (x : X) (behind : List X) → All P (front ++ x ∷ behind) → P x
all_at P [] x behind all = all_first P x behind all
all_at P (y ∷ front) x behind all = all_at P front x behind (all_rest P y (front ++ x ∷ behind) all)

not_none : (is : Bool) (k : List (List ℕ)) (text : List ℕ) (after : List (List ℕ)) → (is && none_left (k ++ text ∷ after)) ≡ false
not_none true [] text after = refl
not_none true (t ∷ k) text after = refl
not_none false k text after = refl

-- a line before a refused one isn't refused
earlier_stays : (set : Acts) (cores : ℕ) → cores ≤ 2 ^ 32 → (input : List ℕ) (kind line column other_kind other_line other_column : ℕ) (f : IsFirstFault set cores input kind line column) (g : IsFirstFault set cores input other_kind other_line other_column)
    → (text : List ℕ) (k : List (List ℕ)) → g.before ≡ f.before ++ text ∷ k → f.text ∷ f.after ≡ text ∷ (k ++ g.text ∷ g.after) → ⊥
earlier_stays set cores few input kind line column other_kind other_line other_column f g text k before next = accepted_stays set cores few f.text kind column good leaves
  where
    one : f.text ≡ text
    one = cc (next)

    after : f.after ≡ k ++ g.text ∷ g.after
    after = cc (next)

    count : length g.before ≡ length f.before + (1 + length k)
    count = omega (arith, ap (λ (ts : List (List ℕ)). length ts) before, length-append f.before (text ∷ k))

    good : IsAccepted set cores f.text
    good = subst (IsAccepted set cores) (sym one) (all_at (IsAccepted set cores) f.before text k (subst (λ (ts : List (List ℕ)). All (IsAccepted set cores) ts) before g.accepted))

    none : past_limit line f.text (is_cut input && none_left f.after) ≡ None
    none = past_none line f.text (is_cut input && none_left f.after) (omega (arith, f.line_is, count, g.few)) good.short (ap (λ (ts : List (List ℕ)). is_cut input && none_left ts) after ∙ not_none (is_cut input) k g.text g.after)

    leaves : LeavesAt set cores f.text kind column
    leaves = subst (λ (first : Option ℕ). RefusedAt set cores f.text first kind column) none f.refused

-- one line, refused twice
one_refusal : (set : Acts) (cores : ℕ) → cores ≤ 2 ^ 32 → (text : List ℕ) (first : Option ℕ) (kind column other_kind other_column : ℕ) → RefusedAt set cores text first kind column → RefusedAt set cores text first other_kind other_column
    → (kind ≡ other_kind) × (column ≡ other_column)
one_refusal set cores few text (Some first) kind column other_kind other_column p q = (p.0 ∙ sym q.0, p.1 ∙ sym q.1)
one_refusal set cores few text None kind column other_kind other_column p q =
    let same = one_line_leaving set cores few (parts_of 32 text) p.due q.due p.rest q.rest p.leaves q.leaves in
    let lengths : length (spelled p.rest) ≡ length (spelled q.rest) = ap (λ (ws : List (List ℕ)). length (spelled ws)) same.1 in
    (p.kind_is ∙ ap (λ (k : Kind). kind_number k) same.0 ∙ sym q.kind_is, omega (arith, p.column_is, q.column_is, lengths))

pub one_fault : OneFault
one_fault set cores input kind line column other_kind other_line other_column few f g = by (cuts f.before (f.text ∷ f.after) g.before (g.text ∷ g.after) (sym f.lines ∙ g.lines))
  where
    by : Cuts f.before (f.text ∷ f.after) g.before (g.text ∷ g.after) → (kind ≡ other_kind) × (line ≡ other_line) × (column ≡ other_column)
    by (inr (inl p)) = absurd (earlier_stays set cores few input kind line column other_kind other_line other_column f g p.0 p.1 p.2 p.3)
    by (inr (inr p)) = absurd (earlier_stays set cores few input other_kind other_line other_column kind line column g f p.0 p.1 p.2 p.3)
    by (inl p) =
        let texts : g.text ≡ f.text = cc (p.1) in
        let afters : g.after ≡ f.after = cc (p.1) in
        let lines : line ≡ other_line = f.line_is ∙ ap (λ (ts : List (List ℕ)). length ts + 1) p.0 ∙ sym g.line_is in
        let moved : RefusedAt set cores f.text (past_limit line f.text (is_cut input && none_left f.after)) other_kind other_column =
        subst (λ (n : ℕ). RefusedAt set cores f.text (past_limit n f.text (is_cut input && none_left f.after)) other_kind other_column) (sym lines)
        (subst (λ (ts : List (List ℕ)). RefusedAt set cores f.text (past_limit other_line f.text (is_cut input && none_left ts)) other_kind other_column) afters
        (subst (λ (t : List ℕ). RefusedAt set cores t (past_limit other_line t (is_cut input && none_left g.after)) other_kind other_column) texts g.refused)) in
        let both = one_refusal set cores few f.text (past_limit line f.text (is_cut input && none_left f.after)) kind column other_kind other_column f.refused moved in
        (both.0, lines, both.1)

-- ---- lines or a fault

-- a text with an act, among the texts of lines
found : (set : Acts) (cores n : ℕ) (before : List (List ℕ)) (text : List ℕ) (after : List (List ℕ)) (lines : List Line) → has_act text ≡ true → All (CanStand set cores) lines
    → map numbered_text lines ≡ filter (λ numbered. has_act numbered.1) (enumerate_from n (before ++ text ∷ after)) → (line : Line) × CanStand set cores line × (line_text line ≡ text)
found set cores n [] text after lines act all e = by lines all (e ∙ ap (λ (b : Bool). cond b ((n, text) ∷ rest) rest) act)
  where
    rest : List (ℕ × List ℕ)
    rest = filter (λ numbered. has_act numbered.1) (enumerate_from (n + 1) after)

    by : (ls : List Line) → All (CanStand set cores) ls → map numbered_text ls ≡ (n, text) ∷ rest → (line : Line) × CanStand set cores line × (line_text line ≡ text)
    by [] can w = absurd (cc (w))
    by (l ∷ ls) can w =
        let pair : numbered_text l ≡ (n, text) = cc (w) in
        (l, all_first (CanStand set cores) l ls can, ap (λ (p : ℕ × List ℕ). p.1) pair)
found set cores n (t ∷ before) text after lines act all e = by (has_act t) lines all e (λ ls can w. found set cores (n + 1) before text after ls act can w)
  where
    rest : List (ℕ × List ℕ)
    rest = filter (λ numbered. has_act numbered.1) (enumerate_from (n + 1) (before ++ text ∷ after))

    by : (b : Bool) (ls : List Line) → All (CanStand set cores) ls → map numbered_text ls ≡ cond b ((n, t) ∷ rest) rest
        → ((ms : List Line) → All (CanStand set cores) ms → map numbered_text ms ≡ rest → (line : Line) × CanStand set cores line × (line_text line ≡ text)) → (line : Line) × CanStand set cores line × (line_text line ≡ text)
    by false ls can w go = go ls can w
    by true [] can w go = absurd (cc (w))
    by true (l ∷ ls) can w go =
        let tails : map numbered_text ls ≡ rest = cc (w) in
        go ls (all_rest (CanStand set cores) l ls can) tails

uncut : (input : List ℕ) → length input ≤ 16777216 → is_cut input ≡ false
uncut input small = grind (arith, nat_tests)

pub fault_or_lines : FaultOrLines
fault_or_lines set cores input kind line column lines few f h = spelled_stays set cores few l.0.number f.text l.0 kind column (record { number_is = refl; text_is = l.2; can_stand = l.1 }) leaves
  where
    whole : is_cut input ≡ false
    whole = uncut input h.bytes_at_most

    texts : lines_of input ≡ f.before ++ f.text ∷ f.after
    texts = sym (ap (λ (b : Bool). cond b (parts_of 10 (take 16777216 input)) (lines_of input)) whole) ∙ f.lines

    short : length f.text ≤ 20000
    short = all_at (λ text. length text ≤ 20000) f.before f.text f.after (subst (λ (ts : List (List ℕ)). All (λ text. length text ≤ 20000) ts) texts h.line_at_most)

    count : line ≤ 65536
    count = omega (arith, f.line_is, h.lines_at_most, ap (λ (ts : List (List ℕ)). length ts) texts, length-append f.before (f.text ∷ f.after))

    none : past_limit line f.text (is_cut input && none_left f.after) ≡ None
    none = past_none line f.text (is_cut input && none_left f.after) count short (ap (λ (b : Bool). b && none_left f.after) whole)

    leaves : LeavesAt set cores f.text kind column
    leaves = subst (λ (first : Option ℕ). RefusedAt set cores f.text first kind column) none f.refused

    l : (found_line : Line) × CanStand set cores found_line × (line_text found_line ≡ f.text)
    l = found set cores 1 f.before f.text f.after lines leaves.has_act h.can_stand (h.texts ∙ ap (λ (ts : List (List ℕ)). filter (λ numbered. has_act numbered.1) (enumerate_from 1 ts)) texts)
