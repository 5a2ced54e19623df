-- The lines of an input, read one by one.
use Rattle.std.proofs.Common.{◌≡◌, ◌≢◌, ℕ, suc, ◌+◌, ◌≤◌, Bool, true, false, ◌==◌, ◌&&◌, not, cond, nat_lt, List, [], ◌∷◌, ◌++◌, length, map, filter, take, Option, Some, None, Bor, option_copied, refl, sym, ap, ◌∙◌, subst, arith, append-nil, append_assoc, length-append}
use Rattle.std.specs.List.{All, enumerate_from}
use Rattle.std.specs.Option.{is_some}
use Rattle.std.proofs.lemmas.Bool.Decides.{nat_tests}
use Rattle.std.proofs.lemmas.List.{map-append}
use Rattle.std.proofs.lemmas.List.Elements.{All-append, All-cons, All-nil}
use Rattle.zj_script.specs.declared.fault.ScriptFault.{ScriptFault}
use Rattle.zj_script.specs.declared.fault.ScriptFault.TheVariants as faults
use Rattle.zj_script.specs.declared.line.Line.{Line}
use Rattle.zj_script.specs.declared.verb.Acts.{Acts}
use Rattle.zj_script.specs.Parts.{parts_of, parts_of_any}
use Rattle.zj_script.specs.Script.{CanStand, EndsFront, IsAccepted, IsBehind, IsFault, IsFirstFault, IsInput, IsLine, LeavesAt, LineFault, RefusedAt, but_empty_last, has_act, is_cut, lines_of, lines_read, none_left, numbered_text, past_limit}
use Rattle.zj_script.proofs.Splitting.{some_part}

-- ---- the parts that are left

pub none_left_of : (rest : Option (Bor (List ℕ))) (none : Bool) → is_some rest ≡ not none → none ≡ none_left (parts_of_any 10 (option_copied rest))
none_left_of None true is = refl
none_left_of None false is = absurd (cc)
none_left_of (Some text) true is = absurd (cc)
none_left_of (Some text) false is = by (parts_of 10 text.now) (some_part 10 text.now)
  where
    by : (parts : List (List ℕ)) → parts ≢ [] → false ≡ none_left parts
    by [] some = absurd (some refl)
    by (part ∷ parts) some = refl

pub next_some : (cut : Bool) (line : List ℕ) (rest : List (List ℕ)) → (not cut && (length line == 0) && none_left rest) ≡ false
    → cond cut (line ∷ rest) (but_empty_last (line ∷ rest)) ≡ line ∷ cond cut rest (but_empty_last rest)
next_some true line rest e = refl
next_some false [] [] e = absurd (cc (e))
next_some false [] (next ∷ rest) e = refl
next_some false (b ∷ line) [] e = refl
next_some false (b ∷ line) (next ∷ rest) e = refl

pub next_none : (cut : Bool) (line : List ℕ) (rest : List (List ℕ)) → (not cut && (length line == 0) && none_left rest) ≡ true
    → cond cut (line ∷ rest) (but_empty_last (line ∷ rest)) ≡ []
next_none true line rest e = absurd (cc (e))
next_none false [] [] e = refl
next_none false [] (next ∷ rest) e = absurd (cc (e))
next_none false (b ∷ line) rest e = absurd (no_length (length line) e)
  where
    no_length : (n : ℕ) → ((suc n == 0) && none_left rest) ≡ true → ⊥
    no_length n f = grind (arith, nat_tests)

-- ---- the state behind some lines

-- Some lines were read, and none was refused.
pub record HasRead (set : Acts) (cores : ℕ) (input : List ℕ) (cut : Bool) (left : List (List ℕ)) (number : ℕ) (lines : List Line) : Type 0 where
  pub before : List (List ℕ)
  pub whole : lines_read input ≡ before ++ left
  pub cut_is : cut ≡ is_cut input
  pub some : cut ≡ true → left ≢ []
  pub number_is : number ≡ length before
  pub few : number ≤ 65536
  pub accepted : All (IsAccepted set cores) before
  pub numbered : map numbered_text lines ≡ filter (λ numbered. has_act numbered.1) (enumerate_from 1 before)
  pub can_stand : All (CanStand set cores) lines

pub none_read : (set : Acts) (cores : ℕ) (input : List ℕ) (cut : Bool) (left : List (List ℕ)) → left ≡ lines_read input → cut ≡ is_cut input → HasRead set cores input cut left 0 []
none_read set cores input cut left whole cut_is =
    record { before = []; whole = sym whole; cut_is = cut_is; some = λ is none. some (is_cut input) (sym cut_is ∙ is) (sym whole ∙ none); number_is = refl; few = omega arith; accepted = All-nil (IsAccepted set cores); numbered = refl; can_stand = All-nil (CanStand set cores) }
  where
    some : (is : Bool) → is ≡ true → cond is (parts_of 10 (take 16777216 input)) (lines_of input) ≡ [] → ⊥
    some true e none = some_part 10 (take 16777216 input) none
    some false e none = absurd (cc (e))

-- What a line within the limits tells.
record IsWithin (number : ℕ) (text : List ℕ) (cut : Bool) : Type 0 where
  pub few : number ≤ 65536
  pub short : length text ≤ 20000
  pub whole : cut ≡ false

within : (number : ℕ) (text : List ℕ) (cut : Bool) → past_limit number text cut ≡ None → IsWithin number text cut
within number text cut none = by (nat_lt 65536 number) (nat_lt 20000 (length text)) cut refl refl refl none
  where
    by : (a b d : Bool) → nat_lt 65536 number ≡ a → nat_lt 20000 (length text) ≡ b → cut ≡ d → cond a (Some 1) (cond b (Some (20000 + 1)) (cond d (Some (length text + 1)) None)) ≡ None → IsWithin number text cut
    by false false false p q r e = record { few = grind (arith, nat_tests); short = grind (arith, nat_tests); whole = r }
    by false false true p q r e = absurd (cc (e))
    by false true d p q r e = absurd (cc (e))
    by true b d p q r e = absurd (cc (e))

goes_on : (input : List ℕ) (before : List (List ℕ)) (text : List ℕ) (old new : List (List ℕ)) → lines_read input ≡ before ++ old → old ≡ text ∷ new → lines_read input ≡ before ++ text ∷ new
goes_on input before text old new whole next = whole ∙ ap (λ (left : List (List ℕ)). before ++ left) next

not_last : (cut : Bool) (new : List (List ℕ)) → (cut && none_left new) ≡ false → cut ≡ true → new ≢ []
not_last true [] e is none = absurd (cc (e))
not_last true (text ∷ new) e is none = absurd (cc (none))
not_last false new e is none = absurd (cc (is))

enumerate_from-push : {X : Type 0} → (n : ℕ) (xs : List X) (x : X) → enumerate_from n (xs ++ x ∷ []) ≡ enumerate_from n xs ++ (n + length xs, x) ∷ []
enumerate_from-push n [] x = ap (λ (k : ℕ). (k, x) ∷ []) (omega arith)
enumerate_from-push n (y ∷ xs) x = ap (λ rest. (n, y) ∷ rest) (enumerate_from-push (n + 1) xs x ∙ ap (λ (k : ℕ). enumerate_from (n + 1) xs ++ (k, x) ∷ []) (omega arith))

filter-append : {X : Type 0} (p : X → Bool) → (xs ys : List X) → filter p (xs ++ ys) ≡ filter p xs ++ filter p ys
filter-append p [] ys = refl
filter-append p (x ∷ xs) ys = by (p x) (filter-append p xs ys)
  where
    by : (b : Bool) → filter p (xs ++ ys) ≡ filter p xs ++ filter p ys → cond b (x ∷ filter p (xs ++ ys)) (filter p (xs ++ ys)) ≡ cond b (x ∷ filter p xs) (filter p xs) ++ filter p ys
    by true rest = ap (λ zs. x ∷ zs) rest
    by false rest = rest

-- the numbered texts with an act, of one more line
one_more : (before : List (List ℕ)) (text : List ℕ) → filter (λ numbered. has_act numbered.1) (enumerate_from 1 (before ++ text ∷ []))
    ≡ filter (λ numbered. has_act numbered.1) (enumerate_from 1 before) ++ cond (has_act text) ((1 + length before, text) ∷ []) []
one_more before text =
    ap (λ (xs : List (ℕ × List ℕ)). filter (λ numbered. has_act numbered.1) xs) (enumerate_from-push 1 before text) ∙ filter-append (λ (numbered : ℕ × List ℕ). has_act numbered.1) (enumerate_from 1 before) ((1 + length before, text) ∷ [])

add_accepted : (set : Acts) (cores : ℕ) (before : List (List ℕ)) (text : List ℕ) → All (IsAccepted set cores) before → IsAccepted set cores text → All (IsAccepted set cores) (before ++ text ∷ [])
add_accepted set cores before text all one = All-append (IsAccepted set cores) before (text ∷ []) all (All-cons (IsAccepted set cores) text [] one (All-nil (IsAccepted set cores)))

-- a line without an act was read
pub read_none : (set : Acts) (cores : ℕ) (input : List ℕ) (cut : Bool) (old new : List (List ℕ)) (number : ℕ) (lines : List Line) (text : List ℕ) → HasRead set cores input cut old number lines → old ≡ text ∷ new
    → past_limit (number + 1) text (cut && none_left new) ≡ None → has_act text ≡ false → HasRead set cores input cut new (number + 1) lines
read_none set cores input cut old new number lines text h next limits none =
    let w = within (number + 1) text (cut && none_left new) limits in
    record {
      before = h.before ++ text ∷ [];
      whole = goes_on input h.before text old new h.whole next ∙ sym (append_assoc h.before (text ∷ []) new);
      cut_is = h.cut_is;
      some = not_last cut new w.whole;
      number_is = omega (arith, length-append h.before (text ∷ []), h.number_is);
      few = w.few;
      accepted = add_accepted set cores h.before text h.accepted (record { short = w.short; spelled = λ is. absurd (cc (is, none)) });
      numbered = h.numbered ∙ sym (append-nil _) ∙ ap (λ (b : Bool). filter (λ numbered. has_act numbered.1) (enumerate_from 1 h.before) ++ cond b ((1 + length h.before, text) ∷ []) []) (sym none) ∙ sym (one_more h.before text);
      can_stand = h.can_stand;
    }

-- a line with an act was read
pub read_one : (set : Acts) (cores : ℕ) (input : List ℕ) (cut : Bool) (old new : List (List ℕ)) (number : ℕ) (lines : List Line) (text : List ℕ) (line : Line) → HasRead set cores input cut old number lines → old ≡ text ∷ new
    → past_limit (number + 1) text (cut && none_left new) ≡ None → has_act text ≡ true → IsLine set cores (number + 1) text line → HasRead set cores input cut new (number + 1) (lines ++ line ∷ [])
read_one set cores input cut old new number lines text line h next limits act is =
    let w = within (number + 1) text (cut && none_left new) limits in
    record {
      before = h.before ++ text ∷ [];
      whole = goes_on input h.before text old new h.whole next ∙ sym (append_assoc h.before (text ∷ []) new);
      cut_is = h.cut_is;
      some = not_last cut new w.whole;
      number_is = omega (arith, length-append h.before (text ∷ []), h.number_is);
      few = w.few;
      accepted = add_accepted set cores h.before text h.accepted (record { short = w.short; spelled = λ _ n. (record { number = n; core = line.core; act = line.act }, record { number_is = refl; text_is = is.text_is; can_stand = record { core = is.can_stand.core; act = is.can_stand.act } }) });
      numbered = map-append numbered_text lines (line ∷ []) ∙ ap (λ (xs : List (ℕ × List ℕ)). xs ++ numbered_text line ∷ []) h.numbered
          ∙ ap (λ (pair : ℕ × List ℕ). filter (λ numbered. has_act numbered.1) (enumerate_from 1 h.before) ++ pair ∷ []) pair_is
          ∙ ap (λ (b : Bool). filter (λ numbered. has_act numbered.1) (enumerate_from 1 h.before) ++ cond b ((1 + length h.before, text) ∷ []) []) (sym act) ∙ sym (one_more h.before text);
      can_stand = All-append (CanStand set cores) lines (line ∷ []) h.can_stand (All-cons (CanStand set cores) line [] is.can_stand (All-nil (CanStand set cores)));
    }
  where
    count : line.number ≡ 1 + length h.before
    count = omega (arith, is.number_is, h.number_is)

    pair_is : numbered_text line ≡ (1 + length h.before, text)
    pair_is = λ i. (count i, is.text_is i)

accepted_short : (set : Acts) (cores : ℕ) (texts : List (List ℕ)) → All (IsAccepted set cores) texts → All (λ text. length text ≤ 20000) texts
accepted_short set cores texts all k d below = (all k d below).short

-- all lines were read
pub all_read : (set : Acts) (cores : ℕ) (input : List ℕ) (cut : Bool) (left : List (List ℕ)) (number : ℕ) (lines : List Line) → HasRead set cores input cut left number lines → left ≡ [] → IsInput set cores input lines
all_read set cores input cut left number lines h none = by (is_cut input) refl
  where
    texts : lines_read input ≡ h.before
    texts = h.whole ∙ ap (λ (ws : List (List ℕ)). h.before ++ ws) none ∙ append-nil h.before

    by : (is : Bool) → is_cut input ≡ is → IsInput set cores input lines
    by true e = absurd (h.some (h.cut_is ∙ e) none)
    by false e =
        let all : lines_of input ≡ h.before = ap (λ (b : Bool). cond b (parts_of 10 (take 16777216 input)) (lines_of input)) (sym e) ∙ texts in
        record {
          bytes_at_most = grind (arith, nat_tests);
          lines_at_most = omega (arith, ap (λ (ts : List (List ℕ)). length ts) all, h.number_is, h.few);
          line_at_most = subst (λ (ts : List (List ℕ)). All (λ text. length text ≤ 20000) ts) (sym all) (accepted_short set cores h.before h.accepted);
          texts = h.numbered ∙ ap (λ (ts : List (List ℕ)). filter (λ numbered. has_act numbered.1) (enumerate_from 1 ts)) (sym all);
          can_stand = h.can_stand;
        }

first_fault : (set : Acts) (cores : ℕ) (input : List ℕ) (cut : Bool) (old new : List (List ℕ)) (number : ℕ) (lines : List Line) (text : List ℕ) (kind column : ℕ) → HasRead set cores input cut old number lines → old ≡ text ∷ new
    → RefusedAt set cores text (past_limit (number + 1) text (cut && none_left new)) kind column → IsFirstFault set cores input kind (number + 1) column
first_fault set cores input cut old new number lines text kind column h next refused =
    record {
      before = h.before;
      text = text;
      after = new;
      lines = goes_on input h.before text old new h.whole next;
      line_is = ap (λ (n : ℕ). n + 1) h.number_is;
      few = omega (arith, h.few, h.number_is);
      accepted = h.accepted;
      refused = subst (λ (b : Bool). RefusedAt set cores text (past_limit (number + 1) text (b && none_left new)) kind column) h.cut_is refused;
    }

-- a line is past a limit
pub refused_limit : (set : Acts) (cores : ℕ) (input : List ℕ) (cut : Bool) (old new : List (List ℕ)) (number : ℕ) (lines : List Line) (text : List ℕ) (column : ℕ) → HasRead set cores input cut old number lines → old ≡ text ∷ new
    → past_limit (number + 1) text (cut && none_left new) ≡ Some column → IsFirstFault set cores input 6 (number + 1) column
refused_limit set cores input cut old new number lines text column h next past =
    first_fault set cores input cut old new number lines text 6 column h next (subst (λ (first : Option ℕ). RefusedAt set cores text first 6 column) (sym past) (refl, refl))

-- a line leaves the grammar
pub refused_words : (set : Acts) (cores : ℕ) (input : List ℕ) (cut : Bool) (old new : List (List ℕ)) (number : ℕ) (lines : List Line) (text : List ℕ) (kind column : ℕ) → HasRead set cores input cut old number lines → old ≡ text ∷ new
    → past_limit (number + 1) text (cut && none_left new) ≡ None → LeavesAt set cores text kind column → IsFirstFault set cores input kind (number + 1) column
refused_words set cores input cut old new number lines text kind column h next past leaves =
    first_fault set cores input cut old new number lines text kind column h next (subst (λ (first : Option ℕ). RefusedAt set cores text first kind column) (sym past) leaves)

-- a fault of the limits is the input's
pub fault_limit : (set : Acts) (cores : ℕ) (input : List ℕ) (cut : Bool) (old new : List (List ℕ)) (number : ℕ) (lines : List Line) (text : List ℕ) (fault : ScriptFault) → HasRead set cores input cut old number lines → old ≡ text ∷ new
    → (column : ℕ) × (past_limit (number + 1) text (cut && none_left new) ≡ Some column) × (fault ≡ faults.Refused 6 (number + 1) column) → IsFault set cores input fault
fault_limit set cores input cut old new number lines text fault h next past =
    subst (IsFault set cores input) (sym past.2) (refused_limit set cores input cut old new number lines text past.0 h next past.1)

-- a fault of a line's words is the input's
pub fault_words : (set : Acts) (cores : ℕ) (input : List ℕ) (cut : Bool) (old new : List (List ℕ)) (number : ℕ) (lines : List Line) (text : List ℕ) (fault : ScriptFault) → HasRead set cores input cut old number lines → old ≡ text ∷ new
    → past_limit (number + 1) text (cut && none_left new) ≡ None → LineFault set cores (number + 1) text fault → IsFault set cores input fault
fault_words set cores input cut old new number lines text (faults.Refused kind line column) h next past leaves =
    subst (λ (n : ℕ). IsFirstFault set cores input kind n column) (sym leaves.0) (refused_words set cores input cut old new number lines text kind column h next past leaves.1)
fault_words set cores input cut old new number lines text faults.NoMemory h next past leaves = tt

-- ---- the lines up to the one that is refused

pub ends_front : (set : Acts) (cores : ℕ) (input : List ℕ) (cut : Bool) (left : List (List ℕ)) (number : ℕ) (lines : List Line) (fault : Option ScriptFault) → HasRead set cores input cut left number lines → IsBehind number fault
    → EndsFront set cores input lines fault
ends_front set cores input cut left number lines fault h behind =
    record {
      front = h.before;
      is_front = record {
        after = left;
        whole = h.whole;
        few = omega (arith, h.few, h.number_is);
        uncut = uncut (is_cut input) left (λ is. h.some (h.cut_is ∙ is));
        accepted = h.accepted;
        texts = h.numbered;
        can_stand = h.can_stand;
      };
      behind = subst (λ (count : ℕ). IsBehind count fault) h.number_is behind;
    }
  where
    uncut : (cut : Bool) (left : List (List ℕ)) → (cut ≡ true → left ≢ []) → (cut && none_left left) ≡ false
    uncut false left some = refl
    uncut true [] some = absurd (some refl refl)
    uncut true (text ∷ left) some = refl

-- behind all lines
pub front_whole : (set : Acts) (cores : ℕ) (input : List ℕ) (cut : Bool) (left : List (List ℕ)) (number : ℕ) (lines : List Line) → HasRead set cores input cut left number lines → EndsFront set cores input lines None
front_whole set cores input cut left number lines h = ends_front set cores input cut left number lines None h tt

-- before a line that is past a limit
pub front_limit : (set : Acts) (cores : ℕ) (input : List ℕ) (cut : Bool) (left : List (List ℕ)) (number : ℕ) (lines : List Line) (first : Option ℕ) (fault : ScriptFault) → HasRead set cores input cut left number lines
    → (column : ℕ) × (first ≡ Some column) × (fault ≡ faults.Refused 6 (number + 1) column) → EndsFront set cores input lines (Some fault)
front_limit set cores input cut left number lines first fault h past =
    ends_front set cores input cut left number lines (Some fault) h (subst (λ (f : ScriptFault). IsBehind number (Some f)) (sym past.2) refl)

-- before a line that leaves the grammar
pub front_words : (set : Acts) (cores : ℕ) (input : List ℕ) (cut : Bool) (left : List (List ℕ)) (number : ℕ) (lines : List Line) (text : List ℕ) (fault : ScriptFault) → HasRead set cores input cut left number lines
    → LineFault set cores (number + 1) text fault → EndsFront set cores input lines (Some fault)
front_words set cores input cut left number lines text fault h leaves = ends_front set cores input cut left number lines (Some fault) h (by fault leaves)
  where
    by : (fault : ScriptFault) → LineFault set cores (number + 1) text fault → IsBehind number (Some fault)
    by (faults.Refused kind line column) leaves = leaves.0
    by faults.NoMemory leaves = tt

-- where memory ran out
pub front_memory : (set : Acts) (cores : ℕ) (input : List ℕ) (cut : Bool) (left : List (List ℕ)) (number : ℕ) (lines : List Line) (fault : ScriptFault) → HasRead set cores input cut left number lines → fault ≡ faults.NoMemory
    → EndsFront set cores input lines (Some fault)
front_memory set cores input cut left number lines fault h is = ends_front set cores input cut left number lines (Some fault) h (subst (λ (f : ScriptFault). IsBehind number (Some f)) (sym is) tt)
