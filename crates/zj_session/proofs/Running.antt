-- Lines that fit a history: the calls that were made, by their tickets, are the plain service's run.
use Rattle.std.proofs.Common.{◌≡◌, ◌⊎◌, inl, inr, ℕ, zero, suc, ◌+◌, ◌<◌, ◌≤◌, Bool, true, false, true≢false, cond, List, [], ◌∷◌, ◌++◌, length, filter, take, Option, Some, None, IsSomeAnd, slice_get, refl, sym, ap, ◌∙◌, subst, arith}
use Rattle.std.proofs.lemmas.Bool.{cases_eq}
use Rattle.std.proofs.lemmas.List.{length-append, take_all}
use Rattle.std.proofs.lemmas.List.Elements.{filter-append}
use Rattle.std.proofs.lemmas.Option.{slice_get_within}
use Rattle.zj_block.specs.Sizes.{Numbers}
use Rattle.zj_history.specs.Operation.{Operation}
use Rattle.zj_history.specs.State.{BlockState, after}
use Rattle.zj_tree.specs.declared.call.Call.{Call}
use Rattle.zj_tree.specs.declared.call.Reply.{Reply}
use Rattle.zj_layout.proofs.Follow.{none_some, some_is}
use Rattle.zj_inode.specs.Laws.{HistoryIsRun}
use Rattle.zj_inode.specs.Performs.{Performs}
use Rattle.zj_inode.specs.Run.{IsServed, contents_found}
use Rattle.zj_script.specs.declared.line.Line.{Line}
use Rattle.zj_script.specs.declared.answer.Form.{Form}
use Rattle.zj_script.specs.declared.answer.Form.TheVariants as forms
use Rattle.zj_session.specs.Laws.{FitIsRun}
use Rattle.zj_session.specs.Played.{Fit, IsDrawn, IsRight, Played, Says, call_made, handle_after, has_ticket, tickets_in}
use Rattle.zj_session.proofs.Lists.{at_end, at_seam}

-- ---- lists and forms

pub front_more : {X : Type 0} (xs : List X) (n : ℕ) (x : X) → slice_get xs n ≡ Some x → take (suc n) xs ≡ take n xs ++ x ∷ []
front_more [] n x at = absurd (none_some at)
front_more (y ∷ xs) zero x at = ap (λ z. z ∷ []) (some_is at)
front_more (y ∷ xs) (suc n) x at = ap (λ (zs : List _). y ∷ zs) (front_more xs n x at)

front_same : {X : Type 0} (xs ys : List X) (i : ℕ) → i < length xs → slice_get (xs ++ ys) i ≡ slice_get xs i
front_same [] ys i low = absurd (omega arith)
front_same (x ∷ xs) ys zero low = refl
front_same (x ∷ xs) ys (suc i) low = front_same xs ys i (omega arith)

element : {X : Type 0} (xs : List X) (n : ℕ) → n < length xs → (x : X) × (slice_get xs n ≡ Some x)
element [] n low = absurd (omega arith)
element (x ∷ xs) zero low = (x, refl)
element (x ∷ xs) (suc n) low = element xs n (omega arith)

-- the ticket and the reply of an answer, and others where it has none
abbrev ticket_in : Form → ℕ
ticket_in (forms.Drew ticket reply) = ticket
ticket_in form = 0

abbrev reply_in : Reply → Form → Reply
reply_in other (forms.Drew ticket reply) = reply
reply_in other form = other

-- an answer that has a ticket, or has none
drew_or : (form : Form) → ((ticket : ℕ) × (reply : Reply) × (form ≡ forms.Drew ticket reply)) ⊎ (has_ticket form ≡ false)
drew_or (forms.Drew ticket reply) = inl (ticket, reply, refl)
drew_or (forms.Synced ticket sync) = inr refl
drew_or forms.Begun = inr refl
drew_or (forms.Took block) = inr refl
drew_or (forms.Saw block) = inr refl
drew_or forms.Ready = inr refl
drew_or forms.Dropped = inr refl
drew_or (forms.Committed number) = inr refl
drew_or forms.Empty = inr refl
drew_or (forms.Sync sync) = inr refl
drew_or forms.Open = inr refl
drew_or forms.Checkpointed = inr refl
drew_or (forms.Damaged device) = inr refl
drew_or (forms.Busy block holder) = inr refl
drew_or (forms.TxFull have more) = inr refl
drew_or (forms.Full need free) = inr refl
drew_or (forms.Again block noted found) = inr refl
drew_or forms.Order = inr refl

abbrev pair : Line → Form → Played
pair line form = (line, form)

tickets_with : (front : List Played) (p : Played) → tickets_in (front ++ p ∷ []) ≡ tickets_in front + cond (has_ticket p.1) 1 0
tickets_with front p = ap (length {A = Played}) (filter-append (λ (q : Played). has_ticket q.1) front (p ∷ [])) ∙ length-append (filter (λ (q : Played). has_ticket q.1) front) (cond (has_ticket p.1) (p ∷ []) []) ∙ ap (λ n. tickets_in front + n) (by (has_ticket p.1))
  where
    by : (t : Bool) → length (cond t (p ∷ []) []) ≡ cond t 1 0
    by true = refl
    by false = refl

-- ---- the calls and replies of the first lines

module _ (sizes : Numbers) (start : BlockState) (played : List Played) (history : List Operation) (fit : Fit sizes start [] played history) where
  abbrev Made : List Call → List Reply → ℕ → Line → ℕ → ℕ → Reply → Type 0
  Made calls replies k line core ticket reply = (slice_get calls ticket ≡ call_made line.act (handle_after (take k played) core)) × (slice_get replies ticket ≡ Some reply)

  record RunsTo (n : ℕ) : Type 0 where
    pub calls : List Call
    pub replies : List Reply
    pub called : length calls ≡ tickets_in (take n played)
    pub replied : length replies ≡ tickets_in (take n played)
    pub each : (k core ticket : ℕ) (line : Line) (reply : Reply) → k < n → slice_get played k ≡ Some (line, forms.Drew ticket reply) → line.core ≡ Some core → Made calls replies k line core ticket reply
    pub serves : (i : ℕ) (o : Operation) (call : Call) (reply : Reply) → slice_get history i ≡ Some o → slice_get calls i ≡ Some call → slice_get replies i ≡ Some reply → Performs sizes (contents_found o) o.written call reply

  runs_none : RunsTo 0
  runs_none = record {
    calls = [];
    replies = [];
    called = refl;
    replied = refl;
    each = λ k core ticket line reply low. absurd (omega arith);
    serves = λ i o call reply at none. absurd (none_some none);
  }

  module _ (n : ℕ) (line : Line) (form : Form) (at : slice_get played n ≡ Some (line, form)) (r : RunsTo n) where
    tickets_now : tickets_in (take (suc n) played) ≡ tickets_in (take n played) + cond (has_ticket form) 1 0
    tickets_now = ap tickets_in (front_more played n (line, form) at) ∙ tickets_with (take n played) (line, form)

    -- an answer without a ticket
    runs_on : has_ticket form ≡ false → RunsTo (suc n)
    runs_on none = record {
      calls = r.calls;
      replies = r.replies;
      called = r.called ∙ same;
      replied = r.replied ∙ same;
      each = λ k core ticket line' reply low there on. elim (cases_eq k n) [
        | inl is ↦ absurd (true≢false (sym (ap (λ (p : Played). has_ticket p.1) (some_is (sym at ∙ ap (slice_get played) (sym is) ∙ there))) ∙ none))
        | inr other ↦ r.each k core ticket line' reply (omega arith) there on
      ];
      serves = r.serves;
    }
      where
        same : tickets_in (take n played) ≡ tickets_in (take (suc n) played)
        same = let now = tickets_now ∙ ap (λ t. tickets_in (take n played) + cond t 1 0) none in omega (arith, now)

    -- and one with a ticket
    module _ (core ticket : ℕ) (reply : Reply) (drew : form ≡ forms.Drew ticket reply) (on : line.core ≡ Some core) (d : IsDrawn sizes history (length {A = Operation} [] + tickets_in (take n played)) core (handle_after (take n played) core) line.act ticket reply) where
      abbrev calls_now : List Call
      calls_now = r.calls ++ d.call ∷ []

      abbrev replies_now : List Reply
      replies_now = r.replies ++ reply ∷ []

      one_more : tickets_in (take (suc n) played) ≡ tickets_in (take n played) + 1
      one_more = tickets_now ∙ ap (λ f. tickets_in (take n played) + cond (has_ticket f) 1 0) drew

      place : ticket ≡ tickets_in (take n played)
      place = let is = d.ticket_is in omega (arith, is)

      earlier : (k core' ticket' : ℕ) (line' : Line) (reply' : Reply) → Made r.calls r.replies k line' core' ticket' reply' → Made calls_now replies_now k line' core' ticket' reply'
      earlier k core' ticket' line' reply' made =
          let low : ticket' < length r.replies = slice_get_within r.replies ticket' reply' made.1 in
          (front_same r.calls (d.call ∷ []) ticket' (let a = r.called in let b = r.replied in omega arith) ∙ made.0, front_same r.replies (reply ∷ []) ticket' low ∙ made.1)

      this : Made calls_now replies_now n line core ticket reply
      this = (
        ap (slice_get calls_now) (place ∙ sym r.called) ∙ at_seam r.calls d.call ∙ sym d.call_is,
        ap (slice_get replies_now) (place ∙ sym r.replied) ∙ at_seam r.replies reply,
      )

      this_one : (k core' ticket' : ℕ) (line' : Line) (reply' : Reply) → k ≡ n → slice_get played k ≡ Some (line', forms.Drew ticket' reply') → line'.core ≡ Some core' → Made calls_now replies_now k line' core' ticket' reply'
      this_one k core' ticket' line' reply' is there on' =
          let same : pair line (forms.Drew ticket reply) ≡ pair line' (forms.Drew ticket' reply') = ap (pair line) (sym drew) ∙ some_is (sym at ∙ ap (slice_get played) (sym is) ∙ there) in
          let lines : line ≡ line' = ap (λ (p : Played). p.0) same in
          let tickets : ticket ≡ ticket' = ap (λ (p : Played). ticket_in p.1) same in
          let answers : reply ≡ reply' = ap (λ (p : Played). reply_in reply p.1) same in
          let cores : core ≡ core' = some_is (sym on ∙ ap (λ (l : Line). l.core) lines ∙ on') in
          subst (λ (x : ℕ × Line × ℕ × ℕ × Reply). Made calls_now replies_now x.0 x.1 x.2 x.3 x.4) (λ i. (sym is i, lines i, cores i, tickets i, answers i)) this

      served_now : (i : ℕ) (o : Operation) (call : Call) (reply' : Reply) → slice_get history i ≡ Some o → slice_get calls_now i ≡ Some call → slice_get replies_now i ≡ Some reply' → Performs sizes (contents_found o) o.written call reply'
      served_now i o call reply' there called replied =
          let a = r.called in
          let b = r.replied in
          by (at_end r.calls d.call i call called) (at_end r.replies reply i reply' replied)
        where
          by : ((i < length r.calls) × (slice_get r.calls i ≡ Some call)) ⊎ ((i ≡ length r.calls) × (d.call ≡ call)) → ((i < length r.replies) × (slice_get r.replies i ≡ Some reply')) ⊎ ((i ≡ length r.replies) × (reply ≡ reply')) → Performs sizes (contents_found o) o.written call reply'
          by (inl c) (inl s) = r.serves i o call reply' there c.1 s.1
          by (inl c) (inr s) = absurd (let low = c.0 in let high = s.0 in let a = r.called in let b = r.replied in omega arith)
          by (inr c) (inl s) = absurd (let low = s.0 in let high = c.0 in let a = r.called in let b = r.replied in omega arith)
          by (inr c) (inr s) =
              let here : d.operation ≡ o = some_is (sym d.at_place ∙ ap (slice_get history) (place ∙ sym r.called ∙ sym c.0) ∙ there) in
              subst (λ (x : Operation × Call × Reply). Performs sizes (contents_found x.0) x.0.written x.1 x.2) (λ j. (here j, c.1 j, s.1 j)) d.performs

      runs_more : RunsTo (suc n)
      runs_more = record {
        calls = calls_now;
        replies = replies_now;
        called = length-append r.calls (d.call ∷ []) ∙ ap (λ m. m + 1) r.called ∙ sym one_more;
        replied = length-append r.replies (reply ∷ []) ∙ ap (λ m. m + 1) r.replied ∙ sym one_more;
        each = λ k core' ticket' line' reply' low there on'. elim (cases_eq k n) [
          | inl is ↦ this_one k core' ticket' line' reply' is there on'
          | inr other ↦ earlier k core' ticket' line' reply' (r.each k core' ticket' line' reply' (omega arith) there on')
        ];
        serves = served_now;
      }

  -- the answer behind so many lines is right
  abbrev RightBehind : ℕ → Line → Form → ℕ → Type 0
  RightBehind n line form core = IsRight sizes (after start (take (length {A = Operation} [] + tickets_in (take n played)) history)) history (length {A = Operation} [] + tickets_in (take n played)) (handle_after (take n played)) core line.act form

  runs_to : (n : ℕ) → n ≤ length played → RunsTo n
  runs_to zero low = runs_none
  runs_to (suc n) low = let p = element played n (omega arith) in with_core (runs_to n (omega arith)) p.0.0 p.0.1 p.0.0.core refl (fit.each n p.0 p.1) p.1
    where
      with_form : RunsTo n → (line : Line) (form : Form) (core : ℕ) → slice_get played n ≡ Some (line, form) → line.core ≡ Some core → RightBehind n line form core → RunsTo (suc n)
      with_form r line form core at on right = elim (drew_or form) [
        | inl drew ↦ runs_more n line form at r core drew.0 drew.1 drew.2 on
            (subst (λ f. Says sizes (after start (take (length {A = Operation} [] + tickets_in (take n played)) history)) history (length {A = Operation} [] + tickets_in (take n played)) (handle_after (take n played)) core line.act f) drew.2 right.says)
        | inr none ↦ runs_on n line form at r none
      ]

      with_core : RunsTo n → (line : Line) (form : Form) (c : Option ℕ) → line.core ≡ c → IsSomeAnd c (RightBehind n line form) → slice_get played n ≡ Some (line, form) → RunsTo (suc n)
      with_core r line form None is right at = absurd right
      with_core r line form (Some core) is right at = with_form r line form core at is right

pub fit_is_run : HistoryIsRun → FitIsRun
fit_is_run law sizes start tree played history shows fit =
    let r = runs_to sizes start played history fit (length played) (omega arith) in
    let whole : take (length played) played ≡ played = take_all (length played) played (omega arith) in
    let many = r.called ∙ ap tickets_in whole in
    let answered = r.replied ∙ ap tickets_in whole in
    let tickets = fit.tickets in
    let served : IsServed sizes history r.calls r.replies = record { all_called = omega (arith, many, tickets); all_replied = omega (arith, answered, tickets); each = λ k o call reply. r.serves k o call reply } in (
      record {
        calls = r.calls;
        replies = r.replies;
        many = many;
        each = λ k core ticket line reply at on. r.each k core ticket line reply (slice_get_within played k (line, forms.Drew ticket reply) at) at on;
        run = (law sizes start tree history r.calls r.replies shows fit.legal served).0;
      },
      served,
    )
