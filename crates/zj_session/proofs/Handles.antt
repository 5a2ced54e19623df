-- The handles that lines and their answers tell, and lines that fit a history with one line more.
use Rattle.std.proofs.Common.{◌≡◌, ◌≢◌, ⊎_elim, ℕ, ◌+◌, ◌<◌, ◌≤◌, Bool, true, false, cond, List, [], ◌∷◌, ◌++◌, length, filter, fold, take, Option, Some, None, IsSomeAnd, slice_get, append-nil, eq-eqb, ne_eqb, refl, sym, ap, ◌∙◌, subst, arith}
use Rattle.std.proofs.lemmas.List.{length-append, take-append-le, take_all}
use Rattle.std.proofs.lemmas.List.Elements.{filter-append}
use Rattle.std.proofs.lemmas.List.Sums.{fold-append}
use Rattle.std.proofs.Math.Seq.{take-append_seam}
use Rattle.zj_block.specs.Sizes.{Numbers}
use Rattle.zj_history.specs.Legal.{IsLegal}
use Rattle.zj_history.specs.Operation.{Operation}
use Rattle.zj_history.specs.State.{BlockState, after}
use Rattle.zj_layout.proofs.Follow.{none_some}
use Rattle.zj_script.specs.declared.line.Act.{Act}
use Rattle.zj_script.specs.declared.line.Line.{Line}
use Rattle.zj_script.specs.declared.answer.Form.{Form}
use Rattle.zj_script.specs.declared.answer.Form.TheVariants as forms
use Rattle.zj_session.specs.Laws.{FitsFurther}
use Rattle.zj_session.specs.Played.{Fit, IsRight, OpenHandle, Played, Says, handle_after, handle_behind, has_ticket, is_on, tickets_in}
use Rattle.zj_session.proofs.Lists.{at_end, fewer, kept_front}

-- ---- the handle behind one line more

abbrev step_of : Option OpenHandle → Played → Option OpenHandle
step_of handle p = handle_behind handle p.0.act p.1

handle_more : (played : List Played) (line : Line) (form : Form) (i : ℕ) → handle_after (played ++ (line, form) ∷ []) i ≡ cond (is_on i line.core) (handle_behind (handle_after played i) line.act form) (handle_after played i)
handle_more played line form i = ap (fold step_of None) (filter-append (λ (p : Played). is_on i p.0.core) played ((line, form) ∷ [])) ∙ by (is_on i line.core)
  where
    by : (t : Bool) → fold step_of None (filter (λ (p : Played). is_on i p.0.core) played ++ cond t ((line, form) ∷ []) []) ≡ cond t (handle_behind (handle_after played i) line.act form) (handle_after played i)
    by true = fold-append step_of None (filter (λ (p : Played). is_on i p.0.core) played) ((line, form) ∷ [])
    by false = ap (fold step_of None) (append-nil (filter (λ (p : Played). is_on i p.0.core) played))

module _ (played : List Played) (line : Line) (form : Form) (at : ℕ) (on : line.core ≡ Some at) where
  pub handle_here : handle_after (played ++ (line, form) ∷ []) at ≡ handle_behind (handle_after played at) line.act form
  handle_here = handle_more played line form at ∙ ap (λ t. cond t (handle_behind (handle_after played at) line.act form) (handle_after played at)) (ap (is_on at) on ∙ eq-eqb at at refl)

  pub handle_else : (i : ℕ) → i ≢ at → handle_after (played ++ (line, form) ∷ []) i ≡ handle_after played i
  handle_else i apart = handle_more played line form i ∙ ap (λ t. cond t (handle_behind (handle_after played i) line.act form) (handle_after played i)) (ap (is_on i) on ∙ ne_eqb at i (λ same. apart (sym same)))

-- ---- lines that fit

-- what an answer says holds further in a longer history
says_more : (sizes : Numbers) (state : BlockState) (history more : List Operation) (next : ℕ) (handles : ℕ → Option OpenHandle) (core : ℕ) (act : Act) (form : Form) → Says sizes state history next handles core act form → Says sizes state (history ++ more) next handles core act form
says_more sizes state history more next handles core act (forms.Drew ticket reply) s = record {
  operation = s.operation;
  call = s.call;
  at_place = kept_front history more ticket s.operation s.at_place;
  ticket_is = s.ticket_is;
  core_is = s.core_is;
  call_is = s.call_is;
  performs = s.performs;
  root = s.root;
  taken = s.taken;
  foot = s.foot;
}
says_more sizes state history more next handles core act form s = s

-- what is so of a value is so in another way
and_so : {X : Type 0} (P Q : X → Type 0) (o : Option X) → ((x : X) → P x → Q x) → IsSomeAnd o P → IsSomeAnd o Q
and_so P Q None step holds = absurd holds
and_so P Q (Some x) step holds = step x holds

-- no line fits the history that was before
pub fits_none : (sizes : Numbers) (start : BlockState) (before : List Operation) → IsLegal start before → Fit sizes start before [] before
fits_none sizes start before legal = record {
  legal = legal;
  goes_on = take_all (length before) before (omega arith);
  tickets = omega arith;
  each = λ k p at. absurd (none_some at);
}

module _ (sizes : Numbers) (start : BlockState) (before : List Operation) (played : List Played) (history more : List Operation) (line : Line) (form : Form) (fit : Fit sizes start before played history) where
  -- the history behind some lines
  abbrev so_far : List Played → ℕ
  so_far front = length before + tickets_in front

  -- an answer that is right behind some lines, after the operations known
  abbrev RightBehind : List Played → List Operation → List Operation → ℕ → Act → Form → Type 0
  RightBehind front known whole core act form = IsRight sizes (after start known) whole (so_far front) (handle_after front) core act form

  abbrev all_played : List Played
  all_played = played ++ (line, form) ∷ []

  abbrev all_done : List Operation
  all_done = history ++ more

  right_more : (front : List Played) (known : List Operation) (core : ℕ) (act : Act) (form : Form) → RightBehind front known history core act form → RightBehind front known all_done core act form
  right_more front known core act form r = record {
    says = says_more sizes (after start known) history more (so_far front) (handle_after front) core act form r.says;
    order = r.order;
    busy = r.busy;
  }

  -- the answer at a place is right
  abbrev RightThere : ℕ → Played → Type 0
  RightThere k p = IsSomeAnd p.0.core (λ core. RightBehind (take k all_played) (take (so_far (take k all_played)) all_done) all_done core p.0.act p.1)

  -- the lines so far
  earlier : (k : ℕ) (p : Played) → k < length played → slice_get played k ≡ Some p → RightThere k p
  earlier k p low at = and_so
      (λ core. RightBehind (take k played) (take (so_far (take k played)) history) history core p.0.act p.1)
      (λ core. RightBehind (take k all_played) (take (so_far (take k all_played)) all_done) all_done core p.0.act p.1)
      p.0.core further (fit.each k p at)
    where
      few : so_far (take k played) ≤ length history
      few = let most = fewer (λ (p : Played). has_ticket p.1) k played in let all = fit.tickets in omega arith

      further : (core : ℕ) → RightBehind (take k played) (take (so_far (take k played)) history) history core p.0.act p.1
          → RightBehind (take k all_played) (take (so_far (take k all_played)) all_done) all_done core p.0.act p.1
      further core was =
          subst (λ front. RightBehind front (take (so_far front) all_done) all_done core p.0.act p.1) (sym (take-append-le k played ((line, form) ∷ []) (omega arith)))
          (subst (λ known. RightBehind (take k played) known all_done core p.0.act p.1) (sym (take-append-le (so_far (take k played)) history more few))
          (right_more (take k played) (take (so_far (take k played)) history) core p.0.act p.1 was))

  -- and the last one
  last : (core : ℕ) → IsRight sizes (after start history) all_done (length history) (handle_after played) core line.act form
      → RightBehind (take (length played) all_played) (take (so_far (take (length played) all_played)) all_done) all_done core line.act form
  last core right =
      let now : RightBehind played history all_done core line.act form = subst (λ n. IsRight sizes (after start history) all_done n (handle_after played) core line.act form) fit.tickets right in
      subst (λ front. RightBehind front (take (so_far front) all_done) all_done core line.act form) (sym (take-append_seam played ((line, form) ∷ [])))
      (subst (λ known. RightBehind played known all_done core line.act form) (sym (take-append_seam history more) ∙ ap (λ n. take n all_done) fit.tickets) now)

  abbrev counts : Played → Bool
  counts p = has_ticket p.1

  abbrev one : List Played
  one = (line, form) ∷ []

  tickets_more : length more ≡ cond (has_ticket form) 1 0 → length all_done ≡ so_far all_played
  tickets_more count =
      let both : length all_done ≡ length history + length more = length-append history more in
      let sum : tickets_in all_played ≡ tickets_in played + length (filter counts one) = ap (length {A = Played}) (filter-append counts played one) ∙ length-append (filter counts played) (filter counts one) in
      let last_one : length more ≡ length (filter counts one) = count ∙ sym (by (has_ticket form)) in
      let was : length history ≡ length before + tickets_in played = fit.tickets in
      omega arith
    where
      by : (t : Bool) → length (cond t one []) ≡ cond t 1 0
      by true = refl
      by false = refl

  fits : (core : ℕ) → line.core ≡ Some core → IsLegal start all_done → length more ≡ cond (has_ticket form) 1 0 → IsRight sizes (after start history) all_done (length history) (handle_after played) core line.act form → Fit sizes start before all_played all_done
  fits core on legal count right = record {
    legal = legal;
    goes_on = take-append-le (length before) history more (let was = fit.tickets in omega arith) ∙ fit.goes_on;
    tickets = tickets_more count;
    each = λ k p at. ⊎_elim
        (λ front. earlier k p front.0 front.1)
        (λ end. at_last k p end.0 end.1)
        (at_end played (line, form) k p at);
  }
    where
      at_last : (k : ℕ) (p : Played) → k ≡ length played → (line, form) ≡ p → RightThere k p
      at_last k p here is =
          subst (λ (q : Played). RightThere k q) is
          (subst (λ c. IsSomeAnd c (λ core'. RightBehind (take k all_played) (take (so_far (take k all_played)) all_done) all_done core' line.act form)) (sym on)
          (subst (λ n. RightBehind (take n all_played) (take (so_far (take n all_played)) all_done) all_done core line.act form) (sym here) (last core right)))

pub fits_further : FitsFurther
fits_further sizes start before played history later core line form fit on legal grows right =
    subst (Fit sizes start before (played ++ (line, form) ∷ [])) (sym grows.later_is)
    (fits sizes start before played history grows.more line form fit core on (subst (IsLegal start) grows.later_is legal) grows.count
    (subst (λ whole. IsRight sizes (after start history) whole (length history) (handle_after played) core line.act form) grows.later_is right))
