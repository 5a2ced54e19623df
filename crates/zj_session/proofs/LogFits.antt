-- Lines that fit the transactions of the cores, with one line more.
use Rattle.std.proofs.Common.{◌≡◌, ⊎_elim, ℕ, ◌+◌, ◌<◌, ◌≤◌, Bool, cond, List, [], ◌∷◌, ◌++◌, length, take, Option, Some, None, IsSomeAnd, slice_get, refl, sym, ap, ◌∙◌, subst, arith}
use Rattle.std.proofs.lemmas.List.{length-append, take-append-le}
use Rattle.std.proofs.Math.Seq.{take-append_seam}
use Rattle.zj_block.specs.Sizes.{Numbers}
use Rattle.zj_block.specs.declared.numbers.Tail.{Tail}
use Rattle.zj_block.specs.declared.numbers.Writer.{Writer}
use Rattle.zj_history.specs.Operation.{Operation}
use Rattle.zj_history.specs.State.{BlockState, after}
use Rattle.zj_layout.proofs.Follow.{none_some}
use Rattle.zj_script.specs.declared.line.Act.{Act}
use Rattle.zj_script.specs.declared.line.Line.{Line}
use Rattle.zj_script.specs.declared.answer.Form.{Form}
use Rattle.zj_script.specs.declared.answer.Form.TheVariants as forms
use Rattle.zj_session.specs.Laws.{LogFitsFurther}
use Rattle.zj_session.specs.Logging.{FitsLog, FitsRecord, IsRightOfLog, SaysOfLog, Standing, failed_after, running_after, tail_at}
use Rattle.zj_session.specs.Played.{OpenHandle, Played, handle_after, has_ticket, tickets_in}
use Rattle.zj_session.proofs.Lists.{at_end, fewer, kept_front}

-- what is so of a value is so in another way
and_so : {X : Type 0} (P Q : X → Type 0) (o : Option X) → ((x : X) → P x → Q x) → IsSomeAnd o P → IsSomeAnd o Q
and_so P Q None step holds = absurd holds
and_so P Q (Some x) step holds = step x holds

-- what is so of an operation is so of it in a longer history
there_more : (P : Operation → Type 0) (history more : List Operation) (ticket : ℕ) → IsSomeAnd (slice_get history ticket) P → IsSomeAnd (slice_get (history ++ more) ticket) P
there_more P history more ticket is = by (slice_get history ticket) (λ o at. kept_front history more ticket o at) is
  where
    by : (o : Option Operation) → ((x : Operation) → o ≡ Some x → slice_get (history ++ more) ticket ≡ Some x) → IsSomeAnd o P → IsSomeAnd (slice_get (history ++ more) ticket) P
    by None kept holds = absurd holds
    by (Some x) kept holds = subst (λ o. IsSomeAnd o P) (sym (kept x refl)) holds

-- what an answer says holds further
says_more : (sizes : Numbers) (tail : Tail) (state : BlockState) (known history more : List Operation) (running : Writer) (failed : Bool) (handle : Option OpenHandle) (act : Act) (form : Form)
    → SaysOfLog sizes tail state known history running failed handle act form → SaysOfLog sizes tail state known (history ++ more) running failed handle act form
says_more sizes tail state known history more running failed handle act (forms.Drew ticket reply) s = (s.0, there_more (λ o. (o.number ≡ running.number) × FitsRecord (known ++ o ∷ []) running) history more ticket s.1)
says_more sizes tail state known history more running failed handle act form s = s

-- no line fits the history that was before
pub fits_log_none : (sizes : Numbers) (tails : List Tail) (start : BlockState) (before : List Operation) (standing : Standing) → FitsLog sizes tails start before standing [] before
fits_log_none sizes tails start before standing = record { each = λ k p at. absurd (none_some at) }

module _ (sizes : Numbers) (tails : List Tail) (start : BlockState) (before : List Operation) (standing : Standing) (played : List Played) (history more : List Operation) (line : Line) (form : Form)
    (fit : FitsLog sizes tails start before standing played history) (tickets : length history ≡ length before + tickets_in played) where
  -- the history behind some lines
  abbrev so_far : List Played → ℕ
  so_far front = length before + tickets_in front

  abbrev all_played : List Played
  all_played = played ++ (line, form) ∷ []

  abbrev all_done : List Operation
  all_done = history ++ more

  -- an answer that is right behind some lines, after the operations known
  abbrev RightBehind : List Played → List Operation → List Operation → ℕ → Act → Form → Type 0
  RightBehind front known whole core act f = IsRightOfLog sizes (tail_at tails core) (after start known) known whole (running_after standing front core) (failed_after standing front core) (handle_after front core) act f

  right_more : (front : List Played) (known : List Operation) (core : ℕ) (act : Act) (f : Form) → RightBehind front known history core act f → RightBehind front known all_done core act f
  right_more front known core act f r = record {
    says = says_more sizes (tail_at tails core) (after start known) known history more (running_after standing front core) (failed_after standing front core) (handle_after front core) act f r.says;
    failing = r.failing;
    full = r.full;
  }

  -- the answer at a place is right
  abbrev RightThere : ℕ → Played → Type 0
  RightThere k p = IsSomeAnd p.0.core (λ core. RightBehind (take k all_played) (take (so_far (take k all_played)) all_done) all_done core p.0.act p.1)

  -- the lines so far
  earlier : (k : ℕ) (p : Played) → k < length played → slice_get played k ≡ Some p → RightThere k p
  earlier k p low at = and_so
      (λ core. RightBehind (take k played) (take (so_far (take k played)) history) history core p.0.act p.1)
      (λ core. RightBehind (take k all_played) (take (so_far (take k all_played)) all_done) all_done core p.0.act p.1)
      p.0.core further (fit.each k p at)
    where
      few : so_far (take k played) ≤ length history
      few = let most = fewer (λ (p : Played). has_ticket p.1) k played in omega (arith, most, tickets)

      further : (core : ℕ) → RightBehind (take k played) (take (so_far (take k played)) history) history core p.0.act p.1
          → RightBehind (take k all_played) (take (so_far (take k all_played)) all_done) all_done core p.0.act p.1
      further core was =
          subst (λ front. RightBehind front (take (so_far front) all_done) all_done core p.0.act p.1) (sym (take-append-le k played ((line, form) ∷ []) (omega arith)))
          (subst (λ known. RightBehind (take k played) known all_done core p.0.act p.1) (sym (take-append-le (so_far (take k played)) history more few))
          (right_more (take k played) (take (so_far (take k played)) history) core p.0.act p.1 was))

  -- and the last one
  last : (core : ℕ) → RightBehind played history all_done core line.act form → RightBehind (take (length played) all_played) (take (so_far (take (length played) all_played)) all_done) all_done core line.act form
  last core now =
      subst (λ front. RightBehind front (take (so_far front) all_done) all_done core line.act form) (sym (take-append_seam played ((line, form) ∷ [])))
      (subst (λ known. RightBehind played known all_done core line.act form) (sym (take-append_seam history more) ∙ ap (λ n. take n all_done) tickets) now)

  fits : (core : ℕ) → line.core ≡ Some core → RightBehind played history all_done core line.act form → FitsLog sizes tails start before standing all_played all_done
  fits core on right = record {
    each = λ k p at. ⊎_elim
        (λ front. earlier k p front.0 front.1)
        (λ end. at_last k p end.0 end.1)
        (at_end played (line, form) k p at);
  }
    where
      at_last : (k : ℕ) (p : Played) → k ≡ length played → (line, form) ≡ p → RightThere k p
      at_last k p here is =
          subst (λ (q : Played). RightThere k q) is
          (subst (λ c. IsSomeAnd c (λ core'. RightBehind (take k all_played) (take (so_far (take k all_played)) all_done) all_done core' line.act form)) (sym on)
          (subst (λ n. RightBehind (take n all_played) (take (so_far (take n all_played)) all_done) all_done core line.act form) (sym here) (last core right)))

pub log_fits_further : LogFitsFurther
log_fits_further sizes tails start before standing played history later core line form fit tickets on grows right =
    subst (FitsLog sizes tails start before standing (played ++ (line, form) ∷ [])) (sym grows.later_is)
    (fits sizes tails start before standing played history grows.more line form fit tickets core on
    (subst (λ whole. IsRightOfLog sizes (tail_at tails core) (after start history) history whole (running_after standing played core) (failed_after standing played core) (handle_after played core) line.act form) grows.later_is right))
