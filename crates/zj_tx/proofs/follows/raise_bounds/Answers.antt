use Rattle.std.proofs.Common.{◌≡◌, inl, inr, ◌<◌, length, max, sym, ap, ap₂, ◌∙◌, subst, arith}
use Rattle.std.specs.Prelude.{slice_index, slice_set}
use Rattle.std.specs.Option.{unwrap_or}
use Rattle.std.proofs.lemmas.Bool.{cases_eq, cases_lt}
use Rattle.std.proofs.lemmas.Option.{unwrap_or-slice_get}
use Rattle.zj_tx.proofs.BoundLists.{set_same, set_other, past}
use Rattle.zj_tx.proofs.follows.raise_bounds.Goals as goal

pub loop-core-preserved : goal.loop-core-preserved
loop-core-preserved c =
    let old = c.loop-core.invariant in
    let at = c.loop-core.core in
    let within : at < length c.loop-core.bounds = let many = old.bounds.many in let lt = c.loop-core-test.true in omega (arith, many, lt) in
    let own : c.unwrap_or.result ≡ slice_index c.loop-core.bounds at = c.unwrap_or.ensures ∙ ap (λ o. unwrap_or o 0) c.at-in-loop-core.ensures.bound ∙ unwrap_or-slice_get c.loop-core.bounds at 0 in
    let other : c.unwrap_or-in-loop-core.result ≡ slice_index c.args.by.now at = c.unwrap_or-in-loop-core.ensures ∙ ap (λ o. unwrap_or o 0) c.at-in-loop-core-2.ensures.bound ∙ unwrap_or-slice_get c.args.by.now at 0 in
    let put : c.set_bound.new.bounds ≡ slice_set c.loop-core.bounds at c.max-bound.result = c.set_bound.ensures.set in
    record {
      bounds = c.set_bound.ensures.bounds;
      raised = λ k lt. elim (cases_eq k at) [
        | inl is ↦ subst (λ j. slice_index c.set_bound.new.bounds j ≡ max (slice_index c.args.bounds.now j) (slice_index c.args.by.now j)) (sym is)
            (ap (λ b. slice_index b at) put ∙ set_same c.loop-core.bounds at c.max-bound.result within ∙ c.max-bound.ensures ∙ ap₂ max (own ∙ old.still at (omega arith)) other)
        | inr ne ↦ ap (λ b. slice_index b k) put ∙ set_other c.loop-core.bounds at c.max-bound.result k ne ∙ old.raised k (omega (arith, lt, ne))
      ];
      still = λ k le. ap (λ b. slice_index b k) put ∙ set_other c.loop-core.bounds at c.max-bound.result k (λ e. omega (arith, e, le)) ∙ old.still k (omega (arith, le));
    }

pub returns-clause-raised : goal.returns-clause-raised
returns-clause-raised c = record {
  each = λ core. elim (cases_lt core 64) [
    | inl lt ↦ let test = c.loop-core-test.false in c.loop-core.invariant.raised core (omega (arith, lt, test))
    | inr le ↦
        let a = past c.loop-core.bounds core c.loop-core.invariant.bounds le in
        let b = past c.args.bounds.now core c.at.ensures.bounds le in
        let d = past c.args.by.now core c.at-2.ensures.bounds le in
        omega (arith, a, b, d)
  ];
}
