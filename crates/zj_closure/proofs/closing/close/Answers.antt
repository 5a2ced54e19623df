use Rattle.std.proofs.Common.{◌≡◌, inl, inr, ℕ, ◌+◌, ◌*◌, ◌≤◌, length, sym, ap, ◌∙◌, subst, arith}
use Rattle.zj_closure.specs.Found.{records_of, record_count, tail_of}
use Rattle.std.specs.Prelude.{slice_index}
use Rattle.std.proofs.lemmas.Bool.{cases_lt, cases_eq}
use Rattle.zj_history.specs.Transactions.{Bounds}
use Rattle.zj_closure.specs.Kept.{AreKept}
use Rattle.zj_closure.specs.Growing.{IsDone}
use Rattle.zj_closure.proofs.Growth.{stays_done, all_done, past_done, sum-ends, sum-le}
use Rattle.zj_closure.proofs.closing.close.Goals as goal

-- so many looks for one core more
one_core_more : (core records looks looks' : ℕ) → looks ≤ core * records → looks' ≤ looks + records → looks' ≤ (core + 1) * records
one_core_more core records looks looks' le more = omega (arith, le, more)

pub loop-core-preserved : goal.loop-core-preserved
loop-core-preserved c = record {
  grown = c.grow.ensures.grown;
  bounds = c.grow.ensures.bounds;
  looks =
      let found = sum-ends c.starts_of-starts.result c.ends_of-ends.result c.args.found.now
      (c.starts_of-starts.ensures.bounds.many ∙ sym c.ends_of-ends.ensures.bounds.many) (let many = c.starts_of-starts.ensures.bounds.many in omega (arith, many, c.requires.cores))
      (λ d. c.ends_of-ends.ensures.ends.each d ∙ ap (λ n. n + length (records_of c.args.found.now d)) (sym (c.starts_of-starts.ensures.tails d))) in
      let low = sum-le c.starts_of-starts.result c.loop-core.closing.kept (c.starts_of-starts.ensures.bounds.many ∙ sym c.loop-core.invariant.bounds.many) c.loop-core.invariant.grown.above_tails in
      let more = c.grow.ensures.looks in
      let so_far = c.loop-core.invariant.looks in
      one_core_more c.loop-core.core (record_count c.args.found.now) c.loop-core.closing.looks c.grow.new.looks so_far (omega (arith, found, low, more));
  done = λ d lt. elim (cases_eq d c.loop-core.core) [
    | inl is ↦ subst (IsDone (slice_index c.starts_of-starts.result) c.args.found.now c.grow.new.kept) (sym is) c.grow.ensures.done
    | inr other ↦ stays_done (slice_index c.starts_of-starts.result) c.args.found.now c.loop-core.closing.kept c.grow.new.kept d c.grow.ensures.above c.grow.ensures.grown (c.loop-core.invariant.done d (omega (arith, lt, other)))
  ];
}

pub returns-clause-kept : goal.returns-clause-kept
returns-clause-kept c =
    let grown = c.loop-core.invariant.grown in
    let same : slice_index c.starts_of-starts.result ≡ tail_of c.args.tails.now = λ i core. c.starts_of-starts.ensures.tails core i in
    subst (λ (t : Bounds). AreKept t c.args.found.now (slice_index c.loop-core.closing.kept)) same
    (all_done (slice_index c.starts_of-starts.result) c.args.found.now c.loop-core.closing.kept grown
    (λ core. elim (cases_lt core c.loop-core.core) [
      | inl lt ↦ c.loop-core.invariant.done core lt
      | inr le ↦ past_done (slice_index c.starts_of-starts.result) c.args.found.now c.loop-core.closing.kept core grown (omega (arith, le, c.requires.cores))
    ]))
