use Rattle.std.proofs.Common.{◌≡◌, ◌∙◌, ◌-◌, ℕ, Some, inr, length, ap, arith}
use Rattle.std.specs.Prelude.{slice_index}
use Rattle.std.proofs.lemmas.Result.{err_from_is_err_and}
use Rattle.zj_closure.specs.Found.{tail_of}
use Rattle.zj_closure.specs.Recovered.{kept_records}
use Rattle.zj_home.specs.Super.{Super}
use Rattle.zj_mount.specs.declared.recovered.Tally.{Tally}
use Rattle.zj_mount.proofs.inspecting.inspect.Goals as goal

pub returns-in_err-blocks-clause-cause : goal.returns-in_err-blocks-clause-cause
returns-in_err-blocks-clause-cause g c =
    let p = err_from_is_err_and c.from_residual-in_err-blocks.result c.from_residual-in_err-blocks.ensures.1 in
    let gathered = c.in_ok-gathered.ensures.kept in
    let kept = slice_index c.in_ok-gathered.gathered.kept in
    rw (p.1, p.2) (inr (record { found = gathered.found; kept = kept; holds = gathered.holds; cause = c.in_err-blocks.ensures.cause (kept_records gathered.found kept) gathered.newest }))

pub returns-clause-inspects : goal.returns-clause-inspects
returns-clause-inspects g c =
    let gathered = c.in_ok-gathered.ensures.kept in
    let kept = slice_index c.in_ok-gathered.gathered.kept in
    let over = c.in_ok-blocks.ensures.recovered (kept_records gathered.found kept) gathered.newest in
    let heads = c.deref.ensures.value in
    let told = c.recover.ensures.told in
    let tallies = rw (heads, told) at c.in_ok-tallies.ensures.told in
    let from = tail_of c.args.home.now.told.tails in
    let tally : ℕ → ℕ → Tally = λ core n. record { from = from core; found = n; kept = kept core - from core } in
    let many : length c.in_ok-gathered.gathered.heads.items ≡ c.args.home.now.told.sizes.cores = gathered.many ∙ gathered.holds.many in
    rw c.new.ensures
    (record {
      found = gathered.found;
      kept = kept;
      base = over.0;
      holds = gathered.holds;
      held = over.1;
      blocks = over.2;
      shows = c.in_ok-blocks.ensures.shows;
      limits = c.in_ok-blocks.ensures.limits;
      sizes = c.sizes.ensures ∙ ap (λ (s : Super). s.sizes) told;
      many = c.in_ok-tallies.ensures.many ∙ ap length heads ∙ many;
      tallies = λ core below. tallies core (omega (arith, below, many)) ∙ ap (λ (n : ℕ). Some (tally core n)) (gathered.counts core);
    })
