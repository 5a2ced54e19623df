use Rattle.std.proofs.Common.{◌≡◌, ◌≢◌, ℕ, false, List, [], ◌∷◌, ◌++◌, refl, sym, ap, ◌∙◌, subst, true≢false}
use Rattle.std.proofs.lemmas.List.{same_from_push}
use Rattle.zj_turns.specs.Views.{Known, blank}
use Rattle.zj_turns.specs.Passes.{CacheParameters, IsIdle, IsPeer, PassState, dealt, fresh, mine}
use Rattle.zj_turns.proofs.Lone.{fresh_idle, lone_alone, lone_is}
use Rattle.core_cases.proofs.two_cores.Goals as goal

-- the passes of two cores, the first one first
first_dealt : (f : CacheParameters) (old new : List PassState) (p : PassState) → old ≡ dealt f.table 2 2 → old ≡ new ++ p ∷ [] → (new ≡ dealt f.table 2 1) × (p ≡ fresh f.table 0)
first_dealt f old new p is some = let s = same_from_push (dealt f.table 2 1) new (fresh f.table 0) p (sym is ∙ some) in (sym s.0, sym s.1)

second_dealt : (f : CacheParameters) (old new : List PassState) (p : PassState) → old ≡ dealt f.table 2 1 → old ≡ new ++ p ∷ [] → p ≡ fresh f.table 1
second_dealt f old new p is some = let s = same_from_push [] new (fresh f.table 1) p (sym is ∙ some) in sym s.1

idle : (f : CacheParameters) (core : ℕ) (p : PassState) → p ≡ fresh f.table core → IsIdle p.table p.core p
idle f core p is = subst (λ (x : PassState). IsIdle x.table x.core x) (sym is) (fresh_idle f.table core)

none : (f : CacheParameters) (core : ℕ) (p : PassState) → p ≡ fresh f.table core → (mine p).operations ≡ []
none f core p is = ap (λ (k : Known). k.operations) (lone_is f.table core blank p is)

pub core_of-requires-clause-idle : goal.core_of-requires-clause-idle
core_of-requires-clause-idle c =
    let first = first_dealt c.in_ok-cache.cache c.in_ok-cache.passes c.next.new.self c.in-Some-Some.one c.in_ok-cache.ensures.passes c.in-Some-Some.ensures.some in
    idle c.in_ok-cache.cache 0 c.in-Some-Some.one first.1

pub core_of-requires-2-clause-idle : goal.core_of-requires-2-clause-idle
core_of-requires-2-clause-idle c =
    let first = first_dealt c.in_ok-cache.cache c.in_ok-cache.passes c.next.new.self c.in-Some-Some.one c.in_ok-cache.ensures.passes c.in-Some-Some.ensures.some in
    let second = second_dealt c.in_ok-cache.cache c.next.new.self c.next-2.new.self c.in-Some-Some.two first.0 c.in-Some-Some.ensures'.some in
    idle c.in_ok-cache.cache 1 c.in-Some-Some.two second

pub core_of-requires-clause-none : goal.core_of-requires-clause-none
core_of-requires-clause-none c =
    let first = first_dealt c.in_ok-cache.cache c.in_ok-cache.passes c.next.new.self c.in-Some-Some.one c.in_ok-cache.ensures.passes c.in-Some-Some.ensures.some in
    none c.in_ok-cache.cache 0 c.in-Some-Some.one first.1

pub core_of-requires-2-clause-none : goal.core_of-requires-2-clause-none
core_of-requires-2-clause-none c =
    let first = first_dealt c.in_ok-cache.cache c.in_ok-cache.passes c.next.new.self c.in-Some-Some.one c.in_ok-cache.ensures.passes c.in-Some-Some.ensures.some in
    let second = second_dealt c.in_ok-cache.cache c.next.new.self c.next-2.new.self c.in-Some-Some.two first.0 c.in-Some-Some.ensures'.some in
    none c.in_ok-cache.cache 1 c.in-Some-Some.two second

peer : (f : CacheParameters) (a b : ℕ) → b ≢ a → IsPeer (fresh f.table a) (fresh f.table b) false
peer f a b apart = record { table = refl; apart = apart; alone = lone_alone f.table b blank (fresh f.table b) refl; away_is = refl; known = λ z. absurd (true≢false (sym z)) }

peers : (f : CacheParameters) (p q : PassState) → p ≡ fresh f.table 0 → q ≡ fresh f.table 1 → IsPeer p q false × IsPeer q p false
peers f p q first second = subst (λ (pq : PassState × PassState). IsPeer pq.0 pq.1 false × IsPeer pq.1 pq.0 false) (λ i. (sym first i, sym second i)) (peer f 0 1 (λ e. cc), peer f 1 0 (λ e. cc))

pub returns-clause-peers : goal.returns-clause-peers
returns-clause-peers c =
    let first = first_dealt c.in_ok-cache.cache c.in_ok-cache.passes c.next.new.self c.in-Some-Some.one c.in_ok-cache.ensures.passes c.in-Some-Some.ensures.some in
    let second = second_dealt c.in_ok-cache.cache c.next.new.self c.next-2.new.self c.in-Some-Some.two first.0 c.in-Some-Some.ensures'.some in
    peers c.in_ok-cache.cache c.in_ok-core_of.field-0.pass c.in_ok-core_of-2.field-0.pass (c.in_ok-core_of.ensures.0 ∙ first.1) (c.in_ok-core_of-2.ensures.0 ∙ second)
