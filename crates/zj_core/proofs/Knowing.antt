-- Passes that change what they know of their own core, and maps by what they have.
use Rattle.std.proofs.Common.{◌≡◌, ℕ, sym, ap, ◌∙◌, subst, None}
use Rattle.std.specs.Ordering.{nat_cmp}
use Rattle.std.specs.Cmp.{nat_cmp_total}
use Rattle.std.specs.FinMap as finmap
use Rattle.zj_turns.specs.Views.{Has, Known}
use Rattle.zj_turns.specs.Passes.{CacheParameters, IsActive, PassState, mine, now_knowing, with_view}
use Rattle.zj_turns.proofs.Again.{known_after, knowing_again as view_again, knowing_same as view_same}
use Rattle.zj_turns.proofs.Maps.{get_here}

-- what is known last stands
pub knowing_again : (p : PassState) (k l : Known) → now_knowing (now_knowing p k) l ≡ now_knowing p l
knowing_again p k l = ap (with_view p) (view_again p.view p.core k l)

-- a pass that knows its core, knowing that again
pub knowing_same : (p : PassState) → Has p.view p.core → now_knowing p (mine p) ≡ p
knowing_same p has = ap (with_view p) (view_same p.view p.core has)

-- what it knows of its core afterwards
pub mine_now : (p : PassState) (k : Known) → mine (now_knowing p k) ≡ k
mine_now p k = known_after p.view p.core k

pub mine_is : (p q : PassState) (k : Known) → q ≡ now_knowing p k → mine q ≡ k
mine_is p q k is = ap mine is ∙ mine_now p k

pub has_now : (p q : PassState) (k : Known) → q ≡ now_knowing p k → Has q.view q.core
has_now p q k is = subst (λ (x : PassState). Has x.view x.core) (sym is) (k, get_here p.view.known p.core k)

-- it stays a pass of its cache that is not away
pub active_now : (f : CacheParameters) (p q : PassState) (k : Known) → q ≡ now_knowing p k → IsActive f p → IsActive f q
active_now f p q k is e = record { table = ap (λ (x : PassState). x.table) is ∙ e.table; not_away = ap (λ (x : PassState). x.away) is ∙ e.not_away }

-- one step more
pub next_step : (F : Known → Known) (p q r : PassState) (k : Known) → q ≡ now_knowing p k → r ≡ now_knowing q (F (mine q)) → r ≡ now_knowing p (F k)
next_step F p q r k is next =
    next ∙ ap (λ (x : PassState). now_knowing x (F (mine x))) is ∙ ap (λ (x : Known). now_knowing (now_knowing p k) (F x)) (mine_now p k) ∙ knowing_again p k (F k)

-- maps that agree everywhere are equal
pub same_maps : {X : Type 0} (m n : finmap.FinMap nat_cmp X) → ((b : ℕ) → finmap.get m b ≡ finmap.get n b) → m ≡ n
same_maps m n is = finmap.same_map nat_cmp_total finmap.nat_cmp-IsAntisymmetric m n is

-- a map that has nothing
pub none_there : {X : Type 0} (m : finmap.FinMap nat_cmp X) → ((b : ℕ) → finmap.get m b ≡ None) → m ≡ finmap.empty
none_there {X} m none = same_maps m finmap.empty (λ b. none b ∙ sym (finmap.get-empty {X = X} nat_cmp b))
