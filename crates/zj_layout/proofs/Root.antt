-- A graph with the root alone, and the tree that it describes.
use Rattle.std.proofs.Common.{◌≡◌, ℕ, zero, suc, ◌<◌, Bool, true, false, cond, List, [], ◌∷◌, Some, refl, sym, ap, ◌∙◌}
use Rattle.std.specs.Ordering.{eq_by_cmp}
use Rattle.std.specs.FinMap as map_of
use Rattle.std.specs.FinMap.{get-insert, get-empty}
use Rattle.zj_tree.specs.declared.content.Content.TheVariants as contents
use Rattle.zj_tree.specs.Tree.{root_alone, path_cmp}
use Rattle.zj_layout.specs.declared.fields.Link.{Link}
use Rattle.zj_layout.specs.Graph.{Nothing, Links, Graph, IsRooted, Describes, follow, step, shown_at, IsLive, link_at}
use Rattle.zj_layout.proofs.Follow.{Path', none_some}
use Rattle.zj_layout.proofs.Live.{not_live, paths_total, tie, no_tie}

-- the root alone
abbrev pub root_graph : Graph
root_graph zero = Links []
root_graph (suc i) = Nothing

no_link_at : (d k : ℕ) (l : Link) → link_at root_graph d k ≡ Some l → ⊥
no_link_at zero k l h = none_some h
no_link_at (suc d) k l h = none_some h

no_step : (d k : ℕ) (a : List ℕ) → step root_graph d a ≡ Some k → ⊥
no_step zero k a h = none_some h
no_step (suc d) k a h = none_some h

pub root_rooted : (n : ℕ) → 0 < n → IsRooted n root_graph
root_rooted n some = record {
  root = refl;
  within = λ i live. by i live;
  names = record { each = λ d. record { each = λ k o l m h g e. absurd (no_link_at d k l h) } };
  target = λ d k a h. absurd (no_step d k a h);
  once = λ d e k a b h g. absurd (no_step d k a h);
  reached = λ i live. reached i live;
}
  where
    by : (i : ℕ) → IsLive (root_graph i) → i < n
    by zero live = some
    by (suc i) live = absurd (not_live live)

    reached : (i : ℕ) → IsLive (root_graph i) → (path : Path') × (follow root_graph 0 path ≡ Some i)
    reached zero live = ([], refl)
    reached (suc i) live = absurd (not_live live)

pub root_describes : Describes root_graph root_alone
root_describes = record { each = λ path. get-insert paths_total map_of.empty [] contents.Dir path ∙ by path (eq_by_cmp path_cmp path []) refl }
  where
    by : (path : Path') (b : Bool) → eq_by_cmp path_cmp path [] ≡ b → cond b (Some contents.Dir) (map_of.get (map_of.empty {R = path_cmp}) path) ≡ shown_at root_graph path
    by path true e = sym (ap (shown_at root_graph) (tie path [] e))
    by [] false e = absurd (no_tie [] [] e refl)
    by (a ∷ path) false e = get-empty path_cmp (a ∷ path)
