-- What tables hold is a tree as the plain service keeps it: its root and all that has entries is a directory.
use Rattle.std.proofs.Common.{◌≡◌, ℕ, ◌<◌, [], ◌∷◌, length, take, drop, Option, Some, None, IsSome, IsTrue, refl, sym, ap, ◌∙◌, subst, arith}
use Rattle.std.specs.Option.{option_and_then}
use Rattle.std.proofs.lemmas.List.{length-drop, take-append-drop}
use Rattle.zj_block.specs.Sizes.{Numbers}
use Rattle.zj_tree.specs.declared.content.Content.TheVariants as contents
use Rattle.zj_tree.specs.Path.{has_names}
use Rattle.zj_tree.specs.Tree.{FileTree, IsTree, content_at}
use Rattle.zj_layout.specs.Graph.{Holding, Nothing, Bytes, Links, links_of, content_of, named, step, follow}
use Rattle.zj_layout.specs.Image.{Image, graph_of}
use Rattle.zj_layout.proofs.Follow.{Path', Name', none_some, follow_join}
use Rattle.zj_layout.proofs.Spelled.{path_named}
use Rattle.zj_changes.specs.Holds.{HoldsTree}

-- a node with an entry is a directory
pub holds_links : (x : Holding) (name : Name') (node : ℕ) → named name (links_of x) ≡ Some node → content_of x ≡ Some contents.Dir
holds_links Nothing name node e = absurd (none_some e)
holds_links (Bytes bytes) name node e = absurd (none_some e)
holds_links (Links links) name node e = refl

module _ (sizes : Numbers) (image : Image) (t : FileTree) (h : HoldsTree sizes image t) where
  pub is_tree : IsTree t
  is_tree = record {
    root = h.describes.each [] ∙ h.rooted.root;
    prefixes = λ path n some lt. prefix path n lt (follow (graph_of image) 0 path) refl (subst IsSome (h.describes.each path) some);
    names = λ path some. names path (follow (graph_of image) 0 path) refl (subst IsSome (h.describes.each path) some);
  }
    where
      nothing_shown : (o : Option ℕ) → o ≡ None → IsSome (option_and_then (λ i. content_of (graph_of image i)) o) → ⊥
      nothing_shown o e some = by o e some
        where
          by : (o : Option ℕ) → o ≡ None → IsSome (option_and_then (λ i. content_of (graph_of image i)) o) → ⊥
          by None e some = cc
          by (Some i) e some = absurd (none_some (sym e))

      names : (path : Path') (o : Option ℕ) → follow (graph_of image) 0 path ≡ o → IsSome (option_and_then (λ i. content_of (graph_of image i)) (follow (graph_of image) 0 path)) → IsTrue (has_names path)
      names path None e some = absurd (nothing_shown (follow (graph_of image) 0 path) e some)
      names path (Some i) e some = path_named sizes image h.stored path 0 i e

      prefix : (path : Path') (n : ℕ) → n < length path → (o : Option ℕ) → follow (graph_of image) 0 path ≡ o → IsSome (option_and_then (λ i. content_of (graph_of image i)) (follow (graph_of image) 0 path)) → content_at t (take n path) ≡ Some contents.Dir
      prefix path n lt None e some = absurd (nothing_shown (follow (graph_of image) 0 path) e some)
      prefix path n lt (Some i) e some = by (follow (graph_of image) 0 (take n path)) refl (drop n path) (omega (arith, length-drop n path)) (sym (follow_join (graph_of image) 0 (take n path) (drop n path)) ∙ ap (follow (graph_of image) 0) (take-append-drop n path) ∙ e)
        where
          by : (o : Option ℕ) → follow (graph_of image) 0 (take n path) ≡ o → (rest : Path') → 0 < length rest → option_and_then (λ j. follow (graph_of image) j rest) (follow (graph_of image) 0 (take n path)) ≡ Some i → content_at t (take n path) ≡ Some contents.Dir
          by None e rest some way = absurd (none_some (sym (ap (option_and_then (λ j. follow (graph_of image) j rest)) e) ∙ way))
          by (Some j) e [] some way = absurd (omega arith)
          by (Some j) e (name ∷ rest) some way = h.describes.each (take n path) ∙ ap (option_and_then (λ k. content_of (graph_of image k))) e ∙ goes_on (step (graph_of image) j name) refl (sym (ap (option_and_then (λ k. follow (graph_of image) k (name ∷ rest))) e) ∙ way)
            where
              goes_on : (o : Option ℕ) → step (graph_of image) j name ≡ o → option_and_then (λ next. follow (graph_of image) next rest) (step (graph_of image) j name) ≡ Some i → content_of (graph_of image j) ≡ Some contents.Dir
              goes_on None s w = absurd (none_some (sym (ap (option_and_then (λ next. follow (graph_of image) next rest)) s) ∙ w))
              goes_on (Some k) s w = holds_links (graph_of image j) name k s
