-- Calls that only look, and the names of a directory's entries.
use Rattle.std.proofs.Common.{◌≡◌, ℕ, ◌+◌, List, [], ◌∷◌, ◌++◌, map, Some, refl, sym, ap, ◌∙◌, subst}
use Rattle.std.specs.FinMap as map_of
use Rattle.std.specs.List.{range_with_len}
use Rattle.std.specs.Option.{unwrap_or}
use Rattle.std.proofs.lemmas.Simd.{map-map}
use Rattle.zj_block.specs.Lists.{Entries}
use Rattle.zj_block.specs.Sizes.{Numbers}
use Rattle.zj_tree.specs.declared.call.Call.{Call}
use Rattle.zj_tree.specs.declared.call.Reply.{Reply}
use Rattle.zj_tree.specs.Tree.{FileTree}
use Rattle.zj_layout.specs.declared.fields.Kind.TheVariants.{Dir}
use Rattle.zj_layout.specs.declared.fields.Link.{Link}
use Rattle.zj_layout.specs.declared.fields.Node.{Node}
use Rattle.zj_layout.specs.Graph.{links_of}
use Rattle.zj_layout.specs.Image.{State, Image, entry_at, link_or_none, no_link, graph_of}
use Rattle.zj_layout.proofs.Entered.{dir_links, map_more}
use Rattle.zj_changes.specs.Holds.{Answers}
use Rattle.zj_dirs.specs.Possible.{IsPossible}
use Rattle.zj_dirs.proofs.Walks.{put_nothing}
use Rattle.zj_inode.specs.Answering.{Builds}

-- a call that builds nothing
pub looked : (sizes : Numbers) (found : Entries) (call : Call) (reply : Reply) → ((state : State) (tree : FileTree) → IsPossible sizes found state tree → Answers sizes call reply tree state) → Builds sizes found map_of.empty call reply
looked sizes found call reply each = record {
  each = λ state tree p. subst (Answers sizes call reply tree) (sym (put_nothing state)) (each state tree p);
  quiet = λ q. refl;
}

-- the name of the entry at a place
abbrev pub name_at : Image → ℕ → ℕ → List ℕ
name_at image dir place = (link_or_none image dir place).name

abbrev pub names_to : Image → ℕ → ℕ → List (List ℕ)
names_to image dir count = map (name_at image dir) (range_with_len 0 count)

pub one_name_more : (image : Image) (dir place : ℕ) (names after : List (List ℕ)) (link : Link) → names ≡ names_to image dir place → entry_at image dir place ≡ Some link → after ≡ names ++ link.name ∷ [] → after ≡ names_to image dir (place + 1)
one_name_more image dir place names after link is at more =
    more ∙ ap (λ (xs : List (List ℕ)). xs ++ link.name ∷ []) is
    ∙ ap (λ (name : List ℕ). names_to image dir place ++ name ∷ []) (ap (λ o. (unwrap_or o no_link).name) (sym at))
    ∙ sym (map_more (name_at image dir) place)

pub all_names : (image : Image) (dir : ℕ) (node : Node) → image.node dir ≡ Some node → node.kind ≡ Dir → names_to image dir node.size ≡ map (λ (l : Link). l.name) (links_of (graph_of image dir))
all_names image dir node is kind = sym (map-map (λ (l : Link). l.name) (link_or_none image dir) (range_with_len 0 node.size)) ∙ ap (map (λ (l : Link). l.name)) (dir_links image dir node is kind)
