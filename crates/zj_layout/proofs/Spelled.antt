-- Entries have names, and so do the paths that they make.
use Rattle.std.proofs.Common.{◌≡◌, ℕ, ◌+◌, ◌*◌, ◌%◌, leb, eqb, drop, slice_index, Bool, true, false, ◌&&◌, cond, List, [], ◌∷◌, take, Option, Some, None, IsTrue, IsSome, refl, sym, ap, ◌∙◌}
use Rattle.std.specs.List.{list_all}
use Rattle.std.specs.Option.{option_and_then, unwrap_or}
use Rattle.zj_block.specs.Sizes.{Numbers}
use Rattle.zj_block.specs.Block.{bytes_of, u32_at}
use Rattle.zj_tree.specs.Name.{is_name}
use Rattle.zj_tree.specs.Path.{has_names}
use Rattle.zj_layout.specs.declared.fields.Link.{Link}
use Rattle.zj_layout.specs.Graph.{step, follow, links_of}
use Rattle.zj_layout.specs.Node.{link_in, checked_link, field_at}
use Rattle.zj_layout.specs.Image.{Image, graph_of, entry_at, no_link, link_or_none}
use Rattle.zj_layout.specs.Stored.{IsStored}
use Rattle.zj_layout.proofs.Follow.{Path', some_is, none_some, named_stands}
use Rattle.zj_layout.proofs.Sound.{link_place}

-- what is read as an entry has a name
link_named : (content : List ℕ) (place : ℕ) (l : Link) → link_in content place ≡ Some l → is_name l.name ≡ true
unfolding link_in
link_named content place l h = by (slice_index (bytes_of content) (32 * place + 4)) (u32_at content (32 * place)) (slice_index (bytes_of content) (32 * place + 5)) (field_at content (32 * place + 6)) h
  where
    by : (len node zero_byte : ℕ) (field : List ℕ) → checked_link node len zero_byte field ≡ Some l → is_name l.name ≡ true
    by len node zero_byte field h = test (leb len 26 && eqb zero_byte 0 && list_all (λ b. eqb b 0) (drop len field)) (is_name (take len field)) refl h
      where
        test : (first last : Bool) → is_name (take len field) ≡ last → cond (first && last) (Some (record { node = node; name = take len field })) None ≡ Some l → is_name l.name ≡ true
        test true true e h = ap (λ (x : Link). is_name x.name) (sym (some_is h)) ∙ e
        test true false e h = absurd (none_some h)
        test false last e h = absurd (none_some h)

-- Each step goes by a name.
step_named : (sizes : Numbers) (image : Image) → IsStored sizes image → (dir node : ℕ) (name : List ℕ) → step (graph_of image) dir name ≡ Some node → is_name name ≡ true
step_named sizes image s dir node name h =
    let at = named_stands (links_of (graph_of image dir)) name node h in
    let there = link_place image dir at.place at.link at.at in
    by at.place (entry_at image dir at.place) refl (s.entry dir at.place there.0) at.link there.1 at.name_is
  where
    by : (place : ℕ) (o : Option Link) → entry_at image dir place ≡ o → IsSome o → (l : Link) → l ≡ link_or_none image dir place → l.name ≡ name → is_name name ≡ true
    by place None e some l is n = absurd cc
    by place (Some m) e some l is n = ap is_name (sym n ∙ ap (λ (x : Link). x.name) is ∙ ap (λ o. (unwrap_or o no_link).name) e) ∙ link_named _ (place % 16) m e

both : (b c : Bool) → b ≡ true → IsTrue c → IsTrue (b && c)
both true c e h = h
both false c e h = absurd cc

-- A path that leads somewhere is made of names.
pub path_named : (sizes : Numbers) (image : Image) → IsStored sizes image → (path : Path') (from node : ℕ) → follow (graph_of image) from path ≡ Some node → IsTrue (has_names path)
path_named sizes image s [] from node h = cc
path_named sizes image s (name ∷ path) from node h = by (λ next. path_named sizes image s path next node) (step (graph_of image) from name) refl h
  where
    by : ((next : ℕ) → follow (graph_of image) next path ≡ Some node → IsTrue (has_names path)) → (o : Option ℕ) → step (graph_of image) from name ≡ o → option_and_then (λ next. follow (graph_of image) next path) o ≡ Some node → IsTrue (has_names (name ∷ path))
    by rest None e h = absurd (none_some h)
    by rest (Some next) e h = both (is_name name) (has_names path) (step_named sizes image s from next name e) (rest next h)
