use Rattle.std.proofs.Common.{◌≡◌, ℕ, List, length, take, min, Some, ap, sym, ◌∙◌, arith, length-take}
use Rattle.std.specs.FinMap as map_of
use Rattle.zj_tree.specs.declared.content.Content.{Content}
use Rattle.zj_tree.specs.declared.content.Content.TheVariants.{File}
use Rattle.zj_tree.specs.Changed.{bytes_at}
use Rattle.zj_tree.proofs.KeptLemmas.{Shows, shown_within, kept_change, found_entry, in_range, with_content}
use Rattle.zj_tree.proofs.WithinLemmas.{truncated_within}
use Rattle.zj_tree.proofs.tree.Tree.truncate.Goals as goal

file_is : (a b : List ℕ) → Some (File a) ≡ Some (File b) → a ≡ b
file_is a b e = cc

content_is : (a b : Content) → Some a ≡ Some b → a ≡ b
content_is a b e = cc

pub index_mut-requires : goal.index_mut-requires
index_mut-requires c =
    let a = c.self.inside in
    let t = c.args.self.now in
    let path = c.args.path.now in
    let old = bytes_at t.tree path in
    let s : Shows t a.entries.items a.blocks a.nodes a.room a.version = record { is = c.self.view_is; kept = c.self.invariant } in
    omega (arith, in_range s path c.place_at-place.result c.place_at-place.ensures, a.entries.ok.0)

size_is : (n size old found : ℕ) {least : ℕ} → n ≡ min size old → found ≡ old → least ≡ min found size → n ≡ least
size_is n size old found long is least = omega arith

pub overflow_cast-self : goal.overflow_cast-self
overflow_cast-self c =
    let a = c.self.inside in
    let t = c.args.self.now in
    let path = c.args.path.now in
    let old = bytes_at t.tree path in
    let s : Shows t a.entries.items a.blocks a.nodes a.room a.version = record { is = c.self.view_is; kept = c.self.invariant } in
    let bytes = take c.args.size old in
    let long : length bytes ≡ c.min.result = size_is _ _ _ _ (length-take c.args.size old) (ap length c.bytes_at.ensures.value) c.min.ensures in
    let within = truncated_within t.limits t.tree path old c.args.size c.requires.file (shown_within s) in
    omega (arith, c.blocks_resized-blocks.ensures.used bytes long, within.blocks, c.self.invariant.room_fits, ap (λ x. x.limits.room) c.self.view_is)

pub invariant_of-self : goal.invariant_of-self
invariant_of-self c =
    let a = c.self.inside in
    let t = c.args.self.now in
    let path = c.args.path.now in
    let old = bytes_at t.tree path in
    let s : Shows t a.entries.items a.blocks a.nodes a.room a.version = record { is = c.self.view_is; kept = c.self.invariant } in
    let bytes = take c.args.size old in
    let long : length bytes ≡ c.min.result = size_is _ _ _ _ (length-take c.args.size old) (ap length c.bytes_at.ensures.value) c.min.ensures in
    let within = truncated_within t.limits t.tree path old c.args.size c.requires.file (shown_within s) in
    let x = c.index_mut.result.now in
    let stands = (found_entry s path c.place_at-place.result x c.place_at-place.ensures c.index_mut.ensures.value).1 in
    let news = with_content s path (File bytes) c.truncate.new.self c.place_at-place.result x c.place_at-place.ensures c.index_mut.ensures.value (c.truncate.ensures old (content_is _ _ (sym stands ∙ c.requires.file))) in
    (kept_change s (map_of.insert t.tree path (File bytes)) _ c.blocks_resized-blocks.result news (c.blocks_resized-blocks.ensures.is_tree bytes) (c.blocks_resized-blocks.ensures.used bytes long) within).0

pub returns-clause-tree : goal.returns-clause-tree
returns-clause-tree c =
    let a = c.self.inside in
    let t = c.args.self.now in
    let path = c.args.path.now in
    let old = bytes_at t.tree path in
    let s : Shows t a.entries.items a.blocks a.nodes a.room a.version = record { is = c.self.view_is; kept = c.self.invariant } in
    let bytes = take c.args.size old in
    let long : length bytes ≡ c.min.result = size_is _ _ _ _ (length-take c.args.size old) (ap length c.bytes_at.ensures.value) c.min.ensures in
    let within = truncated_within t.limits t.tree path old c.args.size c.requires.file (shown_within s) in
    let x = c.index_mut.result.now in
    let stands = (found_entry s path c.place_at-place.result x c.place_at-place.ensures c.index_mut.ensures.value).1 in
    let news = with_content s path (File bytes) c.truncate.new.self c.place_at-place.result x c.place_at-place.ensures c.index_mut.ensures.value (c.truncate.ensures old (content_is _ _ (sym stands ∙ c.requires.file))) in
    (kept_change s (map_of.insert t.tree path (File bytes)) _ c.blocks_resized-blocks.result news (c.blocks_resized-blocks.ensures.is_tree bytes) (c.blocks_resized-blocks.ensures.used bytes long) within).1
