use Rattle.std.proofs.Common.{◌≡◌, ℕ, ◌+◌, ◌-◌, ◌≤◌, List, length, max, Some, ap, sym, subst, ◌∙◌, arith}
use Rattle.std.specs.FinMap as map_of
use Rattle.zj_tree.specs.declared.content.Content.{Content}
use Rattle.zj_tree.specs.declared.content.Content.TheVariants.{File}
use Rattle.zj_tree.specs.Bytes.{overwritten}
use Rattle.zj_tree.specs.Changed.{bytes_at}
use Rattle.zj_tree.proofs.KeptLemmas.{Shows, shown_within, kept_change, found_entry, in_range, with_content}
use Rattle.zj_tree.proofs.WithinLemmas.{length-overwritten, written_within}
use Rattle.zj_tree.proofs.tree.Tree.write.Goals as goal

file_is : (a b : List ℕ) → Some (File a) ≡ Some (File b) → a ≡ b
file_is a b e = cc

content_is : (a b : Content) → Some a ≡ Some b → a ≡ b
content_is a b e = cc

pub index_mut-requires : goal.index_mut-requires
index_mut-requires c =
    let a = c.self.inside in
    let t = c.args.self.now in
    let path = c.args.path.now in
    let old = bytes_at t.tree path in
    let s : Shows t a.entries.items a.blocks a.nodes a.room a.version = record { is = c.self.view_is; kept = c.self.invariant } in
    omega (arith, in_range s path c.place_at-place.result c.place_at-place.ensures, a.entries.ok.0)

pub write-requires : goal.write-requires
write-requires c bytes is =
    let a = c.self.inside in
    let t = c.args.self.now in
    let path = c.args.path.now in
    let old = bytes_at t.tree path in
    let s : Shows t a.entries.items a.blocks a.nodes a.room a.version = record { is = c.self.view_is; kept = c.self.invariant } in
    let x = c.index_mut.result.now in
    let stands = (found_entry s path c.place_at-place.result x c.place_at-place.ensures c.index_mut.ensures.value).1 in
    subst (λ (b : List ℕ). c.args.at ≤ length b) (file_is _ _ (sym c.requires.file ∙ stands ∙ ap Some is)) c.requires.within

-- the length of bytes that others were put over is the greater of both ends
size_is : (n end old found : ℕ) {most : ℕ} → n ≡ end + (old - end) → found ≡ old → most ≡ max found end → n ≡ most
size_is n end old found long is most = omega arith

pub invariant_of-self-2 : goal.invariant_of-self-2
invariant_of-self-2 c =
    let a = c.self.inside in
    let t = c.args.self.now in
    let path = c.args.path.now in
    let old = bytes_at t.tree path in
    let s : Shows t a.entries.items a.blocks a.nodes a.room a.version = record { is = c.self.view_is; kept = c.self.invariant } in
    let bytes = overwritten old c.args.at c.args.bytes.now in
    let x = c.index_mut.result.now in
    let stands = (found_entry s path c.place_at-place.result x c.place_at-place.ensures c.index_mut.ensures.value).1 in
    let written = c.in_ok-write.ensures.ok old (content_is _ _ (sym stands ∙ c.requires.file)) in
    let news = with_content s path (File bytes) c.write.new.self c.place_at-place.result x c.place_at-place.ensures c.index_mut.ensures.value written in
    let long : length bytes ≡ c.max-size.result = size_is _ _ _ _ (length-overwritten old c.args.at c.args.bytes.now c.requires.within) (ap length c.bytes_at.ensures.value) c.max-size.ensures in
    (kept_change s (map_of.insert t.tree path (File bytes)) _ c.blocks_resized-blocks.result news (c.blocks_resized-blocks.ensures.is_tree bytes) (c.blocks_resized-blocks.ensures.used bytes long)
    (written_within t.limits t.tree path old c.args.at c.args.bytes.now c.requires.file c.requires.within c.requires.size c.requires.room (shown_within s))).0

pub returns-clause-ok : goal.returns-clause-ok
returns-clause-ok c =
    let a = c.self.inside in
    let t = c.args.self.now in
    let path = c.args.path.now in
    let old = bytes_at t.tree path in
    let s : Shows t a.entries.items a.blocks a.nodes a.room a.version = record { is = c.self.view_is; kept = c.self.invariant } in
    let bytes = overwritten old c.args.at c.args.bytes.now in
    let x = c.index_mut.result.now in
    let stands = (found_entry s path c.place_at-place.result x c.place_at-place.ensures c.index_mut.ensures.value).1 in
    let written = c.in_ok-write.ensures.ok old (content_is _ _ (sym stands ∙ c.requires.file)) in
    let news = with_content s path (File bytes) c.write.new.self c.place_at-place.result x c.place_at-place.ensures c.index_mut.ensures.value written in
    let long : length bytes ≡ c.max-size.result = size_is _ _ _ _ (length-overwritten old c.args.at c.args.bytes.now c.requires.within) (ap length c.bytes_at.ensures.value) c.max-size.ensures in
    (kept_change s (map_of.insert t.tree path (File bytes)) _ c.blocks_resized-blocks.result news (c.blocks_resized-blocks.ensures.is_tree bytes) (c.blocks_resized-blocks.ensures.used bytes long)
    (written_within t.limits t.tree path old c.args.at c.args.bytes.now c.requires.file c.requires.within c.requires.size c.requires.room (shown_within s))).1
