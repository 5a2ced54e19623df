use Rattle.std.proofs.Common.{◌≡◌, map, [], ◌∷◌, ◌++◌, sym, ap, ◌∙◌, arith}
use Rattle.std.specs.List.{range_with_len}
use Rattle.std.specs.Option.{unwrap_or}
use Rattle.zj_layout.specs.Image.{image_of, no_link, link_or_none}
use Rattle.zj_layout.proofs.Entered.{place_of, no_entry, map_more, dir_links}
use Rattle.zj_layout.proofs.image.links.Goals as goal
use Rattle.zj_layout.proofs.image.links.Goals.{in-Some+in_ok-push, in_default}

pub loop-place-preserved : goal.loop-place-preserved
loop-place-preserved c =
    let im = image_of c.args.sizes.now c.args.blocks.now in
    let has = place_of im c.args.dir c.loop-place.place c.node_of-node.result c.node_of-node.ensures (grind arith) (omega arith) in
    elim c.match-find_link.branch [
      | in-Some+in_ok-push w ↦
          (λ i. (w.links-is i).items) ∙ w.in_ok-push.ensures.items
          ∙ (λ i. c.loop-place.invariant i ++ ap (λ o. unwrap_or o no_link) w.in-Some.ensures i ∷ [])
          ∙ sym (map_more (link_or_none im c.args.dir) c.loop-place.place)
      | in_default w ↦ absurd (no_entry c.args.sizes.now c.args.blocks.now c.requires.entries c.args.dir c.loop-place.place has w.in_default.ensures)
    ]

pub returns : goal.returns
returns c =
    let im = image_of c.args.sizes.now c.args.blocks.now in
    let end : c.loop-place.place ≡ c.node_of-node.result.size = omega arith in
    c.loop-place.invariant ∙ ap (λ n. map (link_or_none im c.args.dir) (range_with_len 0 n)) end ∙ dir_links im c.args.dir c.node_of-node.result c.node_of-node.ensures (grind arith)
