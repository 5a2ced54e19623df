use Rattle.std.proofs.Common.{sym, ◌∙◌}
use Rattle.zj_layout.proofs.Ruled.{read_count, placed, unplaced}
use Rattle.zj_layout.proofs.rules.is_placed.Goals as goal

pub is_in_data-requires : goal.is_in_data-requires
is_in_data-requires c = read_count c.args.sizes.now c.args.blocks.now c.args.number c.in-Some.node c.requires.within c.in-Some.ensures

pub returns : goal.returns
returns c =
    let sizes = c.args.sizes.now in
    let s = c.args.blocks.now in (
      λ h. placed sizes s c.args.number c.in-Some.node c.requires.within c.in-Some.ensures (c.is_root_kind.ensures.0 c.if-not-is_root_kind.false) (sym c.is_in_data.ensures ∙ h),
      λ h. c.is_in_data.ensures ∙ unplaced sizes s c.args.number c.in-Some.node c.requires.within c.in-Some.ensures h,
    )
