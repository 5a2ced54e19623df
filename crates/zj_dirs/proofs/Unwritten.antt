-- Where nothing is written yet, a made state is a possible one.
use Rattle.std.proofs.Common.{◌≡◌, ℕ, ◌<◌, List, refl, sym, ap, ◌∙◌, subst, arith}
use Rattle.std.specs.FinMap as map_of
use Rattle.std.specs.FinMap.{get-empty}
use Rattle.std.specs.Ordering.{nat_cmp}
use Rattle.zj_block.specs.Lists.{Entries}
use Rattle.zj_block.specs.Sizes.{Numbers}
use Rattle.zj_layout.specs.declared.fields.Kind.TheVariants.{Dir}
use Rattle.zj_layout.specs.Image.{Image, node_of}
use Rattle.zj_layout.specs.Rules.{HasPlace}
use Rattle.zj_layout.specs.Shows.{Changes}
use Rattle.zj_layout.specs.Stored.{IsStored}
use Rattle.zj_layout.proofs.Sound.{link_place}
use Rattle.zj_dirs.specs.Looking.{StandsAt}
use Rattle.zj_dirs.specs.Possible.{AllTaken, Made}
use Rattle.zj_dirs.proofs.Seen.{some_differs}
use Rattle.zj_dirs.proofs.Walks.{always_made, possible_stored}

pub unwritten_stored : (sizes : Numbers) (found : Entries) (written : Changes) → written ≡ map_of.empty → Made sizes found written (IsStored sizes)
unwritten_stored sizes found written is = subst (λ w. Made sizes found w (IsStored sizes)) (sym is) (always_made sizes found (IsStored sizes) (λ state tree p. possible_stored sizes state tree p.shows))

-- node 0 is a directory
pub unwritten_root : (sizes : Numbers) (found : Entries) (written : Changes) → written ≡ map_of.empty → Made sizes found written (λ image. (node_of image 0).kind ≡ Dir)
unwritten_root sizes found written is = subst (λ w. Made sizes found w (λ image. (node_of image 0).kind ≡ Dir)) (sym is)
    (always_made sizes found (λ image. (node_of image 0).kind ≡ Dir) (λ state tree p. ((possible_stored sizes state tree p.shows).placed 0 (omega (arith, p.shows.shape.limits.least_nodes))).root refl))

-- an entry that stands at a place is one of the directory's
pub stands_at_place : (image : Image) (dir place node : ℕ) (name : List ℕ) → StandsAt image dir name place node → HasPlace image dir place
stands_at_place image dir place node name s = (link_place image dir place (record { node = node; name = name }) s.stands).0

pub stands_within : (image : Image) (dir place node : ℕ) (name : List ℕ) → StandsAt image dir name place node → place < (node_of image dir).size
stands_within image dir place node name s = (stands_at_place image dir place node name s).within

pub nothing_taken : (found : Entries) (written : Changes) → written ≡ map_of.empty → AllTaken found written
nothing_taken found written is b h = absurd (some_differs h (ap (λ w. map_of.get w b) is ∙ get-empty nat_cmp b))
