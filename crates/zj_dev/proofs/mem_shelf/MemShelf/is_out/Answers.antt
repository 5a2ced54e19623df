use Rattle.std.proofs.Common.{◌∙◌, ap, sym, arith}
use Rattle.zj_dev.specs.MemShelf.{is_out}
use Rattle.zj_dev.specs.declared.mem_shelf.Held.{Held}
use Rattle.zj_dev.proofs.Places.{found_within, found_held, none_held}
use Rattle.zj_dev.proofs.mem_shelf.MemShelf.is_out.Goals as goal

pub index-requires : goal.index-requires
index-requires c =
    let l = found_within c.args.name.now c.args.self.now.places.items c.in-Some.i (sym c.find.ensures ∙ c.in-Some.is) in
    omega arith

pub returns-in-Some : goal.returns-in-Some
returns-in-Some c =
    let e = ap (λ (held : Held). is_out held) (found_held c.args.name.now c.args.self.now.places.items c.in-Some.i c.index.result.now (sym c.find.ensures ∙ c.in-Some.is) c.index.ensures) in
    c.is_out.ensures ∙ sym e

pub returns-in-None : goal.returns-in-None
returns-in-None c = ap (λ (held : Held). is_out held) (sym (none_held c.args.name.now c.args.self.now.places.items (sym c.find.ensures ∙ c.in-None.is)))
