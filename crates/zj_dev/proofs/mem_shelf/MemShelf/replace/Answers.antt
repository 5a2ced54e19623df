use Rattle.std.proofs.Common.{◌∙◌, sym, refl, arith}
use Rattle.zj_dev.proofs.Places.{found_within, found_held, found_set, found_others, some_found}
use Rattle.zj_dev.proofs.mem_shelf.MemShelf.replace.Goals as goal

pub unwrap-i-requires : goal.unwrap-i-requires
unwrap-i-requires c = some_found c.args.name.now c.args.self.now.places.items c.find.result (sym c.find.ensures) c.requires

pub index_mut-place-requires : goal.index_mut-place-requires
index_mut-place-requires c =
    let l = found_within c.args.name.now c.args.self.now.places.items c.unwrap-i.result (sym c.find.ensures ∙ c.unwrap-i.ensures) in
    omega arith

pub returns-clause-before : goal.returns-clause-before
returns-clause-before c = c.replace.ensures.value ∙ sym (found_held c.args.name.now c.args.self.now.places.items c.unwrap-i.result c.index_mut-place.result.now (sym c.find.ensures ∙ c.unwrap-i.ensures) c.index_mut-place.ensures.value)

pub returns-clause-held : goal.returns-clause-held
returns-clause-held c = found_set c.args.name.now c.args.self.now.places.items c.unwrap-i.result c.index_mut-place.result.now _ (sym c.find.ensures ∙ c.unwrap-i.ensures) c.index_mut-place.ensures.value refl ∙ rw c.replace.ensures.after refl

pub returns-clause-others : goal.returns-clause-others
returns-clause-others c = λ other differ.
    found_others c.args.name.now other c.args.self.now.places.items c.unwrap-i.result c.index_mut-place.result.now _ (sym c.find.ensures ∙ c.unwrap-i.ensures) c.index_mut-place.ensures.value refl differ
