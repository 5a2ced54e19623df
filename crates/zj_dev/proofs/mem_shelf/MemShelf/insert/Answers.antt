use Rattle.std.proofs.Common.{◌∙◌, sym, refl, arith}
use Rattle.zj_dev.specs.declared.mem_shelf.ShelfPlace.{ShelfPlace}
use Rattle.zj_dev.proofs.Places.{found_within, found_set, found_others, pushed_held, pushed_others}
use Rattle.zj_dev.proofs.mem_shelf.MemShelf.insert.Goals as goal

pub index_mut-place-requires : goal.index_mut-place-requires
index_mut-place-requires c =
    let l = found_within c.args.name.now c.args.self.now.places.items c.in-Some.i (sym c.find.ensures ∙ c.in-Some.is) in
    omega arith

pub returns-in-Some-clause-held : goal.returns-in-Some-clause-held
returns-in-Some-clause-held c = found_set c.args.name.now c.args.self.now.places.items c.in-Some.i c.index_mut-place.result.now _ (sym c.find.ensures ∙ c.in-Some.is) c.index_mut-place.ensures.value refl

pub returns-in-Some-clause-others : goal.returns-in-Some-clause-others
returns-in-Some-clause-others c = λ other differ.
    found_others c.args.name.now other c.args.self.now.places.items c.in-Some.i c.index_mut-place.result.now _ (sym c.find.ensures ∙ c.in-Some.is) c.index_mut-place.ensures.value refl differ

pub returns-clause-held : goal.returns-clause-held
returns-clause-held c =
    let new : ShelfPlace = record { name = c.in_ok-name.name; held = c.args.held } in
    pushed_held c.args.name.now c.args.self.now.places.items c.push.new.self.items new (sym c.find.ensures ∙ c.in_default.is) c.in_ok-name.ensures.ok c.in_ok-push.ensures.items

pub returns-clause-others : goal.returns-clause-others
returns-clause-others c = λ other differ.
    let new : ShelfPlace = record { name = c.in_ok-name.name; held = c.args.held } in
    pushed_others c.args.name.now other c.args.self.now.places.items c.push.new.self.items new c.in_ok-name.ensures.ok c.in_ok-push.ensures.items differ
