use Rattle.std.proofs.Common.{◌≡◌, ℕ, ◌+◌, ◌≤◌, true, List, Option, Some, None, Result, Ok, Err, refl, sym, ap, ◌∙◌, subst, arith}
use Rattle.std.specs.Prelude.{OnOk, is_ok}
use Rattle.std.specs.Option.{IsSomeAnd}
use Rattle.zj_tx.specs.declared.part.Part.{Part}
use Rattle.zj_tx.specs.Parts.{ArePut}
use Rattle.zj_tx.specs.Running.{Transaction, new_count}
use Rattle.zj_tx.proofs.running.Running.add.Goals as goal

-- what follows of an answer Ok, where it is that
on_ok : {A B : Type 0} (r : Result A B) (P : Type 0) → is_ok r ≡ true → OnOk r P → P
on_ok (Ok x) P is p = p
on_ok (Err x) P is p = absurd cc

-- the value of which a fact holds
some_of : (o : Option ℕ) (P : ℕ → Type 0) → IsSomeAnd o P → (x : ℕ) × (o ≡ Some x) × P x
some_of None P h = absurd h
some_of (Some x) P h = (x, refl, h)

pub invariant_of-self : goal.invariant_of-self
invariant_of-self c =
    let old = c.self.inside.parts.items in
    let new = c.add_all-added.new.blocks.items in
    let put : ArePut old new c.args.written.now (c.args.ticket + 1) = on_ok c.add_all-added.result (ArePut old new c.args.written.now (c.args.ticket + 1)) (sym c.is_ok.ensures.value ∙ c.if-prove.false) c.add_all-added.ensures.ok in
    let parts_is : old ≡ c.args.self.now.parts = ap (λ (t : Transaction). t.parts) c.self.view_is in
    let some = some_of c.args.self.now.room (λ room. new_count c.args.self.now.parts c.args.written.now ≤ room) c.requires.room in
    let room = c.self.invariant.room some.0 (ap (λ (t : Transaction). t.room) c.self.view_is ∙ some.1) in
    let fits : new_count old c.args.written.now ≤ some.0 = subst (λ (ps : List Part). new_count ps c.args.written.now ≤ some.0) (sym parts_is) some.2 in
    record {
      core = c.self.invariant.core;
      cores = c.self.invariant.cores;
      parts = c.add_all-added.ensures.fit c.self.invariant.parts;
      ascending = put.ascending;
      blocks = let many = put.many in let few = room.0 in omega (arith, many, few, fits);
      room = λ more no. absurd cc;
      added = λ some. room.2;
    }
