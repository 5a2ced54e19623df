use Rattle.std.proofs.Common.{◌≡◌, ◌≢◌, ℕ, List, sym, ap, ◌∙◌, subst, arith}
use Rattle.std.proofs.lemmas.List.{with_items_is}
use Rattle.zj_tx.specs.declared.part.Part.{Part}
use Rattle.zj_tx.specs.Record.{IsRecord, record_of}
use Rattle.zj_tx.specs.Running.{Transaction}
use Rattle.zj_tx.proofs.running.Running.seal.Goals as goal

-- the record that is made
made : (c : goal.After-self-4-1) → IsRecord (record_of c.self.inside.number c.fill_bounds.new.bounds c.replace-parts.result.items)
made c =
    let is : c.replace-parts.result.items ≡ c.self.inside.parts.items = ap (λ v. v.items) c.replace-parts.ensures.value in
    subst (λ (ps : List Part). IsRecord (record_of c.self.inside.number c.fill_bounds.new.bounds ps)) (sym is) (record {
      number = let same = ap (λ (t : Transaction). t.number) c.self.view_is in let low = c.requires.number in omega (arith, same, low);
      bounds = c.fill_bounds.ensures.fit;
      cores =
          let some : c.self.inside.handles ≢ 0 = λ e. c.requires.handles (sym (ap (λ (t : Transaction). t.handles) c.self.view_is) ∙ e) in
          let laid = c.self.invariant.added some in
          let few = c.self.invariant.cores in
          let many = c.fill_bounds.ensures.len ∙ c.deref_mut.ensures.len ∙ ap (λ v. v.len) c.replace-bounds.ensures.value in
          omega (arith, laid, few, many);
      parts = c.self.invariant.parts;
      blocks = c.self.invariant.blocks;
      ascending = c.self.invariant.ascending;
    })

pub invariant_of-result : goal.invariant_of-result
invariant_of-result c = subst (λ (bs : List ℕ). IsRecord (record_of c.self.inside.number bs c.replace-parts.result.items))
    (sym (with_items_is c.replace-bounds.result c.fill_bounds.new.bounds (c.fill_bounds.ensures.len ∙ c.deref_mut.ensures.len))) (made c)

pub returns-clause-record : goal.returns-clause-record
returns-clause-record c = invariant_of-result c
