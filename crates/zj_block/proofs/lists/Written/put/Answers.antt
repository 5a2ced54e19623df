use Rattle.std.proofs.Common.{◌≡◌, ◌≢◌, ℕ, ◌<◌, List, [], length, get_or, set, sym, ap, subst, ◌∙◌, arith}
use Rattle.std.specs.FinMap as map
use Rattle.std.specs.Ordering.{nat_cmp}
use Rattle.std.proofs.lemmas.List.{get_or_default}
use Rattle.zj_block.specs.Lists.{Entries, IsInsertionPoint}
use Rattle.zj_block.proofs.SortedEntries.{insert_is, put_between, put_over, written_between, written_over}
use Rattle.zj_block.proofs.lists.Written.put.Goals as goal
use Rattle.zj_block.proofs.lists.Written.put.Goals.{else-at-len-via-then-at-len+else-index-b, else-at-len-via-else-at-len}

-- an entry with another number, at any default
other_number : (entries : Entries) (number at : ℕ) (entry : ℕ × List ℕ) → entry ≡ get_or entries at entry → entry.0 ≢ number → at < length entries → (get_or entries at (0, [])).0 ≢ number
other_number entries number at entry is other within same =
    other (ap (λ (e : ℕ × List ℕ). e.0) (is ∙ get_or_default entries at entry (0, []) within) ∙ same)

-- the content goes over the older one
over : (entries shown : Entries) (number : ℕ) (content : List ℕ) (at : ℕ) (entry : ℕ × List ℕ) → shown ≡ entries → IsInsertionPoint shown number at → at < length entries → entry ≡ get_or entries at entry → entry.0 ≡ number → map.put nat_cmp number content entries ≡ set entries at (number, content)
over entries shown number content at entry is place within read same =
    put_over entries number content at entry (subst (λ (es : Entries). IsInsertionPoint es number at) is place) within (ap (λ (e : ℕ × List ℕ). e.0) (sym read) ∙ same)

pub invariant_of-self : goal.invariant_of-self
invariant_of-self c =
    let old = c.self.inside.entries.items in
    let within : c.place-at.result < length old = omega (arith, ap length c.deref.ensures.value, c.deref.ensures.len) in
    let put_is = over old c.deref.result.now c.args.b.0 c.args.content.now c.place-at.result c.index.result.now c.deref.ensures.value c.place-at.ensures within c.index.ensures c.if-index-b.true in
    written_over old c.args.b.0 c.args.content.now c.place-at.result c.self.invariant c.words-words.ensures.content put_is

pub returns-then-index-b-clause-ok : goal.returns-then-index-b-clause-ok
returns-then-index-b-clause-ok c =
    let old = c.self.inside.entries.items in
    let within : c.place-at.result < length old = omega (arith, ap length c.deref.ensures.value, c.deref.ensures.len) in
    let put_is = over old c.deref.result.now c.args.b.0 c.args.content.now c.place-at.result c.index.result.now c.deref.ensures.value c.place-at.ensures within c.index.ensures c.if-index-b.true in
    ap (map.from_sorted {R = nat_cmp}) (sym put_is)
    ∙ insert_is old c.self.invariant.sorted c.args.b.0 c.args.content.now
    ∙ ap (λ m. map.insert m c.args.b.0 c.args.content.now) c.self.view_is

pub invariant_of-self-2 : goal.invariant_of-self-2
invariant_of-self-2 c =
    let old = c.self.inside.entries.items in
    let at = c.place-at.result in
    let place : IsInsertionPoint old c.args.b.0 at = subst (λ (es : Entries). IsInsertionPoint es c.args.b.0 at) c.deref.ensures.value c.place-at.ensures in
    let other : at < length old → (get_or old at (0, [])).0 ≢ c.args.b.0 = λ within. elim c.else-at-len.branch [
      | else-at-len-via-then-at-len+else-index-b w ↦ other_number old c.args.b.0 at w.index.result.now w.index.ensures w.if-index-b.false within
      | else-at-len-via-else-at-len w ↦ absurd (omega (arith, within, ap length c.deref.ensures.value, c.deref.ensures.len))
    ] in
    let put_is = put_between old c.args.b.0 c.args.content.now at (0, []) place other in
    rw c.in_ok-insert.ensures.items (written_between old c.args.b.0 c.args.content.now at c.self.invariant c.words-words.ensures.content put_is)

pub returns-clause-ok : goal.returns-clause-ok
returns-clause-ok c =
    let old = c.self.inside.entries.items in
    let at = c.place-at.result in
    let place : IsInsertionPoint old c.args.b.0 at = subst (λ (es : Entries). IsInsertionPoint es c.args.b.0 at) c.deref.ensures.value c.place-at.ensures in
    let other : at < length old → (get_or old at (0, [])).0 ≢ c.args.b.0 = λ within. elim c.else-at-len.branch [
      | else-at-len-via-then-at-len+else-index-b w ↦ other_number old c.args.b.0 at w.index.result.now w.index.ensures w.if-index-b.false within
      | else-at-len-via-else-at-len w ↦ absurd (omega (arith, within, ap length c.deref.ensures.value, c.deref.ensures.len))
    ] in
    let put_is = put_between old c.args.b.0 c.args.content.now at (0, []) place other in
    ap (map.from_sorted {R = nat_cmp}) (c.in_ok-insert.ensures.items ∙ sym put_is)
    ∙ insert_is old c.self.invariant.sorted c.args.b.0 c.args.content.now
    ∙ ap (λ m. map.insert m c.args.b.0 c.args.content.now) c.self.view_is
