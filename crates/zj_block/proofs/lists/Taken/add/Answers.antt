use Rattle.std.proofs.Common.{◌≡◌, ◌<◌, ◌++◌, ◌∷◌, [], ℕ, List, None, Some, cond, eqb, ◌∙◌, ap, sym, subst}
use Rattle.std.proofs.lemmas.List.Elements.{All-push}
use Rattle.zj_block.specs.Block.{IsContent}
use Rattle.zj_block.specs.Lists.{Entries, content_under, count_left}
use Rattle.zj_block.proofs.Entries.{apart_push}
use Rattle.zj_block.proofs.Untaken.{fewer_left, under_more}
use Rattle.zj_block.proofs.lists.Taken.add.Goals as goal

pub invariant_of-self-2 : goal.invariant_of-self-2
invariant_of-self-2 c =
    let old = c.self.inside.found.items in
    let absent : content_under old c.args.b.0 ≡ None = ap (λ entries. content_under entries c.args.b.0) c.self.view_is ∙ c.requires in
    rw c.in_ok-push.ensures.items (record {
      apart = apart_push old c.args.b.0 c.args.found.now c.self.invariant.apart absent;
      contents = All-push (λ (e : ℕ × List ℕ). IsContent e.1) old (c.args.b.0, c.args.found.now) c.self.invariant.contents c.words-words.ensures.content;
    })

-- one entry more
pub returns-clause-under : goal.returns-clause-under
returns-clause-under c k =
    subst (λ (e : Entries). content_under e k ≡ cond (eqb c.args.b.0 k) (Some c.args.found.now) (content_under c.args.self.now k))
    (sym (c.in_ok-push.ensures.items ∙ ap (λ (e : Entries). e ++ (c.args.b.0, c.args.found.now) ∷ []) c.self.view_is))
    (under_more c.args.self.now c.args.b.0 c.args.found.now c.requires k)

pub returns-clause-fewer : goal.returns-clause-fewer
returns-clause-fewer c blocks lt =
    subst (λ (e : Entries). count_left e blocks < count_left c.args.self.now blocks)
    (sym (c.in_ok-push.ensures.items ∙ ap (λ (e : Entries). e ++ (c.args.b.0, c.args.found.now) ∷ []) c.self.view_is))
    (fewer_left c.args.self.now c.args.b.0 c.args.found.now c.requires blocks lt)
