-- The transaction was sealed, and its record laid and opened, or the journal has failed.
use Rattle.std.proofs.Common.{◌<◌, ℕ, sym, ◌∙◌, subst}
use Rattle.std.proofs.lemmas.Result.{err_from_is_err_and}
use Rattle.zj_core.proofs.Committed.{core_commits, core_fails, fails_to_commit}
use Rattle.zj_core.proofs.Running.{sealed_accepted}
use Rattle.zj_core.proofs.handles.Core.commit.Goals as goal

pub invariant_of-self : goal.invariant_of-self
invariant_of-self g c =
    core_fails c.self.inside.pass c.self.inside.area c.self.inside.sizes c.self.inside.handle c.self.inside.running c.self.invariant c.args.self.now c.self.view_is c.requires.idle
    (sym c.failed.ensures ∙ c.if-failed.false) c.sealed_is_frozen.ensures.none c.write_record.new.area c.seal-sealed.new.self c.seal-sealed.ensures.next c.in_err-write_record.ensures.err

pub returns-in_err-write_record : goal.returns-in_err-write_record
returns-in_err-write_record g c =
    let p = err_from_is_err_and c.from_residual.result c.from_residual.ensures.1 in
    let sound = sym c.failed.ensures ∙ c.if-failed.false in
    rw (p.1, p.2)
    (fails_to_commit c.self.inside.pass c.self.inside.area c.self.inside.sizes c.self.inside.handle c.self.inside.running c.self.invariant c.args.self.now c.self.view_is c.requires.idle
    sound c.sealed_is_frozen.ensures.none c.write_record.new.area c.seal-sealed.new.self c.seal-sealed.ensures.next g.D.Disk.view c.seal-sealed.result
    (λ none. c.if-handles-eq0.false (c.handles.ensures ∙ none)) c.seal-sealed.ensures.sealed c.seal-sealed.ensures.record
    (sealed_accepted c.self.inside.pass c.self.inside.area c.self.inside.sizes c.self.inside.handle c.self.inside.running c.self.invariant.runs sound c.self.invariant.journal c.seal-sealed.result c.seal-sealed.ensures.sealed c.seal-sealed.ensures.record
    (subst (λ (n : ℕ). n < c.self.inside.area.sizes.cores) c.core-2.ensures.core c.core-2.ensures.within) c.sealed_is_frozen.ensures.within)
    c.in_err-write_record.ensures.err c.write_record.ensures.images c.write_record.ensures.continues c.write_record.ensures.calls_at_most c.write_record.ensures.is_disk c.in_err-write_record.ensures.cause)

pub invariant_of-self-2 : goal.invariant_of-self-2
invariant_of-self-2 g c =
    core_commits c.self.inside.pass c.self.inside.area c.self.inside.sizes c.self.inside.handle c.self.inside.running c.self.invariant c.args.self.now c.self.view_is c.requires.idle
    (sym c.failed.ensures ∙ c.if-failed.false) c.sealed_is_frozen.ensures.none c.write_record.new.area c.seal-sealed.new.self c.seal-sealed.ensures.next c.seal-sealed.result c.in_ok-write_record.ensures.ok
