use Rattle.std.proofs.Common.{◌≡◌, ℕ, List, [], ◌∷◌, Option, Some, None, sym, ap, subst, ◌∙◌, arith, slice_index_or}
use Rattle.std.specs.Prelude.{IfNone, codes}
use Rattle.std.specs.Result.{result_err}
use Rattle.zj_block.specs.Sizes.{Numbers}
use Rattle.zj_cli.specs.declared.phase.Phase.{Phase}
use Rattle.zj_cli.specs.declared.status.Fault.{Fault}
use Rattle.zj_cli.specs.declared.status.Fault.TheVariants as faults
use Rattle.zj_cli.specs.declared.tool.Reading.{Reading}
use Rattle.zj_cli.specs.declared.tool.Reading.TheVariants as readings
use Rattle.zj_cli.specs.Tool as commands
use Rattle.zj_cli.specs.Tool.{Asks, Command}
use Rattle.zj_cli.specs.Check.{CheckEnds, DumpEnds, RunsCheck, RunsDump}
use Rattle.zj_cli.specs.Make.{MakeEnds}
use Rattle.zj_cli.specs.Outside.{Outside}
use Rattle.zj_cli.specs.Play.{PlayEnds, RunsPlay}
use Rattle.zj_cli.proofs.WordLemmas.{one_make}
use Rattle.zj_cli.proofs.tool.zj_tool.Goals as goal
use Rattle.zj_cli.proofs.tool.zj_tool.Goals.{in-Some-Play, in-Some-Check, in-Some-Dump, in-None}

-- a status tells the fault of its command
make_tells : (asked sizes : Numbers) (before after : Outside) (fault told : Option Fault) → MakeEnds sizes before after fault → told ≡ fault → sizes ≡ asked → MakeEnds asked before after told
make_tells asked sizes before after fault told ends same one = subst (λ (s : Numbers). MakeEnds s before after told) one (subst (λ (f : Option Fault). MakeEnds sizes before after f) (sym same) ends)

check_tells : (before after : Outside) (fault told : Option Fault) → RunsCheck before after fault → told ≡ fault → RunsCheck before after told
check_tells before after fault told runs same = subst (λ (f : Option Fault). RunsCheck before after f) (sym same) runs

play_tells : (before after : Outside) (phases told_phases : List Phase) (fault told : Option Fault) → RunsPlay before after phases fault → told_phases ≡ phases → told ≡ fault → RunsPlay before after told_phases told
play_tells before after phases told_phases fault told runs same_phases same = subst (λ (f : Option Fault). RunsPlay before after told_phases f) (sym same) (subst (λ (ps : List Phase). RunsPlay before after ps fault) (sym same_phases) runs)

-- no command ends with the fault of the words
make_knows_words : (sizes : Numbers) (before after : Outside) (fault told : Option Fault) → MakeEnds sizes before after fault → told ≡ fault → told ≡ Some faults.Words → ⊥
make_knows_words sizes before after fault told ends same words = subst (λ (f : Option Fault). MakeEnds sizes before after f) (sym same ∙ words) ends

play_knows_words : (before after : Outside) (phases : List Phase) (fault told : Option Fault) → RunsPlay before after phases fault → told ≡ fault → told ≡ Some faults.Words → ⊥
play_knows_words before after phases fault told runs same words = (subst (λ (f : Option Fault). PlayEnds before after phases f) (sym same ∙ words) runs.ends).script

check_knows_words : (before after : Outside) (fault told : Option Fault) → RunsCheck before after fault → told ≡ fault → told ≡ Some faults.Words → ⊥
check_knows_words before after fault told runs same words = subst (λ (f : Option Fault). CheckEnds before after f) (sym same ∙ words) runs.ends

dump_tells : (before after : Outside) (fault told : Option Fault) → RunsDump before after fault → told ≡ fault → RunsDump before after told
dump_tells before after fault told runs same = subst (λ (f : Option Fault). RunsDump before after f) (sym same) runs

dump_knows_words : (before after : Outside) (fault told : Option Fault) → RunsDump before after fault → told ≡ fault → told ≡ Some faults.Words → ⊥
dump_knows_words before after fault told runs same words = subst (λ (f : Option Fault). DumpEnds before after f) (sym same ∙ words) runs.ends

pub returns-in-Some-clause-make : goal.returns-in-Some-clause-make
returns-in-Some-clause-make g c sizes asks =
    make_tells sizes c.in-Some.sizes _ _ _ _ (c.make.ensures.ends (g.S.Source.left c.args.input.now) (g.K.Sink.held c.args.out.now) (g.S.Source.faults c.args.input.now) (g.K.Sink.faults c.args.out.now)) (c.new.ensures.fault ∙ c.err.ensures.value) (one_make _ c.in-Some.sizes sizes c.in-Some.ensures.some asks)

pub returns-in-Some-clause-words : goal.returns-in-Some-clause-words
returns-in-Some-clause-words g c = (
  λ words. absurd (make_knows_words c.in-Some.sizes _ _ _ _ (c.make.ensures.ends (g.S.Source.left c.args.input.now) (g.K.Sink.held c.args.out.now) (g.S.Source.faults c.args.input.now) (g.K.Sink.faults c.args.out.now)) (c.new.ensures.fault ∙ c.err.ensures.value) words),
  λ none. absurd (none (commands.Make c.in-Some.sizes) c.in-Some.ensures.some),
)

pub returns-in-Some-clause-untouched : goal.returns-in-Some-clause-untouched
returns-in-Some-clause-untouched g c words =
    absurd (make_knows_words c.in-Some.sizes _ _ _ _ (c.make.ensures.ends (g.S.Source.left c.args.input.now) (g.K.Sink.held c.args.out.now) (g.S.Source.faults c.args.input.now) (g.K.Sink.faults c.args.out.now)) (c.new.ensures.fault ∙ c.err.ensures.value) words)

made_none : {X : Type 0} (o : Option X) (P : Type 0) → o ≡ None → IfNone o P → P
made_none None P e is = is
made_none (Some x) P e is = cc

-- words that ask for no command
none_asked : (words : List (List ℕ)) (command : Command) → (Asks words commands.Play → ⊥) → (Asks words commands.Check → ⊥) → (Asks words commands.Dump → ⊥) → ((sizes : Numbers) → Asks words (commands.Make sizes) → ⊥) → Asks words command → ⊥
none_asked words commands.Play play check dump make asks = play asks
none_asked words commands.Check play check dump make asks = check asks
none_asked words commands.Dump play check dump make asks = dump asks
none_asked words (commands.Make sizes) play check dump make asks = make sizes asks

asked : (words : List (List ℕ)) (reading is : Reading) → reading ≡ is → Asks words (commands.command_of reading) → Asks words (commands.command_of is)
asked words reading is same asks = subst (λ (r : Reading). Asks words (commands.command_of r)) same asks

-- words ask for one command
differ : (words : List (List ℕ)) (a b : List ℕ) → words ≡ a ∷ [] → words ≡ b ∷ [] → (slice_index_or a 0 0 ≡ slice_index_or b 0 0 → ⊥) → ⊥
differ words a b is is' letters = letters (ap (λ (ws : List (List ℕ)). slice_index_or (slice_index_or ws 0 []) 0 0) (sym is ∙ is'))

pub returns-clause-words : goal.returns-clause-words
returns-clause-words g c = elim c.match-read_command.branch [
  | in-Some-Play w ↦ (λ words. absurd (play_knows_words _ _ _ _ _ w.play-done.ensures.runs (c.new-2.ensures.fault ∙ c.err-2.ensures.value ∙ ap (λ r. result_err r) w.done-is) words), λ none. absurd (none (commands.command_of w.in-Some-Play.field-0) w.in-Some-Play.ensures.some))
  | in-Some-Check w ↦ (λ words. absurd (check_knows_words _ _ _ _ (w.check-done.ensures.runs (g.S.Source.left c.args.input.now) (g.S.Source.faults c.args.input.now)) (c.new-2.ensures.fault ∙ c.err-2.ensures.value ∙ ap (λ r. result_err r) w.done-is) words), λ none. absurd (none (commands.command_of w.in-Some-Check.field-0) w.in-Some-Check.ensures.some))
  | in-Some-Dump w ↦ (λ words. absurd (dump_knows_words _ _ _ _ (w.dump-done.ensures.runs (g.S.Source.left c.args.input.now) (g.S.Source.faults c.args.input.now)) (c.new-2.ensures.fault ∙ c.err-2.ensures.value ∙ ap (λ r. result_err r) w.done-is) words), λ none. absurd (none (commands.command_of w.in-Some-Dump.field-0) w.in-Some-Dump.ensures.some))
  | in-None w ↦ (λ words command. none_asked _ command (w.in-None.ensures.no_play) (w.in-None.ensures.no_check) (w.in-None.ensures.no_dump) (made_none c.sizes_to_make.result _ c.in_default.is c.sizes_to_make.ensures.none), λ none. c.new-2.ensures.fault ∙ c.err-2.ensures.value ∙ ap (λ r. result_err r) w.done-is)
]

pub returns-clause-play : goal.returns-clause-play
returns-clause-play g c asks = elim c.match-read_command.branch [
  | in-Some-Play w ↦ rw (w.shelf-is, w.input-is, w.out-is) (play_tells _ _ _ _ _ _ w.play-done.ensures.runs (c.new-2.ensures.phases ∙ ap (λ v. v.items) w.phases-is) (c.new-2.ensures.fault ∙ c.err-2.ensures.value ∙ ap (λ r. result_err r) w.done-is))
  | in-Some-Check w ↦ absurd (differ _ (codes "check") (codes "play") (asked _ w.in-Some-Check.field-0 readings.Check w.in-Some-Check.field-0-is w.in-Some-Check.ensures.some) asks (λ e. omega (arith, e)))
  | in-Some-Dump w ↦ absurd (differ _ (codes "dump") (codes "play") (asked _ w.in-Some-Dump.field-0 readings.Dump w.in-Some-Dump.field-0-is w.in-Some-Dump.ensures.some) asks (λ e. omega (arith, e)))
  | in-None w ↦ absurd (w.in-None.ensures.no_play asks)
]

pub returns-clause-check : goal.returns-clause-check
returns-clause-check g c asks = elim c.match-read_command.branch [
  | in-Some-Play w ↦ absurd (differ _ (codes "play") (codes "check") (asked _ w.in-Some-Play.field-0 readings.Play w.in-Some-Play.field-0-is w.in-Some-Play.ensures.some) asks (λ e. omega (arith, e)))
  | in-Some-Check w ↦ rw (w.shelf-is, w.input-is, w.out-is) (check_tells _ _ _ _ (w.check-done.ensures.runs (g.S.Source.left c.args.input.now) (g.S.Source.faults c.args.input.now)) (c.new-2.ensures.fault ∙ c.err-2.ensures.value ∙ ap (λ r. result_err r) w.done-is))
  | in-Some-Dump w ↦ absurd (differ _ (codes "dump") (codes "check") (asked _ w.in-Some-Dump.field-0 readings.Dump w.in-Some-Dump.field-0-is w.in-Some-Dump.ensures.some) asks (λ e. omega (arith, e)))
  | in-None w ↦ absurd (w.in-None.ensures.no_check asks)
]

pub returns-clause-dump : goal.returns-clause-dump
returns-clause-dump g c asks = elim c.match-read_command.branch [
  | in-Some-Play w ↦ absurd (differ _ (codes "play") (codes "dump") (asked _ w.in-Some-Play.field-0 readings.Play w.in-Some-Play.field-0-is w.in-Some-Play.ensures.some) asks (λ e. omega (arith, e)))
  | in-Some-Check w ↦ absurd (differ _ (codes "check") (codes "dump") (asked _ w.in-Some-Check.field-0 readings.Check w.in-Some-Check.field-0-is w.in-Some-Check.ensures.some) asks (λ e. omega (arith, e)))
  | in-Some-Dump w ↦ rw (w.shelf-is, w.input-is, w.out-is) (dump_tells _ _ _ _ (w.dump-done.ensures.runs (g.S.Source.left c.args.input.now) (g.S.Source.faults c.args.input.now)) (c.new-2.ensures.fault ∙ c.err-2.ensures.value ∙ ap (λ r. result_err r) w.done-is))
  | in-None w ↦ absurd (w.in-None.ensures.no_dump asks)
]

pub returns-clause-untouched : goal.returns-clause-untouched
returns-clause-untouched g c words = elim c.match-read_command.branch [
  | in-Some-Play w ↦ absurd (play_knows_words _ _ _ _ _ w.play-done.ensures.runs (c.new-2.ensures.fault ∙ c.err-2.ensures.value ∙ ap (λ r. result_err r) w.done-is) words)
  | in-Some-Check w ↦ absurd (check_knows_words _ _ _ _ (w.check-done.ensures.runs (g.S.Source.left c.args.input.now) (g.S.Source.faults c.args.input.now)) (c.new-2.ensures.fault ∙ c.err-2.ensures.value ∙ ap (λ r. result_err r) w.done-is) words)
  | in-Some-Dump w ↦ absurd (dump_knows_words _ _ _ _ (w.dump-done.ensures.runs (g.S.Source.left c.args.input.now) (g.S.Source.faults c.args.input.now)) (c.new-2.ensures.fault ∙ c.err-2.ensures.value ∙ ap (λ r. result_err r) w.done-is) words)
  | in-None w ↦ (w.input-is, w.shelf-is, w.out-is)
]
