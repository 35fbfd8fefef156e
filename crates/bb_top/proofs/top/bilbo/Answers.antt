use Rattle.std.proofs.Common.{◌≡◌, ap, subst, refl, inl, inr, Err, map, string_bytes}
use Rattle.bb_base.proofs.Contained.{to_all}
use Rattle.bb_words.specs.Commands.{CommandValue, command_value, names_read, names_written, HasSameName}
use Rattle.bb_top.specs.Ends.{Usage, SameName}
use Rattle.bb_top.specs.Needs.{HasNeeds, HasRefusal}
use Rattle.bb_top.specs.Steps.{around}
use Rattle.bb_top.proofs.CommandLemmas.{command_ranged}
use Rattle.bb_top.proofs.EndLemmas.{write_failed}
use Rattle.bb_top.proofs.top.bilbo.Goals as goal

pub run-requires-clause-may_read : goal.run-requires-clause-may_read
run-requires-clause-may_read g c =
    let command = command_value c.in-Ok.command in
    to_all g.S.Store.may_read (names_read command) (λ name h. c.requires.may_read command name c.in-Ok.ensures.command.0 h)

pub run-requires-clause-may_write : goal.run-requires-clause-may_write
run-requires-clause-may_write g c =
    let command = command_value c.in-Ok.command in
    to_all g.S.Store.may_write (names_written command) (λ name h. c.requires.may_write command name c.in-Ok.ensures.command.0 h)

pub run-requires-clause-ranges : goal.run-requires-clause-ranges
run-requires-clause-ranges g c = command_ranged (map (λ w. string_bytes w) c.args.words.now) (command_value c.in-Ok.command) c.in-Ok.ensures.command.0

pub returns-in-Ok-clause-write : goal.returns-in-Ok-clause-write
returns-in-Ok-clause-write g c = λ e.
    let old = around (g.S.Store.holds c.args.store.now) (g.S.Store.read_faults c.args.store.now) (g.S.Store.write_faults c.args.store.now) (g.K.Sink.told c.args.out.now)
    (g.K.Sink.faults c.args.out.now) in
    let new = around (g.S.Store.holds c.run.new.store) (g.S.Store.read_faults c.run.new.store) (g.S.Store.write_faults c.run.new.store) (g.K.Sink.told c.run.new.out)
    (g.K.Sink.faults c.run.new.out) in
    write_failed (map (λ w. string_bytes w) c.args.words.now) (command_value c.in-Ok.command) old new c.in-Ok.ensures.command.0 (c.run.ensures.answered.write e)

pub returns-in-Ok-clause-always_same_name : goal.returns-in-Ok-clause-always_same_name
returns-in-Ok-clause-always_same_name g c = λ other means writes.
    let same : other ≡ command_value c.in-Ok.command = c.one_command.ensures (map (λ w. string_bytes w) c.args.words.now) other (command_value c.in-Ok.command) means c.in-Ok.ensures.command.0 in
    absurd (c.in-Ok.ensures.command.1 (subst HasSameName same writes))

pub returns-in-Ok-clause-complete : goal.returns-in-Ok-clause-complete
returns-in-Ok-clause-complete g c = λ other means apart needs.
    let same : other ≡ command_value c.in-Ok.command = c.one_command.ensures (map (λ w. string_bytes w) c.args.words.now) other (command_value c.in-Ok.command) means c.in-Ok.ensures.command.0 in
    (c.run.ensures.answered.complete (subst (λ (k : CommandValue). HasNeeds k (g.S.Store.holds c.args.store.now)) same needs), c.run.ensures.answered.no_usage)

pub returns-in-Ok-clause-always_refused : goal.returns-in-Ok-clause-always_refused
returns-in-Ok-clause-always_refused g c = λ other refusal means apart has.
    let same : other ≡ command_value c.in-Ok.command = c.one_command.ensures (map (λ w. string_bytes w) c.args.words.now) other (command_value c.in-Ok.command) means c.in-Ok.ensures.command.0 in (
      c.run.ensures.answered.always_refused refusal (subst (λ (k : CommandValue). HasRefusal k refusal (g.S.Store.holds c.args.store.now)) same has),
      c.run.ensures.answered.no_usage,
    )

pub returns-in-Ok-put-clause-complete : goal.returns-in-Ok-put-clause-complete
returns-in-Ok-put-clause-complete g c = λ other means.
    let nothing = c.in-Err-Usage.ensures.usage (ap Err c.in-Err-Usage.field-0-is) in
    absurd (nothing other means)

pub returns-in-Ok-put-clause-always_refused : goal.returns-in-Ok-put-clause-always_refused
returns-in-Ok-put-clause-always_refused g c = λ other refusal means.
    let nothing = c.in-Err-Usage.ensures.usage (ap Err c.in-Err-Usage.field-0-is) in
    absurd (nothing other means)

pub returns-in-Ok-put-clause-words : goal.returns-in-Ok-put-clause-words
returns-in-Ok-put-clause-words g c = λ e. (refl, inl (c.in-Err-Usage.ensures.usage (ap Err c.in-Err-Usage.field-0-is), c.in-Ok-put.ensures.all))

pub returns-in-Err-clause-write : goal.returns-in-Err-clause-write
returns-in-Err-clause-write g c = λ e.
    let nothing = c.in-Err-Usage.ensures.usage (ap Err c.in-Err-Usage.field-0-is) in
    inr (c.in-Err.ensures.cause.failed, record { answer = Usage; files = (nothing, refl); line = c.in-Err.ensures.front })

pub returns-in-Ok-put-2-clause-complete : goal.returns-in-Ok-put-2-clause-complete
returns-in-Ok-put-2-clause-complete g c = λ other means apart needs.
    let found = c.in-Err-SameName.ensures.same (ap Err c.in-Err-SameName.field-0-is) in
    let same : found.0 ≡ other = c.one_command.ensures (map (λ w. string_bytes w) c.args.words.now) found.0 other found.1 means in
    absurd (apart (subst HasSameName same found.2))

pub returns-in-Ok-put-2-clause-always_refused : goal.returns-in-Ok-put-2-clause-always_refused
returns-in-Ok-put-2-clause-always_refused g c = λ other refusal means apart has.
    let found = c.in-Err-SameName.ensures.same (ap Err c.in-Err-SameName.field-0-is) in
    let same : found.0 ≡ other = c.one_command.ensures (map (λ w. string_bytes w) c.args.words.now) found.0 other found.1 means in
    absurd (apart (subst HasSameName same found.2))

pub returns-in-Err-put-clause-write : goal.returns-in-Err-put-clause-write
returns-in-Err-put-clause-write g c = λ e.
    let found = c.in-Err-SameName.ensures.same (ap Err c.in-Err-SameName.field-0-is) in
    inr (
      c.in-Err-put.ensures.cause.failed,
      record { answer = SameName; files = record { command = found.0; means = found.1; said = (found.2, refl) }; line = c.in-Err-put.ensures.front },
    )
