use Rattle.std.proofs.Common.{arith, ◌∙◌, sym, ap, length, Some, ℕ, List}
use Rattle.std.specs.Prelude.{Option}
use Rattle.std.specs.Option.{option_map}
use Rattle.bb_fault.specs.declared.fault.ElabFault.TheVariants.{ClockAsData}
use Rattle.bb_drive.specs.Nets.{bit_text}
use Rattle.bb_drive.proofs.ClockLaws.{nets_fit, reads_answer}
use Rattle.bb_drive.proofs.clock.check_reads.Goals as goal

pub misread-requires-clause-kinds : goal.misread-requires-clause-kinds
misread-requires-clause-kinds c = nets_fit c.args.vars.now.entries c.args.work.now c.args.bits.now (length c.args.data_bits.now) c.requires.nets c.requires.long

pub misread-requires-clause-reads : goal.misread-requires-clause-reads
misread-requires-clause-reads c =
    nets_fit c.args.vars.now.entries c.args.work.now c.args.bits.now (length c.deref.result.now) c.requires.nets (ap length c.deref.ensures.value ∙ c.in_ok-reads.ensures.long)

pub returns-in_default-clause-fine : goal.returns-in_default-clause-fine
returns-in_default-clause-fine c =
    let vars = c.args.vars.now.entries in
    let answer = reads_answer vars c.args.work.now c.args.data_bits.now c.deref.result.now c.in_ok-reads.reads.items c.args.bits.now c.misread.result c.deref.ensures.value c.requires.nets c.requires.kinds c.in_ok-reads.ensures c.misread.ensures.first in
    answer ∙ ap (option_map (λ b. ClockAsData (bit_text vars b).name (bit_text vars b).index)) c.in_default.is

pub returns-clause-fault : goal.returns-clause-fault
returns-clause-fault c = λ other.
    let vars = c.args.vars.now.entries in
    let answer = reads_answer vars c.args.work.now c.args.data_bits.now c.deref.result.now c.in_ok-reads.reads.items c.args.bits.now c.misread.result c.deref.ensures.value c.requires.nets c.requires.kinds c.in_ok-reads.ensures c.misread.ensures.first in
    let all = answer ∙ ap (option_map (λ b. ClockAsData (bit_text vars b).name (bit_text vars b).index)) c.in-Some.is in
    all ∙ sym (ap (λ (p : List ℕ × Option ℕ). Some (ClockAsData p.0 p.1)) c.in_ok-name.ensures)

pub bit_text-requires : goal.bit_text-requires
bit_text-requires c = omega (arith, c.in-Some.ensures.inside, c.requires.long, c.requires.total)
