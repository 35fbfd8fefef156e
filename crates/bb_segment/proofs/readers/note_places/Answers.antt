use Rattle.std.proofs.Common.{arith, ℕ, List, ap, ◌∙◌, length, refl, subst, Contains}
use Rattle.std.proofs.lemmas.Grind.{common_steps}
use Rattle.bb_base.specs.Net.{Gate}
use Rattle.bb_segment.proofs.EntryLemmas.{net_of}
use Rattle.bb_segment.proofs.PlaceLemmas.{number_low, stands_read, order_long, gate_of}
use Rattle.bb_segment.proofs.TableLemmas.{Noted, readers_first, readers_more}
use Rattle.bb_segment.proofs.readers.note_places.Goals as goal

pub bounds-gates-number : goal.bounds-gates-number
bounds-gates-number c = number_low c.args.gates.now c.args.order.now c.places.place c.requires.order c.places-test.true

pub overflow_cast-place : goal.overflow_cast-place
overflow_cast-place c =
    let long = order_long c.args.gates.now c.args.order.now c.requires.order in
    let few = c.requires.gates.few in
    grind (arith, common_steps, long, few, c.places-test.true)

pub note_reads-requires : goal.note_reads-requires
note_reads-requires c = λ net h.
    let s = stands_read c.args.gates.now c.args.order.now c.places.place c.index-gates-number.result c.requires.order c.places-test.true c.index-gates-number.is in
    let ins = c.deref.ensures ∙ ap (λ (g : Gate ℕ). g.ins) c.gate.view_is in
    let inside = net_of c.args.gates.now (length c.args.readers.now) c.requires.gates c.index-gates-number.result net (gate_of c.args.gates.now c.args.order.now c.places.place c.index-gates-number.result s) (subst (λ (ns : List ℕ). Contains ns net) ins h) in
    let long = c.places.invariant.long in
    omega (arith, inside, long)

pub places-init : goal.places-init
places-init c = record { long = refl; are = readers_first c.args.gates.now c.args.order.now c.args.readers.now c.requires.none }

pub places-preserved : goal.places-preserved
places-preserved c =
    let s = stands_read c.args.gates.now c.args.order.now c.places.place c.index-gates-number.result c.requires.order c.places-test.true c.index-gates-number.is in
    let ins = c.deref.ensures ∙ ap (λ (g : Gate ℕ). g.ins) c.gate.view_is in
    let n : Noted c.places.readers c.note_reads.new.readers c.places.place c.deref.result.now = record { kept = c.in_ok-note_reads.ensures.kept; noted = c.in_ok-note_reads.ensures.noted; only = c.in_ok-note_reads.ensures.only } in
    record {
      long = c.in_ok-note_reads.ensures.long ∙ c.places.invariant.long;
      are = readers_more c.args.gates.now c.args.order.now c.places.readers c.note_reads.new.readers c.places.place c.index-gates-number.result c.places.invariant.are s
          (subst (λ (ns : List ℕ). Noted c.places.readers c.note_reads.new.readers c.places.place ns) ins n);
    }

pub returns-clause-are : goal.returns-clause-are
returns-clause-are c =
    let a = c.places.invariant.are in
    let done = c.places-test.false in
    record { all = λ q net f less t i. a.all q net f (omega (arith, less, done)) t i; only = a.only }
