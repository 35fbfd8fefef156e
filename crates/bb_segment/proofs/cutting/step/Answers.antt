use Rattle.std.proofs.Common.{arith, ◌≡◌, ◌<◌, ◌++◌, ◌∷◌, [], ℕ, Bool, true, List, ◌∙◌, subst, ap, sym, Contains, length, slice_set}
use Rattle.std.proofs.lemmas.Grind.{common_steps}
use Rattle.bb_base.specs.Net.{Gate}
use Rattle.bb_terms.specs.Support.{stop_at}
use Rattle.bb_segment.specs.Cutting.{IsUnion, IsWidest, IsCutting, table_entry, weight}
use Rattle.bb_segment.specs.Walks.{HasMore}
use Rattle.bb_base.proofs.Contained.{here}
use Rattle.bb_segment.proofs.CutOutcomes.{on_four, on_two}
use Rattle.bb_segment.proofs.EntryLemmas.{net_of, out_of}
use Rattle.bb_segment.proofs.PlaceLemmas.{gate_of}
use Rattle.bb_segment.proofs.StepLemmas.{is_next, stops_narrow, cut_step, settled_step, write_step, falls_on, above_on, falls_cut, cutting_same}
use Rattle.bb_segment.proofs.cutting.step.Goals as goal

pub gate_at-gate-requires-clause-place : goal.gate_at-gate-requires-clause-place
gate_at-gate-requires-clause-place c = c.requires.cutting.pending c.args.place (here c.args.place c.args.state.now.queue.keys)

pub union_of-requires : goal.union_of-requires
union_of-requires c = λ net h.
    let ins = c.deref-2.ensures ∙ ap (λ (h : Gate ℕ). h.ins) c.gate.view_is in
    let inside = net_of c.args.gates.now (length c.args.state.now.stops.items) c.requires.gates c.gate_at-gate.result.now net (gate_of c.args.gates.now c.args.order.now c.args.place c.gate_at-gate.result.now c.gate_at-gate.ensures) (subst (λ (ns : List ℕ). Contains ns net) ins h) in
    let table = ap length c.deref.ensures.value in
    let long = c.requires.cutting.long in
    omega (arith, inside, table, long)

pub widest-requires-clause-within : goal.widest-requires-clause-within
widest-requires-clause-within c = λ net h.
    let ins_too = c.deref-then-len-width-3.ensures ∙ ap (λ (h : Gate ℕ). h.ins) c.gate.view_is in
    let inside = net_of c.args.gates.now (length c.args.state.now.stops.items) c.requires.gates c.gate_at-gate.result.now net (gate_of c.args.gates.now c.args.order.now c.args.place c.gate_at-gate.result.now c.gate_at-gate.ensures) (subst (λ (ns : List ℕ). Contains ns net) ins_too h) in
    let table = ap length c.deref-then-len-width-2.ensures.value in
    let long = c.requires.cutting.long in
    omega (arith, inside, table, long)

pub unreachable-requires : goal.unreachable-requires
unreachable-requires c =
    let ins = c.deref-2.ensures ∙ ap (λ (h : Gate ℕ). h.ins) c.gate.view_is in
    let union = subst (λ (ns : List ℕ). IsUnion c.args.state.now.table.items ns c.in_ok-union.union.items) ins (subst (λ (t : List (List ℕ)). IsUnion t c.deref-2.result.now c.in_ok-union.union.items) c.deref.ensures.value c.in_ok-union.ensures) in
    let count : c.len.result ≡ length c.in_ok-union.union.items = grind (arith, common_steps, c.len.ensures) in
    let ins_too = c.deref-then-len-width-3.ensures ∙ ap (λ (h : Gate ℕ). h.ins) c.gate.view_is in
    let all : (m : ℕ) → Contains c.gate_at-gate.result.now.ins m → stop_at c.args.state.now.stops.items m ≡ true =
    λ m i. subst (λ (s : List Bool). stop_at s m ≡ true) c.deref-then-len-width.ensures.value (c.widest.ensures.none c.in_default.is m (subst (λ (ns : List ℕ). Contains ns m) (sym ins_too) i)) in
    let few = c.requires.narrow c.gate_at-gate.ensures.number c.gate_at-gate.result.now c.gate_at-gate.ensures.stands in
    let over = c.if-len-width.true in
    stops_narrow c.args.gates.now c.args.order.now c.args.width c.args.state.now.stops.items c.args.state.now.table.items c.args.readers.now c.args.state.now.queue.keys c.args.state.now.turns.items c.args.place c.gate_at-gate.result.now c.requires.gates c.requires.order c.requires.readers c.requires.later c.requires.cutting c.gate_at-gate.ensures
    c.in_ok-union.union.items union all few (omega (arith, count, over))

pub cut-requires-clause-stops : goal.cut-requires-clause-stops
cut-requires-clause-stops c =
    let ins_too = c.deref-then-len-width-3.ensures ∙ ap (λ (h : Gate ℕ). h.ins) c.gate.view_is in
    let widest = subst (λ (ns : List ℕ). IsWidest (stop_at c.args.state.now.stops.items) c.args.state.now.table.items ns c.in-Some.net) ins_too
    (subst (λ (t : List (List ℕ)). IsWidest (stop_at c.args.state.now.stops.items) t c.deref-then-len-width-3.result.now c.in-Some.net) c.deref-then-len-width-2.ensures.value
    (subst (λ (s : List Bool). IsWidest (stop_at s) c.deref-then-len-width-2.result.now c.deref-then-len-width-3.result.now c.in-Some.net) c.deref-then-len-width.ensures.value (c.widest.ensures.some c.in-Some.net c.in-Some.is))) in
    let inside = net_of c.args.gates.now (length c.args.state.now.stops.items) c.requires.gates c.gate_at-gate.result.now c.in-Some.net (gate_of c.args.gates.now c.args.order.now c.args.place c.gate_at-gate.result.now c.gate_at-gate.ensures) widest.input in
    inside

pub cut-requires-clause-table : goal.cut-requires-clause-table
cut-requires-clause-table c =
    let ins_too = c.deref-then-len-width-3.ensures ∙ ap (λ (h : Gate ℕ). h.ins) c.gate.view_is in
    let widest = subst (λ (ns : List ℕ). IsWidest (stop_at c.args.state.now.stops.items) c.args.state.now.table.items ns c.in-Some.net) ins_too
    (subst (λ (t : List (List ℕ)). IsWidest (stop_at c.args.state.now.stops.items) t c.deref-then-len-width-3.result.now c.in-Some.net) c.deref-then-len-width-2.ensures.value
    (subst (λ (s : List Bool). IsWidest (stop_at s) c.deref-then-len-width-2.result.now c.deref-then-len-width-3.result.now c.in-Some.net) c.deref-then-len-width.ensures.value (c.widest.ensures.some c.in-Some.net c.in-Some.is))) in
    let inside = net_of c.args.gates.now (length c.args.state.now.stops.items) c.requires.gates c.gate_at-gate.result.now c.in-Some.net (gate_of c.args.gates.now c.args.order.now c.args.place c.gate_at-gate.result.now c.gate_at-gate.ensures) widest.input in
    let long = c.requires.cutting.long in
    omega (arith, inside, long)

pub cut-requires-clause-readers : goal.cut-requires-clause-readers
cut-requires-clause-readers c =
    let ins_too = c.deref-then-len-width-3.ensures ∙ ap (λ (h : Gate ℕ). h.ins) c.gate.view_is in
    let widest = subst (λ (ns : List ℕ). IsWidest (stop_at c.args.state.now.stops.items) c.args.state.now.table.items ns c.in-Some.net) ins_too
    (subst (λ (t : List (List ℕ)). IsWidest (stop_at c.args.state.now.stops.items) t c.deref-then-len-width-3.result.now c.in-Some.net) c.deref-then-len-width-2.ensures.value
    (subst (λ (s : List Bool). IsWidest (stop_at s) c.deref-then-len-width-2.result.now c.deref-then-len-width-3.result.now c.in-Some.net) c.deref-then-len-width.ensures.value (c.widest.ensures.some c.in-Some.net c.in-Some.is))) in
    let inside = net_of c.args.gates.now (length c.args.state.now.stops.items) c.requires.gates c.gate_at-gate.result.now c.in-Some.net (gate_of c.args.gates.now c.args.order.now c.args.place c.gate_at-gate.result.now c.gate_at-gate.ensures) widest.input in
    let long = c.requires.long in
    omega (arith, inside, long)

pub returns-then-len-width-clause-cutting : goal.returns-then-len-width-clause-cutting
returns-then-len-width-clause-cutting c =
    let ins = c.deref-2.ensures ∙ ap (λ (h : Gate ℕ). h.ins) c.gate.view_is in
    let union = subst (λ (ns : List ℕ). IsUnion c.args.state.now.table.items ns c.in_ok-union.union.items) ins (subst (λ (t : List (List ℕ)). IsUnion t c.deref-2.result.now c.in_ok-union.union.items) c.deref.ensures.value c.in_ok-union.ensures) in
    let count : c.len.result ≡ length c.in_ok-union.union.items = grind (arith, common_steps, c.len.ensures) in
    let ins_too = c.deref-then-len-width-3.ensures ∙ ap (λ (h : Gate ℕ). h.ins) c.gate.view_is in
    let widest = subst (λ (ns : List ℕ). IsWidest (stop_at c.args.state.now.stops.items) c.args.state.now.table.items ns c.in-Some.net) ins_too
    (subst (λ (t : List (List ℕ)). IsWidest (stop_at c.args.state.now.stops.items) t c.deref-then-len-width-3.result.now c.in-Some.net) c.deref-then-len-width-2.ensures.value
    (subst (λ (s : List Bool). IsWidest (stop_at s) c.deref-then-len-width-2.result.now c.deref-then-len-width-3.result.now c.in-Some.net) c.deref-then-len-width.ensures.value (c.widest.ensures.some c.in-Some.net c.in-Some.is))) in
    let over = c.if-len-width.true in
    let next = is_next c.args.gates.now c.args.order.now c.args.width c.args.state.now.stops.items c.args.state.now.table.items c.args.readers.now c.args.state.now.queue.keys c.args.state.now.turns.items c.args.place c.gate_at-gate.result.now c.requires.gates c.requires.order c.requires.readers c.requires.later c.requires.cutting c.gate_at-gate.ensures
    c.in_ok-union.union.items c.in-Some.net union (omega (arith, count, over)) widest in
    on_four (c.cut.new.state.stops.items ≡ slice_set c.args.state.now.stops.items c.in-Some.net true) (c.cut.new.state.table.items ≡ slice_set c.args.state.now.table.items c.in-Some.net (c.in-Some.net ∷ [])) (c.cut.new.state.turns.items ≡ c.args.state.now.turns.items ++ c.in-Some.net ∷ [])
    (HasMore c.args.state.now.queue.keys (table_entry c.args.readers.now c.in-Some.net) c.cut.new.state.queue.keys)
    (IsCutting c.args.gates.now c.args.order.now c.args.width c.cut.new.state.stops.items c.cut.new.state.table.items c.cut.new.state.queue.keys c.cut.new.state.turns.items) c.cut.result
    (λ stops table turns adds. cutting_same c.args.gates.now c.args.order.now c.args.width (slice_set c.args.state.now.stops.items c.in-Some.net true) c.cut.new.state.stops.items (slice_set c.args.state.now.table.items c.in-Some.net (c.in-Some.net ∷ [])) c.cut.new.state.table.items c.cut.new.state.queue.keys
    (c.args.state.now.turns.items ++ c.in-Some.net ∷ []) c.cut.new.state.turns.items stops table turns
    (cut_step c.args.gates.now c.args.order.now c.args.width c.args.state.now.stops.items c.args.state.now.table.items c.args.readers.now c.args.state.now.queue.keys c.args.state.now.turns.items c.args.place c.gate_at-gate.result.now c.requires.gates c.requires.order c.requires.readers c.requires.later c.requires.cutting c.gate_at-gate.ensures
    c.in-Some.net c.cut.new.state.queue.keys widest.input widest.no_stop next adds))
    c.cut.ensures.stops c.cut.ensures.table c.cut.ensures.turns c.cut.ensures.queue

pub returns-then-len-width-clause-falls : goal.returns-then-len-width-clause-falls
returns-then-len-width-clause-falls c =
    let ins_too = c.deref-then-len-width-3.ensures ∙ ap (λ (h : Gate ℕ). h.ins) c.gate.view_is in
    let widest = subst (λ (ns : List ℕ). IsWidest (stop_at c.args.state.now.stops.items) c.args.state.now.table.items ns c.in-Some.net) ins_too
    (subst (λ (t : List (List ℕ)). IsWidest (stop_at c.args.state.now.stops.items) t c.deref-then-len-width-3.result.now c.in-Some.net) c.deref-then-len-width-2.ensures.value
    (subst (λ (s : List Bool). IsWidest (stop_at s) c.deref-then-len-width-2.result.now c.deref-then-len-width-3.result.now c.in-Some.net) c.deref-then-len-width.ensures.value (c.widest.ensures.some c.in-Some.net c.in-Some.is))) in
    let inside = net_of c.args.gates.now (length c.args.state.now.stops.items) c.requires.gates c.gate_at-gate.result.now c.in-Some.net (gate_of c.args.gates.now c.args.order.now c.args.place c.gate_at-gate.result.now c.gate_at-gate.ensures) widest.input in
    on_two (c.cut.new.state.stops.items ≡ slice_set c.args.state.now.stops.items c.in-Some.net true) (c.cut.new.state.stops.items ≡ slice_set c.args.state.now.stops.items c.in-Some.net true)
    (weight (length c.args.order.now) c.cut.new.state.stops.items c.cut.new.state.queue.keys < weight (length c.args.order.now) c.args.state.now.stops.items (c.args.place ∷ c.args.state.now.queue.keys)) c.cut.result
    (λ stops again. subst (λ (s : List Bool). weight (length c.args.order.now) s c.cut.new.state.queue.keys < weight (length c.args.order.now) c.args.state.now.stops.items (c.args.place ∷ c.args.state.now.queue.keys)) (sym stops)
    (falls_cut c.args.gates.now c.args.order.now c.args.width c.args.state.now.stops.items c.args.state.now.table.items c.args.readers.now c.args.state.now.queue.keys c.args.state.now.turns.items c.args.place c.gate_at-gate.result.now c.requires.gates c.requires.order c.requires.readers c.requires.later c.requires.cutting c.gate_at-gate.ensures
    c.in-Some.net c.cut.new.state.queue.keys inside widest.no_stop))
    c.cut.ensures.stops c.cut.ensures.stops

pub is_settled-requires-clause-stops : goal.is_settled-requires-clause-stops
is_settled-requires-clause-stops c =
    let out = ap (λ (h : Gate ℕ). h.out) c.gate.view_is in
    let inside = out_of c.args.gates.now (length c.args.state.now.stops.items) c.requires.gates c.gate_at-gate.result.now (gate_of c.args.gates.now c.args.order.now c.args.place c.gate_at-gate.result.now c.gate_at-gate.ensures) in
    omega (arith, out, inside)

pub is_settled-requires-clause-table : goal.is_settled-requires-clause-table
is_settled-requires-clause-table c =
    let out = ap (λ (h : Gate ℕ). h.out) c.gate.view_is in
    let inside = out_of c.args.gates.now (length c.args.state.now.stops.items) c.requires.gates c.gate_at-gate.result.now (gate_of c.args.gates.now c.args.order.now c.args.place c.gate_at-gate.result.now c.gate_at-gate.ensures) in
    let long = c.requires.cutting.long in
    omega (arith, out, inside, long)

pub returns-then-is_settled-clause-cutting : goal.returns-then-is_settled-clause-cutting
returns-then-is_settled-clause-cutting c =
    let ins = c.deref-2.ensures ∙ ap (λ (h : Gate ℕ). h.ins) c.gate.view_is in
    let union = subst (λ (ns : List ℕ). IsUnion c.args.state.now.table.items ns c.in_ok-union.union.items) ins (subst (λ (t : List (List ℕ)). IsUnion t c.deref-2.result.now c.in_ok-union.union.items) c.deref.ensures.value c.in_ok-union.ensures) in
    let count : c.len.result ≡ length c.in_ok-union.union.items = grind (arith, common_steps, c.len.ensures) in
    let narrow = c.if-len-width.false in
    let out = ap (λ (h : Gate ℕ). h.out) c.gate.view_is in
    settled_step c.args.gates.now c.args.order.now c.args.width c.args.state.now.stops.items c.args.state.now.table.items c.args.readers.now c.args.state.now.queue.keys c.args.state.now.turns.items c.args.place c.gate_at-gate.result.now c.requires.gates c.requires.order c.requires.readers c.requires.later c.requires.cutting c.gate_at-gate.ensures
    c.in_ok-union.union.items union (omega (arith, count, narrow))
    (λ no_stop. ap (table_entry c.args.state.now.table.items) (sym out) ∙ c.is_settled.ensures.yes c.if-is_settled.true (ap (stop_at c.args.state.now.stops.items) out ∙ no_stop) ∙ c.deref-3.ensures.value)

pub returns-then-is_settled-clause-falls : goal.returns-then-is_settled-clause-falls
returns-then-is_settled-clause-falls c = falls_on c.args.gates.now c.args.order.now c.args.width c.args.state.now.stops.items c.args.state.now.table.items c.args.readers.now c.args.state.now.queue.keys c.args.state.now.turns.items c.args.place c.gate_at-gate.result.now c.requires.gates c.requires.order c.requires.readers c.requires.later c.requires.cutting c.gate_at-gate.ensures
    c.args.state.now.queue.keys c.requires.later

pub returns-clause-cutting : goal.returns-clause-cutting
returns-clause-cutting c =
    let ins = c.deref-2.ensures ∙ ap (λ (h : Gate ℕ). h.ins) c.gate.view_is in
    let union = subst (λ (ns : List ℕ). IsUnion c.args.state.now.table.items ns c.in_ok-union.union.items) ins (subst (λ (t : List (List ℕ)). IsUnion t c.deref-2.result.now c.in_ok-union.union.items) c.deref.ensures.value c.in_ok-union.ensures) in
    let count : c.len.result ≡ length c.in_ok-union.union.items = grind (arith, common_steps, c.len.ensures) in
    let narrow = c.if-len-width.false in
    let out = ap (λ (h : Gate ℕ). h.out) c.gate.view_is in
    let inside = out_of c.args.gates.now (length c.args.state.now.stops.items) c.requires.gates c.gate_at-gate.result.now (gate_of c.args.gates.now c.args.order.now c.args.place c.gate_at-gate.result.now c.gate_at-gate.ensures) in
    let long = c.requires.cutting.long in
    let table_is : slice_set c.args.state.now.table.items c.gate.inside.out c.deref-4.result.now ≡ slice_set c.args.state.now.table.items c.gate_at-gate.result.now.out c.in_ok-union.union.items =
    ap (λ (k : ℕ). slice_set c.args.state.now.table.items k c.deref-4.result.now) out ∙ ap (slice_set c.args.state.now.table.items c.gate_at-gate.result.now.out) c.deref-4.ensures.value in
    on_four (c.write.new.state.stops.items ≡ c.args.state.now.stops.items) (c.write.new.state.table.items ≡ slice_set c.args.state.now.table.items c.gate.inside.out c.deref-4.result.now) (c.write.new.state.turns.items ≡ c.args.state.now.turns.items)
    (HasMore c.args.state.now.queue.keys (table_entry c.args.readers.now c.gate.inside.out) c.write.new.state.queue.keys)
    (IsCutting c.args.gates.now c.args.order.now c.args.width c.write.new.state.stops.items c.write.new.state.table.items c.write.new.state.queue.keys c.write.new.state.turns.items) c.write.result
    (λ stops table turns adds. cutting_same c.args.gates.now c.args.order.now c.args.width c.args.state.now.stops.items c.write.new.state.stops.items (slice_set c.args.state.now.table.items c.gate_at-gate.result.now.out c.in_ok-union.union.items) c.write.new.state.table.items c.write.new.state.queue.keys
    c.args.state.now.turns.items c.write.new.state.turns.items stops (table ∙ table_is) turns
    (write_step c.args.gates.now c.args.order.now c.args.width c.args.state.now.stops.items c.args.state.now.table.items c.args.readers.now c.args.state.now.queue.keys c.args.state.now.turns.items c.args.place c.gate_at-gate.result.now c.requires.gates c.requires.order c.requires.readers c.requires.later c.requires.cutting c.gate_at-gate.ensures
    c.in_ok-union.union.items union (omega (arith, count, narrow)) c.write.new.state.queue.keys (ap (stop_at c.args.state.now.stops.items) (sym out) ∙ c.is_settled.ensures.no c.if-is_settled.false) (omega (arith, inside, long))
    (subst (λ k. HasMore c.args.state.now.queue.keys (table_entry c.args.readers.now k) c.write.new.state.queue.keys) out adds)))
    c.write.ensures.stops c.write.ensures.table c.write.ensures.turns c.write.ensures.queue

pub returns-clause-falls : goal.returns-clause-falls
returns-clause-falls c =
    let out = ap (λ (h : Gate ℕ). h.out) c.gate.view_is in
    on_two (c.write.new.state.stops.items ≡ c.args.state.now.stops.items) (HasMore c.args.state.now.queue.keys (table_entry c.args.readers.now c.gate.inside.out) c.write.new.state.queue.keys)
    (weight (length c.args.order.now) c.write.new.state.stops.items c.write.new.state.queue.keys < weight (length c.args.order.now) c.args.state.now.stops.items (c.args.place ∷ c.args.state.now.queue.keys)) c.write.result
    (λ stops adds. subst (λ (s : List Bool). weight (length c.args.order.now) s c.write.new.state.queue.keys < weight (length c.args.order.now) c.args.state.now.stops.items (c.args.place ∷ c.args.state.now.queue.keys)) (sym stops)
    (falls_on c.args.gates.now c.args.order.now c.args.width c.args.state.now.stops.items c.args.state.now.table.items c.args.readers.now c.args.state.now.queue.keys c.args.state.now.turns.items c.args.place c.gate_at-gate.result.now c.requires.gates c.requires.order c.requires.readers c.requires.later c.requires.cutting c.gate_at-gate.ensures
    c.write.new.state.queue.keys (above_on c.args.gates.now c.args.order.now c.args.width c.args.state.now.stops.items c.args.state.now.table.items c.args.readers.now c.args.state.now.queue.keys c.args.state.now.turns.items c.args.place c.gate_at-gate.result.now c.requires.gates c.requires.order c.requires.readers c.requires.later c.requires.cutting c.gate_at-gate.ensures
    c.gate.inside.out c.write.new.state.queue.keys (sym out) adds)))
    c.write.ensures.stops c.write.ensures.queue
