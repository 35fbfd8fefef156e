use Rattle.std.proofs.Common.{arith, ◌≡◌, ◌<◌, ◌≤◌, ◌∙◌, length, take, refl, sym, ap, slice_get}
use Rattle.std.proofs.Math.Seq.{length-take-le}
use Rattle.std.proofs.lemmas.List.Sums.{count_by-le-length}
use Rattle.bb_base.specs.Variables.{Entry, is_port, ports_of}
use Rattle.bb_alike.proofs.ListLemmas.{fronts_same, get_taken, not_both}
use Rattle.bb_alike.proofs.front.has_ports.Goals as goal

pub returns-then-ports : goal.returns-then-ports
returns-then-ports c =
    let bs = c.args.written.now.variables in
    let ws = c.args.woven.now.variables in
    let low : length (take (ports_of bs) bs) ≡ ports_of bs = length-take-le (ports_of bs) bs (count_by-le-length (λ (v : Entry). is_port v.1.role) bs) in
    let high : length (take (ports_of ws) ws) ≡ ports_of ws = length-take-le (ports_of ws) ws (count_by-le-length (λ (v : Entry). is_port v.1.role) ws) in
    (λ e. absurd (cc e), λ same. absurd (omega (arith, low, high, ap length same, c.if-ports.true, c.ports.ensures.count, c.ports-2.ensures.count)))

pub returns-then-not-is_same_variable : goal.returns-then-not-is_same_variable
returns-then-not-is_same_variable c =
    let bs = c.args.written.now.variables in
    let ws = c.args.woven.now.variables in
    let low : c.loop-number.number < ports_of ws = omega arith in
    let high : c.loop-number.number < ports_of bs = omega arith in (
      λ e. absurd (cc e),
      λ same. absurd (not_both c.is_same_variable.result (c.is_same_variable.ensures.1 (sym (get_taken bs (ports_of bs) c.loop-number.number high) ∙ ap (λ ks. slice_get ks c.loop-number.number) same ∙ get_taken ws (ports_of ws) c.loop-number.number low)) c.if-not-is_same_variable.true),
    )

pub returns : goal.returns
returns c =
    let bs = c.args.written.now.variables in
    let ws = c.args.woven.now.variables in
    let count : ports_of bs ≡ ports_of ws = omega (arith, c.if-ports.false, c.ports.ensures.count, c.ports-2.ensures.count) in
    let low = count_by-le-length (λ (v : Entry). is_port v.1.role) bs in
    let high = count_by-le-length (λ (v : Entry). is_port v.1.role) ws in
    let past : ports_of ws ≤ c.loop-number.number = omega arith in
    let fronts : take (ports_of bs) bs ≡ take (ports_of bs) ws = fronts_same bs ws (ports_of bs) low (omega (arith, count, high)) (λ i less. c.loop-number.invariant i (omega (arith, less, count, past))) in
    (λ e. fronts ∙ ap (λ n. take n ws) count, λ same. refl)
