use Rattle.std.proofs.Common.{arith, ◌≡◌, ◌<◌, ◌∙◌, ◌+◌, ◌++◌, ◌∷◌, [], ap, sym, subst, ℕ, List, slice_get, slice_index, slice_set, get_or, Some, length}
use Rattle.std.proofs.lemmas.Grind.{common_steps}
use Rattle.std.proofs.lemmas.Option.{gets, slice_get_within}
use Rattle.std.specs.Prelude.{Option, All, slice_index_or, count_by}
use Rattle.bb_base.specs.Net.{Gate, times}
use Rattle.bb_base.specs.Levels.{IsWork, work, highest, depth_in, open_count, is_open, inputs_at}
use Rattle.bb_netlist.proofs.WorkLemmas.{Taken, last_due, is_due, taking, next_work, open_falls, depth_low, readers_within, readers_wait}
use Rattle.bb_netlist.proofs.levels.take.Goals as goal

bounds :
    (depths : List (Option ℕ)) (waits ready : List ℕ) (gates : List (Gate ℕ)) (h : ℕ) → IsWork (length depths) gates (work depths waits (ready ++ h ∷ [])) → h < length gates
bounds depths waits ready gates h w =
    let last = last_due (length depths) gates depths waits ready h w in
    slice_get_within gates h last.0 last.1

read_each :
    (readers : List (List ℕ)) (place n j : ℕ) (read slice : List ℕ) → place ≡ n → n < length readers → read ≡ get_or readers place read → slice ≡ read
    → times j slice ≡ times j (slice_index_or readers n [])
read_each readers place n j read slice e small is same =
    let default : get_or readers n read ≡ slice_index_or readers n [] = grind (arith, common_steps, small) in
    ap (times j) (same ∙ (is ∙ (ap (λ p. get_or readers p read) e ∙ default)))

pub bounds-gates-number : goal.bounds-gates-number
bounds-gates-number c = bounds c.args.depths.now c.args.waits.now c.args.ready.now.items c.args.gates.now c.args.number c.requires.work

pub highest_of-depth-requires-clause-within : goal.highest_of-depth-requires-clause-within
highest_of-depth-requires-clause-within c =
    let small = bounds c.args.depths.now c.args.waits.now c.args.ready.now.items c.args.gates.now c.args.number c.requires.work in
    let at : slice_get c.args.gates.now c.args.number ≡ Some c.index-gates-number.result = grind (arith, gets, common_steps, small) in
    let d = is_due (length c.args.depths.now) c.args.gates.now c.args.depths.now c.args.waits.now c.args.ready.now.items c.args.number c.index-gates-number.result c.requires.gates c.requires.work at in
    let ins = c.deref.ensures ∙ ap (λ (x : Gate ℕ). x.ins) c.gate.view_is in
    subst (λ (ns : List ℕ). All (λ n. n < length c.args.depths.now) ns) (sym ins) d.reads

pub highest_of-depth-requires-clause-by_depth : goal.highest_of-depth-requires-clause-by_depth
highest_of-depth-requires-clause-by_depth c =
    let small = bounds c.args.depths.now c.args.waits.now c.args.ready.now.items c.args.gates.now c.args.number c.requires.work in
    let at : slice_get c.args.gates.now c.args.number ≡ Some c.index-gates-number.result = grind (arith, gets, common_steps, small) in
    let d = is_due (length c.args.depths.now) c.args.gates.now c.args.depths.now c.args.waits.now c.args.ready.now.items c.args.number c.index-gates-number.result c.requires.gates c.requires.work at in
    let ins = c.deref.ensures ∙ ap (λ (x : Gate ℕ). x.ins) c.gate.view_is in
    ap (open_count (depth_in c.args.depths.now)) ins ∙ d.closed

pub overflow_add-depth : goal.overflow_add-depth
overflow_add-depth c =
    let small = bounds c.args.depths.now c.args.waits.now c.args.ready.now.items c.args.gates.now c.args.number c.requires.work in
    let at : slice_get c.args.gates.now c.args.number ≡ Some c.index-gates-number.result = grind (arith, gets, common_steps, small) in
    let d = is_due (length c.args.depths.now) c.args.gates.now c.args.depths.now c.args.waits.now c.args.ready.now.items c.args.number c.index-gates-number.result c.requires.gates c.requires.work at in
    let ins = c.deref.ensures ∙ ap (λ (x : Gate ℕ). x.ins) c.gate.view_is in
    let best = sym (ap (highest (depth_in c.args.depths.now)) ins) ∙ c.highest_of-depth.ensures in
    let t = taking (length c.args.depths.now) c.args.gates.now c.args.depths.now c.args.waits.now c.args.ready.now.items c.args.number c.index-gates-number.result c.highest_of-depth.result c.requires.gates c.requires.work at best in
    let low = depth_low (length c.args.depths.now) c.args.gates.now c.args.depths.now c.args.waits.now c.args.ready.now.items c.args.number c.index-gates-number.result c.highest_of-depth.result t in
    let falls = open_falls (length c.args.depths.now) c.args.gates.now c.args.depths.now c.args.waits.now c.args.ready.now.items c.args.number c.index-gates-number.result c.highest_of-depth.result 0 t in
    omega (arith, low, falls, c.requires.gates.few)

pub bounds-depths-out : goal.bounds-depths-out
bounds-depths-out c =
    let small = bounds c.args.depths.now c.args.waits.now c.args.ready.now.items c.args.gates.now c.args.number c.requires.work in
    let at : slice_get c.args.gates.now c.args.number ≡ Some c.index-gates-number.result = grind (arith, gets, common_steps, small) in
    let d = is_due (length c.args.depths.now) c.args.gates.now c.args.depths.now c.args.waits.now c.args.ready.now.items c.args.number c.index-gates-number.result c.requires.gates c.requires.work at in
    omega (arith, d.within, c.place_of-out.ensures)

pub offset_bounds-depths-out : goal.offset_bounds-depths-out
offset_bounds-depths-out c =
    let small = bounds c.args.depths.now c.args.waits.now c.args.ready.now.items c.args.gates.now c.args.number c.requires.work in
    let at : slice_get c.args.gates.now c.args.number ≡ Some c.index-gates-number.result = grind (arith, gets, common_steps, small) in
    let d = is_due (length c.args.depths.now) c.args.gates.now c.args.depths.now c.args.waits.now c.args.ready.now.items c.args.number c.index-gates-number.result c.requires.gates c.requires.work at in
    grind (arith, common_steps, d.within, c.place_of-out.ensures)

pub bounds-readers-out : goal.bounds-readers-out
bounds-readers-out c =
    let small = bounds c.args.depths.now c.args.waits.now c.args.ready.now.items c.args.gates.now c.args.number c.requires.work in
    let at : slice_get c.args.gates.now c.args.number ≡ Some c.index-gates-number.result = grind (arith, gets, common_steps, small) in
    let d = is_due (length c.args.depths.now) c.args.gates.now c.args.depths.now c.args.waits.now c.args.ready.now.items c.args.number c.index-gates-number.result c.requires.gates c.requires.work at in
    omega (arith, d.within, c.place_of-out.ensures, c.requires.readers.long)

pub offset_bounds-readers-out : goal.offset_bounds-readers-out
offset_bounds-readers-out c =
    let small = bounds c.args.depths.now c.args.waits.now c.args.ready.now.items c.args.gates.now c.args.number c.requires.work in
    let at : slice_get c.args.gates.now c.args.number ≡ Some c.index-gates-number.result = grind (arith, gets, common_steps, small) in
    let d = is_due (length c.args.depths.now) c.args.gates.now c.args.depths.now c.args.waits.now c.args.ready.now.items c.args.number c.index-gates-number.result c.requires.gates c.requires.work at in
    grind (arith, common_steps, d.within, c.place_of-out.ensures, c.requires.readers.long)

pub release-requires-clause-within : goal.release-requires-clause-within
release-requires-clause-within c =
    let small = bounds c.args.depths.now c.args.waits.now c.args.ready.now.items c.args.gates.now c.args.number c.requires.work in
    let at : slice_get c.args.gates.now c.args.number ≡ Some c.index-gates-number.result = grind (arith, gets, common_steps, small) in
    let d = is_due (length c.args.depths.now) c.args.gates.now c.args.depths.now c.args.waits.now c.args.ready.now.items c.args.number c.index-gates-number.result c.requires.gates c.requires.work at in
    let each : (j : ℕ) → times j c.as_slice.result.now ≡ times c.index-gates-number.result.out (inputs_at c.args.gates.now j) =
    λ j. read_each c.args.readers.now c.place_of-out.result c.index-gates-number.result.out j c.index-readers-out.result c.as_slice.result.now c.place_of-out.ensures
    (omega (arith, d.within, c.requires.readers.long)) c.index-readers-out.is c.as_slice.ensures ∙ c.requires.readers.each c.index-gates-number.result.out j d.within in
    readers_within c.args.gates.now c.args.waits.now c.as_slice.result.now c.index-gates-number.result c.requires.work.long_waits each

pub release-requires-clause-enough : goal.release-requires-clause-enough
release-requires-clause-enough c =
    let small = bounds c.args.depths.now c.args.waits.now c.args.ready.now.items c.args.gates.now c.args.number c.requires.work in
    let at : slice_get c.args.gates.now c.args.number ≡ Some c.index-gates-number.result = grind (arith, gets, common_steps, small) in
    let d = is_due (length c.args.depths.now) c.args.gates.now c.args.depths.now c.args.waits.now c.args.ready.now.items c.args.number c.index-gates-number.result c.requires.gates c.requires.work at in
    let each : (j : ℕ) → times j c.as_slice.result.now ≡ times c.index-gates-number.result.out (inputs_at c.args.gates.now j) =
    λ j. read_each c.args.readers.now c.place_of-out.result c.index-gates-number.result.out j c.index-readers-out.result c.as_slice.result.now c.place_of-out.ensures
    (omega (arith, d.within, c.requires.readers.long)) c.index-readers-out.is c.as_slice.ensures ∙ c.requires.readers.each c.index-gates-number.result.out j d.within in
    readers_wait (length c.args.depths.now) c.args.gates.now c.args.depths.now c.args.waits.now c.args.ready.now.items c.as_slice.result.now c.args.number c.index-gates-number.result c.requires.work d.no_depth each

pub returns-clause-work : goal.returns-clause-work
returns-clause-work c =
    let small = bounds c.args.depths.now c.args.waits.now c.args.ready.now.items c.args.gates.now c.args.number c.requires.work in
    let at : slice_get c.args.gates.now c.args.number ≡ Some c.index-gates-number.result = grind (arith, gets, common_steps, small) in
    let d = is_due (length c.args.depths.now) c.args.gates.now c.args.depths.now c.args.waits.now c.args.ready.now.items c.args.number c.index-gates-number.result c.requires.gates c.requires.work at in
    let each : (j : ℕ) → times j c.as_slice.result.now ≡ times c.index-gates-number.result.out (inputs_at c.args.gates.now j) =
    λ j. read_each c.args.readers.now c.place_of-out.result c.index-gates-number.result.out j c.index-readers-out.result c.as_slice.result.now c.place_of-out.ensures
    (omega (arith, d.within, c.requires.readers.long)) c.index-readers-out.is c.as_slice.ensures ∙ c.requires.readers.each c.index-gates-number.result.out j d.within in
    let ins = c.deref.ensures ∙ ap (λ (x : Gate ℕ). x.ins) c.gate.view_is in
    let best = sym (ap (highest (depth_in c.args.depths.now)) ins) ∙ c.highest_of-depth.ensures in
    let t = taking (length c.args.depths.now) c.args.gates.now c.args.depths.now c.args.waits.now c.args.ready.now.items c.args.number c.index-gates-number.result c.highest_of-depth.result c.requires.gates c.requires.work at best in
    let k : Taken c.args.gates.now c.args.waits.now c.args.ready.now.items c.index-gates-number.result c.release.new.waits c.release.new.ready.items = record {
      long = c.in_ok-release.ensures.long;
      lower = λ j. ap (λ x. slice_index c.release.new.waits j + x) (sym (each j)) ∙ c.in_ok-release.ensures.lower j;
      queued = c.in_ok-release.ensures.ready;
    } in
    subst (λ out. IsWork (length c.args.depths.now) c.args.gates.now (work (slice_set c.args.depths.now out (Some (c.highest_of-depth.result + 1))) c.release.new.waits c.release.new.ready.items))
    (sym c.place_of-out.ensures)
    (next_work (length c.args.depths.now) c.args.gates.now c.args.depths.now c.args.waits.now c.args.ready.now.items c.args.number c.index-gates-number.result c.highest_of-depth.result
    c.release.new.waits c.release.new.ready.items t k)

pub returns-clause-fewer : goal.returns-clause-fewer
returns-clause-fewer c =
    let small = bounds c.args.depths.now c.args.waits.now c.args.ready.now.items c.args.gates.now c.args.number c.requires.work in
    let at : slice_get c.args.gates.now c.args.number ≡ Some c.index-gates-number.result = grind (arith, gets, common_steps, small) in
    let d = is_due (length c.args.depths.now) c.args.gates.now c.args.depths.now c.args.waits.now c.args.ready.now.items c.args.number c.index-gates-number.result c.requires.gates c.requires.work at in
    let ins = c.deref.ensures ∙ ap (λ (x : Gate ℕ). x.ins) c.gate.view_is in
    let best = sym (ap (highest (depth_in c.args.depths.now)) ins) ∙ c.highest_of-depth.ensures in
    let t = taking (length c.args.depths.now) c.args.gates.now c.args.depths.now c.args.waits.now c.args.ready.now.items c.args.number c.index-gates-number.result c.highest_of-depth.result c.requires.gates c.requires.work at best in
    subst (λ out. count_by is_open (slice_set c.args.depths.now out (Some (c.highest_of-depth.result + 1))) + 1 ≡ count_by is_open c.args.depths.now)
    (sym c.place_of-out.ensures)
    (open_falls (length c.args.depths.now) c.args.gates.now c.args.depths.now c.args.waits.now c.args.ready.now.items c.args.number c.index-gates-number.result c.highest_of-depth.result (c.highest_of-depth.result + 1) t)
