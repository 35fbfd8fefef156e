use Rattle.std.proofs.Common.{arith, ◌≡◌, ◌<◌, ℕ, List, length, All, sym, ap, subst, ◌∙◌, IfOk, Some, None, false}
use Rattle.bb_base.specs.Places.{EachAt, IsFirstWrong}
use Rattle.bb_terms.specs.Plan.{RegisterValue, PlanValue}
use Rattle.bb_plan.specs.Clashes.{feeders_at, feeders_in, session_clashes}
use Rattle.bb_plan.proofs.ConflictLemmas.{few_sessions, sessions_low, registers_low, lines_low, sources_low, feeders_low, conflict_answer}
use Rattle.bb_plan.proofs.walked.first_conflict.Goals as goal

pub feeders_of-requires-clause-registers : goal.feeders_of-requires-clause-registers
feeders_of-requires-clause-registers c =
    let registers = c.deref.ensures.value ∙ ap (λ (p : PlanValue). p.registers) c.plan.view_is in
    subst (λ (gs : List RegisterValue). All (λ l. l.register < length gs) c.deref-2.result.now) (sym registers) (registers_low c.args.plan.now c.deref-2.result.now (c.deref-2.ensures.value ∙ c.requires.layout.chain))

pub feeders_of-requires-clause-cells : goal.feeders_of-requires-clause-cells
feeders_of-requires-clause-cells c = lines_low c.args.netlist.now c.args.plan.now c.deref-2.result.now c.args.lines.now (c.deref-2.ensures.value ∙ c.requires.layout.chain) c.requires.lines

pub feeders_of-requires-clause-sources : goal.feeders_of-requires-clause-sources
feeders_of-requires-clause-sources c = sources_low c.args.netlist.now c.args.plan.now c.deref-2.result.now c.args.lines.now (c.deref-2.ensures.value ∙ c.requires.layout.chain) c.requires.lines

pub first_clash-requires-clause-few : goal.first_clash-requires-clause-few
first_clash-requires-clause-few c =
    let few = few_sessions c.args.netlist.now c.args.plan.now c.requires.before in
    let same = ap length (c.deref-3.ensures.value ∙ ap (λ (p : PlanValue). p.sessions) c.plan.view_is) in
    omega (arith, few, same)

pub first_clash-requires-clause-sessions : goal.first_clash-requires-clause-sessions
first_clash-requires-clause-sessions c =
    let registers = ap length (c.deref.ensures.value ∙ ap (λ (p : PlanValue). p.registers) c.plan.view_is) in
    let count : length c.args.plan.now.registers ≡ length c.deref-4.result.now = sym (ap length c.deref-4.ensures.value ∙ (c.in_ok-feeders.ensures.long ∙ registers)) in
    let sessions = c.deref-3.ensures.value ∙ ap (λ (p : PlanValue). p.sessions) c.plan.view_is in
    subst (λ (xs : List (List ℕ)). All (λ session. All (λ r. r < length c.deref-4.result.now) session) xs) (sym sessions)
    (subst (λ k. All (λ session. All (λ r. r < k) session) c.args.plan.now.sessions) count (sessions_low c.args.netlist.now c.args.plan.now c.requires.before))

pub first_clash-requires-clause-feeders : goal.first_clash-requires-clause-feeders
first_clash-requires-clause-feeders c =
    let registers = ap length (c.deref.ensures.value ∙ ap (λ (p : PlanValue). p.registers) c.plan.view_is) in
    let long = ap length c.deref-4.ensures.value ∙ (c.in_ok-feeders.ensures.long ∙ registers) in
    let each : (r : ℕ) → r < length c.args.plan.now.registers → feeders_at c.deref-4.result.now r ≡ feeders_in c.deref-2.result.now c.args.lines.now r =
    λ r less. ap (λ (t : List (List ℕ)). feeders_at t r) c.deref-4.ensures.value ∙ c.in_ok-feeders.ensures.each r (omega (arith, less, registers)) in
    feeders_low c.args.netlist.now c.args.plan.now c.deref-2.result.now c.args.lines.now (c.deref-2.ensures.value ∙ c.requires.layout.chain) c.requires.lines c.deref-4.result.now long each

pub returns : goal.returns
returns c =
    let registers = ap length (c.deref.ensures.value ∙ ap (λ (p : PlanValue). p.registers) c.plan.view_is) in
    let long = ap length c.deref-4.ensures.value ∙ (c.in_ok-feeders.ensures.long ∙ registers) in
    let each : (r : ℕ) → r < length c.args.plan.now.registers → feeders_at c.deref-4.result.now r ≡ feeders_in c.deref-2.result.now c.args.lines.now r =
    λ r less. ap (λ (t : List (List ℕ)). feeders_at t r) c.deref-4.ensures.value ∙ c.in_ok-feeders.ensures.each r (omega (arith, less, registers)) in
    let sessions = c.deref-3.ensures.value ∙ ap (λ (p : PlanValue). p.sessions) c.plan.view_is in
    conflict_answer c.args.netlist.now c.args.plan.now c.deref-2.result.now c.args.lines.now (c.deref-2.ensures.value ∙ c.requires.layout.chain) c.requires.lines c.deref-4.result.now long each c.first_clash.result c.requires.before
    (subst (λ (xs : List (List ℕ)). IfOk c.first_clash.result (λ place. place ≡ None → EachAt xs (λ s session. session_clashes c.deref-4.result.now session ≡ false))) sessions c.first_clash.ensures.none)
    (subst (λ (xs : List (List ℕ)). IfOk c.first_clash.result (λ place. (s : ℕ) → place ≡ Some s → IsFirstWrong xs (λ s session. session_clashes c.deref-4.result.now session ≡ false) s)) sessions c.first_clash.ensures.first)
