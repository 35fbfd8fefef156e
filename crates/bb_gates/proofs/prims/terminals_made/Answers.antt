use Rattle.std.proofs.Common.{arith, ◌≡◌, ◌<◌, ◌+◌, ◌^◌, ℕ, List, ◌∷◌, drop, ap}
use Rattle.std.proofs.lemmas.Grind.{common_steps}
use Rattle.bb_base.specs.Variables.{Entry}
use Rattle.bb_parse.specs.declared.syntax.Step.{Step}
use Rattle.bb_scope.specs.Names.{steps_names}
use Rattle.bb_scope.proofs.UseLaws.{next_one, next_on}
use Rattle.bb_fault.specs.Work.{Work}
use Rattle.bb_scope.specs.Making.{terminal_made, terminals_made}
use Rattle.bb_gates.proofs.Growing.{terminals-grow}
use Rattle.bb_gates.proofs.prims.terminals_made.Goals as goal

pub terminal_made-requires-clause-next : goal.terminal_made-requires-clause-next
terminal_made-requires-clause-next c = next_one steps_names c.args.scope.now c.args.terms.now c.loop-term.term-index c.term-item.result c.as_slice.result.now c.loop-term.rest.now c.loop-term.invariant.next c.term-item.is c.loop-term-test.true c.as_slice.ensures

-- there are numbers for the nets of a terminal, where there is one for each net of all
fits :
    (table : List Entry) (terms : List (List Step)) (i : ℕ) (e steps : List Step) (w all : Work) → drop i terms ≡ e ∷ drop (i + 1) terms → steps ≡ e → (terminals_made table (drop i terms) w).1 ≡ all
    → all.fresh < 2 ^ 32 → (terminal_made table steps w).1.fresh < 2 ^ 32
fits table terms i e steps w all here same made small =
    omega (
      arith,
      ap (λ s. (terminal_made table s w).1.fresh) same,
      ap (λ es. (terminals_made table es w).1.fresh) here,
      ap (λ (v : Work). v.fresh) made,
      small,
      terminals-grow table (drop (i + 1) terms) (terminal_made table e w).1,
    )

pub terminal_made-requires-clause-room : goal.terminal_made-requires-clause-room
terminal_made-requires-clause-room c =
    let i = c.loop-term.term-index in
    let terms = c.args.terms.now in
    let here : drop i terms ≡ c.term-item.result ∷ drop (i + 1) terms = grind (arith, common_steps) in
    fits c.args.scope.now terms i c.term-item.result c.as_slice.result.now c.loop-term.work (terminals_made c.args.scope.now terms c.args.work.now).1 here c.as_slice.ensures c.loop-term.invariant.work c.requires.room

pub loop-term-preserved : goal.loop-term-preserved
loop-term-preserved c =
    record {
      next =
          next_on steps_names c.args.scope.now c.args.terms.now c.loop-term.term-index c.term-item.result c.as_slice-in-loop-term.result.now c.loop-term.rest.now c.behind_steps-rest.result.now c.loop-term.invariant.next c.term-item.is c.loop-term-test.true c.as_slice-in-loop-term.ensures
          c.behind_steps-rest.ensures;
      nets = grind (arith, common_steps);
      work = grind (arith, common_steps);
    }
