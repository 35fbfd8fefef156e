use Rattle.std.proofs.Common.{◌≡◌, ◌≢◌, ◌∙◌, sym, ap, Bool}
use Rattle.std.specs.Prelude.{Option, Some, None, Result, Ok, Err, IfErr}
use Rattle.std.specs.Option.{option_or}
use Rattle.bb_fault.specs.declared.fault.ElabFault.{ElabFault}
use Rattle.bb_fault.specs.declared.fault.ElabFault.TheVariants.{NoMemory}
use Rattle.bb_parse.specs.declared.syntax.Module.{Module}
use Rattle.bb_scope.specs.Answers.{IsAnswer}
use Rattle.bb_scope.specs.Variables.{variables}
use Rattle.bb_scope.specs.Text.{text_fault}
use Rattle.bb_drive.specs.Clock.{clock_fault}
use Rattle.bb_targets.specs.Targets.{twice_fault}
use Rattle.bb_targets.proofs.Twice.{told}
use Rattle.bb_meaning.specs.Outcome.{net_fault, variables_in, work_in}
use Rattle.bb_elab.proofs.PortLaws.{fine_text}
use Rattle.bb_elab.proofs.outcome.driven_once.Goals as goal

-- a fault that is answered is one of nets, where each such fault is
answered : {A : Type 0} (r : Result A ElabFault) (fault nets : Option ElabFault) → IsAnswer fault r → ((f : ElabFault) → fault ≡ Some f → nets ≡ Some f) → IfErr r (λ f. f ≢ NoMemory → nets ≡ Some f)
answered (Ok a) fault nets is each = tt
answered (Err f) fault nets is each = λ some. each f (is some)

first_of_nets : (own : Bool) (m : Module) → text_fault own m ≡ None → (f : ElabFault) → twice_fault (variables m) m.items ≡ Some f → net_fault (variables_in m) (work_in m) ≡ Some f
first_of_nets own m fine f e = ap (λ o. option_or o (clock_fault (variables_in m) (work_in m))) (told m (fine_text own m fine).parts f e)

pub returns : goal.returns
returns c =
    let m = c.args.module.now in
    let same : twice_fault c.args.scope.now c.as_slice.result.now ≡ twice_fault (variables m) m.items = λ i. twice_fault (c.requires.scope i) (c.as_slice.ensures i) in
    answered c.twice_fault.result (twice_fault c.args.scope.now c.as_slice.result.now) (net_fault (variables_in m) (work_in m)) c.twice_fault.ensures
    (λ f e. first_of_nets c.args.own m c.requires.fine f (sym same ∙ e))
