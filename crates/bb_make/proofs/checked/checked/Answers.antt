use Rattle.std.proofs.Common.{◌≡◌, ℕ, ap, refl, Err}
use Rattle.bb_terms.specs.declared.fault.PlanFault.{PlanFault}
use Rattle.bb_terms.specs.declared.fault.PlanFault.TheVariants.{Rule, NoMemory}
use Rattle.bb_make.proofs.checked.checked.Goals as goal

pub no_rule-requires : goal.no_rule-requires
no_rule-requires c =
    by c.in-Err.fault (λ number place e. let answered = c.in-Err.ensures.rule number place (ap Err e) in c.one_fault.ensures.none c.args.netlist.now c.args.plan number answered.exact c.requires.valid answered.fault)
  where
    by : (fault : PlanFault) → ((number place : ℕ) → fault ≡ Rule number place → ⊥) → fault ≡ NoMemory
    by (Rule number place) h = absurd (h number place refl)
    by NoMemory h = refl
