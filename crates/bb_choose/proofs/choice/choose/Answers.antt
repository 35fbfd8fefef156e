use Rattle.bb_choose.proofs.choice.choose.Goals as goal

pub returns-clause-degree : goal.returns-clause-degree
returns-clause-degree c = λ max need e. record { grouped = c.in-Ok.grouped; arranged = c.in-Ok.ensures.arranged; holds = c.plan_of.ensures.degree max need e }
