use Rattle.bb_words.proofs.Numbers.{found_in, none_in, no_digit}
use Rattle.bb_words.proofs.number.number_in.Goals as goal

pub returns-then-not-begins_a_number-clause-none : goal.returns-then-not-begins_a_number-clause-none
returns-then-not-begins_a_number-clause-none c = λ _. no_digit c.args.text.now (λ h. let is = c.begins_a_number.ensures.1 h in cc)

pub returns-clause-found : goal.returns-clause-found
returns-clause-found c =
    let first = c.begins_a_number.ensures.0 c.if-not-begins_a_number.false in
    found_in _ c.args.text.now c.parse.result c.ok.result c.parse.ensures.value.0 c.ok.ensures.value first.0 first.1

pub returns-clause-none : goal.returns-clause-none
returns-clause-none c = none_in c.args.text.now c.parse.result c.ok.result c.parse.ensures.value.0 c.ok.ensures.value
