use Rattle.std.proofs.Common.{ℕ, ◌∙◌, ap, subst, map, IfOk}
use Rattle.std.specs.Option.{MatchOption}
use Rattle.bb_base.specs.Firsts.{IsLeast}
use Rattle.bb_code.specs.Columns.{given_columns, IsFree}
use Rattle.bb_code.proofs.choice.next_column.Goals as goal

pub returns : goal.returns
returns c =
    let spans = ap (map (λ rows. rows.items)) c.deref.ensures.value ∙ c.in_ok-spans.ensures ∙ ap (map (given_columns c.args.columns.now)) c.requires.listed in
    subst (λ ys. IfOk c.least_free.result (λ column. MatchOption column ((v : ℕ) → IsFree c.args.degree ys v → ⊥) (λ v. IsLeast (IsFree c.args.degree ys) v))) spans c.least_free.ensures
