-- the least degree from the columns at the highest one, and what it means that there is none
use Rattle.std.proofs.Common.{◌≡◌, ℕ, ◌<◌, ◌≤◌, ◌^◌, List, get_or, sym, ◌∙◌, subst, arith}
use Rattle.std.specs.List.{EachIndex}
use Rattle.bb_base.specs.Firsts.{IsLeast}
use Rattle.bb_code.specs.Columns.{AreAllColumns}
use Rattle.bb_code.specs.Degree.{IsCodeDegree, IsFitting, IsNeed}
use Rattle.bb_code.specs.declared.fault.Need.{Need}
use Rattle.bb_code.specs.declared.fault.Need.TheVariants.{Cells, Source}
use Rattle.bb_code.proofs.OneChoice.{states_grow, columns_higher, columns_lower, columns_below, columns_unique, none_past_stuck}

-- the columns of the highest degree fit there
pub columns_fit : (segments : List (List ℕ)) (sources cells max : ℕ) (columns : List ℕ) → cells ≤ 2 ^ max → AreAllColumns max segments sources columns → IsFitting columns cells max
columns_fit segments sources cells max columns le h = record { states = le; below = columns_below max segments columns h.chosen }

module _ (segments : List (List ℕ)) (sources cells min max degree : ℕ) (columns : List ℕ) (order : min ≤ max) (h : AreAllColumns max segments sources columns)
    (fits : IsFitting columns cells max) (least : IsLeast (λ degree. (min ≤ degree) × IsFitting columns cells degree) degree) where
  within : degree ≤ max
  within = least.least max (order, fits)

  -- the columns of the least degree at which they fit, which is the least degree with columns
  pub columns_there : AreAllColumns degree segments sources columns
  columns_there = record { one_each = h.one_each; chosen = columns_lower degree max segments columns within h.chosen least.holds.1.below }

  pub least_code_degree : IsLeast (IsCodeDegree segments sources cells min max) degree
  least_code_degree = record {
    holds = record { least = least.holds.0; most = within; states = least.holds.1.states; columns = (columns, columns_there) };
    least = λ other code.
        let others = code.columns.0 in
        let all = code.columns.1 in
        let same : others ≡ columns = columns_unique max segments others columns (columns_higher other max segments others code.most all.chosen) h.chosen (all.one_each ∙ sym h.one_each) in
        least.least other (code.least, record { states = code.states; below = subst (λ xs. EachIndex xs (λ source. get_or xs source 0 < 2 ^ other)) same (columns_below other segments others all.chosen) });
  }

-- where the highest degree lacks something no lower one will do
pub none_from_need : (segments : List (List ℕ)) (sources cells min max : ℕ) (need : Need) (degree : ℕ) → IsNeed segments sources cells max need → IsCodeDegree segments sources cells min max degree → ⊥
none_from_need segments sources cells min max (Cells c) degree need code =
    let grown = states_grow degree max code.most in
    let few = need.1 in
    let enough = code.states in
    absurd (omega (arith, grown, few, enough))
none_from_need segments sources cells min max (Source source) degree need code =
    let all = code.columns.1 in
    let past = none_past_stuck max segments code.columns.0 source (columns_higher degree max segments code.columns.0 code.most all.chosen) need.2 in
    let long = all.one_each in
    let inside = need.1 in
    absurd (omega (arith, past, long, inside))
