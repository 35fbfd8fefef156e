use Rattle.std.proofs.Common.{◌≡◌, ℕ, ◌≤◌, ◌^◌, ◌*◌, ◌%◌, inr, Err, map, ap, subst, refl, arith}
use Rattle.std.proofs.Math.Nat.{pow-le-pow_right}
use Rattle.bb_base.specs.Firsts.{IsLeast}
use Rattle.bb_code.specs.Degree.{IsFitting}
use Rattle.bb_code.specs.declared.fault.Need.TheVariants.{Cells, Source}
use Rattle.bb_code.proofs.Bound.{stuck_bound, stuck_listed}
use Rattle.bb_code.proofs.Degrees.{columns_fit, columns_there, least_code_degree, none_from_need}
use Rattle.bb_code.proofs.search.degree.Goals as goal

-- a power of two that fits is what the shift gives
shifted : (k : ℕ) → k ≤ 31 → 1 * 2 ^ k % 4294967296 ≡ 2 ^ k
shifted k le =
    let grown : 2 ^ k ≤ 2 ^ 31 = pow-le-pow_right (omega arith) le in
    omega (arith, grown)

pub returns-then-max-cells-clause-none : goal.returns-then-max-cells-clause-none
returns-then-max-cells-clause-none c = λ most need degree e code.
    let segments = map (λ segment. segment.items) c.args.segments.now in
    let size = shifted c.args.max c.requires.most in
    let few = c.if-max-cells.true in
    none_from_need segments c.args.sources c.args.cells c.args.min c.args.max (Cells c.args.cells) degree (refl, omega (arith, size, few)) code

pub returns-in-Ok-clause-degree : goal.returns-in-Ok-clause-degree
returns-in-Ok-clause-degree c =
    let segments = map (λ segment. segment.items) c.args.segments.now in
    let columns = c.in-Ok.columns.items in
    let size = shifted c.args.max c.requires.most in
    let enough = c.if-max-cells.false in
    let all = c.in-Ok.ensures.columns in
    let fits = columns_fit segments c.args.sources c.args.cells c.args.max columns (omega (arith, size, enough)) all in
    let least = subst (λ xs. IsLeast (λ degree. (c.args.min ≤ degree) × IsFitting xs c.args.cells degree) c.least_degree.result) c.deref.ensures.value c.least_degree.ensures in
    least_code_degree segments c.args.sources c.args.cells c.args.min c.args.max c.least_degree.result columns c.requires.order all fits least

pub returns-in-Ok-clause-columns : goal.returns-in-Ok-clause-columns
returns-in-Ok-clause-columns c =
    let segments = map (λ segment. segment.items) c.args.segments.now in
    let columns = c.in-Ok.columns.items in
    let size = shifted c.args.max c.requires.most in
    let enough = c.if-max-cells.false in
    let all = c.in-Ok.ensures.columns in
    let fits = columns_fit segments c.args.sources c.args.cells c.args.max columns (omega (arith, size, enough)) all in
    let least = subst (λ xs. IsLeast (λ degree. (c.args.min ≤ degree) × IsFitting xs c.args.cells degree) c.least_degree.result) c.deref.ensures.value c.least_degree.ensures in
    columns_there segments c.args.sources c.args.cells c.args.min c.args.max c.least_degree.result columns c.requires.order all fits least

pub returns-in-Err-Stuck-clause-none : goal.returns-in-Err-Stuck-clause-none
returns-in-Err-Stuck-clause-none c = λ most need degree e code.
    let segments = map (λ segment. segment.items) c.args.segments.now in
    let size = shifted c.args.max c.requires.most in
    let enough = c.if-max-cells.false in
    let stuck = c.in-Err-Stuck.ensures.stuck c.in-Err-Stuck.source (ap Err c.in-Err-Stuck.field-0-is) in
    none_from_need segments c.args.sources c.args.cells c.args.min c.args.max (Source c.in-Err-Stuck.source) degree (omega (arith, size, enough), stuck.0, stuck.1) code

pub returns-in-Err-Stuck-clause-bound : goal.returns-in-Err-Stuck-clause-bound
returns-in-Err-Stuck-clause-bound c = λ most need listed size e within.
    let segments = map (λ segment. segment.items) c.args.segments.now in
    let stuck = c.in-Err-Stuck.ensures.stuck c.in-Err-Stuck.source (ap Err c.in-Err-Stuck.field-0-is) in
    let some : 1 ≤ c.args.max = (let least = c.requires.least in let order = c.requires.order in omega (arith, least, order)) in
    inr (stuck_listed c.args.max c.in-Err-Stuck.source segments some stuck.1, stuck_bound c.args.max c.in-Err-Stuck.source listed size segments some stuck.1 within)
