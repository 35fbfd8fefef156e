-- The columns of source cells, by their nets.
use Rattle.std.proofs.Common.{arith, ◌≡◌, ℕ, zero, suc, ◌+◌, ◌<◌, ◌&&◌, ◌==◌, Bool, true, false, List, [], ◌∷◌, ◌++◌, length, take, cond, refl, sym, ap, subst, ◌∙◌, slice_get, get_or, drop, Option, None, Some, All}
use Rattle.std.proofs.lemmas.Bool.Decides.{nat_tests}
use Rattle.std.proofs.lemmas.List.{drop_more}
use Rattle.std.proofs.lemmas.List.Elements.{All-from_recursion}
use Rattle.std.specs.List.{flat_map}
use Rattle.bb_base.proofs.Contained.{by_place, contains_at}
use Rattle.bb_base.specs.Net.{Netlist, driven, IsNetlist}
use Rattle.bb_terms.specs.declared.kind.Kind.{Kind}
use Rattle.bb_terms.specs.declared.kind.Kind.TheVariants.{Input, State, Split, Cut, Watch, Output}
use Rattle.bb_terms.specs.declared.plan.Cell.{Cell}
use Rattle.bb_terms.specs.Kinds.{is_source}
use Rattle.bb_terms.specs.Plan.{RegisterValue, PlanValue, chain}
use Rattle.bb_terms.specs.Lines.{is_stop, column_of}
use Rattle.bb_terms.specs.Rules.{Kinds, Apart, Served, MayStand, IsQ, IsGateNet}
use Rattle.bb_terms.specs.Valid.{IsValidPlan}
use Rattle.bb_rules.proofs.CellLemmas.{cell_at, column_is}
use Rattle.bb_terms.proofs.NetLemmas.{input_net_within, q_within, out_within}
use Rattle.bb_terms.proofs.StopLemmas.{source_at, source_stops}
use Rattle.bb_sign.specs.Bits.{noted_column, last_column, read_column, AreReadColumns}

-- cells in two parts
pub last_join : (xs ys : List Cell) (net : ℕ) (before : Option ℕ) → last_column (xs ++ ys) net before ≡ last_column ys net (last_column xs net before)
last_join [] ys net before = refl
last_join (c ∷ xs) ys net before = last_join xs ys net (cond (is_source c.kind && (c.net == net)) (Some c.column) before)

both_true : (a b : Bool) → (a && b) ≡ true → (a ≡ true) × (b ≡ true)
both_true true b h = (refl, h)
both_true false b h = absurd (cc h)

both : (a b : Bool) → a ≡ true → b ≡ true → (a && b) ≡ true
both true b h k = k
both false b h k = h

-- no source cell is on the net
last_none : (cells : List Cell) (net : ℕ) (before : Option ℕ) → ((i : ℕ) (c : Cell) → slice_get cells i ≡ Some c → is_source c.kind ≡ true → c.net ≡ net → ⊥) → last_column cells net before ≡ before
last_none [] net before none = refl
last_none (c ∷ cells) net before none = last_none cells net _ (λ i d. none (suc i) d) ∙ by (is_source c.kind && (c.net == net)) refl
  where
    by : (b : Bool) → (is_source c.kind && (c.net == net)) ≡ b → cond b (Some c.column) before ≡ before
    by true e = let h = both_true (is_source c.kind) (c.net == net) e in let test = h.1 in absurd (none 0 c refl h.0 (grind (arith, nat_tests, test)))
    by false e = refl

-- all source cells on the net have this column
abbrev HaveColumn : List Cell → ℕ → ℕ → Type 0
HaveColumn cells net column = (i : ℕ) (c : Cell) → slice_get cells i ≡ Some c → is_source c.kind ≡ true → c.net ≡ net → c.column ≡ column

step : (c : Cell) (net column : ℕ) (before : Option ℕ) → (is_source c.kind ≡ true → c.net ≡ net → c.column ≡ column) → before ≡ Some column → cond (is_source c.kind && (c.net == net)) (Some c.column) before ≡ Some column
step c net column before has some = by (is_source c.kind && (c.net == net)) refl
  where
    by : (b : Bool) → (is_source c.kind && (c.net == net)) ≡ b → cond b (Some c.column) before ≡ Some column
    by true e = let h = both_true (is_source c.kind) (c.net == net) e in let test = h.1 in ap Some (has h.0 (grind (arith, nat_tests, test)))
    by false e = some

last_kept : (cells : List Cell) (net column : ℕ) (before : Option ℕ) → HaveColumn cells net column → before ≡ Some column → last_column cells net before ≡ Some column
last_kept [] net column before have some = some
last_kept (c ∷ cells) net column before have some = last_kept cells net column _ (λ i d. have (suc i) d) (step c net column before (have 0 c refl) some)

last_some : (cells : List Cell) (net column i : ℕ) (c : Cell) (before : Option ℕ) → HaveColumn cells net column → slice_get cells i ≡ Some c → is_source c.kind ≡ true → c.net ≡ net → last_column cells net before ≡ Some column
last_some [] net column i c before have at source on = absurd (cc at)
last_some (d ∷ cells) net column zero c before have at source on =
    let same : d ≡ c = cc at in
    let hit : (is_source d.kind && (d.net == net)) ≡ true = both (is_source d.kind) (d.net == net) (ap (λ (e : Cell). is_source e.kind) same ∙ source) (let one : d.net ≡ net = ap (λ (e : Cell). e.net) same ∙ on in grind (arith, nat_tests, one)) in
    last_kept cells net column _ (λ i e. have (suc i) e) (ap (λ b. cond b (Some d.column) before) hit ∙ ap Some (have 0 d refl (ap (λ (e : Cell). is_source e.kind) same ∙ source) (ap (λ (e : Cell). e.net) same ∙ on)))
last_some (d ∷ cells) net column (suc i) c before have at source on = last_some cells net column i c _ (λ i e. have (suc i) e) at source on

-- the table of the whole chain
pub read_is : (a : Netlist ℕ) (p : PlanValue) (net : ℕ) → IsNetlist a → IsValidPlan a p → net < length (driven a) → last_column (chain p) net None ≡ read_column a p net
read_is a p net fits valid within = by (is_stop a p net) refl
  where
    have : HaveColumn (chain p) net (column_of p net)
    have i c at source on = sym (sym (ap (column_of p) on) ∙ column_is a p i c (valid.meets Apart) at source)

    by : (b : Bool) → is_stop a p net ≡ b → last_column (chain p) net None ≡ read_column a p net
    by true e =
        let s = source_at a p net fits (valid.meets Served) within e in
        last_some (chain p) net (column_of p net) s.0 s.1.source None have s.1.stands s.1.generates s.1.on ∙ sym (ap (λ b. cond b (Some (column_of p net)) None) e)
    by false e =
        last_none (chain p) net None (λ i c at source on. let stops = source_stops a p net i fits (valid.meets Kinds) (record { source = c; stands = at; generates = source; on = on }) in absurd (cc (e, stops)))
        ∙ sym (ap (λ b. cond b (Some (column_of p net)) None) e)

-- a cell that fits is on a net
pub fits_within : (a : Netlist ℕ) (kind : Kind) (net : ℕ) → IsNetlist a → MayStand a kind net → net < length (driven a)
fits_within a kind net fits may = by kind may
  where
    of_q : IsQ a net → net < length (driven a)
    of_q q = subst (λ n. n < length (driven a)) q.1.2 (q_within a q.1.0 fits (contains_at a.flops q.0 q.1.0 q.1.1))

    of_gate : IsGateNet a net → net < length (driven a)
    of_gate g = subst (λ n. n < length (driven a)) g.1.2 (out_within a g.1.0 fits (contains_at a.gates g.0 g.1.0 g.1.1))

    by : (kind : Kind) → MayStand a kind net → net < length (driven a)
    by Input may = input_net_within a net fits may
    by State may = of_q may
    by Split may = of_q may
    by Cut may = of_gate may
    by Watch may = of_q may
    by Output may = of_gate may.0

-- a cell of a register stands in the chain
pub in_chain : (p : PlanValue) (r k : ℕ) (g : RegisterValue) (c : Cell) → slice_get p.registers r ≡ Some g → slice_get g.cells k ≡ Some c → (i : ℕ) × (slice_get (chain p) i ≡ Some c)
in_chain p r k g c stands at =
    let number : ℕ = length (flat_map (λ (h : RegisterValue). h.cells) (take r p.registers)) + k in
    (number, cell_at p number r c (record { register = g; stands = stands; place = k; at = at; number = refl }))

-- the cells of a valid plan's registers are on nets
pub registers_within : (a : Netlist ℕ) (p : PlanValue) → IsNetlist a → IsValidPlan a p → All (λ g. All (λ c. c.net < length (driven a)) g.cells) p.registers
registers_within a p fits valid =
    All-from_recursion (λ (g : RegisterValue). All (λ c. c.net < length (driven a)) g.cells) p.registers
    (by_place (λ (g : RegisterValue). All (λ c. c.net < length (driven a)) g.cells) p.registers (λ r g stands.
    All-from_recursion (λ (c : Cell). c.net < length (driven a)) g.cells
    (by_place (λ (c : Cell). c.net < length (driven a)) g.cells (λ k c at.
    let i = in_chain p r k g c stands at in
    fits_within a c.kind c.net fits (valid.meets Kinds i.0 c i.1)))))

-- one register more
pub registers_more : (registers : List RegisterValue) (i : ℕ) (g : RegisterValue) (net : ℕ) (old new whole : Option ℕ) → i < length registers → g ≡ get_or registers i g → new ≡ last_column g.cells net old
    → last_column (flat_map (λ (h : RegisterValue). h.cells) (drop i registers)) net old ≡ whole → last_column (flat_map (λ (h : RegisterValue). h.cells) (drop (i + 1) registers)) net new ≡ whole
registers_more registers i g net old new whole less is noted so_far =
    let rest = flat_map (λ (h : RegisterValue). h.cells) (drop (i + 1) registers) in
    let front : drop i registers ≡ g ∷ drop (i + 1) registers = drop_more registers i g less ∙ ap (λ (h : RegisterValue). h ∷ drop (i + 1) registers) (sym is) in
    ap (last_column rest net) noted ∙ (sym (last_join g.cells rest net old) ∙ (ap (λ (gs : List RegisterValue). last_column (flat_map (λ (h : RegisterValue). h.cells) gs) net old) (sym front) ∙ so_far))

-- the table of all nets
pub table_is : (a : Netlist ℕ) (p : PlanValue) (columns : List (Option ℕ)) → IsNetlist a → IsValidPlan a p → length columns ≡ length (driven a) → ((net : ℕ) → noted_column columns net ≡ last_column (chain p) net None) → AreReadColumns a p columns
table_is a p columns fits valid long noted = record { long = long; each = λ net within. noted net ∙ read_is a p net fits valid within }
