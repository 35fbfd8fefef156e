-- the lines of the written netlist compute the original's segments
use Rattle.std.proofs.Common.{◌≡◌, ℕ, suc, List, [], ◌∷◌, map, Bool, true, false, ◌&&◌, ◌||◌, ◌==◌, if◌then◌else◌, refl, sym, ap, ◌∙◌}
use Rattle.std.specs.List.{AllByRecursion, list_any}
use Rattle.bb_base.specs.Net.{Gate, Netlist}
use Rattle.bb_terms.specs.Function.{Assigns, line_bit}
use Rattle.bb_terms.specs.Paths.{Start, AtNet}
use Rattle.bb_terms.specs.Reads.{read, read_behind, line}
use Rattle.bb_terms.specs.declared.wire.Wire.{Wire}
use Rattle.bb_terms.specs.declared.wire.Wire.TheVariants.{Kept, Read}
use Rattle.bb_terms.specs.Kinds.{is_behind}
use Rattle.bb_terms.specs.Lines.{d_of, is_stop, StartsBehind, IsStartOf}
use Rattle.bb_terms.specs.Plan.{PlanValue, chain}
use Rattle.bb_terms.specs.declared.plan.Cell.{Cell}
use Rattle.bb_terms.specs.declared.kind.Kind.{Kind}
use Rattle.bb_terms.specs.declared.kind.Kind.TheVariants.{State, Split, Cut, Watch, Output, Input}
use Rattle.bb_testrun.specs.Computes.{LinesCompute, ReadsAtStops}
use Rattle.bb_testrun.specs.Traced.{KeptMeet}
use Rattle.std.specs.Prelude.{Contains}
use Rattle.std.proofs.lemmas.List.Elements.{All-contains, All-from_recursion}
use Rattle.bb_base.proofs.Lists.{map_twice}

pub all_in : {T : Type 0} (F : T → Type 0) (xs : List T) (x : T) → Contains xs x → AllByRecursion F xs → F x
all_in F xs x i h = All-contains F xs x (All-from_recursion F xs h) i

-- a net without an Input or Cut cell is read as it is
pub read_plain : (i : ℕ) (cs : List Cell) (n : ℕ) → list_any (λ c. is_behind c.kind && (c.net == n)) cs ≡ false → read_behind i cs n ≡ Kept n
read_plain i [] n h = refl
read_plain i (c ∷ cs) n h = by (is_behind c.kind && (c.net == n)) h (λ k. read_plain (suc i) cs n k)
  where
    by : (b : Bool) → (b || list_any (λ c. is_behind c.kind && (c.net == n)) cs) ≡ false → (list_any (λ c. is_behind c.kind && (c.net == n)) cs ≡ false → read_behind (suc i) cs n ≡ Kept n)
        → (if b then Read i else read_behind (suc i) cs n) ≡ Kept n
    by true e more = absurd cc
    by false e more = more e

pub plain : (a : Netlist ℕ) (p : PlanValue) (n : ℕ) → ReadsAtStops a p → is_stop a p n ≡ false → read p n ≡ Kept n
plain a p n stops h = read_plain 0 (chain p) n (stops n h)

assigned : (gives : Gate ℕ → List Bool → Bool) (a : Netlist ℕ) (p : PlanValue) (v : Wire → Bool) (o : Start ℕ) → ReadsAtStops a p → KeptMeet gives a p v → Assigns gives a.gates (is_stop a p) o (λ n. v (read p n)) (λ n. v (read p n))
assigned gives a p v o stops h =
    record {
      leaves = λ b l. refl;
      passed = λ g i lies. ap v (plain a p g.out stops lies.1) ∙ all_in (λ (g : Gate ℕ). v (Kept g.out) ≡ gives g (map v (map (read p) g.ins))) a.gates g i h ∙ ap (gives g) (map_twice v (read p) g.ins);
    }

at_net : (gives : Gate ℕ → List Bool → Bool) (p : PlanValue) (v : Wire → Bool) (n : ℕ) (o : Start ℕ) → o ≡ AtNet n → v (read p n) ≡ line_bit gives o (λ n. v (read p n))
at_net gives p v n o e = ap (λ o. line_bit gives o (λ n. v (read p n))) (sym e)

behind : (gives : Gate ℕ → List Bool → Bool) (a : Netlist ℕ) (p : PlanValue) (v : Wire → Bool) (n : ℕ) (o : Start ℕ) → KeptMeet gives a p v → StartsBehind a n o
    → v (Kept n) ≡ line_bit gives o (λ n. v (read p n))
behind gives a p v n o h s =
    let g = s.0 in
    sym (ap (λ m. v (Kept m)) s.2) ∙ all_in (λ (g : Gate ℕ). v (Kept g.out) ≡ gives g (map v (map (read p) g.ins))) a.gates g s.1 h ∙ ap (gives g) (map_twice v (read p) g.ins)
    ∙ ap (λ o. line_bit gives o (λ n. v (read p n))) (sym s.3)

bit_of_line : (gives : Gate ℕ → List Bool → Bool) (a : Netlist ℕ) (p : PlanValue) (v : Wire → Bool) (k : Kind) (n column : ℕ) (o : Start ℕ) → KeptMeet gives a p v → IsStartOf a k n o
    → v (line a p (record { kind = k; net = n; column = column })) ≡ line_bit gives o (λ n. v (read p n))
bit_of_line gives a p v State n column o h s = at_net gives p v (d_of a.flops n) o s
bit_of_line gives a p v Split n column o h s = at_net gives p v (d_of a.flops n) o s
bit_of_line gives a p v Watch n column o h s = at_net gives p v (d_of a.flops n) o s
bit_of_line gives a p v Cut n column o h s = behind gives a p v n o h s
bit_of_line gives a p v Output n column o h s = behind gives a p v n o h s
bit_of_line gives a p v Input n column o h s = absurd s

pub lines_compute : (a : Netlist ℕ) (p : PlanValue) → LinesCompute a p
lines_compute a p stops gives v h c o s = record { w = λ n. v (read p n); assigns = assigned gives a p v o stops h; is = sym (bit_of_line gives a p v c.kind c.net c.column o h s) }
