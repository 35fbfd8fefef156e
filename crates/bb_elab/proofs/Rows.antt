-- Worked modules, computed from the definition.
use Rattle.std.proofs.Common.{arith, ap, sym, subst}
use Rattle.std.specs.Prelude.{◌≡◌, ◌≢◌, ℕ, zero, suc, ◌<◌, Bool, ◌&&◌, List, [], ◌∷◌, ◌++◌, codes, Option, Some, None, refl, true, false, AllPairs, slice_get}
use Rattle.bb_base.specs.declared.operator.Op.{Op}
use Rattle.bb_base.specs.declared.operator.Op.TheVariants as op
use Rattle.bb_base.specs.declared.variable.Role.{Role}
use Rattle.bb_base.specs.declared.variable.Role.TheVariants.{Input, Output, Wire}
use Rattle.bb_base.specs.Net.{Gate, Netlist}
use Rattle.bb_base.specs.Order.{is_within, IsStuck, IsFirstStuck}
use Rattle.bb_parse.specs.declared.syntax.Module.{Module}
use Rattle.bb_parse.specs.declared.syntax.Header.TheVariants.{Plain, Ansi}
use Rattle.bb_parse.specs.declared.syntax.Item.{Item}
use Rattle.bb_parse.specs.declared.syntax.Item.TheVariants as item
use Rattle.bb_parse.specs.declared.syntax.Conns.TheVariants.{Places, Pins}
use Rattle.bb_parse.specs.declared.syntax.Decl.{Decl}
use Rattle.bb_parse.specs.declared.syntax.Step.{Step}
use Rattle.bb_parse.specs.declared.syntax.Step.TheVariants as step
use Rattle.bb_fault.specs.declared.fault.ElabFault.{ElabFault}
use Rattle.bb_fault.specs.declared.fault.ElabFault.TheVariants.{Reserved, Redeclared, BadPort, TooMany, UnknownCell, BadPins, BadSelect, WidthDiffers, TooWide, TwoDrivers, Undriven, ClockNotInput, TwoClocks, ClockAsData, Loop}
use Rattle.bb_scope.specs.Text.{text_fault}
use Rattle.bb_meaning.specs.Outcome.{IsLooped, first_fault, denoted}

abbrev declared : ℕ → Role → Option (ℕ × ℕ) → List ℕ → Decl
declared line role range name = record { line = line; role = role; range = range; name = name }

abbrev decl : Role → List ℕ → Item
decl role name = item.Decl (declared 1 role None name)

abbrev ranged : Role → ℕ → ℕ → List ℕ → Item
ranged role l r name = item.Decl (declared 1 role (Some (l, r)) name)

abbrev whole : List ℕ → Step
whole name = step.Ref (record { name = name; select = None })

abbrev part : List ℕ → ℕ → ℕ → Step
part name l r = step.Ref (record { name = name; select = Some (l, r) })

abbrev ref : List ℕ → List Step
ref name = whole name ∷ []

abbrev gate : Op → ℕ → List ℕ → Gate ℕ
gate op out ins = record { op = op; out = out; ins = ins }

-- one statement a line, with each fault of nets in turn -------------------

abbrev tail : List ℕ → List ℕ → List Item
tail u d =
    item.Prim 7 op.And (ref (codes "y") ∷ ref (codes "p") ∷ ref u ∷ [])
    ∷ item.Prim 8 op.And (ref (codes "l") ∷ ref (codes "l") ∷ ref (codes "a") ∷ [])
    ∷ item.Cell 9 (codes "dff") (Places (ref (codes "clk") ∷ ref (codes "q") ∷ ref d ∷ [])) ∷ []

abbrev not_p : Item
not_p = item.Prim 5 op.Not (ref (codes "p") ∷ ref (codes "a") ∷ [])

abbrev bad : List Item → Module
bad items =
    record {
      name = codes "bad";
      header = Plain (codes "clk" ∷ codes "a" ∷ codes "y" ∷ []);
      items = decl Input (codes "clk") ∷ decl Input (codes "a") ∷ decl Output (codes "y") ∷ items;
    }

reserved_wire : first_fault false (bad (decl Wire (codes "bt_x") ∷ not_p ∷ not_p ∷ tail (codes "u") (codes "clk"))) ≡ Some (Reserved (codes "bt_x") None)
reserved_wire = refl

second_driver : first_fault false (bad (not_p ∷ not_p ∷ tail (codes "u") (codes "clk"))) ≡ Some (TwoDrivers (codes "p") None)
second_driver = refl

no_driver : first_fault false (bad (not_p ∷ tail (codes "u") (codes "clk"))) ≡ Some (Undriven (codes "u") None)
no_driver = refl

data_clock : first_fault false (bad (not_p ∷ tail (codes "a") (codes "clk"))) ≡ Some (ClockAsData (codes "clk") None)
data_clock = refl

no_fault_but_a_loop : first_fault false (bad (not_p ∷ tail (codes "a") (codes "a"))) ≡ None
no_fault_but_a_loop = refl

-- a gate that reads what it drives: the nets but the clock are a, y, p, l, q
abbrev own_gates : List (Gate ℕ)
own_gates = gate op.Not 2 (0 ∷ []) ∷ gate op.And 1 (2 ∷ 0 ∷ []) ∷ gate op.And 3 (3 ∷ 0 ∷ []) ∷ []

own_stuck : IsStuck own_gates 3
own_stuck zero = refl
own_stuck (suc k) = ap (λ b. (b && (is_within own_gates k 0 && true)) && true) (own_stuck k)

own_least : (m : ℕ) → m < 3 → IsStuck own_gates m → ⊥
own_least zero small stuck = cc (stuck 2)
own_least (suc zero) small stuck = cc (stuck 2)
own_least (suc (suc zero)) small stuck = cc (stuck 2)
own_least (suc (suc (suc m))) small stuck = omega (arith, small)

own_next : IsFirstStuck own_gates 3 3
own_next = record {
  gate = gate op.And 3 (3 ∷ 0 ∷ []);
  stands = (2, omega arith, refl);
  drives = refl;
  place = 0;
  reads = refl;
  stuck = own_stuck;
  first = λ q m less at stuck. omega (arith, less);
}

own_loop : IsLooped (bad (not_p ∷ tail (codes "a") (codes "a"))) (Loop (codes "l") None 1)
own_loop = record {
  nets = 3 ∷ [];
  is_loop = record {
    before = [];
    first = 3;
    start = record { stuck = own_stuck; least = own_least };
    walk = own_next;
    again = refl;
    met_once = λ i j d less small. omega (arith, less, small);
  };
  fault_is = refl;
}

-- vectors of both directions ------------------------------------------------

abbrev mixed : Step → Module
mixed b =
    record {
      name = codes "mixed";
      header = Plain (codes "s" ∷ codes "a" ∷ codes "b" ∷ codes "c" ∷ codes "y" ∷ []);
      items =
          decl Input (codes "s") ∷ ranged Input 1 0 (codes "a") ∷ ranged Input 0 1 (codes "b") ∷ ranged Input 1 0 (codes "c") ∷ ranged Output 1 0 (codes "y")
          ∷ item.Assign 6 (record { name = codes "y"; select = None } ∷ [])
          (whole (codes "s") ∷ whole (codes "a") ∷ b ∷ step.Not ∷ step.And ∷ whole (codes "c") ∷ step.Or
          ∷ part (codes "c") 0 0 ∷ step.Const 1 0 ∷ step.Join 2 ∷ step.Cond ∷ [])
          ∷ [];
    }

mixed_fine : first_fault false (mixed (whole (codes "b"))) ≡ None
mixed_fine = refl

mixed_gates :
    (denoted (mixed (whole (codes "b")))).netlist.gates ≡
    gate op.Not 9 (3 ∷ []) ∷ gate op.Not 10 (4 ∷ []) ∷ gate op.And 11 (1 ∷ 9 ∷ []) ∷ gate op.And 12 (2 ∷ 10 ∷ []) ∷ gate op.Or 13 (11 ∷ 5 ∷ []) ∷ gate op.Or 14 (12 ∷ 6 ∷ [])
    ∷ gate op.Zero 15 [] ∷ gate op.Not 16 (0 ∷ []) ∷ gate op.And 17 (0 ∷ 13 ∷ []) ∷ gate op.And 18 (16 ∷ 6 ∷ []) ∷ gate op.Or 7 (17 ∷ 18 ∷ [])
    ∷ gate op.And 19 (0 ∷ 14 ∷ []) ∷ gate op.And 20 (16 ∷ 15 ∷ []) ∷ gate op.Or 8 (19 ∷ 20 ∷ []) ∷ []
mixed_gates = refl

against_direction : first_fault false (mixed (part (codes "b") 1 0)) ≡ Some (BadSelect 6)
against_direction = refl

-- a small known benchmark, by primitives and by cells -------------------------

abbrev two : Op → List ℕ → List ℕ → List ℕ → Item
two op out a b = item.Prim 1 op (ref out ∷ ref a ∷ ref b ∷ [])

abbrev dff : List ℕ → List ℕ → Item
dff q d = item.Cell 1 (codes "dff") (Places (ref (codes "clk") ∷ ref q ∷ ref d ∷ []))

abbrev s27 : List Item → Module
s27 items =
    record {
      name = codes "s";
      header = Plain (codes "clk" ∷ codes "G0" ∷ codes "G1" ∷ codes "G2" ∷ codes "G3" ∷ codes "G17" ∷ []);
      items =
          decl Input (codes "clk") ∷ decl Input (codes "G0") ∷ decl Input (codes "G1") ∷ decl Input (codes "G2") ∷ decl Input (codes "G3") ∷ decl Output (codes "G17")
          ∷ decl Wire (codes "G5") ∷ decl Wire (codes "G6") ∷ decl Wire (codes "G7") ∷ decl Wire (codes "G8") ∷ decl Wire (codes "G9") ∷ decl Wire (codes "G10")
          ∷ decl Wire (codes "G11") ∷ decl Wire (codes "G12") ∷ decl Wire (codes "G13") ∷ decl Wire (codes "G14") ∷ decl Wire (codes "G15") ∷ decl Wire (codes "G16")
          ∷ items;
    }

abbrev by_prims : List Item
by_prims =
    dff (codes "G5") (codes "G10") ∷ dff (codes "G6") (codes "G11") ∷ dff (codes "G7") (codes "G13")
    ∷ item.Prim 1 op.Not (ref (codes "G14") ∷ ref (codes "G0") ∷ []) ∷ item.Prim 1 op.Not (ref (codes "G17") ∷ ref (codes "G11") ∷ [])
    ∷ two op.And (codes "G8") (codes "G14") (codes "G6") ∷ two op.Or (codes "G15") (codes "G12") (codes "G8") ∷ two op.Or (codes "G16") (codes "G3") (codes "G8")
    ∷ two op.Nand (codes "G9") (codes "G16") (codes "G15") ∷ two op.Nor (codes "G10") (codes "G14") (codes "G11") ∷ two op.Nor (codes "G11") (codes "G5") (codes "G9")
    ∷ two op.Nor (codes "G12") (codes "G1") (codes "G7") ∷ two op.Nor (codes "G13") (codes "G2") (codes "G12") ∷ []

abbrev pin : List ℕ → List ℕ → List ℕ × Option (List Step)
pin p name = (p, Some (ref name))

abbrev cell : List ℕ → List ℕ → List ℕ → List ℕ → Item
cell kind out a b = item.Cell 1 kind (Pins (pin (codes "A") a ∷ pin (codes "B") b ∷ pin (codes "Y") out ∷ []))

abbrev inverter : List ℕ → List ℕ → Item
inverter out a = item.Cell 1 (codes "$_NOT_") (Pins (pin (codes "Y") out ∷ pin (codes "A") a ∷ []))

abbrev register : List ℕ → List ℕ → Item
register q d = item.Cell 1 (codes "$_DFF_P_") (Pins (pin (codes "C") (codes "clk") ∷ pin (codes "D") d ∷ pin (codes "Q") q ∷ []))

abbrev by_cells : List Item
by_cells =
    register (codes "G5") (codes "G10") ∷ register (codes "G6") (codes "G11") ∷ register (codes "G7") (codes "G13")
    ∷ inverter (codes "G14") (codes "G0") ∷ inverter (codes "G17") (codes "G11")
    ∷ cell (codes "$_AND_") (codes "G8") (codes "G14") (codes "G6") ∷ cell (codes "$_OR_") (codes "G15") (codes "G12") (codes "G8") ∷ cell (codes "$_OR_") (codes "G16") (codes "G3") (codes "G8")
    ∷ cell (codes "$_NAND_") (codes "G9") (codes "G16") (codes "G15") ∷ cell (codes "$_NOR_") (codes "G10") (codes "G14") (codes "G11") ∷ cell (codes "$_NOR_") (codes "G11") (codes "G5") (codes "G9")
    ∷ cell (codes "$_NOR_") (codes "G12") (codes "G1") (codes "G7") ∷ cell (codes "$_NOR_") (codes "G13") (codes "G2") (codes "G12")
    ∷ decl Wire (codes "u.clk") ∷ item.Assign 1 (record { name = codes "u.clk"; select = None } ∷ []) (ref (codes "clk")) ∷ []

prims_fine : first_fault false (s27 by_prims) ≡ None
prims_fine = refl

cells_fine : first_fault false (s27 by_cells) ≡ None
cells_fine = refl

abbrev s27_gates : List (Gate ℕ)
s27_gates =
    gate op.Not 14 (0 ∷ []) ∷ gate op.Not 4 (11 ∷ []) ∷ gate op.And 8 (14 ∷ 6 ∷ []) ∷ gate op.Or 15 (12 ∷ 8 ∷ []) ∷ gate op.Or 16 (3 ∷ 8 ∷ []) ∷ gate op.Nand 9 (16 ∷ 15 ∷ [])
    ∷ gate op.Nor 10 (14 ∷ 11 ∷ []) ∷ gate op.Nor 11 (5 ∷ 9 ∷ []) ∷ gate op.Nor 12 (1 ∷ 7 ∷ []) ∷ gate op.Nor 13 (2 ∷ 12 ∷ []) ∷ []

abbrev s27_netlist : Netlist ℕ
s27_netlist = record { inputs = 0 ∷ 1 ∷ 2 ∷ 3 ∷ []; outputs = 4 ∷ []; gates = s27_gates; flops = record { q = 5; d = 10 } ∷ record { q = 6; d = 11 } ∷ record { q = 7; d = 13 } ∷ [] }

prims_denoted : (denoted (s27 by_prims)).netlist ≡ s27_netlist
prims_denoted = refl

cells_denoted : (denoted (s27 by_cells)).netlist ≡ s27_netlist
cells_denoted = refl

s27_clock : (denoted (s27 by_cells)).clock ≡ Some (record { variable = 0; place = 0 })
s27_clock = refl

-- small modules ---------------------------------------------------------------

abbrev ports : List Item → Module
ports items =
    record {
      name = codes "t";
      header = Plain (codes "a" ∷ codes "c" ∷ codes "k" ∷ codes "x" ∷ codes "y" ∷ []);
      items = decl Input (codes "a") ∷ decl Input (codes "c") ∷ decl Input (codes "k") ∷ decl Output (codes "x") ∷ decl Output (codes "y") ∷ items;
    }

abbrev is : List ℕ → List Step → Item
is name steps = item.Assign 1 (record { name = name; select = None } ∷ []) steps

abbrev y_is : List Step → Item
y_is steps = is (codes "y") steps

abbrev x_is : List Step → Item
x_is steps = is (codes "x") steps

abbrev both_driven : List Item
both_driven = x_is (ref (codes "a")) ∷ y_is (ref (codes "c")) ∷ []

-- constants: 1'b1 | (a & 1'b0) is Zero, And, One, Or; then x = 1'b1 is One
operands :
    (denoted (ports (y_is (step.Const 1 1 ∷ whole (codes "a") ∷ step.Const 1 0 ∷ step.And ∷ step.Or ∷ []) ∷ x_is (step.Const 1 1 ∷ []) ∷ []))).netlist.gates ≡
    gate op.Zero 5 [] ∷ gate op.And 6 (0 ∷ 5 ∷ []) ∷ gate op.One 7 [] ∷ gate op.Or 4 (7 ∷ 6 ∷ []) ∷ gate op.One 3 [] ∷ []
operands = refl

-- and (x, 1'b1, a & 1'b0) is One, Zero, And, And
terminals :
    (denoted (ports (item.Prim 1 op.And (ref (codes "x") ∷ (step.Const 1 1 ∷ []) ∷ (whole (codes "a") ∷ step.Const 1 0 ∷ step.And ∷ []) ∷ []) ∷ y_is (ref (codes "c")) ∷ []))).netlist.gates ≡
    gate op.One 5 [] ∷ gate op.Zero 6 [] ∷ gate op.And 7 (0 ∷ 6 ∷ []) ∷ gate op.And 3 (5 ∷ 7 ∷ []) ∷ gate op.Buf 4 (1 ∷ []) ∷ []
terminals = refl

-- an open output comes behind the other nets of its cell
open_q :
    (denoted (ports (item.Cell 1 (codes "dff") (Pins ((codes "Q", None) ∷ pin (codes "CK") (codes "k") ∷ (codes "D", Some (whole (codes "a") ∷ whole (codes "c") ∷ step.And ∷ [])) ∷ []))
    ∷ both_driven))).netlist ≡
    record { inputs = 0 ∷ 1 ∷ []; outputs = 2 ∷ 3 ∷ []; gates = gate op.And 4 (0 ∷ 1 ∷ []) ∷ gate op.Buf 2 (0 ∷ []) ∷ gate op.Buf 3 (1 ∷ []) ∷ []; flops = record { q = 5; d = 4 } ∷ [] }
open_q = refl

-- a multiplexer, with its pins in another order than the table's
choice :
    (denoted (ports (item.Cell 1 (codes "$_MUX_") (Pins (pin (codes "Y") (codes "x") ∷ pin (codes "S") (codes "k") ∷ pin (codes "B") (codes "a") ∷ pin (codes "A") (codes "c") ∷ []))
    ∷ y_is (ref (codes "c")) ∷ []))).netlist.gates ≡
    gate op.Not 5 (2 ∷ []) ∷ gate op.And 6 (2 ∷ 0 ∷ []) ∷ gate op.And 7 (5 ∷ 1 ∷ []) ∷ gate op.Or 3 (6 ∷ 7 ∷ []) ∷ gate op.Buf 4 (1 ∷ []) ∷ []
choice = refl

-- the second input inverted, with an open output behind
inverted :
    (denoted (ports (item.Cell 1 (codes "$_ORNOT_") (Pins (pin (codes "B") (codes "a") ∷ pin (codes "A") (codes "c") ∷ (codes "Y", None) ∷ [])) ∷ both_driven))).netlist.gates ≡
    gate op.Not 5 (0 ∷ []) ∷ gate op.Or 6 (1 ∷ 5 ∷ []) ∷ gate op.Buf 3 (0 ∷ []) ∷ gate op.Buf 4 (1 ∷ []) ∷ []
inverted = refl

-- an expression of several outputs is made once
many_outs :
    (denoted (ports (item.Prim 1 op.Not (ref (codes "x") ∷ ref (codes "y") ∷ (whole (codes "a") ∷ whole (codes "c") ∷ step.And ∷ []) ∷ []) ∷ []))).netlist.gates ≡
    gate op.And 5 (0 ∷ 1 ∷ []) ∷ gate op.Not 3 (5 ∷ []) ∷ gate op.Not 4 (5 ∷ []) ∷ []
many_outs = refl

-- a repeated operator bit has one net, a repeated constant bit one each
repeats :
    (denoted (ports (ranged Wire 1 0 (codes "v") ∷ is (codes "v") (whole (codes "a") ∷ step.Not ∷ step.Join 1 ∷ step.Repeat 2 ∷ step.Const 1 1 ∷ step.Join 1 ∷ step.Repeat 2 ∷ step.Xor ∷ []) ∷ both_driven))).netlist.gates ≡
    gate op.Not 7 (0 ∷ []) ∷ gate op.One 8 [] ∷ gate op.One 9 [] ∷ gate op.Xor 5 (7 ∷ 8 ∷ []) ∷ gate op.Xor 6 (7 ∷ 9 ∷ []) ∷ gate op.Buf 3 (0 ∷ []) ∷ gate op.Buf 4 (1 ∷ []) ∷ []
repeats = refl

-- braces hide an operator: the net of {~a} is copied
joined_not : (denoted (ports (y_is (whole (codes "a") ∷ step.Not ∷ step.Join 1 ∷ []) ∷ x_is (ref (codes "c")) ∷ []))).netlist.gates ≡ gate op.Not 5 (0 ∷ []) ∷ gate op.Buf 4 (5 ∷ []) ∷ gate op.Buf 3 (1 ∷ []) ∷ []
joined_not = refl

abbrev flop : List ℕ → List ℕ → List ℕ → Item
flop k q d = item.Cell 1 (codes "dff") (Places (ref k ∷ ref q ∷ ref d ∷ []))

-- the least failing clock pin is named, not the first flip-flop's
least_pin :
    first_fault false (ports (decl Wire (codes "p") ∷ decl Wire (codes "z") ∷ flop (codes "z") (codes "x") (codes "a") ∷ flop (codes "p") (codes "y") (codes "a")
    ∷ item.Prim 1 op.Not (ref (codes "p") ∷ ref (codes "z") ∷ ref (codes "c") ∷ []) ∷ [])) ≡ Some (ClockNotInput (codes "p") None)
least_pin = refl

-- a ring of Buf gates behind a clock pin is no loop
ring :
    first_fault false (ports (flop (codes "p") (codes "x") (codes "a") ∷ item.Prim 1 op.Buf (ref (codes "p") ∷ ref (codes "q") ∷ []) ∷ item.Prim 1 op.Buf (ref (codes "q") ∷ ref (codes "p") ∷ []) ∷ y_is (ref (codes "c")) ∷ [])) ≡
    Some (ClockNotInput (codes "p") None)
ring = refl

-- the first flip-flop's clock, and the first other one by flip-flops
three_clocks : first_fault false (ports (flop (codes "k") (codes "x") (codes "a") ∷ flop (codes "c") (codes "y") (codes "a") ∷ flop (codes "a") (codes "z") (codes "a") ∷ [])) ≡ Some (TwoClocks (codes "k", None) (codes "c", None))
three_clocks = refl

-- a clock that goes through Buf to an output
copied_clock : first_fault false (ports (flop (codes "k") (codes "x") (codes "a") ∷ y_is (ref (codes "k")) ∷ [])) ≡ Some (ClockAsData (codes "y") None)
copied_clock = refl

-- a loop that is entered from outside: p reads q, q reads r, r reads q; the nets are the ports and then p, q, r
abbrev entered : Module
entered = ports (two op.And (codes "p") (codes "a") (codes "q") ∷ item.Prim 1 op.Buf (ref (codes "q") ∷ ref (codes "r") ∷ []) ∷ item.Prim 1 op.Not (ref (codes "r") ∷ ref (codes "q") ∷ []) ∷ both_driven)

entered_fine : first_fault false entered ≡ None
entered_fine = refl

abbrev entered_gates : List (Gate ℕ)
entered_gates = gate op.And 5 (0 ∷ 6 ∷ []) ∷ gate op.Buf 6 (7 ∷ []) ∷ gate op.Not 7 (6 ∷ []) ∷ gate op.Buf 3 (0 ∷ []) ∷ gate op.Buf 4 (1 ∷ []) ∷ []

ring_stuck : (k : ℕ) → (is_within entered_gates k 6 ≡ false) × (is_within entered_gates k 7 ≡ false)
ring_stuck zero = (refl, refl)
ring_stuck (suc k) = (ap (λ b. (b && true) && true) (ring_stuck k).1, ap (λ b. (b && true) && true) (ring_stuck k).0)

entry_stuck : IsStuck entered_gates 5
entry_stuck zero = refl
entry_stuck (suc k) = go (is_within entered_gates k 0) (is_within entered_gates k 6) (ring_stuck k).0
  where
    go : (a b : Bool) → b ≡ false → ((a && (b && true)) && true) ≡ false
    go true b h = ap (λ b. (b && true) && true) h
    go false b h = refl

entry_least : (m : ℕ) → m < 5 → IsStuck entered_gates m → ⊥
entry_least zero small stuck = cc (stuck 1)
entry_least (suc zero) small stuck = cc (stuck 1)
entry_least (suc (suc zero)) small stuck = cc (stuck 1)
entry_least (suc (suc (suc zero))) small stuck = cc (stuck 1)
entry_least (suc (suc (suc (suc zero)))) small stuck = cc (stuck 1)
entry_least (suc (suc (suc (suc (suc m))))) small stuck = omega (arith, small)

-- p reads a before q
entry_next : IsFirstStuck entered_gates 5 6
entry_next = record {
  gate = gate op.And 5 (0 ∷ 6 ∷ []);
  stands = (0, omega arith, refl);
  drives = refl;
  place = 1;
  reads = refl;
  stuck = λ k. (ring_stuck k).0;
  first = not_a;
}
  where
    not_a : (q m : ℕ) → q < 1 → slice_get (0 ∷ 6 ∷ []) q ≡ Some m → IsStuck entered_gates m → ⊥
    not_a zero m less at stuck = let here : 0 ≡ m = cc at in cc (subst (λ n. is_within entered_gates 0 n ≡ false) (sym here) (stuck 0))
    not_a (suc q) m less at stuck = omega (arith, less)

ring_next : IsFirstStuck entered_gates 6 7
ring_next = record {
  gate = gate op.Buf 6 (7 ∷ []);
  stands = (1, omega arith, refl);
  drives = refl;
  place = 0;
  reads = refl;
  stuck = λ k. (ring_stuck k).1;
  first = λ q m less at stuck. omega (arith, less);
}

ring_back : IsFirstStuck entered_gates 7 6
ring_back = record {
  gate = gate op.Not 7 (6 ∷ []);
  stands = (2, omega arith, refl);
  drives = refl;
  place = 0;
  reads = refl;
  stuck = λ k. (ring_stuck k).0;
  first = λ q m less at stuck. omega (arith, less);
}

met_once : AllPairs {X = ℕ} (λ a b. a ≢ b) (5 ∷ 6 ∷ 7 ∷ [])
met_once i zero d less small same = omega (arith, less)
met_once zero (suc zero) d less small same = omega (arith, same)
met_once zero (suc (suc zero)) d less small same = omega (arith, same)
met_once (suc zero) (suc zero) d less small same = omega (arith, less)
met_once (suc zero) (suc (suc zero)) d less small same = omega (arith, same)
met_once (suc (suc i)) (suc zero) d less small same = omega (arith, less)
met_once (suc (suc i)) (suc (suc zero)) d less small same = omega (arith, less)
met_once i (suc (suc (suc j))) d less small same = omega (arith, small)

-- the loop begins where it is entered
entered_loop : IsLooped entered (Loop (codes "q") None 2)
entered_loop = record {
  nets = 6 ∷ 7 ∷ [];
  is_loop = record {
    before = 5 ∷ [];
    first = 6;
    start = record { stuck = entry_stuck; least = entry_least };
    walk = (entry_next, (ring_next, ring_back));
    again = refl;
    met_once = met_once;
  };
  fault_is = refl;
}

-- one bit of a vector as the clock, another as data
vector_clock :
    (denoted (record {
      name = codes "t";
      header = Ansi (declared 1 Input (Some (0, 1)) (codes "k") ∷ declared 1 Output None (codes "y") ∷ []);
      items = item.Cell 1 (codes "dff") (Places ((part (codes "k") 1 1 ∷ []) ∷ ref (codes "y") ∷ (part (codes "k") 0 0 ∷ []) ∷ [])) ∷ [];
    })).netlist ≡ record { inputs = 0 ∷ []; outputs = 1 ∷ []; gates = []; flops = record { q = 1; d = 0 } ∷ [] }
vector_clock = refl

-- names and declarations ------------------------------------------------------

abbrev headed : List (List ℕ) → List Item → Module
headed header items = record { name = codes "m"; header = Plain header; items = items }

abbrev says : List (List ℕ) → List Item → Option ElabFault → Type 0
says header items fault = text_fault false (headed header items) ≡ fault

abbrev a_b : List (List ℕ)
a_b = codes "a" ∷ codes "b" ∷ []

abbrev both_in : List Item
both_in = decl Input (codes "a") ∷ decl Input (codes "b") ∷ []

-- a use counts before a later declaration; the module's name and own names
used_first : says [] (is (codes "y") (ref (codes "bt_b")) ∷ decl Wire (codes "bt_c") ∷ []) (Some (Reserved (codes "bt_b") None))
used_first = refl

own_names : text_fault true (headed [] (is (codes "y") (ref (codes "bt_b")) ∷ [])) ≡ None
own_names = refl

in_unknown : says [] (item.Cell 3 (codes "bt_cell") (Pins ((codes "bt_pin", Some (ref (codes "bt_v"))) ∷ [])) ∷ []) (Some (Reserved (codes "bt_v") None))
in_unknown = refl

-- a port may be declared wire too, with the same range
port_wire : first_fault false (ports (decl Wire (codes "y") ∷ both_driven)) ≡ None
port_wire = refl

other_range : first_fault false (ports (ranged Wire 0 0 (codes "y") ∷ both_driven)) ≡ Some (Redeclared (codes "y") None)
other_range = refl

two_wires : says a_b (both_in ++ decl Wire (codes "w") ∷ decl Wire (codes "w") ∷ []) (Some (Redeclared (codes "w") None))
two_wires = refl

twice_in_header : text_fault false (record { name = codes "m"; header = Ansi (declared 1 Input None (codes "a") ∷ declared 1 Input None (codes "a") ∷ []); items = [] }) ≡ Some (Redeclared (codes "a") None)
twice_in_header = refl

-- the second place that comes first
second_place : says (codes "a" ∷ codes "b" ∷ codes "b" ∷ codes "a" ∷ []) both_in (Some (BadPort (codes "b") None))
second_place = refl

no_direction : says (codes "a" ∷ codes "b" ∷ codes "a" ∷ []) (decl Input (codes "a") ∷ decl Wire (codes "b") ∷ []) (Some (BadPort (codes "b") None))
no_direction = refl

stray : first_fault false (ports (decl Input (codes "z") ∷ both_driven)) ≡ Some (BadPort (codes "z") None)
stray = refl

-- the limit, and one bit more
at_limit : says a_b (both_in ++ ranged Wire 1 2097150 (codes "w") ∷ []) None
at_limit = refl

over_limit : says a_b (both_in ++ ranged Wire 0 2097150 (codes "w") ∷ []) (Some (TooMany 2097153 2097152))
over_limit = refl

own_limit : text_fault true (headed a_b (both_in ++ ranged Wire 0 2097150 (codes "w") ∷ [])) ≡ None
own_limit = refl

-- nets of expressions count too: a & 1'b0 onto a target makes one for the constant, and 1'b1 & 1'b0 two
abbrev onto_w : List Step → Item
onto_w steps = item.Assign 9 (record { name = codes "w"; select = Some (1, 1) } ∷ []) steps

one_made : says a_b (both_in ++ ranged Wire 1 2097149 (codes "w") ∷ onto_w (whole (codes "a") ∷ step.Const 1 0 ∷ step.And ∷ []) ∷ []) None
one_made = refl

two_made : says a_b (both_in ++ ranged Wire 1 2097149 (codes "w") ∷ onto_w (step.Const 1 1 ∷ step.Const 1 0 ∷ step.And ∷ []) ∷ []) (Some (TooMany 2097153 2097152))
two_made = refl

-- cells and pins ----------------------------------------------------------------

unknown_before_pins : says a_b (both_in ++ item.Prim 3 op.Not (ref (codes "a") ∷ []) ∷ item.Cell 4 (codes "foo") (Pins []) ∷ []) (Some (UnknownCell (codes "foo") None))
unknown_before_pins = refl

abbrev one_item : Item → Option ElabFault → Type 0
one_item i fault = says a_b (both_in ++ ranged Wire 1 0 (codes "v") ∷ i ∷ []) fault

one_terminal : one_item (item.Prim 3 op.Not (ref (codes "a") ∷ [])) (Some (BadPins 3))
one_terminal = refl

one_input : one_item (item.Prim 3 op.And (ref (codes "w") ∷ ref (codes "a") ∷ [])) None
one_input = refl

braced_output : one_item (item.Prim 3 op.And ((whole (codes "w") ∷ step.Join 1 ∷ []) ∷ ref (codes "a") ∷ [])) (Some (BadPins 3))
braced_output = refl

two_bit_output : one_item (item.Prim 3 op.And ((part (codes "v") 1 0 ∷ []) ∷ ref (codes "a") ∷ [])) (Some (WidthDiffers 3))
two_bit_output = refl

last_of_not : one_item (item.Prim 3 op.Not (ref (codes "w") ∷ (whole (codes "a") ∷ step.Not ∷ []) ∷ ref (codes "a") ∷ [])) (Some (BadPins 3))
last_of_not = refl

abbrev with_pins : List ℕ → List (List ℕ × Option (List Step)) → Option ElabFault → Type 0
with_pins kind pins fault = one_item (item.Cell 3 kind (Pins pins)) fault

other_places : one_item (item.Cell 3 (codes "$_NOT_") (Places (ref (codes "a") ∷ ref (codes "w") ∷ []))) (Some (BadPins 3))
other_places = refl

two_places : one_item (item.Cell 3 (codes "dff") (Places (ref (codes "a") ∷ ref (codes "w") ∷ []))) (Some (BadPins 3))
two_places = refl

unknown_pin : with_pins (codes "$_NOT_") (pin (codes "A") (codes "a") ∷ pin (codes "Z") (codes "w") ∷ []) (Some (BadPins 3))
unknown_pin = refl

repeated_pin : with_pins (codes "$_NOT_") (pin (codes "A") (codes "a") ∷ pin (codes "A") (codes "b") ∷ []) (Some (BadPins 3))
repeated_pin = refl

repeated_open : with_pins (codes "$_NOT_") (pin (codes "A") (codes "a") ∷ (codes "Y", None) ∷ (codes "Y", None) ∷ []) (Some (BadPins 3))
repeated_open = refl

absent_input : with_pins (codes "$_AND_") (pin (codes "A") (codes "a") ∷ []) (Some (BadPins 3))
absent_input = refl

open_input : with_pins (codes "$_AND_") (pin (codes "A") (codes "a") ∷ (codes "B", None) ∷ []) (Some (BadPins 3))
open_input = refl

output_expression : with_pins (codes "$_NOT_") (pin (codes "A") (codes "a") ∷ (codes "Y", Some (whole (codes "w") ∷ step.Not ∷ [])) ∷ []) (Some (BadPins 3))
output_expression = refl

absent_output : with_pins (codes "$_NOT_") (pin (codes "A") (codes "a") ∷ []) None
absent_output = refl

-- pins before an earlier bad width, and items in order
pins_first : with_pins (codes "$_AND_") (pin (codes "A") (codes "v") ∷ pin (codes "B") (codes "a") ∷ pin (codes "Z") (codes "b") ∷ []) (Some (BadPins 3))
pins_first = refl

text_order : with_pins (codes "$_AND_") (pin (codes "B") (codes "v") ∷ (codes "A", Some (part (codes "a") 0 0 ∷ [])) ∷ []) (Some (WidthDiffers 3))
text_order = refl

item_order : says a_b (both_in ++ ranged Wire 1 0 (codes "v") ∷ item.Prim 5 op.And (ref (codes "v") ∷ ref (codes "a") ∷ []) ∷ item.Prim 6 op.And (ref (codes "v") ∷ []) ∷ []) (Some (WidthDiffers 5))
item_order = refl

-- selects and widths ----------------------------------------------------------

abbrev w_is : List Step → Option ElabFault → Type 0
w_is steps fault = one_item (item.Assign 4 (record { name = codes "w"; select = None } ∷ []) steps) fault

of_a_scalar : w_is (part (codes "a") 0 0 ∷ []) (Some (BadSelect 4))
of_a_scalar = refl

of_no_declaration : w_is (part (codes "n") 0 0 ∷ []) (Some (BadSelect 4))
of_no_declaration = refl

outside : w_is (part (codes "v") 2 2 ∷ []) (Some (BadSelect 4))
outside = refl

inside : w_is (part (codes "v") 1 1 ∷ []) None
inside = refl

one_bit_range : one_item (item.Assign 4 (record { name = codes "w"; select = None } ∷ []) (part (codes "v") 0 1 ∷ [])) (Some (BadSelect 4))
one_bit_range = refl

two_bit_condition : w_is (whole (codes "v") ∷ whole (codes "a") ∷ whole (codes "b") ∷ step.Cond ∷ []) (Some (WidthDiffers 4))
two_bit_condition = refl

unequal_operands : w_is (whole (codes "v") ∷ whole (codes "a") ∷ step.And ∷ []) (Some (WidthDiffers 4))
unequal_operands = refl

wide_target : one_item (item.Assign 4 (record { name = codes "v"; select = None } ∷ record { name = codes "a"; select = None } ∷ []) (ref (codes "v"))) (Some (WidthDiffers 4))
wide_target = refl

joined_target : one_item (item.Assign 4 (record { name = codes "v"; select = None } ∷ record { name = codes "w"; select = None } ∷ []) (whole (codes "v") ∷ whole (codes "a") ∷ step.Join 2 ∷ [])) None
joined_target = refl

widest : says a_b (both_in ++ ranged Wire 0 65535 (codes "v") ∷ is (codes "v") (whole (codes "a") ∷ step.Join 1 ∷ step.Repeat 65536 ∷ []) ∷ []) None
widest = refl

too_wide : w_is (whole (codes "a") ∷ step.Join 1 ∷ step.Repeat 65537 ∷ []) (Some (TooWide 4))
too_wide = refl

wide_terminal : says a_b (both_in ++ ranged Wire 0 65536 (codes "v") ∷ item.Prim 4 op.And (ref (codes "w") ∷ ref (codes "v") ∷ []) ∷ []) (Some (TooWide 4))
wide_terminal = refl

wide_reference : says a_b (both_in ++ ranged Wire 0 65536 (codes "v") ∷ item.Assign 4 (record { name = codes "v"; select = None } ∷ []) (ref (codes "a")) ∷ []) (Some (TooWide 4))
wide_reference = refl

-- several references that are wide together only
wide_left : says a_b (both_in ++ ranged Wire 0 65535 (codes "v") ∷ item.Assign 4 (record { name = codes "v"; select = None } ∷ record { name = codes "w"; select = None } ∷ []) (ref (codes "a")) ∷ []) (Some (WidthDiffers 4))
wide_left = refl
