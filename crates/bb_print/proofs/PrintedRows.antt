-- Worked netlists: the modules that their texts spell, and what these denote.
use Rattle.std.specs.Prelude.{◌≡◌, ℕ, List, [], ◌∷◌, codes, Option, Some, None, refl, true}
use Rattle.bb_base.specs.declared.operator.Op.TheVariants as op
use Rattle.bb_base.specs.declared.variable.Role.{Role}
use Rattle.bb_base.specs.declared.variable.Role.TheVariants.{Input, Output, Wire}
use Rattle.bb_base.specs.declared.variable.BitName.{BitName}
use Rattle.bb_base.specs.Variables.{Entry}
use Rattle.bb_base.specs.Named.{Named, design_of}
use Rattle.bb_parse.specs.declared.syntax.Step.{Step}
use Rattle.bb_parse.specs.declared.syntax.Step.TheVariants as step
use Rattle.bb_parse.specs.declared.syntax.Conns.TheVariants.{Places}
use Rattle.bb_parse.specs.declared.syntax.Item.{Item}
use Rattle.bb_parse.specs.declared.syntax.Item.TheVariants as item
use Rattle.bb_parse.specs.declared.syntax.Header.TheVariants.{Plain}
use Rattle.bb_meaning.specs.Outcome.{first_fault, denoted}
use Rattle.bb_canon_parse.specs.Printed.{spelled_module}

abbrev variable : List ℕ → Option (ℕ × ℕ) → Role → Entry
variable name range role = (name, record { range = range; role = role })

abbrev bit : ℕ → ℕ → BitName
bit number place = record { variable = number; place = place }

abbrev decl : ℕ → Role → Option (ℕ × ℕ) → List ℕ → Item
decl line role range name = item.Decl (record { line = line; role = role; range = range; name = name })

abbrev whole : List ℕ → List Step
whole name = step.Ref (record { name = name; select = None }) ∷ []

abbrev part : List ℕ → ℕ → List Step
part name i = step.Ref (record { name = name; select = Some (i, i) }) ∷ []

-- a half adder
abbrev half : Named
half =
    record {
      module_name = codes "half";
      variables = variable (codes "a") None Input ∷ variable (codes "b") None Input ∷ variable (codes "s") None Output ∷ variable (codes "c") None Output ∷ [];
      clock = None;
      names = bit 0 0 ∷ bit 1 0 ∷ bit 2 0 ∷ bit 3 0 ∷ [];
      netlist =
          record {
            inputs = 0 ∷ 1 ∷ [];
            outputs = 2 ∷ 3 ∷ [];
            gates = record { op = op.Xor; out = 2; ins = 0 ∷ 1 ∷ [] } ∷ record { op = op.And; out = 3; ins = 0 ∷ 1 ∷ [] } ∷ [];
            flops = [];
          };
    }

half_spelled :
    spelled_module (design_of half)
    ≡ record {
      name = codes "half";
      header = Plain (codes "a" ∷ codes "b" ∷ codes "s" ∷ codes "c" ∷ []);
      items =
          decl 2 Input None (codes "a") ∷ decl 3 Input None (codes "b") ∷ decl 4 Output None (codes "s") ∷ decl 5 Output None (codes "c")
          ∷ item.Prim 6 op.Xor (whole (codes "s") ∷ whole (codes "a") ∷ whole (codes "b") ∷ [])
          ∷ item.Prim 7 op.And (whole (codes "c") ∷ whole (codes "a") ∷ whole (codes "b") ∷ []) ∷ [];
    }
half_spelled = refl

half_again : denoted (spelled_module (design_of half)) ≡ half
half_again = refl

-- a constant, a vector and a clock, with nets in another order
abbrev turned : Named
turned =
    record {
      module_name = codes "turned";
      variables = variable (codes "clk") None Input ∷ variable (codes "d") None Input ∷ variable (codes "q") (Some (1, 0)) Output ∷ variable (codes "w") None Wire ∷ [];
      clock = Some (bit 0 0);
      names = bit 2 1 ∷ bit 1 0 ∷ bit 3 0 ∷ bit 2 0 ∷ [];
      netlist =
          record {
            inputs = 1 ∷ [];
            outputs = 3 ∷ 0 ∷ [];
            gates = record { op = op.Not; out = 2; ins = 1 ∷ [] } ∷ record { op = op.Zero; out = 3; ins = [] } ∷ [];
            flops = record { q = 0; d = 2 } ∷ [];
          };
    }

turned_spelled :
    spelled_module (design_of turned)
    ≡ record {
      name = codes "turned";
      header = Plain (codes "clk" ∷ codes "d" ∷ codes "q" ∷ []);
      items =
          decl 2 Input None (codes "clk") ∷ decl 3 Input None (codes "d") ∷ decl 4 Output (Some (1, 0)) (codes "q") ∷ decl 5 Wire None (codes "w")
          ∷ item.Prim 6 op.Not (whole (codes "w") ∷ whole (codes "d") ∷ [])
          ∷ item.Assign 7 (record { name = codes "q"; select = Some (1, 1) } ∷ []) (step.Const 1 0 ∷ [])
          ∷ item.Cell 8 (codes "dff") (Places (whole (codes "clk") ∷ part (codes "q") 0 ∷ whole (codes "w") ∷ [])) ∷ [];
    }
turned_spelled = refl

turned_right : first_fault true (spelled_module (design_of turned)) ≡ None
turned_right = refl

turned_again :
    denoted (spelled_module (design_of turned))
    ≡ record {
      module_name = codes "turned";
      variables = turned.variables;
      clock = Some (bit 0 0);
      names = bit 1 0 ∷ bit 2 0 ∷ bit 2 1 ∷ bit 3 0 ∷ [];
      netlist =
          record {
            inputs = 0 ∷ [];
            outputs = 1 ∷ 2 ∷ [];
            gates = record { op = op.Not; out = 3; ins = 0 ∷ [] } ∷ record { op = op.Zero; out = 1; ins = [] } ∷ [];
            flops = record { q = 2; d = 3 } ∷ [];
          };
    }
turned_again = refl
