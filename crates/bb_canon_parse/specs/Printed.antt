-- The module that a canonical text spells: a declaration, a gate or a flip-flop in each line. This project's own.
use Rattle.std.specs.Prelude.{ℕ, ◌+◌, length, List, [], ◌∷◌, ◌++◌, map, codes, Option, Some, None}
use Rattle.std.specs.Option.{option_map}
use Rattle.bb_lex.specs.Text as lexical
use Rattle.bb_base.specs.declared.operator.Op.{Op}
use Rattle.bb_base.specs.declared.operator.Op.TheVariants.{And, Nand, Or, Nor, Xor, Xnor, Not, Buf, Zero, One}
use Rattle.bb_base.specs.Net.{Gate, Flop}
use Rattle.bb_base.specs.Variables.{Entry, Bit}
use Rattle.bb_base.specs.Named.{Design}
use Rattle.bb_parse.specs.declared.syntax.Ref.{Ref}
use Rattle.bb_parse.specs.declared.syntax.Step.{Step}
use Rattle.bb_parse.specs.declared.syntax.Step.TheVariants as step
use Rattle.bb_parse.specs.declared.syntax.Conns.TheVariants.{Places}
use Rattle.bb_parse.specs.declared.syntax.Item.{Item}
use Rattle.bb_parse.specs.declared.syntax.Item.TheVariants as item
use Rattle.bb_parse.specs.declared.syntax.Header.TheVariants.{Plain}
use Rattle.bb_parse.specs.declared.syntax.Module.{Module}
use Rattle.bb_spell.specs.Canonical.{port_names}

-- a bit as a reference: an index is a select from itself to itself
abbrev pub reference : Bit → Ref
reference b = record { name = b.name; select = option_map (λ i. (i, i)) b.index }

-- an expression that is one bit
abbrev pub bit_steps : Bit → List Step
bit_steps b = step.Ref (reference b) ∷ []

abbrev pub declared : ℕ → Entry → Item
declared line v = item.Decl (record { line = line; role = v.1.role; range = v.1.range; name = v.0 })

abbrev pub primitive : ℕ → Op → Bit → List Bit → Item
primitive line op out ins = item.Prim line op (map bit_steps (out ∷ ins))

-- an assign of a constant of one bit
abbrev pub fixed : ℕ → Bit → ℕ → Item
fixed line out value = item.Assign line (reference out ∷ []) (step.Const 1 value ∷ [])

abbrev pub stated_by : ℕ → Op → Bit → List Bit → Item
stated_by line And out ins = primitive line And out ins
stated_by line Nand out ins = primitive line Nand out ins
stated_by line Or out ins = primitive line Or out ins
stated_by line Nor out ins = primitive line Nor out ins
stated_by line Xor out ins = primitive line Xor out ins
stated_by line Xnor out ins = primitive line Xnor out ins
stated_by line Not out ins = primitive line Not out ins
stated_by line Buf out ins = primitive line Buf out ins
stated_by line Zero out ins = fixed line out 0
stated_by line One out ins = fixed line out 1

abbrev pub stated : ℕ → Gate Bit → Item
stated line g = stated_by line g.op g.out g.ins

-- a flip-flop with its clock
abbrev pub clocked : Bit → ℕ → Flop Bit → Item
clocked clock line f = item.Cell line (codes "dff") (Places (map bit_steps (clock ∷ f.q ∷ f.d ∷ [])))

-- an item for each, the first behind so many lines
abbrev pub by_lines : {X : Type 0} → (ℕ → X → Item) → ℕ → List X → List Item
by_lines make before [] = []
by_lines make before (x ∷ xs) = make (lexical.number before) x ∷ by_lines make (before + 1) xs

abbrev pub flops_by_lines : Option Bit → ℕ → List (Flop Bit) → List Item
flops_by_lines None before flops = []
flops_by_lines (Some clock) before flops = by_lines (clocked clock) before flops

-- the items of a design: declarations stand behind the first line, then gates, then flip-flops
abbrev pub spelled_items : Design → List Item
spelled_items d =
    by_lines declared 1 d.variables
    ++ (by_lines stated (1 + length d.variables) d.netlist.gates ++ flops_by_lines d.clock (1 + length d.variables + length d.netlist.gates) d.netlist.flops)

abbrev pub spelled_module : Design → Module
spelled_module d = record { name = d.module_name; header = Plain (port_names d.variables); items = spelled_items d }
