-- A text is the canonical text of one design at most.
use Rattle.std.proofs.Common.{◌≡◌, ℕ, List, [], codes, Option, Some, None, refl}
use Rattle.bb_base.specs.declared.operator.Op.{Op}
use Rattle.bb_base.specs.declared.operator.Op.TheVariants.{And, Nand, Or, Nor, Xor, Xnor, Not, Buf, Zero, One}
use Rattle.bb_base.specs.declared.variable.Role.{Role}
use Rattle.bb_base.specs.declared.variable.Role.TheVariants.{Input, Output, Wire}
use Rattle.bb_base.specs.Net.{Flop}
use Rattle.bb_base.specs.Variables.{Bit}
use Rattle.bb_spell.specs.Spelling.{module_line, declaration, statement_by, flop_line}
use Rattle.bb_spell.specs.Lines.{word_role, declaration_of, op_of, statement_of}

-- no line is of two kinds
pub states_nothing_declared : (op : Op) (out : Bit) (ins : List Bit) → declaration_of (statement_by op out ins) ≡ None
unfolding declaration_of word_role
states_nothing_declared And out ins = refl
states_nothing_declared Nand out ins = refl
states_nothing_declared Or out ins = refl
states_nothing_declared Nor out ins = refl
states_nothing_declared Xor out ins = refl
states_nothing_declared Xnor out ins = refl
states_nothing_declared Not out ins = refl
states_nothing_declared Buf out ins = refl
states_nothing_declared Zero out ins = refl
states_nothing_declared One out ins = refl

pub flop_undeclared : (c : Bit) (j : ℕ) (f : Flop Bit) → declaration_of (flop_line (Some c) j f) ≡ None
unfolding declaration_of word_role
flop_undeclared c j f = refl

pub others_undeclared : (name : List ℕ) (ports : List (List ℕ)) → (declaration_of (module_line name ports) ≡ None) × (declaration_of (codes "endmodule") ≡ None) × (declaration_of [] ≡ None)
unfolding declaration_of word_role
others_undeclared name ports = (refl, refl, refl)

pub declared_unstated : (name : List ℕ) (range : Option (ℕ × ℕ)) (role : Role) → statement_of (declaration (name, record { range = range; role = role })) ≡ None
unfolding statement_of op_of
declared_unstated name None Input = refl
declared_unstated name None Output = refl
declared_unstated name None Wire = refl
declared_unstated name (Some r) Input = refl
declared_unstated name (Some r) Output = refl
declared_unstated name (Some r) Wire = refl

pub flop_unstated : (c : Bit) (j : ℕ) (f : Flop Bit) → statement_of (flop_line (Some c) j f) ≡ None
unfolding statement_of op_of
flop_unstated c j f = refl

pub others_unstated : (name : List ℕ) (ports : List (List ℕ)) → (statement_of (module_line name ports) ≡ None) × (statement_of (codes "endmodule") ≡ None) × (statement_of [] ≡ None)
unfolding statement_of op_of
others_unstated name ports = (refl, refl, refl)
