-- What a whole line says, or nothing where it is no line of its kind.
use Rattle.std.specs.Prelude.{ℕ, List, [], ◌∷◌, ◌++◌, length, drop, codes, Option, Some, None, zero, suc, if◌then◌else◌}
use Rattle.std.specs.Option.{option_map}
use Rattle.std.specs.Str.{bytes_eq}
use Rattle.bb_base.specs.declared.operator.Op.{Op}
use Rattle.bb_base.specs.declared.operator.Op.TheVariants.{And, Nand, Or, Nor, Xor, Xnor, Not, Buf, Zero, One}
use Rattle.bb_base.specs.declared.variable.Role.{Role}
use Rattle.bb_base.specs.declared.variable.Role.TheVariants.{Input, Output, Wire}
use Rattle.bb_base.specs.Net.{Gate, Flop}
use Rattle.bb_base.specs.Variables.{Entry, Bit}
use Rattle.bb_spell.specs.Front.{begins_with, after_mark, at_end, word_of, after_word, front_name, number_below, front_bit, front_range, index_limit, ◌>>=◌}

-- the name of the module, in its first line
unfoldable pub head_name : List ℕ → Option (List ℕ)
head_name line = do
  name_from ← after_mark (codes "module ") line
  name ← front_name name_from
  Some name.0

-- the role that a word declares
unfoldable pub word_role : List ℕ → Option Role
word_role word = if bytes_eq word (codes "input") then Some Input else (if bytes_eq word (codes "output") then Some Output else (if bytes_eq word (codes "wire") then Some Wire else None))

-- the variable that a line declares
unfoldable pub declaration_of : List ℕ → Option Entry
declaration_of line = do
  role ← word_role (word_of line)
  range ← front_range (after_word line)
  name_from ← after_mark (codes " ") range.1
  name ← front_name name_from
  at_end (name.0, record { range = range.0; role = role }) (codes ";") name.1

-- the operators by their keywords
abbrev pub operators : List (List ℕ × Op)
operators = (codes "and", And) ∷ (codes "nand", Nand) ∷ (codes "or", Or) ∷ (codes "nor", Nor) ∷ (codes "xor", Xor) ∷ (codes "xnor", Xnor) ∷ (codes "not", Not) ∷ (codes "buf", Buf) ∷ []

abbrev pub op_in : List (List ℕ × Op) → List ℕ → Option Op
op_in [] word = None
op_in (e ∷ es) word = if bytes_eq word e.0 then Some e.1 else op_in es word

unfoldable pub op_of : List ℕ → Option Op
op_of word = op_in operators word

abbrev pub with_front : List Bit → Option (List Bit × List ℕ) → Option (List Bit × List ℕ)
with_front front read = option_map (λ r. (front ++ r.0, r.1)) read

-- the further bits at the front, and what follows them, where there are at most so many
unfoldable pub front_bits : ℕ → List ℕ → Option (List Bit × List ℕ)
front_bits zero bytes = Some ([], bytes)
front_bits (suc most) bytes = if begins_with (codes ", ") bytes then (front_bit (drop 2 bytes) >>= (λ b. with_front (b.0 ∷ []) (front_bits most b.1))) else Some ([], bytes)

-- a gate by its operator and what follows the keyword
unfoldable pub primitive_of : Op → List ℕ → Option (Gate Bit)
primitive_of op bytes = do
  out_from ← after_mark (codes " (") bytes
  out ← front_bit out_from
  ins ← front_bits (length out.1) out.1
  at_end (record { op = op; out = out.0; ins = ins.0 }) (codes ");") ins.1

-- the operator that a constant stands for
unfoldable pub constant_op : List ℕ → Option Op
constant_op bytes = if bytes_eq bytes (codes "0;") then Some Zero else (if bytes_eq bytes (codes "1;") then Some One else None)

-- a gate that drives a constant, by what follows the keyword
unfoldable pub constant_of : List ℕ → Option (Gate Bit)
constant_of bytes = do
  out_from ← after_mark (codes " ") bytes
  out ← front_bit out_from
  value_from ← after_mark (codes " = 1'b") out.1
  op ← constant_op value_from
  Some (record { op = op; out = out.0; ins = [] })

-- the gate that a line says
unfoldable pub statement_of : List ℕ → Option (Gate Bit)
statement_of line = if bytes_eq (word_of line) (codes "assign") then constant_of (after_word line) else (op_of (word_of line) >>= (λ op. primitive_of op (after_word line)))

-- a flip-flop's instance: its number, the clock's bit, q and d
pub record FlopLine : Type 0 where
  pub number : ℕ
  pub clock : Bit
  pub flop : Flop Bit

-- what a flip-flop is joined to, behind its number
unfoldable pub flop_pins : ℕ → List ℕ → Option FlopLine
flop_pins number bytes = do
  clock_from ← after_mark (codes " (") bytes
  clock ← front_bit clock_from
  q_from ← after_mark (codes ", ") clock.1
  q ← front_bit q_from
  d_from ← after_mark (codes ", ") q.1
  d ← front_bit d_from
  at_end (record { number = number; clock = clock.0; flop = record { q = q.0; d = d.0 } }) (codes ");") d.1

-- the flip-flop that a line says
unfoldable pub flop_of : List ℕ → Option FlopLine
flop_of line = do
  number_from ← after_mark (codes "dff bt_f") line
  number ← number_below index_limit number_from
  flop_pins number.0 number.1
