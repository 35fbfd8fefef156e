-- How names, bits and statements are written: a subset of Verilog (IEEE 1364-2005), one spelling for each thing.
use Rattle.std.specs.Prelude.{ℕ, Bool, false, not, ◌&&◌, List, [], ◌∷◌, ◌++◌, map, codes, decimal, Option, None, Some, if◌then◌else◌}
use Rattle.std.specs.List.{flat_map, list_all}
use Rattle.bb_base.specs.declared.operator.Op.{Op}
use Rattle.bb_base.specs.declared.operator.Op.TheVariants.{And, Nand, Or, Nor, Xor, Xnor, Not, Buf, Zero, One}
use Rattle.bb_base.specs.declared.variable.Role.{Role}
use Rattle.bb_base.specs.declared.variable.Role.TheVariants.{Input, Output, Wire}
use Rattle.bb_base.specs.Net.{Gate, Flop}
use Rattle.bb_base.specs.Variables.{Entry, Bit}
use Rattle.bb_base.specs.Words.{starts_word, is_word_byte}
use Rattle.bb_base.specs.Keywords.{is_keyword}

-- a simple identifier
abbrev pub is_simple : List ℕ → Bool
is_simple [] = false
is_simple (b ∷ bs) = starts_word b && list_all is_word_byte bs

-- a name that is written as it is
abbrev pub stands_plain : List ℕ → Bool
stands_plain name = is_simple name && not (is_keyword name)

-- a name as it is written: any other is an escaped identifier, with a backslash before it and a space after it
unfoldable pub spelled_name : List ℕ → List ℕ
spelled_name name = if stands_plain name then name else 92 ∷ (name ++ codes " ")

-- the index of a vector's bit
abbrev pub spelled_index : Option ℕ → List ℕ
spelled_index None = []
spelled_index (Some i) = codes "[" ++ (decimal i ++ codes "]")

-- a bit is its variable's name, with the index where the variable is a vector
abbrev pub spelled_bit : Bit → List ℕ
spelled_bit b = spelled_name b.name ++ spelled_index b.index

-- an item of a list but the first, with the comma and the space that part it from the one before
abbrev pub further : List ℕ → List ℕ
further item = codes ", " ++ item

-- items with a comma and a space between them
abbrev pub joined : List (List ℕ) → List ℕ
joined [] = []
joined (item ∷ items) = item ++ flat_map further items

-- the first line: the module's name and its ports
abbrev pub module_line : List ℕ → List (List ℕ) → List ℕ
module_line name ports = codes "module " ++ (spelled_name name ++ (codes " (" ++ (joined (map spelled_name ports) ++ codes ");")))

-- the word that declares a variable of this role
abbrev pub role_word : Role → List ℕ
role_word Input = codes "input"
role_word Output = codes "output"
role_word Wire = codes "wire"

-- a vector's range, with a space before it
abbrev pub spelled_range : Option (ℕ × ℕ) → List ℕ
spelled_range None = []
spelled_range (Some r) = codes " [" ++ (decimal r.0 ++ (codes ":" ++ (decimal r.1 ++ codes "]")))

-- the declaration of a variable
abbrev pub declaration : Entry → List ℕ
declaration v = role_word v.1.role ++ (spelled_range v.1.range ++ (codes " " ++ (spelled_name v.0 ++ codes ";")))

-- the keyword of a gate's statement
abbrev pub op_word : Op → List ℕ
op_word And = codes "and"
op_word Nand = codes "nand"
op_word Or = codes "or"
op_word Nor = codes "nor"
op_word Xor = codes "xor"
op_word Xnor = codes "xnor"
op_word Not = codes "not"
op_word Buf = codes "buf"
op_word Zero = codes "assign"
op_word One = codes "assign"

-- a statement that drives a bit by a constant
abbrev pub constant_line : Bit → List ℕ → List ℕ
constant_line out value = codes "assign " ++ (spelled_bit out ++ (codes " = 1'b" ++ (value ++ codes ";")))

-- a statement that drives its first bit from the others
abbrev pub primitive_line : Op → Bit → List Bit → List ℕ
primitive_line op out ins = op_word op ++ (codes " (" ++ (spelled_bit out ++ (flat_map further (map spelled_bit ins) ++ codes ");")))

-- the statement of a gate
abbrev pub statement_by : Op → Bit → List Bit → List ℕ
statement_by And out ins = primitive_line And out ins
statement_by Nand out ins = primitive_line Nand out ins
statement_by Or out ins = primitive_line Or out ins
statement_by Nor out ins = primitive_line Nor out ins
statement_by Xor out ins = primitive_line Xor out ins
statement_by Xnor out ins = primitive_line Xnor out ins
statement_by Not out ins = primitive_line Not out ins
statement_by Buf out ins = primitive_line Buf out ins
statement_by Zero out ins = constant_line out (codes "0")
statement_by One out ins = constant_line out (codes "1")

abbrev pub gate_line : Gate Bit → List ℕ
gate_line g = statement_by g.op g.out g.ins

-- the clock's bit
abbrev pub spelled_clock : Option Bit → List ℕ
spelled_clock None = []
spelled_clock (Some c) = spelled_bit c

-- what a flip-flop is joined to: the clock, q and d
abbrev pub pins : Option Bit → Flop Bit → List ℕ
pins clock f = codes " (" ++ (spelled_clock clock ++ (codes ", " ++ (spelled_bit f.q ++ (codes ", " ++ (spelled_bit f.d ++ codes ");")))))

-- the instance of a flip-flop, by its number
abbrev pub flop_line : Option Bit → ℕ → Flop Bit → List ℕ
flop_line clock j f = codes "dff bt_f" ++ (decimal j ++ pins clock f)
