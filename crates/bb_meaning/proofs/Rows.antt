-- Worked values of expressions, computed from the definition.
use Rattle.std.specs.Prelude.{◌≡◌, ℕ, Bool, true, false, not, ◌&&◌, ◌||◌, List, [], ◌∷◌, codes, Some, None, refl, if◌then◌else◌}
use Rattle.bb_base.specs.declared.variable.Role.TheVariants.{Input}
use Rattle.bb_base.specs.Variables.{Entry}
use Rattle.bb_parse.specs.Trees.{Whole, Bit, Part, XorMark, ByCaret, ByTildeCaret, ByCaretTilde, Expr, AnExpr, NoChoice, Choose, AnOr, NoOrs, MoreOrs, Xor, AnXor, NoXors, MoreXors, And, AnAnd, NoAnds, MoreAnds, Unary, Complement, Reference, Constant, Braces, Repeated, NoExprs, MoreExprs}
use Rattle.bb_fault.specs.Firsts.{on_some}
use Rattle.bb_scope.specs.Cells.{kind_of}
use Rattle.bb_meaning.specs.Statements.{cell_gives}
use Rattle.bb_meaning.specs.Values.{Bits, only_bit, element, value, reference_bits}

-- input s; input [1:0] a; input [0:1] b; input [1:0] c
abbrev declared : List Entry
declared =
    (codes "s", record { range = None; role = Input })
    ∷ (codes "a", record { range = Some (1, 0); role = Input })
    ∷ (codes "b", record { range = Some (0, 1); role = Input })
    ∷ (codes "c", record { range = Some (1, 0); role = Input })
    ∷ []

abbrev of_and : And → Expr
of_and a = AnExpr (AnOr (AnXor a NoXors) NoOrs) NoChoice

abbrev of_unary : Unary → Expr
of_unary u = of_and (AnAnd u NoAnds)

abbrev name : List ℕ → Unary
name x = Reference x Whole

abbrev one_and : Unary → And
one_and u = AnAnd u NoAnds

abbrev one_xor : Unary → Xor
one_xor u = AnXor (one_and u) NoXors

abbrev is : Bits → Expr → List Bool → Type 0
is bits e wanted = value (reference_bits declared bits) e ≡ wanted

-- the bits of the variables' elements
abbrev s : Bits → Bool
s bits = bits (only_bit (codes "s"))

abbrev a : Bits → ℕ → Bool
a bits i = bits (element (codes "a") i)

abbrev b : Bits → ℕ → Bool
b bits i = bits (element (codes "b") i)

abbrev c : Bits → ℕ → Bool
c bits i = bits (element (codes "c") i)

-- references: a runs from 1 to 0, and b from 0 to 1
down : (bits : Bits) → is bits (of_unary (name (codes "a"))) (a bits 1 ∷ a bits 0 ∷ [])
down bits = refl

up : (bits : Bits) → is bits (of_unary (name (codes "b"))) (b bits 0 ∷ b bits 1 ∷ [])
up bits = refl

one_bit : (bits : Bits) → is bits (of_unary (Reference (codes "a") (Bit 0))) (a bits 0 ∷ [])
one_bit bits = refl

part : (bits : Bits) → is bits (of_unary (Reference (codes "b") (Part 0 1))) (b bits 0 ∷ b bits 1 ∷ [])
part bits = refl

-- 4'd11 is 1011
number : (bits : Bits) → is bits (of_unary (Constant 4 11)) (true ∷ false ∷ true ∷ true ∷ [])
number bits = refl

-- the operators
complement : (bits : Bits) → is bits (of_unary (Complement (name (codes "a")))) (not (a bits 1) ∷ not (a bits 0) ∷ [])
complement bits = refl

conjunction : (bits : Bits) → is bits (of_and (AnAnd (name (codes "a")) (MoreAnds (name (codes "b")) NoAnds))) ((a bits 1 && b bits 0) ∷ (a bits 0 && b bits 1) ∷ [])
conjunction bits = refl

disjunction : (bits : Bits) → is bits (AnExpr (AnOr (one_xor (name (codes "a"))) (MoreOrs (one_xor (name (codes "b"))) NoOrs)) NoChoice) ((a bits 1 || b bits 0) ∷ (a bits 0 || b bits 1) ∷ [])
disjunction bits = refl

abbrev marked : XorMark → Expr
marked mark = AnExpr (AnOr (AnXor (one_and (Constant 4 3)) (MoreXors mark (one_and (Constant 4 5)) NoXors)) NoOrs) NoChoice

-- 0011 and 0101
exclusive : (bits : Bits) → is bits (marked ByCaret) (false ∷ true ∷ true ∷ false ∷ [])
exclusive bits = refl

equal : (bits : Bits) → is bits (marked ByTildeCaret) (true ∷ false ∷ false ∷ true ∷ [])
equal bits = refl

equal_too : (bits : Bits) → is bits (marked ByCaretTilde) (true ∷ false ∷ false ∷ true ∷ [])
equal_too bits = refl

-- {a, s} and {2{a[1], s}}
joined : (bits : Bits) → is bits (of_unary (Braces (of_unary (name (codes "a"))) (MoreExprs (of_unary (name (codes "s"))) NoExprs))) (a bits 1 ∷ a bits 0 ∷ s bits ∷ [])
joined bits = refl

repeated :
    (bits : Bits) → is bits (of_unary (Repeated 2 (of_unary (Reference (codes "a") (Bit 1))) (MoreExprs (of_unary (name (codes "s"))) NoExprs))) (a bits 1 ∷ s bits ∷ a bits 1 ∷ s bits ∷ [])
repeated bits = refl

-- s ? a & ~b | c : {c[0], 1'b0}
abbrev chosen : Expr
chosen =
    AnExpr (AnOr (one_xor (name (codes "s"))) NoOrs)
    (Choose (AnExpr (AnOr (AnXor (AnAnd (name (codes "a")) (MoreAnds (Complement (name (codes "b"))) NoAnds)) NoXors) (MoreOrs (one_xor (name (codes "c"))) NoOrs)) NoChoice)
    (of_unary (Braces (of_unary (Reference (codes "c") (Bit 0))) (MoreExprs (of_unary (Constant 1 0)) NoExprs))))

choice : (bits : Bits) → is bits chosen (if s bits then ((a bits 1 && not (b bits 0)) || c bits 1) ∷ ((a bits 0 && not (b bits 1)) || c bits 0) ∷ [] else c bits 0 ∷ false ∷ [])
choice bits = refl

-- cells: what each gives on the bits of its inputs, in the table's order

abbrev gives : List ℕ → List (List Bool) → List Bool → Type 0
gives cell ins wanted = on_some (kind_of cell) [] (λ kind. cell_gives kind.body ins) ≡ wanted

abbrev of_two : Bool → Bool → List (List Bool)
of_two x y = (x ∷ []) ∷ (y ∷ []) ∷ []

not_cell : (x : Bool) → gives (codes "$_NOT_") ((x ∷ []) ∷ []) (not x ∷ [])
not_cell x = refl

buf_cell : (x : Bool) → gives (codes "$_BUF_") ((x ∷ []) ∷ []) (x ∷ [])
buf_cell x = refl

and_cell : (x : Bool) → gives (codes "$_AND_") (of_two true x) (x ∷ [])
and_cell true = refl
and_cell false = refl

or_cell : (x : Bool) → gives (codes "$_OR_") (of_two false x) (x ∷ [])
or_cell true = refl
or_cell false = refl

nand_cell : (x : Bool) → gives (codes "$_NAND_") (of_two true x) (not x ∷ [])
nand_cell true = refl
nand_cell false = refl

nor_cell : (x : Bool) → gives (codes "$_NOR_") (of_two false x) (not x ∷ [])
nor_cell true = refl
nor_cell false = refl

xor_cell : (x : Bool) → gives (codes "$_XOR_") (of_two true x) (not x ∷ [])
xor_cell true = refl
xor_cell false = refl

xnor_cell : (x : Bool) → gives (codes "$_XNOR_") (of_two true x) (x ∷ [])
xnor_cell true = refl
xnor_cell false = refl

-- A and not B, A or not B
andnot_cell : (x : Bool) → gives (codes "$_ANDNOT_") (of_two true x) (not x ∷ [])
andnot_cell true = refl
andnot_cell false = refl

ornot_cell : (x : Bool) → gives (codes "$_ORNOT_") (of_two false x) (not x ∷ [])
ornot_cell true = refl
ornot_cell false = refl

-- S ? B : A
mux_cell : (x y select : Bool) → gives (codes "$_MUX_") ((x ∷ []) ∷ (y ∷ []) ∷ (select ∷ []) ∷ []) (if select then y ∷ [] else x ∷ [])
mux_cell x y select = refl

-- a flip-flop gives what its D has, whatever its clock does
dff_cell : (clock d : Bool) → gives (codes "dff") (of_two clock d) (d ∷ [])
dff_cell clock d = refl

dff_p_cell : (clock d : Bool) → gives (codes "$_DFF_P_") (of_two clock d) (d ∷ [])
dff_p_cell clock d = refl
