-- The tokens that a canonical text spells, line by line, and their kinds.
use Rattle.std.specs.Prelude.{ℕ, ◌+◌, length, List, [], ◌∷◌, ◌++◌, map, codes, decimal, Option, None, Some}
use Rattle.bb_base.specs.declared.keyword.Keyword.{Keyword}
use Rattle.bb_base.specs.declared.keyword.Keyword.TheVariants as keys
use Rattle.bb_base.specs.declared.token.Mark.TheVariants as marks
use Rattle.bb_base.specs.declared.token.Token.{Token}
use Rattle.bb_base.specs.declared.token.TokenKind.{TokenKind}
use Rattle.bb_base.specs.declared.token.TokenKind.TheVariants.{Key, Name, Number, Const, Mark}
use Rattle.bb_lex.specs.Text.{number}
use Rattle.bb_base.specs.declared.operator.Op.{Op}
use Rattle.bb_base.specs.declared.operator.Op.TheVariants.{And, Nand, Or, Nor, Xor, Xnor, Not, Buf, Zero, One}
use Rattle.bb_base.specs.declared.variable.Role.{Role}
use Rattle.bb_base.specs.declared.variable.Role.TheVariants.{Input, Output, Wire}
use Rattle.bb_base.specs.Net.{Gate, Flop}
use Rattle.bb_base.specs.Variables.{Entry, Bit}
use Rattle.bb_base.specs.Named.{Design}
use Rattle.bb_spell.specs.Canonical.{port_names}

abbrev pub Kinds : Type 0
Kinds = List TokenKind

-- `(` and `)` around, `,` before, `;` behind
abbrev pub paren_end : Kinds
paren_end = Mark marks.RightParen ∷ Mark marks.Semicolon ∷ []

abbrev pub further_names : List (List ℕ) → Kinds
further_names [] = []
further_names (n ∷ ns) = Mark marks.Comma ∷ Name n ∷ further_names ns

abbrev pub names_kinds : List (List ℕ) → Kinds
names_kinds [] = []
names_kinds (n ∷ ns) = Name n ∷ further_names ns

abbrev pub module_kinds : List ℕ → List (List ℕ) → Kinds
module_kinds name ports = Key keys.Module ∷ Name name ∷ Mark marks.LeftParen ∷ (names_kinds ports ++ paren_end)

abbrev pub role_key : Role → Keyword
role_key Input = keys.Input
role_key Output = keys.Output
role_key Wire = keys.Wire

abbrev pub range_kinds : Option (ℕ × ℕ) → Kinds
range_kinds None = []
range_kinds (Some r) = Mark marks.LeftBracket ∷ Number r.0 ∷ Mark marks.Colon ∷ Number r.1 ∷ Mark marks.RightBracket ∷ []

abbrev pub declaration_kinds : Entry → Kinds
declaration_kinds v = Key (role_key v.1.role) ∷ (range_kinds v.1.range ++ Name v.0 ∷ Mark marks.Semicolon ∷ [])

abbrev pub index_kinds : Option ℕ → Kinds
index_kinds None = []
index_kinds (Some i) = Mark marks.LeftBracket ∷ Number i ∷ Mark marks.RightBracket ∷ []

abbrev pub bit_kinds : Bit → Kinds
bit_kinds b = Name b.name ∷ index_kinds b.index

abbrev pub further_bits : List Bit → Kinds
further_bits [] = []
further_bits (b ∷ bs) = Mark marks.Comma ∷ (bit_kinds b ++ further_bits bs)

abbrev pub primitive_kinds : Keyword → Bit → List Bit → Kinds
primitive_kinds key out ins = Key key ∷ Mark marks.LeftParen ∷ (bit_kinds out ++ (further_bits ins ++ paren_end))

abbrev pub constant_kinds : Bit → ℕ → Kinds
constant_kinds out value = Key keys.Assign ∷ (bit_kinds out ++ Mark marks.Equals ∷ Const 1 value ∷ Mark marks.Semicolon ∷ [])

abbrev pub kinds_by : Op → Bit → List Bit → Kinds
kinds_by And out ins = primitive_kinds keys.And out ins
kinds_by Nand out ins = primitive_kinds keys.Nand out ins
kinds_by Or out ins = primitive_kinds keys.Or out ins
kinds_by Nor out ins = primitive_kinds keys.Nor out ins
kinds_by Xor out ins = primitive_kinds keys.Xor out ins
kinds_by Xnor out ins = primitive_kinds keys.Xnor out ins
kinds_by Not out ins = primitive_kinds keys.Not out ins
kinds_by Buf out ins = primitive_kinds keys.Buf out ins
kinds_by Zero out ins = constant_kinds out 0
kinds_by One out ins = constant_kinds out 1

abbrev pub statement_kinds : Gate Bit → Kinds
statement_kinds g = kinds_by g.op g.out g.ins

-- the instance of a flip-flop is named by its number
abbrev pub flop_name : ℕ → List ℕ
flop_name j = codes "bt_f" ++ decimal j

abbrev pub flop_kinds : Bit → ℕ → Flop Bit → Kinds
flop_kinds clock j f =
    Name (codes "dff") ∷ Name (flop_name j) ∷ Mark marks.LeftParen ∷ (bit_kinds clock ++ Mark marks.Comma ∷ (bit_kinds f.q ++ Mark marks.Comma ∷ (bit_kinds f.d ++ paren_end)))

-- of the last line
abbrev pub end_kinds : Kinds
end_kinds = Key keys.Endmodule ∷ []

-- tokens of these kinds in one line
abbrev pub at : ℕ → Kinds → List Token
at line ks = map (λ k. record { kind = k; line = line }) ks

-- the tokens of lines of one kind behind so many others, and of what stands behind them
abbrev pub all_tokens : {X : Type 0} → (X → Kinds) → ℕ → List X → List Token → List Token
all_tokens kinds before [] behind = behind
all_tokens kinds before (x ∷ xs) behind = at (number before) (kinds x) ++ all_tokens kinds (before + 1) xs behind

-- of flip-flops that are counted from j, and of what stands behind them
abbrev pub counted_tokens : Bit → ℕ → ℕ → List (Flop Bit) → List Token → List Token
counted_tokens clock j before [] behind = behind
counted_tokens clock j before (f ∷ fs) behind = at (number before) (flop_kinds clock j f) ++ counted_tokens clock (j + 1) (before + 1) fs behind

abbrev pub flops_tokens : Option Bit → ℕ → List (Flop Bit) → List Token → List Token
flops_tokens None before fs behind = behind
flops_tokens (Some clock) before fs behind = counted_tokens clock 0 before fs behind

-- of a whole text; its last line stands behind so many others
abbrev pub text_tokens : Design → ℕ → List Token
text_tokens d last =
    at (number 0) (module_kinds d.module_name (port_names d.variables))
    ++ all_tokens declaration_kinds 1 d.variables (all_tokens statement_kinds (1 + length d.variables) d.netlist.gates (flops_tokens d.clock (1 + length d.variables + length d.netlist.gates) d.netlist.flops (at (number last) end_kinds)))
