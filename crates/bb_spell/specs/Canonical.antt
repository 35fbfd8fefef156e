-- The canonical text of a module: one line for each thing, in the module's order. It is this project's own.
use Rattle.std.specs.Prelude.{◌≡◌, length, take, ℕ, ◌+◌, List, [], ◌∷◌, ◌++◌, map, filter, codes, Option}
use Rattle.std.specs.List.{flat_map}
use Rattle.bb_base.specs.Net.{Flop}
use Rattle.bb_base.specs.Variables.{Entry, Bit, is_port}
use Rattle.bb_base.specs.Named.{Design}
use Rattle.bb_spell.specs.Spelling.{module_line, declaration, gate_line, flop_line}

-- the names of the ports in order
abbrev pub port_names : List Entry → List (List ℕ)
port_names variables = map (λ v. v.0) (filter (λ v. is_port v.1.role) variables)

-- the lines of flip-flops, which are counted from j
abbrev pub flop_lines : Option Bit → ℕ → List (Flop Bit) → List (List ℕ)
flop_lines clock j [] = []
flop_lines clock j (f ∷ fs) = flop_line clock j f ∷ flop_lines clock (j + 1) fs

-- the lines of the text, without their line feeds
abbrev pub canonical_lines : Design → List (List ℕ)
canonical_lines d = module_line d.module_name (port_names d.variables) ∷ (map declaration d.variables ++ (map gate_line d.netlist.gates ++ (flop_lines d.clock 0 d.netlist.flops ++ codes "endmodule" ∷ [])))

-- a line with its line feed
abbrev pub with_feed : List ℕ → List ℕ
with_feed line = line ++ codes "\n"

-- the canonical text
abbrev pub canonical_text : Design → List ℕ
canonical_text d = flat_map with_feed (canonical_lines d)

-- the new text begins with the old one
abbrev pub GrowsFrom : List ℕ → List ℕ → Type 0
GrowsFrom old new = take (length old) new ≡ old
