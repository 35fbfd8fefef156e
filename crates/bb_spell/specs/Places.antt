-- Which line may stand where: the first line that may not, by the form of each line and by those before it. It is this project's own.
use Rattle.std.specs.Prelude.{ℕ, ◌+◌, ◌==◌, min, Bool, false, is_some, zero, suc, List, length, drop, codes, decimal, Option, Some, None, if◌then◌else◌}
use Rattle.std.specs.Option.{option_map}
use Rattle.std.specs.Str.{bytes_eq}
use Rattle.bb_spell.specs.Front.{◌>>=◌, begins_with, after_mark, at_end, front_name}
use Rattle.bb_spell.specs.Lines.{declaration_of, statement_of, FlopLine, flop_pins}
use Rattle.bb_spell.specs.declared.places.Stage.{Stage}
use Rattle.bb_spell.specs.declared.places.Stage.TheVariants.{Head, Declarations, Gates, Flops, End}
use Rattle.bb_spell.specs.TextLines.{first_bad, pieces_of}

-- what follows the further names at the front, where there are at most so many
unfoldable pub after_names : ℕ → List ℕ → Option (List ℕ)
after_names zero bytes = Some bytes
after_names (suc most) bytes = if begins_with (codes ", ") bytes then (front_name (drop 2 bytes) >>= (λ n. after_names most n.1)) else Some bytes

-- what follows the ports' names, of which there may be none
unfoldable pub after_ports : List ℕ → Option (List ℕ)
after_ports bytes = if begins_with (codes ")") bytes then Some bytes else (front_name bytes >>= (λ n. after_names (length n.1) n.1))

-- the name of the module, where the line is a first line
unfoldable pub head_of : List ℕ → Option (List ℕ)
head_of line = do
  name_from ← after_mark (codes "module ") line
  name ← front_name name_from
  ports_from ← after_mark (codes " (") name.1
  rest ← after_ports ports_from
  at_end name.0 (codes ");") rest

-- the flip-flop of this number that a line says
unfoldable pub counted_of : ℕ → List ℕ → Option FlopLine
counted_of count line = do
  number_from ← after_mark (codes "dff bt_f") line
  pins_from ← after_mark (decimal count) number_from
  flop_pins 0 pins_from

-- a text's stage after a line that stands behind so many flip-flops, where it may: another one comes, or the last line
unfoldable pub after_flops : ℕ → List ℕ → Option Stage
after_flops count line = if bytes_eq line (codes "endmodule") then Some End else (counted_of count line >>= (λ f. Some (Flops (count + 1))))

-- behind a gate: another one comes, or what may stand where no flip-flop has come
unfoldable pub after_gates : List ℕ → Option Stage
after_gates line = if is_some (statement_of line) then Some Gates else after_flops 0 line

-- behind a declaration: another one comes, or what may stand behind gates
unfoldable pub after_declarations : List ℕ → Option Stage
after_declarations line = if is_some (declaration_of line) then Some Declarations else after_gates line

-- the stage after a line, where the line may stand at this stage
abbrev pub stage_after : Stage → List ℕ → Option Stage
stage_after Head line = head_of line >>= (λ name. Some Declarations)
stage_after Declarations line = after_declarations line
stage_after Gates line = after_gates line
stage_after (Flops count) line = after_flops count line
stage_after End line = None

-- how many flip-flops have come
abbrev pub flops_before : Stage → ℕ
flops_before Head = 0
flops_before Declarations = 0
flops_before Gates = 0
flops_before (Flops count) = count
flops_before End = 0

-- a text may end so: behind its last line, with no byte more
abbrev pub may_end : Stage → List ℕ → Bool
may_end Head rest = false
may_end Declarations rest = false
may_end Gates rest = false
may_end (Flops count) rest = false
may_end End rest = length rest == 0

-- the number of a text's first bad line, up to the greatest number that is told
abbrev pub bad_line : List ℕ → Option ℕ
bad_line text = option_map (min 4294967295) (first_bad stage_after may_end (Some Head) 0 (pieces_of text))
