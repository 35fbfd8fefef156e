-- The canonical text in its parts.
use Rattle.std.proofs.Common.{drop, slice_get, Some, ◌+◌, ◌≡◌, ℕ, List, [], ◌∷◌, ◌++◌, map, codes, sym, ap, ◌∙◌, append_assoc}
use Rattle.std.specs.List.{flat_map}
use Rattle.std.proofs.lemmas.List.Concat.{flat_map-append}
use Rattle.bb_base.specs.Variables.{Entry}
use Rattle.bb_base.specs.Named.{Design}
use Rattle.bb_spell.proofs.Ports.{drop_at}
use Rattle.bb_spell.specs.Spelling.{module_line, declaration, gate_line}
use Rattle.bb_spell.specs.Canonical.{port_names, flop_lines, with_feed, canonical_text}

abbrev pub lines : List (List ℕ) → List ℕ
lines = flat_map with_feed

-- the text is its parts
pub text_parts : (d : Design) → canonical_text d ≡ with_feed (module_line d.module_name (port_names d.variables)) ++ (lines (map declaration d.variables) ++ (lines (map gate_line d.netlist.gates) ++ (lines (flop_lines d.clock 0 d.netlist.flops) ++ with_feed (codes "endmodule"))))
text_parts d =
    let end : List (List ℕ) = codes "endmodule" ∷ [] in
    let flops : List (List ℕ) = flop_lines d.clock 0 d.netlist.flops in
    ap (λ z. with_feed (module_line d.module_name (port_names d.variables)) ++ z) (flat_map-append with_feed (map declaration d.variables) (map gate_line d.netlist.gates ++ (flops ++ end))
    ∙ ap (λ z. lines (map declaration d.variables) ++ z) (flat_map-append with_feed (map gate_line d.netlist.gates) (flops ++ end)
    ∙ ap (λ z. lines (map gate_line d.netlist.gates) ++ z) (flat_map-append with_feed flops end)))

five : (old m x y z w a b c e new : List ℕ) → a ≡ old ++ m → b ≡ a ++ x → c ≡ b ++ y → e ≡ c ++ z → new ≡ e ++ w → new ≡ old ++ (m ++ (x ++ (y ++ (z ++ w))))
five old m x y z w a b c e new p q r s t = rw (t, s, r, q, p) (simp append_assoc)

-- parts that are appended one after another make the text
pub appended : (d : Design) (old a b c e new : List ℕ) → a ≡ old ++ with_feed (module_line d.module_name (port_names d.variables)) → b ≡ a ++ lines (map declaration d.variables) → c ≡ b ++ lines (map gate_line d.netlist.gates)
    → e ≡ c ++ lines (flop_lines d.clock 0 d.netlist.flops) → new ≡ e ++ with_feed (codes "endmodule") → new ≡ old ++ canonical_text d
appended d old a b c e new p q r s t =
    let m : List ℕ = with_feed (module_line d.module_name (port_names d.variables)) in
    let x : List ℕ = lines (map declaration d.variables) in
    let y : List ℕ = lines (map gate_line d.netlist.gates) in
    let z : List ℕ = lines (flop_lines d.clock 0 d.netlist.flops) in
    let w : List ℕ = with_feed (codes "endmodule") in
    five old m x y z w a b c e new p q r s t ∙ ap (λ v. old ++ v) (sym (text_parts d))

-- one more declaration
pub declaration_step : (variables : List Entry) (i : ℕ) (v : Entry) (out line written new all : List ℕ) → slice_get variables i ≡ Some v → line ≡ [] → written ≡ line ++ declaration v → new ≡ out ++ with_feed written
    → out ++ lines (map declaration (drop i variables)) ≡ all → new ++ lines (map declaration (drop (i + 1) variables)) ≡ all
declaration_step variables i v out line written new all at empty w n e =
    let rest : List ℕ = lines (map declaration (drop (i + 1) variables)) in
    let here : with_feed written ≡ with_feed (declaration v) = ap with_feed (w ∙ ap (λ z. z ++ declaration v) empty) in
    ap (λ z. z ++ rest) n ∙ append_assoc out (with_feed written) rest ∙ ap (λ z. out ++ z) (ap (λ z. z ++ rest) here ∙ sym (ap (λ vs. lines (map declaration vs)) (drop_at variables i v at))) ∙ e
