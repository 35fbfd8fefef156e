-- A line of a form that may follow leads to its stage.
use Rattle.std.proofs.Common.{◌≡◌, ℕ, List, [], Some, None, inl, inr, ◌↔◌, sym, ap, ◌∙◌}
use Rattle.bb_spell.specs.Front.{◌>>=◌}
use Rattle.bb_spell.specs.Spelling.{gate_line, declaration}
use Rattle.bb_spell.specs.Lines.{declaration_of, statement_of}
use Rattle.bb_spell.specs.Forms.{IsHeadLine, LeadsFromFlops, LeadsFromGates, Leads}
use Rattle.bb_spell.specs.Places.{head_of, after_flops, after_gates, after_declarations, stage_after}
use Rattle.bb_spell.specs.declared.places.Stage.{Stage}
use Rattle.bb_spell.specs.declared.places.Stage.TheVariants.{Head, Declarations, Gates, Flops, End}
use Rattle.bb_spell.proofs.LineAgain.{declaration_again, form_again}
use Rattle.bb_spell.proofs.OneKind.{states_nothing_declared, flop_undeclared, flop_unstated, others_undeclared, others_unstated}
use Rattle.bb_spell.proofs.Standing.{head_again, flop_stands, end_stands, stated, not_stated, declared, not_declared}
use Rattle.bb_spell.proofs.BackLines.{stage_leads}

head_stage : (line : List ℕ) → IsHeadLine line → stage_after Head line ≡ Some Declarations
head_stage line h = ap (λ o. o >>= (λ (name : List ℕ). Some Declarations)) (ap head_of h.4 ∙ head_again h.0 h.1 h.2 h.3)

flops_stage : (count : ℕ) (line : List ℕ) (to : Stage) → LeadsFromFlops count line to → after_flops count line ≡ Some to
flops_stage count line to (inl h) =
    let f = h.1 in
    ap (after_flops count) f.4 ∙ flop_stands f.0 count f.1 f.2 f.3 ∙ ap Some (sym h.0)
flops_stage count line to (inr h) = ap (after_flops count) h.1 ∙ end_stands count ∙ ap Some (sym h.0)

-- no flip-flop and no last line states a gate or declares a variable
unstated : (count : ℕ) (line : List ℕ) (to : Stage) → LeadsFromFlops count line to → statement_of line ≡ None
unstated count line to (inl h) = ap statement_of h.1.4 ∙ flop_unstated h.1.0 count h.1.1
unstated count line to (inr h) = ap statement_of h.1 ∙ (others_unstated [] []).1

undeclared : (count : ℕ) (line : List ℕ) (to : Stage) → LeadsFromFlops count line to → declaration_of line ≡ None
undeclared count line to (inl h) = ap declaration_of h.1.4 ∙ flop_undeclared h.1.0 count h.1.1
undeclared count line to (inr h) = ap declaration_of h.1 ∙ (others_undeclared [] []).1

gates_stage : (line : List ℕ) (to : Stage) → LeadsFromGates line to → after_gates line ≡ Some to
gates_stage line to (inl h) =
    let g = h.1 in
    ap after_gates g.2 ∙ stated (gate_line g.0) g.0 (form_again g.0.op g.0.out g.0.ins g.1.reads g.1.out g.1.ins) ∙ ap Some (sym h.0)
gates_stage line to (inr h) = not_stated line (unstated 0 line to h) ∙ flops_stage 0 line to h

-- nor does a gate's line declare one
no_declaration : (line : List ℕ) (to : Stage) → LeadsFromGates line to → declaration_of line ≡ None
no_declaration line to (inl h) =
    let g = h.1 in
    ap declaration_of g.2 ∙ states_nothing_declared g.0.op g.0.out g.0.ins
no_declaration line to (inr h) = undeclared 0 line to h

declarations_stage : (line : List ℕ) (to : Stage) → Leads Declarations line to → after_declarations line ≡ Some to
declarations_stage line to (inl h) =
    let v = h.1 in
    ap after_declarations v.2 ∙ declared (declaration v.0) v.0 (declaration_again v.0 v.1) ∙ ap Some (sym h.0)
declarations_stage line to (inr h) = not_declared line (no_declaration line to h) ∙ gates_stage line to h

pub leads_stage : (from to : Stage) (line : List ℕ) → Leads from line to → stage_after from line ≡ Some to
leads_stage Head to line h = head_stage line h.1 ∙ ap Some (sym h.0)
leads_stage Declarations to line h = declarations_stage line to h
leads_stage Gates to line h = gates_stage line to h
leads_stage (Flops count) to line h = flops_stage count line to h
leads_stage End to line h = absurd h

pub by_form : (from to : Stage) (line : List ℕ) → (stage_after from line ≡ Some to) ↔ Leads from line to
by_form from to line = (stage_leads from to line, leads_stage from to line)
