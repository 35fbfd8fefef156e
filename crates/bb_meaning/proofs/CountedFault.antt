-- The fault of the nets that are made is that of their count by arithmetic, before any is made.
use Rattle.std.proofs.Common.{◌≡◌, Bool, refl, ap, ◌∙◌}
use Rattle.std.specs.Prelude.{Option, Some, None}
use Rattle.std.specs.Option.{option_or}
use Rattle.bb_parse.specs.declared.syntax.Module.{Module}
use Rattle.bb_fault.specs.declared.fault.ElabFault.{ElabFault}
use Rattle.bb_fault.specs.Limits.{too_many}
use Rattle.bb_fault.proofs.Keys.{or_assoc}
use Rattle.bb_scope.specs.Cells.{unknown_cell}
use Rattle.bb_scope.specs.Parts.{bad_part, too_many_nets}
use Rattle.bb_scope.specs.Text.{name_fault, part_fault, text_fault}
use Rattle.bb_meaning.specs.Outcome.{first_fault, net_fault, too_many_made, variables_in, work_in}
use Rattle.bb_scope.proofs.Counting.{module-fresh}

-- the first fault, where the text's counts nets by arithmetic
pub counted_first : (own : Bool) (m : Module) → first_fault own m ≡ option_or (text_fault own m) (net_fault (variables_in m) (work_in m))
counted_first own m =
    ap (option_or (name_fault own m)) (ap (option_or (unknown_cell m)) (by (bad_part m) refl) ∙ or_assoc (unknown_cell m) (option_or (bad_part m) (too_many_nets own m)) nets)
    ∙ or_assoc (name_fault own m) (part_fault own m) nets
  where
    nets : Option ElabFault
    nets = net_fault (variables_in m) (work_in m)

    by : (b : Option ElabFault) → bad_part m ≡ b → option_or b (option_or (too_many_made own m) nets) ≡ option_or (option_or b (too_many_nets own m)) nets
    by None e = ap (λ n. option_or (too_many own n) nets) (module-fresh m e)
    by (Some fault) e = refl

-- a fault of the text is the first, and where it has none, that of drivers and clocks is
pub text_first : (own : Bool) (m : Module) (fault : ElabFault) → text_fault own m ≡ Some fault → first_fault own m ≡ Some fault
text_first own m fault text = counted_first own m ∙ ap (λ o. option_or o (net_fault (variables_in m) (work_in m))) text

pub nets_first : (own : Bool) (m : Module) (o : Option ElabFault) → text_fault own m ≡ None → net_fault (variables_in m) (work_in m) ≡ o → first_fault own m ≡ o
nets_first own m o text nets = counted_first own m ∙ (ap (λ t. option_or t (net_fault (variables_in m) (work_in m))) text ∙ nets)
