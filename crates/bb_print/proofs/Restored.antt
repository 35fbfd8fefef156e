-- A netlist's canonical text denotes a netlist of its design.
use Rattle.std.proofs.Common.{◌≡◌, inl, inr, ℕ, ◌≤◌, List, ◌++◌, length, map, true, Result, Ok, Err, sym, ap, ◌∙◌, arith, subst, Bool, false}
use Rattle.std.proofs.lemmas.List.{append_cancel_left, length-append}
use Rattle.bb_base.specs.Net.{Gate, Flop}
use Rattle.bb_base.specs.Named.{Named, IsNamed, design_of}
use Rattle.bb_net.proofs.CountLemmas.{nets_few}
use Rattle.bb_base.proofs.Lists.{length_map}
use Rattle.bb_base.proofs.CycleLemmas.{no_cycle}
use Rattle.bb_netlist.proofs.WalkLemmas.{loop_cycles}
use Rattle.bb_lex.proofs.Spelled.{denoted_once}
use Rattle.bb_parse.specs.declared.syntax.Module.{Module}
use Rattle.bb_parse.specs.Meaning.{Denotes}
use Rattle.bb_grammar.proofs.Exact.{one_module}
use Rattle.bb_fault.specs.declared.fault.ElabFault.{ElabFault}
use Rattle.bb_base.specs.Variables.{bit_count, limit_of}
use Rattle.bb_meaning.specs.Outcome.{denoted, IsLooped, IsOutcome}
use Rattle.bb_spell.specs.Canonical.{canonical_text}
use Rattle.bb_spell.specs.Limits.{IsNumbered}
use Rattle.bb_canon_parse.specs.Printed.{spelled_module}
use Rattle.bb_grammar.specs.Texts.{IsModuleOf}
use Rattle.bb_print.specs.Elaborated.{IsElaborable, Restores}
use Rattle.bb_spell.proofs.Texts.{design_text}
use Rattle.bb_canon_parse.proofs.Derived.{text_denotes}
use Rattle.bb_print.proofs.PrintedDenoted.{no_fault, elaborated, denoted_order, denoted_design, denoted_same}

-- flip-flops are no more than nets, and these no more than bits
few_flops : (a : Named) (h : IsNamed a) → length a.netlist.flops ≤ bit_count a.variables
few_flops a h =
    let outs : List ℕ = map (λ (g : Gate ℕ). g.out) a.netlist.gates in
    let qs : List ℕ = map (λ (f : Flop ℕ). f.q) a.netlist.flops in
    omega (arith, nets_few a h, h.names, length-append a.netlist.inputs (outs ++ qs), length-append outs qs, length_map (λ (f : Flop ℕ). f.q) a.netlist.flops)

limit_low : (own : Bool) → limit_of own ≤ 134217728
limit_low true = omega arith
limit_low false = omega arith

numbered : (own : Bool) (a : Named) → IsNamed a → bit_count a.variables ≤ limit_of own → IsNumbered a
numbered own a h small = record { named = h; flops = omega (arith, few_flops a h, small, limit_low own) }

-- a text spells one module at most
one_syntax : (text : List ℕ) (m n : Module) → IsModuleOf m text → IsModuleOf n text → n ≡ m
one_syntax text m n h k =
    let tokens : h.tokens ≡ k.tokens = (denoted_once text h.tokens k.tokens (Ok h.line) (Ok k.line) h.reads k.reads).0 in
    one_module k.tokens n m k.derives (subst (λ z. Denotes z m) tokens h.derives)

module _ (own : Bool) (a : Named) (h : IsNamed a) (fits : IsElaborable own a) where
  abbrev syntax : Module
  syntax = spelled_module (design_of a)

  spelled : IsModuleOf (spelled_module (design_of a)) (canonical_text (design_of a))
  spelled = text_denotes (design_of a) (design_text a (numbered own a h fits.bits))

  -- its module has no other outcome
  one_outcome : (result : Result Named ElabFault) → IsOutcome own (spelled_module (design_of a)) result → result ≡ Ok (denoted (spelled_module (design_of a)))
  one_outcome (Ok b) o = ap Ok o.1
  one_outcome (Err fault) (inl e) = cc (sym e ∙ no_fault a h own fits.names fits.bits)
  one_outcome (Err fault) (inr e) =
      let loop : IsLooped syntax fault = e.1 in
      let order = denoted_order a h fits.order in
      absurd (no_cycle (denoted syntax).netlist.gates order.0 loop.nets order.1 (loop_cycles (denoted syntax).netlist.gates loop.nets loop.is_loop))

  pub text_restores : Restores own (canonical_text (design_of a)) a
  text_restores = record {
    read = denoted (spelled_module (design_of a));
    elaborates = record { syntax_of = spelled_module (design_of a); spells = spelled; outcome = elaborated a h own fits };
    only = λ result e. one_outcome result (subst (λ z. IsOutcome own z result) (one_syntax (canonical_text (design_of a)) syntax e.syntax_of spelled e.spells) e.outcome);
    design = denoted_design a h;
    same = denoted_same a h;
  }

-- what is appended restores it
pub appended_restores : (own : Bool) (a : Named) (old new text : List ℕ) → IsNamed a → new ≡ old ++ canonical_text (design_of a) → new ≡ old ++ text → IsElaborable own a → Restores own text a
appended_restores own a old new text h whole parts fits =
    subst (λ z. Restores own z a) (append_cancel_left old (canonical_text (design_of a)) text (sym whole ∙ parts)) (text_restores own a h fits)
