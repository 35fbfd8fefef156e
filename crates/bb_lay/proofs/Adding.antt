-- Variables and nets that are added one after another.
use Rattle.std.proofs.Common.{◌≡◌, List, [], ◌∷◌, ◌++◌, Option, refl, sym, ap, subst, ◌∙◌, append_assoc, append-nil}
use Rattle.bb_base.specs.declared.variable.BitName.{BitName}
use Rattle.bb_base.specs.Variables.{Entry}
use Rattle.bb_base.specs.Named.{Named}
use Rattle.bb_lay.specs.Laying.{AddsAll, CanStand, IsLaid}
use Rattle.bb_lay.proofs.Standing.{stand_front}

-- with these rest variables and bits, what stands would be all that is to be added
pub record Continues (first now : Named) (rest all : List Entry) (bits all_bits : List BitName) (clock : Option BitName) : Type 0 where
  pub module_name : now.module_name ≡ first.module_name
  pub variables : now.variables ++ rest ≡ first.variables ++ all
  pub clock_is : now.clock ≡ clock
  pub names : now.names ++ bits ≡ first.names ++ all_bits
  pub gates : now.netlist.gates ≡ first.netlist.gates
  pub flops : now.netlist.flops ≡ first.netlist.flops
  pub laid : IsLaid now

pub first_of : (first : Named) (all : List Entry) (bits : List BitName) (clock : Option BitName) → first.clock ≡ clock → IsLaid first → Continues first first all all bits bits clock
first_of first all bits clock same laid = record { module_name = refl; variables = refl; clock_is = same; names = refl; gates = refl; flops = refl; laid = laid }

pub next_of : (first now new : Named) (e : Entry) (rest all : List Entry) (bits more later all_bits : List BitName) (clock after : Option BitName) → Continues first now (e ∷ rest) all more all_bits clock → more ≡ bits ++ later
    → AddsAll now new (e ∷ []) bits after → IsLaid new → Continues first new rest all later all_bits after
next_of first now new e rest all bits more later all_bits clock after h split adds laid = record {
  module_name = adds.module_name ∙ h.module_name;
  variables = ap (λ vs. vs ++ rest) adds.variables ∙ append_assoc now.variables (e ∷ []) rest ∙ h.variables;
  clock_is = adds.clock_is;
  names = ap (λ bs. bs ++ later) adds.names ∙ append_assoc now.names bits later ∙ ap (λ bs. now.names ++ bs) (sym split) ∙ h.names;
  gates = adds.gates ∙ h.gates;
  flops = adds.flops ∙ h.flops;
  laid = laid;
}

pub last_of : (first now : Named) (rest all : List Entry) (bits all_bits : List BitName) (clock : Option BitName) → Continues first now rest all bits all_bits clock → rest ≡ [] → bits ≡ [] → AddsAll first now all all_bits clock
last_of first now rest all bits all_bits clock h none no_bits = record {
  module_name = h.module_name;
  variables = sym (append-nil now.variables) ∙ ap (λ vs. now.variables ++ vs) (sym none) ∙ h.variables;
  clock_is = h.clock_is;
  names = sym (append-nil now.names) ∙ ap (λ bs. now.names ++ bs) (sym no_bits) ∙ h.names;
  gates = h.gates;
  flops = h.flops;
}

-- the next variable can stand
pub next_stands : (first now : Named) (e : Entry) (rest left all : List Entry) (bits all_bits : List BitName) (clock : Option BitName) → Continues first now left all bits all_bits clock → left ≡ e ∷ rest → CanStand (first.variables ++ all) → CanStand (now.variables ++ e ∷ [])
next_stands first now e rest left all bits all_bits clock h split can =
    stand_front (now.variables ++ e ∷ []) rest (subst CanStand (sym (append_assoc now.variables (e ∷ []) rest ∙ ap (λ vs. now.variables ++ vs) (sym split) ∙ h.variables)) can)

-- what is added in two steps
pub adds_twice : (a b c : Named) (one two : List Entry) (bits more : List BitName) (clock after : Option BitName) → AddsAll a b one bits clock → AddsAll b c two more after → AddsAll a c (one ++ two) (bits ++ more) after
adds_twice a b c one two bits more clock after h k = record {
  module_name = k.module_name ∙ h.module_name;
  variables = k.variables ∙ ap (λ vs. vs ++ two) h.variables ∙ append_assoc a.variables one two;
  clock_is = k.clock_is;
  names = k.names ∙ ap (λ bs. bs ++ more) h.names ∙ append_assoc a.names bits more;
  gates = k.gates ∙ h.gates;
  flops = k.flops ∙ h.flops;
}
