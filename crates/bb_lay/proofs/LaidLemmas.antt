-- The five parts of what is laid, one after another.
use Rattle.std.proofs.Common.{arith, ◌≡◌, ℕ, ◌+◌, ◌≤◌, List, [], ◌++◌, map, length, take, drop, sym, ap, subst, ◌∙◌, append_assoc, length-append, take-append-drop}
use Rattle.bb_base.specs.declared.variable.BitName.{BitName}
use Rattle.bb_base.specs.Variables.{Entry, is_port, bit_count, ports_of, role_bits}
use Rattle.bb_base.specs.Named.{Named}
use Rattle.bb_base.specs.Building.{started, net_limit}
use Rattle.bb_net.proofs.CountLemmas.{variables_few}
use Rattle.bb_terms.specs.declared.wire.Wire.{Wire}
use Rattle.bb_written.specs.Written.{added_clock, added_ports, inner_entry}
use Rattle.bb_lay.specs.Laying.{AddsAll, CanStand, IsLaid, scalar_bits, all_net_bits, clock_or, wires_from, laid_variables, laid_bits}
use Rattle.bb_lay.proofs.Adding.{adds_twice}
use Rattle.bb_lay.proofs.Clocks.{front_long}
use Rattle.bb_lay.proofs.Standing.{stand_front}

module _ (a : Named) (ws : List Wire) where
  abbrev p : ℕ
  p = ports_of a.variables

  abbrev front : List Entry
  front = take p a.variables

  abbrev back : List Entry
  back = drop p a.variables

  abbrev clk : List Entry
  clk = added_clock a.clock

  abbrev ins : List Entry
  ins = map inner_entry ws

  abbrev ports : List BitName
  ports = role_bits is_port a.clock 0 front

  pub parts : laid_variables a ws ≡ front ++ (clk ++ (added_ports ++ (back ++ ins)))
  parts = ap (λ vs. front ++ vs) (append_assoc clk added_ports (back ++ ins))

  pub can_front : CanStand (laid_variables a ws) → CanStand front
  can_front can = stand_front front ((clk ++ added_ports) ++ (back ++ ins)) can

  pub few_variables : CanStand (laid_variables a ws) → length a.variables + length (clk ++ added_ports) ≤ 134217728
  few_variables can =
      omega (arith, can.few, variables_few (laid_variables a ws), length-append front ((clk ++ added_ports) ++ (back ++ ins)), length-append (clk ++ added_ports) (back ++ ins), length-append back ins, length-append front back, ap length (take-append-drop p a.variables))

  module _ (first one : Named) (begin : first ≡ started a.module_name) (can : CanStand (laid_variables a ws)) (h : AddsAll first one front ports a.clock) where
    v_one : one.variables ≡ front
    v_one = h.variables ∙ ap (λ (k : Named). k.variables ++ front) begin

    split : CanStand (front ++ (clk ++ (added_ports ++ (back ++ ins))))
    split = subst CanStand parts can

    pub can_clock : CanStand (one.variables ++ clk)
    can_clock = subst (λ vs. CanStand (vs ++ clk)) (sym v_one) (stand_front (front ++ clk) (added_ports ++ (back ++ ins)) (subst CanStand (sym (append_assoc front clk (added_ports ++ (back ++ ins)))) split))

    module _ (two : Named) (k : AddsAll one two clk [] (clock_or a.clock (length one.variables))) where
      v_two : two.variables ≡ front ++ clk
      v_two = k.variables ∙ ap (λ vs. vs ++ clk) v_one

      split_two : CanStand ((front ++ clk) ++ (added_ports ++ (back ++ ins)))
      split_two = subst CanStand (sym (append_assoc front clk (added_ports ++ (back ++ ins)))) split

      pub can_tests : CanStand (two.variables ++ added_ports)
      can_tests = subst (λ vs. CanStand (vs ++ added_ports)) (sym v_two) (stand_front ((front ++ clk) ++ added_ports) (back ++ ins) (subst CanStand (sym (append_assoc (front ++ clk) added_ports (back ++ ins))) split_two))

      module _ (three : Named) (l : AddsAll two three added_ports (scalar_bits (length two.variables) 4) two.clock) where
        v_three : three.variables ≡ (front ++ clk) ++ added_ports
        v_three = l.variables ∙ ap (λ vs. vs ++ added_ports) v_two

        split_three : CanStand (((front ++ clk) ++ added_ports) ++ (back ++ ins))
        split_three = subst CanStand (sym (append_assoc (front ++ clk) added_ports (back ++ ins))) split_two

        pub can_wires : CanStand (three.variables ++ back)
        can_wires = subst (λ vs. CanStand (vs ++ back)) (sym v_three) (stand_front (((front ++ clk) ++ added_ports) ++ back) ins (subst CanStand (sym (append_assoc ((front ++ clk) ++ added_ports) back ins)) split_three))

        module _ (four : Named) (m : AddsAll three four back (all_net_bits a.names p (length three.variables) back) three.clock) where
          v_four : four.variables ≡ ((front ++ clk) ++ added_ports) ++ back
          v_four = m.variables ∙ ap (λ vs. vs ++ back) v_three

          pub can_inner : CanStand (four.variables ++ ins)
          can_inner = subst (λ vs. CanStand (vs ++ ins)) (sym v_four) (subst CanStand (sym (append_assoc ((front ++ clk) ++ added_ports) back ins)) split_three)

          pub all_laid : (last : Named) → AddsAll four last ins (scalar_bits (length four.variables) (length ws)) four.clock → AddsAll first last (laid_variables a ws) (laid_bits a ws) (clock_or a.clock p)
          all_laid last o =
              let long_one : length one.variables ≡ p = ap length v_one ∙ front_long a.variables in
              let long_two : length two.variables ≡ p + length clk = ap length k.variables ∙ length-append one.variables clk ∙ ap (λ n. n + length clk) long_one in
              let long_three : length three.variables ≡ wires_from a = omega (arith, ap length l.variables, length-append two.variables added_ports, long_two, length-append clk added_ports) in
              let long_four : length four.variables ≡ wires_from a + length back = omega (arith, ap length m.variables, length-append three.variables back, long_three) in
              let whole = adds_twice first one last front (clk ++ (added_ports ++ (back ++ ins))) ports ([] ++ (scalar_bits (length two.variables) 4 ++ (all_net_bits a.names p (length three.variables) back ++ scalar_bits (length four.variables) (length ws)))) a.clock four.clock h
              (adds_twice one two last clk (added_ports ++ (back ++ ins)) [] (scalar_bits (length two.variables) 4 ++ (all_net_bits a.names p (length three.variables) back ++ scalar_bits (length four.variables) (length ws))) (clock_or a.clock (length one.variables)) four.clock k
              (adds_twice two three last added_ports (back ++ ins) (scalar_bits (length two.variables) 4) (all_net_bits a.names p (length three.variables) back ++ scalar_bits (length four.variables) (length ws)) two.clock four.clock l
              (adds_twice three four last back ins (all_net_bits a.names p (length three.variables) back) (scalar_bits (length four.variables) (length ws)) three.clock four.clock m o))) in
              let clock : four.clock ≡ clock_or a.clock p = m.clock_is ∙ l.clock_is ∙ k.clock_is ∙ ap (clock_or a.clock) long_one in
              let bits : ports ++ (scalar_bits (length two.variables) 4 ++ (all_net_bits a.names p (length three.variables) back ++ scalar_bits (length four.variables) (length ws))) ≡ laid_bits a ws =
              λ i. ports ++ (scalar_bits (long_two i) 4 ++ (all_net_bits a.names p (long_three i) back ++ scalar_bits (long_four i) (length ws))) in
              record {
                module_name = whole.module_name;
                variables = whole.variables ∙ ap (λ vs. first.variables ++ vs) (sym parts);
                clock_is = whole.clock_is ∙ clock;
                names = whole.names ∙ ap (λ bs. first.names ++ bs) bits;
                gates = whole.gates;
                flops = whole.flops;
              }

-- what stands in a builder that was begun with nothing
pub laid_names : (a b first : Named) (ws : List Wire) → first ≡ started a.module_name → AddsAll first b (laid_variables a ws) (laid_bits a ws) (clock_or a.clock (ports_of a.variables)) → (b.variables ≡ laid_variables a ws) × (b.names ≡ laid_bits a ws)
laid_names a b first ws begin h = (h.variables ∙ ap (λ (k : Named). k.variables ++ laid_variables a ws) begin, h.names ∙ ap (λ (k : Named). k.names ++ laid_bits a ws) begin)

pub laid_room : (a b first : Named) (ws : List Wire) → first ≡ started a.module_name → CanStand (laid_variables a ws) → AddsAll first b (laid_variables a ws) (laid_bits a ws) (clock_or a.clock (ports_of a.variables)) → IsLaid b → length b.names ≤ net_limit
laid_room a b first ws begin can h laid = omega (arith, laid.few, can.few, ap bit_count (laid_names a b first ws begin h).0)
