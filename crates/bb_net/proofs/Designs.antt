-- Runs by sites and by texts, and designs by sites.
use Rattle.std.proofs.Common.{arith, ◌≡◌, ℕ, ◌<◌, List, length, map, Bool, sym, ap, ◌∙◌, subst, Option, Some, None, refl}
use Rattle.std.specs.Option.{option_map, ForSome}
use Rattle.bb_base.specs.declared.variable.BitName.{BitName}
use Rattle.bb_base.specs.Variables.{Bit, bit_of}
use Rattle.bb_base.specs.Net.{Gate, renamed, renamed_gate, driven}
use Rattle.bb_base.specs.Run.{IsRunBy, at}
use Rattle.bb_base.specs.Named.{Named, IsNamed, IsClock, Design, design_of, net_text}
use Rattle.bb_net.specs.Sites.{Site, Sited, sited, site_of, site_of_bit}
use Rattle.bb_net.proofs.CarriedRuns.{run_named_by}
use Rattle.bb_net.proofs.Renaming.{OfAllNets, nets_below, renamed_twice, renamed_alike, OneToOne, names_distinct, net_named, found, finds_all, at_map}
use Rattle.bb_net.proofs.SiteLemmas.{site_eq, site_decides, same_text, text_decides, net_bit, net_by_site, net_by_text, text_at, text_of_site}
use Rattle.bb_base.proofs.Distinct.{Distinct}

module _ (n : Named) (h : IsNamed n) where
  -- all nets that stand are below the count of names
  pub named_below : OfAllNets (λ m. m < length n.names) n.netlist
  named_below = subst (λ k. OfAllNets (λ m. m < k) n.netlist) (sym h.names) (nets_below n.netlist h.netlist)

  pub sites_one : OneToOne (site_of n) (length (driven n.netlist))
  sites_one m k low high same = net_by_site n h m k (omega (arith, low, h.names)) (omega (arith, high, h.names)) same

  pub texts_one : OneToOne (net_text n) (length (driven n.netlist))
  texts_one m k low high same = net_by_text n h m k (omega (arith, low, h.names)) (omega (arith, high, h.names)) same

  -- no two driven nets are at one site, nor have one name in texts
  pub sites_distinct : Distinct (map (site_of n) (driven n.netlist))
  sites_distinct = names_distinct (site_of n) n.netlist h.netlist sites_one

  pub texts_distinct : Distinct (map (net_text n) (driven n.netlist))
  texts_distinct = names_distinct (net_text n) n.netlist h.netlist texts_one

  -- a run by numbers is one by sites
  pub run_by_site : (gives : Gate Site → List Bool → Bool) (s : List Bool) (is : List (List Bool)) (ws : List (ℕ → Bool)) → IsRunBy (λ g. gives (renamed_gate (site_of n) g)) n.netlist s is ws
      → (vs : List (Site → Bool)) × IsRunBy gives (sited n).netlist s is vs × ((c net : ℕ) → net < length n.names → at vs c (site_of n net) ≡ at ws c net)
  run_by_site gives s is ws run =
      let find : Site → ℕ = net_named site_eq site_decides (site_of n) n.netlist h.netlist sites_one in (
        map (λ w k. w (find k)) ws,
        run_named_by (site_of n) find gives n.netlist (finds_all site_eq site_decides (site_of n) n.netlist h.netlist sites_one) s is ws run,
        λ c net small. at_map find ws c (site_of n net) ∙ ap (at ws c) (found site_eq site_decides (site_of n) n.netlist h.netlist sites_one net (omega (arith, small, h.names))),
      )

  -- and one by texts
  pub run_by_text : (gives : Gate Bit → List Bool → Bool) (s : List Bool) (is : List (List Bool)) (ws : List (ℕ → Bool)) → IsRunBy (λ g. gives (renamed_gate (net_text n) g)) n.netlist s is ws
      → (vs : List (Bit → Bool)) × IsRunBy gives (design_of n).netlist s is vs × ((c net : ℕ) → net < length n.names → at vs c (net_text n net) ≡ at ws c net)
  run_by_text gives s is ws run =
      let find : Bit → ℕ = net_named same_text text_decides (net_text n) n.netlist h.netlist texts_one in (
        map (λ w k. w (find k)) ws,
        run_named_by (net_text n) find gives n.netlist (finds_all same_text text_decides (net_text n) n.netlist h.netlist texts_one) s is ws run,
        λ c net small. at_map find ws c (net_text n net) ∙ ap (at ws c) (found same_text text_decides (net_text n) n.netlist h.netlist texts_one net (omega (arith, small, h.names))),
      )

-- the design of what is known by sites
abbrev design_at : Sited → Design
design_at s = record { module_name = s.module_name; variables = s.variables; clock = option_map (text_at s.variables) s.clock; netlist = renamed (text_at s.variables) s.netlist }

design_is : (n : Named) → IsNamed n → design_of n ≡ design_at (sited n)
design_is n h =
    let nets : renamed (net_text n) n.netlist ≡ renamed (text_at n.variables) (renamed (site_of n) n.netlist) =
    renamed_alike (net_text n) (λ m. text_at n.variables (site_of n m)) (λ m. m < length n.names) (λ m small. sym (text_of_site n.variables h.apart _ (net_bit n h m small))) n.netlist (named_below n h)
    ∙ sym (renamed_twice (site_of n) (text_at n.variables) n.netlist) in
    let clock : option_map (bit_of n.variables) n.clock ≡ option_map (text_at n.variables) (option_map (site_of_bit n.variables) n.clock) = clock_is n.clock h.consistent.clock in
    λ i. record { module_name = n.module_name; variables = n.variables; clock = clock i; netlist = nets i }
  where
    clock_is : (c : Option BitName) → ForSome c (IsClock n.variables) → option_map (bit_of n.variables) c ≡ option_map (text_at n.variables) (option_map (site_of_bit n.variables) c)
    clock_is None is = refl
    clock_is (Some c) is = ap Some (sym (text_of_site n.variables h.apart c (is c refl).stands))

-- what is the same by sites is the same design
pub same_design : (a b : Named) → sited a ≡ sited b → IsNamed a → IsNamed b → design_of a ≡ design_of b
same_design a b same is_a is_b = design_is a is_a ∙ (ap design_at same ∙ sym (design_is b is_b))
