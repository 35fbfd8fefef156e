-- Each gate and each flip-flop drives a net of its own, so that they are no more than bits; and each net of the netlist has one driver.
use Rattle.std.proofs.Common.{◌≡◌, ℕ, ◌+◌, ◌<◌, ◌≤◌, nat_eq, ◌||◌, List, [], ◌∷◌, ◌++◌, map, length, Bool, true, false, cond, refl, sym, ap, ◌∙◌, arith}
use Rattle.std.specs.Prelude.{count_by}
use Rattle.std.proofs.lemmas.Bool.{false≢true}
use Rattle.std.proofs.lemmas.List.Elements.{recursion_from_All}
use Rattle.std.proofs.lemmas.List.Sums.{sum_by-cons}
use Rattle.std.specs.List.{AllByRecursion}
use Rattle.bb_base.specs.Variables.{Entry}
use Rattle.bb_base.proofs.Distinct.{few_distinct}
use Rattle.bb_base.proofs.Lists.{length_map}
use Rattle.bb_base.specs.Net.{Gate, driven, times}
use Rattle.bb_base.proofs.TimesLemmas.{once_distinct, standing}
use Rattle.bb_base.specs.Named.{Named}
use Rattle.bb_fault.specs.Work.{Work, Clocked}
use Rattle.bb_drive.specs.Within.{IsGateWithin, IsFlopWithin}
use Rattle.bb_drive.specs.Nets.{has_bit, bit_name, input_bits}
use Rattle.bb_drive.specs.NamedOf.{kept, named_of}
use Rattle.bb_assemble.proofs.KeptLaws.{counted}
use Rattle.bb_assemble.proofs.KeptNets.{IsFineWork, all_images, few_drivers, parts_counted, driven_net, has_front, has_back}
use Rattle.bb_assemble.proofs.NumberedNets.{times_by, distinct_apart, once}

uncounted : (b : ℕ) (xs : List ℕ) → has_bit xs b ≡ false → count_by (nat_eq b) xs ≡ 0
uncounted b [] h = refl
uncounted b (x ∷ xs) h = by (nat_eq b x) refl h (uncounted b xs)
  where
    head : count_by (nat_eq b) (x ∷ xs) ≡ cond (nat_eq b x) 1 0 + count_by (nat_eq b) xs
    head = sum_by-cons (λ m. cond (nat_eq b m) 1 0) x xs

    by : (t : Bool) → nat_eq b x ≡ t → (t || has_bit xs b) ≡ false → (has_bit xs b ≡ false → count_by (nat_eq b) xs ≡ 0) → count_by (nat_eq b) (x ∷ xs) ≡ 0
    by true e k rec = absurd (false≢true (sym k))
    by false e k rec = let none : ◌≡◌ {A = ℕ} (cond (nat_eq b x) 1 0) 0 = ap (λ t. cond t 1 0) e in omega (arith, head, none, rec k)

-- bits that stand, each once, are no more than all
few_bits : (fresh : ℕ) (bits : List ℕ) → AllByRecursion (λ b. b < fresh) bits → ((b : ℕ) → b < fresh → has_bit bits b ≡ true → count_by (nat_eq b) bits ≤ 1) → length bits ≤ fresh
few_bits fresh bits below one = few_distinct bits fresh (λ i j d less within. distinct_apart bits (once_distinct bits each) i j d less within) below
  where
    each : (b : ℕ) → times b bits ≤ 1
    each b = by (has_bit bits b) refl
      where
        by : (t : Bool) → has_bit bits b ≡ t → times b bits ≤ 1
        by true e = omega (arith, times_by b bits, one b (standing (λ m. m < fresh) b bits (omega (arith, times_by b bits, counted b bits e)) below) e)
        by false e = omega (arith, times_by b bits, uncounted b bits e)

module _ (vars : List Entry) (w : Work) (fine : IsFineWork vars w) where
  abbrev outs : List ℕ
  outs = map (λ (g : Gate ℕ). g.out) w.gates

  abbrev qs : List ℕ
  qs = map (λ (f : Clocked). f.q) w.flops

  pub gates_fewer : length w.gates ≤ w.fresh
  gates_fewer = omega (arith, length_map (λ (g : Gate ℕ). g.out) w.gates, few_bits w.fresh outs (all_images (λ b. b < w.fresh) (λ (g : Gate ℕ). g.out) w.gates (each w.gates (recursion_from_All (IsGateWithin w.fresh) w.gates fine.within.gates))) one)
    where
      each : (gates : List (Gate ℕ)) → AllByRecursion (IsGateWithin w.fresh) gates → AllByRecursion (λ (g : Gate ℕ). g.out < w.fresh) gates
      each [] h = tt
      each (g ∷ gates) h = (h.0.out, each gates h.1)

      one : (b : ℕ) → b < w.fresh → has_bit outs b ≡ true → count_by (nat_eq b) outs ≤ 1
      one b less h = omega (arith, parts_counted vars w fine b, few_drivers vars w fine b less (driven_net vars w fine b (has_back (input_bits vars) (outs ++ qs) b (has_front outs qs b h))))

  pub flops_fewer : length w.flops ≤ w.fresh
  flops_fewer = omega (arith, length_map (λ (f : Clocked). f.q) w.flops, few_bits w.fresh qs (all_images (λ b. b < w.fresh) (λ (f : Clocked). f.q) w.flops (each w.flops (recursion_from_All (IsFlopWithin w.fresh) w.flops fine.within.flops))) one)
    where
      each : (flops : List Clocked) → AllByRecursion (IsFlopWithin w.fresh) flops → AllByRecursion (λ (f : Clocked). f.q < w.fresh) flops
      each [] h = tt
      each (f ∷ flops) h = (h.0.q, each flops h.1)

      one : (b : ℕ) → b < w.fresh → has_bit qs b ≡ true → count_by (nat_eq b) qs ≤ 1
      one b less h = omega (arith, parts_counted vars w fine b, few_drivers vars w fine b less (driven_net vars w fine b (has_back (input_bits vars) (outs ++ qs) b (has_back outs qs b h))))

  pub driven_once : (name : List ℕ) (n : Named) → n ≡ named_of name vars w → (net : ℕ) → net < length n.names → times net (driven n.netlist) ≡ 1
  driven_once name n same net less =
      ap (λ (k : Named). times net (driven k.netlist)) same ∙ once vars w fine net (omega (arith, less, ap (λ (k : Named). length k.names) same, length_map (bit_name 0 vars) (kept vars w)))
