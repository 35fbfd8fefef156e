-- The driver at a place of the list of what is driven.
use Rattle.std.proofs.Common.{◌≡◌, ℕ, ◌+◌, ◌-◌, ◌<◌, ◌≤◌, ◌^◌, All, List, ◌++◌, length, map, Some, slice_get, sym, ap, ◌∙◌, arith, get_or, subst, slice_index, min}
use Rattle.std.proofs.lemmas.List.{get_or_read}
use Rattle.bb_base.specs.declared.netlist.Driver.TheVariants as Driver
use Rattle.bb_base.specs.Net.{Gate, Flop, Netlist, driven, reads, times, IsDraft, IsNetlist}
use Rattle.bb_base.specs.Drivers.{Drives, IsTable}
use Rattle.bb_base.specs.Firsts.{IsFirst}
use Rattle.bb_base.proofs.Lists.{get_front, get_back, get_map, length_map}
use Rattle.bb_base.proofs.TimesLemmas.{length_once}

pub input_at : (ins rest : List ℕ) (p net : ℕ) → p < length ins → slice_get (ins ++ rest) p ≡ Some net → slice_get ins p ≡ Some net
input_at ins rest p net within at = sym (get_front ins rest p within) ∙ at

behind : {X : Type 0} (xs ys : List X) (p : ℕ) (x : X) → length xs ≤ p → slice_get (xs ++ ys) p ≡ Some x → slice_get ys (p - length xs) ≡ Some x
behind xs ys p x past at =
    let e : p ≡ length xs + (p - length xs) = omega arith in
    sym (get_back xs ys (p - length xs)) ∙ ap (slice_get (xs ++ ys)) (sym e) ∙ at

pub gate_at : (ins : List ℕ) (gs : List (Gate ℕ)) (qs : List ℕ) (p net : ℕ) → length ins ≤ p → p - length ins < length gs → slice_get (ins ++ (map (λ g. g.out) gs ++ qs)) p ≡ Some net
    → (g : Gate ℕ) × (slice_get gs (p - length ins) ≡ Some g) × (g.out ≡ net)
gate_at ins gs qs p net past within at =
    let outs : List ℕ = map (λ g. g.out) gs in
    let here = behind ins (outs ++ qs) p net past at in
    get_map (λ (g : Gate ℕ). g.out) gs (p - length ins) net (input_at outs qs (p - length ins) net (omega (arith, length_map (λ (g : Gate ℕ). g.out) gs)) here)

pub flop_at : (ins : List ℕ) (gs : List (Gate ℕ)) (fs : List (Flop ℕ)) (p net : ℕ) → length ins ≤ p → length gs ≤ p - length ins
    → slice_get (ins ++ (map (λ g. g.out) gs ++ map (λ f. f.q) fs)) p ≡ Some net → (f : Flop ℕ) × (slice_get fs (p - length ins - length gs) ≡ Some f) × (f.q ≡ net)
flop_at ins gs fs p net past beyond at =
    let outs : List ℕ = map (λ g. g.out) gs in
    let qs : List ℕ = map (λ f. f.q) fs in
    let long : length outs ≡ length gs = length_map (λ (g : Gate ℕ). g.out) gs in
    let here = behind ins (outs ++ qs) p net past at in
    let there = behind outs qs (p - length ins) net (omega (arith, long)) here in
    get_map (λ (f : Flop ℕ). f.q) fs (p - length ins - length gs) net (ap (λ k. slice_get qs (p - length ins - k)) (sym long) ∙ there)

-- a table's place for a net, as it is read
place_read : (n : Netlist ℕ) (places : List ℕ) (net p : ℕ) → IsTable n places → net < length (driven n) → p ≡ get_or places net p → slice_get (driven n) p ≡ Some net
place_read n places net p table within read =
    let long : net < length places = omega (arith, table.long) in
    ap (slice_get (driven n)) (get_or_read places net p long read 0) ∙ table.drives net long

pub gate_drives : (m n : Netlist ℕ) (places : List ℕ) (net number p i : ℕ) → m ≡ n → IsTable m places → number ≡ net → net < length (driven n) → p ≡ get_or places number p
    → i ≡ length m.inputs → i ≤ p → p - i < length m.gates → Drives n (Driver.Gate (p - i)) net
gate_drives m n places net number p i same table one within read count past less =
    let at = place_read m places net p table (subst (λ k. net < length (driven k)) (sym same) within) (subst (λ k. p ≡ get_or places k p) one read) in
    subst (λ k. Drives k (Driver.Gate (p - i)) net) same
    (subst (λ k. Drives m (Driver.Gate (p - k)) net) (sym count) (gate_at m.inputs m.gates _ p net (omega (arith, count)) (omega (arith, count)) at))

pub flop_drives : (m n : Netlist ℕ) (places : List ℕ) (net number p i g : ℕ) → m ≡ n → IsTable m places → number ≡ net → net < length (driven n) → p ≡ get_or places number p
    → i ≡ length m.inputs → g ≡ length m.gates → i ≤ p → g ≤ p - i → Drives n (Driver.Flop (p - i - g)) net
flop_drives m n places net number p i g same table one within read count gates past beyond =
    let at = place_read m places net p table (subst (λ k. net < length (driven k)) (sym same) within) (subst (λ k. p ≡ get_or places k p) one read) in
    subst (λ k. Drives k (Driver.Flop (p - i - g)) net) same
    (subst (λ k. Drives m (Driver.Flop (p - k - g)) net) (sym count)
    (subst (λ k. Drives m (Driver.Flop (p - length m.inputs - k)) net) (sym gates) (flop_at m.inputs m.gates m.flops p net (omega (arith, count)) (omega (arith, count, gates)) at)))

-- counts of drivers that stop at 2 say whether each net has one, and which is the first that has not
pub counts_once : (counts driven : List ℕ) (nets : ℕ) → length counts ≡ nets → ((m : ℕ) → m < nets → slice_index counts m ≡ min 2 (times m driven)) → ((m : ℕ) → m < length counts → slice_index counts m ≡ 1)
    → (m : ℕ) → m < nets → times m driven ≡ 1
counts_once counts driven nets long each ones m less = omega (arith, each m less, ones m (omega (arith, long)))

pub counts_few : (counts driven : List ℕ) (nets : ℕ) → length counts ≡ nets → ((m : ℕ) → m < nets → slice_index counts m ≡ min 2 (times m driven)) → ((m : ℕ) → m < length counts → slice_index counts m ≤ 1)
    → (m : ℕ) → m < nets → times m driven ≤ 1
counts_few counts driven nets long each few m less = omega (arith, each m less, few m (omega (arith, long)))

pub counts_two : (counts driven : List ℕ) (nets net : ℕ) → length counts ≡ nets → ((m : ℕ) → m < nets → slice_index counts m ≡ min 2 (times m driven)) → IsFirst (λ m. 2 ≤ slice_index counts m) (length counts) net
    → IsFirst (λ m. 2 ≤ times m driven) nets net
counts_two counts driven nets net long each first = record {
  within = omega (arith, long, first.within);
  here = omega (arith, each net (omega (arith, long, first.within)), first.here);
  before = λ m less two. first.before m less (omega (arith, each m (omega (arith, long, first.within)), two));
}

pub counts_none : (counts driven : List ℕ) (nets net : ℕ) → length counts ≡ nets → ((m : ℕ) → m < nets → slice_index counts m ≡ min 2 (times m driven)) → IsFirst (λ m. slice_index counts m ≡ 0) (length counts) net
    → IsFirst (λ m. times m driven ≡ 0) nets net
counts_none counts driven nets net long each first = record {
  within = omega (arith, long, first.within);
  here = omega (arith, each net (omega (arith, long, first.within)), first.here);
  before = λ m less none. first.before m less (omega (arith, each m (omega (arith, long, first.within)), none));
}

-- where each of so many nets has one driver, what was given is a netlist
pub draft_fits : (nets : ℕ) (n : Netlist ℕ) → IsDraft nets n → ((m : ℕ) → m < nets → times m (driven n) ≡ 1) → IsNetlist n
draft_fits nets n h once =
    let long = length_once nets (driven n) h.drives_nets once in
    record {
      one_driver = λ net less. once net (omega (arith, long));
      drives_nets = subst (λ k. All (λ net. net < k) (driven n)) (sym long) h.drives_nets;
      reads_nets = subst (λ k. All (λ net. net < k) (reads n)) (sym long) h.reads_nets;
      ports = h.ports;
      arities = h.arities;
    }

-- with the places of the drivers that were found
pub draft_table : (nets : ℕ) (n : Netlist ℕ) (places drives : List ℕ) → nets < 2 ^ 32 → IsDraft nets n → drives ≡ driven n → ((m : ℕ) → m < nets → times m drives ≡ 1)
    → length places ≡ nets → ((m : ℕ) → m < nets → slice_get drives (slice_index places m) ≡ Some m) → IsTable n places
draft_table nets n places drives few h same each long at =
    let once : (m : ℕ) → m < nets → times m (driven n) ≡ 1 = λ m less. ap (times m) (sym same) ∙ each m less in
    record {
      netlist = draft_fits nets n h once;
      few = omega (arith, few, long);
      long = omega (arith, long, length_once nets (driven n) h.drives_nets once);
      drives = λ net less. ap (λ k. slice_get k (slice_index places net)) (sym same) ∙ at net (omega (arith, long));
    }

pub draft_long : (nets : ℕ) (n : Netlist ℕ) (drives : List ℕ) → IsDraft nets n → drives ≡ driven n → ((m : ℕ) → m < nets → times m drives ≡ 1) → length (driven n) ≡ nets
draft_long nets n drives h same each = length_once nets (driven n) h.drives_nets (λ m less. ap (times m) (sym same) ∙ each m less)
