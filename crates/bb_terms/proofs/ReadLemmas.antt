-- What gates of a netlist read and drive.
use Rattle.std.proofs.Common.{arith, ◌≡◌, ℕ, ◌<◌, ◌^◌, Bool, true, false, List, [], length, refl, sym, ap, ◌∙◌, subst, get_or, slice_get, Some, Contains}
use Rattle.std.specs.Prelude.{All}
use Rattle.std.specs.List.{list_all}
use Rattle.std.proofs.lemmas.Option.{slice_get_within, slice_get-get_or}
use Rattle.std.proofs.lemmas.List.Elements.{All-contains}
use Rattle.bb_base.specs.declared.netlist.Driver.{Driver}
use Rattle.bb_base.specs.declared.netlist.Driver.TheVariants.{Input, Gate as GateDriver, Flop}
use Rattle.bb_base.specs.Net.{Gate, Netlist, driven, IsNetlist}
use Rattle.bb_base.specs.Drivers.{Drives}
use Rattle.bb_base.specs.Order.{drivers, Reads}
use Rattle.bb_base.proofs.GateLemmas.{gates_fit, input_undriven, flop_undriven}
use Rattle.bb_terms.specs.Support.{stop_at}
use Rattle.std.proofs.lemmas.Grind.{common_steps}
use Rattle.bb_base.proofs.Contained.{place_of}
use Rattle.bb_terms.proofs.FunctionLemmas.{passes_driver}

-- no gate drives a net without drivers
pub no_gate : (net : ℕ) (gates : List (Gate ℕ)) (g : Gate ℕ) → drivers gates net ≡ [] → Contains gates g → g.out ≡ net → ⊥
no_gate net gates g none c out =
    let never : false ≡ true = passes_driver (λ g. false) net gates g (ap (λ (fs : List (Gate ℕ)). list_all (λ f. false) fs) none) c out in
    absurd (cc never)

-- nor a net with another driver
pub by_other : (n : Netlist ℕ) (d : Driver) (net : ℕ) → IsNetlist n → net < length (driven n) → Drives n d net → ((k : ℕ) → d ≡ GateDriver k → ⊥) → drivers n.gates net ≡ []
by_other n (Input i) net is within drives other = input_undriven n i net is within drives
by_other n (GateDriver k) net is within drives other = absurd (other k refl)
by_other n (Flop i) net is within drives other = flop_undriven n i net drives.0 is within drives.1 drives.2

pub reads_none : (n : Netlist ℕ) (d : Driver) (net input : ℕ) → IsNetlist n → net < length (driven n) → Drives n d net → ((k : ℕ) → d ≡ GateDriver k → ⊥) → Reads n.gates net input → ⊥
reads_none n d net input is within drives other r = no_gate net n.gates r.gate (by_other n d net is within drives other) r.stands r.drives

-- a net has one gate at most
pub gate_one : (n : Netlist ℕ) (h : ℕ) (f g : Gate ℕ) → IsNetlist n → length (driven n) < 2 ^ 32 → slice_get n.gates h ≡ Some g → Contains n.gates f → f.out ≡ g.out → f ≡ g
gate_one n h f g is few at c same =
    let there = place_of n.gates f c in
    let place : there.0 ≡ h = (gates_fit n is few).apart there.0 h f g there.1 at same in
    let both : Some f ≡ Some g = sym there.1 ∙ (ap (slice_get n.gates) place ∙ at) in
    cc both

-- what a gate reads is a net
pub input_within : (n : Netlist ℕ) (g : Gate ℕ) (m : ℕ) → IsNetlist n → length (driven n) < 2 ^ 32 → Contains n.gates g → Contains g.ins m → m < length (driven n)
input_within n g m is few c i = All-contains (λ k. k < length (driven n)) g.ins m (All-contains (λ (f : Gate ℕ). All (λ k. k < length (driven n)) f.ins) n.gates g (gates_fit n is few).reads c) i

-- what is read behind a gate's output is what it reads
pub reads_of : (n : Netlist ℕ) (h net input : ℕ) (g : Gate ℕ) → IsNetlist n → length (driven n) < 2 ^ 32 → slice_get n.gates h ≡ Some g → g.out ≡ net → Reads n.gates net input → Contains g.ins input
reads_of n h net input g is few at out r = subst (λ (f : Gate ℕ). Contains f.ins input) (gate_one n h r.gate g is few at r.stands (r.drives ∙ sym out)) r.reads

-- the gate that an index gives is the one that drives the net
pub gate_driver :
    (n : Netlist ℕ) (xs : List (Gate ℕ)) (h net : ℕ) (g : Gate ℕ) → Drives n (GateDriver h) net → xs ≡ n.gates → g ≡ get_or xs h g → (slice_get n.gates h ≡ Some g) × (g.out ≡ net)
gate_driver n xs h net g d same is =
    let less = slice_get_within n.gates h d.0 d.1 in
    let at : slice_get n.gates h ≡ Some g = slice_get-get_or n.gates h g less ∙ ap Some (sym (is ∙ ap (λ ys. get_or ys h g) same)) in
    let both : Some d.0 ≡ Some g = sym d.1 ∙ at in
    let one : d.0 ≡ g = cc both in
    (at, sym (ap (λ (f : Gate ℕ). f.out) one) ∙ d.2)

pub no_stop : (stops : List Bool) (net place : ℕ) → place ≡ net → net < length stops → get_or stops place false ≡ false → stop_at stops net ≡ false
no_stop stops net place is less e = let same : get_or stops place false ≡ get_or stops net false = ap (λ k. get_or stops k false) is in grind (arith, common_steps, same, e, less)
