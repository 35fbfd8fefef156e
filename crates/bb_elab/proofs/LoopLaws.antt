-- A netlist has one loop at most, and none where its gates have an order.
use Rattle.std.proofs.Common.{arith, ◌≡◌, ◌⊎◌, inl, inr, ℕ, ◌<◌, Bool, List, [], ◌∷◌, length, map, refl, sym, ap, ◌∙◌, subst, get_or, slice_get, Some, slice_index_or}
use Rattle.std.proofs.lemmas.Option.{slice_get-get_or, slice_get_within}
use Rattle.std.proofs.lemmas.List.{get_or-map}
use Rattle.std.specs.Prelude.{Option, None, Result, Ok, Err}
use Rattle.bb_base.specs.Net.{Gate, Netlist}
use Rattle.bb_base.specs.Variables.{bit_of}
use Rattle.bb_base.specs.Named.{Named, IsNamed}
use Rattle.bb_base.specs.Order.{IsLoop, IsCycle, HasOrder}
use Rattle.bb_netlist.proofs.WalkLemmas.{loop_cycles}
use Rattle.bb_base.proofs.CycleLemmas.{no_cycle}
use Rattle.bb_parse.specs.declared.syntax.Module.{Module}
use Rattle.bb_fault.specs.declared.fault.ElabFault.{ElabFault}
use Rattle.bb_fault.specs.Firsts.{on_some}
use Rattle.bb_drive.specs.Nets.{bit_name, bit_text}
use Rattle.bb_meaning.specs.LoopNames.{loop_at, loop_in, IsLoopIn}
use Rattle.bb_scope.specs.Text.{text_fault}
use Rattle.bb_meaning.specs.Outcome.{IsOutcome, IsLooped, loop_fault, net_fault, first_fault, denoted, variables_in, work_in}
use Rattle.bb_drive.specs.NamedOf.{kept}
use Rattle.bb_runs.proofs.Loops.{one_loop_of, cycle_within, driven_once}
use Rattle.bb_runs.proofs.Walks.{order_or_loop_of}
use Rattle.bb_parse.specs.Sound.{IsSoundModule}
use Rattle.bb_meaning.proofs.CountedFault.{nets_first}
use Rattle.bb_elab.proofs.DenotedLaws.{driven-once, nets_counted, denoted-fits}

-- outcomes --------------------------------------------------------------

-- no order where there is a loop
pub no_order : (gates : List (Gate ℕ)) (nets : List ℕ) → IsLoop gates nets → HasOrder gates → ⊥
no_order gates nets l o = no_cycle gates o.0 nets o.1 (loop_cycles gates nets l)

-- two faults of loops are one
one_fault : (own : Bool) (m : Module) (f g : ElabFault) → first_fault own m ≡ None → IsLooped m f → IsLooped m g → f ≡ g
one_fault own m f g fine a b =
    let same : a.nets ≡ b.nets = one_loop_of (denoted m).netlist a.nets b.nets (driven-once own m fine) a.is_loop b.is_loop in
    let faults : Some f ≡ Some g = sym a.fault_is ∙ (ap (loop_fault (variables_in m) (work_in m)) same ∙ b.fault_is) in
    some_same f g faults
  where
    some_same : (f g : ElabFault) → Some f ≡ Some g → f ≡ g
    some_same f g e = cc

-- no answer is none and some
none_or_some : {X : Type 0} (a b : Option ElabFault) (f : ElabFault) → a ≡ b → a ≡ None → b ≡ Some f → X
none_or_some a b f e h k = cc

-- a netlist with an order isn't refused
netlist_or_fault : (own : Bool) (m : Module) (named : Named) (f : ElabFault) → IsOutcome own m (Ok named) → IsOutcome own m (Err f) → ⊥
netlist_or_fault own m named f a (inl b) = none_or_some (first_fault own m) (first_fault own m) f refl a.0 b
netlist_or_fault own m named f a (inr b) = no_order (denoted m).netlist.gates b.1.nets b.1.is_loop (subst (λ n. HasOrder n.netlist.gates) a.1 a.2)

-- two faults of one module are one
fault_or_fault : (own : Bool) (m : Module) (f g : ElabFault) → IsOutcome own m (Err f) → IsOutcome own m (Err g) → f ≡ g
fault_or_fault own m f g (inl a) (inl b) = cc (a, b)
fault_or_fault own m f g (inl a) (inr b) = none_or_some (first_fault own m) (first_fault own m) f refl b.0 a
fault_or_fault own m f g (inr a) (inl b) = none_or_some (first_fault own m) (first_fault own m) g refl a.0 b
fault_or_fault own m f g (inr a) (inr b) = one_fault own m f g a.0 a.1 b.1

-- a module has one outcome
pub one-outcome : (own : Bool) (m : Module) (a b : Result Named ElabFault) → IsOutcome own m a → IsOutcome own m b → a ≡ b
one-outcome own m (Ok x) (Ok y) h k = ap Ok (h.1 ∙ sym k.1)
one-outcome own m (Ok x) (Err f) h k = absurd (netlist_or_fault own m x f h k)
one-outcome own m (Err f) (Ok x) h k = absurd (netlist_or_fault own m x f k h)
one-outcome own m (Err f) (Err g) h k = ap Err (fault_or_fault own m f g h k)

-- the fault by names ----------------------------------------------------

-- the first net of a loop is that of a bit
looped_bit : (own : Bool) (m : Module) (net : ℕ) (more : List ℕ) → first_fault own m ≡ None → IsLoop (denoted m).netlist.gates (net ∷ more)
    → slice_get (kept (variables_in m) (work_in m)) net ≡ Some (get_or (kept (variables_in m) (work_in m)) net 0)
looped_bit own m net more fine loop =
    slice_get-get_or (kept (variables_in m) (work_in m)) net 0
    (omega (arith, cycle_within (denoted m).netlist net more (driven-once own m fine) (loop_cycles (denoted m).netlist.gates (net ∷ more) loop), nets_counted own m fine))

-- the fault of a loop by the names of the netlist that is denoted is the one by its bits
pub loop_named : (own : Bool) (m : Module) (n : Named) (fault : ElabFault) → first_fault own m ≡ None → n ≡ denoted m → IsLoopIn n fault → IsLooped m fault
loop_named own m n fault fine e l = by l.nets (subst (λ (z : Named). IsLoop z.netlist.gates l.nets) e l.is_loop) (ap (λ (z : Named). loop_in z l.nets) (sym e) ∙ l.fault_is)
  where
    by : (nets : List ℕ) → IsLoop (denoted m).netlist.gates nets → loop_in (denoted m) nets ≡ Some fault → IsLooped m fault
    by [] loop names = absurd loop.again
    by (net ∷ more) loop names = record { nets = net ∷ more; is_loop = loop; fault_is = by_bits ∙ names }
      where
        bits : List ℕ
        bits = kept (variables_in m) (work_in m)

        there : slice_get bits net ≡ Some (get_or bits net 0)
        there = looped_bit own m net more fine loop

        name : slice_index_or (map (bit_name 0 (variables_in m)) bits) net (record { variable = 0; place = 0 }) ≡ bit_name 0 (variables_in m) (get_or bits net 0)
        name = get_or-map (bit_name 0 (variables_in m)) bits net 0 (record { variable = 0; place = 0 }) (slice_get_within bits net (get_or bits net 0) there)

        by_bits : loop_fault (variables_in m) (work_in m) (net ∷ more) ≡ loop_in (denoted m) (net ∷ more)
        by_bits =
            ap (λ o. on_some o None (λ b. Some (loop_at (bit_text (variables_in m) b) (length (net ∷ more))))) there
            ∙ ap (λ b. Some (loop_at (bit_of (variables_in m) b) (length (net ∷ more)))) (sym name)

-- the first net of a cycle has a name
pub first_within : (n : Named) (l : Netlist ℕ) (nets : List ℕ) (net : ℕ) → IsNamed n → l ≡ n.netlist → IsCycle l.gates nets → net ≡ get_or nets 0 net → net < length n.names
first_within n l [] net is e c at = absurd c
first_within n l (x ∷ more) net is e c at =
    let within = cycle_within n.netlist x more (driven_once n.netlist is.netlist) (subst (λ (z : Netlist ℕ). IsCycle z.gates (x ∷ more)) e c) in
    omega (arith, within, is.names, at)

-- a module whose only fault is a loop is refused by it
pub refused :
    (own : Bool) (m : Module) (n : Named) (fault : ElabFault) → text_fault own m ≡ None → net_fault (variables_in m) (work_in m) ≡ None → n ≡ denoted m → IsLoopIn n fault → IsOutcome own m (Err fault)
refused own m n fault text nets e l =
    let first : first_fault own m ≡ None = nets_first own m None text nets in
    inr (first, loop_named own m n fault first e l)

-- each module of a text has an outcome ------------------------------------

pub has-outcome : (own : Bool) (m : Module) → IsSoundModule m → (result : Result Named ElabFault) × IsOutcome own m result
has-outcome own m sound = by (first_fault own m) refl
  where
    looped : (fine : first_fault own m ≡ None) (nets : List ℕ) → IsLoop (denoted m).netlist.gates nets → (result : Result Named ElabFault) × IsOutcome own m result
    looped fine [] loop = absurd loop.again
    looped fine (net ∷ more) loop =
        let bit : ℕ = get_or (kept (variables_in m) (work_in m)) net 0 in
        let fault : ElabFault = loop_at (bit_text (variables_in m) bit) (length (net ∷ more)) in
        let names : loop_fault (variables_in m) (work_in m) (net ∷ more) ≡ Some fault =
        ap (λ o. on_some o None (λ b. Some (loop_at (bit_text (variables_in m) b) (length (net ∷ more))))) (looped_bit own m net more fine loop) in
        (Err fault, inr (fine, record { nets = net ∷ more; is_loop = loop; fault_is = names }))

    either : first_fault own m ≡ None → HasOrder (denoted m).netlist.gates ⊎ ((nets : List ℕ) × IsLoop (denoted m).netlist.gates nets) → (result : Result Named ElabFault) × IsOutcome own m result
    either fine (inl order) = (Ok (denoted m), (fine, refl, order))
    either fine (inr loop) = looped fine loop.0 loop.1

    by : (o : Option ElabFault) → first_fault own m ≡ o → (result : Result Named ElabFault) × IsOutcome own m result
    by None e = either e (order_or_loop_of (denoted m).netlist (denoted-fits own m e sound).netlist)
    by (Some fault) e = (Err fault, inl e)
