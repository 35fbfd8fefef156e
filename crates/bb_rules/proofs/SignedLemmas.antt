-- A plan has some list of signatures, where lines start somewhere and sessions list registers that may compact.
use Rattle.std.proofs.Common.{◌≡◌, ℕ, ◌+◌, ◌<◌, ◌^◌, ◌==◌, ◌⊎◌, inl, inr, cond, take, Bool, true, false, List, [], ◌∷◌, length, map, refl, ap, ◌∙◌, arith, slice_get, Some, Contains}
use Rattle.std.specs.List.{AllByRecursion, AllZip, flat_map, range_with_len}
use Rattle.std.proofs.lemmas.Bool.Decides.{nat_tests}
use Rattle.bb_base.specs.Net.{Gate, Netlist, IsNetlist}
use Rattle.bb_base.specs.Run.{by_op}
use Rattle.bb_base.specs.Order.{HasOrder}
use Rattle.bb_base.proofs.Contained.{here, there, either, none_in, contains_at, place_of, by_place}
use Rattle.bb_base.specs.Bits.{from_bits}
use Rattle.bb_terms.specs.Register.{state_after}
use Rattle.bb_terms.specs.Signature.{signature}
use Rattle.bb_terms.specs.Paths.{Start, AtNet, Behind}
use Rattle.bb_terms.specs.Function.{IsBitOf}
use Rattle.bb_segment.proofs.ValueLemmas.{some_bit}
use Rattle.bb_terms.specs.declared.kind.Kind.{Kind}
use Rattle.bb_terms.specs.declared.kind.Kind.TheVariants.{Input, State, Split, Cut, Watch, Output}
use Rattle.bb_terms.specs.declared.plan.Cell.{Cell}
use Rattle.bb_terms.specs.Kinds.{is_observer, only_generates}
use Rattle.bb_terms.specs.Plan.{PlanValue, RegisterValue, IsCell, has_input}
use Rattle.bb_terms.specs.Lines.{is_stop, d_of, StartsBehind, IsStart, IsStartOf}
use Rattle.bb_terms.specs.Rules.{Kinds, Sessions, Holds, MayCompact, MayStand, IsGateNet}
use Rattle.bb_terms.specs.Signatures.{code_at, IsLineBit, IsSigned, AreSignatures}
use Rattle.bb_rules.proofs.CellLemmas.{cell_at}
use Rattle.bb_terms.proofs.NetLemmas.{one_gate}
use Rattle.bb_rules.proofs.SessionLemmas.{observing, none_passes}

-- behind the first of these gates that drives the net, and at the net where none does
behind_driver : List (Gate ℕ) → ℕ → Start ℕ
behind_driver [] net = AtNet net
behind_driver (g ∷ gates) net = cond (g.out == net) (Behind g) (behind_driver gates net)

Driven : List (Gate ℕ) → ℕ → Type 0
Driven gates net = (g : Gate ℕ) × Contains gates g × (g.out ≡ net) × (behind_driver gates net ≡ Behind g)

driven_by : (gates : List (Gate ℕ)) (net : ℕ) (g : Gate ℕ) → Contains gates g → g.out ≡ net → Driven gates net
unfolding Driven behind_driver
driven_by [] net g c out = absurd (none_in g c)
driven_by (f ∷ gates) net g c out = by (f.out == net) refl (either f gates g c) (λ c. driven_by gates net g c out)
  where
    by : (b : Bool) → (f.out == net) ≡ b → (f ≡ g) ⊎ Contains gates g → (Contains gates g → Driven gates net) → (h : Gate ℕ) × Contains (f ∷ gates) h × (h.out ≡ net) × (cond (f.out == net) (Behind f) (behind_driver gates net) ≡ Behind h)
    by true same stands rest = (f, here f gates, grind (arith, nat_tests, same), ap (λ b. cond b (Behind f) (behind_driver gates net)) same)
    by false other (inl e) rest = absurd (let same : f.out ≡ net = ap (λ (g : Gate ℕ). g.out) e ∙ out in grind (arith, nat_tests, other, same))
    by false other (inr c) rest = let more = rest c in (more.0, there f gates more.0 more.1, more.2, ap (λ b. cond b (Behind f) (behind_driver gates net)) other ∙ more.3)

-- where a cell's walk starts
start_of : Netlist ℕ → Kind → ℕ → Start ℕ
start_of a Input net = AtNet net
start_of a State net = AtNet (d_of a.flops net)
start_of a Split net = AtNet (d_of a.flops net)
start_of a Cut net = behind_driver a.gates net
start_of a Watch net = AtNet (d_of a.flops net)
start_of a Output net = behind_driver a.gates net

start_is : (a : Netlist ℕ) (kind : Kind) (net : ℕ) → is_observer kind ≡ true → MayStand a kind net → IsStartOf a kind net (start_of a kind net)
unfolding start_of Driven
start_is a kind net observes may = by kind observes may
  where
    behind : IsGateNet a net → StartsBehind a net (behind_driver a.gates net)
    behind g = driven_by a.gates net g.1.0 (contains_at a.gates g.0 g.1.0 g.1.1) g.1.2

    by : (kind : Kind) → is_observer kind ≡ true → MayStand a kind net → IsStartOf a kind net (start_of a kind net)
    by Input observes may = absurd (cc observes)
    by State observes may = refl
    by Split observes may = refl
    by Cut observes may = behind may
    by Watch observes may = refl
    by Output observes may = behind may.0

module _ (a : Netlist ℕ) (p : PlanValue) (fits : IsNetlist a) (ordered : HasOrder a.gates) (kinds : Holds a p Kinds) where
  some_line_bit : (state : ℕ) (start : Start ℕ) → (bit : Bool) × IsBitOf by_op a.gates (is_stop a p) start (code_at p state) bit
  some_line_bit state start = some_bit by_op a.gates (is_stop a p) (code_at p state) ordered.0 ordered.1 start (λ f g c d same. one_gate a f g fits c d same)

  line_starts : (r : ℕ) (g : RegisterValue) (c : Cell) → slice_get p.registers r ≡ Some g → has_input g ≡ false → Contains g.cells c → IsStart a c (start_of a c.kind c.net)
  line_starts r g c at none stands =
      let there = place_of g.cells c stands in
      let number : ℕ = length (flat_map (λ (h : RegisterValue). h.cells) (take r p.registers)) + there.0 in
      let cell : IsCell p number r c = record { register = g; stands = at; place = there.0; at = there.1; number = refl } in
      start_is a c.kind c.net (observing c.kind (none_passes (λ (d : Cell). only_generates d.kind) g.cells there.0 c none there.1)) (kinds number c (cell_at p number r c cell))

  some_signed : (r : ℕ) → MayCompact p r → (written : ℕ) × IsSigned a p r written
  some_signed r may = (
    from_bits (signature (length may.0.cells) may.0.mask (map (λ t. map (bits t) may.0.cells) (range_with_len 0 (2 ^ p.degree)))),
    (may.0, may.1, record { bits = bits; lines = lines; is = refl }),
  )
    where
      bits : ℕ → Cell → Bool
      bits t c = (some_line_bit (state_after p.degree p.mask t) (start_of a c.kind c.net)).0

      lines : (t : ℕ) (c : Cell) → t < 2 ^ p.degree → Contains may.0.cells c → IsLineBit a p (state_after p.degree p.mask t) c (bits t c)
      lines t c less stands = record {
        start = start_of a c.kind c.net;
        begins = line_starts r may.0 c may.1 may.2 stands;
        computes = (some_line_bit (state_after p.degree p.mask t) (start_of a c.kind c.net)).1;
      }

  some_session : (session : List ℕ) → AllByRecursion (MayCompact p) session → (xs : List ℕ) × AllZip (IsSigned a p) session xs
  some_session [] may = ([], tt)
  some_session (r ∷ session) may = let first = some_signed r may.0 in let rest = some_session session may.1 in (first.0 ∷ rest.0, (first.1, rest.1))

  some_list : (sessions : List (List ℕ)) → AllByRecursion (λ session. AllByRecursion (MayCompact p) session) sessions → (xs : List (List ℕ)) × AllZip (λ session written. AllZip (IsSigned a p) session written) sessions xs
  some_list [] may = ([], tt)
  some_list (session ∷ sessions) may = let first = some_session session may.0 in let rest = some_list sessions may.1 in (first.0 ∷ rest.0, (first.1, rest.1))

  pub some_signatures : Holds a p Sessions → (xs : List (List ℕ)) × AreSignatures a p xs
  some_signatures sessions = some_list p.sessions (by_place (λ session. AllByRecursion (MayCompact p) session) p.sessions (λ s session at. (sessions s session at).compacting))
