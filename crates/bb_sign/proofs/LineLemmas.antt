-- The bits of lines at a state, where nets have theirs.
use Rattle.std.proofs.Common.{◌≡◌, ℕ, ◌<◌, Bool, List, [], ◌∷◌, length, map, refl, sym, ap, ◌∙◌, slice_get, get_or, Some}
use Rattle.std.proofs.lemmas.Option.{slice_get-get_or}
use Rattle.std.specs.List.{AllByRecursion, AllZip}
use Rattle.std.specs.Option.{option_map}
use Rattle.bb_base.proofs.Lists.{get_some}
use Rattle.bb_base.specs.Net.{Gate, Netlist, IsNetlist}
use Rattle.bb_base.specs.Run.{by_op}
use Rattle.bb_base.specs.Order.{HasOrder}
use Rattle.bb_terms.specs.Register.{state_after}
use Rattle.bb_terms.specs.Paths.{Start, AtNet, Behind}
use Rattle.bb_terms.specs.Support.{start_in, StartExists}
use Rattle.bb_terms.specs.declared.start.Start.{Start as CodeStart}
use Rattle.bb_terms.specs.declared.start.Start.TheVariants.{Net, Gate as GateNumber}
use Rattle.bb_terms.specs.declared.plan.Cell.{Cell}
use Rattle.bb_terms.specs.Plan.{PlanValue}
use Rattle.bb_terms.specs.Rules.{Fits}
use Rattle.bb_terms.specs.Signatures.{IsLineBit}
use Rattle.bb_terms.proofs.StopLemmas.{leaf_within}
use Rattle.bb_rules.proofs.SignatureLemmas.{one_line_bit}
use Rattle.bb_sign.specs.Bits.{AreBitsAt}
use Rattle.bb_sign.specs.Compactors.{IsLineStart, line_bit_in, start_bit}

start_there : (a : Netlist ℕ) (start : CodeStart) → StartExists a start → (from : Start ℕ) × (start_in a.gates start ≡ Some from)
start_there a (Net net) h = (AtNet net, refl)
start_there a (GateNumber number) h = let g = get_some a.gates number h in (Behind g.0, ap (option_map Behind) g.1)

-- the bit at a line's start is the line's
pub line_is : (a : Netlist ℕ) (p : PlanValue) (state : ℕ) (v : ℕ → Bool) (c : Cell) (start : CodeStart) → IsNetlist a → Fits a c → AreBitsAt a p state v → IsLineStart a c start → IsLineBit a p state c (start_bit a.gates v start)
line_is a p state v c start fits may bits h =
    let from = start_there a start h.exists in
    let begins = h.begins from.0 from.1 in
    record {
      start = from.0;
      begins = begins;
      computes = record {
        w = v;
        assigns = record {
          leaves = λ net leaf. bits.coded net (leaf_within a p c net fits may (record { start = from.0; begins = begins; leaf = leaf })) leaf.1;
          passed = λ g stands lies. bits.met g stands lies.1;
        };
        is = sym (ap (line_bit_in v) from.1);
      };
    }

-- the bits of a register's lines are those of its signature
pub lines_are : (a : Netlist ℕ) (p : PlanValue) (t : ℕ) (v : ℕ → Bool) (bits : Cell → Bool) → IsNetlist a → HasOrder a.gates → AreBitsAt a p (state_after p.degree p.mask t) v
    → (cells : List Cell) (starts : List CodeStart) → AllByRecursion (λ c. Fits a c × IsLineBit a p (state_after p.degree p.mask t) c (bits c)) cells → AllZip (IsLineStart a) cells starts
    → map (start_bit a.gates v) starts ≡ map bits cells
lines_are a p t v bits fits ordered settled [] [] all zip = refl
lines_are a p t v bits fits ordered settled [] (s ∷ starts) all zip = absurd zip
lines_are a p t v bits fits ordered settled (c ∷ cells) [] all zip = absurd zip
lines_are a p t v bits fits ordered settled (c ∷ cells) (s ∷ starts) all zip =
    let first = one_line_bit a p fits ordered (state_after p.degree p.mask t) c (start_bit a.gates v s) (bits c) (line_is a p (state_after p.degree p.mask t) v c s fits all.0.0 settled zip.0) all.0.1 in
    let rest = lines_are a p t v bits fits ordered settled cells starts all.1 zip.1 in
    λ i. first i ∷ rest i

-- the bit behind a gate by its number
pub gate_bit : (a : Netlist ℕ) (v : ℕ → Bool) (gates : List (Gate ℕ)) (number : ℕ) (g : Gate ℕ) (start : CodeStart) → gates ≡ a.gates → number < length gates → g ≡ get_or gates number g → start ≡ GateNumber number → by_op g (map v g.ins) ≡ start_bit a.gates v start
gate_bit a v gates number g start same less is e =
    let there : slice_get a.gates number ≡ Some g = ap (λ (gs : List (Gate ℕ)). slice_get gs number) (sym same) ∙ (slice_get-get_or gates number g less ∙ ap Some (sym is)) in
    sym (ap (start_bit a.gates v) e ∙ ap (λ o. line_bit_in v (option_map Behind o)) there)
