-- What compacts and what generates in a session.
use Rattle.std.proofs.Common.{◌≡◌, ℕ, zero, suc, ◌||◌, nat_eq, Bool, true, false, List, [], ◌∷◌, refl, sym, ap, subst, ◌∙◌, arith, slice_get, Some, Contains}
use Rattle.std.proofs.lemmas.Bool.Decides.{nat_tests}
use Rattle.std.proofs.lemmas.Map.Views.{Contains-from_any}
use Rattle.std.specs.List.{list_any}
use Rattle.bb_base.specs.Net.{Netlist, IsNetlist}
use Rattle.bb_base.proofs.Contained.{of_all}
use Rattle.bb_terms.specs.declared.kind.Kind.{Kind}
use Rattle.bb_terms.specs.declared.kind.Kind.TheVariants.{Input, State, Split, Cut, Watch, Output}
use Rattle.bb_terms.specs.declared.plan.Cell.{Cell}
use Rattle.bb_terms.specs.Kinds.{is_source, is_observer, only_generates}
use Rattle.bb_terms.specs.Plan.{PlanValue, IsCell, has_input, lists_register, compacts}
use Rattle.bb_terms.specs.Lines.{IsLeafOf}
use Rattle.bb_terms.specs.Rules.{Kinds, Served, Sessions, Conflicts, Holds, MayCompact}
use Rattle.bb_terms.specs.Sources.{IsGenerated}
use Rattle.bb_rules.proofs.CellLemmas.{cell_at}
use Rattle.bb_rules.proofs.SourceLemmas.{in_register}
use Rattle.bb_terms.proofs.StopLemmas.{leaf_within, source_at}

listed : (r : ℕ) (session : List ℕ) → lists_register r session ≡ true → Contains session r
listed r session h = Contains-from_any {eq = nat_eq} (λ x y e. grind (arith, nat_tests, e)) r session h

-- the session's list has the register
pub compacting : (sessions : List (List ℕ)) (r s : ℕ) → compacts sessions r s ≡ true → (session : List ℕ) × (slice_get sessions s ≡ Some session) × Contains session r
compacting [] r s h = absurd (cc h)
compacting (session ∷ sessions) r zero h = (session, refl, listed r session h)
compacting (session ∷ sessions) r (suc s) h = compacting sessions r s h

pub none_passes : {X : Type 0} (test : X → Bool) (xs : List X) (k : ℕ) (x : X) → list_any test xs ≡ false → slice_get xs k ≡ Some x → test x ≡ false
none_passes test [] k x h at = absurd (cc at)
none_passes test (y ∷ xs) zero x h at = let same : y ≡ x = cc at in ap test (sym same) ∙ first_false (test y) (list_any test xs) h
  where
    first_false : (a b : Bool) → (a || b) ≡ false → a ≡ false
    first_false true b h = h
    first_false false b h = refl
none_passes test (y ∷ xs) (suc k) x h at = none_passes test xs k x (second_false (test y) (list_any test xs) h) at
  where
    second_false : (a b : Bool) → (a || b) ≡ false → b ≡ false
    second_false true b h = absurd (cc h)
    second_false false b h = h

pub observing : (kind : Kind) → only_generates kind ≡ false → is_observer kind ≡ true
observing Input h = absurd (cc h)
observing State h = refl
observing Split h = absurd (cc h)
observing Cut h = refl
observing Watch h = refl
observing Output h = refl

-- each cell of a register that compacts observes
pub observes : (a : Netlist ℕ) (p : PlanValue) (s r i : ℕ) (c : Cell) → Holds a p Sessions → compacts p.sessions r s ≡ true → IsCell p i r c → is_observer c.kind ≡ true
observes a p s r i c sessions h cell =
    let session = compacting p.sessions r s h in
    let may : MayCompact p r = of_all (MayCompact p) session.0 r (sessions s session.0 session.1).compacting session.2 in
    let both : Some may.0 ≡ Some cell.register = sym may.1 ∙ cell.stands in
    let same : may.0 ≡ cell.register = cc both in
    observing c.kind (none_passes (λ (d : Cell). only_generates d.kind) cell.register.cells cell.place c (ap has_input (sym same) ∙ may.2) cell.at)

-- no register that compacts holds a leaf of a line compacting there
pub apart : (a : Netlist ℕ) (p : PlanValue) (s r i q j : ℕ) (c source : Cell) → Holds a p Conflicts → compacts p.sessions r s ≡ true → IsCell p i r c → is_observer c.kind ≡ true
    → IsCell p j q source → is_source source.kind ≡ true → IsLeafOf a p c source.net → compacts p.sessions q s ≡ false
apart a p s r i q j c source conflicts h cell observes at generates leaf = by (compacts p.sessions q s) refl
  where
    by : (b : Bool) → compacts p.sessions q s ≡ b → b ≡ false
    by false k = refl
    by true k =
        let session = compacting p.sessions r s h in
        let other = compacting p.sessions q s k in
        let both : Some session.0 ≡ Some other.0 = sym session.1 ∙ other.1 in
        let same : session.0 ≡ other.0 = cc both in
        absurd (conflicts s session.0 session.1 r q i j c source session.2 (subst (λ (x : List ℕ). Contains x q) (sym same) other.2) cell observes at generates leaf)

-- so each leaf's source cell stands in a register that generates
pub generated : (a : Netlist ℕ) (p : PlanValue) (s r i net : ℕ) (c : Cell) → IsNetlist a → Holds a p Kinds → Holds a p Served → Holds a p Sessions → Holds a p Conflicts
    → compacts p.sessions r s ≡ true → IsCell p i r c → IsLeafOf a p c net → IsGenerated p s net
generated a p s r i net c fits kinds served sessions conflicts h cell leaf =
    let within = leaf_within a p c net fits (kinds i c (cell_at p i r c cell)) leaf in
    let at = source_at a p net fits served within leaf.leaf.1 in
    let in_one = in_register p at.0 at.1.source at.1.stands in
    record {
      register = in_one.0;
      number = at.0;
      source = at.1.source;
      stands = in_one.1;
      generates = at.1.generates;
      on = at.1.on;
      apart = apart a p s r i in_one.0 at.0 c at.1.source conflicts h cell (observes a p s r i c sessions h cell) in_one.1 at.1.generates (subst (IsLeafOf a p c) (sym at.1.on) leaf);
    }
