use Rattle.std.proofs.Common.{arith, ◌≡◌, ℕ, ◌+◌, ◌<◌, ◌==◌, List, length, Bool, true, false, refl, sym, ap, subst, ◌∙◌, Some, slice_get, slice_index, get_or}
use Rattle.std.specs.Prelude.{slice_set}
use Rattle.std.proofs.lemmas.Bool.Decides.{nat_tests}
use Rattle.std.proofs.lemmas.Grind.{common_steps}
use Rattle.std.proofs.lemmas.Option.{slice_get-get_or}
use Rattle.bb_terms.specs.Kinds.{is_source}
use Rattle.bb_plan.specs.declared.chain.Link.{Link}
use Rattle.bb_plan.specs.Chain.{AreOnNets, HaveOneSource}
use Rattle.bb_plan.proofs.sources.note_sources.Goals as goal
use Rattle.bb_plan.proofs.sources.note_sources.Goals.{then-is_source, else-is_source}

AreNoted : List Link → ℕ → List ℕ → Type 0
AreNoted links n table = (i : ℕ) (k : Link) → i < n → slice_get links i ≡ Some k → is_source k.cell.kind ≡ true → slice_index table k.cell.net ≡ i

-- one more cell
noted_step : (links : List Link) (old new : List ℕ) (n place : ℕ) (l : Link) → HaveOneSource links → AreOnNets (length old) links → n < length links → l ≡ get_or links n l → is_source l.cell.kind ≡ true → place ≡ l.cell.net
    → new ≡ slice_set old place n → AreNoted links n old → AreNoted links (n + 1) new
unfolding AreNoted
noted_step links old new n place l once on less is source same set before i k few at other = by (i == n) refl
  where
    here : slice_get links n ≡ Some l
    here = slice_get-get_or links n l less ∙ ap Some (sym is)

    by : (b : Bool) → (i == n) ≡ b → slice_index new k.cell.net ≡ i
    by true e =
        let number : i ≡ n = grind (arith, nat_tests, e) in
        let both : Some k ≡ Some l = sym at ∙ (ap (slice_get links) number ∙ here) in
        let one : k ≡ l = cc both in
        let net : k.cell.net ≡ place = ap (λ (x : Link). x.cell.net) one ∙ sym same in
        let inside = on i k at in
        grind (arith, common_steps, set, net, inside, number)
    by false e =
        let low : i < n = grind (arith, nat_tests, e, few) in
        let apart : (k.cell.net == place) ≡ false = differ (k.cell.net == place) refl (λ net. once i n k l at here other source (net ∙ same)) low in
        let old_is = before i k low at other in
        grind (arith, common_steps, nat_tests, set, apart, old_is)
      where
        differ : (b : Bool) → (k.cell.net == place) ≡ b → (k.cell.net ≡ place → i ≡ n) → i < n → b ≡ false
        differ false e one low = refl
        differ true e one low = let net : k.cell.net ≡ place = grind (arith, nat_tests, e) in let number = one net in absurd (omega (arith, number, low))

noted_same : (links : List Link) (old : List ℕ) (n : ℕ) (l : Link) → n < length links → l ≡ get_or links n l → is_source l.cell.kind ≡ false → AreNoted links n old → AreNoted links (n + 1) old
unfolding AreNoted
noted_same links old n l less is none before i k few at other = by (i == n) refl
  where
    by : (b : Bool) → (i == n) ≡ b → slice_index old k.cell.net ≡ i
    by true e =
        let number : i ≡ n = grind (arith, nat_tests, e) in
        let both : Some k ≡ Some l = sym at ∙ (ap (slice_get links) number ∙ (slice_get-get_or links n l less ∙ ap Some (sym is))) in
        let one : k ≡ l = cc both in
        let never : true ≡ false = sym other ∙ (ap (λ (x : Link). is_source x.cell.kind) one ∙ none) in
        absurd (cc never)
    by false e = before i k (grind (arith, nat_tests, e, few)) at other

pub links-preserved : goal.links-preserved
unfolding AreNoted
links-preserved c = elim c.if-is_source.branch [
  | then-is_source w ↦
      let long = c.if-is_source.auto.sources ∙ c.links.invariant.long in
      record {
        long = long;
        each = noted_step c.args.links.now c.links.sources c.if-is_source.sources c.links.number _ c.index-links-number.result c.requires.one
            (λ i l at. let inside = c.requires.within i l at in let whole = c.links.invariant.long in omega (arith, inside, whole))
            c.links-test.true c.index-links-number.is (sym (w.if-is_source.ensures ∙ ap (λ (k : Link). is_source k.cell.kind) c.link.view_is)) (ap (λ (k : Link). k.cell.net) c.link.view_is) w.sources-is c.links.invariant.each;
      }
  | else-is_source w ↦
      let long = c.if-is_source.auto.sources ∙ c.links.invariant.long in
      record {
        long = long;
        each = subst (AreNoted c.args.links.now (c.links.number + 1)) (sym w.sources-is)
            (noted_same c.args.links.now c.links.sources c.links.number c.index-links-number.result c.links-test.true c.index-links-number.is (sym (w.if-is_source.ensures ∙ ap (λ (k : Link). is_source k.cell.kind) c.link.view_is)) c.links.invariant.each);
      }
]
