-- Files have one first fault at most, and files that pass have none.
use Rattle.std.proofs.Common.{arith, ◌≡◌, ◌↔◌, inl, inr, ℕ, suc, ◌+◌, ◌-◌, ◌<◌, ◌^◌, nat_lt, Bool, true, false, List, [], ◌∷◌, length, map, take, min, Some, slice_get, refl, sym, ap, subst, ◌∙◌, Contains}
use Rattle.std.proofs.lemmas.Bool.Decides.{nat_tests}
use Rattle.bb_base.specs.Places.{IsFirstWrong}
use Rattle.bb_base.specs.Variables.{ports_of}
use Rattle.bb_base.specs.declared.variable.BitName.{BitName}
use Rattle.bb_base.specs.Named.{Named, IsNamed, name_of_net}
use Rattle.bb_net.specs.Sites.{Site, Sited, site_of, site_of_bit, sited}
use Rattle.bb_terms.specs.Rules.{Frame, Registers, Kinds, Apart, Served, Pure, Sessions, Compacted, Room, Columns, Widths, Conflicts, Codes, Period, IsFrame}
use Rattle.bb_terms.specs.Valid.{ValidValue}
use Rattle.bb_rules.proofs.RuleLemmas.{never_both, one_failure}
use Rattle.bb_rules.proofs.SegmentLemmas.{one_segments}
use Rattle.bb_rules.proofs.SignatureLemmas.{one_signatures}
use Rattle.bb_written.specs.Written.{written}
use Rattle.bb_normal.specs.Mirrors.{Mirrors}
use Rattle.bb_forms.specs.declared.signature.Signature.{Signature}
use Rattle.bb_forms.specs.CertificateText.{CertificateValue}
use Rattle.bb_audit.specs.Audited.{Audited}
use Rattle.bb_audit.specs.Certified.{IsFirstApart, ListsSegments, FirstDiffersIn, line_cells, segment_cells, IsFirstWithoutDuals, HaveDuals}
use Rattle.bb_alike.specs.Alike.{HasFrontOf, Feeding, Outside, Through, Held, Feeds, IsFedAlike, NetsAgree, NetlistsDifferAt}
use Rattle.bb_audit.specs.Signed.{values_of, AreSessionSignatures}
use Rattle.bb_audit.specs.Passing.{AuditRule, Planned, Segments, Duals, Drivers, Signatures, audit_number, IsPlanWithSegments, FilesMeet, AuditPasses}
use Rattle.bb_audit.specs.Faults.{FailsFirstAt, IsAuditFault}
use Rattle.bb_alike.proofs.FeedLemmas.{some_feeding, fed_site}
use Rattle.bb_audit.proofs.ListedLemmas.{same_sessions}
use Rattle.bb_audit.proofs.FrontLemmas.{clock_bit}
use Rattle.bb_audit.proofs.NumberingLemmas.{one_names}

-- a fact holds first at one place
one_least : (P : ℕ → Type 0) (m n : ℕ) → P m → P n → ((i : ℕ) → i < m → P i → ⊥) → ((i : ℕ) → i < n → P i → ⊥) → m ≡ n
one_least P m n at there none never = by (nat_lt m n) refl (nat_lt n m) refl
  where
    by : (b : Bool) → nat_lt m n ≡ b → (c : Bool) → nat_lt n m ≡ c → m ≡ n
    by true e c f = absurd (never m (grind (arith, nat_tests, e)) at)
    by false e true f = absurd (none n (grind (arith, nat_tests, f)) there)
    by false e false f = grind (arith, nat_tests, e, f)

one_apart : {X : Type 0} (xs ys : List X) (m n : ℕ) → IsFirstApart xs ys m → IsFirstApart xs ys n → m ≡ n
one_apart xs ys m n h k = one_least (λ i. slice_get xs i ≡ slice_get ys i → ⊥) m n h.apart k.apart (λ i less other. other (h.before i less)) (λ i less other. other (k.before i less))

one_wrong : {X : Type 0} (xs : List X) (P : ℕ → X → Type 0) (m n : ℕ) → IsFirstWrong xs P m → IsFirstWrong xs P n → m ≡ n
one_wrong {X} xs P m n h k =
    one_least (λ i. (x : X) × (slice_get xs i ≡ Some x) × (P i x → ⊥)) m n (h.item, h.stands, h.wrong) (k.item, k.stands, k.wrong) (λ i less w. w.2 (h.before i w.0 less w.1)) (λ i less w. w.2 (k.before i w.0 less w.1))

-- rule 15
one_line : (valid : ValidValue) (c : CertificateValue) (x y : ℕ) → FirstDiffersIn valid c x → FirstDiffersIn valid c y → x ≡ y
one_line valid c x y (inl p) (inl q) = p.0 ∙ sym q.0
one_line valid c x y (inl p) (inr q) = absurd (p.1 q.0)
one_line valid c x y (inr p) (inl q) = absurd (q.1 p.0)
one_line valid c x y (inr p) (inr q) =
    let same = one_apart (map line_cells c.segments) (map segment_cells valid.segments) p.1.0 q.1.0 p.1.2 q.1.2 in
    p.1.1 ∙ ap (λ k. 3 + k) same ∙ sym q.1.1

no_line : (valid : ValidValue) (c : CertificateValue) (x : ℕ) → ListsSegments valid c → FirstDiffersIn valid c x → ⊥
no_line valid c x lists (inl p) = p.1 lists.period
no_line valid c x lists (inr p) = p.1.2.apart (ap (λ ks. slice_get ks p.1.0) lists.cells)

one_valid : (f : Audited) (v w : ValidValue) → IsPlanWithSegments f v → IsPlanWithSegments f w → v ≡ w
one_valid f v w hv hw = one_segments f.original.netlist v w hv.valid_for hw.valid_for (hv.plan ∙ sym hw.plan)

-- rule 16
one_observer : (f : Audited) (x y : ℕ) → IsFirstWithoutDuals f.plan f.certificate.segments x → IsFirstWithoutDuals f.plan f.certificate.segments y → x ≡ y
one_observer f x y h k =
    let place = one_wrong f.certificate.segments (λ i line. HaveDuals f.plan line.pairs) h.place k.place h.first k.first in
    let both : Some h.first.item ≡ Some k.first.item = sym h.first.stands ∙ ap (slice_get f.certificate.segments) place ∙ k.first.stands in
    let item : h.first.item ≡ k.first.item = cc both in
    h.cell_is ∙ ap (λ line. line.cell) item ∙ sym k.cell_is

-- rule 17: the numbering of what should have been written is one
module _ (v w b : Named) (same : sited v ≡ sited w) (names : v.names ≡ w.names) (clocks : v.clock ≡ w.clock) where
  front_over : HasFrontOf v b → HasFrontOf w b
  front_over h = record {
    module_name = h.module_name ∙ ap (λ (s : Sited). s.module_name) same;
    ports = h.ports ∙ ap (λ (s : Sited). take (ports_of s.variables) s.variables) same;
    clock = h.clock ∙ clocks;
  }

  site_over : (m : ℕ) → site_of v m ≡ site_of w m
  site_over m = λ i. site_of_bit (same i).variables (name_of_net (record v { names = names i }) m)

  fed_over : (m : ℕ) → IsFedAlike v b (site_of v m) → IsFedAlike w b (site_of w m)
  fed_over m h = subst (IsFedAlike w b) (site_over m) (subst (λ (s : Sited). (e : Feeding) → Feeds (sited b).netlist (site_of v m) e ↔ Feeds s.netlist (site_of v m) e) same h)

module _ (v w b : Named) (same : sited v ≡ sited w) (names : v.names ≡ w.names) (clocks : v.clock ≡ w.clock) where
  first_over : (n : ℕ) → IsFirstWrong v.names (λ m name. IsFedAlike v b (site_of v m)) n → IsFirstWrong w.names (λ m name. IsFedAlike w b (site_of w m)) n
  first_over n h = record {
    item = h.item;
    stands = ap (λ ks. slice_get ks n) (sym names) ∙ h.stands;
    wrong = λ alike. h.wrong (fed_over w v b (sym same) (sym names) (sym clocks) n alike);
    before = λ i x less at. fed_over v w b same names clocks i (h.before i x less (ap (λ ks. slice_get ks i) names ∙ at));
  }

  agree_over : NetsAgree v b → NetsAgree w b
  agree_over h = λ m x at. fed_over v w b same names clocks m (h m x (ap (λ ks. slice_get ks m) names ∙ at))

  one_difference : (x y : ℕ) → NetlistsDifferAt v b x → NetlistsDifferAt w b y → x ≡ y
  one_difference x y (inl p) (inl q) = p.0 ∙ sym q.0
  one_difference x y (inl p) (inr (inl q)) = absurd (p.1 (front_over w v b (sym same) (sym names) (sym clocks) q.0))
  one_difference x y (inl p) (inr (inr q)) = absurd (p.1 (front_over w v b (sym same) (sym names) (sym clocks) q.1))
  one_difference x y (inr (inl p)) (inl q) = absurd (q.1 (front_over v w b same names clocks p.0))
  one_difference x y (inr (inr p)) (inl q) = absurd (q.1 (front_over v w b same names clocks p.1))
  one_difference x y (inr (inl p)) (inr (inl q)) =
      let net = one_wrong w.names (λ m name. IsFedAlike w b (site_of w m)) p.1.0 q.1.0 (first_over p.1.0 p.1.2) q.1.2 in
      p.1.1 ∙ ap (λ k. k + 1) net ∙ sym q.1.1
  one_difference x y (inr (inl p)) (inr (inr q)) = let first = first_over p.1.0 p.1.2 in absurd (first.wrong (q.2 p.1.0 first.item first.stands))
  one_difference x y (inr (inr p)) (inr (inl q)) = let first = q.1.2 in absurd (first.wrong (agree_over p.2 q.1.0 first.item first.stands))
  one_difference x y (inr (inr p)) (inr (inr q)) = p.0 ∙ ap (λ (ks : List BitName). length ks + 1) names ∙ sym q.0

-- and a netlist that mirrors another differs nowhere
module _ (w b : Named) (hw : IsNamed w) (hb : IsNamed b) (mirrors : Mirrors (sited w) b) where
  alike : (site : Site) → IsFedAlike w b site
  alike site Outside = (λ c. subst (λ ks. Contains ks site) mirrors.inputs c, λ c. subst (λ ks. Contains ks site) (sym mirrors.inputs) c)
  alike site (Through g) = (λ c. ((mirrors.gates g).0 c.0, c.1), λ c. ((mirrors.gates g).1 c.0, c.1))
  alike site (Held f) = (λ c. ((mirrors.flops f).0 c.0, c.1), λ c. ((mirrors.flops f).1 c.0, c.1))

  no_difference : (x : ℕ) → NetlistsDifferAt w b x → ⊥
  no_difference x (inl p) = p.1 (record { module_name = mirrors.module_name; ports = mirrors.ports; clock = clock_bit w b hw hb mirrors.ports mirrors.clock })
  no_difference x (inr (inl p)) = p.1.2.wrong (alike (site_of w p.1.0))
  no_difference x (inr (inr p)) =
      let more = p.3 in
      let fed = some_feeding b hb more.0 more.1.0 in
      let there = fed_site w hw (site_of b more.0) fed.0 ((alike (site_of b more.0) fed.0).0 fed.1) in
      more.1.1 there.0 there.1 there.2

-- rule 18
one_list : (f : Audited) → IsNamed f.original → FilesMeet f Segments → (xs ys : List (List Signature)) → AreSessionSignatures f.original.netlist f.plan xs → AreSessionSignatures f.original.netlist f.plan ys → xs ≡ ys
one_list f original segments xs ys hx hy =
    same_sessions xs ys (hx.registers ∙ sym hy.registers)
    (one_signatures f.original.netlist f.plan original.netlist segments.1.valid_for.plan_valid.order (values_of xs) (values_of ys) hx.values hy.values)

-- each rule first fails at one place, and isn't met then
one_place : (f : Audited) (rule : AuditRule) (x y : ℕ) → IsNamed f.original → ((earlier : AuditRule) → audit_number earlier < audit_number rule → FilesMeet f earlier) → FailsFirstAt f rule x → FailsFirstAt f rule y → x ≡ y
one_place f (Planned rule) x y original before h k = one_failure f.original.netlist f.plan rule x y h k
one_place f Segments x y original before h k =
    one_line k.0 f.certificate x y (subst (λ v. FirstDiffersIn v f.certificate x) (one_valid f h.0 k.0 h.1 k.1) h.2) k.2
one_place f Duals x y original before h k = one_observer f x y h k
one_place f Drivers x y original before h k =
    let same = h.1.is ∙ sym k.1.is in
    let clocks = clock_bit k.0 h.0 k.1.named h.1.named (ap (λ (s : Sited). take (ports_of s.variables) s.variables) same) (ap (λ (s : Sited). s.clock) same) in
    one_difference h.0 k.0 f.written same (one_names h.0 k.0 h.1.named k.1.named h.1.by_bits k.1.by_bits same) clocks x y h.2 k.2
one_place f Signatures x y original before h k =
    let same = one_list f original (before Segments (omega arith)) h.0 k.0 h.1 k.1 in
    one_apart f.signatures k.0 x y (subst (λ s. IsFirstApart f.signatures s x) same h.2) k.2

met_never_fails : (f : Audited) (rule : AuditRule) (x : ℕ) → IsNamed f.original → IsNamed f.written → IsFrame f.plan → ((earlier : AuditRule) → audit_number earlier < audit_number rule → FilesMeet f earlier)
    → FilesMeet f rule → FailsFirstAt f rule x → ⊥
met_never_fails f (Planned rule) x original written frame before h k = never_both f.original.netlist f.plan rule x frame h k
met_never_fails f Segments x original written frame before h k = no_line k.0 f.certificate x (subst (λ v. ListsSegments v f.certificate) (one_valid f h.0 k.0 h.1 k.1) h.2) k.2
met_never_fails f Duals x original written frame before h k = k.first.wrong (h k.place k.first.item k.first.stands)
met_never_fails f Drivers x original written frame before h k = no_difference k.0 f.written k.1.named written (subst (λ s. Mirrors s f.written) (sym k.1.is) h) x k.2
met_never_fails f Signatures x original written frame before h k =
    k.2.apart (ap (λ s. slice_get s x) (one_list f original (before Segments (omega arith)) f.signatures k.0 h k.1))

-- the rules in their order, and where each stands
abbrev rules : List AuditRule
rules = Planned Frame ∷ Planned Registers ∷ Planned Kinds ∷ Planned Apart ∷ Planned Served ∷ Planned Pure ∷ Planned Sessions ∷ Planned Compacted ∷ Planned Room ∷ Planned Columns ∷ Planned Widths ∷ Planned Conflicts ∷ Planned Codes ∷ Planned Period ∷ Segments ∷ Duals ∷ Drivers ∷ Signatures ∷ []

spot : (rule : AuditRule) → (i : ℕ) × (audit_number rule ≡ suc i) × (slice_get rules i ≡ Some rule)
spot (Planned Frame) = (0, refl, refl)
spot (Planned Registers) = (1, refl, refl)
spot (Planned Kinds) = (2, refl, refl)
spot (Planned Apart) = (3, refl, refl)
spot (Planned Served) = (4, refl, refl)
spot (Planned Pure) = (5, refl, refl)
spot (Planned Sessions) = (6, refl, refl)
spot (Planned Compacted) = (7, refl, refl)
spot (Planned Room) = (8, refl, refl)
spot (Planned Columns) = (9, refl, refl)
spot (Planned Widths) = (10, refl, refl)
spot (Planned Conflicts) = (11, refl, refl)
spot (Planned Codes) = (12, refl, refl)
spot (Planned Period) = (13, refl, refl)
spot Segments = (14, refl, refl)
spot Duals = (15, refl, refl)
spot Drivers = (16, refl, refl)
spot Signatures = (17, refl, refl)

one_rule : (r q : AuditRule) → audit_number r ≡ audit_number q → r ≡ q
one_rule r q e =
    let x = spot r in
    let y = spot q in
    let same : x.0 ≡ y.0 = (let h = x.1 in let k = y.1 in omega (arith, h, k, e)) in
    let both : Some r ≡ Some q = sym x.2 ∙ ap (slice_get rules) same ∙ y.2 in
    cc both

-- no rule fails before the first that fails
not_before : (f : Audited) (n x m y : ℕ) → IsNamed f.original → IsNamed f.written → IsAuditFault f n x → IsAuditFault f m y → n < m → ⊥
not_before f n x m y original written h k less =
    let is = h.number_is in
    let earlier : audit_number h.rule < m = omega (arith, less, is) in
    let framed : audit_number (Planned Frame) < m = (let s = (spot h.rule).1 in omega (arith, s, earlier)) in
    met_never_fails f h.rule h.exact original written (k.before (Planned Frame) framed) (λ rule low. h.before rule (omega (arith, low, is))) (k.before h.rule earlier) h.fails

pub one_fault : (f : Audited) (n x m y : ℕ) → IsNamed f.original → IsNamed f.written → IsAuditFault f n x → IsAuditFault f m y → (n ≡ m) × (x ≡ y)
one_fault f n x m y original written h k =
    let number = numbers (nat_lt n m) refl (nat_lt m n) refl in
    let rule = one_rule h.rule k.rule (sym h.number_is ∙ number ∙ k.number_is) in
    let is = k.number_is in
    let exact : h.exact ≡ k.exact = one_place f k.rule h.exact k.exact original (λ r low. k.before r (omega (arith, low, is))) (subst (λ r. FailsFirstAt f r h.exact) rule h.fails) k.fails in
    (number, h.capped ∙ ap (λ e. min (2 ^ 32 - 1) e) exact ∙ sym k.capped)
  where
    numbers : (b : Bool) → nat_lt n m ≡ b → (c : Bool) → nat_lt m n ≡ c → n ≡ m
    numbers true e c d = absurd (not_before f n x m y original written h k (grind (arith, nat_tests, e)))
    numbers false e true d = absurd (not_before f m y n x original written k h (grind (arith, nat_tests, d)))
    numbers false e false d = grind (arith, nat_tests, e, d)

pub passing_has_none : (f : Audited) (n x : ℕ) → IsNamed f.original → IsNamed f.written → AuditPasses f → IsAuditFault f n x → ⊥
passing_has_none f n x original written passes h =
    met_never_fails f h.rule h.exact original written (passes.meets (Planned Frame)) (λ rule low. passes.meets rule) (passes.meets h.rule) h.fails
