use Rattle.std.proofs.Common.{arith, ◌≡◌, ◌+◌, ◌-◌, ◌≤◌, ◌^◌, ◌∙◌, ℕ, List, Vec, Global, inl, inr, map, min, refl, sym, ap, subst}
use Rattle.bb_base.specs.Net.{Netlist}
use Rattle.bb_net.specs.Sites.{Sited}
use Rattle.bb_terms.specs.Plan.{PlanValue}
use Rattle.bb_terms.specs.Rules.{Frame}
use Rattle.bb_terms.specs.Valid.{SegmentValue}
use Rattle.bb_written.specs.Written.{written}
use Rattle.bb_normal.specs.Mirrors.{Mirrors}
use Rattle.bb_forms.specs.declared.signature.Signature.{Signature}
use Rattle.bb_forms.specs.CertificateText.{CertificateSegmentValue, CertificateValue}
use Rattle.bb_alike.proofs.ListLemmas.{none_of, not_both}
use Rattle.bb_audit.specs.declared.fault.AuditFault.TheVariants.{Refused}
use Rattle.bb_audit.specs.Audited.{audited}
use Rattle.bb_audit.specs.Certified.{IsFirstApart, line_cells, segment_cells, ListsSegments, AllHaveDuals, IsFirstWithoutDuals}
use Rattle.bb_audit.specs.Signed.{AreSessionSignatures}
use Rattle.bb_audit.specs.Passing.{IsPlanWithSegments}
use Rattle.bb_audit.proofs.MirrorLemmas.{mirrors}
use Rattle.bb_audit.proofs.JudgeLemmas.{refused_is, segments_fault, duals_fault, drivers_fault, signatures_fault, passes}
use Rattle.bb_audit.proofs.judge.audit_files.Goals as goal

pub has_period-requires : goal.has_period-requires
has_period-requires c = subst (λ (p : PlanValue). p.degree ≤ 20) (sym c.plan-plan.ensures) (c.requires.valid.plan_valid.meets Frame).degree_most

pub first_without_duals-requires : goal.first_without_duals-requires
first_without_duals-requires c = record { degree = subst (λ (p : PlanValue). p.degree ≤ 20) (sym c.plan-plan.ensures) (c.requires.valid.plan_valid.meets Frame).degree_most }

pub returns-then-not-has_period-clause-refused : goal.returns-then-not-has_period-clause-refused
returns-then-not-has_period-clause-refused c = λ rule place e.
    let a = c.args.original.now in
    let b = c.args.written.now in
    let v = c.args.valid.now in
    let k = c.args.certificate.now in
    let signed : List (List Signature) = map (λ (s : Vec Signature Global). s.items) c.args.signatures.now in
    let f = audited a b v.plan signed k in
    let of : IsPlanWithSegments f v = record { valid_for = c.requires.valid; plan = refl } in
    let r = refused_is c.refused.result 15 2 rule place c.refused.ensures e in
    segments_fault f v of 2 rule place r.0 r.1
    (v, of, inl (refl, λ same. not_both c.has_period.result (c.has_period.ensures.1 (same ∙ ap (λ (p : PlanValue). 2 ^ p.degree) (sym c.plan-plan.ensures))) c.if-not-has_period.true))

pub returns-in-Some-clause-refused : goal.returns-in-Some-clause-refused
returns-in-Some-clause-refused c = λ rule place e.
    let a = c.args.original.now in
    let b = c.args.written.now in
    let v = c.args.valid.now in
    let k = c.args.certificate.now in
    let signed : List (List Signature) = map (λ (s : Vec Signature Global). s.items) c.args.signatures.now in
    let f = audited a b v.plan signed k in
    let of : IsPlanWithSegments f v = record { valid_for = c.requires.valid; plan = refl } in
    let period : k.period ≡ 2 ^ v.plan.degree = c.has_period.ensures.0 c.if-not-has_period.false ∙ ap (λ (p : PlanValue). 2 ^ p.degree) c.plan-plan.ensures in
    let same_lines : c.deref.result.now ≡ k.segments = c.deref.ensures.value ∙ ap (λ (x : CertificateValue). x.segments) c.certificate.view_is in
    let same_segments : c.segments.result.now ≡ v.segments = c.segments.ensures in
    let number : min (2 ^ 32 - 1) c.saturating_add.result ≡ min (2 ^ 32 - 1) (3 + c.in-Some.place) = omega (arith, c.saturating_add.ensures) in
    let r = refused_is c.refused-in-Some.result 15 (3 + c.in-Some.place) rule place (c.refused-in-Some.ensures ∙ ap (λ n. Refused 15 n) number) e in
    let first = subst (λ (ls : List CertificateSegmentValue). IsFirstApart (map line_cells ls) (map segment_cells v.segments) c.in-Some.place) same_lines
    (subst (λ (ss : List SegmentValue). IsFirstApart (map line_cells c.deref.result.now) (map segment_cells ss) c.in-Some.place) same_segments (c.first_apart.ensures.first c.in-Some.place c.in-Some.is)) in
    segments_fault f v of (3 + c.in-Some.place) rule place r.0 r.1 (v, of, inr (period, (c.in-Some.place, refl, first)))

pub returns-in-Some-without-clause-refused : goal.returns-in-Some-without-clause-refused
returns-in-Some-without-clause-refused c = λ rule place e.
    let a = c.args.original.now in
    let b = c.args.written.now in
    let v = c.args.valid.now in
    let k = c.args.certificate.now in
    let signed : List (List Signature) = map (λ (s : Vec Signature Global). s.items) c.args.signatures.now in
    let f = audited a b v.plan signed k in
    let of : IsPlanWithSegments f v = record { valid_for = c.requires.valid; plan = refl } in
    let period : k.period ≡ 2 ^ v.plan.degree = c.has_period.ensures.0 c.if-not-has_period.false ∙ ap (λ (p : PlanValue). 2 ^ p.degree) c.plan-plan.ensures in
    let same_lines : c.deref.result.now ≡ k.segments = c.deref.ensures.value ∙ ap (λ (x : CertificateValue). x.segments) c.certificate.view_is in
    let same_segments : c.segments.result.now ≡ v.segments = c.segments.ensures in
    let cells : map line_cells k.segments ≡ map segment_cells v.segments =
    ap (map line_cells) (sym same_lines) ∙ c.first_apart.ensures.none (none_of c.first_apart.result c.in_default.not-Some) ∙ ap (map segment_cells) same_segments in
    let lists : ListsSegments v k = record { period = period; cells = cells } in
    let same_again : c.deref-2.result.now ≡ k.segments = c.deref-2.ensures.value ∙ ap (λ (x : CertificateValue). x.segments) c.certificate.view_is in
    let number : min (2 ^ 32 - 1) c.from.result ≡ min (2 ^ 32 - 1) c.in-Some-without.cell = omega (arith, c.from.ensures) in
    let r = refused_is c.refused-in-Some-without.result 16 c.in-Some-without.cell rule place (c.refused-in-Some-without.ensures ∙ ap (λ n. Refused 16 n) number) e in
    let first = subst (λ (p : PlanValue). IsFirstWithoutDuals p k.segments c.in-Some-without.cell) c.plan-plan.ensures
    (subst (λ (ls : List CertificateSegmentValue). IsFirstWithoutDuals c.plan-plan.result.now ls c.in-Some-without.cell) same_again (c.in_ok-without.ensures.first c.in-Some-without.cell c.in-Some-without.is)) in
    duals_fault f v of lists c.in-Some-without.cell rule place r.0 r.1 first

pub returns-in-Some-differs-clause-refused : goal.returns-in-Some-differs-clause-refused
returns-in-Some-differs-clause-refused c = λ rule place e.
    let a = c.args.original.now in
    let b = c.args.written.now in
    let v = c.args.valid.now in
    let k = c.args.certificate.now in
    let signed : List (List Signature) = map (λ (s : Vec Signature Global). s.items) c.args.signatures.now in
    let f = audited a b v.plan signed k in
    let of : IsPlanWithSegments f v = record { valid_for = c.requires.valid; plan = refl } in
    let period : k.period ≡ 2 ^ v.plan.degree = c.has_period.ensures.0 c.if-not-has_period.false ∙ ap (λ (p : PlanValue). 2 ^ p.degree) c.plan-plan.ensures in
    let same_lines : c.deref.result.now ≡ k.segments = c.deref.ensures.value ∙ ap (λ (x : CertificateValue). x.segments) c.certificate.view_is in
    let same_segments : c.segments.result.now ≡ v.segments = c.segments.ensures in
    let cells : map line_cells k.segments ≡ map segment_cells v.segments =
    ap (map line_cells) (sym same_lines) ∙ c.first_apart.ensures.none (none_of c.first_apart.result c.in_default.not-Some) ∙ ap (map segment_cells) same_segments in
    let lists : ListsSegments v k = record { period = period; cells = cells } in
    let same_again : c.deref-2.result.now ≡ k.segments = c.deref-2.ensures.value ∙ ap (λ (x : CertificateValue). x.segments) c.certificate.view_is in
    let duals : AllHaveDuals v.plan k.segments = subst (λ (p : PlanValue). AllHaveDuals p k.segments) c.plan-plan.ensures
    (subst (λ (ls : List CertificateSegmentValue). AllHaveDuals c.plan-plan.result.now ls) same_again (c.in_ok-without.ensures.none (none_of c.in_ok-without.without c.in_default-without.not-Some))) in
    let w = c.in_ok-woven.woven.named in
    let number : min (2 ^ 32 - 1) c.from-in-Some-differs.result ≡ min (2 ^ 32 - 1) c.in-Some-differs.net = omega (arith, c.from-in-Some-differs.ensures) in
    let r = refused_is c.refused-in-Some-differs.result 17 c.in-Some-differs.net rule place (c.refused-in-Some-differs.ensures ∙ ap (λ n. Refused 17 n) number) e in
    drivers_fault f v of lists duals c.in-Some-differs.net rule place r.0 r.1
    (w, record { named = c.netlist-woven.ensures.named; is = c.in_ok-woven.ensures.written; by_bits = c.in_ok-woven.ensures.by_bits }, c.in_ok-differs.ensures.some c.in-Some-differs.net c.in-Some-differs.is)

pub returns-in-Some-unsigned-clause-refused : goal.returns-in-Some-unsigned-clause-refused
returns-in-Some-unsigned-clause-refused c = λ rule place e.
    let a = c.args.original.now in
    let b = c.args.written.now in
    let v = c.args.valid.now in
    let k = c.args.certificate.now in
    let signed : List (List Signature) = map (λ (s : Vec Signature Global). s.items) c.args.signatures.now in
    let f = audited a b v.plan signed k in
    let of : IsPlanWithSegments f v = record { valid_for = c.requires.valid; plan = refl } in
    let period : k.period ≡ 2 ^ v.plan.degree = c.has_period.ensures.0 c.if-not-has_period.false ∙ ap (λ (p : PlanValue). 2 ^ p.degree) c.plan-plan.ensures in
    let same_lines : c.deref.result.now ≡ k.segments = c.deref.ensures.value ∙ ap (λ (x : CertificateValue). x.segments) c.certificate.view_is in
    let same_segments : c.segments.result.now ≡ v.segments = c.segments.ensures in
    let cells : map line_cells k.segments ≡ map segment_cells v.segments =
    ap (map line_cells) (sym same_lines) ∙ c.first_apart.ensures.none (none_of c.first_apart.result c.in_default.not-Some) ∙ ap (map segment_cells) same_segments in
    let lists : ListsSegments v k = record { period = period; cells = cells } in
    let same_again : c.deref-2.result.now ≡ k.segments = c.deref-2.ensures.value ∙ ap (λ (x : CertificateValue). x.segments) c.certificate.view_is in
    let duals : AllHaveDuals v.plan k.segments = subst (λ (p : PlanValue). AllHaveDuals p k.segments) c.plan-plan.ensures
    (subst (λ (ls : List CertificateSegmentValue). AllHaveDuals c.plan-plan.result.now ls) same_again (c.in_ok-without.ensures.none (none_of c.in_ok-without.without c.in_default-without.not-Some))) in
    let w = c.in_ok-woven.woven.named in
    let agrees = c.in_ok-differs.ensures.none (none_of c.in_ok-differs.differs c.in_default-differs.not-Some) in
    let mirrored : Mirrors (written a v.plan) b = subst (λ (s : Sited). Mirrors s b) c.in_ok-woven.ensures.written (mirrors w b c.netlist-woven.ensures.named c.netlist-written.ensures.named agrees) in
    let r = refused_is c.refused-in-Some-unsigned.result 18 c.in-Some-unsigned.session rule place c.refused-in-Some-unsigned.ensures e in
    let first = c.in_ok-unsigned.ensures.first c.in-Some-unsigned.session c.in-Some-unsigned.is in
    signatures_fault f v of lists duals mirrored c.in-Some-unsigned.session rule place r.0 r.1
    (first.0, subst (λ (n : Netlist ℕ). AreSessionSignatures n v.plan first.0) c.netlist.ensures.value first.1, first.2)

pub returns-clause-passes : goal.returns-clause-passes
returns-clause-passes c =
    let a = c.args.original.now in
    let b = c.args.written.now in
    let v = c.args.valid.now in
    let k = c.args.certificate.now in
    let signed : List (List Signature) = map (λ (s : Vec Signature Global). s.items) c.args.signatures.now in
    let f = audited a b v.plan signed k in
    let of : IsPlanWithSegments f v = record { valid_for = c.requires.valid; plan = refl } in
    let period : k.period ≡ 2 ^ v.plan.degree = c.has_period.ensures.0 c.if-not-has_period.false ∙ ap (λ (p : PlanValue). 2 ^ p.degree) c.plan-plan.ensures in
    let same_lines : c.deref.result.now ≡ k.segments = c.deref.ensures.value ∙ ap (λ (x : CertificateValue). x.segments) c.certificate.view_is in
    let same_segments : c.segments.result.now ≡ v.segments = c.segments.ensures in
    let cells : map line_cells k.segments ≡ map segment_cells v.segments =
    ap (map line_cells) (sym same_lines) ∙ c.first_apart.ensures.none (none_of c.first_apart.result c.in_default.not-Some) ∙ ap (map segment_cells) same_segments in
    let lists : ListsSegments v k = record { period = period; cells = cells } in
    let same_again : c.deref-2.result.now ≡ k.segments = c.deref-2.ensures.value ∙ ap (λ (x : CertificateValue). x.segments) c.certificate.view_is in
    let duals : AllHaveDuals v.plan k.segments = subst (λ (p : PlanValue). AllHaveDuals p k.segments) c.plan-plan.ensures
    (subst (λ (ls : List CertificateSegmentValue). AllHaveDuals c.plan-plan.result.now ls) same_again (c.in_ok-without.ensures.none (none_of c.in_ok-without.without c.in_default-without.not-Some))) in
    let w = c.in_ok-woven.woven.named in
    let agrees = c.in_ok-differs.ensures.none (none_of c.in_ok-differs.differs c.in_default-differs.not-Some) in
    let mirrored : Mirrors (written a v.plan) b = subst (λ (s : Sited). Mirrors s b) c.in_ok-woven.ensures.written (mirrors w b c.netlist-woven.ensures.named c.netlist-written.ensures.named agrees) in
    let all_signed : AreSessionSignatures a.netlist v.plan signed = subst (λ (n : Netlist ℕ). AreSessionSignatures n v.plan signed) c.netlist.ensures.value (c.in_ok-unsigned.ensures.none (none_of c.in_ok-unsigned.unsigned c.in_default-unsigned.not-Some)) in
    passes f v of lists duals mirrored all_signed
