-- A valid plan of a netlist of few bits, its signatures and its certificate are of the files' forms.
use Rattle.std.proofs.Common.{arith, ◌≡◌, ◌∙◌, ℕ, ◌+◌, ◌*◌, ◌<◌, ◌≤◌, ◌^◌, List, [], ◌∷◌, length, map, zip, Some, slice_get, Contains, Bool, sym, ap, subst}
use Rattle.std.proofs.Math.Pow.{pow_mono}
use Rattle.std.proofs.lemmas.Option.{slice_get_within}
use Rattle.std.specs.List.{AllByRecursion, AllZip, range_with_len}
use Rattle.bb_base.specs.Variables.{bit_count}
use Rattle.bb_base.proofs.Contained.{here, there, place_of, at_place, by_place, contains_at, to_all}
use Rattle.bb_base.proofs.Lists.{all_parts, length_map}
use Rattle.bb_base.specs.Net.{driven}
use Rattle.bb_base.specs.Named.{Named, IsNamed}
use Rattle.bb_net.proofs.CountLemmas.{nets_few}
use Rattle.bb_gf2.proofs.Pairing.{from_bits_below}
use Rattle.bb_terms.specs.Signature.{signature}
use Rattle.bb_terms.proofs.Growth.{length_signature}
use Rattle.bb_terms.specs.declared.kind.Kind.{Kind}
use Rattle.bb_terms.specs.declared.kind.Kind.TheVariants.{Input, State, Split, Cut, Watch, Output}
use Rattle.bb_terms.specs.declared.plan.Cell.{Cell}
use Rattle.bb_terms.specs.Plan.{PlanValue, RegisterValue, chain, observers}
use Rattle.bb_terms.specs.Rules.{MayStand, IsQ, IsGateNet, MayCompact, Frame, Registers, Kinds, Sessions, Columns}
use Rattle.bb_terms.specs.Valid.{IsValidPlan, SegmentValue, IsSegmentOf}
use Rattle.bb_terms.specs.Signatures.{IsSigned}
use Rattle.bb_terms.proofs.NetLemmas.{out_within, q_within, input_net_within}
use Rattle.bb_rules.proofs.CodeLemmas.{segment_duals_below}
use Rattle.bb_plan.proofs.ObserverLemmas.{observer_is}
use Rattle.bb_written.proofs.Few.{are_few}
use Rattle.bb_forms.specs.Fields.{field_limit}
use Rattle.bb_forms.specs.ScheduleText.{IsFormedCell, IsFormedRegister, IsFormedPlan}
use Rattle.bb_forms.specs.SignatureText.{IsSignature, AreFormedSignatures}
use Rattle.bb_forms.specs.CertificateText.{IsPair, IsFormedSegment, IsFormedCertificate}
use Rattle.bb_make.specs.Files.{signed_session, signed_sessions, certified, certificate_of}
use Rattle.bb_make.proofs.FileLemmas.{signed_few}
use Rattle.bb_passing.proofs.FewLeaves.{few_leaves}
use Rattle.bb_passing.proofs.Places.{at_index}

pairs_below : (xs ys : List ℕ) → AllByRecursion (λ x. x < field_limit) xs → AllByRecursion (λ y. y < field_limit) ys → AllByRecursion IsPair (zip xs ys)
pairs_below [] ys h k = tt
pairs_below (x ∷ xs) [] h k = tt
pairs_below (x ∷ xs) (y ∷ ys) h k = ((h.0, k.0), pairs_below xs ys h.1 k.1)

pairs_few : (xs ys : List ℕ) → length (zip xs ys) ≤ length xs
pairs_few [] ys = omega arith
pairs_few (x ∷ xs) [] = omega arith
pairs_few (x ∷ xs) (y ∷ ys) = let rest = pairs_few xs ys in omega (arith, rest)

product_below : (s n : ℕ) → s ≤ 2097152 → n ≤ 1048576 → 1 + 2 * s * n < 2 ^ 64
product_below s n few small = grind (arith, few, small)

lines_long : (f : ℕ → Cell → Bool) (cells : List Cell) (ts : List ℕ) → AllByRecursion (λ line. length line ≡ length cells) (map (λ t. map (f t) cells) ts)
lines_long f cells [] = tt
lines_long f cells (t ∷ ts) = (length_map (f t) cells, lines_long f cells ts)

module _ (a : Named) (p : PlanValue) (is : IsNamed a) (few : bit_count a.variables ≤ 2097152) (valid : IsValidPlan a.netlist p) where
  q_below : (net : ℕ) → IsQ a.netlist net → net < length (driven a.netlist)
  q_below net h = subst (λ n. n < length (driven a.netlist)) h.1.2 (q_within a.netlist h.1.0 is.netlist (contains_at a.netlist.flops h.0 h.1.0 h.1.1))

  gate_below : (net : ℕ) → IsGateNet a.netlist net → net < length (driven a.netlist)
  gate_below net h = subst (λ n. n < length (driven a.netlist)) h.1.2 (out_within a.netlist h.1.0 is.netlist (contains_at a.netlist.gates h.0 h.1.0 h.1.1))

  net_below : (kind : Kind) (net : ℕ) → MayStand a.netlist kind net → net < length (driven a.netlist)
  net_below Input net fits = input_net_within a.netlist net is.netlist fits
  net_below State net fits = q_below net fits
  net_below Split net fits = q_below net fits
  net_below Cut net fits = gate_below net fits
  net_below Watch net fits = q_below net fits
  net_below Output net fits = gate_below net fits.0

  states_few : 2 ^ p.degree ≤ 1048576
  states_few = pow_mono (valid.meets Frame).degree_most

  formed_cell : (i : ℕ) (c : Cell) → slice_get (chain p) i ≡ Some c → IsFormedCell c
  formed_cell i c at =
      let low = net_below c.kind c.net (valid.meets Kinds i c at) in
      let names = is.names in
      let bits = nets_few a is in
      let column = (valid.meets Columns i c at).below in
      let states = states_few in
      record { net = omega (arith, low, names, bits, few); column = omega (arith, column, states) }

  formed_registers : AllByRecursion IsFormedRegister p.registers
  formed_registers =
      let parts = all_parts IsFormedCell (λ (g : RegisterValue). g.cells) p.registers (by_place IsFormedCell (chain p) formed_cell) in
      by_place IsFormedRegister p.registers
      (λ r g at.
      let register = valid.meets Registers r g at in
      let mask = register.mask_fits.below in
      let top : 2 ^ length g.cells ≤ 2 ^ 16 = pow_mono register.few in
      record { mask = omega (arith, mask, top); cells = at_place (λ (g : RegisterValue). AllByRecursion IsFormedCell g.cells) p.registers r g parts at })

  register_below : (r : ℕ) (g : RegisterValue) → slice_get p.registers r ≡ Some g → r < field_limit
  register_below r g at =
      let within = slice_get_within p.registers r g at in
      let counts = are_few a.netlist p valid in
      let registers = counts.registers in
      let cells = counts.cells in
      omega (arith, within, registers, cells)

  session_below : (session : List ℕ) → AllByRecursion (MayCompact p) session → AllByRecursion (λ r. r < field_limit) session
  session_below [] h = tt
  session_below (r ∷ session) h = (register_below r h.0.0 h.0.1, session_below session h.1)

  pub formed_plan : IsFormedPlan p
  formed_plan =
      let frame = valid.meets Frame in
      let width = frame.width_most in
      let mask = frame.mask_fits.below in
      let states = states_few in
      let counts = are_few a.netlist p valid in
      record {
        width = omega (arith, width);
        least = frame.degree_least;
        most = frame.degree_most;
        mask = omega (arith, mask, states);
        registers = formed_registers;
        sessions = by_place (λ session. AllByRecursion (λ r. r < field_limit) session) p.sessions (λ s session at. session_below session (valid.meets Sessions s session at).compacting);
        cycles = product_below (length p.sessions) (2 ^ p.degree) counts.sessions states;
      }

  signature_below : (r w : ℕ) → IsSigned a.netlist p r w → w < field_limit
  signature_below r w h =
      let g : RegisterValue = h.0 in
      let register = valid.meets Registers r g h.1 in
      let top : 2 ^ length g.cells ≤ 2 ^ 16 = pow_mono register.few in
      let lines = map (λ t. map (h.2.bits t) g.cells) (range_with_len 0 (2 ^ p.degree)) in
      let cells : List Bool = signature (length g.cells) g.mask lines in
      let long : length cells ≡ length g.cells = length_signature (length g.cells) g.mask lines (lines_long h.2.bits g.cells (range_with_len 0 (2 ^ p.degree))) in
      let low : w < 2 ^ length g.cells = subst (λ n. w < 2 ^ n) long (subst (λ x. x < 2 ^ length cells) (sym h.2.is) (from_bits_below cells)) in
      omega (arith, low, top)

  signed_one : (rs ws : List ℕ) → AllZip (IsSigned a.netlist p) rs ws → AllByRecursion IsSignature (signed_session rs ws)
  signed_one [] [] h = tt
  signed_one [] (w ∷ ws) h = absurd h
  signed_one (r ∷ rs) [] h = absurd h
  signed_one (r ∷ rs) (w ∷ ws) h = (record { register = register_below r h.0.0 h.0.1; value = signature_below r w h.0 }, signed_one rs ws h.1)

  signed_each : (ss vs : List (List ℕ)) → AllZip (λ session written. AllZip (IsSigned a.netlist p) session written) ss vs → AllByRecursion (λ session. AllByRecursion IsSignature session) (signed_sessions ss vs)
  signed_each [] [] h = tt
  signed_each [] (v ∷ vs) h = absurd h
  signed_each (s ∷ ss) [] h = absurd h
  signed_each (s ∷ ss) (v ∷ vs) h = (signed_one s v h.0, signed_each ss vs h.1)

  pub formed_signatures : (values : List (List ℕ)) → AllZip (λ session written. AllZip (IsSigned a.netlist p) session written) p.sessions values → AreFormedSignatures (signed_sessions p.sessions values)
  formed_signatures values signed =
      let sessions = (are_few a.netlist p valid).sessions in
      let no_more = signed_few p.sessions values in
      record { each = signed_each p.sessions values signed; few = omega (arith, sessions, no_more) }

  formed_segment : (k i : ℕ) (c : Cell) (segment : SegmentValue) → slice_get (observers p) k ≡ Some (i, c) → IsSegmentOf a.netlist p (i, c) segment → IsFormedSegment (certified segment)
  formed_segment k i c segment at segment_is =
      let observer = observer_is 0 (chain p) k i c at in
      let number : i ≡ observer.place = (let e = observer.number in omega (arith, e)) in
      let stands : slice_get (chain p) i ≡ Some c = ap (slice_get (chain p)) number ∙ observer.stands in
      let within = slice_get_within (chain p) i c stands in
      let cells = (are_few a.netlist p valid).cells in
      let cell = segment_is.cell in
      let leaves = few_leaves a.netlist p is.netlist valid i c segment stands observer.observes segment_is in
      let pairs = pairs_few segment.leaves segment.duals in
      let states = states_few in
      record {
        cell = omega (arith, cell, within, cells);
        few = omega (arith, leaves, pairs);
        pairs = pairs_below segment.leaves segment.duals
            (to_all (λ leaf. leaf < field_limit) segment.leaves
            (λ leaf contained. let found = (segment_is.each leaf).0 contained in let low = slice_get_within (chain p) leaf found.source found.stands in omega (arith, low, cells)))
            (by_place (λ dual. dual < field_limit) segment.duals
            (λ place dual dual_at.
            let low = segment_duals_below a.netlist p (valid.meets Columns) (i, c) segment segment_is place (slice_get_within segment.duals place dual dual_at) in
            let same = at_index segment.duals place dual dual_at in
            omega (arith, low, same, states)));
      }

  formed_segments : (os : List (ℕ × Cell)) (segments : List SegmentValue) → ((o : ℕ × Cell) → Contains os o → (k : ℕ) × (slice_get (observers p) k ≡ Some o)) → AllZip (IsSegmentOf a.netlist p) os segments
      → AllByRecursion IsFormedSegment (map certified segments)
  formed_segments [] [] known h = tt
  formed_segments [] (s ∷ segments) known h = absurd h
  formed_segments (o ∷ os) [] known h = absurd h
  formed_segments (o ∷ os) (s ∷ segments) known h =
      let first = known o (here o os) in
      (formed_segment first.0 o.0 o.1 s first.1 h.0, formed_segments os segments (λ x c. known x (there o os x c)) h.1)

  pub formed_certificate : (segments : List SegmentValue) → AllZip (IsSegmentOf a.netlist p) (observers p) segments → IsFormedCertificate (certificate_of p segments)
  formed_certificate segments each =
      let states = states_few in
      record { period = omega (arith, states); segments = formed_segments (observers p) segments (λ o c. place_of (observers p) o c) each }
