-- Written values are the signatures of the lines, and what comes out are their bits.
use Rattle.std.proofs.Common.{◌≡◌, ◌⊎◌, inl, inr, ℕ, zero, suc, ◌+◌, ◌-◌, ◌/◌, ◌<◌, ◌≤◌, ◌^◌, ◌++◌, ◌&&◌, ◌||◌, ◌==◌, nat_eq, take, get_or, Bool, true, false, if◌then◌else◌, List, [], ◌∷◌, length, map, refl, sym, ap, subst, ◌∙◌, arith, None, Some, slice_get, Contains}
use Rattle.std.proofs.lemmas.Bool.Decides.{nat_tests}
use Rattle.std.proofs.lemmas.List.{length-append, get_or_append_left, get_or-append-add}
use Rattle.std.proofs.lemmas.Option.{slice_get-get_or, slice_get_within}
use Rattle.std.specs.List.{AllZip, flat_map, range_with_len}
use Rattle.bb_base.proofs.Contained.{either, none_in, map_on, place_of, contains_at}
use Rattle.bb_base.proofs.Lists.{length_map, map_twice, get_some}
use Rattle.bb_base.specs.Net.{Gate}
use Rattle.bb_base.specs.Run.{at, by_op}
use Rattle.bb_base.specs.Named.{Named}
use Rattle.bb_net.specs.Sites.{Site, sited}
use Rattle.bb_base.specs.Bits.{bits, from_bits}
use Rattle.bb_gf2.proofs.BitLaws.{bits-from_bits}
use Rattle.bb_terms.specs.Register.{state_after}
use Rattle.bb_terms.specs.Signature.{signature}
use Rattle.bb_terms.specs.Paths.{Start, IsLeaf}
use Rattle.bb_terms.specs.Function.{IsBitOf}
use Rattle.bb_terms.specs.Change.{Change, IsChangeOf}
use Rattle.bb_terms.proofs.FunctionLemmas.{one_bit}
use Rattle.bb_terms.specs.declared.plan.Cell.{Cell}
use Rattle.bb_terms.specs.Plan.{RegisterValue, PlanValue, chain, compacts, lists_register, IsCell}
use Rattle.bb_terms.specs.Lines.{is_stop}
use Rattle.bb_terms.specs.Rules.{Sessions}
use Rattle.bb_terms.specs.Signatures.{code_at, IsLineBit, HasSignature, IsSigned, AreSignatures}
use Rattle.bb_rules.proofs.SessionLemmas.{observes}
use Rattle.bb_rules.proofs.SourceLemmas.{in_register}
use Rattle.bb_terms.proofs.StopLemmas.{free_stops}
use Rattle.bb_terms.specs.Reads.{qs_from}
use Rattle.bb_ctl.proofs.ChainLemmas.{qs_long}
use Rattle.bb_written.specs.Written.{wire_site}
use Rattle.bb_testrun.specs.SignatureSoFar.{lines_until}
use Rattle.bb_selftest.specs.WrittenLines.{IsObserver, q_site, q_sites_from, read_site, line_site}
use Rattle.bb_normal.specs.Normal.{site_so}
use Rattle.bb_selftest.specs.TestRun.{IsTestRun, run_cycle, unload_cycle}
use Rattle.bb_selftest.specs.TestTrace.{IsWrittenNetlist, IsTracedTest}
use Rattle.bb_selftest.specs.Signed.{IsRegisterAt, lines_at, signature_until, IsWrittenValue, Signs}
use Rattle.bb_selftest.specs.Unloads.{value_of, value_bits, value_bit, Unloads}
use Rattle.bb_selftest.proofs.Traces.{traced}
use Rattle.bb_selftest.proofs.PlanFacts.{compacts_at}
use Rattle.bb_selftest.proofs.CellBits.{q_bit}
use Rattle.bb_selftest.proofs.Clauses.{line_follows, leaf_is_coded, holds_until, cell_comes_out}
use Rattle.bb_selftest.proofs.ClauseLaws.{holds, quiet, tells_end}

-- what comes in the first cycles is the list of what comes in each
range_grows : (from n : ℕ) → range_with_len from (suc n) ≡ range_with_len from n ++ (from + n) ∷ []
range_grows from zero = let e : from ≡ from + 0 = omega arith in λ j. e j ∷ []
range_grows from (suc n) = let rest = range_grows (from + 1) n in let e : (from + 1) + n ≡ from + suc n = omega arith in λ j. from ∷ (rest ∙ ap (λ k. range_with_len (from + 1) n ++ k ∷ []) e) j

map_grows : {X : Type 0} (z : ℕ → X) (xs : List ℕ) (n : ℕ) → map z (xs ++ n ∷ []) ≡ map z xs ++ z n ∷ []
map_grows z [] n = refl
map_grows z (x ∷ xs) n = let rest = map_grows z xs n in λ j. z x ∷ rest j

until_range : (z : ℕ → List Bool) (n : ℕ) → lines_until z n ≡ map z (range_with_len 0 n)
until_range z zero = refl
until_range z (suc n) =
    let number : 0 + n ≡ n = omega arith in
    ap (λ xs. xs ++ z n ∷ []) (until_range z n) ∙ sym (map_grows z (range_with_len 0 n) n) ∙ ap (map z) (sym (range_grows 0 n ∙ ap (λ k. range_with_len 0 n ++ k ∷ []) number))

below_end : (from n t : ℕ) → Contains (range_with_len from n) t → t < from + n
below_end from zero t h = absurd (none_in t h)
below_end from (suc n) t h = by (either from (range_with_len (from + 1) n) t h) (λ h. below_end (from + 1) n t h)
  where
    by : (from ≡ t) ⊎ Contains (range_with_len (from + 1) n) t → (Contains (range_with_len (from + 1) n) t → t < (from + 1) + n) → t < from + suc n
    by (inl same) rest = omega (arith, same)
    by (inr h) rest = let less = rest h in omega (arith, less)

-- a line's function looks at its leaves alone
pub leaves_only : (gives : Gate ℕ → List Bool → Bool) (gates : List (Gate ℕ)) (stop : ℕ → Bool) (start : Start ℕ) (u v : ℕ → Bool) (bit : Bool) → ((net : ℕ) → IsLeaf gates stop start net → u net ≡ v net)
    → IsBitOf gives gates stop start u bit → IsBitOf gives gates stop start v bit
leaves_only gives gates stop start u v bit same h = record { w = h.w; assigns = record { leaves = λ net leaf. h.assigns.leaves net leaf ∙ same net leaf; passed = h.assigns.passed }; is = h.is }

-- no gate is changed
abbrev pub no_change : Change Site
no_change s = None

module _ (a b : Named) (p : PlanValue) (w : IsWrittenNetlist a b p) where
  pub no_change_fits : IsChangeOf (sited a).netlist.gates no_change
  no_change_fits s = inl refl

  trace : (vs : List (Site → Bool)) → IsTestRun b vs → IsTracedTest by_op a p vs
  trace vs test = traced a b p no_change vs w no_change_fits test

  module _ (vs : List (Site → Bool)) (test : IsTestRun b vs) (s r : ℕ) (g : RegisterValue) (stands : slice_get p.registers r ≡ Some g) (h : compacts p.sessions r s ≡ true) (long : unload_cycle p s 0 ≤ length vs) where
    -- a line's bit in a run cycle is the one of the signature's lines
    line_is : (t : ℕ) (c : Cell) (bit : Bool) → t < 2 ^ p.degree → Contains g.cells c → IsLineBit a.netlist p (state_after p.degree p.mask t) c bit → at vs (run_cycle p s t) (line_site a p c) ≡ bit
    line_is t c bit low within line =
        let there = place_of g.cells c within in
        let cell : IsCell p (length (flat_map (λ (g : RegisterValue). g.cells) (take r p.registers)) + there.0) r c = record { register = g; stands = stands; place = there.0; at = there.1; number = refl } in
        let observer : IsObserver p (length (flat_map (λ (g : RegisterValue). g.cells) (take r p.registers)) + there.0) r c = record { stands = cell; observes = observes a.netlist p s r _ c (w.plan.meets Sessions) h cell } in
        let less : run_cycle p s t < length vs = omega (arith, low, long) in
        let own = line_follows a p w.original.netlist w.plan by_op vs (trace vs test) (run_cycle p s t) _ r c line.start less observer line.begins in
        let coded = leaves_only by_op a.netlist.gates (is_stop a.netlist p) line.start (λ net. at vs (run_cycle p s t) (read_site a p net)) (code_at p (state_after p.degree p.mask t)) (at vs (run_cycle p s t) (line_site a p c))
        (λ net leaf. leaf_is_coded a p w.original.netlist w.plan by_op vs (trace vs test) s t r _ net c low less cell h (record { start = line.start; begins = line.begins; leaf = leaf })) own in
        one_bit by_op a.netlist.gates w.plan.order.0 (is_stop a.netlist p) line.start (code_at p (state_after p.degree p.mask t)) (at vs (run_cycle p s t) (line_site a p c)) bit w.plan.order.1 (free_stops a.netlist p) coded line.computes

    signed_is : (written : ℕ) → HasSignature a.netlist p g written → written ≡ from_bits (signature_until a p vs s g (2 ^ p.degree))
    signed_is written is =
        let same : map (λ t. map (is.bits t) g.cells) (range_with_len 0 (2 ^ p.degree)) ≡ map (lines_at a p vs s g) (range_with_len 0 (2 ^ p.degree)) =
        map_on (λ t. map (is.bits t) g.cells) (lines_at a p vs s g) (range_with_len 0 (2 ^ p.degree)) (λ t in_range.
        let low : t < 2 ^ p.degree = (let l = below_end 0 (2 ^ p.degree) t in_range in omega (arith, l)) in
        map_on (is.bits t) (λ (c : Cell). at vs (run_cycle p s t) (line_site a p c)) g.cells (λ c within. sym (line_is t c (is.bits t c) low within (is.lines t c low within)))) in
        is.is ∙ ap (λ cycles. from_bits (signature (length g.cells) g.mask cycles)) (same ∙ sym (until_range (lines_at a p vs s g) (2 ^ p.degree)))

  -- the written value of a listed register
  signed_register : (vs : List (Site → Bool)) → IsTestRun b vs → (s r written : ℕ) (g : RegisterValue) → slice_get p.registers r ≡ Some g → compacts p.sessions r s ≡ true → unload_cycle p s 0 ≤ length vs → IsSigned a.netlist p r written
      → written ≡ from_bits (signature_until a p vs s g (2 ^ p.degree))
  signed_register vs test s r written g stands h long is =
      let both : Some is.0 ≡ Some g = sym is.1 ∙ stands in
      let same : is.0 ≡ g = cc both in
      signed_is vs test s r g stands h long written (subst (λ (g : RegisterValue). HasSignature a.netlist p g written) same is.2)

-- two lists place by place
zip_at : {X Y : Type 0} (P : X → Y → Type 0) (xs : List X) (ys : List Y) (k : ℕ) (x : X) (y : Y) → AllZip P xs ys → slice_get xs k ≡ Some x → slice_get ys k ≡ Some y → P x y
zip_at P [] ys k x y h there other = absurd (cc there)
zip_at P (z ∷ xs) [] k x y h there other = absurd h
zip_at P (z ∷ xs) (v ∷ ys) zero x y h there other =
    let one : z ≡ x = cc there in
    let two : v ≡ y = cc other in
    subst (P x) two (subst (λ z. P z v) one h.0)
zip_at P (z ∷ xs) (v ∷ ys) (suc k) x y h there other = zip_at P xs ys k x y h.1 there other

zip_long : {X Y : Type 0} (P : X → Y → Type 0) (xs : List X) (ys : List Y) → AllZip P xs ys → length xs ≡ length ys
zip_long P [] [] h = refl
zip_long P [] (y ∷ ys) h = absurd h
zip_long P (x ∷ xs) [] h = absurd h
zip_long P (x ∷ xs) (y ∷ ys) h = ap suc (zip_long P xs ys h.1)

zip_then : {X Y : Type 0} (P Q : X → Y → Type 0) (xs : List X) (ys : List Y) → ((x : X) (y : Y) → P x y → Q x y) → AllZip P xs ys → AllZip Q xs ys
zip_then P Q [] [] f h = tt
zip_then P Q [] (y ∷ ys) f h = absurd h
zip_then P Q (x ∷ xs) [] f h = absurd h
zip_then P Q (x ∷ xs) (y ∷ ys) f h = (f x y h.0, zip_then P Q xs ys f h.1)

-- the bits of a cell in its register's value
long_bits : (k x : ℕ) → length (bits k x) ≡ k
long_bits zero x = refl
long_bits (suc k) x = ap suc (long_bits k (x / 2))

no_bits : (k i : ℕ) → get_or (bits k 0) i false ≡ false
no_bits zero i = refl
no_bits (suc k) zero = refl
no_bits (suc k) (suc i) = no_bits k i

value_bits_at : (session values : List ℕ) (registers : List RegisterValue) (r k : ℕ) (g : RegisterValue) (place : ℕ) → slice_get registers k ≡ Some g → place < length g.cells
    → get_or (value_bits session values r registers) (length (flat_map (λ (g : RegisterValue). g.cells) (take k registers)) + place) false ≡ get_or (bits (length g.cells) (value_of session values (r + k))) place false
value_bits_at session values [] r k g place there less = absurd (cc there)
value_bits_at session values (x ∷ registers) r zero g place there less =
    let same : x ≡ g = cc there in
    let number : r ≡ r + 0 = omega arith in
    let long = long_bits (length x.cells) (value_of session values r) in
    let cells : length x.cells ≡ length g.cells = ap (λ (g : RegisterValue). length g.cells) same in
    let within : place < length (bits (length x.cells) (value_of session values r)) = omega (arith, long, cells, less) in
    let index : 0 + place ≡ place = omega arith in
    ap (λ k. get_or (bits (length x.cells) (value_of session values r) ++ value_bits session values (suc r) registers) k false) index
    ∙ get_or_append_left (bits (length x.cells) (value_of session values r)) (value_bits session values (suc r) registers) false place within
    ∙ (λ j. get_or (bits (cells j) (value_of session values (number j))) place false)
value_bits_at session values (x ∷ registers) r (suc k) g place there less =
    let long : length (bits (length x.cells) (value_of session values r)) ≡ length x.cells = long_bits (length x.cells) (value_of session values r) in
    let joined = length-append x.cells (flat_map (λ (g : RegisterValue). g.cells) (take k registers)) in
    let index : length (x.cells ++ flat_map (λ (g : RegisterValue). g.cells) (take k registers)) + place
    ≡ length (bits (length x.cells) (value_of session values r)) + (length (flat_map (λ (g : RegisterValue). g.cells) (take k registers)) + place) = omega (arith, joined, long) in
    let next : suc r + k ≡ r + suc k = omega arith in
    ap (λ i. get_or (bits (length x.cells) (value_of session values r) ++ value_bits session values (suc r) registers) i false) index
    ∙ get_or-append-add (bits (length x.cells) (value_of session values r)) (value_bits session values (suc r) registers) (length (flat_map (λ (g : RegisterValue). g.cells) (take k registers)) + place) false
    ∙ value_bits_at session values registers (suc r) k g place there less ∙ ap (λ n. get_or (bits (length g.cells) (value_of session values n)) place false) next

-- whether a session lists a register
compacts_is : (r : ℕ) (sessions : List (List ℕ)) (s : ℕ) (session : List ℕ) → slice_get sessions s ≡ Some session → compacts sessions r s ≡ lists_register r session
compacts_is r [] s session there = absurd (cc there)
compacts_is r (x ∷ sessions) zero session there = let same : x ≡ session = cc there in ap (lists_register r) same
compacts_is r (x ∷ sessions) (suc s) session there = compacts_is r sessions s session there

-- a register that no session lists has the value 0
unlisted : (r : ℕ) (session values : List ℕ) → lists_register r session ≡ false → value_of session values r ≡ 0
unlisted r [] values h = refl
unlisted r (x ∷ session) [] h = refl
unlisted r (x ∷ session) (v ∷ values) h = by (nat_eq r x) refl h (λ h. unlisted r session values h)
  where
    by : (b : Bool) → nat_eq r x ≡ b → (b || lists_register r session) ≡ false → (lists_register r session ≡ false → value_of session values r ≡ 0) → (if x == r then v else value_of session values r) ≡ 0
    by true e h more = absurd (cc h)
    by false e h more = let other : (x == r) ≡ false = grind (arith, nat_tests, e) in ap (λ b. if b then v else value_of session values r) other ∙ more h

-- and a listed one has its own
listed_value : (P : ℕ → ℕ → Type 0) (r : ℕ) (session values : List ℕ) → AllZip P session values → lists_register r session ≡ true → P r (value_of session values r)
listed_value P r [] values all h = absurd (cc h)
listed_value P r (x ∷ session) [] all h = absurd all
listed_value P r (x ∷ session) (v ∷ values) all h = by (nat_eq r x) refl h (λ h. listed_value P r session values all.1 h)
  where
    by : (b : Bool) → nat_eq r x ≡ b → (b || lists_register r session) ≡ true → (lists_register r session ≡ true → P r (value_of session values r)) → P r (if x == r then v else value_of session values r)
    by true e h more =
        let same : x ≡ r = grind (arith, nat_tests, e) in
        let found : (x == r) ≡ true = grind (arith, nat_tests, e) in
        subst (λ b. P r (if b then v else value_of session values r)) (sym found) (subst (λ n. P n v) same all.0)
    by false e h more = let other : (x == r) ≡ false = grind (arith, nat_tests, e) in subst (λ b. P r (if b then v else value_of session values r)) (sym other) (more h)

module _ (a b : Named) (p : PlanValue) (signatures : List (List ℕ)) (w : IsWrittenNetlist a b p) (signed : AreSignatures a.netlist p signatures) where
  values_at : (s : ℕ) (session values : List ℕ) → slice_get p.sessions s ≡ Some session → slice_get signatures s ≡ Some values → AllZip (IsSigned a.netlist p) session values
  values_at s session values there other = zip_at (λ session written. AllZip (IsSigned a.netlist p) session written) p.sessions signatures s session values signed there other

  written_is : (s j r written : ℕ) (g : RegisterValue) → IsWrittenValue p signatures s j r written → slice_get p.registers r ≡ Some g → (vs : List (Site → Bool)) → IsTestRun b vs → unload_cycle p s 0 ≤ length vs
      → written ≡ from_bits (signature_until a p vs s g (2 ^ p.degree))
  written_is s j r written g is stands vs test long =
      let own = zip_at (IsSigned a.netlist p) is.session is.values j r written (values_at s is.session is.values is.session_stands is.values_stand) is.listed is.is in
      signed_register a b p w vs test s r written g stands (compacts_at r p.sessions s is.session is.session_stands (contains_at is.session j r is.listed)) long own

  pub signs : Signs a b p signatures
  signs = record {
    running = holds a b p no_change w (no_change_fits a b p w);
    one_each = zip_then (λ session written. AllZip (IsSigned a.netlist p) session written) (λ session values. length session ≡ length values) p.sessions signatures (λ session values h. zip_long (IsSigned a.netlist p) session values h) signed;
    written = written_is;
  }

  -- the bit of a cell in the written values
  module _ (vs : List (Site → Bool)) (test : IsTestRun b vs) (s : ℕ) (session values : List ℕ) (at_session : slice_get p.sessions s ≡ Some session) (all : AllZip (IsSigned a.netlist p) session values)
      (less : unload_cycle p s 0 < length vs) (i r : ℕ) (c : Cell) (cell : IsCell p i r c) where
    cell_bit : (b : Bool) → compacts p.sessions r s ≡ b → (b && at vs (unload_cycle p s 0) (q_site a i c)) ≡ get_or (bits (length cell.register.cells) (value_of session values r)) cell.place false
    cell_bit false h = sym (ap (λ n. get_or (bits (length cell.register.cells) n) cell.place false) (unlisted r session values (sym (compacts_is r p.sessions s session at_session) ∙ h)) ∙ no_bits (length cell.register.cells) cell.place)
    cell_bit true h =
        let register : IsRegisterAt p (length (flat_map (λ (g : RegisterValue). g.cells) (take r p.registers))) r cell.register = record { stands = cell.stands; first = refl } in
        let same : unload_cycle p s 0 ≡ run_cycle p s (2 ^ p.degree) = omega arith in
        let there : run_cycle p s (2 ^ p.degree) < length vs = omega (arith, same, less) in
        let held = holds_until a p w.original.netlist w.plan by_op vs (trace a b p w vs test) s (2 ^ p.degree) (length (flat_map (λ (g : RegisterValue). g.cells) (take r p.registers))) r cell.register (omega arith) there register h in
        let own = listed_value (IsSigned a.netlist p) r session values all (sym (compacts_is r p.sessions s session at_session) ∙ h) in
        let written = signed_register a b p w vs test s r (value_of session values r) cell.register cell.stands h (omega (arith, less)) own in
        let long : length (signature_until a p vs s cell.register (2 ^ p.degree)) ≡ length cell.register.cells =
        ap length (sym held) ∙ length_map (at vs (run_cycle p s (2 ^ p.degree))) (q_sites_from a (length (flat_map (λ (g : RegisterValue). g.cells) (take r p.registers))) cell.register.cells)
        ∙ length_map (wire_site a) (qs_from (length (flat_map (λ (g : RegisterValue). g.cells) (take r p.registers))) cell.register.cells) ∙ qs_long (length (flat_map (λ (g : RegisterValue). g.cells) (take r p.registers))) cell.register.cells in
        let of_value : bits (length cell.register.cells) (value_of session values r) ≡ signature_until a p vs s cell.register (2 ^ p.degree) =
        (let back = sym long in λ j. bits (back j) (written j)) ∙ bits-from_bits (signature_until a p vs s cell.register (2 ^ p.degree)) in
        (λ j. at vs (same j) (q_site a (cell.number j) c))
        ∙ sym (q_bit (λ v. at vs (run_cycle p s (2 ^ p.degree)) (wire_site a v)) (length (flat_map (λ (g : RegisterValue). g.cells) (take r p.registers))) cell.register.cells cell.place c cell.at)
        ∙ ap (λ bs. get_or bs cell.place false) (sym (map_twice (at vs (run_cycle p s (2 ^ p.degree))) (wire_site a) (qs_from (length (flat_map (λ (g : RegisterValue). g.cells) (take r p.registers))) cell.register.cells)) ∙ held ∙ sym of_value)

  out_at : (vs : List (Site → Bool)) → IsTestRun b vs → (s j i r : ℕ) (c : Cell) (session values : List ℕ) → slice_get p.sessions s ≡ Some session → AllZip (IsSigned a.netlist p) session values → s < length p.sessions
      → IsCell p i r c → i + suc j ≡ length (chain p) → unload_cycle p s j < length vs → at vs (unload_cycle p s j) site_so ≡ get_or (value_bits session values 0 p.registers) i false
  out_at vs test s j i r c session values stands all low cell place less =
      let start : unload_cycle p s 0 < length vs = omega (arith, less) in
      let number : 0 + r ≡ r = omega arith in
      cell_comes_out a p w.original.netlist w.plan by_op vs (trace a b p w vs test) s j i r c low cell place less
      ∙ cell_bit vs test s session values stands all start i r c cell (compacts p.sessions r s) refl
      ∙ sym (ap (λ n. get_or (bits (length cell.register.cells) (value_of session values n)) cell.place false) number)
      ∙ sym (value_bits_at session values p.registers 0 r cell.register cell.place cell.stands (slice_get_within cell.register.cells cell.place c cell.at))
      ∙ ap (λ k. get_or (value_bits session values 0 p.registers) k false) (sym cell.number)

  out : (vs : List (Site → Bool)) → IsTestRun b vs → (s j : ℕ) → s < length p.sessions → j < length (chain p) → unload_cycle p s j < length vs → at vs (unload_cycle p s j) site_so ≡ value_bit p signatures s (length (chain p) - 1 - j)
  out vs test s j low small less =
      let place : (length (chain p) - 1 - j) + suc j ≡ length (chain p) = omega (arith, small) in
      let c = get_some (chain p) (length (chain p) - 1 - j) (omega (arith, small)) in
      let cell = in_register p (length (chain p) - 1 - j) c.0 c.1 in
      let session = slice_get-get_or p.sessions s [] low in
      let as_long = zip_long (λ session written. AllZip (IsSigned a.netlist p) session written) p.sessions signatures signed in
      let values = slice_get-get_or signatures s [] (omega (arith, low, as_long)) in
      out_at vs test s j (length (chain p) - 1 - j) cell.0 c.0 (get_or p.sessions s []) (get_or signatures s []) session (values_at s (get_or p.sessions s []) (get_or signatures s []) session values) low cell.1 place less

  pub unloads : Unloads b p signatures
  unloads = record { out = out; quiet = quiet a b p no_change w (no_change_fits a b p w); done = tells_end a b p no_change w (no_change_fits a b p w) }
