-- The first bit of the variables that is driven twice is the first net with two drivers.
use Rattle.std.proofs.Common.{arith, ◌≡◌, ℕ, zero, suc, ◌+◌, ◌-◌, ◌<◌, ◌≤◌, nat_lt, Bool, true, false, ◌||◌, cond, List, [], ◌∷◌, ◌++◌, map, length, refl, sym, ap, ◌∙◌}
use Rattle.std.proofs.lemmas.Bool.Decides.{nat_tests}
use Rattle.std.specs.Prelude.{Option, Some, None, nat_eq, find, filter, flat_map, count_by}
use Rattle.std.specs.List.{range_with_len}
use Rattle.std.specs.Option.{option_map, option_or}
use Rattle.bb_base.specs.Variables.{Entry, Bit, bit_in, bit_of, bit_count, range_width, is_input}
use Rattle.bb_base.specs.declared.variable.BitName.{BitName}
use Rattle.bb_base.proofs.Lists.{get_front}
use Rattle.bb_base.specs.Net.{Gate}
use Rattle.bb_parse.specs.declared.syntax.Module.{Module}
use Rattle.bb_parse.specs.declared.syntax.Item.{Item}
use Rattle.bb_parse.specs.declared.syntax.Item.TheVariants as item
use Rattle.bb_fault.specs.declared.fault.ElabFault.{ElabFault}
use Rattle.bb_fault.specs.declared.fault.ElabFault.TheVariants.{TwoDrivers}
use Rattle.bb_fault.specs.Firsts.{first_answer}
use Rattle.bb_fault.proofs.Parted.{none-first, none-second}
use Rattle.bb_scope.specs.Variables.{variables}
use Rattle.bb_scope.specs.Parts.{item_fault, bad_part}
use Rattle.bb_fault.specs.Work.{Work, Clocked}
use Rattle.bb_drive.specs.Nets.{made_names, made_count, made_variable, all_variables, bits_from, input_bits, bits_driven, bits_read, has_bit, nets, bit_name, bit_text, undriven, driver_fault}
use Rattle.bb_scope.specs.Making.{item_made, items_made, work_of}
use Rattle.bb_targets.specs.Targets.{item_targets, targets, first_twice, twice_fault}
use Rattle.bb_targets.proofs.MarkLaws.{hits, hits_head, hits_join}
use Rattle.bb_targets.proofs.Adding.{Adds, drivers}
use Rattle.bb_targets.proofs.AddedSteps.{assign-adds, prim-adds}
use Rattle.bb_targets.proofs.AddedCells.{cell-adds}

-- items -------------------------------------------------------------------------

item-adds : (b : ℕ) (table : List Entry) (i : Item) (w : Work) → b < w.fresh → item_fault table i ≡ None → Adds b (hits b (item_targets table i)) w (item_made table i w)
item-adds b table (item.Decl decl) w small fine = record { grows = omega arith; adds = omega arith }
item-adds b table (item.Assign line left right) w small fine = assign-adds b table line left right w small fine
item-adds b table (item.Prim line op terms) w small fine = prim-adds b table op terms w small
item-adds b table (item.Cell line cell conns) w small fine = cell-adds b table line cell conns w small fine

-- so many drivers of the bit are added by items
record AddAll (b n : ℕ) (w v : Work) : Type 0 where
  grows : w.fresh ≤ v.fresh
  adds : drivers b v ≡ drivers b w + n

items-add :
    (b : ℕ) (table : List Entry) (items : List Item) (w : Work) → b < w.fresh → first_answer (item_fault table) items ≡ None
    → AddAll b (hits b (flat_map (item_targets table) items)) w (items_made table items w)
items-add b table [] w small fine = record { grows = omega arith; adds = omega arith }
items-add b table (i ∷ items) w small fine =
    let one = item-adds b table i w small (none-first (item_fault table i) (first_answer (item_fault table) items) fine) in
    let k = items-add b table items (item_made table i w).1 (omega (arith, small, one.grows)) (none-second (item_fault table i) (first_answer (item_fault table) items) fine) in
    record { grows = omega (arith, one.grows, k.grows); adds = omega (arith, one.adds, k.adds, hits_join b (item_targets table i) (flat_map (item_targets table) items)) }

work-adds : (b : ℕ) (m : Module) → b < bit_count (variables m) → bad_part m ≡ None
    → AddAll b (hits b (flat_map (item_targets (variables m)) m.items)) (record { fresh = bit_count (variables m); gates = []; flops = [] }) (work_of (variables m) m.items)
work-adds b m small fine = items-add b (variables m) m.items (record { fresh = bit_count (variables m); gates = []; flops = [] }) small fine

-- all bits ------------------------------------------------------------------------

-- made wires are no inputs
wires_no_inputs : (first : ℕ) (names : List (List ℕ)) → bits_from is_input first (map made_variable names) ≡ []
wires_no_inputs first [] = refl
wires_no_inputs first (n ∷ names) = wires_no_inputs (first + 1) names

same_inputs : (first : ℕ) (vars : List Entry) (names : List (List ℕ)) → bits_from is_input first (vars ++ map made_variable names) ≡ bits_from is_input first vars
same_inputs first [] names = wires_no_inputs first names
same_inputs first (v ∷ vars) names = ap (λ z. cond (is_input v.1.role) (range_with_len first (range_width v.1.range)) [] ++ z) (same_inputs (first + range_width v.1.range) vars names)

-- a bit of the first variables has its name among all
record IsFront (number : ℕ) (vs ws : List Entry) (b : ℕ) : Type 0 where
  same : bit_name number (vs ++ ws) b ≡ bit_name number vs b
  small : (bit_name number vs b).variable < number + length vs

name_front : (number : ℕ) (vs ws : List Entry) (b : ℕ) → b < bit_count vs → IsFront number vs ws b
name_front number [] ws b h = absurd (omega (arith, h))
name_front number (v ∷ vs) ws b h = go (nat_lt b (range_width v.1.range)) refl (λ less. name_front (suc number) vs ws (b - range_width v.1.range) less)
  where
    go : (t : Bool) → nat_lt b (range_width v.1.range) ≡ t → (b - range_width v.1.range < bit_count vs → IsFront (suc number) vs ws (b - range_width v.1.range)) → IsFront number (v ∷ vs) ws b
    go true e more =
        let here : bit_name number (v ∷ vs) b ≡ record { variable = number; place = b } = ap (λ t. cond t (record { variable = number; place = b }) (bit_name (suc number) vs (b - range_width v.1.range))) e in
        let there : bit_name number (v ∷ vs ++ ws) b ≡ record { variable = number; place = b } = ap (λ t. cond t (record { variable = number; place = b }) (bit_name (suc number) (vs ++ ws) (b - range_width v.1.range))) e in
        record { same = there ∙ sym here; small = omega (arith, ap (λ (x : BitName). x.variable) here) }
    go false e more =
        let past : range_width v.1.range ≤ b = grind (arith, nat_tests, e) in
        let rest = more (omega (arith, h, past)) in
        let here : bit_name number (v ∷ vs) b ≡ bit_name (suc number) vs (b - range_width v.1.range) = ap (λ t. cond t (record { variable = number; place = b }) (bit_name (suc number) vs (b - range_width v.1.range))) e in
        let there : bit_name number (v ∷ vs ++ ws) b ≡ bit_name (suc number) (vs ++ ws) (b - range_width v.1.range) = ap (λ t. cond t (record { variable = number; place = b }) (bit_name (suc number) (vs ++ ws) (b - range_width v.1.range))) e in
        record { same = there ∙ (rest.same ∙ sym here); small = omega (arith, rest.small, ap (λ (x : BitName). x.variable) here) }

pub text_front : (vs ws : List Entry) (b : ℕ) → b < bit_count vs → bit_text (vs ++ ws) b ≡ bit_text vs b
text_front vs ws b h =
    let f = name_front 0 vs ws b h in
    ap (bit_of (vs ++ ws)) f.same ∙ ap (λ o. bit_in o (bit_name 0 vs b).place) (get_front vs ws (bit_name 0 vs b).variable (omega (arith, f.small)))

-- searches --------------------------------------------------------------------------

-- what is found is in the range
pub found_below : (p : ℕ → Bool) (from n b : ℕ) → find p (range_with_len from n) ≡ Some b → b < from + n
found_below p from zero b e = absurd (cc e)
found_below p from (suc n) b e = by (p from) e (found_below p (from + 1) n b)
  where
    by : (t : Bool) → cond t (Some from) (find p (range_with_len (from + 1) n)) ≡ Some b → (find p (range_with_len (from + 1) n) ≡ Some b → b < from + 1 + n) → b < from + suc n
    by true e rest = let same : from ≡ b = cc e in omega (arith, same)
    by false e rest = let less = rest e in omega (arith, less)

-- the first of some numbers is the first of more, where the tests agree on those
found_more : (p q : ℕ → Bool) (from n more b : ℕ) → ((c : ℕ) → c < from + n → q c ≡ p c) → find p (range_with_len from n) ≡ Some b → find q (range_with_len from (n + more)) ≡ Some b
found_more p q from zero more b agree e = absurd (cc e)
found_more p q from (suc n) more b agree e =
    let sums : suc n + more ≡ suc (n + more) = omega arith in
    ap (λ k. find q (range_with_len from k)) sums
    ∙ (ap (λ t. cond t (Some from) (find q (range_with_len (from + 1) (n + more)))) (agree from (omega arith)) ∙ by (p from) e (found_more p q (from + 1) n more b (λ c less. agree c (omega (arith, less)))))
  where
    by : (t : Bool) → cond t (Some from) (find p (range_with_len (from + 1) n)) ≡ Some b → (find p (range_with_len (from + 1) n) ≡ Some b → find q (range_with_len (from + 1) (n + more)) ≡ Some b)
        → cond t (Some from) (find q (range_with_len (from + 1) (n + more))) ≡ Some b
    by true e rest = e
    by false e rest = rest e

-- a search among those that pass a test which each sought one passes
found_among : (p q : ℕ → Bool) (xs : List ℕ) → ((x : ℕ) → p x ≡ true → q x ≡ true) → find p (filter q xs) ≡ find p xs
found_among p q [] all = refl
found_among p q (x ∷ xs) all = by (q x) (p x) refl refl (found_among p q xs all)
  where
    by : (s t : Bool) → q x ≡ s → p x ≡ t → find p (filter q xs) ≡ find p xs → find p (cond s (x ∷ filter q xs) (filter q xs)) ≡ find p (x ∷ xs)
    by true t e f rest = ap (cond (p x) (Some x)) rest
    by false true e f rest = absurd (clash (sym e ∙ all x f))
      where
        clash : false ≡ true → ⊥
        clash k = cc
    by false false e f rest = rest ∙ ap (λ t. cond t (Some x) (find p xs)) (sym f)

-- a bit that is driven stands among those that are
driven_stands : (b : ℕ) (xs : List ℕ) → 0 < hits b xs → has_bit xs b ≡ true
driven_stands b [] h = absurd (omega (arith, h))
driven_stands b (x ∷ xs) h = by (nat_eq b x) refl (driven_stands b xs)
  where
    by : (t : Bool) → nat_eq b x ≡ t → (0 < hits b xs → has_bit xs b ≡ true) → (t || has_bit xs b) ≡ true
    by true e rest = refl
    by false e rest = rest (omega (arith, h, hits_head b x xs, ap {B = ℕ} (λ (s : Bool). cond s 1 0) e))

-- the fault -------------------------------------------------------------------------

module _ (m : Module) (fine : bad_part m ≡ None) where
  abbrev table : List Entry
  table = variables m

  abbrev w : Work
  w = work_of (variables m) m.items

  abbrev vars : List Entry
  vars = all_variables (variables m) (work_of (variables m) m.items)

  same_hits : (b : ℕ) → b < bit_count table → hits b (bits_driven vars w) ≡ hits b (targets table m.items)
  same_hits b small =
      let names = made_names table (made_count table w) in
      let outs = map (λ (g : Gate ℕ). g.out) w.gates in
      let qs = map (λ (f : Clocked). f.q) w.flops in
      omega (
        arith,
        hits_join b (input_bits vars) (outs ++ qs),
        hits_join b outs qs,
        hits_join b (input_bits table) (flat_map (item_targets table) m.items),
        ap (hits b) (same_inputs 0 table names),
        (work-adds b m small fine).adds,
      )

  is_net : (b : ℕ) → nat_lt 1 (count_by (nat_eq b) (bits_driven vars w)) ≡ true → (has_bit (bits_driven vars w) b || has_bit (bits_read vars w) b) ≡ true
  is_net b e =
      let more : 0 < hits b (bits_driven vars w) = grind (arith, nat_tests, e) in
      ap (λ t. t || has_bit (bits_read vars w) b) (driven_stands b (bits_driven vars w) more)

  first_net_is : (b : ℕ) → first_twice table m.items ≡ Some b → find (λ c. nat_lt 1 (count_by (nat_eq c) (bits_driven vars w))) (nets vars w) ≡ Some b
  first_net_is b e =
      let some = found_below (λ c. nat_lt 1 (count_by (nat_eq c) (targets table m.items))) 0 (bit_count table) b e in
      let grows = (work-adds b m (omega (arith, some)) fine).grows in
      let whole : w.fresh ≡ bit_count table + (w.fresh - bit_count table) = omega (arith, grows) in
      found_among (λ c. nat_lt 1 (count_by (nat_eq c) (bits_driven vars w))) (λ c. has_bit (bits_driven vars w) c || has_bit (bits_read vars w) c) (range_with_len 0 w.fresh) is_net
      ∙ (ap (λ n. find (λ c. nat_lt 1 (count_by (nat_eq c) (bits_driven vars w))) (range_with_len 0 n)) whole
      ∙ found_more (λ c. nat_lt 1 (count_by (nat_eq c) (targets table m.items))) (λ c. nat_lt 1 (count_by (nat_eq c) (bits_driven vars w))) 0 (bit_count table) (w.fresh - bit_count table) b
      (λ c less. ap (nat_lt 1) (same_hits c (omega (arith, less)))) e)

  pub told : (fault : ElabFault) → twice_fault table m.items ≡ Some fault → driver_fault vars w ≡ Some fault
  told fault e = by (first_twice table m.items) refl e
    where
      by : (o : Option ℕ) → first_twice table m.items ≡ o → option_map (λ b. TwoDrivers (bit_text table b).name (bit_text table b).index) o ≡ Some fault → driver_fault vars w ≡ Some fault
      by None k f = absurd (cc f)
      by (Some b) k f =
          let small = found_below (λ c. nat_lt 1 (count_by (nat_eq c) (targets table m.items))) 0 (bit_count table) b k in
          let named : bit_text vars b ≡ bit_text table b = text_front table (map made_variable (made_names table (made_count table w))) b (omega (arith, small)) in
          ap (λ o. option_or (option_map (λ c. TwoDrivers (bit_text vars c).name (bit_text vars c).index) o) (undriven vars w)) (first_net_is b k)
          ∙ (ap (λ (t : Bit). Some (TwoDrivers t.name t.index)) named ∙ f)
