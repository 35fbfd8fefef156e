-- The netlist of a module that uses no name of this project's own: its names, and how many bits it has.
use Rattle.std.proofs.Common.{arith, ◌≡◌, ℕ, ◌+◌, ◌≤◌, ◌^◌, nat_lt, Bool, true, false, not, cond, List, [], ◌∷◌, map, length, filter, refl, sym, ap, ◌∙◌, subst}
use Rattle.std.proofs.lemmas.Bool.Decides.{nat_tests}
use Rattle.std.specs.Prelude.{Option, Some, None, Ok, find}
use Rattle.std.specs.Option.{option_or, option_map}
use Rattle.std.specs.List.{AllByRecursion, range_with_len}
use Rattle.std.specs.Map.{keys_of}
use Rattle.bb_base.specs.Variables.{Entry, bit_count}
use Rattle.bb_base.specs.OwnNames.{is_reserved, made_name}
use Rattle.bb_base.proofs.Lists.{all_join, all_map_back}
use Rattle.bb_base.specs.Order.{HasOrder}
use Rattle.bb_base.specs.Named.{Named}
use Rattle.bb_net.proofs.CountLemmas.{variables_few}
use Rattle.bb_parse.specs.declared.syntax.Module.{Module}
use Rattle.bb_parse.specs.Sound.{IsSoundModule}
use Rattle.bb_fault.specs.Limits.{too_many}
use Rattle.bb_fault.specs.declared.fault.ElabFault.{ElabFault}
use Rattle.bb_fault.specs.declared.fault.ElabFault.TheVariants.{Reserved}
use Rattle.bb_fault.proofs.Parted.{none-first, none-second}
use Rattle.bb_scope.specs.Cells.{unknown_cell}
use Rattle.bb_scope.specs.Declarations.{redeclared, bad_port}
use Rattle.bb_scope.specs.Names.{mentioned, reserved}
use Rattle.bb_scope.specs.Variables.{variables}
use Rattle.bb_width.proofs.TableLaws.{first_use}
use Rattle.bb_scope.specs.Parts.{bad_part, too_many_bits}
use Rattle.bb_scope.specs.Text.{name_fault, text_fault}
use Rattle.bb_drive.specs.Nets.{is_variable, made_count, made_names, made_variable}
use Rattle.bb_meaning.proofs.AllItems.{all_take, all_filter, all_range}
use Rattle.bb_scope.proofs.Counting.{module-fresh}
use Rattle.bb_meaning.specs.Outcome.{first_fault, denoted, net_fault, too_many_made, variables_in, work_in, IsOutcome}
use Rattle.bb_meaning.proofs.CountedFault.{counted_first}
use Rattle.bb_elab.proofs.DenotedLaws.{denoted-fits}
use Rattle.bb_elab.proofs.NameLaws.{bits_are_all}
use Rattle.bb_elab.proofs.PortLaws.{IsFine, fine_text}
use Rattle.bb_ctl.specs.OwnNames.{IsOwnName}
use Rattle.bb_read.specs.Ready.{IsReady}

-- where a search finds nothing, no item passes
all_fail : {X : Type 0} (p : X → Bool) (xs : List X) → find p xs ≡ None → AllByRecursion (λ x. p x ≡ false) xs
all_fail p [] none = tt
all_fail p (x ∷ xs) none = by (p x) refl none (all_fail p xs)
  where
    by : (t : Bool) → p x ≡ t → cond t (Some x) (find p xs) ≡ None → (find p xs ≡ None → AllByRecursion (λ y. p y ≡ false) xs) → (p x ≡ false) × AllByRecursion (λ y. p y ≡ false) xs
    by true e found rest = absurd (cc found)
    by false e found rest = (e, rest found)

-- a name that isn't reserved may stand
plain_name : (name : List ℕ) → is_reserved name ≡ false → IsOwnName name
plain_name name plain = λ own. absurd (clash (sym own ∙ plain))
  where
    clash : true ≡ false → ⊥
    clash e = cc

-- and so may the names of all variables of a text that uses no reserved one
plain_keys : (vars : List Entry) → AllByRecursion (λ name. is_reserved name ≡ false) (keys_of vars) → AllByRecursion (λ (v : Entry). IsOwnName v.0) vars
plain_keys [] all = tt
plain_keys (v ∷ vars) all = (plain_name v.0 all.0, plain_keys vars all.1)

none_mentioned : (m : Module) → reserved false m ≡ None → find is_reserved (mentioned m) ≡ None
none_mentioned m none = by (is_reserved m.name) refl
  where
    unmapped : (o : Option (List ℕ)) → ◌≡◌ {A = Option ElabFault} (option_map (λ name. Reserved name None) o) None → o ≡ None
    unmapped None e = refl
    unmapped (Some name) e = absurd (cc e)

    nothing : find is_reserved (m.name ∷ mentioned m) ≡ None
    nothing = unmapped (find is_reserved (m.name ∷ mentioned m)) none

    by : (t : Bool) → is_reserved m.name ≡ t → find is_reserved (mentioned m) ≡ None
    by true e = absurd (cc (sym (ap (λ b. cond b (Some m.name) (find is_reserved (mentioned m))) e) ∙ nothing))
    by false e = sym (ap (λ b. cond b (Some m.name) (find is_reserved (mentioned m))) e) ∙ nothing

text_names : (m : Module) → reserved false m ≡ None → AllByRecursion (λ (v : Entry). IsOwnName v.0) (variables m)
text_names m none = plain_keys (variables m) (all_fail is_reserved (keys_of (variables m)) (first_use is_reserved m (variables m) refl ∙ none_mentioned m none))

-- made wires have names of made wires
wire_names : (table : List Entry) (count : ℕ) → count + length table ≤ 2 ^ 32 → AllByRecursion (λ (v : Entry). IsOwnName v.0) (map made_variable (made_names table count))
wire_names table count few =
    all_map_back (λ (v : Entry). IsOwnName v.0) IsOwnName made_variable (λ name own. own) (made_names table count)
    (all_take IsOwnName count (filter (λ n. not (is_variable table n)) (map made_name (range_with_len 0 (count + length table))))
    (all_filter IsOwnName (λ n. not (is_variable table n)) (map made_name (range_with_len 0 (count + length table)))
    (all_range IsOwnName made_name (2 ^ 32) 0 (count + length table) (λ k less own. (k, less, refl)) (omega (arith, few)))))

-- a count without a fault is within the limit of such texts
within : (count : ℕ) → too_many false count ≡ None → count ≤ 2097152
within count none = by (nat_lt 2097152 count) refl
  where
    by : (t : Bool) → nat_lt 2097152 count ≡ t → count ≤ 2097152
    by true e = absurd (grind (arith, e, none))
    by false e = grind (arith, nat_tests, e)

module _ (m : Module) (none : first_fault false m ≡ None) where
  abbrev nets : Option ElabFault
  nets = net_fault (variables_in m) (work_in m)

  names : name_fault false m ≡ None
  names = none-first (name_fault false m) (option_or (unknown_cell m) (option_or (bad_part m) (option_or (too_many_made false m) nets))) none

  made : too_many_made false m ≡ None
  made =
      let cells = none-second (name_fault false m) (option_or (unknown_cell m) (option_or (bad_part m) (option_or (too_many_made false m) nets))) none in
      let parts = none-second (unknown_cell m) (option_or (bad_part m) (option_or (too_many_made false m) nets)) cells in
      none-first (too_many_made false m) nets (none-second (bad_part m) (option_or (too_many_made false m) nets) parts)

  fine : IsFine m
  fine = fine_text false m (none-first (text_fault false m) nets (sym (counted_first false m) ∙ none))

  -- the variables have few bits, made wires among them
  pub few_bits : bit_count (variables_in m) ≤ 2097152
  few_bits = omega (arith, bits_are_all m fine, within (work_in m).fresh made)

  -- and names of their own
  pub own_names : AllByRecursion (λ (v : Entry). IsOwnName v.0) (variables_in m)
  own_names =
      let count = made_count (variables m) (work_in m) in
      all_join (λ (v : Entry). IsOwnName v.0) (variables m) (map made_variable (made_names (variables m) count))
      (text_names m (none-first (reserved false m) (option_or (redeclared m) (option_or (bad_port m) (too_many_bits false m))) names))
      (wire_names (variables m) count (omega (arith, module-fresh m fine.parts, variables_few (variables m), within (work_in m).fresh made)))

-- what a module denotes is ready
pub module-ready : (m : Module) (a : Named) → IsSoundModule m → IsOutcome false m (Ok a) → IsReady a
module-ready m a sound is =
    let denoted_ready : (HasOrder (denoted m).netlist.gates) → IsReady (denoted m) = λ order. record { named = denoted-fits false m is.0 sound; ordered = order; own_names = own_names m is.0; few = few_bits m is.0 } in
    subst IsReady (sym is.1) (denoted_ready (subst (λ n. HasOrder n.netlist.gates) is.1 is.2))
