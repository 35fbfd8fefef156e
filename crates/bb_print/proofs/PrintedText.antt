-- A module of declarations and sound items: its variables, and that its text shows no fault.
use Rattle.std.proofs.Common.{◌≡◌, ℕ, ◌+◌, ◌≤◌, List, [], ◌∷◌, ◌++◌, map, None, Option, Bool, true, false, nat_lt, refl, sym, ap, ◌∙◌, arith, append-nil, subst}
use Rattle.std.specs.Prelude.{flat_map, fold, find}
use Rattle.std.specs.List.{AllByRecursion, list_any}
use Rattle.std.proofs.lemmas.List.Concat.{flat_map-append}
use Rattle.std.specs.Option.{option_map, option_or}
use Rattle.std.proofs.lemmas.Bool.Decides.{nat_tests}
use Rattle.bb_lex.specs.Text.{number}
use Rattle.bb_base.specs.Variables.{Entry, bit_count, limit_of}
use Rattle.bb_parse.specs.declared.syntax.Decl.{Decl}
use Rattle.bb_parse.specs.declared.syntax.Item.{Item}
use Rattle.bb_parse.specs.declared.syntax.Header.TheVariants.{Plain}
use Rattle.bb_parse.specs.declared.syntax.Module.{Module}
use Rattle.bb_fault.specs.declared.fault.ElabFault.TheVariants.{Redeclared, BadPort, Reserved}
use Rattle.bb_fault.specs.Firsts.{first_answer, first_behind}
use Rattle.bb_scope.specs.Names.{has_name, item_names, variable_names, reserved, mentioned}
use Rattle.bb_base.specs.OwnNames.{is_reserved}
use Rattle.bb_scope.specs.Declarations.{item_decls, declarations, clashes, is_odd_port, is_stray, redeclared, bad_port}
use Rattle.bb_scope.specs.Variables.{variables, entry_of}
use Rattle.bb_fault.specs.Limits.{too_many}
use Rattle.bb_scope.specs.Cells.{unknown_item, unknown_cell}
use Rattle.bb_scope.specs.Parts.{item_fault, bad_part, all_bits, too_many_bits, too_many_nets}
use Rattle.bb_scope.specs.Text.{text_fault, name_fault, part_fault}
use Rattle.bb_fault.proofs.Keys.{same_name}
use Rattle.std.specs.Str.{bytes_eq}
use Rattle.bb_scope.specs.Making.{work_of}
use Rattle.bb_scope.proofs.Counting.{module-fresh}
use Rattle.bb_base.proofs.Lists.{all_join, all_map_back}
use Rattle.bb_spell.specs.Canonical.{port_names}
use Rattle.bb_canon_parse.specs.Printed.{declared, by_lines}
use Rattle.bb_print.proofs.PrintedBits.{Differ}
use Rattle.bb_print.proofs.PrintedNames.{names_of, PortsFirst, names_again, decls_by, entries_again, undeclared_twice, none_before, no_odd_port, new_ports, ports_directed, no_stray, port, filter_names}
use Rattle.bb_print.proofs.PrintedItems.{IsSound}
use Rattle.bb_print.proofs.Sieves.{flat_all, or_none, weaken, or_parts, none_found}
use Rattle.bb_scope.specs.Names.{with_new_name}

flat_none : {X Y : Type 0} (f : X → List Y) (xs : List X) → AllByRecursion (λ x. f x ≡ []) xs → flat_map f xs ≡ []
flat_none f [] h = refl
flat_none f (x ∷ xs) h = (λ i. h.0 i ++ flat_none f xs h.1 i)

answer_none : {X A : Type 0} (f : X → Option A) (xs : List X) → AllByRecursion (λ x. f x ≡ None) xs → first_answer f xs ≡ None
answer_none f [] h = refl
answer_none f (x ∷ xs) h = or_none (f x) (first_answer f xs) h.0 (answer_none f xs h.1)

-- the items that declare
declared_names : (before : ℕ) (vs : List Entry) → flat_map item_names (by_lines declared before vs) ≡ names_of vs
declared_names before [] = refl
declared_names before (v ∷ vs) = ap (λ z. v.0 ∷ z) (declared_names (before + 1) vs)

declared_decls : (before : ℕ) (vs : List Entry) → flat_map item_decls (by_lines declared before vs) ≡ decls_by before vs
declared_decls before [] = refl
declared_decls before (v ∷ vs) = ap (λ z. record { line = number before; role = v.1.role; range = v.1.range; name = v.0 } ∷ z) (declared_decls (before + 1) vs)

declared_known : (before : ℕ) (vs : List Entry) → AllByRecursion (λ i. unknown_item i ≡ None) (by_lines declared before vs)
declared_known before [] = tt
declared_known before (v ∷ vs) = (refl, declared_known (before + 1) vs)

declared_right : (table : List Entry) (before : ℕ) (vs : List Entry) → AllByRecursion (λ i. item_fault table i ≡ None) (by_lines declared before vs)
declared_right table before [] = tt
declared_right table before (v ∷ vs) = (refl, declared_right table (before + 1) vs)

-- a number that is no greater than the limit is not too many
under : (limit count : ℕ) → count ≤ limit → nat_lt limit count ≡ false
under limit count h = grind (arith, nat_tests)

few : (own : Bool) (count : ℕ) → count ≤ limit_of own → too_many own count ≡ None
few own count h =
    let test : nat_lt (limit_of own) count ≡ false = under (limit_of own) count h in
    rw test refl

-- a name that is one of some has what all of them have
name_has : (P : List ℕ → Type 0) (names : List (List ℕ)) → AllByRecursion P names → (x : List ℕ) → has_name names x ≡ true → P x
name_has P [] all x h = cc
name_has P (n ∷ ns) all x h = or_parts (bytes_eq x n) (has_name ns x) h (λ e. subst P (sym (same_name x n e)) all.0) (λ e. name_has P ns all.1 x e)

module _ (name : List ℕ) (vs : List Entry) (rest : List Item) (differ : Differ vs) (first : PortsFirst vs) (sound : AllByRecursion (IsSound vs) rest) where
  abbrev whole : Module
  whole = record { name = name; header = Plain (port_names vs); items = by_lines declared 1 vs ++ rest }

  used_names : AllByRecursion (λ x. has_name (names_of vs) x ≡ true) (flat_map item_names rest)
  used_names = flat_all (λ x. has_name (names_of vs) x ≡ true) item_names rest (weaken (IsSound vs) (λ i. AllByRecursion (λ x. has_name (names_of vs) x ≡ true) (item_names i)) (λ i s. s.names) rest sound)

  all_names : variable_names whole ≡ names_of vs
  all_names =
      ap (λ z. fold with_new_name [] (port_names vs ++ z)) (flat_map-append item_names (by_lines declared 1 vs) rest ∙ ap (λ z. z ++ flat_map item_names rest) (declared_names 1 vs))
      ∙ names_again vs (flat_map item_names rest) first differ used_names

  all_decls : declarations whole ≡ decls_by 1 vs
  all_decls =
      flat_map-append item_decls (by_lines declared 1 vs) rest
      ∙ (λ i. declared_decls 1 vs i ++ flat_none item_decls rest (weaken (IsSound vs) (λ x. item_decls x ≡ []) (λ x s. s.decls) rest sound) i)
      ∙ append-nil (decls_by 1 vs)

  pub variables_are : variables whole ≡ vs
  variables_are = (λ i. map (entry_of (all_decls i)) (all_names i)) ∙ entries_again 1 vs differ

  not_redeclared : redeclared whole ≡ None
  not_redeclared = ap (λ z. option_map (λ (d : Decl). Redeclared d.name None) (first_behind (λ before d. list_any (clashes d) before) [] z)) all_decls
      ∙ ap (option_map (λ (d : Decl). Redeclared d.name None)) (undeclared_twice 1 [] vs (none_before vs) differ)

  no_bad_port : bad_port whole ≡ None
  no_bad_port =
      ap (λ z. option_map (λ n. BadPort n None) (option_or (first_behind (is_odd_port z) [] (port_names vs)) (option_map (λ (d : Decl). d.name) (find (is_stray (port_names vs)) z)))) all_decls
      ∙ ap (option_map (λ n. BadPort n None)) (or_none (first_behind (is_odd_port (decls_by 1 vs)) [] (port_names vs)) (option_map (λ (d : Decl). d.name) (find (is_stray (port_names vs)) (decls_by 1 vs)))
      (no_odd_port (decls_by 1 vs) [] (port_names vs) (new_ports vs first differ) (ports_directed 1 vs)) (ap (option_map (λ (d : Decl). d.name)) (no_stray 1 vs)))

  all_known : unknown_cell whole ≡ None
  all_known = answer_none unknown_item (by_lines declared 1 vs ++ rest) (all_join (λ i. unknown_item i ≡ None) (by_lines declared 1 vs) rest (declared_known 1 vs) (weaken (IsSound vs) (λ i. unknown_item i ≡ None) (λ i s. s.known) rest sound))

  all_right : bad_part whole ≡ None
  all_right =
      ap (λ z. first_answer (item_fault z) (by_lines declared 1 vs ++ rest)) variables_are
      ∙ answer_none (item_fault vs) (by_lines declared 1 vs ++ rest) (all_join (λ i. item_fault vs i ≡ None) (by_lines declared 1 vs) rest (declared_right vs 1 vs) (weaken (IsSound vs) (λ i. item_fault vs i ≡ None) (λ i s. s.fault) rest sound))

  -- no name is reserved, where none is a variable's or the module's
  all_free : AllByRecursion (λ v. is_reserved v.0 ≡ false) vs → AllByRecursion (λ x. is_reserved x ≡ false) (mentioned whole)
  all_free free =
      let of_names : AllByRecursion (λ x. is_reserved x ≡ false) (names_of vs) = all_map_back (λ x. is_reserved x ≡ false) (λ (v : Entry). is_reserved v.0 ≡ false) (λ v. v.0) (λ v e. e) vs free in
      all_join (λ x. is_reserved x ≡ false) (port_names vs) (flat_map item_names (by_lines declared 1 vs ++ rest))
      (filter_names (λ x. is_reserved x ≡ false) vs (weaken (λ (v : Entry). is_reserved v.0 ≡ false) (λ (v : Entry). port v ≡ true → is_reserved v.0 ≡ false) (λ v e p. e) vs free))
      (subst (AllByRecursion (λ x. is_reserved x ≡ false)) (sym (flat_map-append item_names (by_lines declared 1 vs) rest ∙ ap (λ z. z ++ flat_map item_names rest) (declared_names 1 vs)))
      (all_join (λ x. is_reserved x ≡ false) (names_of vs) (flat_map item_names rest) of_names
      (weaken (λ x. has_name (names_of vs) x ≡ true) (λ x. is_reserved x ≡ false) (name_has (λ x. is_reserved x ≡ false) (names_of vs) of_names) (flat_map item_names rest) used_names)))

  pub not_reserved : is_reserved name ≡ false → AllByRecursion (λ v. is_reserved v.0 ≡ false) vs → reserved false whole ≡ None
  not_reserved own free = ap (option_map (λ x. Reserved x None)) (none_found is_reserved (name ∷ mentioned whole) (own, all_free free))

  pub no_text_fault : (own : Bool) → reserved own whole ≡ None → bit_count vs ≤ limit_of own → (work_of vs (by_lines declared 1 vs ++ rest)).fresh ≡ bit_count vs → text_fault own whole ≡ None
  no_text_fault own named small fresh =
      let bits : too_many_bits own whole ≡ None = ap (λ z. too_many own (bit_count z)) variables_are ∙ few own (bit_count vs) small in
      let count : all_bits whole ≡ bit_count vs = sym (module-fresh whole all_right) ∙ ap (λ z. (work_of z (by_lines declared 1 vs ++ rest)).fresh) variables_are ∙ fresh in
      let nets : too_many_nets own whole ≡ None = ap (too_many own) count ∙ few own (bit_count vs) small in
      or_none (name_fault own whole) (part_fault own whole)
      (or_none (reserved own whole) (option_or (redeclared whole) (option_or (bad_port whole) (too_many_bits own whole))) named
      (or_none (redeclared whole) (option_or (bad_port whole) (too_many_bits own whole)) not_redeclared (or_none (bad_port whole) (too_many_bits own whole) no_bad_port bits)))
      (or_none (unknown_cell whole) (option_or (bad_part whole) (too_many_nets own whole)) all_known (or_none (bad_part whole) (too_many_nets own whole) all_right nets))
