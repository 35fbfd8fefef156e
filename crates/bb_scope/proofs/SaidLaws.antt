-- What a table says is what the declarations say.
use Rattle.std.proofs.Common.{arith, ◌≡◌, ℕ, Bool, true, false, not, ◌&&◌, ◌||◌, cond, List, [], ◌∷◌, ◌++◌, refl, sym, ap, ◌∙◌, fold}
use Rattle.std.proofs.lemmas.Bool.Decides.{nat_tests}
use Rattle.std.proofs.lemmas.List.Folds.{list_any-append}
use Rattle.std.specs.Prelude.{Option, Some, None, flat_map}
use Rattle.std.specs.Option.{option_or, option_map}
use Rattle.std.specs.List.{list_any}
use Rattle.std.specs.Str.{bytes_eq}
use Rattle.bb_base.specs.Variables.{is_port}
use Rattle.bb_parse.specs.declared.syntax.Decl.{Decl}
use Rattle.bb_parse.specs.declared.syntax.Module.{Module}
use Rattle.bb_scope.specs.declared.said.Said.{Said}
use Rattle.bb_fault.specs.declared.fault.ElabFault.{ElabFault}
use Rattle.bb_fault.specs.declared.fault.ElabFault.TheVariants.{Redeclared}
use Rattle.bb_fault.specs.Firsts.{first_behind}
use Rattle.bb_scope.specs.Declarations.{range_eq, bool_eq, clashes, is_direction, header_decls, item_decls, declarations, redeclared}
use Rattle.bb_scope.specs.Said.{Table, said_in, clashes_with, said_with, with_decl, clash_of, first_clash}
use Rattle.bb_fault.proofs.Keys.{same_name, found, or_assoc}
use Rattle.bb_base.proofs.BooleanLemmas.{or_false}

-- the first clash along two lists
pub first_clash-append : (t : Table) (ds es : List Decl) → first_clash t (ds ++ es) ≡ option_or (first_clash t ds) (first_clash (fold with_decl t ds) es)
first_clash-append t [] es = refl
first_clash-append t (d ∷ ds) es = ap (λ z. option_or (clash_of t d) z) (first_clash-append (with_decl t d) ds es) ∙ or_assoc (clash_of t d) (first_clash (with_decl t d) ds) (first_clash (fold with_decl (with_decl t d) ds) es)

-- what is said once a declaration was added
pub said_next : (t : Table) (d : Decl) (name : List ℕ) → said_in (with_decl t d) name ≡ cond (bytes_eq name d.name) (Some (said_with (said_in t d.name) d)) (said_in t name)
said_next t d name = found t d.name (said_with (said_in t d.name) d) name

same_range : (a b : Option (ℕ × ℕ)) → range_eq a b ≡ true → a ≡ b
same_range None None h = refl
same_range (Some a) (Some b) h = grind (arith, nat_tests, h)
same_range None (Some b) h = grind (arith, h)
same_range (Some a) None h = grind (arith, h)

-- steps on tests: p and q are whether the two declarations are directions, a and b whether a port and a wire was said, r whether the ranges agree
first_said : (p q r : Bool) → (bool_eq p q || not r) ≡ (cond p q (not q) || not r)
first_said true q r = refl
first_said false q r = refl

next_said : (p q a b r : Bool) → cond q a b ≡ false → ((cond p a b || not r) || (bool_eq p q || not r)) ≡ (cond p (a || q) (b || not q) || not r)
next_said true true a b true h = grind (arith, h)
next_said true true a b false h = grind (arith, h)
next_said true false a b true h = grind (arith, h)
next_said true false a b false h = grind (arith, h)
next_said false true a b true h = grind (arith, h)
next_said false true a b false h = grind (arith, h)
next_said false false a b true h = grind (arith, h)
next_said false false a b false h = grind (arith, h)

or_left : (a b : Bool) → (a || not b) ≡ false → a ≡ false
or_left true b h = h
or_left false b h = refl

or_right : (a b : Bool) → (a || not b) ≡ false → b ≡ true
or_right true b h = grind (arith, h)
or_right false true h = refl
or_right false false h = sym h

-- what clashes with what was said, or with a declaration of the name that does not, clashes with both together
noted :
    (s : Option Said) (e d : Decl) → clashes_with s e ≡ false
    → (clashes_with s d || (bool_eq (is_direction d) (is_direction e) || not (range_eq d.range e.range))) ≡ clashes_with (Some (said_with s e)) d
noted None e d h = first_said (is_port d.role) (is_port e.role) (range_eq d.range e.range)
noted (Some s) e d h =
    let same : e.range ≡ s.range = same_range e.range s.range (or_right (cond (is_port e.role) s.port s.wire) (range_eq e.range s.range) h) in
    ap (λ r. clashes_with (Some s) d || (bool_eq (is_direction d) (is_direction e) || not (range_eq d.range r))) same
    ∙ next_said (is_port d.role) (is_port e.role) s.port s.wire (range_eq d.range s.range) (or_left (cond (is_port e.role) s.port s.wire) (range_eq e.range s.range) h)

-- a declaration clashes with one before exactly where it clashes with what is said
abbrev pub Knows : Table → List Decl → Type 0
Knows t before = (d : Decl) → list_any (clashes d) before ≡ clashes_with (said_in t d.name) d

any_next : (before : List Decl) (e d : Decl) → list_any (clashes d) (before ++ e ∷ []) ≡ (list_any (clashes d) before || clashes d e)
any_next before e d = list_any-append (clashes d) before (e ∷ []) ∙ ap (λ b. list_any (clashes d) before || b) (or_false (clashes d e))

-- one more declaration, which clashes with none
knows_next : (t : Table) (before : List Decl) (e : Decl) → Knows t before → clashes_with (said_in t e.name) e ≡ false → Knows (with_decl t e) (before ++ e ∷ [])
knows_next t before e knows free d = any_next before e d ∙ (go (bytes_eq d.name e.name) refl ∙ ap (λ s. clashes_with s d) (sym (said_next t e d.name)))
  where
    go : (b : Bool) → bytes_eq d.name e.name ≡ b
        → (list_any (clashes d) before || (b && (bool_eq (is_direction d) (is_direction e) || not (range_eq d.range e.range)))) ≡ clashes_with (cond b (Some (said_with (said_in t e.name) e)) (said_in t d.name)) d
    go true h =
        let here : list_any (clashes d) before ≡ clashes_with (said_in t e.name) d = knows d ∙ ap (λ n. clashes_with (said_in t n) d) (same_name d.name e.name h) in
        ap (λ b. b || (bool_eq (is_direction d) (is_direction e) || not (range_eq d.range e.range))) here ∙ noted (said_in t e.name) e d free
    go false h = or_false (list_any (clashes d) before) ∙ knows d

-- the first clash by the table is the first by the declarations
pub first_clash_behind :
    (t : Table) (before ds : List Decl) → Knows t before → first_clash t ds ≡ option_map (λ d. Redeclared d.name None) (first_behind (λ before d. list_any (clashes d) before) before ds)
first_clash_behind t before [] knows = refl
first_clash_behind t before (d ∷ ds) knows =
    go (clashes_with (said_in t d.name) d) refl (λ h. first_clash_behind (with_decl t d) (before ++ d ∷ []) ds (knows_next t before d knows h))
    ∙ ap (λ b. option_map (λ d. Redeclared d.name None) (cond b (Some d) (first_behind (λ before d. list_any (clashes d) before) (before ++ d ∷ []) ds))) (sym (knows d))
  where
    go : (b : Bool) → clashes_with (said_in t d.name) d ≡ b
        → (clashes_with (said_in t d.name) d ≡ false → first_clash (with_decl t d) ds ≡ option_map (λ d. Redeclared d.name None) (first_behind (λ before d. list_any (clashes d) before) (before ++ d ∷ []) ds))
        → option_or (cond b (Some (Redeclared d.name None)) None) (first_clash (with_decl t d) ds)
        ≡ option_map (λ d. Redeclared d.name None) (cond b (Some d) (first_behind (λ before d. list_any (clashes d) before) (before ++ d ∷ []) ds))
    go true h rest = refl
    go false h rest = rest h

-- the first clash of a module, by the table of its header and then of its items
pub redeclared_said :
    (m : Module) (fault : Option ElabFault) → fault ≡ option_or (first_clash [] (header_decls m.header)) (first_clash (fold with_decl [] (header_decls m.header)) (flat_map item_decls m.items))
    → fault ≡ redeclared m
redeclared_said m fault h = h ∙ (sym (first_clash-append [] (header_decls m.header) (flat_map item_decls m.items)) ∙ first_clash_behind [] [] (declarations m) (λ d. refl))
