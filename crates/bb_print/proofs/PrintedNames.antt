-- The variables of a canonical text's module: ports first, each declared once.
use Rattle.std.proofs.Common.{◌≡◌, ℕ, ◌+◌, ◌<◌, zero, suc, List, [], ◌∷◌, ◌++◌, map, Some, None, Bool, true, false, not, ◌&&◌, ◌||◌, slice_get, refl, sym, ap, ◌∙◌, arith, subst, append_assoc, append-nil}
use Rattle.std.specs.Prelude.{fold, filter, find}
use Rattle.std.specs.List.{AllByRecursion, list_any}
use Rattle.std.specs.Str.{bytes_eq}
use Rattle.std.proofs.lemmas.Option.{same_Some}
use Rattle.std.proofs.lemmas.List.Folds.{list_any-append}
use Rattle.bb_lex.specs.Text.{number}
use Rattle.bb_base.specs.declared.variable.Role.{Role}
use Rattle.bb_base.specs.declared.variable.Role.TheVariants.{Input, Output, Wire}
use Rattle.bb_base.specs.Variables.{Entry, is_port}
use Rattle.bb_parse.specs.declared.syntax.Decl.{Decl}
use Rattle.bb_fault.specs.Firsts.{on_some, first_behind}
use Rattle.bb_scope.specs.Names.{has_name}
use Rattle.bb_scope.specs.Declarations.{is_direction, clashes, has_direction, is_odd_port, is_stray}
use Rattle.bb_scope.specs.Variables.{entry_of}
use Rattle.bb_fault.proofs.Keys.{name_itself, other_name}
use Rattle.bb_base.proofs.Lists.{map_join, all_join, all_map_back}
use Rattle.bb_spell.specs.Canonical.{port_names}
use Rattle.bb_print.proofs.PrintedBits.{Differ}
use Rattle.bb_print.proofs.Sieves.{all_items, and_false, item_at, or_left, or_right}
use Rattle.bb_scope.specs.Names.{with_new_name}
use Rattle.bb_scope.specs.Variables.{declared_role}
use Rattle.bb_scope.specs.Variables.{declared_range}

abbrev pub names_of : List Entry → List (List ℕ)
names_of vs = map (λ v. v.0) vs

-- names in the order of their first uses -----------------------------------

pub fold_join : {A B : Type 0} (f : A → B → A) (start : A) (xs ys : List B) → fold f start (xs ++ ys) ≡ fold f (fold f start xs) ys
fold_join f start [] ys = refl
fold_join f start (x ∷ xs) ys = fold_join f (f start x) xs ys

-- names that stand already add nothing
pub names_kept : (acc xs : List (List ℕ)) → AllByRecursion (λ x. has_name acc x ≡ true) xs → fold with_new_name acc xs ≡ acc
names_kept acc [] h = refl
names_kept acc (x ∷ xs) h =
    let here : has_name acc x ≡ true = h.0 in
    let one : with_new_name acc x ≡ acc = rw here refl in
    ap (λ z. fold with_new_name z xs) one ∙ names_kept acc xs h.1

-- each name stands nowhere before
abbrev pub New : List (List ℕ) → List (List ℕ) → Type 0
New acc [] = Unit {0}
New acc (x ∷ xs) = (has_name acc x ≡ false) × New (acc ++ x ∷ []) xs

pub names_added : (acc xs : List (List ℕ)) → New acc xs → fold with_new_name acc xs ≡ acc ++ xs
names_added acc [] h = sym (append-nil acc)
names_added acc (x ∷ xs) h =
    let here : has_name acc x ≡ false = h.0 in
    let one : with_new_name acc x ≡ acc ++ x ∷ [] = rw here refl in
    ap (λ z. fold with_new_name z xs) one ∙ names_added (acc ++ x ∷ []) xs h.1 ∙ append_assoc acc (x ∷ []) xs

new_front : (acc xs ys : List (List ℕ)) → New acc (xs ++ ys) → New acc xs
new_front acc [] ys h = tt
new_front acc (x ∷ xs) ys h = (h.0, new_front (acc ++ x ∷ []) xs ys h.1)

new_back : (acc xs ys : List (List ℕ)) → New acc (xs ++ ys) → New (acc ++ xs) ys
new_back acc [] ys h = subst (λ z. New z ys) (sym (append-nil acc)) h
new_back acc (x ∷ xs) ys h = subst (λ z. New z ys) (append_assoc acc (x ∷ []) xs) (new_back (acc ++ x ∷ []) xs ys h.1)

or_false : (a b : Bool) → a ≡ false → b ≡ false → (a || (b || false)) ≡ false
or_false false false h k = refl
or_false true b h k = cc
or_false false true h k = cc

pub new_names : (acc : List (List ℕ)) (vs : List Entry) → AllByRecursion (λ v. has_name acc v.0 ≡ false) vs → Differ vs → New acc (names_of vs)
new_names acc [] h d = tt
new_names acc (v ∷ vs) h d = (h.0, new_names (acc ++ v.0 ∷ []) vs (more vs h.1 d.0) d.1)
  where
    more : (ws : List Entry) → AllByRecursion (λ w. has_name acc w.0 ≡ false) ws → AllByRecursion (λ w. bytes_eq w.0 v.0 ≡ false) ws → AllByRecursion (λ w. has_name (acc ++ v.0 ∷ []) w.0 ≡ false) ws
    more [] h k = tt
    more (w ∷ ws) h k = (list_any-append (bytes_eq w.0) acc (v.0 ∷ []) ∙ or_false (has_name acc w.0) (bytes_eq w.0 v.0) h.0 k.0, more ws h.1 k.1)

no_names : (vs : List Entry) → AllByRecursion (λ v. has_name [] v.0 ≡ false) vs
no_names [] = tt
no_names (v ∷ vs) = (refl, no_names vs)

-- a variable's name stands among the names
pub has_at : (vs : List Entry) (i : ℕ) (v : Entry) → slice_get vs i ≡ Some v → has_name (names_of vs) v.0 ≡ true
has_at [] i v at = cc
has_at (w ∷ ws) zero v at =
    let same : w ≡ v = same_Some w v at in
    or_left (bytes_eq v.0 w.0) (has_name (names_of ws) v.0) (ap (λ (u : Entry). bytes_eq v.0 u.0) same ∙ name_itself v.0)
has_at (w ∷ ws) (suc i) v at = or_right (bytes_eq v.0 w.0) (has_name (names_of ws) v.0) (has_at ws i v at)

has_all : (ps : List Entry) → AllByRecursion (λ x. has_name (names_of ps) x ≡ true) (names_of ps)
has_all ps = all_map_back (λ x. has_name (names_of ps) x ≡ true) (λ (v : Entry). has_name (names_of ps) v.0 ≡ true) (λ v. v.0) (λ v h. h) ps (all_items (λ (v : Entry). has_name (names_of ps) v.0 ≡ true) ps (has_at ps))

-- ports stand first ----------------------------------------------------------

abbrev pub port : Entry → Bool
port v = is_port v.1.role

pub record PortsFirst (vs : List Entry) : Type 0 where
  pub others : List Entry
  pub parts : vs ≡ filter port vs ++ others
  pub no_port : AllByRecursion (λ v. port v ≡ false) others

abbrev InOrder : List Entry → Type 0
InOrder vs = (i j : ℕ) (v w : Entry) → i < j → slice_get vs i ≡ Some v → slice_get vs j ≡ Some w → port w ≡ true → port v ≡ true

none_left : (vs : List Entry) → AllByRecursion (λ v. port v ≡ false) vs → filter port vs ≡ []
none_left [] h = refl
none_left (v ∷ vs) h =
    let test : port v ≡ false = h.0 in
    rw test (none_left vs h.1)

pub ports_first : (vs : List Entry) → InOrder vs → PortsFirst vs
ports_first [] h = record { others = []; parts = refl; no_port = tt }
ports_first (v ∷ vs) h = go (port v) refl (ports_first vs (λ i j x y less xi yj p. h (suc i) (suc j) x y (omega arith) xi yj p))
  where
    later : port v ≡ false → (i : ℕ) (w : Entry) → slice_get vs i ≡ Some w → port w ≡ false
    later e i w at = by (port w) refl
      where
        by : (b : Bool) → port w ≡ b → b ≡ false
        by false f = refl
        by true f = cc (sym e ∙ h 0 (suc i) v w (omega arith) refl at f)

    go : (b : Bool) → port v ≡ b → PortsFirst vs → PortsFirst (v ∷ vs)
    go true e p =
        let kept : filter port (v ∷ vs) ≡ v ∷ filter port vs = rw e refl in
        record { others = p.others; parts = ap (λ z. v ∷ z) p.parts ∙ ap (λ z. z ++ p.others) (sym kept); no_port = p.no_port }
    go false e p =
        let rest = all_items (λ w. port w ≡ false) vs (later e) in
        let none : filter port (v ∷ vs) ≡ [] = rw e (none_left vs rest) in
        record { others = v ∷ vs; parts = ap (λ z. z ++ v ∷ vs) (sym none); no_port = (e, rest) }

-- the names in the order of their first uses are the variables' names
pub names_again : (vs : List Entry) (used : List (List ℕ)) → PortsFirst vs → Differ vs → AllByRecursion (λ x. has_name (names_of vs) x ≡ true) used → fold with_new_name [] (port_names vs ++ (names_of vs ++ used)) ≡ names_of vs
names_again vs used p d h =
    let ps : List Entry = filter port vs in
    let parts : names_of vs ≡ names_of ps ++ names_of p.others = ap names_of p.parts ∙ map_join (λ (v : Entry). v.0) ps p.others in
    let all : New [] (names_of ps ++ names_of p.others) = subst (New []) parts (new_names [] vs (no_names vs) d) in
    let first : fold with_new_name [] (names_of ps) ≡ names_of ps = names_added [] (names_of ps) (new_front [] (names_of ps) (names_of p.others) all) in
    let again : fold with_new_name (names_of ps) (names_of ps) ≡ names_of ps = names_kept (names_of ps) (names_of ps) (has_all ps) in
    let second : fold with_new_name (names_of ps) (names_of p.others) ≡ names_of ps ++ names_of p.others = names_added (names_of ps) (names_of p.others) (new_back [] (names_of ps) (names_of p.others) all) in
    let both : fold with_new_name (names_of ps) (names_of vs) ≡ names_of vs =
    ap (fold with_new_name (names_of ps)) parts ∙ fold_join with_new_name (names_of ps) (names_of ps) (names_of p.others) ∙ ap (λ z. fold with_new_name z (names_of p.others)) again ∙ second ∙ sym parts in
    fold_join with_new_name [] (names_of ps) (names_of vs ++ used) ∙ ap (λ z. fold with_new_name z (names_of vs ++ used)) first
    ∙ fold_join with_new_name (names_of ps) (names_of vs) used ∙ ap (λ z. fold with_new_name z used) both ∙ names_kept (names_of vs) used h

-- declarations -----------------------------------------------------------------

abbrev pub decl : ℕ → Entry → Decl
decl line v = record { line = line; role = v.1.role; range = v.1.range; name = v.0 }

abbrev pub decls_by : ℕ → List Entry → List Decl
decls_by before [] = []
decls_by before (v ∷ vs) = decl (number before) v ∷ decls_by (before + 1) vs

pub range_is : (before : ℕ) (vs : List Entry) (i : ℕ) (v : Entry) → Differ vs → slice_get vs i ≡ Some v → declared_range (decls_by before vs) v.0 ≡ v.1.range
range_is before [] i v h at = cc
range_is before (w ∷ ws) zero v h at =
    let same : w ≡ v = same_Some w v at in
    let test : bytes_eq v.0 w.0 ≡ true = ap (λ (u : Entry). bytes_eq v.0 u.0) same ∙ name_itself v.0 in
    rw test (ap (λ (u : Entry). u.1.range) same)
range_is before (w ∷ ws) (suc i) v h at =
    let test : bytes_eq v.0 w.0 ≡ false = item_at (λ (u : Entry). bytes_eq u.0 w.0 ≡ false) ws i v h.0 at in
    rw test (range_is (before + 1) ws i v h.1 at)

-- no declaration of these directs another name
undirected : (before : ℕ) (ws : List Entry) (name : List ℕ) → AllByRecursion (λ w. bytes_eq w.0 name ≡ false) ws → find (λ d. is_direction d && bytes_eq name d.name) (decls_by before ws) ≡ None
undirected before [] name h = refl
undirected before (w ∷ ws) name h =
    let test : (is_port w.1.role && bytes_eq name w.0) ≡ false = and_false (is_port w.1.role) (bytes_eq name w.0) (λ e. other_name w.0 name h.0) in
    rw test (undirected (before + 1) ws name h.1)

pub role_is : (before : ℕ) (vs : List Entry) (i : ℕ) (v : Entry) → Differ vs → slice_get vs i ≡ Some v → declared_role (decls_by before vs) v.0 ≡ v.1.role
role_is before [] i v h at = cc
role_is before (w ∷ ws) zero v h at =
    let same : w ≡ v = same_Some w v at in
    subst (λ (u : Entry). declared_role (decls_by before (w ∷ ws)) u.0 ≡ u.1.role) same (here w.1.role refl)
  where
    here : (r : Role) → w.1.role ≡ r → declared_role (decls_by before (w ∷ ws)) w.0 ≡ w.1.role
    here Input e =
        let test : (is_port w.1.role && bytes_eq w.0 w.0) ≡ true = ap (λ r. is_port r && bytes_eq w.0 w.0) e ∙ name_itself w.0 in
        rw test refl
    here Output e =
        let test : (is_port w.1.role && bytes_eq w.0 w.0) ≡ true = ap (λ r. is_port r && bytes_eq w.0 w.0) e ∙ name_itself w.0 in
        rw test refl
    here Wire e =
        let test : (is_port w.1.role && bytes_eq w.0 w.0) ≡ false = ap (λ r. is_port r && bytes_eq w.0 w.0) e in
        rw test (ap (λ o. on_some o Wire (λ d. d.role)) (undirected (before + 1) ws w.0 h.0) ∙ sym e)
role_is before (w ∷ ws) (suc i) v h at =
    let other : bytes_eq v.0 w.0 ≡ false = item_at (λ (u : Entry). bytes_eq u.0 w.0 ≡ false) ws i v h.0 at in
    let test : (is_port w.1.role && bytes_eq v.0 w.0) ≡ false = and_false (is_port w.1.role) (bytes_eq v.0 w.0) (λ e. other) in
    rw test (role_is (before + 1) ws i v h.1 at)

-- the variables by their declarations
pub entries_again : (before : ℕ) (vs : List Entry) → Differ vs → map (entry_of (decls_by before vs)) (names_of vs) ≡ vs
entries_again before vs d = each vs (all_items (λ (v : Entry). entry_of (decls_by before vs) v.0 ≡ v) vs one)
  where
    one : (i : ℕ) (v : Entry) → slice_get vs i ≡ Some v → entry_of (decls_by before vs) v.0 ≡ v
    one i v at = λ j. (v.0, record { range = range_is before vs i v d at j; role = role_is before vs i v d at j })

    each : (ws : List Entry) → AllByRecursion (λ (v : Entry). entry_of (decls_by before vs) v.0 ≡ v) ws → map (entry_of (decls_by before vs)) (names_of ws) ≡ ws
    each [] h = refl
    each (w ∷ ws) h = λ j. h.0 j ∷ each ws h.1 j

-- no declaration clashes with one before it
abbrev Apart : List Decl → List ℕ → Type 0
Apart before name = AllByRecursion (λ d. bytes_eq name d.name ≡ false) before

no_clash : (d : Decl) (before : List Decl) → Apart before d.name → list_any (clashes d) before ≡ false
no_clash d [] h = refl
no_clash d (e ∷ es) h =
    let test : bytes_eq d.name e.name ≡ false = h.0 in
    rw test (no_clash d es h.1)

pub undeclared_twice : (k : ℕ) (before : List Decl) (vs : List Entry) → AllByRecursion (λ v. Apart before v.0) vs → Differ vs → first_behind (λ ds d. list_any (clashes d) ds) before (decls_by k vs) ≡ None
undeclared_twice k before [] h d = refl
undeclared_twice k before (v ∷ vs) h d =
    let here : list_any (clashes (decl (number k) v)) before ≡ false = no_clash (decl (number k) v) before h.0 in
    rw here (undeclared_twice (k + 1) (before ++ decl (number k) v ∷ []) vs (more vs h.1 d.0) d.1)
  where
    more : (ws : List Entry) → AllByRecursion (λ w. Apart before w.0) ws → AllByRecursion (λ w. bytes_eq w.0 v.0 ≡ false) ws → AllByRecursion (λ w. Apart (before ++ decl (number k) v ∷ []) w.0) ws
    more [] h e = tt
    more (w ∷ ws) h e = (all_join (λ (b : Decl). bytes_eq w.0 b.name ≡ false) before (decl (number k) v ∷ []) h.0 (e.0, tt), more ws h.1 e.1)

pub none_before : (vs : List Entry) → AllByRecursion (λ v. Apart [] v.0) vs
none_before [] = tt
none_before (v ∷ vs) = (tt, none_before vs)

-- each port has its direction
pub directed : (before : ℕ) (vs : List Entry) (i : ℕ) (v : Entry) → slice_get vs i ≡ Some v → port v ≡ true → has_direction (decls_by before vs) v.0 ≡ true
directed before [] i v at e = cc
directed before (w ∷ ws) zero v at e =
    let same : w ≡ v = same_Some w v at in
    let test : (is_port w.1.role && bytes_eq v.0 w.0) ≡ true = ap (λ (u : Entry). is_port u.1.role && bytes_eq v.0 u.0) same ∙ ap (λ b. b && bytes_eq v.0 v.0) e ∙ name_itself v.0 in
    or_left (is_port w.1.role && bytes_eq v.0 w.0) (has_direction (decls_by (before + 1) ws) v.0) test
directed before (w ∷ ws) (suc i) v at e = or_right (is_port w.1.role && bytes_eq v.0 w.0) (has_direction (decls_by (before + 1) ws) v.0) (directed (before + 1) ws i v at e)

pub filter_names : (P : List ℕ → Type 0) (vs : List Entry) → AllByRecursion (λ v. port v ≡ true → P v.0) vs → AllByRecursion P (port_names vs)
filter_names P [] h = tt
filter_names P (v ∷ vs) h = go (port v) refl (filter_names P vs h.1)
  where
    go : (b : Bool) → port v ≡ b → AllByRecursion P (port_names vs) → AllByRecursion P (port_names (v ∷ vs))
    go true e rest = rw e (h.0 e, rest)
    go false e rest = rw e rest

pub ports_directed : (before : ℕ) (vs : List Entry) → AllByRecursion (λ x. has_direction (decls_by before vs) x ≡ true) (port_names vs)
ports_directed before vs = filter_names (λ x. has_direction (decls_by before vs) x ≡ true) vs (all_items (λ (v : Entry). port v ≡ true → has_direction (decls_by before vs) v.0 ≡ true) vs (directed before vs))

pub no_odd_port : (ds : List Decl) (acc xs : List (List ℕ)) → New acc xs → AllByRecursion (λ x. has_direction ds x ≡ true) xs → first_behind (is_odd_port ds) acc xs ≡ None
no_odd_port ds acc [] h k = refl
no_odd_port ds acc (x ∷ xs) h k =
    let new : has_name acc x ≡ false = h.0 in
    let there : has_direction ds x ≡ true = k.0 in
    rw (new, there) (no_odd_port ds (acc ++ x ∷ []) xs h.1 k.1)

pub new_ports : (vs : List Entry) → PortsFirst vs → Differ vs → New [] (port_names vs)
new_ports vs p d =
    let ps : List Entry = filter port vs in
    let parts : names_of vs ≡ names_of ps ++ names_of p.others = ap names_of p.parts ∙ map_join (λ (v : Entry). v.0) ps p.others in
    new_front [] (names_of ps) (names_of p.others) (subst (New []) parts (new_names [] vs (no_names vs) d))

-- and each direction its port
port_there : (vs : List Entry) (i : ℕ) (v : Entry) → slice_get vs i ≡ Some v → port v ≡ true → has_name (port_names vs) v.0 ≡ true
port_there [] i v at e = cc
port_there (w ∷ ws) zero v at e =
    let same : w ≡ v = same_Some w v at in
    let test : port w ≡ true = ap port same ∙ e in
    rw test (or_left (bytes_eq v.0 w.0) (has_name (port_names ws) v.0) (ap (λ (u : Entry). bytes_eq v.0 u.0) same ∙ name_itself v.0))
port_there (w ∷ ws) (suc i) v at e = go (port w) refl (port_there ws i v at e)
  where
    go : (b : Bool) → port w ≡ b → has_name (port_names ws) v.0 ≡ true → has_name (port_names (w ∷ ws)) v.0 ≡ true
    go true t rest = rw t (or_right (bytes_eq v.0 w.0) (has_name (port_names ws) v.0) rest)
    go false t rest = rw t rest

stray_none : (before : ℕ) (names : List (List ℕ)) (vs : List Entry) → AllByRecursion (λ v. port v ≡ true → has_name names v.0 ≡ true) vs → find (is_stray names) (decls_by before vs) ≡ None
stray_none before names [] h = refl
stray_none before names (v ∷ vs) h =
    let test : (is_port v.1.role && not (has_name names v.0)) ≡ false = go (is_port v.1.role) refl in
    rw test (stray_none (before + 1) names vs h.1)
  where
    go : (b : Bool) → is_port v.1.role ≡ b → (b && not (has_name names v.0)) ≡ false
    go true e = ap not (h.0 e)
    go false e = refl

pub no_stray : (before : ℕ) (vs : List Entry) → find (is_stray (port_names vs)) (decls_by before vs) ≡ None
no_stray before vs = stray_none before (port_names vs) vs (all_items (λ (v : Entry). port v ≡ true → has_name (port_names vs) v.0 ≡ true) vs (port_there vs))
