-- The table of variables is that of the definition.
use Rattle.std.proofs.Common.{◌≡◌, ℕ, Bool, true, false, not, ◌&&◌, ◌||◌, cond, if◌then◌else◌, List, [], ◌∷◌, ◌++◌, map, refl, sym, ap, ◌∙◌, fold, append_assoc}
use Rattle.std.specs.Prelude.{Option, Some, None, find, is_some, flat_map}
use Rattle.std.specs.Option.{option_or, option_map}
use Rattle.std.specs.Map.{lookup, keys_of}
use Rattle.std.proofs.lemmas.List.Folds.{find-append}
use Rattle.std.specs.Str.{bytes_eq}
use Rattle.indexmap.specs.IndexMap.{insert_entry}
use Rattle.bb_base.specs.Variables.{Entry, is_port}
use Rattle.bb_base.specs.declared.variable.Variable.{Variable}
use Rattle.bb_parse.specs.declared.syntax.Decl.{Decl}
use Rattle.bb_parse.specs.declared.syntax.Module.{Module}
use Rattle.bb_parse.specs.declared.syntax.Header.{Header}
use Rattle.bb_parse.specs.declared.syntax.Header.TheVariants.{Plain, Ansi}
use Rattle.bb_base.specs.declared.variable.Role.{Role}
use Rattle.bb_base.specs.declared.variable.Role.TheVariants.{Input, Output, Wire}
use Rattle.bb_base.proofs.Lists.{map_join, same_map}
use Rattle.std.proofs.lemmas.List.Sums.{fold-append}
use Rattle.bb_scope.specs.declared.said.Said.{Said}
use Rattle.bb_fault.specs.declared.fault.ElabFault.TheVariants.{BadPort}
use Rattle.bb_fault.specs.Firsts.{on_some, first_behind}
use Rattle.bb_scope.specs.Names.{has_name, with_new_name, mentioned, header_names, item_names, variable_names}
use Rattle.bb_scope.specs.Declarations.{is_direction, has_direction, declarations, header_decls, item_decls, is_odd_port, is_stray, bad_port}
use Rattle.bb_scope.specs.Variables.{declared_role, declared_range, variable_of, entry_of, variables}
use Rattle.bb_scope.specs.Said.{Table, said_in, said_with, with_decl, variable_said, is_directed, with_said, is_odd_said, odd_fault, stray_fault}
use Rattle.bb_fault.proofs.Keys.{put_behind, same_name, name_itself, or_assoc}
use Rattle.bb_base.proofs.BooleanLemmas.{or_false, or_true}
use Rattle.bb_scope.proofs.SaidLaws.{said_next}

-- a name that is new goes behind the others
pub added :
    (said : Table) (es new : List Entry) (name key : List ℕ) (v : Variable) → is_some (lookup (bytes_eq name) es) ≡ false → key ≡ name → v ≡ variable_said (said_in said name)
    → new ≡ insert_entry bytes_eq es key v → new ≡ with_said said es name
added said es new name key v none k e h =
    h ∙ ((λ i. insert_entry bytes_eq es (k i) (e i))
    ∙ (put_behind es name (variable_said (said_in said name)) none ∙ ap (λ b. cond b es (es ++ (name, variable_said (said_in said name)) ∷ [])) (sym none)))

-- the names that stand among variables
abbrev pub named : Table → List ℕ → Entry
named said name = (name, variable_said (said_in said name))

is_among : (said : Table) (names : List (List ℕ)) (name : List ℕ) → is_some (lookup (bytes_eq name) (map (named said) names)) ≡ has_name names name
is_among said [] name = refl
is_among said (n ∷ names) name = go (bytes_eq name n) (is_among said names name)
  where
    go : (t : Bool) → is_some (lookup (bytes_eq name) (map (named said) names)) ≡ has_name names name
        → is_some (cond t (Some (variable_said (said_in said n))) (lookup (bytes_eq name) (map (named said) names))) ≡ (t || has_name names name)
    go true h = refl
    go false h = h

one_more : (said : Table) (names : List (List ℕ)) (name : List ℕ) → with_said said (map (named said) names) name ≡ map (named said) (with_new_name names name)
one_more said names name =
    ap (λ b. cond b (map (named said) names) (map (named said) names ++ named said name ∷ [])) (is_among said names name) ∙ go (has_name names name)
  where
    go : (b : Bool) → cond b (map (named said) names) (map (named said) names ++ named said name ∷ []) ≡ map (named said) (cond b names (names ++ name ∷ []))
    go true = refl
    go false = sym (map_join (named said) names (name ∷ []))

-- the table is the names in order, each with what is said of it
pub in_order : (said : Table) (names more : List (List ℕ)) → fold (with_said said) (map (named said) names) more ≡ map (named said) (fold with_new_name names more)
in_order said names [] = refl
in_order said names (m ∷ more) = ap (λ es. fold (with_said said) es more) (one_more said names m) ∙ in_order said (with_new_name names m) more

-- what is said of a name once these declarations were added
abbrev pub after : Option Said → List ℕ → List Decl → Option Said
after s name [] = s
after s name (d ∷ ds) = after (if bytes_eq name d.name then Some (said_with s d) else s) name ds

pub said_after : (t : Table) (ds : List Decl) (name : List ℕ) → said_in (fold with_decl t ds) name ≡ after (said_in t name) name ds
said_after t [] name = refl
said_after t (d ∷ ds) name = said_after (with_decl t d) ds name ∙ (ap (λ s. after s name ds) (said_next t d name) ∙ go (bytes_eq name d.name) refl)
  where
    go : (b : Bool) → bytes_eq name d.name ≡ b → after (cond b (Some (said_with (said_in t d.name) d)) (said_in t name)) name ds ≡ after (cond b (Some (said_with (said_in t name) d)) (said_in t name)) name ds
    go true h = ap (λ n. after (Some (said_with (said_in t n) d)) name ds) (sym (same_name name d.name h))
    go false h = refl

-- the first range stands
range_stays : (s : Said) (name : List ℕ) (ds : List Decl) → (variable_said (after (Some s) name ds)).range ≡ s.range
range_stays s name [] = refl
range_stays s name (d ∷ ds) = go (bytes_eq name d.name) (range_stays s name ds) (range_stays (said_with (Some s) d) name ds)
  where
    go : (b : Bool) → (variable_said (after (Some s) name ds)).range ≡ s.range → (variable_said (after (Some (said_with (Some s) d)) name ds)).range ≡ s.range
        → (variable_said (after (cond b (Some (said_with (Some s) d)) (Some s)) name ds)).range ≡ s.range
    go true h k = k
    go false h k = h

range_said : (name : List ℕ) (ds : List Decl) → (variable_said (after None name ds)).range ≡ declared_range ds name
range_said name [] = refl
range_said name (d ∷ ds) = go (bytes_eq name d.name) (range_said name ds)
  where
    go : (b : Bool) → (variable_said (after None name ds)).range ≡ declared_range ds name
        → (variable_said (after (cond b (Some (said_with None d)) None) name ds)).range ≡ on_some (cond b (Some d) (find (λ d. bytes_eq name d.name) ds)) None (λ d. d.range)
    go true h = range_stays (said_with None d) name ds
    go false h = h

-- the first direction stands, and without one the name is a wire
only_wire : (r : Role) → is_port r ≡ false → r ≡ Wire
only_wire Input h = cc
only_wire Output h = cc
only_wire Wire h = refl

-- the role that stands, where p is whether a direction was said, as the role r, and q whether the next declaration d is one of the name if b
role_next :
    (d : Decl) (f : Option Decl) (b p q : Bool) (r x y : Role) → (q ≡ false → d.role ≡ Wire) → x ≡ cond p r (on_some f Wire (λ d. d.role))
    → (((p || q) ≡ false → cond p r d.role ≡ Wire) → y ≡ cond (p || q) (cond p r d.role) (on_some f Wire (λ d. d.role)))
    → cond b y x ≡ cond p r (on_some (cond (q && b) (Some d) f) Wire (λ d. d.role))
role_next d f true true q r x y w h k = k (λ e. cc)
role_next d f true false true r x y w h k = k (λ e. cc)
role_next d f true false false r x y w h k = k (λ e. w refl)
role_next d f false true q r x y w h k = h
role_next d f false false true r x y w h k = h
role_next d f false false false r x y w h k = h

by_test : (b : Bool) (s t : Option Said) (name : List ℕ) (ds : List Decl) → (variable_said (after (cond b s t) name ds)).role ≡ cond b (variable_said (after s name ds)).role (variable_said (after t name ds)).role
by_test true s t name ds = refl
by_test false s t name ds = refl

no_role : (p : Bool) (r : Role) → (p ≡ false → r ≡ Wire) → r ≡ cond p r Wire
no_role true r w = refl
no_role false r w = w refl

role_stays : (s : Said) (name : List ℕ) (ds : List Decl) → (s.port ≡ false → s.role ≡ Wire) → (variable_said (after (Some s) name ds)).role ≡ cond s.port s.role (declared_role ds name)
role_stays s name [] w = no_role s.port s.role w
role_stays s name (d ∷ ds) w =
    by_test (bytes_eq name d.name) (Some (said_with (Some s) d)) (Some s) name ds
    ∙ role_next d (find (λ d. is_direction d && bytes_eq name d.name) ds) (bytes_eq name d.name) s.port (is_port d.role) s.role (variable_said (after (Some s) name ds)).role (variable_said (after (Some (said_with (Some s) d)) name ds)).role
    (only_wire d.role) (role_stays s name ds w) (role_stays (said_with (Some s) d) name ds)

role_first :
    (d : Decl) (f : Option Decl) (b q : Bool) (x y : Role) → (q ≡ false → d.role ≡ Wire) → x ≡ on_some f Wire (λ d. d.role) → y ≡ cond q d.role (on_some f Wire (λ d. d.role))
    → cond b y x ≡ on_some (cond (q && b) (Some d) f) Wire (λ d. d.role)
role_first d f true true x y w h k = k
role_first d f true false x y w h k = k
role_first d f false true x y w h k = h
role_first d f false false x y w h k = h

role_said : (name : List ℕ) (ds : List Decl) → (variable_said (after None name ds)).role ≡ declared_role ds name
role_said name [] = refl
role_said name (d ∷ ds) =
    by_test (bytes_eq name d.name) (Some (said_with None d)) None name ds
    ∙ role_first d (find (λ d. is_direction d && bytes_eq name d.name) ds) (bytes_eq name d.name) (is_port d.role) (variable_said (after None name ds)).role (variable_said (after (Some (said_with None d)) name ds)).role
    (only_wire d.role) (role_said name ds) (role_stays (said_with None d) name ds (only_wire d.role))

-- what declarations say of a name is its variable
pub variable_is : (ds : List Decl) (name : List ℕ) → variable_said (said_in (fold with_decl [] ds) name) ≡ variable_of ds name
variable_is ds name =
    let e : variable_said (said_in (fold with_decl [] ds) name) ≡ variable_said (after None name ds) = ap variable_said (said_after [] ds name) in
    e ∙ (λ i. record { range = range_said name ds i; role = role_said name ds i })

-- the table of a module
pub table_is : (m : Module) → fold (with_said (fold with_decl [] (declarations m))) [] (mentioned m) ≡ variables m
table_is m =
    in_order (fold with_decl [] (declarations m)) [] (mentioned m)
    ∙ same_map (named (fold with_decl [] (declarations m))) (entry_of (declarations m)) (λ name i. (name, variable_is (declarations m) name i)) (variable_names m)

-- its names, up to those of the items
pub table_of :
    (m : Module) (said : Table) (es fs : List Entry) → said ≡ fold with_decl [] (declarations m) → fs ≡ fold (with_said said) [] (header_names m.header)
    → es ≡ fold (with_said said) fs (flat_map item_names m.items) → es ≡ variables m
table_of m said es fs s h k =
    k ∙ ((λ i. fold (with_said said) (h i) (flat_map item_names m.items))
    ∙ (sym (fold-append (with_said said) [] (header_names m.header) (flat_map item_names m.items)) ∙ (ap (λ t. fold (with_said t) [] (mentioned m)) s ∙ table_is m)))

-- reserved names

some_when : (P : List ℕ → Bool) (names : List (List ℕ)) (n : List ℕ) → P n ≡ true → has_name names n ≡ true → is_some (find P names) ≡ true
some_when P [] n h k = cc
some_when P (m ∷ names) n h k = go (bytes_eq n m) (P m) refl refl k (some_when P names n h)
  where
    go : (b p : Bool) → bytes_eq n m ≡ b → P m ≡ p → (b || has_name names n) ≡ true → (has_name names n ≡ true → is_some (find P names) ≡ true) → is_some (cond p (Some m) (find P names)) ≡ true
    go b true e f k ih = refl
    go true false e f k ih = clash (sym f ∙ (ap P (sym (same_name n m e)) ∙ h))
      where
        clash : false ≡ true → is_some (find P names) ≡ true
        clash e = cc
    go false false e f k ih = ih k

found_first : {X : Type 0} (a b c : Option X) → is_some a ≡ true → option_or a b ≡ option_or a c
found_first None b c h = cc
found_first (Some x) b c h = refl

-- the first that passes among the names that stand, and then among further ones
find_fold : (P : List ℕ → Bool) (names more : List (List ℕ)) → find P (fold with_new_name names more) ≡ option_or (find P names) (find P more)
find_fold P names [] = or_none (find P names)
  where
    or_none : (a : Option (List ℕ)) → a ≡ option_or a None
    or_none None = refl
    or_none (Some x) = refl
find_fold P names (m ∷ more) = go (has_name names m) (P m) refl refl (find_fold P names more) (find_fold P (names ++ m ∷ []) more)
  where
    go : (b p : Bool) → has_name names m ≡ b → P m ≡ p → find P (fold with_new_name names more) ≡ option_or (find P names) (find P more)
        → find P (fold with_new_name (names ++ m ∷ []) more) ≡ option_or (find P (names ++ m ∷ [])) (find P more)
        → find P (fold with_new_name (cond b names (names ++ m ∷ [])) more) ≡ option_or (find P names) (cond p (Some m) (find P more))
    go true true e f h k = h ∙ found_first (find P names) (find P more) (Some m) (some_when P names m f e)
    go true false e f h k = h
    go false p e f h k =
        let behind : find P (names ++ m ∷ []) ≡ option_or (find P names) (cond p (Some m) None) = find-append P names (m ∷ []) ∙ ap (λ q. option_or (find P names) (cond q (Some m) None)) f in
        k ∙ (ap (λ z. option_or z (find P more)) behind ∙ (sym (or_assoc (find P names) (cond p (Some m) None) (find P more)) ∙ ap (λ z. option_or (find P names) z) (chosen p)))
      where
        chosen : (p : Bool) → option_or (cond p (Some m) None) (find P more) ≡ cond p (Some m) (find P more)
        chosen true = refl
        chosen false = refl

keys_named : (decls : List Decl) (names : List (List ℕ)) → keys_of (map (entry_of decls) names) ≡ names
keys_named decls [] = refl
keys_named decls (n ∷ names) = ap (λ z. n ∷ z) (keys_named decls names)

-- the first reserved variable is the first reserved use
pub first_use : (P : List ℕ → Bool) (m : Module) (es : List Entry) → es ≡ variables m → find P (keys_of es) ≡ find P (mentioned m)
first_use P m es h = ap (λ z. find P (keys_of z)) h ∙ (ap (find P) (keys_named (declarations m) (variable_names m)) ∙ find_fold P [] (mentioned m))

-- ports

directed_stays : (s : Said) (name : List ℕ) (ds : List Decl) → is_directed (after (Some s) name ds) ≡ (s.port || has_direction ds name)
directed_stays s name [] = sym (or_false s.port)
directed_stays s name (d ∷ ds) = go (bytes_eq name d.name) s.port (is_port d.role) (has_direction ds name) (directed_stays s name ds) (directed_stays (said_with (Some s) d) name ds)
  where
    go : (b p q r : Bool) → is_directed (after (Some s) name ds) ≡ (p || r) → is_directed (after (Some (said_with (Some s) d)) name ds) ≡ ((p || q) || r)
        → is_directed (after (cond b (Some (said_with (Some s) d)) (Some s)) name ds) ≡ (p || ((q && b) || r))
    go true true q r h k = k
    go true false true r h k = k
    go true false false r h k = k
    go false p true r h k = h
    go false p false r h k = h

directed_said : (name : List ℕ) (ds : List Decl) → is_directed (after None name ds) ≡ has_direction ds name
directed_said name [] = refl
directed_said name (d ∷ ds) = go (bytes_eq name d.name) (is_port d.role) (has_direction ds name) (directed_said name ds) (directed_stays (said_with None d) name ds)
  where
    go : (b q r : Bool) → is_directed (after None name ds) ≡ r → is_directed (after (Some (said_with None d)) name ds) ≡ (q || r)
        → is_directed (after (cond b (Some (said_with None d)) None) name ds) ≡ ((q && b) || r)
    go true true r h k = k
    go true false r h k = k
    go false true r h k = h
    go false false r h k = h

-- odd by the table is odd by the declarations
odd_is : (ds : List Decl) → is_odd_said (fold with_decl [] ds) ≡ is_odd_port ds
odd_is ds = λ i before name. has_name before name || not ((ap is_directed (said_after [] ds name) ∙ directed_said name ds) i)

stands : (front : List Decl) (d : Decl) (ds : List Decl) → has_name (map (λ d. d.name) (front ++ d ∷ ds)) d.name ≡ true
stands [] d ds = ap (λ b. b || has_name (map (λ d. d.name) ds) d.name) (name_itself d.name)
stands (f ∷ front) d ds = ap (λ b. bytes_eq d.name f.name || b) (stands front d ds) ∙ or_true (bytes_eq d.name f.name)

never_stray : (front ds : List Decl) → find (is_stray (map (λ d. d.name) (front ++ ds))) ds ≡ None
never_stray front [] = refl
never_stray front (d ∷ ds) =
    let here : has_name (map (λ d. d.name) (front ++ d ∷ ds)) d.name ≡ true = stands front d ds in
    let rest : find (is_stray (map (λ d. d.name) (front ++ d ∷ ds))) ds ≡ None = ap (λ z. find (is_stray (map (λ d. d.name) z)) ds) (sym (append_assoc front (d ∷ []) ds)) ∙ never_stray (front ++ d ∷ []) ds in
    (λ i. cond (is_direction d && not (here i)) (Some d) (rest i)) ∙ go (is_port d.role)
  where
    go : (b : Bool) → cond (b && false) (Some d) None ≡ None
    go true = refl
    go false = refl

header_never_stray : (h : Header) → find (is_stray (header_names h)) (header_decls h) ≡ None
header_never_stray (Plain names) = refl
header_never_stray (Ansi decls) = never_stray [] decls

map_or : (a : Option (List ℕ)) (b : Option Decl) → option_map (λ name. BadPort name None) (option_or a (option_map (λ d. d.name) b)) ≡ option_or (option_map (λ name. BadPort name None) a) (option_map (λ d. BadPort d.name None) b)
map_or None None = refl
map_or None (Some d) = refl
map_or (Some n) b = refl

-- the fault of a module's ports, by the table and what the items declare
pub ports_are :
    (m : Module) (said : Table) → said ≡ fold with_decl [] (declarations m)
    → option_or (odd_fault said [] (header_names m.header)) (stray_fault (header_names m.header) (flat_map item_decls m.items)) ≡ bad_port m
ports_are m said h =
    let odd : odd_fault said [] (header_names m.header) ≡ option_map (λ name. BadPort name None) (first_behind (is_odd_port (declarations m)) [] (header_names m.header)) =
    ap (λ t. odd_fault t [] (header_names m.header)) h ∙ ap (λ f. option_map (λ name. BadPort name None) (first_behind f [] (header_names m.header))) (odd_is (declarations m)) in
    let strays : find (is_stray (header_names m.header)) (declarations m) ≡ find (is_stray (header_names m.header)) (flat_map item_decls m.items) =
    find-append (is_stray (header_names m.header)) (header_decls m.header) (flat_map item_decls m.items) ∙ ap (λ z. option_or z (find (is_stray (header_names m.header)) (flat_map item_decls m.items))) (header_never_stray m.header) in
    (λ i. option_or (odd i) (option_map (λ d. BadPort d.name None) (sym strays i)))
    ∙ sym (map_or (first_behind (is_odd_port (declarations m)) [] (header_names m.header)) (find (is_stray (header_names m.header)) (declarations m)))
