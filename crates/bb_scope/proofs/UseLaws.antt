-- The uses of parts that stand one behind the other.
use Rattle.std.proofs.Common.{arith, ◌≡◌, ℕ, ◌+◌, ◌<◌, List, [], ◌∷◌, ◌++◌, length, take, drop, map, refl, sym, ap, subst, ◌∙◌, append_assoc}
use Rattle.std.proofs.lemmas.Grind.{common_steps, flat_map-append}
use Rattle.std.specs.Prelude.{flat_map, slice_index_or, zip, Some}
use Rattle.bb_base.specs.Variables.{Entry}
use Rattle.bb_base.specs.declared.operator.Op.{Op}
use Rattle.bb_parse.specs.declared.syntax.Ref.{Ref}
use Rattle.bb_parse.specs.declared.syntax.Step.{Step}
use Rattle.bb_parse.specs.declared.syntax.Conns.{Conns}
use Rattle.bb_parse.specs.declared.syntax.Conns.TheVariants.{Places, Pins}
use Rattle.bb_scope.specs.Names.{steps_names, conns_names}
use Rattle.bb_scope.specs.Cells.{Kind, Pin, pins_of, by_place}
use Rattle.bb_scope.specs.Terminals.{out_count, outs_of, ins_of}
use Rattle.bb_scope.specs.Uses.{index_in, uses_of, pins_names, AreNext}

here : (vars : List Entry) (a b : List (List ℕ)) (uses : List ℕ) → take (length (a ++ b)) uses ≡ uses_of vars (a ++ b) → take (length a) uses ≡ uses_of vars a
here vars [] b uses h = refl
here vars (n ∷ a) b [] h = cc
here vars (n ∷ a) b (u ∷ uses) h =
    let head : u ≡ index_in vars n = cc in
    let rest : take (length (a ++ b)) uses ≡ uses_of vars (a ++ b) = cc in
    (λ i. head i ∷ here vars a b uses rest i)

behind : (vars : List Entry) (a b : List (List ℕ)) (uses : List ℕ) → take (length (a ++ b)) uses ≡ uses_of vars (a ++ b) → take (length b) (drop (length a) uses) ≡ uses_of vars b
behind vars [] b uses h = h
behind vars (n ∷ a) b [] h = cc
behind vars (n ∷ a) b (u ∷ uses) h =
    let rest : take (length (a ++ b)) uses ≡ uses_of vars (a ++ b) = cc in
    behind vars a b uses rest

-- of two parts, the first one's uses come next
pub next_here : (vars : List Entry) (a b : List (List ℕ)) (uses : List ℕ) → AreNext vars (a ++ b) uses → AreNext vars a uses
next_here vars a b uses h = record { all = here vars a b uses h.all }

-- and behind them those of the second
pub next_behind : (vars : List Entry) (a b : List (List ℕ)) (uses : List ℕ) → AreNext vars (a ++ b) uses → AreNext vars b (drop (length a) uses)
next_behind vars a b uses h = record { all = behind vars a b uses h.all }

parted : {A : Type 0} (xs : List A) (i : ℕ) (x : A) → x ≡ slice_index_or xs i x → i < length xs → drop i xs ≡ x ∷ drop (i + 1) xs
parted xs i x e h = grind (arith, common_steps, e, h)

-- of parts in a row, one comes next
pub next_one :
    {A : Type 0} (f : A → List (List ℕ)) (vars : List Entry) (xs : List A) (i : ℕ) (x y : A) (uses : List ℕ) → AreNext vars (flat_map f (drop i xs)) uses → x ≡ slice_index_or xs i x
    → i < length xs → y ≡ x → AreNext vars (f y) uses
next_one f vars xs i x y uses h e w same =
    let both : AreNext vars (f x ++ flat_map f (drop (i + 1) xs)) uses = subst (λ z. AreNext vars (flat_map f z) uses) (parted xs i x e w) h in
    subst (λ z. AreNext vars (f z) uses) (sym same) (next_here vars (f x) (flat_map f (drop (i + 1) xs)) uses both)

-- and then those behind it
pub next_on :
    {A : Type 0} (f : A → List (List ℕ)) (vars : List Entry) (xs : List A) (i : ℕ) (x y : A) (uses rest : List ℕ) → AreNext vars (flat_map f (drop i xs)) uses → x ≡ slice_index_or xs i x
    → i < length xs → y ≡ x → rest ≡ drop (length (f y)) uses → AreNext vars (flat_map f (drop (i + 1) xs)) rest
next_on f vars xs i x y uses rest h e w same r =
    let both : AreNext vars (f x ++ flat_map f (drop (i + 1) xs)) uses = subst (λ z. AreNext vars (flat_map f z) uses) (parted xs i x e w) h in
    let behind : AreNext vars (flat_map f (drop (i + 1) xs)) (drop (length (f x)) uses) = next_behind vars (f x) (flat_map f (drop (i + 1) xs)) uses both in
    subst (AreNext vars (flat_map f (drop (i + 1) xs))) (sym (r ∙ ap (λ z. drop (length (f z)) uses) same)) behind

-- the same of a part itself
pub next_item :
    {A : Type 0} (f : A → List (List ℕ)) (vars : List Entry) (xs : List A) (i : ℕ) (x : A) (uses : List ℕ) → AreNext vars (flat_map f (drop i xs)) uses → x ≡ slice_index_or xs i x
    → i < length xs → AreNext vars (f x) uses
next_item f vars xs i x uses h e w = next_one f vars xs i x x uses h e w refl

pub next_items :
    {A : Type 0} (f : A → List (List ℕ)) (vars : List Entry) (xs : List A) (i : ℕ) (x : A) (uses rest : List ℕ) → AreNext vars (flat_map f (drop i xs)) uses → x ≡ slice_index_or xs i x
    → i < length xs → rest ≡ drop (length (f x)) uses → AreNext vars (flat_map f (drop (i + 1) xs)) rest
next_items f vars xs i x uses rest h e w r = next_on f vars xs i x x uses rest h e w refl r

-- behind the references of a left side the uses of the right side come next
pub next_right :
    (vars : List Entry) (left : List Ref) (names : List (List ℕ)) (n : ℕ) (uses rest : List ℕ) → AreNext vars (map (λ r. r.name) left ++ names) uses → n ≡ length left → rest ≡ drop n uses
    → AreNext vars names rest
next_right vars left names n uses rest h e r =
    let long : length (map (λ r. r.name) left) ≡ n = grind (arith, common_steps, e) in
    subst (AreNext vars names) (sym (r ∙ ap (λ k. drop k uses) (sym long))) (next_behind vars (map (λ r. r.name) left) names uses h)

-- the terminals of a primitive, those that are driven first
all_terms : (n : ℕ) (terms : List (List Step)) → take n terms ++ drop n terms ≡ terms
all_terms n terms = grind (arith, common_steps)

halves :
    (vars : List Entry) (op : Op) (terms : List (List Step)) (uses : List ℕ) → AreNext vars (flat_map steps_names terms) uses
    → AreNext vars (flat_map steps_names (outs_of op terms) ++ flat_map steps_names (ins_of op terms)) uses
halves vars op terms uses h =
    subst (λ z. AreNext vars z uses)
    (ap (flat_map steps_names) (sym (all_terms (out_count op (length terms)) terms)) ∙ flat_map-append steps_names (outs_of op terms) (ins_of op terms))
    h

pub next_outs :
    (vars : List Entry) (op : Op) (terms outs : List (List Step)) (uses : List ℕ) → AreNext vars (flat_map steps_names terms) uses → outs ≡ outs_of op terms → AreNext vars (flat_map steps_names outs) uses
next_outs vars op terms outs uses h o =
    subst (λ z. AreNext vars (flat_map steps_names z) uses) (sym o) (next_here vars (flat_map steps_names (outs_of op terms)) (flat_map steps_names (ins_of op terms)) uses (halves vars op terms uses h))

pub next_ins :
    (vars : List Entry) (op : Op) (terms outs ins : List (List Step)) (uses rest : List ℕ) → AreNext vars (flat_map steps_names terms) uses → outs ≡ outs_of op terms → ins ≡ ins_of op terms
    → rest ≡ drop (length (flat_map steps_names outs)) uses → AreNext vars (flat_map steps_names ins) rest
next_ins vars op terms outs ins uses rest h o i r =
    let behind : AreNext vars (flat_map steps_names (ins_of op terms)) (drop (length (flat_map steps_names (outs_of op terms))) uses) =
    next_behind vars (flat_map steps_names (outs_of op terms)) (flat_map steps_names (ins_of op terms)) uses (halves vars op terms uses h) in
    subst (λ z. AreNext vars (flat_map steps_names z) rest) (sym i)
    (subst (AreNext vars (flat_map steps_names (ins_of op terms))) (sym (r ∙ ap (λ z. drop (length (flat_map steps_names z)) uses) o)) behind)

-- terminals by place are the first ones
placed : (places : List (List ℕ)) (terms : List (List Step)) → (more : List (List ℕ)) × (flat_map steps_names terms ≡ pins_names (zip places (map (λ e. Some e) terms)) ++ more)
placed [] terms = (flat_map steps_names terms, refl)
placed (name ∷ places) [] = ([], refl)
placed (name ∷ places) (term ∷ terms) =
    let rest = placed places terms in
    (rest.0, ap (λ z. steps_names term ++ z) rest.1 ∙ sym (append_assoc (steps_names term) (pins_names (zip places (map (λ e. Some e) terms))) rest.0))

-- the pins of an instance have the first uses of what it is connected to
pub next_pins :
    (vars : List Entry) (kind : Kind) (conns : Conns) (pins : List Pin) (uses : List ℕ) → AreNext vars (conns_names conns) uses → pins ≡ pins_of kind conns → AreNext vars (pins_names pins) uses
next_pins vars kind (Pins list) pins uses h e = subst (λ z. AreNext vars (pins_names z) uses) (sym e) h
next_pins vars kind (Places terms) pins uses h e =
    let p = placed kind.places terms in
    subst (λ z. AreNext vars (pins_names z) uses) (sym e) (next_here vars (pins_names (by_place kind terms)) p.0 uses (subst (λ z. AreNext vars z uses) p.1 h))

pub ruleset use_laws = (next_here, next_behind)
