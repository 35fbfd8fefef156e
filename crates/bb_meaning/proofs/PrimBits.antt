-- The bits that a primitive drives are what its operator gives on those of its inputs.
use Rattle.std.proofs.Common.{◌≡◌, ℕ, suc, zero, Bool, true, ◌==◌, List, [], ◌∷◌, ◌++◌, map, length, take, drop, refl, ap, sym, ◌∙◌, subst, nat_le}
use Rattle.std.proofs.lemmas.List.{map-append}
use Rattle.std.specs.Prelude.{Option, Some, None, flat_map}
use Rattle.std.specs.Option.{option_or}
use Rattle.std.specs.List.{AllByRecursion, list_all}
use Rattle.bb_base.specs.Operators.{op_gives}
use Rattle.bb_base.specs.declared.operator.Op.{Op}
use Rattle.bb_base.specs.Variables.{Entry}
use Rattle.bb_base.proofs.Lists.{all_front, all_back}
use Rattle.bb_parse.specs.declared.syntax.Ref.{Ref}
use Rattle.bb_parse.specs.declared.syntax.Step.{Step}
use Rattle.bb_parse.specs.declared.syntax.Step.TheVariants as step
use Rattle.bb_fault.specs.Firsts.{first_answer}
use Rattle.bb_fault.proofs.Parted.{both-first, both-second, none-first, none-second}
use Rattle.bb_scope.specs.Names.{steps_names}
use Rattle.bb_scope.specs.Cells.{is_plain}
use Rattle.bb_scope.specs.References.{ref_fault}
use Rattle.bb_scope.specs.Terminals.{out_count, outs_of, ins_of}
use Rattle.bb_scope.specs.Sizes.{width, differs, steps_stack, last_size, steps_fault, expr_fault}
use Rattle.bb_scope.specs.Parts.{are_right_terms, prim_fault}
use Rattle.bb_fault.specs.Work.{Work, Clocked, drive}
use Rattle.bb_scope.specs.Making.{terminal_made, terminals_made, all_driven, driven_bits, prim_made}
use Rattle.bb_meaning.proofs.AllItems.{all_take, all_drop}
use Rattle.bb_meaning.proofs.WithinSteps.{AreKnown}
use Rattle.bb_scope.proofs.Assigns.{right-terms}
use Rattle.bb_scope.proofs.Instances.{plain-bit, fine-conns}
use Rattle.bb_meaning.proofs.MadeBits.{AllMeet, drive-bits}
use Rattle.bb_meaning.proofs.StepValues.{steps_value}
use Rattle.bb_meaning.proofs.StepBits.{AreRead, last_bits, ref-bits, terminal-bits}

-- the value of an expression by its steps
abbrev pub value_by_steps : (Ref → List Bool) → List Step → List Bool
value_by_steps read steps = last_bits (steps_value read steps [])

-- the names in expressions are those of variables
abbrev pub AllKnown : List Entry → List (List Step) → Type 0
AllKnown table es = AllByRecursion (λ e. AreKnown table (steps_names e)) es

-- expressions of which each has no fault
pub none-take : {X Y : Type 0} (f : X → Option Y) (n : ℕ) (xs : List X) → first_answer f xs ≡ None → first_answer f (take n xs) ≡ None
none-take f zero xs h = refl
none-take f (suc n) [] h = refl
none-take f (suc n) (x ∷ xs) h = both (f x) (first_answer f (take n xs)) (none-first (f x) (first_answer f xs) h) (none-take f n xs (none-second (f x) (first_answer f xs) h))
  where
    both : {Y : Type 0} (a b : Option Y) → a ≡ None → b ≡ None → option_or a b ≡ None
    both None b h k = k
    both (Some y) b h k = cc

pub none-drop : {X Y : Type 0} (f : X → Option Y) (n : ℕ) (xs : List X) → first_answer f xs ≡ None → first_answer f (drop n xs) ≡ None
none-drop f zero xs h = h
none-drop f (suc n) [] h = refl
none-drop f (suc n) (x ∷ xs) h = none-drop f n xs (none-second (f x) (first_answer f xs) h)

-- terminals that are read, one after the other
pub terminals-bits :
    (table : List Entry) (v : ℕ → Bool) (F : Clocked → Type 0) (read : Ref → List Bool) → AreRead table v read → (line : ℕ) (es : List (List Step)) (w : Work)
    → AllKnown table es → first_answer (expr_fault table line 1) es ≡ None → AllMeet v F (terminals_made table es w).1
    → AllMeet v F w × (map v (terminals_made table es w).0 ≡ flat_map (value_by_steps read) es)
terminals-bits table v F read reads line [] w known fine h = (h, refl)
terminals-bits table v F read reads line (e ∷ es) w known fine h =
    let first = terminal_made table e w in
    let more = terminals-bits table v F read reads line es first.1 known.1 (none-second (expr_fault table line 1 e) (first_answer (expr_fault table line 1) es) fine) h in
    let here = terminal-bits table v F read reads line 1 e w known.0 (none-first (expr_fault table line 1 e) (first_answer (expr_fault table line 1) es) fine) more.0 in
    (here.0, map-append v first.0 (terminals_made table es first.1).0 ∙ (λ i. here.1 i ++ more.1 i))

-- the same gate for each target
driven-bits :
    (v : ℕ → Bool) (F : Clocked → Type 0) (o : Op) (ins targets : List ℕ) (w : Work) → AllMeet v F (all_driven o ins targets w).1 → AllMeet v F w × AllByRecursion (λ t. v t ≡ op_gives o (map v ins)) targets
driven-bits v F o ins [] w h = (h, tt)
driven-bits v F o ins (t ∷ targets) w h =
    let more = driven-bits v F o ins targets (drive o ins t w).1 h in
    let here = drive-bits v F o ins t w more.0 in
    (here.0, (here.1, more.1))

-- a plain terminal is its one bit
one-bit : (v : ℕ → Bool) (x : Bool) (bits : List ℕ) → length bits ≡ 1 → AllByRecursion (λ t. v t ≡ x) bits → map v bits ≡ x ∷ []
one-bit v x [] one all = cc
one-bit v x (t ∷ []) one all = ap (λ z. z ∷ []) all.0
one-bit v x (t ∷ u ∷ more) one all = cc

pub plain-value :
    (table : List Entry) (v : ℕ → Bool) (read : Ref → List Bool) → AreRead table v read → (line : ℕ) (e : List Step)
    → AreKnown table (steps_names e) → is_plain e ≡ true → expr_fault table line 1 e ≡ None → map v (driven_bits table e) ≡ value_by_steps read e
plain-value table v read reads line [] known p fine = cc
plain-value table v read reads line (step.Ref r ∷ []) known p fine =
    let steps = none-first (steps_fault table line (step.Ref r ∷ []) []) (differs line (width (last_size (steps_stack table (step.Ref r ∷ []) [])) == 1)) fine in
    ref-bits table v read reads line r known.0 (none-first (ref_fault table line r) None steps)
plain-value table v read reads line (step.Ref r ∷ next ∷ more) known p fine = cc
plain-value table v read reads line (step.Const n number ∷ ss) known p fine = cc
plain-value table v read reads line (step.Not ∷ ss) known p fine = cc
plain-value table v read reads line (step.And ∷ ss) known p fine = cc
plain-value table v read reads line (step.Or ∷ ss) known p fine = cc
plain-value table v read reads line (step.Xor ∷ ss) known p fine = cc
plain-value table v read reads line (step.Xnor ∷ ss) known p fine = cc
plain-value table v read reads line (step.Cond ∷ ss) known p fine = cc
plain-value table v read reads line (step.Join n ∷ ss) known p fine = cc
plain-value table v read reads line (step.Repeat n ∷ ss) known p fine = cc

-- terminals that are driven
outs-bits :
    (table : List Entry) (v : ℕ → Bool) (read : Ref → List Bool) → AreRead table v read → (line : ℕ) (x : Bool) (es : List (List Step))
    → AllKnown table es → list_all is_plain es ≡ true → first_answer (expr_fault table line 1) es ≡ None → AllByRecursion (λ t. v t ≡ x) (flat_map (driven_bits table) es)
    → AllByRecursion (λ e. value_by_steps read e ≡ x ∷ []) es
outs-bits table v read reads line x [] known p fine all = tt
outs-bits table v read reads line x (e ∷ es) known p fine all =
    let plain = both-first (is_plain e) (list_all is_plain es) p in
    let first = none-first (expr_fault table line 1 e) (first_answer (expr_fault table line 1) es) fine in
    let others = none-second (expr_fault table line 1 e) (first_answer (expr_fault table line 1) es) fine in
    let P = λ (t : ℕ). v t ≡ x in
    let here = one-bit v x (driven_bits table e) (plain-bit table line e plain first) (all_front P (driven_bits table e) (flat_map (driven_bits table) es) all) in (
      sym (plain-value table v read reads line e known.0 plain first) ∙ here,
      outs-bits table v read reads line x es known.1 (both-second (is_plain e) (list_all is_plain es) p) others (all_back P (driven_bits table e) (flat_map (driven_bits table) es) all),
    )

-- a primitive: each terminal that it drives has what its operator gives on the bits of those that it reads
abbrev pub PrimHolds : (Ref → List Bool) → Op → List (List Step) → Type 0
PrimHolds read o terms = AllByRecursion (λ out. value_by_steps read out ≡ op_gives o (flat_map (value_by_steps read) (ins_of o terms)) ∷ []) (outs_of o terms)

pub prim-bits :
    (table : List Entry) (v : ℕ → Bool) (F : Clocked → Type 0) (read : Ref → List Bool) → AreRead table v read → (line : ℕ) (o : Op) (terms : List (List Step)) (w : Work)
    → AllKnown table terms → prim_fault table line o terms ≡ None → AllMeet v F (prim_made table o terms w).1 → AllMeet v F w × PrimHolds read o terms
prim-bits table v F read reads line o terms w known fine h =
    let n = out_count o (length terms) in
    let P = λ (e : List Step). AreKnown table (steps_names e) in
    let right = right-terms line (are_right_terms o terms) (first_answer (expr_fault table line 1) terms) fine in
    let each = fine-conns line (are_right_terms o terms) (first_answer (expr_fault table line 1) terms) fine in
    let plain = both-second (nat_le 2 (length terms)) (list_all is_plain (outs_of o terms)) right in
    let made = terminals_made table (ins_of o terms) w in
    let out = driven-bits v F o made.0 (flat_map (driven_bits table) (outs_of o terms)) made.1 h in
    let ins = terminals-bits table v F read reads line (ins_of o terms) w (all_drop P n terms known) (none-drop (expr_fault table line 1) n terms each) out.0 in (
      ins.0,
      outs-bits table v read reads line (op_gives o (flat_map (value_by_steps read) (ins_of o terms))) (outs_of o terms) (all_take P n terms known) plain (none-take (expr_fault table line 1) n terms each)
          (subst (λ bits. AllByRecursion (λ t. v t ≡ op_gives o bits) (flat_map (driven_bits table) (outs_of o terms))) ins.1 out.1),
    )
