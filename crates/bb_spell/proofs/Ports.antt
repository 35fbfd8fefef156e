-- The ports that are still to be written.
use Rattle.std.proofs.Common.{◌≡◌, ℕ, ◌+◌, zero, suc, Bool, true, false, List, [], ◌∷◌, ◌++◌, map, drop, Some, codes, slice_get, refl, sym, ap, ◌∙◌, arith, append_assoc}
use Rattle.std.specs.List.{flat_map}
use Rattle.bb_base.specs.Variables.{Entry, is_port}
use Rattle.bb_spell.specs.Spelling.{spelled_name, further, joined}
use Rattle.bb_spell.specs.Canonical.{port_names}

-- names that follow others, or that come first
abbrev pub after_ports : Bool → List (List ℕ) → List ℕ
after_ports true names = flat_map further names
after_ports false names = joined names

abbrev pub ports_from : Bool → List Entry → List ℕ
ports_from parted variables = after_ports parted (map spelled_name (port_names variables))

-- an item that stands at a place is the first of those from it on
pub drop_at : {X : Type 0} (xs : List X) (i : ℕ) (x : X) → slice_get xs i ≡ Some x → drop i xs ≡ x ∷ drop (i + 1) xs
drop_at [] i x h = cc
drop_at (y ∷ ys) zero x h =
    let e : y ≡ x = cc in
    ap (λ z. z ∷ ys) e
drop_at (y ∷ ys) (suc i) x h = drop_at ys i x h ∙ ap (λ n. x ∷ drop n (y ∷ ys)) (let e : suc (i + 1) ≡ suc i + 1 = omega arith in e)

other_at : (v : Entry) (vs : List Entry) (b parted : Bool) → is_port v.1.role ≡ b → b ≡ false → ports_from parted (v ∷ vs) ≡ ports_from parted vs
other_at v vs b true h e = rw (h ∙ e) refl
other_at v vs b false h e = rw (h ∙ e) refl

-- a variable that is no port adds nothing
pub other_kept : (variables : List Entry) (i : ℕ) (v : Entry) (parted : Bool) → slice_get variables i ≡ Some v → is_port v.1.role ≡ false → ports_from parted (drop (i + 1) variables) ≡ ports_from parted (drop i variables)
other_kept variables i v parted at h = sym (ap (ports_from parted) (drop_at variables i v at) ∙ other_at v (drop (i + 1) variables) false parted h refl)

-- the first port stands alone, and each other one follows a comma
pub first_port : (variables : List Entry) (i : ℕ) (v : Entry) (line : List ℕ) → slice_get variables i ≡ Some v → is_port v.1.role ≡ true
    → (line ++ spelled_name v.0) ++ ports_from true (drop (i + 1) variables) ≡ line ++ ports_from false (drop i variables)
first_port variables i v line at h =
    let one : ports_from false (v ∷ drop (i + 1) variables) ≡ spelled_name v.0 ++ ports_from true (drop (i + 1) variables) = rw h refl in
    append_assoc line (spelled_name v.0) (ports_from true (drop (i + 1) variables)) ∙ ap (λ z. line ++ z) (sym one ∙ ap (ports_from false) (sym (drop_at variables i v at)))

pub next_port : (variables : List Entry) (i : ℕ) (v : Entry) (line : List ℕ) → slice_get variables i ≡ Some v → is_port v.1.role ≡ true
    → ((line ++ codes ", ") ++ spelled_name v.0) ++ ports_from true (drop (i + 1) variables) ≡ line ++ ports_from true (drop i variables)
next_port variables i v line at h =
    let rest : List ℕ = ports_from true (drop (i + 1) variables) in
    let one : ports_from true (v ∷ drop (i + 1) variables) ≡ (codes ", " ++ spelled_name v.0) ++ rest = rw h refl in
    append_assoc (line ++ codes ", ") (spelled_name v.0) rest ∙ append_assoc line (codes ", ") (spelled_name v.0 ++ rest)
    ∙ ap (λ z. line ++ z) (sym one ∙ ap (ports_from true) (sym (drop_at variables i v at)))

-- the same, for the line as the loop has it
pub other_step : (variables : List Entry) (i : ℕ) (v : Entry) (old parted : Bool) (line new all : List ℕ) → slice_get variables i ≡ Some v → is_port v.1.role ≡ false → parted ≡ old → new ≡ line
    → line ++ ports_from old (drop i variables) ≡ all → new ++ ports_from parted (drop (i + 1) variables) ≡ all
other_step variables i v old parted line new all at h p n e = rw (p, n) (ap (λ z. line ++ z) (other_kept variables i v old at h) ∙ e)

pub first_step : (variables : List Entry) (i : ℕ) (v : Entry) (old parted : Bool) (line new all : List ℕ) → slice_get variables i ≡ Some v → is_port v.1.role ≡ true → old ≡ false → parted ≡ true → new ≡ line ++ spelled_name v.0
    → line ++ ports_from old (drop i variables) ≡ all → new ++ ports_from parted (drop (i + 1) variables) ≡ all
first_step variables i v old parted line new all at h o p n e = rw (p, n) (first_port variables i v line at h ∙ ap (λ b. line ++ ports_from b (drop i variables)) (sym o) ∙ e)

pub next_step : (variables : List Entry) (i : ℕ) (v : Entry) (old parted : Bool) (line mid new all : List ℕ) → slice_get variables i ≡ Some v → is_port v.1.role ≡ true → old ≡ true → parted ≡ true → mid ≡ line ++ codes ", " → new ≡ mid ++ spelled_name v.0
    → line ++ ports_from old (drop i variables) ≡ all → new ++ ports_from parted (drop (i + 1) variables) ≡ all
next_step variables i v old parted line mid new all at h o p m n e = rw (p, n, m) (next_port variables i v line at h ∙ ap (λ b. line ++ ports_from b (drop i variables)) (sym o) ∙ e)
