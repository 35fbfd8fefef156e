-- Lines and their leaves, one after another.
use Rattle.std.proofs.Common.{arith, ◌≡◌, ℕ, zero, suc, ◌+◌, ◌<◌, Bool, false, List, [], ◌∷◌, ◌++◌, length, map, take, refl, sym, ap, ◌∙◌, subst, get_or, nat_eq, slice_get, Option, None, Some, Contains}
use Rattle.std.specs.List.{AllZip, list_any, flat_map}
use Rattle.std.specs.Option.{option_map}
use Rattle.std.proofs.lemmas.List.{get_or_read, take_more}
use Rattle.std.proofs.lemmas.List.Elements.{All-contains}
use Rattle.bb_base.specs.Net.{Gate, Flop, Netlist, driven, IsNetlist}
use Rattle.bb_base.proofs.Lists.{in_back, length_map}
use Rattle.bb_base.proofs.Contained.{contains_at, contains_map}
use Rattle.bb_terms.specs.Paths.{Start, AtNet, Behind}
use Rattle.bb_terms.specs.Function.{StandsIn}
use Rattle.bb_terms.specs.Support.{start_in}
use Rattle.bb_terms.specs.declared.start.Start.{Start as CodeStart}
use Rattle.bb_terms.specs.declared.start.Start.TheVariants.{Net, Gate as GateNumber}
use Rattle.bb_reg.specs.LineTables.{reading_in}
use Rattle.bb_reg.proofs.SeenLemmas.{get_map}

-- one more item of each list
pub zip_push : {X Y : Type 0} (R : X → Y → Type 0) (xs : List X) (ys : List Y) (x : X) (y : Y) → AllZip R xs ys → R x y → AllZip R (xs ++ x ∷ []) (ys ++ y ∷ [])
zip_push R [] [] x y h r = (r, tt)
zip_push R [] (z ∷ ys) x y h r = absurd h
zip_push R (z ∷ xs) [] x y h r = absurd h
zip_push R (z ∷ xs) (w ∷ ys) x y h r = (h.0, zip_push R xs ys x y h.1 r)

pub zip_more : {X Y : Type 0} (R : X → Y → Type 0) (xs : List X) (ys : List Y) (i : ℕ) (x : X) (y : Y) → i < length xs → x ≡ get_or xs i x → AllZip R (take i xs) ys → R x y → AllZip R (take (i + 1) xs) (ys ++ y ∷ [])
zip_more R xs ys i x y low is h r =
    let list = take_more xs i x low ∙ ap (λ k. take i xs ++ k ∷ []) (sym is) in
    subst (λ ks. AllZip R ks (ys ++ y ∷ [])) (sym list) (zip_push R (take i xs) ys x y h r)

pub zip_long : {X Y : Type 0} (R : X → Y → Type 0) (xs : List X) (ys : List Y) → AllZip R xs ys → length ys ≡ length xs
zip_long R [] [] h = refl
zip_long R [] (y ∷ ys) h = absurd h
zip_long R (x ∷ xs) [] h = absurd h
zip_long R (x ∷ xs) (y ∷ ys) h = ap suc (zip_long R xs ys h.1)

-- one more flip-flop is self-reading or not
pub reading_get : (flops : List (Flop ℕ)) (lines : List (List ℕ)) (i : ℕ) (d : Flop ℕ) → length lines ≡ length flops → i < length flops → get_or (reading_in flops lines) i false ≡ list_any (nat_eq (get_or flops i d).q) (get_or lines i [])
reading_get [] lines i d long low = absurd (omega (arith, low))
reading_get (f ∷ flops) [] i d long low = absurd (omega (arith, long))
reading_get (f ∷ flops) (l ∷ lines) zero d long low = refl
reading_get (f ∷ flops) (l ∷ lines) (suc i) d long low = reading_get flops lines i d (omega (arith, long)) (omega (arith, low))

pub reading_long : (flops : List (Flop ℕ)) (lines : List (List ℕ)) → length lines ≡ length flops → length (reading_in flops lines) ≡ length flops
reading_long [] lines long = refl
reading_long (f ∷ flops) [] long = absurd (omega (arith, long))
reading_long (f ∷ flops) (l ∷ lines) long = ap suc (reading_long flops lines (omega (arith, long)))

pub reading_more :
    {V : Type 0} (f : V → List ℕ) (flops : List (Flop ℕ)) (lines : List V) (reading : List Bool) (i : ℕ) (flop : Flop ℕ) (v : V) (b : Bool) → length lines ≡ length flops → i < length flops
    → reading ≡ take i (reading_in flops (map f lines)) → flop ≡ get_or flops i flop → v ≡ get_or lines i v → b ≡ list_any (nat_eq flop.q) (f v) → reading ++ b ∷ [] ≡ take (i + 1) (reading_in flops (map f lines))
reading_more f flops lines reading i flop v b long low before flop_is v_is is =
    let all = reading_in flops (map f lines) in
    let long' : length (map f lines) ≡ length flops = length_map f lines ∙ long in
    let inside : i < length all = omega (arith, low, reading_long flops (map f lines) long') in
    let own : f v ≡ get_or (map f lines) i [] = get_or_read (map f lines) i (f v) (omega (arith, low, long')) (ap f v_is ∙ sym (get_map f lines i v)) [] in
    let bit : b ≡ get_or all i false = is ∙ (λ k. list_any (nat_eq (flop_is k).q) (own k)) ∙ sym (reading_get flops (map f lines) i flop long' low) in
    (λ k. before k ++ bit k ∷ []) ∙ sym (take_more all i false inside)

-- a start that exists stands in the netlist
pub stands_in : (gates : List (Gate ℕ)) (s : CodeStart) (from : Start ℕ) → start_in gates s ≡ Some from → StandsIn gates from
stands_in gates (Net net) from e = let same : AtNet net ≡ from = cc e in subst (StandsIn gates) same tt
stands_in gates (GateNumber number) from e = by (slice_get gates number) refl e
  where
    by : (o : Option (Gate ℕ)) → slice_get gates number ≡ o → option_map Behind o ≡ Some from → StandsIn gates from
    by None at e = absurd (cc e)
    by (Some g) at e = let same : Behind g ≡ from = cc e in subst (StandsIn gates) same (contains_at gates number g at)

-- what a flip-flop takes is a net
pub flop_reads : (n : Netlist ℕ) (f : Flop ℕ) → IsNetlist n → Contains n.flops f → f.d < length (driven n)
flop_reads n f is c =
    let all = in_back (λ net. net < length (driven n)) (flat_map (λ (g : Gate ℕ). g.ins) n.gates) (map (λ (f : Flop ℕ). f.d) n.flops)
    (in_back (λ net. net < length (driven n)) n.outputs (flat_map (λ (g : Gate ℕ). g.ins) n.gates ++ map (λ (f : Flop ℕ). f.d) n.flops) is.reads_nets) in
    All-contains (λ net. net < length (driven n)) (map (λ (f : Flop ℕ). f.d) n.flops) f.d all (contains_map (λ (f : Flop ℕ). f.d) n.flops f c)
