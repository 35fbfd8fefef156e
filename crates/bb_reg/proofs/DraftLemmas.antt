-- The items whose bit is 1, one after another, and the cells on them.
use Rattle.std.proofs.Common.{arith, ◌≡◌, ℕ, zero, suc, ◌+◌, ◌<◌, ◌≢◌, Bool, true, false, not, List, [], ◌∷◌, ◌++◌, length, map, take, refl, sym, ap, subst, ◌∙◌, get_or, nat_eq, if◌then◌else◌, append-nil}
use Rattle.std.specs.Prelude.{◌↔◌, filter}
use Rattle.std.specs.List.{AllZip, AllByRecursion}
use Rattle.std.proofs.lemmas.Bool.Decides.{nat_tests}
use Rattle.bb_base.proofs.Distinct.{Distinct}
use Rattle.bb_base.specs.Net.{Gate, Flop, Netlist, IsNetlist}
use Rattle.bb_base.proofs.GateLemmas.{driven_distinct}
use Rattle.bb_terms.specs.Paths.{AtNet, IsLeaf}
use Rattle.bb_terms.specs.Support.{AreLeaves, stop_at}
use Rattle.bb_terms.specs.Cuts.{is_stop_with}
use Rattle.bb_segment.proofs.SetLemmas.{member_true, true_member}
use Rattle.bb_terms.specs.declared.kind.Kind.TheVariants.{State, Watch, Cut, Output}
use Rattle.bb_terms.specs.declared.plan.Cell.{Cell}
use Rattle.bb_terms.specs.Lines.{d_of}
use Rattle.bb_reg.specs.Draft.{those, bare_cell, source_cells, HasLeavesWith, AreCells}
use Rattle.bb_reg.specs.LineTables.{AreStopsOf, IsLineBehind, reading_in}

those_next : {X : Type 0} (bits : List Bool) (xs : List X) (i : ℕ) (d : X) → length bits ≡ length xs → i < length xs → those (take (suc i) bits) (take (suc i) xs) ≡ those (take i bits) (take i xs) ++ (if get_or bits i false then get_or xs i d ∷ [] else [])
those_next [] [] i d long low = absurd (omega (arith, low))
those_next [] (x ∷ xs) i d long low = absurd (omega (arith, long))
those_next (b ∷ bits) [] i d long low = absurd (omega (arith, low))
those_next (true ∷ bits) (x ∷ xs) zero d long low = refl
those_next (false ∷ bits) (x ∷ xs) zero d long low = refl
those_next (true ∷ bits) (x ∷ xs) (suc i) d long low = ap (λ ks. x ∷ ks) (those_next bits xs i d (omega (arith, long)) (omega (arith, low)))
those_next (false ∷ bits) (x ∷ xs) (suc i) d long low = those_next bits xs i d (omega (arith, long)) (omega (arith, low))

pub those_yes : {X : Type 0} (bits : List Bool) (xs : List X) (i : ℕ) (x : X) → length bits ≡ length xs → i < length xs → get_or bits i false ≡ true → x ≡ get_or xs i x → those (take (i + 1) bits) (take (i + 1) xs) ≡ those (take i bits) (take i xs) ++ x ∷ []
those_yes bits xs i x long low set is =
    let next : i + 1 ≡ suc i = omega arith in
    ap (λ n. those (take n bits) (take n xs)) next ∙ those_next bits xs i x long low ∙ (λ k. those (take i bits) (take i xs) ++ (if set k then sym is k ∷ [] else []))

pub those_no : {X : Type 0} (bits : List Bool) (xs : List X) (i : ℕ) (x : X) → length bits ≡ length xs → i < length xs → get_or bits i false ≡ false → those (take (i + 1) bits) (take (i + 1) xs) ≡ those (take i bits) (take i xs)
those_no bits xs i x long low unset =
    let next : i + 1 ≡ suc i = omega arith in
    ap (λ n. those (take n bits) (take n xs)) next ∙ those_next bits xs i x long low ∙ ap (λ (b : Bool). those (take i bits) (take i xs) ++ (if b then get_or xs i x ∷ [] else [])) unset ∙ append-nil (those (take i bits) (take i xs))

-- relations of joined lists, and of the items whose bit is 1
pub zip_join : {X Y : Type 0} (R : X → Y → Type 0) (xs more : List X) (ys after : List Y) → AllZip R xs ys → AllZip R more after → AllZip R (xs ++ more) (ys ++ after)
zip_join R [] more [] after h k = k
zip_join R [] more (y ∷ ys) after h k = absurd h
zip_join R (x ∷ xs) more [] after h k = absurd h
zip_join R (x ∷ xs) more (y ∷ ys) after h k = (h.0, zip_join R xs more ys after h.1 k)

pub zip_those : {X Y Z : Type 0} (S : Z → Y → Type 0) (f : X → Z) (bits : List Bool) (xs : List X) (ys : List Y) → AllZip (λ x y. S (f x) y) xs ys → AllZip S (map f (those bits xs)) (those bits ys)
zip_those S f [] xs ys h = tt
zip_those S f (b ∷ bits) [] [] h = tt
zip_those S f (b ∷ bits) [] (y ∷ ys) h = absurd h
zip_those S f (b ∷ bits) (x ∷ xs) [] h = absurd h
zip_those S f (true ∷ bits) (x ∷ xs) (y ∷ ys) h = (h.0, zip_those S f bits xs ys h.1)
zip_those S f (false ∷ bits) (x ∷ xs) (y ∷ ys) h = zip_those S f bits xs ys h.1

pub zip_map : {X Y Z : Type 0} (R : X → Y → Type 0) (S : Z → Y → Type 0) (f : X → Z) → ((x : X) (y : Y) → R x y → S (f x) y) → (xs : List X) (ys : List Y) → AllZip R xs ys → AllZip S (map f xs) ys
zip_map R S f g [] [] h = tt
zip_map R S f g [] (y ∷ ys) h = absurd h
zip_map R S f g (x ∷ xs) [] h = absurd h
zip_map R S f g (x ∷ xs) (y ∷ ys) h = (g x y h.0, zip_map R S f g xs ys h.1)

pub zip_with_all : {X Y : Type 0} (P : X → Type 0) (R S : X → Y → Type 0) → ((x : X) (y : Y) → P x → R x y → S x y) → (xs : List X) (ys : List Y) → AllByRecursion P xs → AllZip R xs ys → AllZip S xs ys
zip_with_all P R S g [] [] p h = tt
zip_with_all P R S g [] (y ∷ ys) p h = absurd h
zip_with_all P R S g (x ∷ xs) [] p h = absurd h
zip_with_all P R S g (x ∷ xs) (y ∷ ys) p h = (g x y p.0 h.0, zip_with_all P R S g xs ys p.1 h.1)

-- a flip-flop's d by its q, where q's differ
pub d_found : (flops : List (Flop ℕ)) → Distinct (map (λ f. f.q) flops) → AllByRecursion (λ f. d_of flops f.q ≡ f.d) flops
d_found [] h = tt
d_found (f ∷ flops) h = (here, behind flops h.0 (d_found flops h.1))
  where
    here : (if nat_eq f.q f.q then f.d else d_of flops f.q) ≡ f.d
    here = let same : nat_eq f.q f.q ≡ true = grind (arith, nat_tests) in ap (λ (b : Bool). if b then f.d else d_of flops f.q) same

    behind : (rest : List (Flop ℕ)) → AllByRecursion (λ q. q ≢ f.q) (map (λ f. f.q) rest) → AllByRecursion (λ g. d_of flops g.q ≡ g.d) rest → AllByRecursion (λ (g : Flop ℕ). (if nat_eq f.q g.q then f.d else d_of flops g.q) ≡ g.d) rest
    behind [] apart found = tt
    behind (g ∷ rest) apart found =
        let no : nat_eq f.q g.q ≡ false = not_same f.q g.q apart.0 in
        (ap (λ (b : Bool). if b then f.d else d_of flops g.q) no ∙ found.0, behind rest apart.1 found.1)
      where
        not_same : (m n : ℕ) → n ≢ m → nat_eq m n ≡ false
        not_same m n apart = grind (arith, nat_tests, apart)

distinct_back : (xs ys : List ℕ) → Distinct (xs ++ ys) → Distinct ys
distinct_back [] ys h = h
distinct_back (x ∷ xs) ys h = distinct_back xs ys h.1

-- which flip-flops are self-reading, by the leaves of their lines
pub reading_are : (gates : List (Gate ℕ)) (stop : ℕ → Bool) (flops : List (Flop ℕ)) (lines : List (List ℕ)) → AllZip (λ f leaves. AreLeaves gates stop (AtNet f.d) leaves) flops lines → AllZip (λ f b. (b ≡ true) ↔ IsLeaf gates stop (AtNet f.d) f.q) flops (reading_in flops lines)
reading_are gates stop [] [] h = tt
reading_are gates stop [] (l ∷ lines) h = absurd h
reading_are gates stop (f ∷ flops) [] h = absurd h
reading_are gates stop (f ∷ flops) (l ∷ lines) h =
    ((λ e. (h.0.each f.q).0 (member_true l f.q e), λ leaf. true_member l f.q ((h.0.each f.q).1 leaf)), reading_are gates stop flops lines h.1)

-- these are the cells for the netlist with its cuts
pub cells_are :
    (a : Netlist ℕ) (cuts outputs : List ℕ) (stops reading others : List Bool) (lines cut_lines output_lines : List (List ℕ)) (sources observers : List Cell) (leaves : List (List ℕ)) → IsNetlist a → AreStopsOf a cuts stops
    → outputs ≡ filter (λ net. not (stop_at stops net)) a.outputs → AllZip (λ f leaves. AreLeaves a.gates (stop_at stops) (AtNet f.d) leaves) a.flops lines
    → AllZip (IsLineBehind a (stop_at stops)) cuts cut_lines → AllZip (IsLineBehind a (stop_at stops)) outputs output_lines
    → reading ≡ reading_in a.flops lines → others ≡ map not reading → sources ≡ source_cells a reading
    → observers ≡ map (λ f. bare_cell State f.q) (those others a.flops) ++ (map (λ f. bare_cell Watch f.q) (those reading a.flops) ++ (map (bare_cell Cut) cuts ++ map (bare_cell Output) outputs))
    → leaves ≡ those others lines ++ (those reading lines ++ (cut_lines ++ output_lines)) → AreCells a cuts (record { sources = sources; observers = observers; leaves = leaves })
cells_are a cuts outputs stops reading others lines cut_lines output_lines sources observers leaves is stop_is outputs_are flops_are cuts_are outs_are reading_is others_are sources_are observers_are leaves_are =
    let stop : stop_at stops ≡ is_stop_with a.gates cuts = (λ k net. stop_is net k) in
    let H = HasLeavesWith a cuts in
    let found = d_found a.flops (distinct_back (map (λ (g : Gate ℕ). g.out) a.gates) (map (λ (f : Flop ℕ). f.q) a.flops) (distinct_back a.inputs (map (λ (g : Gate ℕ). g.out) a.gates ++ map (λ (f : Flop ℕ). f.q) a.flops) (driven_distinct a is))) in
    let flop_lines = subst (λ (s : ℕ → Bool). AllZip (λ (f : Flop ℕ) leaves. AreLeaves a.gates s (AtNet f.d) leaves) a.flops lines) stop flops_are in
    let gates_lines = subst (λ (s : ℕ → Bool). AllZip (IsLineBehind a s) cuts cut_lines) stop cuts_are in
    let outs_lines = subst (λ (s : ℕ → Bool). AllZip (IsLineBehind a s) outputs output_lines) stop outs_are in
    let state : AllZip (λ (f : Flop ℕ) leaves. H (bare_cell State f.q) leaves) a.flops lines = zip_with_all (λ (f : Flop ℕ). d_of a.flops f.q ≡ f.d) (λ f leaves. AreLeaves a.gates (is_stop_with a.gates cuts) (AtNet f.d) leaves) (λ f leaves. H (bare_cell State f.q) leaves)
    (λ f leaves d l. record { start = AtNet f.d; begins = ap AtNet (sym d); are = l }) a.flops lines found flop_lines in
    let watch : AllZip (λ (f : Flop ℕ) leaves. H (bare_cell Watch f.q) leaves) a.flops lines = zip_with_all (λ (f : Flop ℕ). d_of a.flops f.q ≡ f.d) (λ f leaves. AreLeaves a.gates (is_stop_with a.gates cuts) (AtNet f.d) leaves) (λ f leaves. H (bare_cell Watch f.q) leaves)
    (λ f leaves d l. record { start = AtNet f.d; begins = ap AtNet (sym d); are = l }) a.flops lines found flop_lines in
    let cut = zip_map (IsLineBehind a (is_stop_with a.gates cuts)) H (bare_cell Cut) (λ net leaves l. record { start = l.start; begins = l.begins; are = l.are }) cuts cut_lines gates_lines in
    let output = zip_map (IsLineBehind a (is_stop_with a.gates cuts)) H (bare_cell Output) (λ net leaves l. record { start = l.start; begins = l.begins; are = l.are }) outputs output_lines outs_lines in
    let all = zip_join H (map (λ (f : Flop ℕ). bare_cell State f.q) (those others a.flops)) _ (those others lines) _ (zip_those H (λ (f : Flop ℕ). bare_cell State f.q) others a.flops lines state)
    (zip_join H (map (λ (f : Flop ℕ). bare_cell Watch f.q) (those reading a.flops)) _ (those reading lines) _ (zip_those H (λ (f : Flop ℕ). bare_cell Watch f.q) reading a.flops lines watch)
    (zip_join H (map (bare_cell Cut) cuts) (map (bare_cell Output) outputs) cut_lines output_lines cut output)) in
    record {
      reading = reading;
      self_reading = subst (λ bs. AllZip (λ (f : Flop ℕ) (b : Bool). (b ≡ true) ↔ IsLeaf a.gates (is_stop_with a.gates cuts) (AtNet f.d) f.q) a.flops bs) (sym reading_is) (reading_are a.gates (is_stop_with a.gates cuts) a.flops lines flop_lines);
      sources_are = sources_are;
      observers_are = observers_are ∙ (λ k. map (λ (f : Flop ℕ). bare_cell State f.q) (those (others_are k) a.flops) ++ (map (λ (f : Flop ℕ). bare_cell Watch f.q) (those reading a.flops) ++ (map (bare_cell Cut) cuts ++ map (bare_cell Output) ((outputs_are ∙ ap (λ (s : ℕ → Bool). filter (λ net. not (s net)) a.outputs) stop) k))));
      leaves_are = subst (λ ls. AllZip H observers ls) (sym leaves_are) (subst (λ cs. AllZip H cs (those others lines ++ (those reading lines ++ (cut_lines ++ output_lines)))) (sym observers_are) all);
    }
