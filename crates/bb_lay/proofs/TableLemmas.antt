-- Tables by net: what is read of each, and the d of each flip-flop; and the rows that are made by them.
use Rattle.std.proofs.Common.{arith, ◌≡◌, ◌≢◌, ℕ, ◌+◌, ◌<◌, ◌==◌, ◌&&◌, suc, List, [], ◌∷◌, ◌++◌, length, map, drop, All, Bool, true, false, Some, slice_get, slice_index, slice_index_or, if◌then◌else◌, refl, sym, ap, ◌∙◌, get_or-set_other, get_or-set_same}
use Rattle.std.proofs.lemmas.Bool.Decides.{nat_tests}
use Rattle.std.proofs.lemmas.Option.{slice_get_within, slice_get-get_or, get_or_from_slice_get, same_Some}
use Rattle.std.proofs.lemmas.List.Elements.{All-from_recursion}
use Rattle.std.proofs.Math.ListN.{set, length-set}
use Rattle.std.specs.List.{AllByRecursion, flat_map}
use Rattle.bb_base.proofs.Contained.{by_place, at_place}
use Rattle.bb_base.proofs.Lists.{all_front, all_back, all_parts, same_map_at}
use Rattle.bb_base.specs.Net.{Flop, Gate, Netlist, IsNetlist, driven}
use Rattle.bb_terms.specs.declared.plan.Cell.{Cell}
use Rattle.bb_terms.specs.declared.kind.Kind.{Kind}
use Rattle.bb_terms.specs.declared.kind.Kind.TheVariants.{Input, State, Split, Cut, Watch, Output}
use Rattle.bb_terms.specs.Kinds.{is_behind}
use Rattle.bb_terms.specs.Lines.{d_of}
use Rattle.bb_terms.specs.Plan.{PlanValue, RegisterValue}
use Rattle.bb_terms.specs.declared.wire.Wire.{Wire}
use Rattle.bb_terms.specs.declared.wire.Wire.TheVariants.{Kept, Test, First, Read}
use Rattle.bb_terms.specs.Reads.{q_of, read, read_behind, line_by}
use Rattle.bb_terms.specs.Controller.{word_ahead}
use Rattle.bb_written.specs.Cells.{rows_of_cells, all_cells_from}
use Rattle.bb_net.proofs.Renaming.{OfAllNets, nets_below}
use Rattle.bb_terms.specs.Controller.{gate_row}
use Rattle.bb_written.specs.Written.{written_gate}
use Rattle.bb_lay.specs.Tables.{read_past, d_over, AreTables, line_in, rows_of_cell, rows_in, all_rows_in, read_in_table, row_behind}
use Rattle.bb_lay.proofs.Ascending.{weaker}
use Rattle.bb_lay.proofs.Clocks.{drop_pop}

-- an item of a list in which one was set
set_here : {X : Type 0} (xs : List X) (i : ℕ) (x : X) → i < length xs → slice_get (set xs i x) i ≡ Some x
set_here xs i x less = slice_get-get_or (set xs i x) i x (omega (arith, length-set xs i x, less)) ∙ ap Some (get_or-set_same xs i x x less)

set_there : {X : Type 0} (xs : List X) (i j : ℕ) (x y : X) → j ≢ i → slice_get xs j ≡ Some y → slice_get (set xs i x) j ≡ Some y
set_there xs i j x y apart h =
    let less = slice_get_within xs j y h in
    slice_get-get_or (set xs i x) j x (omega (arith, length-set xs i x, less)) ∙ ap Some (get_or-set_other xs i j x x apart) ∙ sym (slice_get-get_or xs j x less) ∙ h

-- one cell more, which stands behind its net or not
pub behind_step : (before after : List Wire) (cells : List Cell) (j : ℕ) (c : Cell) (net : ℕ) (old : Wire) → slice_get cells j ≡ Some c → is_behind c.kind ≡ true → after ≡ set before c.net (Read j) → c.net < length before
    → slice_get before net ≡ Some (read_past (j + 1) (drop (j + 1) cells) net old) → slice_get after net ≡ Some (read_past j (drop j cells) net old)
behind_step before after cells j c net old at behind e within h =
    let next : j + 1 ≡ suc j = omega arith in
    ap (λ ws. slice_get ws net) e ∙ by (c.net == net) refl ∙ ap (λ b. Some (if b && (c.net == net) then Read j else read_past (suc j) (drop (j + 1) cells) net old)) (sym behind) ∙ ap (λ ks. Some (read_past j ks net old)) (sym (drop_pop cells j c at))
  where
    by : (b : Bool) → (c.net == net) ≡ b → slice_get (set before c.net (Read j)) net ≡ Some (if c.net == net then Read j else read_past (suc j) (drop (j + 1) cells) net old)
    by true t =
        let same : net ≡ c.net = grind (arith, nat_tests, t) in
        ap (slice_get (set before c.net (Read j))) same ∙ set_here before c.net (Read j) within ∙ ap (λ (b : Bool). Some (if b then Read j else read_past (suc j) (drop (j + 1) cells) net old)) (sym t)
    by false t =
        let next : j + 1 ≡ suc j = omega arith in
        let apart : net ≢ c.net = λ same. absurd (grind (arith, nat_tests, t, same)) in
        set_there before c.net net (Read j) (read_past (j + 1) (drop (j + 1) cells) net old) apart h ∙ ap (λ k. Some (read_past k (drop (j + 1) cells) net old)) next
        ∙ ap (λ (b : Bool). Some (if b then Read j else read_past (suc j) (drop (j + 1) cells) net old)) (sym t)

pub other_step : (before : List Wire) (cells : List Cell) (j : ℕ) (c : Cell) (net : ℕ) (old : Wire) → slice_get cells j ≡ Some c → is_behind c.kind ≡ false
    → slice_get before net ≡ Some (read_past (j + 1) (drop (j + 1) cells) net old) → slice_get before net ≡ Some (read_past j (drop j cells) net old)
other_step before cells j c net old at behind h =
    let next : j + 1 ≡ suc j = omega arith in
    h ∙ ap (λ k. Some (read_past k (drop (j + 1) cells) net old)) next ∙ ap (λ b. Some (if b && (c.net == net) then Read j else read_past (suc j) (drop (j + 1) cells) net old)) (sym behind)
    ∙ ap (λ ks. Some (read_past j ks net old)) (sym (drop_pop cells j c at))

-- one flip-flop more
pub flop_step : (before after : List ℕ) (flops : List (Flop ℕ)) (j : ℕ) (f : Flop ℕ) (net old : ℕ) → slice_get flops j ≡ Some f → after ≡ set before f.q f.d → f.q < length before
    → slice_get before net ≡ Some (d_over (drop (j + 1) flops) net old) → slice_get after net ≡ Some (d_over (drop j flops) net old)
flop_step before after flops j f net old at e within h = ap (λ ns. slice_get ns net) e ∙ by (f.q == net) refl ∙ ap (λ ks. Some (d_over ks net old)) (sym (drop_pop flops j f at))
  where
    by : (b : Bool) → (f.q == net) ≡ b → slice_get (set before f.q f.d) net ≡ Some (if f.q == net then f.d else d_over (drop (j + 1) flops) net old)
    by true t =
        let same : net ≡ f.q = grind (arith, nat_tests, t) in
        ap (slice_get (set before f.q f.d)) same ∙ set_here before f.q f.d within ∙ ap (λ (b : Bool). Some (if b then f.d else d_over (drop (j + 1) flops) net old)) (sym t)
    by false t =
        let apart : net ≢ f.q = λ same. absurd (grind (arith, nat_tests, t, same)) in
        set_there before f.q net f.d (d_over (drop (j + 1) flops) net old) apart h ∙ ap (λ (b : Bool). Some (if b then f.d else d_over (drop (j + 1) flops) net old)) (sym t)

-- where nothing was put before
pub read_is : (i : ℕ) (cells : List Cell) (net : ℕ) → read_past i cells net (Kept net) ≡ read_behind i cells net
read_is i [] net = refl
read_is i (c ∷ cells) net = ap (λ (w : Wire). if is_behind c.kind && (c.net == net) then Read i else w) (read_is (suc i) cells net)

pub d_is : (flops : List (Flop ℕ)) (net : ℕ) → d_over flops net net ≡ d_of flops net
d_is [] net = refl
d_is (f ∷ flops) net = ap (λ n. if f.q == net then f.d else n) (d_is flops net)

-- lines by the tables
module _ (a : Netlist ℕ) (p : PlanValue) (rs : List Wire) (ds : List ℕ) (t : AreTables a p rs ds) where
  behind_d : (net : ℕ) → net < length (driven a) → slice_index_or rs (slice_index ds net) Test ≡ read p (d_of a.flops net)
  behind_d net less =
      ap (λ d. slice_index_or rs d Test) (get_or_from_slice_get ds net (d_of a.flops net) 0 (t.ds_are net less))
      ∙ get_or_from_slice_get rs (d_of a.flops net) (read p (d_of a.flops net)) Test (t.reads_are (d_of a.flops net) (t.inside net less))

  line_is : (k : Kind) (net : ℕ) → net < length (driven a) → line_in rs ds k net ≡ line_by k a p net
  line_is State net less = behind_d net less
  line_is Split net less = behind_d net less
  line_is Watch net less = behind_d net less
  line_is Cut net less = refl
  line_is Output net less = refl
  line_is Input net less = refl

  pub ds_below : All (λ d. d < length rs) ds
  ds_below = All-from_recursion (λ d. d < length rs) ds
      (by_place (λ d. d < length rs) ds (λ k d at.
      let less : k < length (driven a) = omega (arith, slice_get_within ds k d at, t.ds_long) in
      let same : d ≡ d_of a.flops k = same_Some d (d_of a.flops k) (sym at ∙ t.ds_are k less) in
      omega (arith, same, t.inside k less, t.reads_long)))

  cells_are : (r i : ℕ) (before : Wire) (cells : List Cell) → AllByRecursion (λ (c : Cell). c.net < length (driven a)) cells → rows_in rs ds (word_ahead p) r i before cells ≡ rows_of_cells a p r i before cells
  cells_are r i before [] h = refl
  cells_are r i before (c ∷ cells) h =
      let rest = cells_are r (suc i) (q_of i c) cells h.1 in
      λ j. rows_of_cell (word_ahead p) r i before (line_is c.kind c.net h.0 j) c ++ rest j

  pub all_are : (r i : ℕ) (gs : List RegisterValue) → AllByRecursion (λ (c : Cell). c.net < length (driven a)) (flat_map (λ g. g.cells) gs) → all_rows_in rs ds (word_ahead p) r i gs ≡ all_cells_from a p r i gs
  all_are r i [] h = refl
  all_are r i (g ∷ gs) h =
      let own = cells_are r i (First r) g.cells (all_front (λ (c : Cell). c.net < length (driven a)) g.cells (flat_map (λ k. k.cells) gs) h) in
      let rest = all_are (suc r) (i + length g.cells) gs (all_back (λ (c : Cell). c.net < length (driven a)) g.cells (flat_map (λ k. k.cells) gs) h) in
      λ j. own j ++ rest j

-- the cells of a register stand where all do
pub register_inside : (P : Cell → Type 0) (gs : List RegisterValue) (r : ℕ) (g : RegisterValue) → slice_get gs r ≡ Some g → AllByRecursion P (flat_map (λ k. k.cells) gs) → AllByRecursion P g.cells
register_inside P gs r g at h = at_place (λ (k : RegisterValue). AllByRecursion P k.cells) gs r g (all_parts P (λ (k : RegisterValue). k.cells) gs h) at

-- the original's gates, by the tables
gates_are : (a : Netlist ℕ) (p : PlanValue) (rs : List Wire) (ds : List ℕ) → AreTables a p rs ds → (gs : List (Gate ℕ)) → AllByRecursion (λ (g : Gate ℕ). (g.out < length (driven a)) × AllByRecursion (λ m. m < length (driven a)) g.ins) gs
    → map (row_behind rs) gs ≡ map (written_gate p) gs
gates_are a p rs ds t [] h = refl
gates_are a p rs ds t (g ∷ gs) h =
    let rest = gates_are a p rs ds t gs h.1 in
    let ins : map (read_in_table rs) g.ins ≡ map (read p) g.ins = same_map_at (read_in_table rs) (read p) (λ m. m < length (driven a)) (λ m less. get_or_from_slice_get rs m (read p m) Test (t.reads_are m less)) g.ins h.0.1 in
    λ i. gate_row g.op (Kept g.out) (ins i) ∷ rest i

pub kept_are : (a : Netlist ℕ) (p : PlanValue) (rs : List Wire) (ds : List ℕ) → AreTables a p rs ds → IsNetlist a → map (row_behind rs) a.gates ≡ map (written_gate p) a.gates
kept_are a p rs ds t is = let below : OfAllNets (λ m. m < length (driven a)) a = nets_below a is in gates_are a p rs ds t a.gates below.gates

-- what a gate of the original reads has an entry
pub ins_inside : (a : Netlist ℕ) (n : ℕ) → IsNetlist a → n ≡ length (driven a) → All (λ (g : Gate ℕ). All (λ net. net < n) g.ins) a.gates
ins_inside a n is long =
    let below : OfAllNets (λ m. m < length (driven a)) a = nets_below a is in
    All-from_recursion (λ (g : Gate ℕ). All (λ net. net < n) g.ins) a.gates
    (weaker (λ (g : Gate ℕ). (g.out < length (driven a)) × AllByRecursion (λ m. m < length (driven a)) g.ins) (λ g. All (λ net. net < n) g.ins)
    (λ g h. All-from_recursion (λ net. net < n) g.ins (weaker (λ m. m < length (driven a)) (λ net. net < n) (λ m less. omega (arith, less, long)) g.ins h.1)) a.gates below.gates)
